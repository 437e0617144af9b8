-- What a value is to the form that takes it. In a well-typed script each form is given a value of the type that it takes; to any
-- other value these definitions give the opening value of a register of that type, which no well-typed script ever meets.
use Rattle.std.specs.Prelude.{ℕ, Bool, false, List, [], ℤ, pos}
use Rattle.khepri_terms.specs.Terms.{NameText}
use Rattle.khepri_terms.specs.declared.rec.Field.{Field}
use Rattle.khepri_terms.specs.declared.scalar.Scalar.{Scalar}
use Rattle.khepri_terms.specs.declared.scalar.Scalar.TheVariants as scalars
use Rattle.khepri_types.specs.declared.value.Operand.{Operand}
use Rattle.khepri_types.specs.declared.value.Operand.TheVariants.{Int, Text, Path, Rec, Bool as Truth}
use Rattle.khepri_types.specs.declared.value.Value.{Value}
use Rattle.khepri_types.specs.declared.value.Value.TheVariants as values

-- as an Int
unfoldable pub number : Operand → ℤ
number (Int z) = z
number _ = pos 0

-- as a Text
unfoldable pub bytes : Operand → List ℕ
bytes (Text b) = b
bytes _ = []

-- as a Path
unfoldable pub path : Operand → List NameText
path (Path p) = p
path _ = []

-- as a Rec
unfoldable pub fields : Operand → List Field
fields (Rec f) = f
fields _ = []

-- as a Bool
unfoldable pub truth : Operand → Bool
truth (Truth b) = b
truth _ = false

-- as an Int or a Text
unfoldable pub scalar : Operand → Scalar
scalar (Int z) = scalars.Int z
scalar (Text b) = scalars.Text b
scalar _ = scalars.Int (pos 0)

-- as a value that is emitted
unfoldable pub emitted : Operand → Value
emitted (Int z) = values.Int z
emitted (Text b) = values.Text b
emitted (Path p) = values.Path p
emitted (Rec f) = values.Rec f
emitted (Truth b) = values.Int (pos 0)
