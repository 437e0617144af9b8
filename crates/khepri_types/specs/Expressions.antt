-- What an expression comes to, row by row of the table of expressions.
use Rattle.std.specs.Prelude.{ℕ, Bool, not, ◌&&◌, ◌||◌, ltb, nat_le, if◌then◌else◌, List, [], ◌∷◌, ◌++◌, length, take, Option, Some, None, ℤ, pos, ◌+ℤ◌, ◌-ℤ◌}
use Rattle.std.specs.Int.{saturate_signed, w64}
use Rattle.khepri_terms.specs.Terms.{NameText}
use Rattle.khepri_terms.specs.declared.name.Kind.TheVariants as kinds
use Rattle.khepri_terms.specs.declared.limits.TheConstants.{MAX_NAME}
use Rattle.khepri_terms.specs.declared.limits.TheConstants.{MAX_PATH_TEXT}
use Rattle.khepri_terms.specs.declared.rec.Field.{Field}
use Rattle.khepri_terms.specs.declared.scalar.Scalar.{Scalar}
use Rattle.khepri_terms.specs.declared.scalar.Scalar.TheVariants as scalars
use Rattle.khepri_terms.specs.Order.{scalar_cmp}
use Rattle.khepri_terms.specs.Paths.{path_text}
use Rattle.khepri_terms.specs.Records.{field_of, with_field, is_small}
use Rattle.khepri_types.specs.declared.condition.Condition.{Condition}
use Rattle.khepri_types.specs.declared.node.Payload.{Payload}
use Rattle.khepri_types.specs.declared.node.Payload.TheVariants as payload
use Rattle.khepri_types.specs.Compares.{compares}
use Rattle.khepri_types.specs.Conditions.{Seen, seen_at, holds_at, last_name}
use Rattle.khepri_types.specs.Tree.{Tree}
use Rattle.khepri_types.specs.Watching.{is_deep}
use Rattle.khepri_types.specs.declared.limits.TheConstants.{MAX_CAT_TEXT}
use Rattle.khepri_types.specs.declared.register.Registers.{Registers}
use Rattle.khepri_types.specs.declared.script.Expr.{Expr}
use Rattle.khepri_types.specs.declared.script.Expr.TheFolds.{fold-Expr}
use Rattle.khepri_types.specs.declared.script.Expr.TheOpen.{Expr-F}
use Rattle.khepri_types.specs.declared.value.Operand.{Operand}
use Rattle.khepri_types.specs.declared.value.Operand.TheVariants.{Int, Text, Path, Rec, Bool as Truth}
use Rattle.khepri_types.specs.declared.value.Refusal.{Refusal}
use Rattle.khepri_types.specs.declared.value.Refusal.TheVariants.{Deep, Full, Name}
use Rattle.khepri_types.specs.Registers.{read}
use Rattle.khepri_types.specs.Values.{number, bytes, path, fields, truth, scalar}

-- ---- how parts are joined

-- what an expression comes to: a value, or a refusal that ends the script; only `child` and `with` refuse
pub data Evaluation : Type 0 where
  Is : (value : Operand) → Evaluation
  Refuses : (why : Refusal) → Evaluation

-- a form of one part, where the part comes to a value
abbrev pub one : Evaluation → (Operand → Evaluation) → Evaluation
one (Is v) form = form v
one (Refuses why) form = Refuses why

-- a form of two parts: both are evaluated, from the left, and the first that is refused ends the script
abbrev pub two : Evaluation → Evaluation → (Operand → Operand → Evaluation) → Evaluation
two a b form = one a (λ x. one b (form x))

-- ---- what the forms give

-- an Int, cut off at the ends of i64
abbrev pub cut : ℤ → Operand
cut z = Int (saturate_signed w64 z)

-- a field where it is an Int, else another
abbrev pub int_or : ℤ → Option Scalar → ℤ
int_or z (Some (scalars.Int y)) = y
int_or z (Some (scalars.Text b)) = z
int_or z None = z

-- a field where it is a Text, else other bytes
abbrev pub text_or : List ℕ → Option Scalar → List ℕ
text_or b (Some (scalars.Int y)) = b
text_or b (Some (scalars.Text c)) = c
text_or b None = b

abbrev pub payload_fields : Payload → List Field
payload_fields payload.Empty = []
payload_fields (payload.Fields f) = f
payload_fields (payload.Proc s) = []

-- the fields of a node, `{}` where none stands or its payload is no fields
abbrev pub fields_seen : Option Seen → List Field
fields_seen None = []
fields_seen (Some s) = payload_fields s.payload

-- a number of a node, 0 where none stands
abbrev pub number_seen : (Seen → ℕ) → Option Seen → ℕ
number_seen of None = 0
number_seen of (Some s) = of s

-- the bytes of the last name, none for the root
abbrev pub name_bytes : Option NameText → List ℕ
name_bytes None = []
name_bytes (Some n) = n.bytes

-- the bytes of a name: 1 to 255
abbrev pub is_name : List ℕ → Bool
is_name b = nat_le 1 (length b) && nat_le (length b) MAX_NAME

-- too many names for a path of a node, or too long a text for any path
abbrev pub is_long : List NameText → Bool
is_long p = is_deep p || ltb MAX_PATH_TEXT (length (path_text p))

-- a path that `child` makes
abbrev pub within : List NameText → Evaluation
within p = if is_long p then Refuses Deep else Is (Path p)

-- a path with a Text name added
abbrev pub child : List NameText → List ℕ → Evaluation
child p b = if is_name b then within (p ++ record { kind = kinds.Text; bytes = b } ∷ []) else Refuses Name

-- a record that `with` makes
abbrev pub small : List Field → Evaluation
small f = if is_small f then Is (Rec f) else Refuses Full

-- whether a condition holds at a path of the tree
unfoldable pub tested : Condition → Tree → List NameText → Bool
tested c T p = holds_at c T p

-- ---- the table

-- one layer of an expression, by what its parts came to, with these registers on this tree
abbrev pub layer_value : Registers → Tree → Expr-F Evaluation → Evaluation
layer_value R T (Expr-F.Int z) = Is (Int z)
layer_value R T (Expr-F.Text b) = Is (Text b)
layer_value R T (Expr-F.Path p) = Is (Path p)
layer_value R T (Expr-F.Rec f) = Is (Rec f)
layer_value R T (Expr-F.Register reg) = Is (read reg R)
layer_value R T (Expr-F.Add a b) = two a b (λ x y. Is (cut (number x +ℤ number y)))
layer_value R T (Expr-F.Sub a b) = two a b (λ x y. Is (cut (number x -ℤ number y)))
layer_value R T (Expr-F.Cat a b) = two a b (λ x y. Is (Text (take MAX_CAT_TEXT (bytes x ++ bytes y))))
layer_value R T (Expr-F.IntField a key z) = one a (λ d. Is (Int (int_or z (field_of key.bytes (fields d)))))
layer_value R T (Expr-F.TextField a key b) = one a (λ d. Is (Text (text_or b (field_of key.bytes (fields d)))))
layer_value R T (Expr-F.Data a) = one a (λ p. Is (Rec (fields_seen (seen_at T (path p)))))
layer_value R T (Expr-F.Pv a) = one a (λ p. Is (cut (pos (number_seen (λ s. s.pv) (seen_at T (path p))))))
layer_value R T (Expr-F.Cv a) = one a (λ p. Is (cut (pos (number_seen (λ s. s.cv) (seen_at T (path p))))))
layer_value R T (Expr-F.Kids a) = one a (λ p. Is (cut (pos (number_seen (λ s. s.kids) (seen_at T (path p))))))
layer_value R T (Expr-F.Last a) = one a (λ p. Is (Text (name_bytes (last_name (path p)))))
layer_value R T (Expr-F.Child a b) = two a b (λ p t. child (path p) (bytes t))
layer_value R T (Expr-F.With a key b) = two a b (λ d x. small (with_field (record { key = key.bytes; value = scalar x }) (fields d)))
layer_value R T (Expr-F.Compare op a b) = two a b (λ x y. Is (Truth (compares op (scalar_cmp (scalar x) (scalar y)))))
layer_value R T (Expr-F.Test a c) = one a (λ p. Is (Truth (tested c T (path p))))
layer_value R T (Expr-F.Not a) = one a (λ x. Is (Truth (not (truth x))))
layer_value R T (Expr-F.All a b) = two a b (λ x y. Is (Truth (truth x && truth y)))
layer_value R T (Expr-F.Any a b) = two a b (λ x y. Is (Truth (truth x || truth y)))

-- what an expression comes to with these registers on this tree
abbrev pub value_of : Expr → Registers → Tree → Evaluation
value_of e R T = fold-Expr Evaluation (layer_value R T) e
