-- Reading and setting registers.
use Rattle.std.specs.Prelude.{ℕ, zero, suc, List, [], ◌∷◌, Option, Some, None, slice_get, pos}
use Rattle.khepri_terms.specs.Terms.{NameText}
use Rattle.khepri_terms.specs.declared.rec.Field.{Field}
use Rattle.khepri_types.specs.declared.register.Register.{Register}
use Rattle.khepri_types.specs.declared.register.Register.TheVariants as register
use Rattle.khepri_types.specs.declared.register.Registers.{Registers}
use Rattle.khepri_types.specs.declared.value.Operand.{Operand}
use Rattle.khepri_types.specs.declared.value.Operand.TheVariants.{Int, Text, Path, Rec}
use Rattle.khepri_types.specs.Values.{number, bytes, path, fields}

-- the item at this place, and the opening value where there is no such place
abbrev pub item_or : {X : Type 0} → X → Option X → X
item_or opening None = opening
item_or opening (Some x) = x

-- the list with x at this place, where it has that place
abbrev pub set_at : {X : Type 0} → ℕ → X → List X → List X
set_at n x [] = []
set_at zero x (y ∷ ys) = x ∷ ys
set_at (suc n) x (y ∷ ys) = y ∷ set_at n x ys

-- what a register holds
abbrev pub read : Register → Registers → Operand
read (register.Int n) r = Int (item_or (pos 0) (slice_get r.ints n))
read (register.Text n) r = Text (item_or [] (slice_get r.texts n))
read (register.Path n) r = Path (item_or [] (slice_get r.paths n))
read (register.Rec n) r = Rec (item_or [] (slice_get r.recs n))

-- a register takes a value
abbrev pub assign : Register → Operand → Registers → Registers
assign (register.Int n) v r = record r { ints = set_at n (number v) r.ints }
assign (register.Text n) v r = record r { texts = set_at n (bytes v) r.texts }
assign (register.Path n) v r = record r { paths = set_at n (path v) r.paths }
assign (register.Rec n) v r = record r { recs = set_at n (fields v) r.recs }

-- the registers at the beginning: d0 has the arguments, p0 the event's path, and the others 0, the empty text, the root and `{}`
abbrev pub opening : List Field → List NameText → Registers
opening args at = record {
  ints = pos 0 ∷ pos 0 ∷ pos 0 ∷ pos 0 ∷ pos 0 ∷ pos 0 ∷ pos 0 ∷ pos 0 ∷ [];
  texts = [] ∷ [] ∷ [] ∷ [] ∷ [] ∷ [] ∷ [] ∷ [] ∷ [];
  paths = at ∷ [] ∷ [] ∷ [] ∷ [] ∷ [] ∷ [] ∷ [] ∷ [];
  recs = args ∷ [] ∷ [] ∷ [] ∷ [] ∷ [] ∷ [] ∷ [] ∷ [];
}
