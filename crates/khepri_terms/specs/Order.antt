-- The orders of names, paths and scalars, and when two are the same.
use Rattle.std.specs.Prelude.{ℕ, Bool, false, List, ◌∷◌, ◌++◌, ◌&&◌, nat_eq}
use Rattle.std.specs.Hash as fed
use Rattle.std.specs.Ordering.{nat_cmp, int_cmp, int_eq, on, then_cmp}
use Rattle.std.specs.Cmp.Lexicographic.{slice_cmp, pointwise}
use Rattle.std.specs.declared.cmp.Ordering.{Ordering}
use Rattle.std.specs.declared.cmp.Ordering.TheVariants.{Less, Greater}
use Rattle.khepri_terms.specs.declared.name.Kind.{Kind}
use Rattle.khepri_terms.specs.declared.name.Kind.TheVariants as kinds
use Rattle.khepri_terms.specs.declared.scalar.Scalar.{Scalar}
use Rattle.khepri_terms.specs.declared.scalar.Scalar.TheVariants as scalars
use Rattle.khepri_terms.specs.declared.rec.Field.{Field}
use Rattle.khepri_terms.specs.Terms.{NameText}

-- atoms come before texts
abbrev pub rank : Kind → ℕ
rank kinds.Atom = 0
rank kinds.Text = 1

-- a kind before the bytes
abbrev pub name_key : NameText → List ℕ
name_key n = rank n.kind ∷ n.bytes

-- Atom before Text, then by bytes
abbrev pub name_cmp : NameText → NameText → Ordering
name_cmp = on name_key (slice_cmp nat_cmp)

abbrev pub name_eq : NameText → NameText → Bool
name_eq = on name_key (pointwise nat_eq)

-- what a name feeds to a hash
abbrev pub name_fed : NameText → fed.HashWrites
name_fed n = fed.u8 (rank n.kind) ++ fed.slice fed.u8 n.bytes

-- as lists of names, a front first
abbrev pub path_cmp : List NameText → List NameText → Ordering
path_cmp = slice_cmp name_cmp

abbrev pub path_eq : List NameText → List NameText → Bool
path_eq = pointwise name_eq

-- an Int before a Text, Ints by value and Texts by bytes
abbrev pub scalar_cmp : Scalar → Scalar → Ordering
scalar_cmp (scalars.Int a) (scalars.Int b) = int_cmp a b
scalar_cmp (scalars.Int a) (scalars.Text b) = Less
scalar_cmp (scalars.Text a) (scalars.Int b) = Greater
scalar_cmp (scalars.Text a) (scalars.Text b) = slice_cmp nat_cmp a b

abbrev pub scalar_eq : Scalar → Scalar → Bool
scalar_eq (scalars.Int a) (scalars.Int b) = int_eq a b
scalar_eq (scalars.Int a) (scalars.Text b) = false
scalar_eq (scalars.Text a) (scalars.Int b) = false
scalar_eq (scalars.Text a) (scalars.Text b) = pointwise nat_eq a b

-- what a scalar feeds to a hash
abbrev pub scalar_fed : Scalar → fed.HashWrites
scalar_fed (scalars.Int z) = fed.u8 0 ++ fed.i64 z
scalar_fed (scalars.Text bytes) = fed.u8 1 ++ fed.slice fed.u8 bytes

-- by key, then by value
abbrev pub field_cmp : Field → Field → Ordering
field_cmp = then_cmp (on (λ f. f.key) (slice_cmp nat_cmp)) (on (λ f. f.value) scalar_cmp)

-- what a field feeds to a hash
abbrev pub field_fed : Field → fed.HashWrites
field_fed f = fed.slice fed.u8 f.key ++ scalar_fed f.value

-- as lists of fields, a front first
abbrev pub rec_cmp : List Field → List Field → Ordering
rec_cmp = slice_cmp field_cmp

-- the same key and the same value
abbrev pub field_eq : Field → Field → Bool
field_eq f g = pointwise nat_eq f.key g.key && scalar_eq f.value g.value

-- the same fields
abbrev pub rec_eq : List Field → List Field → Bool
rec_eq = pointwise field_eq
