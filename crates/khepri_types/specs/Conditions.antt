-- When a condition holds.
use Rattle.std.specs.Prelude.{ℕ, Bool, true, false, not, ◌&&◌, ◌||◌, List, [], ◌∷◌, Option, Some, None}
use Rattle.std.specs.Ordering.{nat_cmp}
use Rattle.std.specs.FinMap.{get}
use Rattle.khepri_terms.specs.Terms.{NameText}
use Rattle.khepri_terms.specs.declared.scalar.Scalar.{Scalar}
use Rattle.khepri_terms.specs.Order.{scalar_cmp, rec_eq}
use Rattle.khepri_terms.specs.Records.{field_of}
use Rattle.khepri_terms.specs.declared.rec.Field.{Field}
use Rattle.khepri_types.specs.declared.compare.Compare.{Compare}
use Rattle.khepri_types.specs.declared.node.Node.{Node}
use Rattle.khepri_types.specs.declared.node.Payload.{Payload}
use Rattle.khepri_types.specs.declared.node.Payload.TheVariants.{Empty, Fields, Proc}
use Rattle.khepri_types.specs.declared.condition.Condition.{Condition}
use Rattle.khepri_types.specs.declared.condition.Condition.TheFolds.{fold-Condition}
use Rattle.khepri_types.specs.declared.condition.Condition.TheOpen.{Condition-F}
use Rattle.khepri_types.specs.Compares.{compares}
use Rattle.khepri_types.specs.Globs.{fits_name}
use Rattle.khepri_types.specs.declared.glob.Glob.{Glob}
use Rattle.khepri_types.specs.Sizes.{kids}
use Rattle.khepri_types.specs.Tree.{Tree}

-- what a condition sees of a standing node: the last name of its path, none at the root, and what the node has
pub record Seen : Type 0 where
  pub name : Option NameText
  pub payload : Payload
  pub pv : ℕ
  pub cv : ℕ
  pub kids : ℕ

-- true of standing nodes alone, where the test is
abbrev pub standing : (Seen → Bool) → Option Seen → Bool
standing test None = false
standing test (Some s) = test s

-- no node stands
abbrev pub is_absent : Option Seen → Bool
is_absent None = true
is_absent (Some s) = false

abbrev pub is_payload : Payload → Bool
is_payload Empty = false
is_payload (Fields r) = true
is_payload (Proc s) = true

abbrev pub is_data : Payload → Bool
is_data Empty = false
is_data (Fields r) = true
is_data (Proc s) = false

abbrev pub is_script : Payload → Bool
is_script Empty = false
is_script (Fields r) = false
is_script (Proc s) = true

-- the name of a node fits; the root has no name
abbrev pub is_named : Glob → Option NameText → Bool
is_named g None = false
is_named g (Some n) = fits_name g n

-- fields equal to these
abbrev pub is_equal : List Field → Payload → Bool
is_equal r Empty = false
is_equal r (Fields s) = rec_eq r s
is_equal r (Proc s) = false

-- a field that is there compares so to the scalar
abbrev pub compares_field : Compare → Scalar → Option Scalar → Bool
compares_field op x None = false
compares_field op x (Some y) = compares op (scalar_cmp y x)

-- the payload has the field, and it compares so
abbrev pub has_field : List ℕ → Compare → Scalar → Payload → Bool
has_field key op x Empty = false
has_field key op x (Fields r) = compares_field op x (field_of key r)
has_field key op x (Proc s) = false

-- the number compares so to the other
abbrev pub compares_number : Compare → ℕ → ℕ → Bool
compares_number op n m = compares op (nat_cmp m n)

abbrev pub all_true : List Bool → Bool
all_true [] = true
all_true (b ∷ bs) = b && all_true bs

abbrev pub any_true : List Bool → Bool
any_true [] = false
any_true (b ∷ bs) = b || any_true bs

-- one layer of a condition, by the truth of its parts
abbrev pub layer_holds : Option Seen → Condition-F Bool → Bool
layer_holds seen Condition-F.Absent = is_absent seen
layer_holds seen Condition-F.Exists = standing (λ s. true) seen
layer_holds seen Condition-F.Payload = standing (λ s. is_payload s.payload) seen
layer_holds seen Condition-F.Data = standing (λ s. is_data s.payload) seen
layer_holds seen Condition-F.Sproc = standing (λ s. is_script s.payload) seen
layer_holds seen (Condition-F.Name g) = standing (λ s. is_named g s.name) seen
layer_holds seen (Condition-F.Is r) = standing (λ s. is_equal r s.payload) seen
layer_holds seen (Condition-F.Field key op x) = standing (λ s. has_field key.bytes op x s.payload) seen
layer_holds seen (Condition-F.Pv op n) = standing (λ s. compares_number op n s.pv) seen
layer_holds seen (Condition-F.Cv op n) = standing (λ s. compares_number op n s.cv) seen
layer_holds seen (Condition-F.Kids op n) = standing (λ s. compares_number op n s.kids) seen
layer_holds seen (Condition-F.Not b) = not b
layer_holds seen (Condition-F.All bs) = all_true bs
layer_holds seen (Condition-F.Any bs) = any_true bs

-- whether a condition holds of what is seen at a path
abbrev pub holds : Condition → Option Seen → Bool
holds c seen = fold-Condition Bool (layer_holds seen) c

-- the last name of a path
abbrev pub last_name : List NameText → Option NameText
last_name [] = None
last_name (n ∷ []) = Some n
last_name (n ∷ m ∷ p) = last_name (m ∷ p)

abbrev pub seen_node : Tree → List NameText → Option Node → Option Seen
seen_node T q None = None
seen_node T q (Some n) = Some (record { name = last_name q; payload = n.payload; pv = n.pv; cv = n.cv; kids = kids T q })

-- what is seen at a path of a tree
unfoldable pub seen_at : Tree → List NameText → Option Seen
seen_at T q = seen_node T q (get T q)

-- whether a condition holds at a path of a tree
abbrev pub holds_at : Condition → Tree → List NameText → Bool
holds_at c T q = holds c (seen_at T q)
