-- A tree with changes over it, and what a draft shows.
use Rattle.std.specs.Prelude.{◌≡◌, ◌≤◌, Bool, false, IsTrue, List, [], ◌∷◌, ◌++◌, Option, Some, None, length}
use Rattle.std.specs.List.{list_any}
use Rattle.std.specs.List.Sorted.{IsStrictlySortedBy}
use Rattle.std.specs.Ordering.{is_eq}
use Rattle.std.specs.FinMap.{get, insert, remove}
use Rattle.khepri_terms.specs.Terms.{NameText}
use Rattle.khepri_terms.specs.Order.{path_cmp}
use Rattle.khepri_types.specs.declared.limits.TheConstants.{MAX_PATH_NAMES}
use Rattle.khepri_types.specs.declared.node.Node.{Node}
use Rattle.khepri_types.specs.Tree.{Tree, stands}

-- one change: this node at the path, or none
abbrev pub changed_at : Tree → List NameText → Option Node → Tree
changed_at T p None = remove T p
changed_at T p (Some n) = insert T p n

-- the tree with all changes
abbrev pub over : Tree → List (List NameText × Option Node) → Tree
over T [] = T
over T (e ∷ cs) = changed_at (over T cs) e.0 e.1

-- the tree under a draft, the draft's own tree, and the paths that were touched, in order
pub record Drafted : Type 0 where
  pub base : Tree
  pub tree : Tree
  pub touched : List (List NameText)

-- whether q is one of the touched paths
abbrev pub is_touched : List (List NameText) → List NameText → Bool
is_touched touched q = list_any (λ p. is_eq (path_cmp q p)) touched

abbrev pub IsTouched : List (List NameText) → List NameText → Type 0
IsTouched touched q = IsTrue (is_touched touched q)

-- the touched paths rise strictly
abbrev pub IsRising : List (List NameText) → Type 0
IsRising touched = IsStrictlySortedBy path_cmp touched

-- what was touched stays so
abbrev pub StaysTouched : List (List NameText) → List (List NameText) → Type 0
StaysTouched old new = (q : List NameText) → IsTouched old q → IsTouched new q

-- each path at which T and U differ is touched
abbrev pub IsCovered : Tree → Tree → List (List NameText) → Type 0
IsCovered T U touched = (q : List NameText) → is_touched touched q ≡ false → get T q ≡ get U q

-- those paths are touched that were, and those at which T and U differ
pub record Touches (T U : Tree) (old new : List (List NameText)) : Type 0 where
  pub stays : StaysTouched old new
  pub covers : IsCovered T U new
  pub only : (q : List NameText) → is_touched old q ≡ false → IsTouched new q → get T q ≡ get U q → ⊥

-- a child of p of this name stands
abbrev pub HasChild : Tree → List NameText → NameText → Type 0
HasChild T p n = IsTrue (stands T (p ++ n ∷ []))

-- no node stands deeper than the path of a node may be
abbrev pub IsShallow : Tree → Type 0
IsShallow T = (q : List NameText) → IsTrue (stands T q) → length q ≤ MAX_PATH_NAMES
