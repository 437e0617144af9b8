-- Which nodes change where a payload is set, and where paths are dropped.
use Rattle.std.specs.Prelude.{◌≡◌, ℕ, ◌+◌, ◌<◌, ◌≤◌, ◌==◌, not, Bool, false, ◌&&◌, ◌||◌, if◌then◌else◌, List, length, take, Option, None, Some}
use Rattle.std.specs.List.{list_any}
use Rattle.std.specs.Ordering.{is_eq}
use Rattle.std.specs.FinMap.{get}
use Rattle.khepri_terms.specs.Terms.{NameText}
use Rattle.khepri_terms.specs.Order.{path_cmp}
use Rattle.khepri_types.specs.declared.node.Node.{Node}
use Rattle.khepri_types.specs.Paths.{is_child}
use Rattle.khepri_types.specs.Tree.{Tree, raised, raised_children, stands}
use Rattle.tree_overlay.specs.Over.{is_touched, IsTouched, StaysTouched}

-- a child that comes or goes changes the node: its child-list version does not stand at the end of its type
abbrev pub rises : Node → Bool
rises n = not (raised n.cv == n.cv)

-- a node stands there, and a child that comes or goes changes it
abbrev pub rises_at : Option Node → Bool
rises_at None = false
rises_at (Some n) = rises n

-- where b, the path p is touched beside those that were
abbrev pub Adds : Bool → List NameText → List (List NameText) → List (List NameText) → Type 0
Adds b p old new = (q : List NameText) → is_touched new q ≡ ((b && is_eq (path_cmp p q)) || is_touched old q)

-- beside those that were, the fronts of p that have more than i and at most j names are touched
pub record NotesWay (p : List NameText) (i j : ℕ) (old new : List (List NameText)) : Type 0 where
  pub stays : StaysTouched old new
  pub noted : (k : ℕ) → i < k → k ≤ j → IsTouched new (take k p)
  pub only : (q : List NameText) → is_touched old q ≡ false → IsTouched new q → (k : ℕ) × (i < k) × (k ≤ j) × (q ≡ take k p)

-- one of the paths stands and is a child of q
abbrev pub is_parent : Tree → List (List NameText) → List NameText → Bool
is_parent T paths q = list_any (λ p. is_child q p && stands T p) paths

-- a node that lost a child, where b
abbrev pub lost_if : Bool → Node → Node
lost_if b n = if b then raised_children n else n
