-- What comes next in an order.
use Rattle.std.specs.Prelude.{◌≡◌, List, ◌∷◌, IsTrue, Option, Some}
use Rattle.std.specs.List.{filter}
use Rattle.std.specs.FinMap.{get, entries}
use Rattle.khepri_terms.specs.Terms.{NameText}
use Rattle.khepri_terms.specs.Order.{path_cmp}
use Rattle.khepri_types.specs.declared.node.Node.{Node}
use Rattle.khepri_types.specs.Paths.{is_child, is_front}
use Rattle.khepri_types.specs.Tree.{Tree, IsTree, stands}
pub use Rattle.nested_nodes.specs.Next.{follows, IsNext}
pub use Rattle.tree_overlay.specs.Over.{HasChild}
pub use Rattle.tree_walks.specs.Under.{IsUnder}
pub use Rattle.tree_walks.specs.Walks.{Walked, path_or_root, GoesOn, Ends}

-- the nodes that come after this path, and all of them after none
abbrev pub ahead : Tree → Option (List NameText) → List (List NameText × Node)
ahead T after = filter (λ e. follows path_cmp after e.0) (entries T)

-- x is the least path of a node that comes after
abbrev pub IsNextNode : Tree → Option (List NameText) → Option (List NameText) → Type 0
IsNextNode T after x = IsNext path_cmp (λ q. IsTrue (stands T q)) after x

-- the node at the path is the first of those ahead
abbrev pub ComesNext : Tree → Option (List NameText) → List NameText → Type 0
ComesNext T after p = (n : Node) × (get T p ≡ Some n) × (ahead T after ≡ (p, n) ∷ ahead T (Some p))

-- the parent of the node that comes next after a is a front of a
abbrev pub GoesOnFromParent : Tree → List NameText → List NameText → List NameText → Type 0
GoesOnFromParent T a x p = IsNextNode T (Some a) (Some x) → IsTrue (is_child p x) → IsTrue (is_front p a)
