-- A walk over the nodes of a tree, in order of path.
use Rattle.std.specs.Prelude.{Bool, true, false, IsTrue, List, [], Option, Some, None}
use Rattle.khepri_terms.specs.Terms.{NameText}
use Rattle.khepri_terms.specs.Order.{path_cmp}
use Rattle.khepri_types.specs.Tree.{Tree, stands}
use Rattle.nested_nodes.specs.Next.{IsNext}

-- the tree, and the path of the node that the walk has come to: none before the first
pub record Walked : Type 0 where
  pub tree : Tree
  pub last : Option (List NameText)

-- where the walk has begun it has come to this path
abbrev pub come_to : Bool → List NameText → Option (List NameText)
come_to false p = None
come_to true p = Some p

-- the path itself, and the root where there is none
abbrev pub path_or_root : Option (List NameText) → List NameText
path_or_root None = []
path_or_root (Some p) = p

-- a node comes after the other path, and this is the least path of one
abbrev pub GoesOn : Tree → Option (List NameText) → Option (List NameText) → Type 0
GoesOn T after None = ⊥
GoesOn T after (Some p) = IsNext path_cmp (λ q. IsTrue (stands T q)) after (Some p)

-- no node comes after the path
abbrev pub Ends : Tree → Option (List NameText) → Type 0
Ends T after = IsNext path_cmp (λ q. IsTrue (stands T q)) after None
