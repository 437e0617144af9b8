-- A nested node that stands at a path of a tree.
use Rattle.std.specs.Prelude.{◌≡◌, List, ◌++◌, Option, Some, None}
use Rattle.std.specs.FinMap.{find, get}
use Rattle.khepri_terms.specs.Order.{path_cmp}
use Rattle.khepri_terms.specs.Terms.{NameText}
use Rattle.khepri_types.specs.declared.node.Node.{Node}
use Rattle.khepri_types.specs.Sizes.{kids}
use Rattle.khepri_types.specs.Tree.{Tree}
use Rattle.nested_nodes.specs.Nests.{children}

-- these are the rows at p and below it; where there are none, no node stands at p
abbrev pub IsKept : Tree → List NameText → Option (List (List NameText × Node)) → Type 0
IsKept T p None = get T p ≡ None
IsKept T p (Some rs) = ((q : List NameText) → find path_cmp q rs ≡ get T (p ++ q)) × ((q : List NameText) → children rs q ≡ kids T (p ++ q))
