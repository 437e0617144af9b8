-- A tree from its nodes.
use Rattle.std.specs.Prelude.{List, map}
use Rattle.std.specs.FinMap.{from_sorted}
use Rattle.khepri_terms.specs.Terms.{NameText}
use Rattle.khepri_terms.specs.Order.{path_cmp}
use Rattle.khepri_types.specs.declared.node.Node.{Node}
use Rattle.khepri_types.specs.declared.node.NodePart.{NodePart}
use Rattle.khepri_types.specs.Tree.{Tree}

-- the path of a part, and its node
abbrev pub entry_of : NodePart → List NameText × Node
entry_of n = (n.path, record { payload = n.payload; pv = n.pv; cv = n.cv; watches = n.watches })

-- the tree of these nodes, which stand in order of path
abbrev pub tree_of : List NodePart → Tree
tree_of nodes = from_sorted {R = path_cmp} (map entry_of nodes)
