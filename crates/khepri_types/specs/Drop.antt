-- What dropping paths does to a tree.
use Rattle.std.specs.Prelude.{Bool, not, ◌&&◌, if◌then◌else◌, List, map}
use Rattle.std.specs.List.{list_any, filter}
use Rattle.std.specs.FinMap.{entries, from_sorted}
use Rattle.khepri_terms.specs.Terms.{NameText}
use Rattle.khepri_types.specs.declared.node.Node.{Node}
use Rattle.khepri_types.specs.Paths.{is_child, is_under}
use Rattle.khepri_types.specs.Tree.{Tree, raised_children}

-- a child of p goes where these paths are dropped
abbrev pub loses_child : List (List NameText × Node) → List (List NameText) → List NameText → Bool
loses_child nodes paths p = list_any (λ e. is_child p e.0 && is_under paths e.0) nodes

-- what is left of these nodes: those below no dropped path, and each that lost a child has its child-list version raised, once
abbrev pub left_nodes : List (List NameText × Node) → List (List NameText) → List (List NameText × Node)
left_nodes nodes paths =
    map (λ e. (e.0, if loses_child nodes paths e.0 then raised_children e.1 else e.1)) (filter (λ e. not (is_under paths e.0)) nodes)

-- one round that removes the subtrees of these paths
abbrev pub drop : Tree → List (List NameText) → Tree
drop T paths = from_sorted (left_nodes (entries T) paths)
