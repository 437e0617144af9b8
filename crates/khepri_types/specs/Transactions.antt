-- What is asked of the tree when a script has run to its end.
use Rattle.std.specs.Prelude.{List, [], ◌∷◌, Option, Some, None}
use Rattle.std.specs.List.{filter, list_any}
use Rattle.std.specs.FinMap.{entries}
use Rattle.khepri_terms.specs.Terms.{NameText}
use Rattle.khepri_terms.specs.Order.{path_eq}
use Rattle.khepri_types.specs.declared.node.Node.{Node}
use Rattle.khepri_types.specs.declared.watch.Watch.{Watch}
use Rattle.khepri_types.specs.Tree.{Tree}
use Rattle.khepri_types.specs.Watching.{first_unmet}

-- the nodes that stand at the written paths, each once, in order of path
abbrev pub written_nodes : Tree → List (List NameText) → List (List NameText × Node)
written_nodes T written = filter (λ e. list_any (path_eq e.0) written) (entries T)

-- this, and where there is none the other
abbrev pub or_else : Option Watch → Option Watch → Option Watch
or_else None other = other
or_else (Some w) other = Some w

-- the first watch of these nodes that isn't met in the tree: of the first node that has one, the first
abbrev pub first_unmet_among : Tree → List (List NameText × Node) → Option Watch
first_unmet_among T [] = None
first_unmet_among T (e ∷ nodes) = or_else (first_unmet T e.1.watches) (first_unmet_among T nodes)

-- the first watch of the nodes at the written paths that isn't met, by the node's path and then by the watch's place
abbrev pub unmet_among : Tree → List (List NameText) → Option Watch
unmet_among T written = first_unmet_among T (written_nodes T written)
