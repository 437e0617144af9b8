-- How large a tree is, counted over the whole map.
use Rattle.std.specs.Prelude.{ℕ, ◌+◌, Bool, ◌&&◌, leb, List, length, map, sum}
use Rattle.std.specs.List.{filter}
use Rattle.std.specs.FinMap.{entries, len}
use Rattle.khepri_terms.specs.Terms.{NameText}
use Rattle.khepri_terms.specs.Paths.{path_text}
use Rattle.khepri_types.specs.declared.limits.TheConstants.{MAX_TREE_NODES, MAX_TREE_BYTES}
use Rattle.khepri_types.specs.declared.node.Node.{Node}
use Rattle.khepri_types.specs.declared.watch.Watch.{Watch}
use Rattle.khepri_types.specs.ConditionTexts.{condition_text}
use Rattle.khepri_types.specs.Paths.{is_child}
use Rattle.khepri_types.specs.Texts.{payload_text, last_text}
use Rattle.khepri_types.specs.Tree.{Tree}

-- how many children of p stand
abbrev pub kids : Tree → List NameText → ℕ
kids T p = length (filter (λ e. is_child p e.0) (entries T))

-- the bytes of a watch: its target and its condition, as they are spelled
abbrev pub watch_bytes : Watch → ℕ
watch_bytes w = length (path_text w.target) + length (condition_text w.cond)

-- the bytes of a node: its last name, its payload and its watches
abbrev pub node_bytes : List NameText × Node → ℕ
node_bytes e = length (last_text e.0) + length (payload_text e.1.payload) + sum (map watch_bytes e.1.watches)

-- the bytes of a tree
abbrev pub bytes : Tree → ℕ
bytes T = sum (map node_bytes (entries T))

-- a tree that keeps its limits
abbrev pub fits : Tree → Bool
fits T = leb (len T) MAX_TREE_NODES && leb (bytes T) MAX_TREE_BYTES
