-- What was found so far.
use Rattle.std.specs.Prelude.{◌≡◌, ℕ, List, [], ◌∷◌, ◌++◌, Some, take, length, map}
use Rattle.std.specs.FinMap.{get}
use Rattle.khepri_terms.specs.Terms.{NameText}
use Rattle.khepri_types.specs.declared.node.Node.{Node}
use Rattle.khepri_types.specs.declared.shown.ShownNode.{ShownNode}
use Rattle.khepri_types.specs.Conditions.{Seen, seen_at}
use Rattle.khepri_types.specs.Exec.{shown_node}
use Rattle.khepri_types.specs.Tree.{Tree}
use Rattle.tree_commands.specs.declared.scan.Found.{Found}

-- these nodes are counted, and the first so many of them are listed
pub record Lists (T : Tree) (limit : ℕ) (nodes : List (List NameText × Node)) (f : Found) : Type 0 where
  pub count : f.count ≡ length nodes
  pub listed : f.nodes.items ≡ map (shown_node T) (take limit nodes)

-- this is how a reply lists the node at p, of which this is seen
abbrev pub IsListed : List NameText → Seen → ShownNode → Type 0
IsListed p s shown = (T : Tree) (n : Node) → get T p ≡ Some n → Some s ≡ seen_at T p → shown ≡ shown_node T (p, n)

-- the node at p, of which this is seen, comes to those that are listed
abbrev pub ListsOneMore : List NameText → Seen → ℕ → Found → Found → Type 0
ListsOneMore p s limit old new = (T : Tree) (es : List (List NameText × Node)) (n : Node) → get T p ≡ Some n → Some s ≡ seen_at T p → Lists T limit es old → Lists T limit (es ++ (p, n) ∷ []) new
