-- A way down nested nodes, child by child.
use Rattle.std.specs.Prelude.{⊤, ℕ, IsTrue, List, [], ◌∷◌, ◌++◌, map, take, Option, Some, is_some}
use Rattle.std.specs.Option.{option_map}
use Rattle.std.specs.FinMap.{find, from_sorted}
use Rattle.khepri_terms.specs.Terms.{NameText}
use Rattle.khepri_terms.specs.Order.{path_cmp}
use Rattle.khepri_types.specs.declared.node.Node.{Node}
use Rattle.khepri_types.specs.Tree.{stands}
use Rattle.nested_nodes.specs.Nests.{IsSub}
use Rattle.nested_nodes.specs.Next.{IsNext}
use Rattle.tree_walks.specs.declared.descent.Turn.{Turn}

-- the names of a way
abbrev pub way_path : List Turn → List NameText
way_path way = map (λ (t : Turn). t.name.now) way

-- the rows of the node at which it ends
abbrev pub way_end : List (List NameText × Node) → List Turn → List (List NameText × Node)
way_end ps [] = ps
way_end ps (t ∷ way) = way_end t.nest.now way

-- each turn goes to a child, by its name
abbrev pub Leads : List (List NameText × Node) → List Turn → Type 0
Leads ps [] = ⊤
Leads ps (t ∷ way) = IsSub (t.name.now ∷ []) ps t.nest.now × Leads t.nest.now way

-- a node with these rows has no child
abbrev pub IsLeaf : List (List NameText × Node) → Type 0
IsLeaf ps = (n : NameText) → IsTrue (is_some (find path_cmp (n ∷ []) ps)) → ⊥

-- so many turns of the way, and then this one
abbrev pub turned : List Turn → ℕ × Turn → List Turn
turned way r = take r.0 way ++ r.1 ∷ []

-- the way after the turn goes to the node that comes next; where there is none, none comes
abbrev pub TurnsNext : List (List NameText × Node) → List Turn → Option (ℕ × Turn) → Type 0
TurnsNext ps way o = IsNext path_cmp (λ q. IsTrue (stands (from_sorted {R = path_cmp} ps) q)) (Some (way_path way)) (option_map (λ r. way_path (turned way r)) o)
