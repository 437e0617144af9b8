-- What is known of a node where it changes or goes.
use Rattle.std.specs.Prelude.{◌≡◌, ℕ, ◌-◌, List, [], ◌∷◌, ◌++◌, Option, Some, None, length, take}
use Rattle.std.specs.FinMap.{get}
use Rattle.khepri_terms.specs.Lengths.{capped}
use Rattle.khepri_terms.specs.Order.{name_cmp}
use Rattle.khepri_terms.specs.Terms.{NameText}
use Rattle.khepri_types.specs.declared.node.Node.{Node}
use Rattle.khepri_types.specs.Sizes.{kids, node_bytes}
use Rattle.khepri_types.specs.Tree.{Tree}
use Rattle.nested_nodes.specs.Next.{IsNext}
use Rattle.tree_overlay.specs.declared.draft.Measure.{Measure}
use Rattle.tree_overlay.specs.Over.{HasChild}

-- the node that stands at p has so many bytes, as the program counts
abbrev pub HasBytes : Tree → List NameText → ℕ → Type 0
HasBytes T p was = (n : Node) → get T p ≡ Some n → was ≡ capped (node_bytes (p, n))

-- so many children has the path of which p is a child
abbrev pub HasSiblings : Tree → List NameText → ℕ → Type 0
HasSiblings T p before = before ≡ kids T (take (length p - 1) p)

-- the node at p has these measures
abbrev pub Measures : Tree → List NameText → Measure → Type 0
Measures T p m = HasBytes T p m.bytes × (m.kids ≡ kids T p)

-- q is the child of p that comes next and has these measures; where there is none, none comes
abbrev pub IsNextChild : Tree → List NameText → Option NameText → Option (List NameText × Measure) → Type 0
IsNextChild T p after None = IsNext name_cmp (HasChild T p) after None
IsNextChild T p after (Some x) = (n : NameText) × (x.0 ≡ p ++ n ∷ []) × IsNext name_cmp (HasChild T p) after (Some n) × Measures T x.0 x.1
