-- A scan over all nodes in order of path.
use Rattle.std.specs.Prelude.{◌≡◌, ℕ, List, [], Option, Some, None, length, take}
use Rattle.khepri_terms.specs.Terms.{NameText}
use Rattle.khepri_types.specs.declared.pattern.PatternPart.{PatternPart}
use Rattle.khepri_types.specs.Tree.{Tree}
use Rattle.pattern_match.specs.declared.mask.Mask.{Mask}
use Rattle.pattern_match.specs.Masks.{AreMasks}
pub use Rattle.tree_nodes.specs.Next.{ahead, ComesNext, path_or_root}

-- the walk has come to a node, the first of those that come after the other path
abbrev pub Passes : Tree → Option (List NameText) → Option (List NameText) → Type 0
Passes T after None = ⊥
Passes T after (Some p) = ComesNext T after p

-- the masks of the path that was passed last
abbrev pub AreBehind : List PatternPart → Tree → Option (List NameText) → List Mask → Type 0
AreBehind parts T last masks = AreMasks parts T [] (path_or_root last) masks

-- the masks of a path with so many names, and then those of its front
abbrev pub AreClimbed : ℕ → ℕ → List Mask → List Mask → Type 0
AreClimbed from to old new = (parts : List PatternPart) (T : Tree) (p : List NameText) → length p ≡ from → AreMasks parts T [] p old → AreMasks parts T [] (take to p) new
