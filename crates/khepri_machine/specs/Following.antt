-- How an index follows a tree.
use Rattle.std.specs.Prelude.{◌≡◌, false, IsTrue, List, Option}
use Rattle.std.specs.FinMap.{get}
use Rattle.khepri_terms.specs.Terms.{NameText}
use Rattle.khepri_types.specs.Tree.{Tree}
use Rattle.khepri_terms.specs.Order.{path_cmp}
use Rattle.tree_nodes.specs.Next.{follows}
use Rattle.tree_nodes.specs.Drafts.{IsTouched}
use Rattle.worklist_laws.specs.Candidates.{is_in}
use Rattle.worklist_laws.specs.Links.{Links, targets_at, targets_of}

-- at these paths the new index holds the watches of the tree, and at all others it is the old one
pub record Follows (T : Tree) (paths : List (List NameText)) (old new : Links) : Type 0 where
  pub on : (q : List NameText) → IsTrue (is_in paths q) → targets_at (get new q) ≡ targets_of (get T q)
  pub off : (q : List NameText) → is_in paths q ≡ false → get new q ≡ get old q

-- q is among these paths, or the nodes of both trees watch the same there
abbrev pub KeepsTargetsAt : Tree → Tree → List (List NameText) → List NameText → Type 0
KeepsTargetsAt B D paths q = is_in paths q ≡ false → targets_of (get B q) ≡ targets_of (get D q)

-- where a path isn't among these, the nodes of both trees watch the same there
abbrev pub KeepsTargets : Tree → Tree → List (List NameText) → Type 0
KeepsTargets B D paths = (q : List NameText) → KeepsTargetsAt B D paths q

-- up to this path the touched ones are among these, but for those at which the nodes of both trees watch the same
abbrev pub Noted : Tree → Tree → List (List NameText) → Option (List NameText) → List (List NameText) → Type 0
Noted B D touched after paths = (q : List NameText) → IsTouched touched q → follows path_cmp after q ≡ false → KeepsTargetsAt B D paths q
