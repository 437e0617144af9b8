-- What is gathered for a round of settling.
use Rattle.std.specs.Prelude.{ℕ, length, Option, Some, None, ◌≡◌, ◌⊎◌, ◌||◌, false, IsTrue, List, ◌++◌, not}
use Rattle.std.specs.List.{filter}
use Rattle.khepri_terms.specs.Terms.{NameText}
use Rattle.khepri_types.specs.declared.node.Node.{Node}
use Rattle.khepri_types.specs.declared.view.NodeView.{NodeView}
use Rattle.khepri_types.specs.Conditions.{seen_at}
use Rattle.khepri_types.specs.Paths.{is_child, is_front, is_under}
use Rattle.khepri_types.specs.Tree.{Tree, stands}
use Rattle.tree_nodes.specs.Drafts.{Drafted, IsTouched}
use Rattle.worklist_laws.specs.Changes.{is_near}
use Rattle.worklist_laws.specs.Candidates.{is_in, IsWithin, fails_at, watches_at}

-- how many watches a node has, none where none stands
abbrev pub watch_count : Option Node → ℕ
watch_count None = 0
watch_count (Some n) = length n.watches

-- these paths but for those left out
abbrev pub without : List (List NameText) → List (List NameText) → List (List NameText)
without left paths = filter (λ p. not (is_in left p)) paths

-- who watches q: those of the base's index that weren't touched, and those of the index of the touched nodes
abbrev pub both : List (List NameText) → (List NameText → List (List NameText)) → (List NameText → List (List NameText)) → List NameText → List (List NameText)
both touched of written q = without touched (of q) ++ written q

-- who of them is asked: of each index those that aren't left out
abbrev pub asked : List (List NameText) → List (List NameText) → (List NameText → List (List NameText)) → (List NameText → List (List NameText)) → List NameText → List (List NameText)
asked left gone of written q = without left (of q) ++ without gone (written q)

-- where one of these paths has a node, it was touched
abbrev pub AreOut : List (List NameText) → Tree → List (List NameText) → Type 0
AreOut touched T left = (p : List NameText) → IsTrue (is_in left p) → is_in touched p ≡ false → stands T p ≡ false

-- the new paths are old ones, or below one of the tops
abbrev pub GoesUnder : List (List NameText) → List (List NameText) → List (List NameText) → Type 0
GoesUnder tops old new = (p : List NameText) → IsTrue (is_in new p) → IsTrue (is_in old p || is_under tops p)

-- where q came or went, its parent is among these, if something else is seen there
abbrev pub NotesAbove : Tree → Tree → List NameText → List (List NameText) → Type 0
NotesAbove B D q changed = (r : List NameText) → IsTrue (is_child r q) → (stands B q ≡ stands D q → ⊥) → (seen_at B r ≡ seen_at D r → ⊥) → IsTrue (is_in changed r)

-- two views that show the same, whatever their names
abbrev pub IsShownAlike : NodeView → NodeView → Type 0
IsShownAlike old new = (old.payload.now ≡ new.payload.now) × (old.pv ≡ new.pv) × (old.cv ≡ new.cv) × (old.kids ≡ new.kids)

-- what the first round looks at where q was touched: q is tested; q is among the changed paths where it is seen anew, and its parent where q came or went and the parent is seen anew
pub record LooksAt (B D : Tree) (written : List NameText → List (List NameText)) (paths changed : List (List NameText)) (q : List NameText) : Type 0 where
  pub itself : IsTrue (is_in paths q)
  pub anew : (seen_at B q ≡ seen_at D q → ⊥) → IsTrue (is_in changed q)
  pub above : NotesAbove B D q changed
  pub linked : (t : List NameText) → IsTrue (watches_at D q t) → IsTrue (is_in (written t) q)

-- no node fails at these paths
abbrev pub NoneFails : Tree → List (List NameText) → Type 0
NoneFails D paths = (p : List NameText) → IsTrue (is_in paths p) → fails_at D p ≡ false

-- where q is seen anew, no node fails that `of` lists there
abbrev pub NoneFailsAnew : Tree → Tree → (List NameText → List (List NameText)) → List NameText → Type 0
NoneFailsAnew B D of q = (seen_at B q ≡ seen_at D q → ⊥) → NoneFails D (of q)

-- where r is seen anew, it is above, or no node fails that `of` lists there
abbrev pub IsNoted : Tree → Tree → (List NameText → List (List NameText)) → List NameText → List (List NameText) → Type 0
IsNoted B D of r above = (seen_at B r ≡ seen_at D r → ⊥) → IsTrue (is_in above r) ⊎ NoneFails D (of r)

-- the same of the parent of q, where q came or went
abbrev pub NotesAsked : Tree → Tree → (List NameText → List (List NameText)) → List NameText → List (List NameText) → Type 0
NotesAsked B D of q above = (r : List NameText) → IsTrue (is_child r q) → (stands B q ≡ stands D q → ⊥) → IsNoted B D of r above

-- where q was touched: it doesn't fail, nor those who watch it where it is seen anew; its parent is among the parents, where those who watch it are to be tested too
pub record Passes (B D : Tree) (of : List NameText → List (List NameText)) (parents : List (List NameText)) (q : List NameText) : Type 0 where
  pub itself : fails_at D q ≡ false
  pub anew : NoneFailsAnew B D of q
  pub above : NotesAsked B D of q parents

-- each touched path passes
abbrev pub PassesAll : Drafted → (List NameText → List (List NameText)) → List (List NameText) → Type 0
PassesAll d of above = (q : List NameText) → IsTouched d.touched q → Passes d.base d.tree of above q

-- what stands below the path, and the path itself, is among these
abbrev pub HasBelow : Tree → List NameText → List (List NameText) → Type 0
HasBelow T top paths = (q : List NameText) → IsTrue (stands T q) → IsTrue (is_front top q) → IsTrue (is_in paths q)

-- the parent of the path is among these
abbrev pub HasAbove : List NameText → List (List NameText) → Type 0
HasAbove top paths = (q : List NameText) → IsTrue (is_child q top) → IsTrue (is_in paths q)

-- what a round changes that drops the first paths is among the others
abbrev pub HasNear : Tree → List (List NameText) → List (List NameText) → Type 0
HasNear T tops paths = (q : List NameText) → IsTrue (stands T q) → IsTrue (is_near tops q) → IsTrue (is_in paths q)

-- who watches one of the changed paths is among the candidates
abbrev pub Asks : (List NameText → List (List NameText)) → List (List NameText) → List (List NameText) → Type 0
Asks of changed candidates = (q : List NameText) → IsTrue (is_in changed q) → IsWithin (of q) candidates
