-- How deep nodes stand, and how many bytes they have, as they come, change and go.
use Rattle.std.proofs.Common.{◌≡◌, inl, inr, ℕ, ◌+◌, ◌-◌, ◌≤◌, Bool, true, false, cond, List, [], ◌∷◌, length, take, refl, sym, ap, subst, ◌∙◌, arith, Option, Some, None}
use Rattle.std.specs.Prelude.{IsTrue, is_some}
use Rattle.std.specs.BTreeMap.{UpdatesBy}
use Rattle.std.specs.FinMap.{get, insert, remove}
use Rattle.khepri_terms.specs.Terms.{NameText}
use Rattle.khepri_terms.specs.Lengths.{capped}
use Rattle.khepri_terms.specs.Order.{path_cmp}
use Rattle.khepri_types.specs.declared.limits.TheConstants.{MAX_PATH_NAMES}
use Rattle.khepri_types.specs.declared.node.Node.{Node}
use Rattle.khepri_types.specs.Sizes.{bytes, kids, node_bytes}
use Rattle.khepri_types.specs.Tree.{Tree, stands, opening_tree}
use Rattle.khepri_types.proofs.Growing.{same_or_apart, bytes-insert}
use Rattle.khepri_types.proofs.Standing.{get-opening}
use Rattle.khepri_types.proofs.Trees.{get-other}
use Rattle.tree_overlay.specs.Measures.{HasBytes, HasSiblings}
use Rattle.tree_overlay.specs.Over.{IsShallow, over, changed_at}
use Rattle.tree_overlay.proofs.Overlay.{Map, over-put}
use Rattle.tree_overlay.proofs.Counting.{bytes-old, bytes-gone}
use Rattle.tree_overlay.proofs.Hatching.{stood}

pub shallow-opening : IsShallow opening_tree
shallow-opening [] h = omega arith
shallow-opening (n ∷ q) h = absurd (cc (sym h ∙ ap is_some (get-opening (n ∷ q))))

pub shallow-insert : (T : Tree) (p : List NameText) (v : Node) → length p ≤ MAX_PATH_NAMES → IsShallow T → IsShallow (insert T p v)
shallow-insert T p v few all q h = elim (same_or_apart q p) as (λ _. length q ≤ MAX_PATH_NAMES) [
  | inl same ↦ subst (λ (r : List NameText). length r ≤ MAX_PATH_NAMES) (sym same) few
  | inr apart ↦ all q (sym (ap is_some (get-other T p v q apart)) ∙ h)
]

pub shallow-remove : (T : Tree) (p : List NameText) → IsShallow T → IsShallow (remove T p)
shallow-remove T p all q h = all q (stood T p q h).0

-- ---- what is noted in a draft

pub shallow-put : (B : Tree) (m n : Map) (p : List NameText) (v : Node) → UpdatesBy path_cmp (path_cmp p) m n (Some (Some v)) → length p ≤ MAX_PATH_NAMES → IsShallow (over B m.entries) → IsShallow (over B n.entries)
shallow-put B m n p v up few all = subst IsShallow (sym (over-put B m n p (Some v) up)) (shallow-insert (over B m.entries) p v few all)

pub shallow-cut : (B : Tree) (m n : Map) (p : List NameText) → UpdatesBy path_cmp (path_cmp p) m n (Some None) → IsShallow (over B m.entries) → IsShallow (over B n.entries)
shallow-cut B m n p up all = subst IsShallow (sym (over-put B m n p None up)) (shallow-remove (over B m.entries) p all)

pub bytes-put : (B : Tree) (m n : Map) (p : List NameText) (v w : Node) (rest new : ℕ) → UpdatesBy path_cmp (path_cmp p) m n (Some (Some v)) → get (over B m.entries) p ≡ Some w → rest + node_bytes (p, w) ≡ bytes (over B m.entries) → new ≡ rest + node_bytes (p, v) → new ≡ bytes (over B n.entries)
bytes-put B m n p v w rest new up some beside now = let all = ap bytes (over-put B m n p (Some v) up) in omega (arith, all, bytes-old (over B m.entries) p v w some, beside, now)

pub bytes-make : (B : Tree) (m n : Map) (p : List NameText) (v : Node) (old new : ℕ) → UpdatesBy path_cmp (path_cmp p) m n (Some (Some v)) → get (over B m.entries) p ≡ None → old ≡ bytes (over B m.entries) → new ≡ old + node_bytes (p, v) → new ≡ bytes (over B n.entries)
bytes-make B m n p v old new up none was now = let all = ap bytes (over-put B m n p (Some v) up) in omega (arith, all, bytes-insert (over B m.entries) p v none, was, now)

pub bytes-cut : (B : Tree) (m n : Map) (p : List NameText) (w : Node) (rest : ℕ) → UpdatesBy path_cmp (path_cmp p) m n (Some None) → get (over B m.entries) p ≡ Some w → rest + node_bytes (p, w) ≡ bytes (over B m.entries) → rest ≡ bytes (over B n.entries)
bytes-cut B m n p w rest up some beside = let all = ap bytes (over-put B m n p None up) in omega (arith, all, bytes-gone (over B m.entries) p w some, beside)

-- one node has no more bytes than all
pub bytes-part : (T : Tree) (p : List NameText) (w : Node) → get T p ≡ Some w → node_bytes (p, w) ≤ bytes T
bytes-part T p w some = omega (arith, bytes-gone T p w some)

-- what is left of the bytes of all beside one node
pub beside : (T : Tree) (p : List NameText) (was all : ℕ) → HasBytes T p was → all ≡ bytes T → all ≡ capped (bytes T) → (w : Node) → get T p ≡ Some w → (was ≤ all) × ((all - was) + node_bytes (p, w) ≡ bytes T)
beside T p was all has is cap w some = let part = bytes-part T p w some in let own = has w some in (omega (arith, part, own, is, cap), omega (arith, part, own, is, cap))

-- the number of siblings, told of the path above
pub before_known : (T : Tree) (p above : List NameText) (before : ℕ) (k : ℕ) → HasSiblings T p before → above ≡ take k p → k ≡ length p - 1 → before ≡ kids T above
before_known T p above before k has front is = has ∙ ap (kids T) (ap (λ (i : ℕ). take i p) (sym is) ∙ sym front)
