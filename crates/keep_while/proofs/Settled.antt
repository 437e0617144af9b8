-- How a tree changes over rounds of settling.
use Rattle.std.proofs.Common.{◌≡◌, ◌-◌, ◌<◌, ◌≤◌, Bool, true, false, cond, List, [], ◌∷◌, length, refl, sym, ap, subst, ◌∙◌, arith}
use Rattle.std.specs.FinMap.{len}
use Rattle.khepri_terms.specs.Terms.{NameText}
use Rattle.khepri_types.specs.Drop.{drop}
use Rattle.khepri_types.specs.Settling.{are_none, failing, stable, settle, gone}
use Rattle.khepri_types.specs.Tree.{Tree}
use Rattle.khepri_types.proofs.Rounds.{next-less, settle-stable, settle-round}
use Rattle.khepri_types.specs.Paths.{is_front, is_under}
use Rattle.khepri_types.proofs.Failing.{root_spared}
use Rattle.khepri_types.proofs.Fronts.{front_itself}
use Rattle.tree_nodes.specs.Drafts.{Drafted}
use Rattle.worklist_laws.specs.Candidates.{tested, IsEnough, SameBelow}
use Rattle.worklist_laws.proofs.Among.{or_left}
use Rattle.worklist_laws.proofs.Candidates.{tested-below, drop-same}

abbrev Path : Type 0
Path = List NameText

-- ---- the rounds so far

-- from draft D some rounds have led to draft E
pub record Settling (D E : Drafted) : Type 0 where
  pub base : E.base ≡ D.base
  pub tree : settle E.tree ≡ settle D.tree
  pub fewer : len E.tree ≤ len D.tree

pub settling-none : (D : Drafted) → Settling D D
settling-none D = record { base = refl; tree = refl; fewer = omega arith }

are-none : (paths : List Path) → length paths ≡ 0 → are_none paths ≡ true
are-none [] e = refl
are-none (p ∷ paths) e = absurd (omega arith)

are-some : (paths : List Path) → (length paths ≡ 0 → ⊥) → are_none paths ≡ false
are-some [] n = absurd (n refl)
are-some (p ∷ paths) n = refl

-- a round more, with fewer nodes
pub settling-next : (D E F : Drafted) (paths : List Path) → Settling D E → paths ≡ failing E.tree → (length paths ≡ 0 → ⊥)
    → F.base ≡ E.base → F.tree ≡ drop E.tree paths → Settling D F × (len F.tree < len E.tree)
settling-next D E F paths s are some base tree =
    let low : stable E.tree ≡ false = ap are_none (sym are) ∙ are-some paths some in
    let is : F.tree ≡ drop E.tree (failing E.tree) = tree ∙ ap (drop E.tree) are in
    let less : len F.tree < len E.tree = subst (λ (U : Tree). len U < len E.tree) (sym is) (next-less E.tree low) in (
      record {
        base = base ∙ s.base;
        tree = ap settle is ∙ (sym (settle-round E.tree ∙ ap (λ (b : Bool). cond b E.tree (settle (drop E.tree (failing E.tree)))) low) ∙ s.tree);
        fewer = omega (arith, s.fewer, less);
      },
      less,
    )

-- no node fails any more
pub settled : (D E : Drafted) (paths : List Path) → Settling D E → paths ≡ failing E.tree → length paths ≡ 0 → E.tree ≡ settle D.tree
settled D E paths s are none = sym (settle-stable E.tree (ap are_none (sym are) ∙ are-none paths none)) ∙ s.tree

pub settled-gone : (D E : Drafted) → E.tree ≡ settle D.tree → len D.tree - len E.tree ≡ gone D.tree
settled-gone D E is = ap (λ (U : Tree). len D.tree - len U) is

-- ---- rounds over candidates

below-none : (paths : List Path) → ((q : Path) → is_under [] q ≡ is_under paths q) → length paths ≡ 0
below-none [] same = refl
below-none (p ∷ paths) same = absurd (cc (same p, or_left (is_front p p) (is_under paths p) (front_itself p)))

below-some : (tops paths : List Path) → SameBelow tops paths → (length tops ≡ 0 → ⊥) → length paths ≡ 0 → ⊥
below-some [] paths same some none = some refl
below-some (t ∷ tops) [] same some none = cc (same t, or_left (is_front t t) (is_under tops t) (front_itself t))
below-some (t ∷ tops) (p ∷ paths) same some none = absurd (omega arith)

-- a round more over enough candidates, without the paths below another
pub working-next : (D E F : Drafted) (candidates tops : List Path) → Settling D E → IsEnough E.tree candidates → SameBelow tops (tested E.tree candidates) → (length tops ≡ 0 → ⊥)
    → F.base ≡ E.base → F.tree ≡ drop E.tree tops → Settling D F × (len F.tree < len E.tree)
working-next D E F candidates tops s all below some base tree =
    let same : SameBelow tops (failing E.tree) = λ q. below q ∙ tested-below E.tree candidates all q in
    settling-next D E F (failing E.tree) s refl (below-some tops (failing E.tree) same some) base (tree ∙ drop-same E.tree tops (failing E.tree) same)

-- no candidate fails any more
pub worked : (D E : Drafted) (candidates tops : List Path) → Settling D E → IsEnough E.tree candidates → SameBelow tops (tested E.tree candidates) → length tops ≡ 0 → E.tree ≡ settle D.tree
worked D E candidates [] s all below none = settled D E (failing E.tree) s refl (below-none (failing E.tree) (λ q. below q ∙ tested-below E.tree candidates all q))
worked D E candidates (t ∷ tops) s all below none = absurd (omega arith)

-- the root is not among them
pub root-left : (E : Drafted) (candidates tops : List Path) → IsEnough E.tree candidates → SameBelow tops (tested E.tree candidates) → is_under tops [] ≡ false
root-left E candidates tops all below = below [] ∙ (tested-below E.tree candidates all [] ∙ root_spared E.tree)

-- where one of them fails, the tree isn't stable
pub unsettled : (E : Drafted) (candidates tops : List Path) → IsEnough E.tree candidates → SameBelow tops (tested E.tree candidates) → (length tops ≡ 0 → ⊥) → stable E.tree ≡ false
unsettled E candidates tops all below some = are-some (failing E.tree) (below-some tops (failing E.tree) (λ q. below q ∙ tested-below E.tree candidates all q) some)
