use Rattle.std.proofs.Common.{◌≡◌, ℕ, suc, ◌+◌, ◌-◌, List, take, refl, sym, ap, subst, ◌∙◌, arith, None}
use Rattle.std.specs.Prelude.{IsTrue}
use Rattle.std.specs.FinMap.{get}
use Rattle.std.proofs.lemmas.List.{take_all}
use Rattle.khepri_terms.specs.Terms.{NameText}
use Rattle.khepri_types.specs.Tree.{stands}
use Rattle.khepri_types.proofs.Growing.{get_none}
use Rattle.tree_walks.proofs.Ways.{absent_below}
use Rattle.tree_walks.proofs.grow.standing_front.Goals as goal

pub overflow_sub-above : goal.overflow_sub-above
overflow_sub-above c = omega (arith, c.len-above.ensures, absent_below c.args.draft.now.tree c.args.path.now c.nodes-nodes.ensures.tree c.requires.absent)

pub up-init : goal.up-init
up-init c =
    let T = c.args.draft.now.tree in
    let p = c.args.path.now in
    let long = absent_below T p c.nodes-nodes.ensures.tree c.requires.absent in
    record {
      within = omega (arith, c.len-above.ensures, long);
      missing = ap (get T) (take_all (c.len-above.result - 1 + 1) p (omega (arith, c.len-above.ensures, long))) ∙ c.requires.absent;
    }

pub returns-then-stands-clause-standing : goal.returns-then-stands-clause-standing
returns-then-stands-clause-standing c = sym (ap (stands c.args.draft.now.tree) c.in_ok-front.ensures) ∙ (sym c.stands.ensures ∙ c.if-stands.true)

pub up-preserved : goal.up-preserved
up-preserved c =
    let T = c.args.draft.now.tree in
    let p = c.args.path.now in
    record {
      within = omega (arith, c.up.invariant.within);
      missing = get_none (get T (take (c.up.above - 1 + 1) p))
          (ap (λ (k : ℕ). stands T (take k p)) {y = c.up.above} (omega (arith, c.up-test.true)) ∙ (sym (ap (stands T) c.in_ok-front.ensures) ∙ (sym c.stands.ensures ∙ c.if-stands.false)));
    }

pub returns-clause-standing : goal.returns-clause-standing
returns-clause-standing c =
    let T = c.args.draft.now.tree in
    let p = c.args.path.now in
    subst (λ (k : ℕ). IsTrue (stands T (take k p))) {x = 0} {y = c.up.above} (omega (arith, c.up-test.false)) c.nodes-nodes.ensures.tree.root
