use Rattle.std.proofs.Common.{inl, inr, ◌∙◌, List, length, ap, subst, arith}
use Rattle.khepri_terms.specs.Terms.{NameText}
use Rattle.worklist_laws.proofs.Linking.{holds-lists}
use Rattle.keep_while.specs.Gathering.{NoneFails}
use Rattle.keep_while.proofs.glance.watcher_fails.Goals as goal

pub returns-then-not-is_asked-clause-none : goal.returns-then-not-is_asked-clause-none
returns-then-not-is_asked-clause-none g c = λ _. c.is_asked.ensures.none c.if-not-is_asked.true

pub returns-then-not-is_asked-clause-cost : goal.returns-then-not-is_asked-clause-cost
returns-then-not-is_asked-clause-cost g c = inl c.is_asked.ensures.cost

pub returns-clause-none : goal.returns-clause-none
returns-clause-none g c = λ low anew. subst (NoneFails c.args.draft.now.tree) c.of.ensures (c.some_fail.ensures.none low)

pub returns-clause-cost : goal.returns-clause-cost
returns-clause-cost g c =
    let same = c.of.ensures ∙ holds-lists c.args.draft.now.base c.args.watchers.now c.requires.index c.args.path.now in
    inr (c.is_asked.ensures.anew c.if-not-is_asked.false, omega (arith, c.is_asked.ensures.cost, c.some_fail.ensures.cost, ap (λ (ps : List (List NameText)). length ps) same))
