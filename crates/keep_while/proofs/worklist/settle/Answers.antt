use Rattle.std.proofs.Common.{refl, arith, []}
use Rattle.std.specs.Prelude.{ℕ}
use Rattle.std.proofs.lemmas.Result.{on_ok_weaker}
use Rattle.keep_while.specs.Costs.{IsPaidFor, IsPaidSoFar}
use Rattle.keep_while.proofs.Glancing.{paid-first, paid-glance}
use Rattle.keep_while.proofs.Settled.{settled-gone, settling-none, worked}
use Rattle.keep_while.proofs.worklist.settle.Goals as goal

pub returns-then-not-branch-clause-tree : goal.returns-then-not-branch-clause-tree
returns-then-not-branch-clause-tree g c =
    let d = c.args.draft.now in
    worked d d [] [] (settling-none d) (c.in_ok-some_node_fails.ensures.none c.if-not-branch.true) (λ q. refl) refl

pub returns-then-not-branch-clause-count : goal.returns-then-not-branch-clause-count
returns-then-not-branch-clause-count g c =
    let d = c.args.draft.now in
    omega (arith, settled-gone d d (worked d d [] [] (settling-none d) (c.in_ok-some_node_fails.ensures.none c.if-not-branch.true) (λ q. refl) refl))

pub returns-then-not-branch-clause-cost : goal.returns-then-not-branch-clause-cost
returns-then-not-branch-clause-cost g c = paid-glance c.args.draft.now c.args.steps.now c.some_node_fails.new.steps c.in_ok-some_node_fails.ensures.cost

pub returns-clause-cost : goal.returns-clause-cost
returns-clause-cost g c =
    let d = c.args.draft.now in
    let first = c.in_ok-candidates.candidates.keys in
    on_ok_weaker c.rounds.result (λ (f : (start : ℕ) → IsPaidSoFar d d.tree first start c.first.new.steps → IsPaidFor d start c.rounds.new.steps). f c.args.steps.now
    (paid-first d first c.args.steps.now c.some_node_fails.new.steps c.first.new.steps c.in_ok-some_node_fails.ensures.cost c.in_ok-candidates.ensures.few c.in_ok-candidates.ensures.cost)) c.rounds.ensures.cost
