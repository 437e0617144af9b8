use Rattle.std.proofs.Common.{◌∙◌, ◌++◌, List, [], ◌∷◌, length, ap, subst, arith}
use Rattle.khepri_terms.specs.Terms.{NameText}
use Rattle.worklist_laws.specs.Links.{linked_to}
use Rattle.worklist_laws.proofs.Linking.{holds-lists}
use Rattle.keep_while.specs.Gathering.{NoneFails}
use Rattle.keep_while.proofs.Gathering.{split-more}
use Rattle.keep_while.proofs.Glancing.{asked-fine, watching-more, watching-some}
use Rattle.keep_while.proofs.glance.above_fails.Goals as goal

pub loop-path-init : goal.loop-path-init
loop-path-init g c = record {
  done = [];
  rest = c.into_iter-path-iterator.ensures.into_iter_gives.0;
  none = λ q h. absurd cc;
  cost = omega arith;
  risen = omega arith;
}

pub loop-path-preserved : goal.loop-path-preserved
loop-path-preserved g c =
    let B = c.args.draft.now.base in
    let D = c.args.draft.now.tree in
    let of = linked_to c.args.watchers.now in
    let x = c.in-Some.path.now in
    let was = c.loop-path.invariant in
    let same = c.of.ensures ∙ holds-lists B c.args.watchers.now c.requires.index x in
    record {
      done = was.done ++ x ∷ [];
      rest = split-more was.done c.loop-path.path-iterator x c.next.new.self c.args.above.now.keys was.rest c.in-Some.ensures.steps;
      none = asked-fine D of was.done x was.none (subst (NoneFails D) c.of.ensures (c.some_fail.ensures.none c.if-some_fail.false));
      cost = omega (arith, was.cost, c.some_fail.ensures.cost, ap (λ (ps : List (List NameText)). length ps) same, watching-more B was.done x);
      risen = omega (arith, was.risen, c.some_fail.ensures.risen);
    }

pub returns-then-some_fail-clause-cost : goal.returns-then-some_fail-clause-cost
returns-then-some_fail-clause-cost g c =
    let B = c.args.draft.now.base in
    let x = c.in-Some.path.now in
    let was = c.loop-path.invariant in
    let same = c.of.ensures ∙ holds-lists B c.args.watchers.now c.requires.index x in
    let rest = split-more was.done c.loop-path.path-iterator x c.next.new.self c.args.above.now.keys was.rest c.in-Some.ensures.steps in
    omega (arith, was.cost, c.some_fail.ensures.cost, ap (λ (ps : List (List NameText)). length ps) same, watching-more B was.done x, watching-some B (was.done ++ x ∷ []) c.next.new.self c.args.above.now.keys rest)

pub returns-clause-cost : goal.returns-clause-cost
returns-clause-cost g c = omega (arith, c.loop-path.invariant.cost, watching-some c.args.draft.now.base c.loop-path.invariant.done c.loop-path.path-iterator c.args.above.now.keys c.loop-path.invariant.rest)
