use Rattle.std.proofs.Common.{arith, subst}
use Rattle.keep_while.specs.Gathering.{NoneFails}
use Rattle.keep_while.proofs.Glancing.{none-listed}
use Rattle.keep_while.proofs.glance.is_asked.Goals as goal

pub returns-then-of-eq0-clause-none : goal.returns-then-of-eq0-clause-none
returns-then-of-eq0-clause-none g c = λ _ _.
    let listed = c.of.result.now in
    subst (NoneFails c.args.draft.now.tree) c.of.ensures (none-listed c.args.draft.now.tree listed (omega (arith, c.if-of-eq0.true)))

pub returns-clause-none : goal.returns-clause-none
returns-clause-none g c = λ low anew. absurd (anew (c.is_seen_anew.ensures.same low))
