use Rattle.std.proofs.Common.{◌+◌, sym, subst}
use Rattle.khepri_types.specs.Views.{as_seen}
use Rattle.pattern_match.proofs.Stepping.{SoFar, turn_set, turn_left}
use Rattle.pattern_match.proofs.mask.next_mask.Goals.{then-goes_on, else-goes_on}
use Rattle.pattern_match.proofs.mask.next_mask.Goals as goal

pub loop-i-preserved : goal.loop-i-preserved
loop-i-preserved c = elim c.if-goes_on.branch [
  | then-goes_on w ↦
      subst (SoFar c.args.parts.now (as_seen c.args.node.now) c.args.mask (c.loop-i.i + 1)) (sym w.next-is)
      (turn_set c.args.parts.now (as_seen c.args.node.now) c.args.mask c.loop-i.i c.index-parts-i.result c.loop-i.next w.with-next.result c.loop-i.invariant c.loop-i-test.true c.index-parts-i.is w.if-goes_on.ensures w.with-next.ensures.same w.with-next.ensures.other)
  | else-goes_on w ↦
      subst (SoFar c.args.parts.now (as_seen c.args.node.now) c.args.mask (c.loop-i.i + 1)) (sym w.next-is)
      (turn_left c.args.parts.now (as_seen c.args.node.now) c.args.mask c.loop-i.i c.index-parts-i.result c.loop-i.next c.loop-i.invariant c.loop-i-test.true c.index-parts-i.is w.if-goes_on.ensures)
]
