use Rattle.khepri_types.specs.Views.{as_seen}
use Rattle.pattern_match.proofs.Stepping.{SoFar}
use Rattle.pattern_match.proofs.mask.next_mask.Given as goal

abbrev pub invariant-loop-i : goal.invariant-loop-i
invariant-loop-i l = SoFar l.parts (as_seen l.node) l.mask l.i l.next
