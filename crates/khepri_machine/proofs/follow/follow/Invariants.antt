use Rattle.std.proofs.Common.{take}
use Rattle.khepri_machine.specs.Following.{Follows}
use Rattle.khepri_machine.proofs.follow.follow.Given as goal

abbrev pub invariant-loop-path : goal.invariant-loop-path
invariant-loop-path g l = record {
  follows : Follows l.tree (take l.path-index l.paths) l.fn.watchers l.watchers;
}
