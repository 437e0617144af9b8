use Rattle.std.proofs.Common.{◌≡◌, ◌+◌, length}
use Rattle.khepri_types.specs.Globs.{some_tail, glob_matches}
use Rattle.khepri_types.proofs.glob.some_tail_matches.Given as goal

abbrev pub invariant-tails : goal.invariant-tails
invariant-tails l = some_tail (glob_matches l.left) l.rest ≡ some_tail (glob_matches l.pieces) l.bytes

abbrev pub decreases-tails : goal.decreases-tails
decreases-tails l = length l.left + length l.rest
