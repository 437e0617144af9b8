use Rattle.std.proofs.Common.{◌≡◌, length}
use Rattle.khepri_types.specs.Literals.{literal_at}
use Rattle.khepri_types.proofs.glob.after_literal.Given as goal

abbrev pub invariant-literal : goal.invariant-literal
invariant-literal l = literal_at l.left l.rest ≡ literal_at l.pieces l.bytes

abbrev pub decreases-literal : goal.decreases-literal
decreases-literal l = length l.left
