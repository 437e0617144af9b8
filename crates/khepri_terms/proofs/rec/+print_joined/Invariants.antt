use Rattle.std.proofs.Common.{length}
use Rattle.khepri_terms.proofs.rec.+print_joined.Given as goal

abbrev pub decreases-print_joined : goal.decreases-print_joined
decreases-print_joined l = length l.fields.now
