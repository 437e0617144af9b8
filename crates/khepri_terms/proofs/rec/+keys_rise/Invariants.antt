use Rattle.std.proofs.Common.{length}
use Rattle.khepri_terms.proofs.rec.+keys_rise.Given as goal

abbrev pub decreases-keys_rise : goal.decreases-keys_rise
decreases-keys_rise l = length l.fields.now
