use Rattle.std.proofs.Common.{length}
use Rattle.khepri_terms.proofs.rec.+fields_len.Given as goal

abbrev pub decreases-fields_len : goal.decreases-fields_len
decreases-fields_len l = length l.fields.now
