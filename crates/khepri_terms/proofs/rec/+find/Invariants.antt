use Rattle.std.proofs.Common.{length}
use Rattle.khepri_terms.proofs.rec.+find.Given as goal

abbrev pub decreases-find : goal.decreases-find
decreases-find l = length l.fields.now
