use Rattle.std.proofs.Common.{sym, subst}
use Rattle.khepri_terms.specs.Records.{IsRec}
use Rattle.khepri_terms.proofs.Changes.{empty_is}
use Rattle.khepri_terms.proofs.rec.Rec.empty.Goals as goal

pub invariant_of-result : goal.invariant_of-result
invariant_of-result c = subst IsRec (sym c.new.ensures.items) empty_is
