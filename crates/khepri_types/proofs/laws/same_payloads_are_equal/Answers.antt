use Rattle.khepri_types.proofs.Payloads.{payload_decides}
use Rattle.khepri_types.proofs.laws.same_payloads_are_equal.Goals as goal

pub returns : goal.returns
returns c = payload_decides
