use Rattle.khepri_types.proofs.Legality.{calm-legal}
use Rattle.khepri_types.proofs.laws.calm_is_legal.Goals as goal

pub returns : goal.returns
returns c = calm-legal
