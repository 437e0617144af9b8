use Rattle.std.proofs.lemmas.Bool.Decides.{Decides-at}
use Rattle.khepri_terms.specs.Order.{scalar_eq}
use Rattle.khepri_terms.specs.OrderLaws.{scalar_decides}
use Rattle.khepri_terms.proofs.scalar.Scalar.is_same.Goals as goal

pub returns : goal.returns
returns c = Decides-at c.eq.result (scalar_eq c.args.self.now c.args.other.now) c.eq.ensures (scalar_decides c.args.self.now c.args.other.now)
