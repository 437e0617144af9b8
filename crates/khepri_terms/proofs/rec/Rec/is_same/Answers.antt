use Rattle.std.proofs.lemmas.Bool.Decides.{Decides-at}
use Rattle.khepri_terms.specs.Order.{rec_eq}
use Rattle.khepri_terms.specs.OrderLaws.{rec_decides}
use Rattle.khepri_terms.proofs.rec.Rec.is_same.Goals as goal

pub returns : goal.returns
returns c = Decides-at c.eq.result (rec_eq c.args.self.now c.args.other.now) c.eq.ensures (rec_decides c.args.self.now c.args.other.now)
