use Rattle.std.proofs.lemmas.Bool.Decides.{Decides-at}
use Rattle.khepri_terms.specs.Order.{path_eq}
use Rattle.khepri_terms.specs.OrderLaws.{path_decides}
use Rattle.khepri_terms.proofs.path.Path.is_same.Goals as goal

pub returns : goal.returns
returns c = Decides-at c.eq.result (path_eq c.args.self.now c.args.other.now) c.eq.ensures (path_decides c.args.self.now c.args.other.now)
