use Rattle.khepri_terms.specs.OrderLaws.{name_decides, path_decides, scalar_decides, field_decides, rec_decides}
use Rattle.khepri_terms.proofs.laws.equality.Goals as goal

pub returns : goal.returns
returns c = record { names = name_decides; paths = path_decides; scalars = scalar_decides; fields = field_decides; records = rec_decides }
