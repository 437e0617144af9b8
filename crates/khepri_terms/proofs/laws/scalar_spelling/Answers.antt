use Rattle.khepri_terms.proofs.RecordsLaws.{scalar_again, scalar_takes}
use Rattle.khepri_terms.proofs.laws.scalar_spelling.Goals as goal

pub returns : goal.returns
returns c = record { again = scalar_again; takes = λ text value rest e. scalar_takes text (value, rest) e }
