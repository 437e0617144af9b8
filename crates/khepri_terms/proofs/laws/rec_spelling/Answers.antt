use Rattle.khepri_terms.proofs.RecordsLaws.{rec_again, rec_takes}
use Rattle.khepri_terms.proofs.laws.rec_spelling.Goals as goal

pub returns : goal.returns
returns c = record { again = rec_again; takes = λ text fields rest e. rec_takes text (fields, rest) e }
