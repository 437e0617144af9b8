use Rattle.khepri_terms.proofs.PathsLaws.{path_again, path_takes}
use Rattle.khepri_terms.proofs.laws.path_spelling.Goals as goal

pub returns : goal.returns
returns c = record { again = path_again; takes = λ text path rest e. path_takes text (path, rest) e }
