use Rattle.khepri_terms.proofs.NamesLaws.{comp_again, comp_takes}
use Rattle.khepri_terms.proofs.laws.name_spelling.Goals as goal

pub returns : goal.returns
returns c = record { again = comp_again; takes = λ text name rest e. comp_takes text (name, rest) e }
