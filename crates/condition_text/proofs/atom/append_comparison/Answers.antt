use Rattle.khepri_terms.proofs.Printing.{front_of}
use Rattle.condition_text.proofs.atom.append_comparison.Goals as goal

pub returns-clause-front : goal.returns-clause-front
returns-clause-front c = front_of _ _ _ _ c.in_ok-append_word.ensures.ok c.append_number.ensures.front
