use Rattle.khepri_terms.proofs.Printing.{front_of}
use Rattle.condition_text.proofs.atom.append_op.Goals as goal

pub returns-clause-front : goal.returns-clause-front
returns-clause-front c = front_of _ _ _ _ c.in_ok-append_word.ensures.ok c.append_word-2.ensures.front
