use Rattle.khepri_terms.proofs.Printing.{front_of, front_kept}
use Rattle.condition_text.proofs.atom.append_key.Goals as goal

pub returns-in_err-print-clause-front : goal.returns-in_err-print-clause-front
returns-in_err-print-clause-front c = front_kept _ _ _ _ c.in_ok-append_word.ensures.ok c.in_err-print.ensures.err

pub returns-clause-front : goal.returns-clause-front
returns-clause-front c = front_of _ _ _ _ c.in_ok-append_word.ensures.ok (front_of _ _ _ _ c.in_ok-print.ensures.ok c.append_word-2.ensures.front)
