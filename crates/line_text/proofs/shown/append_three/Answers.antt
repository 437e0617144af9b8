use Rattle.khepri_terms.proofs.Printing.{front_of}
use Rattle.line_text.proofs.shown.append_three.Goals as goal

pub returns-in_err-append_number-2-clause-front : goal.returns-in_err-append_number-2-clause-front
returns-in_err-append_number-2-clause-front c = front_of _ _ _ _ c.in_ok-append_number.ensures.ok c.in_err-append_number-2.ensures.front

pub returns-clause-front : goal.returns-clause-front
returns-clause-front c = front_of _ _ _ _ c.in_ok-append_number.ensures.ok (front_of _ _ _ _ c.in_ok-append_number-2.ensures.ok c.append_number-3.ensures.front)
