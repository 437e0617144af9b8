use Rattle.khepri_terms.proofs.Printing.{front_then}
use Rattle.script_text.proofs.print_statement.append_hold.Goals as goal

pub returns-in_err-append_two-clause-front : goal.returns-in_err-append_two-clause-front
returns-in_err-append_two-clause-front c = front_then _ _ _ c.in_ok-append_word.ensures.front c.in_err-append_two.ensures.front

pub returns-clause-front : goal.returns-clause-front
returns-clause-front c = front_then _ _ _ c.in_ok-append_word.ensures.front (front_then _ _ _ c.in_ok-append_two.ensures.front c.append_asked.ensures.front)
