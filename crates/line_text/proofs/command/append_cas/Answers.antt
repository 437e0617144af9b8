use Rattle.khepri_terms.proofs.Printing.{front_of}
use Rattle.line_text.proofs.command.append_cas.Goals as goal

pub returns-in_err-append_asked-clause-front : goal.returns-in_err-append_asked-clause-front
returns-in_err-append_asked-clause-front c = front_of _ _ _ _ c.in_ok-append_word.ensures.ok c.in_err-append_asked.ensures.front

pub returns-clause-front : goal.returns-clause-front
returns-clause-front c = front_of _ _ _ _ c.in_ok-append_word.ensures.ok (front_of _ _ _ _ c.in_ok-append_asked.ensures.ok c.append_set.ensures.front)
