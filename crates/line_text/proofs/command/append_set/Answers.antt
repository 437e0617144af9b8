use Rattle.khepri_terms.proofs.Printing.{front_of}
use Rattle.line_text.proofs.command.append_set.Goals as goal

pub returns-in_err-append_payload-clause-front : goal.returns-in_err-append_payload-clause-front
returns-in_err-append_payload-clause-front c = front_of _ _ _ _ c.in_ok-append_word.ensures.ok c.in_err-append_payload.ensures.front

pub returns-clause-front : goal.returns-clause-front
returns-clause-front c = front_of _ _ _ _ c.in_ok-append_word.ensures.ok (front_of _ _ _ _ c.in_ok-append_payload.ensures.ok c.append_watching.ensures.front)
