use Rattle.khepri_terms.proofs.Printing.{front_of}
use Rattle.line_text.proofs.reply.append_done.Goals as goal

pub returns-clause-front : goal.returns-clause-front
returns-clause-front c = front_of _ _ _ _ c.in_ok-append_number.ensures.ok c.append_values.ensures.front
