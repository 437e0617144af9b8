use Rattle.khepri_terms.proofs.Printing.{front_then}
use Rattle.script_text.proofs.printing.append_quoted_closed.Goals as goal

pub returns-clause-front : goal.returns-clause-front
returns-clause-front c = front_then _ _ _ c.in_ok-append_quoted.ensures.front c.append_word.ensures.front
