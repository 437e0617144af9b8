use Rattle.khepri_terms.proofs.Printing.{front_of}
use Rattle.line_text.proofs.output.append_entry_line.Goals as goal

pub returns-in_err-append_word-clause-front : goal.returns-in_err-append_word-clause-front
returns-in_err-append_word-clause-front c = front_of _ _ _ _ c.in_ok-append_numbers.ensures.ok c.in_err-append_word.ensures.front

pub returns-clause-front : goal.returns-clause-front
returns-clause-front c = front_of _ _ _ _ c.in_ok-append_numbers.ensures.ok (front_of _ _ _ _ c.in_ok-append_word.ensures.ok c.append_entry.ensures.front)
