use Rattle.khepri_terms.proofs.Printing.{front_of}
use Rattle.condition_text.proofs.atom.append_number_asked.Goals as goal

pub returns-in_err-append_comparison-clause-front : goal.returns-in_err-append_comparison-clause-front
returns-in_err-append_comparison-clause-front c = front_of _ _ _ _ c.in_ok-append_word.ensures.ok c.in_err-append_comparison.ensures.front

pub returns-clause-front : goal.returns-clause-front
returns-clause-front c = front_of _ _ _ _ c.in_ok-append_word.ensures.ok (front_of _ _ _ _ c.in_ok-append_comparison.ensures.ok c.append_word-2.ensures.front)
