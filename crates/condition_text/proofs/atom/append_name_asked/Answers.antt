use Rattle.khepri_terms.proofs.Printing.{front_of}
use Rattle.condition_text.proofs.atom.append_name_asked.Goals as goal

pub returns-in_err-append_glob-clause-front : goal.returns-in_err-append_glob-clause-front
returns-in_err-append_glob-clause-front c = front_of _ _ _ _ c.in_ok-append_word.ensures.ok c.in_err-append_glob.ensures.front

pub returns-clause-front : goal.returns-clause-front
returns-clause-front c = front_of _ _ _ _ c.in_ok-append_word.ensures.ok (front_of _ _ _ _ c.in_ok-append_glob.ensures.ok c.append_word-2.ensures.front)
