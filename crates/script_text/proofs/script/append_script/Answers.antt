use Rattle.khepri_terms.proofs.Printing.{front_then}
use Rattle.script_text.proofs.script.append_script.Goals as goal

pub returns-in_err-append_block-clause-front : goal.returns-in_err-append_block-clause-front
returns-in_err-append_block-clause-front c = front_then _ _ _ c.in_ok-append_word.ensures.front c.in_err-append_block.ensures.front

pub returns-clause-front : goal.returns-clause-front
returns-clause-front c = front_then _ _ _ c.in_ok-append_word.ensures.front (front_then _ _ _ c.in_ok-append_block.ensures.front c.append_word-2.ensures.front)
