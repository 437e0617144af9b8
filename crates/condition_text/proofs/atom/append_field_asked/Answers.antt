use Rattle.khepri_terms.proofs.Printing.{front_of}
use Rattle.condition_text.proofs.atom.append_field_asked.Goals as goal

pub returns-clause-front : goal.returns-clause-front
returns-clause-front c = front_of _ _ _ _ c.in_ok-append_key.ensures.ok c.append_value.ensures.front
