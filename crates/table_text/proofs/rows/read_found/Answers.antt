use Rattle.table_text.proofs.Grammar.{found_unread}
use Rattle.table_text.proofs.rows.read_found.Goals as goal

pub returns-clause-none : goal.returns-clause-none
returns-clause-none c = λ e. found_unread c.args.text.now (c.match_found.ensures.bad e)
