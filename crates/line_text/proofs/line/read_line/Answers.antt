use Rattle.line_text.proofs.Grammar.{line_unread}
use Rattle.line_text.proofs.line.read_line.Goals as goal

pub returns-clause-none : goal.returns-clause-none
returns-clause-none c = λ e. line_unread c.args.text.now (c.match_line.ensures.bad e)
