use Rattle.line_text.proofs.Grammar.{command_unread}
use Rattle.line_text.proofs.command.read_command.Goals as goal

pub returns-clause-none : goal.returns-clause-none
returns-clause-none c = λ e. command_unread c.args.text.now (c.match_command.ensures.bad e)
