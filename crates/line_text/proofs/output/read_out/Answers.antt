use Rattle.line_text.proofs.Grammar.{out_unread}
use Rattle.line_text.proofs.output.read_out.Goals as goal

pub returns-clause-none : goal.returns-clause-none
returns-clause-none c = λ e. out_unread c.args.text.now (c.match_out.ensures.bad e)
