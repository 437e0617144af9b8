use Rattle.std.proofs.Common.{◌+◌, take, ap, ◌∙◌, arith}
use Rattle.line_io.proofs.LineLemmas.{shown-some, shown-last_line, take_twice}
use Rattle.line_io.proofs.cutting.final_line.Goals as goal

pub returns : goal.returns
returns c = λ text e.
    c.sized_line.ensures ∙ (shown-some c.args.limit c.args.line.items (omega arith)
    ∙ shown-last_line c.args.limit c.args.line.items text (ap (take (c.args.limit + 2)) e ∙ take_twice (c.args.limit + 2) text))
