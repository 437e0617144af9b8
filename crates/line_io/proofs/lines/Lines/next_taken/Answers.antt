use Rattle.std.proofs.Common.{◌≡◌, false, sym, ◌∙◌}
use Rattle.std.proofs.lemmas.Result.{IfOk-weaker}
use Rattle.line_io.proofs.Calls.{takes_next}
use Rattle.line_io.proofs.lines.Lines.next_taken.Goals as goal

pub returns-clause-taken : goal.returns-clause-taken
returns-clause-taken c =
    let going : c.args.self.now.ended ≡ false = sym c.has_ended.ensures.ended ∙ c.if-has_ended.false in
    IfOk-weaker c.whole_line.result _ _ (λ next found. takes_next c.args.self.now c.whole_line.new.self next going found) c.whole_line.ensures.found
