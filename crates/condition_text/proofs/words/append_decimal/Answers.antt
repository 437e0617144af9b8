use Rattle.std.proofs.Common.{◌∙◌, ◌++◌, List, ℕ, sym, ap}
use Rattle.std.proofs.lemmas.Fmt.{decimal_digit}
use Rattle.std.proofs.lemmas.Result.{on_ok_weaker}
use Rattle.condition_text.proofs.words.append_decimal.Goals as goal

pub returns-then-number-lt10-clause-ok : goal.returns-then-number-lt10-clause-ok
returns-then-number-lt10-clause-ok c =
    on_ok_weaker c.append_word.result (λ e. e ∙ ap (λ (t : List ℕ). c.args.out.now.items ++ t) (sym (decimal_digit c.args.number c.if-number-lt10.true))) c.append_word.ensures.ok
