use Rattle.std.proofs.Common.{sym, ap}
use Rattle.khepri_types.specs.declared.script_words.OneWord.{OneWord}
use Rattle.khepri_types.specs.ReadingScripts.{one_expr}
use Rattle.script_text.proofs.expression.one_expr.Goals as goal

pub returns-in-Data : goal.returns-in-Data
returns-in-Data c = ap (λ (w : OneWord). one_expr w c.args.a) (sym c.in-Data.is)

pub returns-in-Pv : goal.returns-in-Pv
returns-in-Pv c = ap (λ (w : OneWord). one_expr w c.args.a) (sym c.in-Pv.is)

pub returns-in-Cv : goal.returns-in-Cv
returns-in-Cv c = ap (λ (w : OneWord). one_expr w c.args.a) (sym c.in-Cv.is)

pub returns-in-Kids : goal.returns-in-Kids
returns-in-Kids c = ap (λ (w : OneWord). one_expr w c.args.a) (sym c.in-Kids.is)

pub returns-in-Last : goal.returns-in-Last
returns-in-Last c = ap (λ (w : OneWord). one_expr w c.args.a) (sym c.in-Last.is)

pub returns-in-Not : goal.returns-in-Not
returns-in-Not c = ap (λ (w : OneWord). one_expr w c.args.a) (sym c.in-Not.is)
