use Rattle.std.proofs.Common.{sym, ap}
use Rattle.khepri_types.specs.declared.script_words.PairWord.{PairWord}
use Rattle.khepri_types.specs.ReadingScripts.{pair_expr}
use Rattle.script_text.proofs.expression.pair_expr.Goals as goal

pub returns-in-Add : goal.returns-in-Add
returns-in-Add c = ap (λ (w : PairWord). pair_expr w (c.args.a, c.args.b)) (sym c.in-Add.is)

pub returns-in-Sub : goal.returns-in-Sub
returns-in-Sub c = ap (λ (w : PairWord). pair_expr w (c.args.a, c.args.b)) (sym c.in-Sub.is)

pub returns-in-Cat : goal.returns-in-Cat
returns-in-Cat c = ap (λ (w : PairWord). pair_expr w (c.args.a, c.args.b)) (sym c.in-Cat.is)

pub returns-in-Child : goal.returns-in-Child
returns-in-Child c = ap (λ (w : PairWord). pair_expr w (c.args.a, c.args.b)) (sym c.in-Child.is)

pub returns-in-All : goal.returns-in-All
returns-in-All c = ap (λ (w : PairWord). pair_expr w (c.args.a, c.args.b)) (sym c.in-All.is)

pub returns-in-Any : goal.returns-in-Any
returns-in-Any c = ap (λ (w : PairWord). pair_expr w (c.args.a, c.args.b)) (sym c.in-Any.is)

pub returns-in-Compare : goal.returns-in-Compare
returns-in-Compare c = ap (λ (w : PairWord). pair_expr w (c.args.a, c.args.b)) (sym c.in-Compare.is)
