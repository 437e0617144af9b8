use Rattle.std.proofs.Common.{sym, ap}
use Rattle.khepri_types.specs.declared.script_words.DeedWord.{DeedWord}
use Rattle.khepri_types.specs.ReadingScripts.{deed}
use Rattle.script_text.proofs.statement.deed.Goals as goal

pub returns-in-Clear : goal.returns-in-Clear
returns-in-Clear c = ap (λ (w : DeedWord). deed w c.args.a) (sym c.in-Clear.is)

pub returns-in-Del : goal.returns-in-Del
returns-in-Del c = ap (λ (w : DeedWord). deed w c.args.a) (sym c.in-Del.is)

pub returns-in-Free : goal.returns-in-Free
returns-in-Free c = ap (λ (w : DeedWord). deed w c.args.a) (sym c.in-Free.is)

pub returns-in-Emit : goal.returns-in-Emit
returns-in-Emit c = ap (λ (w : DeedWord). deed w c.args.a) (sym c.in-Emit.is)

pub returns-in-Abort : goal.returns-in-Abort
returns-in-Abort c = ap (λ (w : DeedWord). deed w c.args.a) (sym c.in-Abort.is)
