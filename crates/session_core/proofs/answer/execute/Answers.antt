use Rattle.std.proofs.Common.{◌++◌, refl}
use Rattle.std.proofs.lemmas.Result.{on_ok_weaker}
use Rattle.khepri_types.specs.declared.out.EntryText.TheVariants as text
use Rattle.khepri_types.specs.declared.out.OutLine.TheVariants as out
use Rattle.khepri_types.specs.Calm.{with_lf}
use Rattle.session_core.proofs.Executing.{text_of_command}
use Rattle.session_core.proofs.answer.execute.Goals as goal

pub returns-in-Ok-clause-text : goal.returns-in-Ok-clause-text
returns-in-Ok-clause-text c =
    on_ok_weaker c.put_applied.result
    (text_of_command c.args.line c.position.result c.args.machine.now c.exec_uncounted.new.self c.args.cmd c.in-Ok.reply c.args.out.now.items (c.args.out.now.items ++ with_lf (out.Entry c.position.result c.args.line (text.Command c.args.cmd))) c.put_applied.new.out.items c.in-Ok.ensures c.position.ensures refl)
    c.put_applied.ensures.ok
