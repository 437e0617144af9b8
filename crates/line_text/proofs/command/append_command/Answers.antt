use Rattle.std.proofs.Common.{◌++◌, sym, ap, ◌∙◌}
use Rattle.std.proofs.lemmas.Result.{on_ok_weaker}
use Rattle.khepri_types.specs.declared.command.Command.{Command}
use Rattle.khepri_types.specs.Texts.{command_text}
use Rattle.line_text.proofs.command.append_command.Goals as goal

pub returns-in-Put-clause-ok : goal.returns-in-Put-clause-ok
unfolding command_text
returns-in-Put-clause-ok c = on_ok_weaker c.append_assigned.result (λ e. e ∙ ap (λ (x : Command). c.args.out.now.items ++ command_text x) (sym c.in-Put.is)) c.append_assigned.ensures.ok

pub returns-in-Put-clause-front : goal.returns-in-Put-clause-front
returns-in-Put-clause-front c = c.append_assigned.ensures.front

pub returns-in-Create-clause-ok : goal.returns-in-Create-clause-ok
unfolding command_text
returns-in-Create-clause-ok c = on_ok_weaker c.append_assigned-in-Create.result (λ e. e ∙ ap (λ (x : Command). c.args.out.now.items ++ command_text x) (sym c.in-Create.is)) c.append_assigned-in-Create.ensures.ok

pub returns-in-Create-clause-front : goal.returns-in-Create-clause-front
returns-in-Create-clause-front c = c.append_assigned-in-Create.ensures.front

pub returns-in-Update-clause-ok : goal.returns-in-Update-clause-ok
unfolding command_text
returns-in-Update-clause-ok c = on_ok_weaker c.append_assigned-in-Update.result (λ e. e ∙ ap (λ (x : Command). c.args.out.now.items ++ command_text x) (sym c.in-Update.is)) c.append_assigned-in-Update.ensures.ok

pub returns-in-Update-clause-front : goal.returns-in-Update-clause-front
returns-in-Update-clause-front c = c.append_assigned-in-Update.ensures.front

pub returns-in-Cas-clause-ok : goal.returns-in-Cas-clause-ok
unfolding command_text
returns-in-Cas-clause-ok c = on_ok_weaker c.append_cas.result (λ e. e ∙ ap (λ (x : Command). c.args.out.now.items ++ command_text x) (sym c.in-Cas.is)) c.append_cas.ensures.ok

pub returns-in-Cas-clause-front : goal.returns-in-Cas-clause-front
returns-in-Cas-clause-front c = c.append_cas.ensures.front

pub returns-in-Clear-clause-ok : goal.returns-in-Clear-clause-ok
unfolding command_text
returns-in-Clear-clause-ok c = on_ok_weaker c.append_path.result (λ e. e ∙ ap (λ (x : Command). c.args.out.now.items ++ command_text x) (sym c.in-Clear.is)) c.append_path.ensures.ok

pub returns-in-Clear-clause-front : goal.returns-in-Clear-clause-front
returns-in-Clear-clause-front c = c.append_path.ensures.front

pub returns-in-Del-clause-ok : goal.returns-in-Del-clause-ok
unfolding command_text
returns-in-Del-clause-ok c = on_ok_weaker c.append_path-in-Del.result (λ e. e ∙ ap (λ (x : Command). c.args.out.now.items ++ command_text x) (sym c.in-Del.is)) c.append_path-in-Del.ensures.ok

pub returns-in-Del-clause-front : goal.returns-in-Del-clause-front
returns-in-Del-clause-front c = c.append_path-in-Del.ensures.front

pub returns-in-Delmany-clause-ok : goal.returns-in-Delmany-clause-ok
unfolding command_text
returns-in-Delmany-clause-ok c = on_ok_weaker c.append_scan.result (λ e. e ∙ ap (λ (x : Command). c.args.out.now.items ++ command_text x) (sym c.in-Delmany.is)) c.append_scan.ensures.ok

pub returns-in-Delmany-clause-front : goal.returns-in-Delmany-clause-front
returns-in-Delmany-clause-front c = c.append_scan.ensures.front

pub returns-in-Get-clause-ok : goal.returns-in-Get-clause-ok
unfolding command_text
returns-in-Get-clause-ok c = on_ok_weaker c.append_path-in-Get.result (λ e. e ∙ ap (λ (x : Command). c.args.out.now.items ++ command_text x) (sym c.in-Get.is)) c.append_path-in-Get.ensures.ok

pub returns-in-Get-clause-front : goal.returns-in-Get-clause-front
returns-in-Get-clause-front c = c.append_path-in-Get.ensures.front

pub returns-in-Many-clause-ok : goal.returns-in-Many-clause-ok
unfolding command_text
returns-in-Many-clause-ok c = on_ok_weaker c.append_many.result (λ e. e ∙ ap (λ (x : Command). c.args.out.now.items ++ command_text x) (sym c.in-Many.is)) c.append_many.ensures.ok

pub returns-in-Many-clause-front : goal.returns-in-Many-clause-front
returns-in-Many-clause-front c = c.append_many.ensures.front

pub returns-in-Count-clause-ok : goal.returns-in-Count-clause-ok
unfolding command_text
returns-in-Count-clause-ok c = on_ok_weaker c.append_scan-in-Count.result (λ e. e ∙ ap (λ (x : Command). c.args.out.now.items ++ command_text x) (sym c.in-Count.is)) c.append_scan-in-Count.ensures.ok

pub returns-in-Count-clause-front : goal.returns-in-Count-clause-front
returns-in-Count-clause-front c = c.append_scan-in-Count.ensures.front

pub returns-in-Tx-clause-ok : goal.returns-in-Tx-clause-ok
unfolding command_text
returns-in-Tx-clause-ok c = on_ok_weaker c.append_tx.result (λ e. e ∙ ap (λ (x : Command). c.args.out.now.items ++ command_text x) (sym c.in-Tx.is)) c.append_tx.ensures.ok

pub returns-in-Tx-clause-front : goal.returns-in-Tx-clause-front
returns-in-Tx-clause-front c = c.append_tx.ensures.front

pub returns-in-Run-clause-ok : goal.returns-in-Run-clause-ok
unfolding command_text
returns-in-Run-clause-ok c = on_ok_weaker c.append_run.result (λ e. e ∙ ap (λ (x : Command). c.args.out.now.items ++ command_text x) (sym c.in-Run.is)) c.append_run.ensures.ok

pub returns-in-Run-clause-front : goal.returns-in-Run-clause-front
returns-in-Run-clause-front c = c.append_run.ensures.front
