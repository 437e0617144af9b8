use Rattle.std.proofs.Common.{◌∙◌, List, [], sym, ap, subst}
use Rattle.std.proofs.lemmas.Result.{IfOk-weaker}
use Rattle.khepri_terms.specs.Terms.{NameText}
use Rattle.khepri_types.specs.declared.command.Command.TheVariants as command
use Rattle.khepri_types.specs.declared.reply.Reply.{Reply}
use Rattle.khepri_types.specs.Exec.{State, ended}
use Rattle.khepri_types.specs.Statements.{script}
use Rattle.tree_commands.specs.declared.run.Ready.{Ready}
use Rattle.tree_commands.specs.declared.run.Ready.TheVariants as ready
use Rattle.tree_commands.specs.Replies.{Answers, IsAnswered, state_with}
use Rattle.tree_commands.specs.Starts.{StartsAs}
use Rattle.tree_commands.proofs.Refusing.{answered_still}
use Rattle.tree_commands.proofs.run.tx.Goals as goal

pub returns-in-Refused-clause-value : goal.returns-in-Refused-clause-value
returns-in-Refused-clause-value g c = λ k.
    let T = c.args.draft.now.tree in
    let h : StartsAs c.args.script.now (ready.Refused c.in-Refused.reply) = subst (λ (r : Ready). StartsAs c.args.script.now r) c.in-Refused.is c.in_ok-reply.ensures in
    h.1 (state_with T k) c.args.args.now [] ∙ answered_still (state_with T k) c.in-Refused.reply T h.0

pub returns-in-Runs-clause-value : goal.returns-in-Runs-clause-value
returns-in-Runs-clause-value g c =
    let T = c.args.draft.now.tree in
    let U = c.run_checked-in-Runs.new.draft.tree in
    let s = c.in-Runs.checked in
    let h : StartsAs c.args.script.now (ready.Runs s) = subst (λ (r : Ready). StartsAs c.args.script.now r) c.in-Runs.is c.in_ok-reply.ensures in
    IfOk-weaker c.run_checked-in-Runs.result
    (λ (r : Reply). Answers (λ (S : State). ended S (script s c.args.args.now c.root.result S.tree)) T r U)
    (λ (r : Reply). IsAnswered (command.Tx c.args.args.now c.args.script.now) T r U)
    (λ r a k. h (state_with T k) c.args.args.now [] ∙ (ap (λ (at : List NameText). ended (state_with T k) (script s c.args.args.now at T)) (sym c.root.ensures) ∙ a k))
    c.run_checked-in-Runs.ensures.value
