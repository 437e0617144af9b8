use Rattle.std.proofs.Common.{◌≡◌, ◌∙◌, ◌<◌, List, [], length, sym, ap, arith}
use Rattle.std.proofs.lemmas.Result.{IfOk-weaker}
use Rattle.khepri_terms.specs.Terms.{NameText}
use Rattle.khepri_types.specs.declared.command.Command.TheVariants as command
use Rattle.khepri_types.specs.declared.reply.Reply.{Reply}
use Rattle.khepri_types.specs.Exec.{State, dropped}
use Rattle.khepri_types.specs.Paths.{is_under}
use Rattle.khepri_types.specs.Patterns.{matching}
use Rattle.tree_commands.specs.Replies.{Answers, IsAnswered, state_with}
use Rattle.tree_commands.proofs.Sparing.{some_unmatched, delete_all_some}
use Rattle.tree_commands.proofs.write.delmany.Goals as goal

pub drop_nodes-requires-clause-below : goal.drop_nodes-requires-clause-below
drop_nodes-requires-clause-below g c =
    let parts = c.args.pattern.now in
    let T = c.args.draft.now.tree in
    let all : c.as_slice.result.now ≡ matching parts T = c.as_slice.ensures.value ∙ c.in_ok-paths.ensures in
    let some : 0 < length parts = omega (arith, ap length c.parts.ensures.value) in
    ap (λ (ps : List (List NameText)). is_under ps []) all ∙ some_unmatched parts T some

pub returns-clause-value : goal.returns-clause-value
returns-clause-value g c =
    let parts = c.args.pattern.now in
    let T = c.args.draft.now.tree in
    let U = c.drop_nodes.new.draft.tree in
    let all : c.as_slice.result.now ≡ matching parts T = c.as_slice.ensures.value ∙ c.in_ok-paths.ensures in
    let some : 0 < length parts = omega (arith, ap length c.parts.ensures.value) in
    IfOk-weaker c.drop_nodes.result
    (λ (r : Reply). Answers (λ (S : State). dropped S c.as_slice.result.now) T r U)
    (λ (r : Reply). IsAnswered (command.Delmany parts) T r U)
    (λ r h k. delete_all_some (state_with T k) parts some ∙ (ap (dropped (state_with T k)) (sym all) ∙ h k))
    c.drop_nodes.ensures.value
