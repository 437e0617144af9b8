use Rattle.std.proofs.Common.{◌≡◌}
use Rattle.std.proofs.lemmas.Result.{IfOk-weaker}
use Rattle.khepri_types.specs.declared.reply.Reply.{Reply}
use Rattle.khepri_types.specs.Exec.{State, dropped, settle_within_limits}
use Rattle.tree_commands.specs.Replies.{answered, Answers}
use Rattle.tree_commands.proofs.Settled.{dropped_so}
use Rattle.tree_commands.proofs.write.drop_nodes.Goals as goal

pub returns-clause-value : goal.returns-clause-value
returns-clause-value g c =
    let T = c.args.draft.now.tree in
    let V = c.drop_all.new.self.tree in
    let U = c.settle_within_limits.new.draft.tree in
    let n = c.in_ok-count.count in
    IfOk-weaker c.settle_within_limits.result
    (λ (r : Reply). (S : State) → settle_within_limits S V n ≡ answered S r U)
    (λ (r : Reply). Answers (λ (S : State). dropped S c.args.paths.now) T r U)
    (λ r h. dropped_so T V c.args.paths.now n r U c.in_ok-count.ensures.tree c.in_ok-count.ensures.count h)
    c.settle_within_limits.ensures.value
