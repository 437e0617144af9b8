use Rattle.std.proofs.Common.{◌∙◌, sym, ap}
use Rattle.khepri_types.specs.declared.reply.Reply.{Reply}
use Rattle.khepri_types.specs.declared.reply.Reply.TheVariants as reply
use Rattle.khepri_types.specs.declared.node.Payload.{Payload}
use Rattle.khepri_types.specs.Exec.{passed_over}
use Rattle.khepri_types.specs.Views.{as_seen, seen_of}
use Rattle.tree_commands.specs.Replies.{state_with}
use Rattle.tree_commands.proofs.Seeing.{unseen_shown, seen_shown}
use Rattle.tree_commands.proofs.read.get.Goals as goal

pub returns-in_default-clause-value : goal.returns-in_default-clause-value
returns-in_default-clause-value g c = λ k.
    let T = c.args.draft.now.tree in
    ap (λ (r : Reply). (r, passed_over (state_with T k))) (sym (unseen_shown T c.args.path.now (sym (ap seen_of c.in_default.is) ∙ c.node.ensures.node)))

pub returns-clause-value : goal.returns-clause-value
returns-clause-value g c = λ k.
    let T = c.args.draft.now.tree in
    let s = as_seen c.in-Some.node in
    ap (λ (r : Reply). (r, passed_over (state_with T k))) (sym (
    ap (λ (x : Payload). reply.Node s.pv s.cv s.kids x) c.in_ok-copy.ensures
    ∙ seen_shown T c.args.path.now s (sym (ap seen_of c.in-Some.is) ∙ c.node.ensures.node)
    ))
