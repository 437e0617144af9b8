use Rattle.std.proofs.Common.{◌∙◌, sym}
use Rattle.std.specs.Prelude.{if◌then◌else◌}
use Rattle.khepri_types.specs.declared.reply.Reply.TheVariants as reply
use Rattle.khepri_types.specs.Conditions.{holds_at}
use Rattle.khepri_types.specs.Exec.{write, refused}
use Rattle.tree_commands.specs.Replies.{state_with}
use Rattle.tree_commands.proofs.Refusing.{refused_so}
use Rattle.tree_commands.proofs.write.cas.Goals as goal

pub returns-in-Some-clause-value : goal.returns-in-Some-clause-value
returns-in-Some-clause-value g c = λ k.
    let T = c.args.draft.now.tree in
    let S = state_with T k in
    let p = c.args.path.now in
    let x = c.args.payload.now in
    let w = c.args.watch.now in
    refused_so S p x w (if holds_at c.args.cond.now T p then write S p x w else refused S reply.NoMismatch) c.in-Some.reply T (sym c.in-Some.is ∙ c.unwritable.ensures)
