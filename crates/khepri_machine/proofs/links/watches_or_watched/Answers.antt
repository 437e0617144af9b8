use Rattle.std.proofs.Common.{◌∙◌, sym, arith}
use Rattle.khepri_types.specs.Views.{node_of}
use Rattle.keep_while.proofs.Failures.{none-seen}
use Rattle.khepri_machine.proofs.Following.{nothing-stands, nothing-watched}
use Rattle.khepri_machine.proofs.links.watches_or_watched.Goals as goal

pub returns-in_default : goal.returns-in_default
returns-in_default g c = λ _.
    let d = c.args.draft.now in
    nothing-stands d.base d.tree c.args.watchers.now c.args.path.now c.requires.index (sym c.is_linked.ensures ∙ c.if-is_linked.false) (none-seen d.tree c.args.path.now c.in_default.ensures.node)

pub returns-then-node-eq0 : goal.returns-then-node-eq0
returns-then-node-eq0 g c = λ _.
    let d = c.args.draft.now in
    nothing-watched d.base d.tree c.args.watchers.now c.args.path.now (node_of c.in-Some.node) c.requires.index (sym c.is_linked.ensures ∙ c.if-is_linked.false) c.in-Some.ensures.watches (omega (arith, c.if-node-eq0.true))
