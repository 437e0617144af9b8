use Rattle.std.proofs.Common.{arith}
use Rattle.node_sizes.proofs.Lasts.{last_is}
use Rattle.tree_overlay.proofs.draft.last_name.Goals as goal

pub returns : goal.returns
returns c = last_is c.args.path.now _ c.name.result.now c.name.ensures (omega (arith, c.len-names.ensures, c.if-names-eq0.false))
