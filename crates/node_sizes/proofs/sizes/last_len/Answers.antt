use Rattle.std.proofs.Common.{arith}
use Rattle.node_sizes.proofs.Lasts.{last_size}
use Rattle.node_sizes.proofs.sizes.last_len.Goals as goal

pub returns : goal.returns
returns c = omega (arith, c.text_len.ensures.len, c.text_len.ensures.small, last_size c.args.path.now _ c.name.result.now c.name.ensures (omega (arith, c.len-names.ensures, c.if-names-eq0.false)))
