use Rattle.pattern_match.proofs.Stepping.{bit_set, bit_kept}
use Rattle.pattern_match.proofs.mask.Mask.with.Goals as goal

pub returns-clause-same : goal.returns-clause-same
returns-clause-same c = bit_set c.args.self.bits c.args.count c.requires

pub returns-clause-other : goal.returns-clause-other
returns-clause-other c = bit_kept c.args.self.bits c.args.count c.requires
