use Rattle.pattern_match.proofs.Stepping.{first_is}
use Rattle.pattern_match.proofs.mask.Mask.start.Goals as goal

pub returns : goal.returns
returns c = λ T. first_is c.args.pattern.now T c.first_mask.result c.first_mask.ensures.no_part c.first_mask.ensures.some_parts
