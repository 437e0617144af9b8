use Rattle.pattern_match.proofs.Stepping.{bit_first}
use Rattle.pattern_match.proofs.mask.first_mask.Goals as goal

pub returns-clause-some_parts : goal.returns-clause-some_parts
returns-clause-some_parts c = bit_first
