use Rattle.projection_rules.proofs.Whole.{whole_makes}
use Rattle.projection_rules.proofs.laws.whole_steps.Goals as goal

pub returns : goal.returns
returns c = λ T Js h. whole_makes T Js h
