use Rattle.std.proofs.Common.{◌∙◌, List, length, ap}
use Rattle.khepri_types.specs.declared.pattern.PatternPart.{PatternPart}
use Rattle.pattern_match.specs.Masks.{has}
use Rattle.pattern_match.proofs.Stepping.{accepted}
use Rattle.pattern_match.proofs.mask.Mask.accepts.Goals as goal

pub returns : goal.returns
returns c = λ T p stand is. c.has.ensures ∙ (ap (λ (parts : List PatternPart). has c.args.self (length parts)) c.parts.ensures.value ∙ accepted c.args.pattern.now T p c.args.self stand is)
