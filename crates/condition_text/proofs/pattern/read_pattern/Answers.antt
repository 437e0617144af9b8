use Rattle.khepri_types.proofs.PatternSpelling.{pattern_takes}
use Rattle.condition_text.proofs.pattern.read_pattern.Goals as goal

pub new-requires : goal.new-requires
new-requires c = (pattern_takes c.args.text.now (c.in_ok-parts.parts, c.in_ok-parts.rest.now) c.in_ok-parts.ensures.value).1
