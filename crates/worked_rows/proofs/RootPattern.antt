-- The pattern of the root.
use Rattle.std.proofs.Common.{[], arith}
use Rattle.khepri_types.specs.declared.limits.TheConstants.{MAX_PATTERN_PARTS, MAX_PATTERN_TEXT}
use Rattle.khepri_types.specs.PatternTexts.{pattern_text, IsPattern}

-- it has no parts, and is spelled `/`
pub root_pattern : IsPattern []
unfolding pattern_text
root_pattern = record { all = tt; few = omega arith; short = omega arith }
