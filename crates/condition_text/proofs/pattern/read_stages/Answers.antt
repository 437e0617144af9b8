use Rattle.std.proofs.Common.{◌≤◌, ℕ, List, length, subst}
use Rattle.std.proofs.lemmas.Result.{IfOk-weaker}
use Rattle.khepri_types.specs.declared.limits.TheConstants.{MAX_PATTERN_PARTS}
use Rattle.khepri_types.specs.declared.pattern.PatternPart.{PatternPart}
use Rattle.khepri_types.proofs.PatternSpelling.{stages_within}
use Rattle.condition_text.proofs.pattern.read_stages.Goals as goal

pub returns-clause-within : goal.returns-clause-within
returns-clause-within c =
    IfOk-weaker c.read_many.result _ _ (λ x e. subst (λ (f : List PatternPart × List ℕ). length f.1 ≤ length c.args.text.now) e (stages_within MAX_PATTERN_PARTS c.args.text.now)) c.read_many.ensures.value
