use Rattle.std.proofs.Common.{ℕ, ◌≤◌, length, List, subst, ◌≡◌}
use Rattle.khepri_types.specs.declared.pattern.PatternPart.{PatternPart}
use Rattle.khepri_types.specs.Views.{as_seen}
use Rattle.pattern_match.specs.Masks.{has}
use Rattle.pattern_match.specs.Steps.{has_next}
use Rattle.pattern_match.proofs.Stepping.{next_is}
use Rattle.pattern_match.proofs.mask.Mask.step.Goals as goal

pub returns : goal.returns
returns c =
    let steps = subst (λ (parts : List PatternPart). (i : ℕ) → i ≤ length parts → has c.next_mask.result i ≡ has_next parts (as_seen c.args.node.now) c.args.self i) c.parts.ensures.value c.next_mask.ensures in
    λ T p n seen is. next_is c.args.pattern.now T p n (as_seen c.args.node.now) c.args.self c.next_mask.result seen is steps
