use Rattle.std.proofs.Common.{◌≡◌, drop, map}
use Rattle.std.specs.Option.{option_copied}
use Rattle.khepri_types.specs.Conditions.{holds, all_true, any_true}
use Rattle.khepri_types.specs.Views.{seen_of}
use Rattle.khepri_types.proofs.condition.+truths.Given as goal

abbrev pub invariant-all_hold-loop-part : goal.invariant-all_hold-loop-part
invariant-all_hold-loop-part l = all_true (map (λ c. holds c (seen_of (option_copied l.seen))) (drop l.part-index l.parts)) ≡ all_true (map (λ c. holds c (seen_of (option_copied l.seen))) l.parts)

abbrev pub invariant-any_holds-loop-part : goal.invariant-any_holds-loop-part
invariant-any_holds-loop-part l = any_true (map (λ c. holds c (seen_of (option_copied l.seen))) (drop l.part-index l.parts)) ≡ any_true (map (λ c. holds c (seen_of (option_copied l.seen))) l.parts)
