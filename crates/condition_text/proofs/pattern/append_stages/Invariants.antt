use Rattle.std.proofs.Common.{◌≡◌, ◌++◌, take}
use Rattle.std.specs.List.{flat_map}
use Rattle.khepri_types.specs.PatternTexts.{stage_text}
use Rattle.condition_text.proofs.pattern.append_stages.Given as goal

abbrev pub invariant-loop-part : goal.invariant-loop-part
invariant-loop-part l = l.out.items ≡ l.fn.out.items ++ flat_map stage_text (take l.part-index l.parts)
