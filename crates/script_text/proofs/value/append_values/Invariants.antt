use Rattle.std.proofs.Common.{◌≡◌, ◌++◌, take}
use Rattle.std.specs.List.{flat_map}
use Rattle.khepri_types.specs.Texts.{spaced_value_text}
use Rattle.script_text.proofs.value.append_values.Given as goal

abbrev pub invariant-loop-value : goal.invariant-loop-value
invariant-loop-value l = l.out.items ≡ l.fn.out.items ++ flat_map spaced_value_text (take l.value-index l.values)
