use Rattle.std.proofs.Common.{◌≡◌, ◌-◌, ◌+◌, ◌*◌, ◌≤◌, length}
use Rattle.khepri_types.specs.ReadingConditions.{nested_at, some_asked}
use Rattle.condition_text.proofs.Parts.{past}
use Rattle.condition_text.proofs.condition.+reading.Given as goal

abbrev pub invariant-read_parts-parts : goal.invariant-read_parts-parts
invariant-read_parts-parts l = record {
  read : some_asked (nested_at l.nesting) l.left l.left l.text ≡ past l.parts (some_asked (nested_at l.nesting) (l.left - length l.parts) l.more l.rest);
  few : length l.parts ≤ l.left;
}

abbrev pub decreases-read_parts-parts : goal.decreases-read_parts-parts
decreases-read_parts-parts l = l.left - length l.parts

abbrev pub decreases-read_nested : goal.decreases-read_nested
decreases-read_nested l = l.nesting * 8

abbrev pub decreases-read_layer : goal.decreases-read_layer
decreases-read_layer l = l.nesting * 8 + 4

abbrev pub decreases-read_all_asked : goal.decreases-read_all_asked
decreases-read_all_asked l = l.nesting * 8 + 3

abbrev pub decreases-read_any_asked : goal.decreases-read_any_asked
decreases-read_any_asked l = l.nesting * 8 + 3

abbrev pub decreases-read_not_asked : goal.decreases-read_not_asked
decreases-read_not_asked l = l.nesting * 8 + 1

abbrev pub decreases-read_list : goal.decreases-read_list
decreases-read_list l = l.nesting * 8 + 2

abbrev pub decreases-read_parts : goal.decreases-read_parts
decreases-read_parts l = l.nesting * 8 + 1
