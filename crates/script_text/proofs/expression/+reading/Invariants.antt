-- Each call reads fewer in one another, or comes nearer to one that does.
use Rattle.std.proofs.Common.{◌+◌, ◌*◌}
use Rattle.script_text.proofs.expression.+reading.Given as goal

abbrev pub decreases-read_nested : goal.decreases-read_nested
decreases-read_nested l = l.nesting * 8

abbrev pub decreases-read_boxed : goal.decreases-read_boxed
decreases-read_boxed l = l.nesting * 8 + 1

abbrev pub decreases-read_pair : goal.decreases-read_pair
decreases-read_pair l = l.nesting * 8 + 2

abbrev pub decreases-read_key_boxed : goal.decreases-read_key_boxed
decreases-read_key_boxed l = l.nesting * 8 + 2

abbrev pub decreases-read_pair_form : goal.decreases-read_pair_form
decreases-read_pair_form l = l.nesting * 8 + 3

abbrev pub decreases-read_one_form : goal.decreases-read_one_form
decreases-read_one_form l = l.nesting * 8 + 3

abbrev pub decreases-read_int_field : goal.decreases-read_int_field
decreases-read_int_field l = l.nesting * 8 + 3

abbrev pub decreases-read_text_field : goal.decreases-read_text_field
decreases-read_text_field l = l.nesting * 8 + 3

abbrev pub decreases-read_with : goal.decreases-read_with
decreases-read_with l = l.nesting * 8 + 3

abbrev pub decreases-read_test : goal.decreases-read_test
decreases-read_test l = l.nesting * 8 + 3

abbrev pub decreases-read_arguments : goal.decreases-read_arguments
decreases-read_arguments l = l.nesting * 8 + 4

abbrev pub decreases-read_form : goal.decreases-read_form
decreases-read_form l = l.nesting * 8 + 5

abbrev pub decreases-read_layer : goal.decreases-read_layer
decreases-read_layer l = l.nesting * 8 + 6
