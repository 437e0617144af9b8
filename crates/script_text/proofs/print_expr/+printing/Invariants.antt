-- The parts of an expression are smaller than it.
use Rattle.std.proofs.Common.{◌+◌, ◌*◌, max}
use Rattle.khepri_types.proofs.script.Expr.TheLaws.{the_size}
use Rattle.script_text.proofs.print_expr.+printing.Given as goal

abbrev pub decreases-append_expr : goal.decreases-append_expr
decreases-append_expr l = 4 * the_size l.e.now

abbrev pub decreases-append_closed : goal.decreases-append_closed
decreases-append_closed l = 4 * the_size l.a.now + 1

abbrev pub decreases-append_one : goal.decreases-append_one
decreases-append_one l = 4 * the_size l.a.now + 2

abbrev pub decreases-append_keyed : goal.decreases-append_keyed
decreases-append_keyed l = 4 * the_size l.a.now + 1

abbrev pub decreases-append_tested : goal.decreases-append_tested
decreases-append_tested l = 4 * the_size l.a.now + 1

abbrev pub decreases-append_int_field : goal.decreases-append_int_field
decreases-append_int_field l = 4 * the_size l.a.now + 2

abbrev pub decreases-append_text_field : goal.decreases-append_text_field
decreases-append_text_field l = 4 * the_size l.a.now + 2

abbrev pub decreases-append_two : goal.decreases-append_two
decreases-append_two l = 4 * max (the_size l.a.now) (the_size l.b.now) + 1

abbrev pub decreases-append_pair : goal.decreases-append_pair
decreases-append_pair l = 4 * max (the_size l.a.now) (the_size l.b.now) + 2

abbrev pub decreases-append_with : goal.decreases-append_with
decreases-append_with l = 4 * max (the_size l.a.now) (the_size l.b.now) + 3

abbrev pub decreases-append_compared : goal.decreases-append_compared
decreases-append_compared l = 4 * max (the_size l.a.now) (the_size l.b.now) + 3
