-- Each call reads fewer blocks in one another, or comes nearer to one that does.
use Rattle.std.proofs.Common.{◌≡◌, ◌-◌, ◌+◌, ◌*◌, ◌≤◌, length}
use Rattle.khepri_types.specs.Items.{some_items}
use Rattle.script_text.specs.Forms.{statement_in}
use Rattle.script_text.proofs.Lists.{past}
use Rattle.script_text.proofs.statement.+reading.Given as goal

abbrev pub invariant-read_statements-statements : goal.invariant-read_statements-statements
invariant-read_statements-statements l = record {
  read : some_items l.close (statement_in l.nesting) l.left l.left l.text ≡ past l.block (some_items l.close (statement_in l.nesting) (l.left - length l.block) l.more l.rest);
  few : length l.block ≤ l.left;
}

abbrev pub decreases-read_statements-statements : goal.decreases-read_statements-statements
decreases-read_statements-statements l = l.left - length l.block

abbrev pub decreases-read_block : goal.decreases-read_block
decreases-read_block l = l.nesting * 9

abbrev pub decreases-read_braced : goal.decreases-read_braced
decreases-read_braced l = l.nesting * 9 + 1

abbrev pub decreases-read_branches : goal.decreases-read_branches
decreases-read_branches l = l.nesting * 9 + 2

abbrev pub decreases-read_turns : goal.decreases-read_turns
decreases-read_turns l = l.nesting * 9 + 2

abbrev pub decreases-read_if : goal.decreases-read_if
decreases-read_if l = l.nesting * 9 + 3

abbrev pub decreases-read_each : goal.decreases-read_each
decreases-read_each l = l.nesting * 9 + 3

abbrev pub decreases-read_arguments : goal.decreases-read_arguments
decreases-read_arguments l = l.nesting * 9 + 4

abbrev pub decreases-read_worded : goal.decreases-read_worded
decreases-read_worded l = l.nesting * 9 + 5

abbrev pub decreases-read_statement : goal.decreases-read_statement
decreases-read_statement l = l.nesting * 9 + 6

abbrev pub decreases-read_statements : goal.decreases-read_statements
decreases-read_statements l = l.nesting * 9 + 7

abbrev pub decreases-read_items : goal.decreases-read_items
decreases-read_items l = l.nesting * 9 + 8
