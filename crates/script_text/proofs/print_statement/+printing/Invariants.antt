use Rattle.std.proofs.Common.{◌≡◌, ◌++◌, take, map}
use Rattle.khepri_types.specs.ScriptTexts.{block_joined, statement_text}
use Rattle.script_text.proofs.print_statement.+printing.Given as goal

abbrev pub invariant-append_block-loop-i : goal.invariant-append_block-loop-i
invariant-append_block-loop-i l = l.out.items ≡ l.fn.out.items ++ block_joined (map statement_text (take l.i l.block))
