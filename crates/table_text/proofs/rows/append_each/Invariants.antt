use Rattle.std.proofs.Common.{◌≡◌, ◌++◌, take}
use Rattle.std.specs.List.{flat_map}
use Rattle.khepri_types.specs.RowTexts.{shown_row_text}
use Rattle.table_text.proofs.rows.append_each.Given as goal

abbrev pub invariant-loop-row : goal.invariant-loop-row
invariant-loop-row l = l.out.items ≡ l.fn.out.items ++ flat_map shown_row_text (take l.row-index l.rows)
