use Rattle.std.proofs.Common.{take, refl}
use Rattle.std.specs.List.{flat_map}
use Rattle.khepri_terms.proofs.Printing.{front_of, front_kept}
use Rattle.khepri_types.specs.RowTexts.{shown_row_text}
use Rattle.condition_text.proofs.Loops.{none_yet, one_more, all_done}
use Rattle.table_text.proofs.rows.append_each.Goals as goal

pub loop-row-init : goal.loop-row-init
loop-row-init c = none_yet shown_row_text c.args.out.now.items

pub loop-row-preserved : goal.loop-row-preserved
loop-row-preserved c =
    one_more shown_row_text c.args.rows.now c.loop-row.row-index c.row-item.result c.args.out.now.items c.loop-row.out.items c.append_row.new.out.items c.loop-row-test.true c.row-item.is c.loop-row.invariant c.in_ok-append_row.ensures.ok

pub returns-in_err-append_row-clause-front : goal.returns-in_err-append_row-clause-front
returns-in_err-append_row-clause-front c =
    front_of c.args.out.now.items c.loop-row.out.items c.append_row.new.out.items (flat_map shown_row_text (take c.loop-row.row-index c.args.rows.now)) c.loop-row.invariant c.in_err-append_row.ensures.front

pub returns-clause-ok : goal.returns-clause-ok
returns-clause-ok c = all_done shown_row_text c.args.rows.now c.loop-row.row-index c.args.out.now.items c.loop-row.out.items c.loop-row-test.false c.loop-row.invariant

pub returns-clause-front : goal.returns-clause-front
returns-clause-front c =
    front_kept c.args.out.now.items c.loop-row.out.items c.loop-row.out.items (flat_map shown_row_text (take c.loop-row.row-index c.args.rows.now)) c.loop-row.invariant refl
