use Rattle.std.proofs.Common.{take, map, refl}
use Rattle.std.proofs.lemmas.Result.{on_ok_weaker}
use Rattle.khepri_terms.proofs.Printing.{front_then, front_of, front_kept, three_parts}
use Rattle.khepri_types.specs.ScriptTexts.{block_joined, statement_text}
use Rattle.script_text.proofs.Blocks.{block_empty, print_on, mark_front, block_printed}
use Rattle.script_text.proofs.SaidStatement.{let_printed, put_printed, clear_printed, del_printed, hold_printed, free_printed, emit_printed, abort_printed, if_printed, each_printed}
use Rattle.script_text.proofs.print_statement.+printing.Goals as goal

pub append_statement-returns-in-Let-clause-ok : goal.append_statement-returns-in-Let-clause-ok
append_statement-returns-in-Let-clause-ok t c = on_ok_weaker c.append_let.result (let_printed _ _ _ _ _ c.in-Let.is) c.append_let.ensures.ok

pub append_statement-returns-in-Let-clause-front : goal.append_statement-returns-in-Let-clause-front
append_statement-returns-in-Let-clause-front t c = c.append_let.ensures.front

pub append_statement-returns-in-Put-clause-ok : goal.append_statement-returns-in-Put-clause-ok
append_statement-returns-in-Put-clause-ok t c = on_ok_weaker c.append_put.result (put_printed _ _ _ _ _ c.in-Put.is) c.append_put.ensures.ok

pub append_statement-returns-in-Put-clause-front : goal.append_statement-returns-in-Put-clause-front
append_statement-returns-in-Put-clause-front t c = c.append_put.ensures.front

pub append_statement-returns-in-Clear-clause-ok : goal.append_statement-returns-in-Clear-clause-ok
append_statement-returns-in-Clear-clause-ok t c = on_ok_weaker c.append_deed.result (clear_printed _ _ _ _ c.in-Clear.is) c.append_deed.ensures.ok

pub append_statement-returns-in-Clear-clause-front : goal.append_statement-returns-in-Clear-clause-front
append_statement-returns-in-Clear-clause-front t c = c.append_deed.ensures.front

pub append_statement-returns-in-Del-clause-ok : goal.append_statement-returns-in-Del-clause-ok
append_statement-returns-in-Del-clause-ok t c = on_ok_weaker c.append_deed-in-Del.result (del_printed _ _ _ _ c.in-Del.is) c.append_deed-in-Del.ensures.ok

pub append_statement-returns-in-Del-clause-front : goal.append_statement-returns-in-Del-clause-front
append_statement-returns-in-Del-clause-front t c = c.append_deed-in-Del.ensures.front

pub append_statement-returns-in-Hold-clause-ok : goal.append_statement-returns-in-Hold-clause-ok
append_statement-returns-in-Hold-clause-ok t c = on_ok_weaker c.append_hold.result (hold_printed _ _ _ _ _ _ c.in-Hold.is) c.append_hold.ensures.ok

pub append_statement-returns-in-Hold-clause-front : goal.append_statement-returns-in-Hold-clause-front
append_statement-returns-in-Hold-clause-front t c = c.append_hold.ensures.front

pub append_statement-returns-in-Free-clause-ok : goal.append_statement-returns-in-Free-clause-ok
append_statement-returns-in-Free-clause-ok t c = on_ok_weaker c.append_deed-in-Free.result (free_printed _ _ _ _ c.in-Free.is) c.append_deed-in-Free.ensures.ok

pub append_statement-returns-in-Free-clause-front : goal.append_statement-returns-in-Free-clause-front
append_statement-returns-in-Free-clause-front t c = c.append_deed-in-Free.ensures.front

pub append_statement-returns-in-Emit-clause-ok : goal.append_statement-returns-in-Emit-clause-ok
append_statement-returns-in-Emit-clause-ok t c = on_ok_weaker c.append_deed-in-Emit.result (emit_printed _ _ _ _ c.in-Emit.is) c.append_deed-in-Emit.ensures.ok

pub append_statement-returns-in-Emit-clause-front : goal.append_statement-returns-in-Emit-clause-front
append_statement-returns-in-Emit-clause-front t c = c.append_deed-in-Emit.ensures.front

pub append_statement-returns-in-Abort-clause-ok : goal.append_statement-returns-in-Abort-clause-ok
append_statement-returns-in-Abort-clause-ok t c = on_ok_weaker c.append_deed-in-Abort.result (abort_printed _ _ _ _ c.in-Abort.is) c.append_deed-in-Abort.ensures.ok

pub append_statement-returns-in-Abort-clause-front : goal.append_statement-returns-in-Abort-clause-front
append_statement-returns-in-Abort-clause-front t c = c.append_deed-in-Abort.ensures.front

pub append_statement-returns-in-Each-clause-ok : goal.append_statement-returns-in-Each-clause-ok
append_statement-returns-in-Each-clause-ok t c = on_ok_weaker c.append_each.result (each_printed _ _ _ _ _ _ c.in-Each.is) c.append_each.ensures.ok

pub append_statement-returns-in-Each-clause-front : goal.append_statement-returns-in-Each-clause-front
append_statement-returns-in-Each-clause-front t c = c.append_each.ensures.front

pub append_block-loop-i-init : goal.append_block-loop-i-init
append_block-loop-i-init t c = block_empty c.args.out.now.items

pub append_block-loop-i-preserved : goal.append_block-loop-i-preserved
append_block-loop-i-preserved t c =
    print_on c.args.block.now c.loop-i.i c.index-block-i.result c.args.out.now.items c.loop-i.out.items c.append_semicolon.new.out.items c.append_statement.new.out.items c.loop-i-test.true c.index-block-i.is c.loop-i.invariant c.in_ok-append_semicolon.ensures.ok c.in_ok-append_statement.ensures.ok

pub append_block-returns-in_err-append_semicolon-clause-front : goal.append_block-returns-in_err-append_semicolon-clause-front
append_block-returns-in_err-append_semicolon-clause-front t c =
    front_of c.args.out.now.items c.loop-i.out.items c.append_semicolon.new.out.items (block_joined (map statement_text (take c.loop-i.i c.args.block.now))) c.loop-i.invariant c.in_err-append_semicolon.ensures.front

pub append_block-returns-in_err-append_statement-clause-front : goal.append_block-returns-in_err-append_statement-clause-front
append_block-returns-in_err-append_statement-clause-front t c =
    mark_front c.args.block.now c.loop-i.i c.args.out.now.items c.loop-i.out.items c.append_semicolon.new.out.items c.append_statement.new.out.items c.loop-i.invariant c.in_ok-append_semicolon.ensures.ok c.in_err-append_statement.ensures.front

pub append_block-returns-clause-ok : goal.append_block-returns-clause-ok
append_block-returns-clause-ok t c = block_printed c.args.block.now c.loop-i.i c.args.out.now.items c.loop-i.out.items c.loop-i-test.false c.loop-i.invariant

pub append_block-returns-clause-front : goal.append_block-returns-clause-front
append_block-returns-clause-front t c = front_kept c.args.out.now.items c.loop-i.out.items c.loop-i.out.items (block_joined (map statement_text (take c.loop-i.i c.args.block.now))) c.loop-i.invariant refl

pub append_each-returns-clause-front : goal.append_each-returns-clause-front
append_each-returns-clause-front t c = front_then _ _ _ c.in_ok-append_each_head.ensures.front c.append_braced.ensures.front

pub append_braced-returns-in_err-append_block-clause-front : goal.append_braced-returns-in_err-append_block-clause-front
append_braced-returns-in_err-append_block-clause-front t c = front_then _ _ _ c.in_ok-append_word.ensures.front c.in_err-append_block.ensures.front

pub append_braced-returns-clause-front : goal.append_braced-returns-clause-front
append_braced-returns-clause-front t c = front_then _ _ _ c.in_ok-append_word.ensures.front (front_then _ _ _ c.in_ok-append_block.ensures.front c.append_word-2.ensures.front)

pub append_statement-returns-in_ok-append_braced-in-If-clause-ok : goal.append_statement-returns-in_ok-append_braced-in-If-clause-ok
append_statement-returns-in_ok-append_braced-in-If-clause-ok t c =
    on_ok_weaker c.append_braced-in-If.result
    (λ d. if_printed _ _ _ _ _ _ c.in-If.is (three_parts _ _ _ _ _ _ _ c.in_ok-append_deed-in-If.ensures.ok c.in_ok-append_braced-in-If.ensures.ok d)) c.append_braced-in-If.ensures.ok
