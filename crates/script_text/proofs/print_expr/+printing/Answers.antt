use Rattle.khepri_terms.proofs.Printing.{front_then}
use Rattle.std.proofs.lemmas.Result.{on_ok_weaker}
use Rattle.script_text.proofs.SaidExpr.{int_printed, text_printed, path_printed, rec_printed, register_printed, add_printed, sub_printed, cat_printed, int_field_printed, text_field_printed, data_printed, pv_printed, cv_printed, kids_printed, last_printed, child_printed, with_printed, compare_printed, test_printed, not_printed, all_printed, any_printed}
use Rattle.script_text.proofs.print_expr.+printing.Goals as goal

pub append_expr-returns-in-Int-clause-ok : goal.append_expr-returns-in-Int-clause-ok
append_expr-returns-in-Int-clause-ok t c = on_ok_weaker c.append_int.result (int_printed _ _ _ _ c.in-Int.is) c.append_int.ensures.ok

pub append_expr-returns-in-Int-clause-front : goal.append_expr-returns-in-Int-clause-front
append_expr-returns-in-Int-clause-front t c = c.append_int.ensures.front

pub append_expr-returns-in-Text-clause-ok : goal.append_expr-returns-in-Text-clause-ok
append_expr-returns-in-Text-clause-ok t c = on_ok_weaker c.append_quoted.result (text_printed _ _ _ _ c.in-Text.is) c.append_quoted.ensures.ok

pub append_expr-returns-in-Text-clause-front : goal.append_expr-returns-in-Text-clause-front
append_expr-returns-in-Text-clause-front t c = c.append_quoted.ensures.front

pub append_expr-returns-in-Path-clause-ok : goal.append_expr-returns-in-Path-clause-ok
append_expr-returns-in-Path-clause-ok t c = on_ok_weaker c.append_path.result (path_printed _ _ _ _ c.in-Path.is) c.append_path.ensures.ok

pub append_expr-returns-in-Path-clause-front : goal.append_expr-returns-in-Path-clause-front
append_expr-returns-in-Path-clause-front t c = c.append_path.ensures.front

pub append_expr-returns-in-Rec-clause-ok : goal.append_expr-returns-in-Rec-clause-ok
append_expr-returns-in-Rec-clause-ok t c = on_ok_weaker c.append_rec.result (rec_printed _ _ _ _ c.in-Rec.is) c.append_rec.ensures.ok

pub append_expr-returns-in-Rec-clause-front : goal.append_expr-returns-in-Rec-clause-front
append_expr-returns-in-Rec-clause-front t c = c.append_rec.ensures.front

pub append_expr-returns-in-Register-clause-ok : goal.append_expr-returns-in-Register-clause-ok
append_expr-returns-in-Register-clause-ok t c = on_ok_weaker c.append_register.result (register_printed _ _ _ _ c.in-Register.is) c.append_register.ensures.ok

pub append_expr-returns-in-Register-clause-front : goal.append_expr-returns-in-Register-clause-front
append_expr-returns-in-Register-clause-front t c = c.append_register.ensures.front

pub append_expr-returns-in-Add-clause-ok : goal.append_expr-returns-in-Add-clause-ok
append_expr-returns-in-Add-clause-ok t c = on_ok_weaker c.append_pair.result (add_printed _ _ _ _ _ c.in-Add.is) c.append_pair.ensures.ok

pub append_expr-returns-in-Add-clause-front : goal.append_expr-returns-in-Add-clause-front
append_expr-returns-in-Add-clause-front t c = c.append_pair.ensures.front

pub append_expr-returns-in-Sub-clause-ok : goal.append_expr-returns-in-Sub-clause-ok
append_expr-returns-in-Sub-clause-ok t c = on_ok_weaker c.append_pair-in-Sub.result (sub_printed _ _ _ _ _ c.in-Sub.is) c.append_pair-in-Sub.ensures.ok

pub append_expr-returns-in-Sub-clause-front : goal.append_expr-returns-in-Sub-clause-front
append_expr-returns-in-Sub-clause-front t c = c.append_pair-in-Sub.ensures.front

pub append_expr-returns-in-Cat-clause-ok : goal.append_expr-returns-in-Cat-clause-ok
append_expr-returns-in-Cat-clause-ok t c = on_ok_weaker c.append_pair-in-Cat.result (cat_printed _ _ _ _ _ c.in-Cat.is) c.append_pair-in-Cat.ensures.ok

pub append_expr-returns-in-Cat-clause-front : goal.append_expr-returns-in-Cat-clause-front
append_expr-returns-in-Cat-clause-front t c = c.append_pair-in-Cat.ensures.front

pub append_expr-returns-in-IntField-clause-ok : goal.append_expr-returns-in-IntField-clause-ok
append_expr-returns-in-IntField-clause-ok t c = on_ok_weaker c.append_int_field.result (int_field_printed _ _ _ _ _ _ c.in-IntField.is) c.append_int_field.ensures.ok

pub append_expr-returns-in-IntField-clause-front : goal.append_expr-returns-in-IntField-clause-front
append_expr-returns-in-IntField-clause-front t c = c.append_int_field.ensures.front

pub append_expr-returns-in-TextField-clause-ok : goal.append_expr-returns-in-TextField-clause-ok
append_expr-returns-in-TextField-clause-ok t c = on_ok_weaker c.append_text_field.result (text_field_printed _ _ _ _ _ _ c.in-TextField.is) c.append_text_field.ensures.ok

pub append_expr-returns-in-TextField-clause-front : goal.append_expr-returns-in-TextField-clause-front
append_expr-returns-in-TextField-clause-front t c = c.append_text_field.ensures.front

pub append_expr-returns-in-Data-clause-ok : goal.append_expr-returns-in-Data-clause-ok
append_expr-returns-in-Data-clause-ok t c = on_ok_weaker c.append_one.result (data_printed _ _ _ _ c.in-Data.is) c.append_one.ensures.ok

pub append_expr-returns-in-Data-clause-front : goal.append_expr-returns-in-Data-clause-front
append_expr-returns-in-Data-clause-front t c = c.append_one.ensures.front

pub append_expr-returns-in-Pv-clause-ok : goal.append_expr-returns-in-Pv-clause-ok
append_expr-returns-in-Pv-clause-ok t c = on_ok_weaker c.append_one-in-Pv.result (pv_printed _ _ _ _ c.in-Pv.is) c.append_one-in-Pv.ensures.ok

pub append_expr-returns-in-Pv-clause-front : goal.append_expr-returns-in-Pv-clause-front
append_expr-returns-in-Pv-clause-front t c = c.append_one-in-Pv.ensures.front

pub append_expr-returns-in-Cv-clause-ok : goal.append_expr-returns-in-Cv-clause-ok
append_expr-returns-in-Cv-clause-ok t c = on_ok_weaker c.append_one-in-Cv.result (cv_printed _ _ _ _ c.in-Cv.is) c.append_one-in-Cv.ensures.ok

pub append_expr-returns-in-Cv-clause-front : goal.append_expr-returns-in-Cv-clause-front
append_expr-returns-in-Cv-clause-front t c = c.append_one-in-Cv.ensures.front

pub append_expr-returns-in-Kids-clause-ok : goal.append_expr-returns-in-Kids-clause-ok
append_expr-returns-in-Kids-clause-ok t c = on_ok_weaker c.append_one-in-Kids.result (kids_printed _ _ _ _ c.in-Kids.is) c.append_one-in-Kids.ensures.ok

pub append_expr-returns-in-Kids-clause-front : goal.append_expr-returns-in-Kids-clause-front
append_expr-returns-in-Kids-clause-front t c = c.append_one-in-Kids.ensures.front

pub append_expr-returns-in-Last-clause-ok : goal.append_expr-returns-in-Last-clause-ok
append_expr-returns-in-Last-clause-ok t c = on_ok_weaker c.append_one-in-Last.result (last_printed _ _ _ _ c.in-Last.is) c.append_one-in-Last.ensures.ok

pub append_expr-returns-in-Last-clause-front : goal.append_expr-returns-in-Last-clause-front
append_expr-returns-in-Last-clause-front t c = c.append_one-in-Last.ensures.front

pub append_expr-returns-in-Child-clause-ok : goal.append_expr-returns-in-Child-clause-ok
append_expr-returns-in-Child-clause-ok t c = on_ok_weaker c.append_pair-in-Child.result (child_printed _ _ _ _ _ c.in-Child.is) c.append_pair-in-Child.ensures.ok

pub append_expr-returns-in-Child-clause-front : goal.append_expr-returns-in-Child-clause-front
append_expr-returns-in-Child-clause-front t c = c.append_pair-in-Child.ensures.front

pub append_expr-returns-in-With-clause-ok : goal.append_expr-returns-in-With-clause-ok
append_expr-returns-in-With-clause-ok t c = on_ok_weaker c.append_with.result (with_printed _ _ _ _ _ _ c.in-With.is) c.append_with.ensures.ok

pub append_expr-returns-in-With-clause-front : goal.append_expr-returns-in-With-clause-front
append_expr-returns-in-With-clause-front t c = c.append_with.ensures.front

pub append_expr-returns-in-Compare-clause-ok : goal.append_expr-returns-in-Compare-clause-ok
append_expr-returns-in-Compare-clause-ok t c = on_ok_weaker c.append_compared.result (compare_printed _ _ _ _ _ _ c.in-Compare.is) c.append_compared.ensures.ok

pub append_expr-returns-in-Compare-clause-front : goal.append_expr-returns-in-Compare-clause-front
append_expr-returns-in-Compare-clause-front t c = c.append_compared.ensures.front

pub append_expr-returns-in-Test-clause-ok : goal.append_expr-returns-in-Test-clause-ok
append_expr-returns-in-Test-clause-ok t c = on_ok_weaker c.append_tested.result (test_printed _ _ _ _ _ c.in-Test.is) c.append_tested.ensures.ok

pub append_expr-returns-in-Test-clause-front : goal.append_expr-returns-in-Test-clause-front
append_expr-returns-in-Test-clause-front t c = c.append_tested.ensures.front

pub append_expr-returns-in-Not-clause-ok : goal.append_expr-returns-in-Not-clause-ok
append_expr-returns-in-Not-clause-ok t c = on_ok_weaker c.append_one-in-Not.result (not_printed _ _ _ _ c.in-Not.is) c.append_one-in-Not.ensures.ok

pub append_expr-returns-in-Not-clause-front : goal.append_expr-returns-in-Not-clause-front
append_expr-returns-in-Not-clause-front t c = c.append_one-in-Not.ensures.front

pub append_expr-returns-in-All-clause-ok : goal.append_expr-returns-in-All-clause-ok
append_expr-returns-in-All-clause-ok t c = on_ok_weaker c.append_pair-in-All.result (all_printed _ _ _ _ _ c.in-All.is) c.append_pair-in-All.ensures.ok

pub append_expr-returns-in-All-clause-front : goal.append_expr-returns-in-All-clause-front
append_expr-returns-in-All-clause-front t c = c.append_pair-in-All.ensures.front

pub append_expr-returns-in-Any-clause-ok : goal.append_expr-returns-in-Any-clause-ok
append_expr-returns-in-Any-clause-ok t c = on_ok_weaker c.append_pair-in-Any.result (any_printed _ _ _ _ _ c.in-Any.is) c.append_pair-in-Any.ensures.ok

pub append_expr-returns-in-Any-clause-front : goal.append_expr-returns-in-Any-clause-front
append_expr-returns-in-Any-clause-front t c = c.append_pair-in-Any.ensures.front

pub append_one-returns-clause-front : goal.append_one-returns-clause-front
append_one-returns-clause-front t c = front_then _ _ _ c.in_ok-append_word.ensures.front c.append_closed.ensures.front

pub append_closed-returns-clause-front : goal.append_closed-returns-clause-front
append_closed-returns-clause-front t c = front_then _ _ _ c.in_ok-append_expr.ensures.front c.append_word.ensures.front

pub append_two-returns-in_err-append_word-clause-front : goal.append_two-returns-in_err-append_word-clause-front
append_two-returns-in_err-append_word-clause-front t c = front_then _ _ _ c.in_ok-append_expr.ensures.front c.in_err-append_word.ensures.front

pub append_two-returns-clause-front : goal.append_two-returns-clause-front
append_two-returns-clause-front t c = front_then _ _ _ c.in_ok-append_expr.ensures.front (front_then _ _ _ c.in_ok-append_word.ensures.front c.append_expr-2.ensures.front)

pub append_pair-returns-in_err-append_two-clause-front : goal.append_pair-returns-in_err-append_two-clause-front
append_pair-returns-in_err-append_two-clause-front t c = front_then _ _ _ c.in_ok-append_word.ensures.front c.in_err-append_two.ensures.front

pub append_pair-returns-clause-front : goal.append_pair-returns-clause-front
append_pair-returns-clause-front t c = front_then _ _ _ c.in_ok-append_word.ensures.front (front_then _ _ _ c.in_ok-append_two.ensures.front c.append_word-2.ensures.front)

pub append_compared-returns-clause-front : goal.append_compared-returns-clause-front
append_compared-returns-clause-front t c = front_then _ _ _ c.in_ok-append_word.ensures.front c.append_pair.ensures.front

pub append_keyed-returns-in_err-append_expr-clause-front : goal.append_keyed-returns-in_err-append_expr-clause-front
append_keyed-returns-in_err-append_expr-clause-front t c = front_then _ _ _ c.in_ok-append_word.ensures.front c.in_err-append_expr.ensures.front

pub append_keyed-returns-clause-front : goal.append_keyed-returns-clause-front
append_keyed-returns-clause-front t c = front_then _ _ _ c.in_ok-append_word.ensures.front (front_then _ _ _ c.in_ok-append_expr.ensures.front c.append_key.ensures.front)

pub append_int_field-returns-clause-front : goal.append_int_field-returns-clause-front
append_int_field-returns-clause-front t c = front_then _ _ _ c.in_ok-append_keyed.ensures.front c.append_int_closed.ensures.front

pub append_text_field-returns-clause-front : goal.append_text_field-returns-clause-front
append_text_field-returns-clause-front t c = front_then _ _ _ c.in_ok-append_keyed.ensures.front c.append_quoted_closed.ensures.front

pub append_with-returns-clause-front : goal.append_with-returns-clause-front
append_with-returns-clause-front t c = front_then _ _ _ c.in_ok-append_keyed.ensures.front c.append_closed.ensures.front

pub append_tested-returns-in_err-append_expr-clause-front : goal.append_tested-returns-in_err-append_expr-clause-front
append_tested-returns-in_err-append_expr-clause-front t c = front_then _ _ _ c.in_ok-append_word.ensures.front c.in_err-append_expr.ensures.front

pub append_tested-returns-clause-front : goal.append_tested-returns-clause-front
append_tested-returns-clause-front t c = front_then _ _ _ c.in_ok-append_word.ensures.front (front_then _ _ _ c.in_ok-append_expr.ensures.front c.append_asked.ensures.front)
