use Rattle.std.proofs.Common.{◌++◌, refl, ◌∙◌, take, map}
use Rattle.std.proofs.lemmas.Result.{on_ok_weaker}
use Rattle.khepri_terms.proofs.Printing.{front_of}
use Rattle.khepri_types.specs.ConditionTexts.{joined, condition_text}
use Rattle.condition_text.proofs.Parts.{joined_none, print_on, comma_front, list_printed}
use Rattle.condition_text.proofs.Said.{absent_printed, exists_printed, payload_printed, data_printed, sproc_printed, name_printed, is_printed, field_printed, pv_printed, cv_printed, kids_printed, not_printed, all_printed, any_printed}
use Rattle.condition_text.proofs.condition.+printing.Goals as goal

pub append_condition-returns-in-Absent-clause-ok : goal.append_condition-returns-in-Absent-clause-ok
append_condition-returns-in-Absent-clause-ok t c = on_ok_weaker c.append_word.result (absent_printed _ _ _ c.in-Absent.is) c.append_word.ensures.ok

pub append_condition-returns-in-Exists-clause-ok : goal.append_condition-returns-in-Exists-clause-ok
append_condition-returns-in-Exists-clause-ok t c = on_ok_weaker c.append_word-in-Exists.result (exists_printed _ _ _ c.in-Exists.is) c.append_word-in-Exists.ensures.ok

pub append_condition-returns-in-Payload-clause-ok : goal.append_condition-returns-in-Payload-clause-ok
append_condition-returns-in-Payload-clause-ok t c = on_ok_weaker c.append_word-in-Payload.result (payload_printed _ _ _ c.in-Payload.is) c.append_word-in-Payload.ensures.ok

pub append_condition-returns-in-Data-clause-ok : goal.append_condition-returns-in-Data-clause-ok
append_condition-returns-in-Data-clause-ok t c = on_ok_weaker c.append_word-in-Data.result (data_printed _ _ _ c.in-Data.is) c.append_word-in-Data.ensures.ok

pub append_condition-returns-in-Sproc-clause-ok : goal.append_condition-returns-in-Sproc-clause-ok
append_condition-returns-in-Sproc-clause-ok t c = on_ok_weaker c.append_word-in-Sproc.result (sproc_printed _ _ _ c.in-Sproc.is) c.append_word-in-Sproc.ensures.ok

pub append_condition-returns-in-Name-clause-ok : goal.append_condition-returns-in-Name-clause-ok
append_condition-returns-in-Name-clause-ok t c = on_ok_weaker c.append_name_asked.result (name_printed _ _ _ _ c.in-Name.is) c.append_name_asked.ensures.ok

pub append_condition-returns-in-Is-clause-ok : goal.append_condition-returns-in-Is-clause-ok
append_condition-returns-in-Is-clause-ok t c = on_ok_weaker c.append_is_asked.result (is_printed _ _ _ _ c.in-Is.is) c.append_is_asked.ensures.ok

pub append_condition-returns-in-Field-clause-ok : goal.append_condition-returns-in-Field-clause-ok
append_condition-returns-in-Field-clause-ok t c = on_ok_weaker c.append_field_asked.result (field_printed _ _ _ _ _ _ c.in-Field.is) c.append_field_asked.ensures.ok

pub append_condition-returns-in-Pv-clause-ok : goal.append_condition-returns-in-Pv-clause-ok
append_condition-returns-in-Pv-clause-ok t c = on_ok_weaker c.append_number_asked.result (pv_printed _ _ _ _ _ c.in-Pv.is) c.append_number_asked.ensures.ok

pub append_condition-returns-in-Cv-clause-ok : goal.append_condition-returns-in-Cv-clause-ok
append_condition-returns-in-Cv-clause-ok t c = on_ok_weaker c.append_number_asked-in-Cv.result (cv_printed _ _ _ _ _ c.in-Cv.is) c.append_number_asked-in-Cv.ensures.ok

pub append_condition-returns-in-Kids-clause-ok : goal.append_condition-returns-in-Kids-clause-ok
append_condition-returns-in-Kids-clause-ok t c = on_ok_weaker c.append_number_asked-in-Kids.result (kids_printed _ _ _ _ _ c.in-Kids.is) c.append_number_asked-in-Kids.ensures.ok

pub append_condition-returns-in-Not-clause-ok : goal.append_condition-returns-in-Not-clause-ok
append_condition-returns-in-Not-clause-ok t c =
    on_ok_weaker c.append_not_asked.result (not_printed _ _ _ _ c.in-Not.is) c.append_not_asked.ensures.ok

pub append_condition-returns-in-All-clause-ok : goal.append_condition-returns-in-All-clause-ok
append_condition-returns-in-All-clause-ok t c =
    let same = c.as_slice.ensures in
    on_ok_weaker c.append_list_asked.result (λ e. all_printed c.in-All.parts c.args.cond.now c.args.out.now.items c.append_list_asked.new.out.items c.in-All.is (rw same at e)) c.append_list_asked.ensures.ok

pub append_condition-returns-in-Any-clause-ok : goal.append_condition-returns-in-Any-clause-ok
append_condition-returns-in-Any-clause-ok t c =
    let same = c.as_slice-in-Any.ensures in
    on_ok_weaker c.append_list_asked-in-Any.result (λ e. any_printed c.in-Any.parts c.args.cond.now c.args.out.now.items c.append_list_asked-in-Any.new.out.items c.in-Any.is (rw same at e)) c.append_list_asked-in-Any.ensures.ok

pub append_condition-returns-in-Absent-clause-front : goal.append_condition-returns-in-Absent-clause-front
append_condition-returns-in-Absent-clause-front t c = c.append_word.ensures.front

pub append_condition-returns-in-Exists-clause-front : goal.append_condition-returns-in-Exists-clause-front
append_condition-returns-in-Exists-clause-front t c = c.append_word-in-Exists.ensures.front

pub append_condition-returns-in-Payload-clause-front : goal.append_condition-returns-in-Payload-clause-front
append_condition-returns-in-Payload-clause-front t c = c.append_word-in-Payload.ensures.front

pub append_condition-returns-in-Data-clause-front : goal.append_condition-returns-in-Data-clause-front
append_condition-returns-in-Data-clause-front t c = c.append_word-in-Data.ensures.front

pub append_condition-returns-in-Sproc-clause-front : goal.append_condition-returns-in-Sproc-clause-front
append_condition-returns-in-Sproc-clause-front t c = c.append_word-in-Sproc.ensures.front

pub append_condition-returns-in-Name-clause-front : goal.append_condition-returns-in-Name-clause-front
append_condition-returns-in-Name-clause-front t c = c.append_name_asked.ensures.front

pub append_condition-returns-in-Is-clause-front : goal.append_condition-returns-in-Is-clause-front
append_condition-returns-in-Is-clause-front t c = c.append_is_asked.ensures.front

pub append_condition-returns-in-Field-clause-front : goal.append_condition-returns-in-Field-clause-front
append_condition-returns-in-Field-clause-front t c = c.append_field_asked.ensures.front

pub append_condition-returns-in-Pv-clause-front : goal.append_condition-returns-in-Pv-clause-front
append_condition-returns-in-Pv-clause-front t c = c.append_number_asked.ensures.front

pub append_condition-returns-in-Cv-clause-front : goal.append_condition-returns-in-Cv-clause-front
append_condition-returns-in-Cv-clause-front t c = c.append_number_asked-in-Cv.ensures.front

pub append_condition-returns-in-Kids-clause-front : goal.append_condition-returns-in-Kids-clause-front
append_condition-returns-in-Kids-clause-front t c = c.append_number_asked-in-Kids.ensures.front

pub append_condition-returns-in-Not-clause-front : goal.append_condition-returns-in-Not-clause-front
append_condition-returns-in-Not-clause-front t c = c.append_not_asked.ensures.front

pub append_condition-returns-in-All-clause-front : goal.append_condition-returns-in-All-clause-front
append_condition-returns-in-All-clause-front t c = c.append_list_asked.ensures.front

pub append_condition-returns-in-Any-clause-front : goal.append_condition-returns-in-Any-clause-front
append_condition-returns-in-Any-clause-front t c = c.append_list_asked-in-Any.ensures.front

pub append_list_asked-returns-clause-front : goal.append_list_asked-returns-clause-front
append_list_asked-returns-clause-front t c =
    let start = c.args.out.now.items ++ c.args.word.now in
    front_of c.args.out.now.items start c.append_word-2.new.out.items c.args.word.now refl
    (front_of start c.loop-i.out.items c.append_word-2.new.out.items (joined (map condition_text (take c.loop-i.i c.args.parts.now))) c.loop-i.invariant c.append_word-2.ensures.front)

pub append_list_asked-loop-i-init : goal.append_list_asked-loop-i-init
append_list_asked-loop-i-init t c = c.in_ok-append_word.ensures.ok ∙ joined_none (c.args.out.now.items ++ c.args.word.now)

pub append_list_asked-returns-in_err-append_condition-clause-front : goal.append_list_asked-returns-in_err-append_condition-clause-front
append_list_asked-returns-in_err-append_condition-clause-front t c =
    let start = c.args.out.now.items ++ c.args.word.now in
    front_of c.args.out.now.items start c.append_condition.new.out.items c.args.word.now refl
    (comma_front c.args.parts.now c.loop-i.i start c.loop-i.out.items c.append_comma.new.out.items c.append_condition.new.out.items c.loop-i.invariant c.in_ok-append_comma.ensures.ok c.in_err-append_condition.ensures.front)

pub append_list_asked-returns-clause-ok : goal.append_list_asked-returns-clause-ok
append_list_asked-returns-clause-ok t c =
    on_ok_weaker c.append_word-2.result (λ e. list_printed c.args.parts.now c.loop-i.i c.args.out.now.items c.args.word.now c.loop-i.out.items c.append_word-2.new.out.items c.loop-i-test.false c.loop-i.invariant e) c.append_word-2.ensures.ok

pub append_list_asked-loop-i-preserved : goal.append_list_asked-loop-i-preserved
append_list_asked-loop-i-preserved t c =
    print_on c.args.parts.now c.loop-i.i c.index-parts-i.result (c.args.out.now.items ++ c.args.word.now) c.loop-i.out.items c.append_comma.new.out.items c.append_condition.new.out.items c.loop-i-test.true c.index-parts-i.is c.loop-i.invariant c.in_ok-append_comma.ensures.ok c.in_ok-append_condition.ensures.ok
