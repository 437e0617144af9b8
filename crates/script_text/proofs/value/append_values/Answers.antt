use Rattle.std.proofs.Common.{take, refl}
use Rattle.std.specs.List.{flat_map}
use Rattle.khepri_terms.proofs.Printing.{front_of, front_kept}
use Rattle.khepri_types.specs.Texts.{spaced_value_text}
use Rattle.condition_text.proofs.Loops.{none_yet, one_more, all_done}
use Rattle.script_text.proofs.value.append_values.Goals as goal

pub loop-value-init : goal.loop-value-init
loop-value-init c = none_yet spaced_value_text c.args.out.now.items

pub loop-value-preserved : goal.loop-value-preserved
loop-value-preserved c =
    one_more spaced_value_text c.args.values.now c.loop-value.value-index c.value-item.result c.args.out.now.items c.loop-value.out.items c.append_spaced.new.out.items c.loop-value-test.true c.value-item.is c.loop-value.invariant c.in_ok-append_spaced.ensures.ok

pub returns-in_err-append_spaced-clause-front : goal.returns-in_err-append_spaced-clause-front
returns-in_err-append_spaced-clause-front c =
    front_of c.args.out.now.items c.loop-value.out.items c.append_spaced.new.out.items (flat_map spaced_value_text (take c.loop-value.value-index c.args.values.now)) c.loop-value.invariant c.in_err-append_spaced.ensures.front

pub returns-clause-ok : goal.returns-clause-ok
returns-clause-ok c = all_done spaced_value_text c.args.values.now c.loop-value.value-index c.args.out.now.items c.loop-value.out.items c.loop-value-test.false c.loop-value.invariant

pub returns-clause-front : goal.returns-clause-front
returns-clause-front c =
    front_kept c.args.out.now.items c.loop-value.out.items c.loop-value.out.items (flat_map spaced_value_text (take c.loop-value.value-index c.args.values.now)) c.loop-value.invariant refl
