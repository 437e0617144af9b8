use Rattle.std.proofs.Common.{take, refl}
use Rattle.std.specs.List.{flat_map}
use Rattle.khepri_terms.proofs.Printing.{front_of, front_kept}
use Rattle.khepri_types.specs.PatternTexts.{stage_text}
use Rattle.condition_text.proofs.Loops.{none_yet, one_more, all_done}
use Rattle.condition_text.proofs.pattern.append_stages.Goals as goal

pub loop-part-init : goal.loop-part-init
loop-part-init c = none_yet stage_text c.args.out.now.items

pub loop-part-preserved : goal.loop-part-preserved
loop-part-preserved c =
    one_more stage_text c.args.parts.now c.loop-part.part-index c.part-item.result c.args.out.now.items c.loop-part.out.items c.append_stage.new.out.items c.loop-part-test.true c.part-item.is c.loop-part.invariant c.in_ok-append_stage.ensures.ok

pub returns-in_err-append_stage-clause-front : goal.returns-in_err-append_stage-clause-front
returns-in_err-append_stage-clause-front c =
    front_of c.args.out.now.items c.loop-part.out.items c.append_stage.new.out.items (flat_map stage_text (take c.loop-part.part-index c.args.parts.now)) c.loop-part.invariant c.in_err-append_stage.ensures.front

pub returns-clause-ok : goal.returns-clause-ok
returns-clause-ok c = all_done stage_text c.args.parts.now c.loop-part.part-index c.args.out.now.items c.loop-part.out.items c.loop-part-test.false c.loop-part.invariant

pub returns-clause-front : goal.returns-clause-front
returns-clause-front c =
    front_kept c.args.out.now.items c.loop-part.out.items c.loop-part.out.items (flat_map stage_text (take c.loop-part.part-index c.args.parts.now)) c.loop-part.invariant refl
