use Rattle.std.proofs.Common.{◌∙◌, sym, ap}
use Rattle.draft_scene.proofs.Picking.{target_of, unmet_all, unmet_at, unmet-here, unmet-later}
use Rattle.draft_scene.proofs.unmet.first_unmet_written.Goals as goal

pub loop-path-init : goal.loop-path-init
loop-path-init g c =
    unmet_all c.args.draft.now.tree c.args.written.now c.in_ok-paths.paths.keys c.in_ok-paths.ensures.rising c.in_ok-paths.ensures.same
    ∙ ap (unmet_at c.args.draft.now.tree) (sym c.into_iter-path-iterator.ensures.into_iter_gives.0)

pub loop-path-preserved : goal.loop-path-preserved
loop-path-preserved g c =
    let T = c.args.draft.now.tree in
    c.loop-path.invariant
    ∙ (ap (unmet_at T) c.in-Some.ensures.steps
    ∙ unmet-later T c.in-Some.path.now c.next.new.self (sym c.in_default.is ∙ c.in_ok-target.ensures))

pub returns-in-Some-2 : goal.returns-in-Some-2
returns-in-Some-2 g c =
    let T = c.args.draft.now.tree in
    unmet-here T c.in-Some.path.now c.next.new.self c.in-Some-2.target (sym c.in-Some-2.is ∙ c.in_ok-target.ensures)
    ∙ ap target_of (ap (unmet_at T) (sym c.in-Some.ensures.steps) ∙ sym c.loop-path.invariant)
