use Rattle.std.proofs.Common.{ap, ◌∙◌}
use Rattle.khepri_types.specs.Sizes.{kids}
use Rattle.tree_overlay.specs.Over.{Drafted, over}
use Rattle.tree_overlay.proofs.Hatching.{count_there, count_not}
use Rattle.tree_overlay.proofs.draft.Draft.kids.Goals as goal

pub returns-in-Some : goal.returns-in-Some
returns-in-Some c =
    let s = c.self.inside in
    count_there s.base.now (over s.base.now s.changed.entries) s.broods s.nodes c.args.path.now c.in-Some.brood.now c.self.invariant.0 c.in-Some.ensures.value ∙ ap (λ (d : Drafted). kids d.tree c.args.path.now) c.self.view_is

pub returns-in-None : goal.returns-in-None
returns-in-None c =
    let s = c.self.inside in
    c.kids.ensures ∙ (count_not s.base.now (over s.base.now s.changed.entries) s.broods s.nodes c.args.path.now c.self.invariant.0 c.in-None.ensures.value ∙ ap (λ (d : Drafted). kids d.tree c.args.path.now) c.self.view_is)
