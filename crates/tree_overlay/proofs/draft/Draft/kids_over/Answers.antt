use Rattle.std.proofs.Common.{ap, ◌∙◌}
use Rattle.std.specs.Option.{option_copied}
use Rattle.khepri_types.specs.Sizes.{kids}
use Rattle.tree_overlay.specs.Over.{Drafted, over}
use Rattle.tree_overlay.proofs.Hatching.{count_there, count_not}
use Rattle.tree_overlay.proofs.Keeping.{kept-base}
use Rattle.tree_overlay.proofs.draft.Draft.kids_over.Goals as goal

pub returns-in-Some : goal.returns-in-Some
returns-in-Some c =
    let s = c.self.inside in
    count_there s.base.now (over s.base.now s.changed.entries) s.broods s.nodes c.args.path.now c.in-Some.here.now c.self.invariant.0 c.in-Some.ensures.value ∙ ap (λ (d : Drafted). kids d.tree c.args.path.now) c.self.view_is

pub returns-in-None : goal.returns-in-None
returns-in-None c =
    let s = c.self.inside in
    c.kids_of.ensures s.base.now c.args.path.now c.nodes-nodes.ensures.tree (kept-base _ c.args.self.now c.args.path.now (option_copied c.args.nest) c.self.view_is c.requires.kept)
    ∙ (count_not s.base.now (over s.base.now s.changed.entries) s.broods s.nodes c.args.path.now c.self.invariant.0 c.in-None.ensures.value ∙ ap (λ (d : Drafted). kids d.tree c.args.path.now) c.self.view_is)
