use Rattle.std.proofs.Common.{◌≡◌, List, sym, subst, ◌∙◌}
use Rattle.std.specs.List.{remove}
use Rattle.khepri_types.specs.declared.projection.Projection.{Projection}
use Rattle.khepri_types.specs.Projecting.{without_projection}
use Rattle.projection_rules.proofs.Ordered.{left_ordered}
use Rattle.projection_rules.proofs.projections.Projections.remove.Goals as goal

pub invariant_of-self : goal.invariant_of-self
invariant_of-self c =
    let n = c.args.name.now in
    let gone : without_projection n c.self.inside.all.items ≡ remove c.self.inside.all.items c.in-Ok.at = subst (λ (Js : List Projection). without_projection n Js ≡ remove Js c.in-Ok.at) c.as_slice.ensures.value c.in-Ok.ensures.goes in
    left_ordered n c.self.inside.all.items c.remove.new.self.items c.self.invariant (gone ∙ sym c.remove.ensures.items)
