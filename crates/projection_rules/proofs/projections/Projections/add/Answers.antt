use Rattle.std.proofs.Common.{◌≡◌, List, refl, sym, subst, ◌∙◌}
use Rattle.std.specs.Prelude.{insert}
use Rattle.khepri_types.specs.declared.projection.Projection.{Projection}
use Rattle.khepri_types.specs.Projecting.{with_projection}
use Rattle.projection_rules.proofs.Ordered.{still_ordered}
use Rattle.projection_rules.proofs.projections.Projections.add.Goals as goal

pub invariant_of-self-in-Err : goal.invariant_of-self-in-Err
invariant_of-self-in-Err c =
    let J : Projection = c.args.projection in
    let put : with_projection J c.self.inside.all.items ≡ insert c.self.inside.all.items c.in-Err.at J = subst (λ (Js : List Projection). with_projection J Js ≡ insert Js c.in-Err.at J) c.as_slice.ensures.value (c.in-Err.ensures.adds J refl) in
    still_ordered J c.self.inside.all.items c.insert.new.self.items c.self.invariant (put ∙ sym c.in_ok-insert-in-Err.ensures.items)
