use Rattle.std.proofs.Common.{List, map, sym, ap, ◌∙◌, arith, subst, ◌≡◌}
use Rattle.std.specs.List.{remove}
use Rattle.std.specs.FinMap.{remove as without_key}
use Rattle.khepri_types.specs.declared.row.Row.{Row}
use Rattle.projected_table.specs.Buckets.{Bucketed, cell, without}
use Rattle.projected_table.proofs.Buckets.{map-remove, cells-without, without_is}
use Rattle.projected_table.proofs.bucket.Bucket.cut.Goals as goal

pub invariant_of-self : goal.invariant_of-self
invariant_of-self c =
    let p = c.args.path.now in
    let old = c.self.inside.rows.items in
    let now : without p (map cell old) ≡ map cell c.remove.new.self.items = subst (λ (s : List Row). without p (map cell s) ≡ remove (map cell s) c.in-Ok.at) c.as_slice.ensures.value c.in-Ok.ensures.goes ∙ (sym (map-remove old c.in-Ok.at) ∙ ap (map cell) (sym c.remove.ensures.items)) in
    (cells-without (map cell old) (map cell c.remove.new.self.items) p c.self.invariant.0 now, omega (arith, c.self.invariant.1, c.remove.ensures.len, c.remove.ensures.capacity))

pub returns-in-Ok-clause-cells : goal.returns-in-Ok-clause-cells
returns-in-Ok-clause-cells c =
    let p = c.args.path.now in
    let old = c.self.inside.rows.items in
    let now : without p (map cell old) ≡ map cell c.remove.new.self.items = subst (λ (s : List Row). without p (map cell s) ≡ remove (map cell s) c.in-Ok.at) c.as_slice.ensures.value c.in-Ok.ensures.goes ∙ (sym (map-remove old c.in-Ok.at) ∙ ap (map cell) (sym c.remove.ensures.items)) in
    without_is (map cell old) (map cell c.remove.new.self.items) p c.self.invariant.0 now ∙ ap (λ (b : Bucketed). without_key b.cells p) c.self.view_is

pub returns-in_default-clause-cells : goal.returns-in_default-clause-cells
returns-in_default-clause-cells c =
    let p = c.args.path.now in
    let old = c.self.inside.rows.items in
    let now : without p (map cell old) ≡ map cell old = subst (λ (s : List Row). without p (map cell s) ≡ map cell s) c.as_slice.ensures.value c.in_default.ensures.stays in
    ap (λ (b : Bucketed). b.cells) (sym c.self.view_is) ∙ (without_is (map cell old) (map cell old) p c.self.invariant.0 now ∙ ap (λ (b : Bucketed). without_key b.cells p) c.self.view_is)
