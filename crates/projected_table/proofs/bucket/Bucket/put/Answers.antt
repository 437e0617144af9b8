use Rattle.std.proofs.Common.{map, ap, ◌∙◌, arith}
use Rattle.std.specs.FinMap.{insert as with_key}
use Rattle.std.proofs.lemmas.List.{length-set}
use Rattle.khepri_types.specs.declared.row.Row.{Row}
use Rattle.projected_table.specs.Buckets.{Bucketed, cell}
use Rattle.projected_table.proofs.Buckets.{cells-put, put_is, set_cells, insert_cells}
use Rattle.projected_table.proofs.bucket.Bucket.put.Goals as goal

pub invariant_of-self : goal.invariant_of-self
invariant_of-self c =
    let old = c.self.inside.rows.items in
    let row : Row = c.args.row in (
      cells-put (map cell old) _ row.path row.value c.self.invariant.0 (set_cells old c.as_slice.result.now c.in-Ok.at row c.as_slice.ensures.value c.in-Ok.ensures.sets),
      omega (arith, c.self.invariant.1, c.requires.room, length-set old c.in-Ok.at row),
    )

pub invariant_of-self-in-Ok-insert : goal.invariant_of-self-in-Ok-insert
invariant_of-self-in-Ok-insert c =
    let old = c.self.inside.rows.items in
    let row : Row = c.args.row in (
      cells-put (map cell old) _ row.path row.value c.self.invariant.0 (insert_cells old c.as_slice.result.now c.insert.new.self.items c.in-Err.at row c.as_slice.ensures.value c.in-Ok-insert.ensures.items c.in-Err.ensures.adds),
      omega (arith, c.self.invariant.1, c.requires.room, c.in-Ok-insert.ensures.len, c.insert.ensures.capacity),
    )

pub returns-in-Ok-clause-cells : goal.returns-in-Ok-clause-cells
returns-in-Ok-clause-cells c =
    let old = c.self.inside.rows.items in
    let row : Row = c.args.row in
    put_is (map cell old) _ row.path row.value c.self.invariant.0 (set_cells old c.as_slice.result.now c.in-Ok.at row c.as_slice.ensures.value c.in-Ok.ensures.sets)
    ∙ ap (λ (b : Bucketed). with_key b.cells row.path row.value) c.self.view_is

pub returns-in-Ok-insert-clause-cells : goal.returns-in-Ok-insert-clause-cells
returns-in-Ok-insert-clause-cells c =
    let old = c.self.inside.rows.items in
    let row : Row = c.args.row in
    put_is (map cell old) _ row.path row.value c.self.invariant.0 (insert_cells old c.as_slice.result.now c.insert.new.self.items c.in-Err.at row c.as_slice.ensures.value c.in-Ok-insert.ensures.items c.in-Err.ensures.adds)
    ∙ ap (λ (b : Bucketed). with_key b.cells row.path row.value) c.self.view_is
