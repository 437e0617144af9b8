use Rattle.std.proofs.Common.{◌≡◌, ◌<◌, ◌+◌, ◌-◌, ◌/◌, ℕ, length, map, sym, ◌∙◌, ap, subst, arith}
use Rattle.std.proofs.lemmas.List.{length-map}
use Rattle.khepri_terms.specs.Order.{path_cmp}
use Rattle.khepri_types.specs.declared.row.Row.{Row}
use Rattle.projected_table.specs.Buckets.{cell}
use Rattle.projected_table.proofs.Buckets.{cell_at}
use Rattle.projected_table.proofs.Places.{Below-after, Above, Above-at, sets_here, goes_here, adds_here, stays_here}
use Rattle.projected_table.proofs.bucket.slot.Goals as goal

-- the row in the middle as a cell
pub halves-preserved-in-Less : goal.halves-preserved-in-Less
halves-preserved-in-Less c =
    let rows = c.args.rows.now in
    let middle : ℕ = c.halves.low + (c.halves.high - c.halves.low) / 2 in
    let lt : middle < length rows = omega arith in
    let lt' : middle < length (map cell rows) = omega (arith, length-map rows cell, lt) in
    record {
      order = omega arith;
      within = omega arith;
      below = c.halves.invariant.below;
      above = Above-at c.args.path.now (map cell rows) middle (cell c.index-rows-middle.result) c.requires.sorted lt' (cell_at rows middle c.index-rows-middle.result lt c.index-rows-middle.is) (ap (λ (r : Row). path_cmp c.args.path.now r.path) c.index-rows-middle.is ∙ sym c.in-Less.ensures);
    }

pub halves-preserved : goal.halves-preserved
halves-preserved c =
    let rows = c.args.rows.now in
    let middle : ℕ = c.halves.low + (c.halves.high - c.halves.low) / 2 in
    let lt : middle < length rows = omega arith in
    let lt' : middle < length (map cell rows) = omega (arith, length-map rows cell, lt) in
    record {
      order = omega arith;
      within = c.halves.invariant.within;
      below = Below-after c.args.path.now (map cell rows) middle (cell c.index-rows-middle.result) c.requires.sorted lt' (cell_at rows middle c.index-rows-middle.result lt c.index-rows-middle.is) (ap (λ (r : Row). path_cmp c.args.path.now r.path) c.index-rows-middle.is ∙ sym c.in-Greater.ensures);
      above = c.halves.invariant.above;
    }

pub returns-in-Equal-clause-sets : goal.returns-in-Equal-clause-sets
returns-in-Equal-clause-sets c =
    let rows = c.args.rows.now in
    let middle : ℕ = c.halves.low + (c.halves.high - c.halves.low) / 2 in
    let lt : middle < length rows = omega arith in
    let lt' : middle < length (map cell rows) = omega (arith, length-map rows cell, lt) in
    sets_here c.args.path.now (map cell rows) middle (cell c.index-rows-middle.result) c.requires.sorted lt' (cell_at rows middle c.index-rows-middle.result lt c.index-rows-middle.is) (ap (λ (r : Row). path_cmp c.args.path.now r.path) c.index-rows-middle.is ∙ sym c.in-Equal.ensures)

pub returns-in-Equal-clause-goes : goal.returns-in-Equal-clause-goes
returns-in-Equal-clause-goes c =
    let rows = c.args.rows.now in
    let middle : ℕ = c.halves.low + (c.halves.high - c.halves.low) / 2 in
    let lt : middle < length rows = omega arith in
    let lt' : middle < length (map cell rows) = omega (arith, length-map rows cell, lt) in
    goes_here c.args.path.now (map cell rows) middle (cell c.index-rows-middle.result) c.requires.sorted lt' (cell_at rows middle c.index-rows-middle.result lt c.index-rows-middle.is) (ap (λ (r : Row). path_cmp c.args.path.now r.path) c.index-rows-middle.is ∙ sym c.in-Equal.ensures)

pub returns-clause-adds : goal.returns-clause-adds
returns-clause-adds c =
    let met : c.halves.high ≡ c.halves.low = omega arith in
    adds_here _ (map cell c.args.rows.now) c.halves.low c.halves.invariant.below (subst (Above c.args.path.now (map cell c.args.rows.now)) met c.halves.invariant.above)

pub returns-clause-stays : goal.returns-clause-stays
returns-clause-stays c =
    let met : c.halves.high ≡ c.halves.low = omega arith in
    stays_here _ (map cell c.args.rows.now) c.halves.low c.halves.invariant.below (subst (Above c.args.path.now (map cell c.args.rows.now)) met c.halves.invariant.above)
