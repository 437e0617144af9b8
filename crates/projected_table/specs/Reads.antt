-- What a read gives.
use Rattle.std.specs.Prelude.{List, map, Option, Some, None}
use Rattle.khepri_terms.specs.Terms.{NameText}
use Rattle.khepri_terms.specs.declared.scalar.Scalar.{Scalar}
use Rattle.khepri_types.specs.declared.row.Row.{Row}
use Rattle.projected_table.specs.Buckets.{cell}
use Rattle.std.specs.Borrow.{Bor}

-- the paths and values of the rows, if there are rows
abbrev pub cells_of : Option (Bor (List Row)) → Option (List (List NameText × List Scalar))
cells_of None = None
cells_of (Some rows) = Some (map cell rows.now)
