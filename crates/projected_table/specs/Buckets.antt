-- The rows of one key.
use Rattle.std.specs.Prelude.{ℕ, List, not}
use Rattle.std.specs.Ordering.{eq_by_cmp}
use Rattle.std.specs.FinMap.{FinMap}
use Rattle.std.specs.FinMap.Entries.{where_key}
use Rattle.khepri_terms.specs.Terms.{NameText}
use Rattle.khepri_terms.specs.declared.scalar.Scalar.{Scalar}
use Rattle.khepri_terms.specs.Order.{path_cmp}
use Rattle.khepri_types.specs.declared.row.Row.{Row}

-- the rows of one key: from their paths to their values
abbrev pub Cells : Type 0
Cells = FinMap path_cmp (List Scalar)

-- a row's path and value
abbrev pub cell : Row → List NameText × List Scalar
cell r = (r.path, r.value)

-- the rows of one key, and for how many more there is room that was asked for
pub record Bucketed : Type 0 where
  pub cells : Cells
  pub owed : ℕ

-- the entries but that at p
abbrev pub without : List NameText → List (List NameText × List Scalar) → List (List NameText × List Scalar)
without p es = where_key path_cmp (λ x. not (eq_by_cmp path_cmp p x)) es
