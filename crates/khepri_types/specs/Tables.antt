-- Tables, and what row changes do to them.
use Rattle.std.specs.Prelude.{ℕ, Bool, cond, if◌then◌else◌, List, [], ◌∷◌, take, Option, Some, None}
use Rattle.std.specs.Option.{option_map}
use Rattle.std.specs.Ordering.{eq_by_cmp}
use Rattle.std.specs.FinMap.{FinMap, empty, get, insert, remove, entries}
use Rattle.khepri_terms.specs.Terms.{NameText}
use Rattle.khepri_terms.specs.declared.scalar.Scalar.{Scalar}
use Rattle.khepri_terms.specs.Order.{name_cmp}
use Rattle.khepri_types.specs.declared.row.RowChange.{RowChange}
use Rattle.khepri_types.specs.declared.row.RowChange.TheVariants.{AddTable, DropTable, PutRow, DropRow}
use Rattle.khepri_types.specs.declared.row.RowStep.{RowStep}
use Rattle.khepri_types.specs.Keys.{Place, key_cmp, place_cmp}

-- the rows of a table: from their keys and paths to their values
abbrev pub Rows : Type 0
Rows = FinMap place_cmp (List Scalar)

-- a table: its rows, and whether a look-up shows all rows of a key or the first
pub record TableRows : Type 0 where
  pub bag : Bool
  pub rows : Rows

-- tables by their names
abbrev pub AllTables : Type 0
AllTables = FinMap name_cmp TableRows

-- the tables, and how many entries they are of
pub record TablesAt : Type 0 where
  pub position : ℕ
  pub tables : AllTables

-- other rows for the table of this name, if there is one
abbrev pub with_rows : (Rows → Rows) → NameText → AllTables → Option TableRows → AllTables
with_rows f n ts None = ts
with_rows f n ts (Some t) = insert ts n (record { bag = t.bag; rows = f t.rows })

-- what one change does
abbrev pub change : RowChange → AllTables → AllTables
change (AddTable n bag) ts = insert ts n (record { bag = bag; rows = empty })
change (DropTable n) ts = remove ts n
change (PutRow n row) ts = with_rows (λ rows. insert rows (row.key, row.path) row.value) n ts (get ts n)
change (DropRow n key path) ts = with_rows (λ rows. remove rows (key, path)) n ts (get ts n)

-- what changes do, one after another
abbrev pub changes : List RowChange → AllTables → AllTables
changes [] ts = ts
changes (c ∷ cs) ts = changes cs (change c ts)

-- what a step does: a whole one begins with no table
abbrev pub stepped : RowStep → TablesAt → TablesAt
stepped s now = record { position = s.position; tables = changes s.changes (if s.whole then empty else now.tables) }

-- what steps do, one after another
abbrev pub run : List RowStep → TablesAt → TablesAt
run [] now = now
run (s ∷ steps) now = run steps (stepped s now)

-- the rows of a key, each its path and value, in order of path
abbrev pub rows_at : List Scalar → List (Place × List Scalar) → List (List NameText × List Scalar)
rows_at k [] = []
rows_at k (e ∷ es) = cond (eq_by_cmp key_cmp k e.0.0) ((e.0.1, e.1) ∷ rows_at k es) (rows_at k es)

-- a bag shows all rows of a key, a set the first
abbrev pub shown_of : Bool → List (List NameText × List Scalar) → List (List NameText × List Scalar)
shown_of bag rows = if bag then rows else take 1 rows

-- the rows of a look-up, or none where there is no such table
abbrev pub look_up : AllTables → NameText → List Scalar → Option (List (List NameText × List Scalar))
look_up ts n k = option_map (λ t. shown_of t.bag (rows_at k (entries t.rows))) (get ts n)
