-- All tables, and the room that is made for rows.
use Rattle.std.specs.Prelude.{ℕ, ◌≡◌, ◌+◌, ◌≤◌, Bool, true, false, cond, ◌&&◌, List, [], ◌∷◌, map, IsTrue, is_some}
use Rattle.std.specs.List.{AllByRecursion}
use Rattle.std.specs.Option.{option_map_or}
use Rattle.std.specs.Ordering.{eq_by_cmp}
use Rattle.std.specs.FinMap.{find, is_sorted, from_sorted}
use Rattle.khepri_terms.specs.Terms.{NameText}
use Rattle.khepri_terms.specs.declared.scalar.Scalar.{Scalar}
use Rattle.khepri_terms.specs.Order.{name_cmp}
use Rattle.khepri_types.specs.declared.row.RowChange.{RowChange}
use Rattle.khepri_types.specs.declared.row.RowChange.TheVariants.{AddTable, DropTable, PutRow, DropRow}
use Rattle.khepri_types.specs.Keys.{key_cmp}
use Rattle.khepri_types.specs.Tables.{TableRows, AllTables}
use Rattle.projected_table.specs.Spreads.{IsTable, table_of, owed_in}
use Rattle.projected_table.specs.declared.table.Table.{Table}

abbrev pub Shelves : Type 0
Shelves = List (NameText × Table)

-- a table by its name, as contracts see it
abbrev pub shelf : NameText × Table → NameText × TableRows
shelf e = (e.0, table_of e.1)

abbrev pub tables_of : Shelves → AllTables
tables_of es = from_sorted {R = name_cmp} (map shelf es)

-- names in order, each of a table
pub record AreTables (es : Shelves) : Type 0 where
  pub sorted : IsTrue (is_sorted name_cmp es)
  pub each : AllByRecursion (λ e. IsTable e.1) es

-- for how many more rows of the key there is room in the table of this name
abbrev pub owed_at : Shelves → NameText → List Scalar → ℕ
owed_at es n k = option_map_or (λ t. owed_in t.rows.entries k) (find name_cmp n es) 0

abbrev pub stands : Shelves → NameText → Bool
stands es n = is_some (find name_cmp n es)

-- 1 for this name and key, and 0 for others
abbrev pub tally : NameText → List Scalar → NameText → List Scalar → ℕ
tally m l n k = cond (eq_by_cmp name_cmp n m && eq_by_cmp key_cmp k l) 1 0

-- room was made for one row more of a key in the table of this name, and for no other row
abbrev pub RoomMade : Shelves → Shelves → NameText → List Scalar → Type 0
RoomMade es fs m l = (n : NameText) (k : List Scalar) → IsTrue (stands es n) → owed_at fs n k ≡ owed_at es n k + tally m l n k

-- room was used for one row of a key in the table of this name, and for no other row
abbrev pub RoomUsed : Shelves → Shelves → NameText → List Scalar → Type 0
RoomUsed es fs m l = (n : NameText) (k : List Scalar) → IsTrue (stands es n) → owed_at fs n k + tally m l n k ≡ owed_at es n k

-- how many rows of this key a change puts into the table of this name: 1 or 0
abbrev pub put_by : RowChange → NameText → List Scalar → ℕ
put_by (AddTable m bag) n k = 0
put_by (DropTable m) n k = 0
put_by (PutRow m row) n k = tally m row.key n k
put_by (DropRow m key path) n k = 0

-- how many rows of this key changes put into the table of this name
abbrev pub puts : List RowChange → NameText → List Scalar → ℕ
puts [] n k = 0
puts (c ∷ cs) n k = put_by c n k + puts cs n k

-- there is room for all rows that changes put into tables that stand
abbrev pub Room : Shelves → List RowChange → Type 0
Room es cs = (n : NameText) (k : List Scalar) → IsTrue (stands es n) → puts cs n k ≤ owed_at es n k

-- whether a change puts or drops a row
abbrev pub is_row : RowChange → Bool
is_row (AddTable m bag) = false
is_row (DropTable m) = false
is_row (PutRow m row) = true
is_row (DropRow m key path) = true
