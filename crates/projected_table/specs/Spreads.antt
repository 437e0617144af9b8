-- The rows of a table, from those of its keys.
use Rattle.std.specs.Prelude.{ℕ, List, [], ◌∷◌, ◌++◌, map, IsTrue}
use Rattle.std.specs.Option.{option_map_or}
use Rattle.std.specs.FinMap.{find, is_sorted, entries, from_sorted}
use Rattle.khepri_terms.specs.Terms.{NameText}
use Rattle.khepri_terms.specs.declared.scalar.Scalar.{Scalar}
use Rattle.khepri_types.specs.Keys.{Place, key_cmp, place_cmp}
use Rattle.khepri_types.specs.Tables.{Rows, TableRows}
use Rattle.projected_table.specs.Buckets.{Bucketed}
use Rattle.projected_table.specs.declared.table.Table.{Table}

abbrev pub Buckets : Type 0
Buckets = List (List Scalar × Bucketed)

-- a row of a key, at its place in the table
abbrev pub onto : List Scalar → List NameText × List Scalar → Place × List Scalar
onto k e = ((k, e.0), e.1)

-- the rows of all keys
abbrev pub spread : Buckets → List (Place × List Scalar)
spread [] = []
spread (e ∷ es) = map (onto e.0) (entries e.1.cells) ++ spread es

abbrev pub rows_of : Buckets → Rows
rows_of es = from_sorted {R = place_cmp} (spread es)

-- for how many more rows of the key there is room
abbrev pub owed_in : Buckets → List Scalar → ℕ
owed_in es k = option_map_or (λ b. b.owed) (find key_cmp k es) 0

-- keys in order
abbrev pub IsTable : Table → Type 0
IsTable t = IsTrue (is_sorted key_cmp t.rows.entries)

-- what a table holds
abbrev pub table_of : Table → TableRows
table_of t = record { bag = t.bag; rows = rows_of t.rows.entries }
