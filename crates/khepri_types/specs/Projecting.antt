-- What a projection takes from a node, and the table that it makes of a tree.
use Rattle.std.specs.Prelude.{Bool, not, ◌-◌, ◌==◌, if◌then◌else◌, ◌^◌, min, List, [], ◌∷◌, ◌++◌, map, Option, Some, None, slice_get, pos, IsTrue}
use Rattle.std.specs.List.{filter, list_any}
use Rattle.std.specs.Option.{option_map}
use Rattle.std.specs.Ordering.{eq_by_cmp}
use Rattle.std.specs.FinMap.{from_entries, is_sorted}
use Rattle.std.specs.FinMap.Entries.{by_order}
use Rattle.khepri_terms.specs.Terms.{NameText}
use Rattle.khepri_terms.specs.declared.scalar.Scalar.{Scalar}
use Rattle.khepri_terms.specs.declared.scalar.Scalar.TheVariants.{Int, Text}
use Rattle.khepri_terms.specs.Order.{name_cmp}
use Rattle.khepri_terms.specs.Records.{field_of}
use Rattle.khepri_types.specs.declared.node.Node.{Node}
use Rattle.khepri_types.specs.declared.node.Payload.{Payload}
use Rattle.khepri_types.specs.declared.node.Payload.TheVariants.{Empty, Fields, Proc}
use Rattle.khepri_types.specs.declared.projection.Origin.{Origin}
use Rattle.khepri_types.specs.declared.projection.Origin.TheVariants.{Seg, Field, Version}
use Rattle.khepri_types.specs.declared.projection.Projection.{Projection}
use Rattle.khepri_types.specs.declared.row.Row.{Row}
use Rattle.khepri_types.specs.declared.row.RowChange.{RowChange}
use Rattle.khepri_types.specs.declared.row.RowChange.TheVariants.{AddTable, PutRow}
use Rattle.khepri_types.specs.Keys.{Place}
use Rattle.khepri_types.specs.Patterns.{matching_nodes}
use Rattle.khepri_types.specs.Tables.{TableRows, AllTables, look_up}
use Rattle.khepri_types.specs.Tree.{Tree}

-- the value of a payload's field, if it is there
abbrev pub field_in : NameText → Payload → Option Scalar
field_in k Empty = None
field_in k (Fields r) = field_of k.bytes r
field_in k (Proc s) = None

-- a source of the path p and its node: the i-th name's bytes, a field, or the payload version; none where it is missing.
-- A version past the greatest number that a scalar can be shows as that number
abbrev pub source : List NameText → Node → Origin → Option Scalar
source p n (Seg i) = option_map (λ x. Text x.bytes) (if i == 0 then None else slice_get p (i - 1))
source p n (Field k) = field_in k n.payload
source p n Version = Some (Int (pos (min n.pv (2 ^ 63 - 1))))

-- a scalar before others, where both are there
abbrev pub and_list : Option Scalar → Option (List Scalar) → Option (List Scalar)
and_list None rest = None
and_list (Some x) None = None
and_list (Some x) (Some xs) = Some (x ∷ xs)

-- the list of all sources; none where one is missing
unfoldable pub sources : List NameText → Node → List Origin → Option (List Scalar)
sources p n [] = Some []
sources p n (o ∷ os) = and_list (source p n o) (sources p n os)

-- a row of the path, where key and value are there
abbrev pub both : List NameText → Option (List Scalar) → Option (List Scalar) → Option Row
both p None v = None
both p (Some k) None = None
both p (Some k) (Some v) = Some (record { path = p; key = k; value = v })

-- the row that a projection takes from p and its node; none where a source is missing
abbrev pub row : Projection → List NameText → Node → Option Row
row J p n = both p (sources p n J.keys) (sources p n J.values)

-- rows with one before them, if there is one
abbrev pub and_rows : Option Row → List Row → List Row
and_rows None rows = rows
and_rows (Some r) rows = r ∷ rows

-- the rows that a projection takes from nodes
unfoldable pub found_rows : Projection → List (List NameText × Node) → List Row
found_rows J [] = []
found_rows J (e ∷ nodes) = and_rows (row J e.0 e.1) (found_rows J nodes)

-- the rows of a projection over a tree, in order of path: of each node that its pattern matches and that has all sources
abbrev pub rows_over : Projection → Tree → List Row
rows_over J T = found_rows J (matching_nodes J.pattern T)

-- a row's place in its table, and its value
abbrev pub placed : Row → Place × List Scalar
placed r = ((r.key, r.path), r.value)

-- the table of a projection over a tree, read off the whole tree
abbrev pub table : Projection → Tree → TableRows
table J T = record { bag = J.bag; rows = from_entries (map placed (rows_over J T)) }

-- a projection's name, and its table over a tree
abbrev pub named_table : Tree → Projection → NameText × TableRows
named_table T J = (J.name, table J T)

-- the tables of all projections over a tree
abbrev pub tables_over : List Projection → Tree → AllTables
tables_over Js T = from_entries (map (named_table T) Js)

-- the rows of a look-up, each a path and a value: those of the key in order of path, of a set the first; none where there is no such
-- projection
abbrev pub look_over : List Projection → Tree → NameText → List Scalar → Option (List (List NameText × List Scalar))
look_over Js T n k = look_up (tables_over Js T) n k

-- the changes that make a projection's table anew
abbrev pub table_changes : Tree → Projection → List RowChange
table_changes T J = AddTable J.name J.bag ∷ map (PutRow J.name) (rows_over J T)

-- the changes that make all tables: each projection, in order of name, adds its table and then its rows, in order of path
unfoldable pub whole_changes : Tree → List Projection → List RowChange
whole_changes T [] = []
whole_changes T (J ∷ Js) = table_changes T J ++ whole_changes T Js

-- ---- projections in order of name

abbrev pub keyed : Projection → NameText × Projection
keyed J = (J.name, J)

-- the names strictly rise
abbrev pub IsInOrder : List Projection → Type 0
IsInOrder Js = IsTrue (is_sorted name_cmp (map keyed Js))

-- whether a projection has the name
abbrev pub has_projection : NameText → List Projection → Bool
has_projection n Js = list_any (λ J. eq_by_cmp name_cmp n J.name) Js

-- with this one in its place, which no other of its name keeps
unfoldable pub with_projection : Projection → List Projection → List Projection
with_projection J [] = J ∷ []
with_projection J (K ∷ Js) = by_order (name_cmp J.name K.name) (J ∷ K ∷ Js) (J ∷ Js) (K ∷ with_projection J Js)

-- without the one of this name
abbrev pub without_projection : NameText → List Projection → List Projection
without_projection n Js = filter (λ J. not (eq_by_cmp name_cmp n J.name)) Js
