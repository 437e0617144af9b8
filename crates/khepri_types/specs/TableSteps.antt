-- A state with its projections: what an entry does to it, and what it tells the tables.
use Rattle.std.specs.Prelude.{ℕ, Bool, true, ◌&&◌, leb, if◌then◌else◌, List, [], ◌∷◌, ◌+◌, length, map, sum, Option, Some}
use Rattle.khepri_terms.specs.Paths.{path_text}
use Rattle.khepri_terms.specs.Terms.{NameText}
use Rattle.khepri_terms.specs.declared.scalar.Scalar.{Scalar}
use Rattle.khepri_types.specs.declared.limits.TheConstants.{MAX_PROJECTIONS, MAX_ROW_BYTES}
use Rattle.khepri_types.specs.declared.out.EntryText.{EntryText}
use Rattle.khepri_types.specs.declared.projection.Projection.{Projection}
use Rattle.khepri_types.specs.declared.reply.Reply.{Reply}
use Rattle.khepri_types.specs.declared.reply.Reply.TheVariants as reply
use Rattle.khepri_types.specs.declared.row.Row.{Row}
use Rattle.khepri_types.specs.declared.row.RowStep.{RowStep}
use Rattle.khepri_types.specs.Exec.{State, opening_state, passed_over, exec, Lookup}
use Rattle.khepri_types.specs.Projecting.{rows_over, tables_over, look_over, whole_changes, has_projection, with_projection, without_projection}
use Rattle.khepri_types.specs.ProjectionTexts.{scalars_text}
use Rattle.khepri_types.specs.Tables.{TablesAt}
use Rattle.khepri_types.specs.Tree.{Tree}

-- ---- the limit of rows

-- the bytes of a row: its path, its key and its value, as they are spelled
abbrev pub row_bytes : Row → ℕ
row_bytes r = length (path_text r.path) + length (scalars_text r.key) + length (scalars_text r.value)

-- the bytes of the rows of a projection over a tree, all rows of a set too
abbrev pub table_bytes : Tree → Projection → ℕ
table_bytes T J = sum (map row_bytes (rows_over J T))

-- the bytes of all rows of all projections over a tree
abbrev pub rows_bytes : List Projection → Tree → ℕ
rows_bytes Js T = sum (map (table_bytes T) Js)

-- rows that keep their limit
abbrev pub rows_fit : List Projection → Tree → Bool
rows_fit Js T = leb (rows_bytes Js T) MAX_ROW_BYTES

-- projections that keep their limits over a tree
abbrev pub projections_fit : List Projection → Tree → Bool
projections_fit Js T = leb (length Js) MAX_PROJECTIONS && rows_fit Js T

-- ---- states and entries

-- the tree, how many entries were applied, and the projections in order of name
pub record TableState : Type 0 where
  pub state : State
  pub projections : List Projection

-- the root alone, no entry and no projection
abbrev pub opening_tables : TableState
opening_tables = record { state = opening_state; projections = [] }

-- an entry of the tree, or a command that registers a projection or removes the one of a name
pub data TableEntry : Type 0 where
  OfTree : (entry : EntryText) → TableEntry
  Proj : (projection : Projection) → TableEntry
  Unproj : (name : NameText) → TableEntry

-- what an entry answers: what an entry of the tree may answer, that the projections were changed, or that there is no such projection
pub data TableReply : Type 0 where
  Answers : (reply : Option Reply) → TableReply
  Done : TableReply
  NoUnknown : TableReply

-- an entry that changes the position alone
abbrev pub passed : TableState → TableState
passed S = record { state = passed_over S.state; projections = S.projections }

-- a refused entry: the position rises, and all else is as before
abbrev pub refused_entry : TableState → TableReply → TableReply × TableState
refused_entry S r = (r, passed S)

-- what an entry of the tree comes to, unless the rows over the tree after it would pass the limit
abbrev pub within_rows : TableState → Option Reply × State → TableReply × TableState
within_rows S next = if rows_fit S.projections next.1.tree then (Answers next.0, record { state = next.1; projections = S.projections }) else refused_entry S (Answers (Some reply.NoFull))

-- the projections become these, and the tree stays
abbrev pub projecting : TableState → List Projection → TableReply × TableState
projecting S Js = (Done, record { state = passed_over S.state; projections = Js })

-- so, unless that would pass a limit
abbrev pub registering : TableState → List Projection → TableReply × TableState
registering S Js = if projections_fit Js S.state.tree then projecting S Js else refused_entry S (Answers (Some reply.NoFull))

-- what an entry answers, and the next state
abbrev pub exec_tables : TableState → TableEntry → TableReply × TableState
exec_tables S (OfTree e) = within_rows S (exec S.state e)
exec_tables S (Proj J) = if has_projection J.name S.projections then refused_entry S (Answers (Some reply.NoExists)) else registering S (with_projection J S.projections)
exec_tables S (Unproj n) = if has_projection n S.projections then projecting S (without_projection n S.projections) else refused_entry S NoUnknown

-- the state after an entry
abbrev pub next_tables : TableState → TableEntry → TableState
next_tables S e = (exec_tables S e).1

-- the state after these entries
abbrev pub run_tables : TableState → List TableEntry → TableState
run_tables S [] = S
run_tables S (e ∷ es) = run_tables (next_tables S e) es

-- ---- tables

-- the tables of a state, computed from scratch, and its position
abbrev pub tables_of : TableState → TablesAt
tables_of S = record { position = S.state.position; tables = tables_over S.projections S.state.tree }

-- what a state tells the tables: all of them anew, at its position
abbrev pub whole_step : TableState → RowStep
whole_step S = record { position = S.state.position; changes = whole_changes S.state.tree S.projections; whole = true }

-- what the states after these entries tell the tables, one after another
abbrev pub steps_of : TableState → List TableEntry → List RowStep
steps_of S [] = []
steps_of S (e ∷ es) = whole_step (next_tables S e) ∷ steps_of (next_tables S e) es

-- the rows of a look-up, each a path and a value, or none where there is no such projection
abbrev pub look_in : TableState → Lookup → Option (List (List NameText × List Scalar))
look_in S q = look_over S.projections S.state.tree q.name q.key
