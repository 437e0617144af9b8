-- What stays through every history of a state with projections.
use Rattle.std.proofs.Common.{◌≡◌, ℕ, ◌+◌, ◌≤◌, true, false, cond, not, leb, List, [], ◌∷◌, length, map, refl, ap, ◌∙◌, arith, Option, Some}
use Rattle.std.specs.Prelude.{IsTrue}
use Rattle.std.specs.Ordering.{eq_by_cmp}
use Rattle.std.proofs.lemmas.Bool.{le-leb}
use Rattle.std.proofs.lemmas.Bool.Decides.{nat_tests}
use Rattle.std.proofs.lemmas.List.Sums.{sum_by-cons}
use Rattle.khepri_terms.specs.Terms.{NameText}
use Rattle.khepri_terms.specs.Order.{name_cmp}
use Rattle.khepri_terms.proofs.Cases.{and_true}
use Rattle.khepri_types.specs.declared.limits.TheConstants.{MAX_PROJECTIONS, MAX_ROW_BYTES}
use Rattle.khepri_types.specs.declared.projection.Projection.{Projection}
use Rattle.khepri_types.specs.declared.reply.Reply.{Reply}
use Rattle.khepri_types.specs.declared.reply.Reply.TheVariants as reply
use Rattle.khepri_types.specs.Exec.{State, exec}
use Rattle.khepri_types.specs.Projecting.{IsInOrder, has_projection, with_projection, without_projection}
use Rattle.khepri_types.specs.Tables.{TablesAt, AllTables, stepped, run}
use Rattle.khepri_types.specs.TableSteps.{table_bytes, rows_bytes, rows_fit, projections_fit, TableState, TableEntry, OfTree, Proj, Unproj, TableReply, Answers, NoUnknown, opening_tables, passed, within_rows, projecting, registering, next_tables, run_tables, tables_of, whole_step, steps_of}
use Rattle.khepri_types.specs.Tree.{Tree}
use Rattle.projection_rules.proofs.Ordered.{still_ordered, left_ordered}
use Rattle.projection_rules.proofs.Whole.{whole_makes}

-- ---- fewer projections have fewer rows

bytes_more : (U : Tree) (K : Projection) (Js : List Projection) → rows_bytes (K ∷ Js) U ≡ table_bytes U K + rows_bytes Js U
bytes_more U K Js = sum_by-cons (λ (n : ℕ). n) (table_bytes U K) (map (table_bytes U) Js)

fewer : (n : NameText) (Js : List Projection) → length (without_projection n Js) ≤ length Js
fewer n [] = omega arith
fewer n (K ∷ Js) =
    let less : length (without_projection n Js) ≤ length Js = fewer n Js in
    elim (not (eq_by_cmp name_cmp n K.name)) as (λ b. length (cond b (K ∷ without_projection n Js) (without_projection n Js)) ≤ length (K ∷ Js)) [
      | true ↦ omega (arith, less)
      | false ↦ omega (arith, less)
    ]

smaller : (n : NameText) (Js : List Projection) (U : Tree) → rows_bytes (without_projection n Js) U ≤ rows_bytes Js U
smaller n [] U = omega arith
smaller n (K ∷ Js) U =
    let less : rows_bytes (without_projection n Js) U ≤ rows_bytes Js U = smaller n Js U in
    let all : rows_bytes (K ∷ Js) U ≡ table_bytes U K + rows_bytes Js U = bytes_more U K Js in
    elim (not (eq_by_cmp name_cmp n K.name)) as (λ b. rows_bytes (cond b (K ∷ without_projection n Js) (without_projection n Js)) U ≤ rows_bytes (K ∷ Js) U) [
      | true ↦ omega (arith, less, all, bytes_more U K (without_projection n Js))
      | false ↦ omega (arith, less, all)
    ]

-- ---- what stays

pub record Kept (S : TableState) : Type 0 where
  pub ordered : IsInOrder S.projections
  pub few : length S.projections ≤ MAX_PROJECTIONS
  pub rows : IsTrue (rows_fit S.projections S.state.tree)

abbrev Keeps : TableReply × TableState → Type 0
Keeps after = Kept after.1

passed_kept : (S : TableState) → Kept S → Kept (passed S)
passed_kept S k = record { ordered = k.ordered; few = k.few; rows = k.rows }

tree_kept : (S : TableState) (next : Option Reply × State) → Kept S → Kept (within_rows S next).1
tree_kept S next k =
    elim (rows_fit S.projections next.1.tree) as (λ b. rows_fit S.projections next.1.tree ≡ b
    → Keeps (cond b (Answers next.0, record { state = next.1; projections = S.projections }) (Answers (Some reply.NoFull), passed S))) [
      | true ↦ λ h. record { ordered = k.ordered; few = k.few; rows = h }
      | false ↦ λ h. passed_kept S k
    ] refl

few_of : (n : ℕ) → leb n MAX_PROJECTIONS ≡ true → n ≤ MAX_PROJECTIONS
few_of n h = grind (arith, nat_tests)

added_kept : (S : TableState) (J : Projection) → Kept S → Kept (registering S (with_projection J S.projections)).1
added_kept S J k =
    let Js : List Projection = with_projection J S.projections in
    elim (projections_fit Js S.state.tree) as (λ b. projections_fit Js S.state.tree ≡ b → Keeps (cond b (projecting S Js) (Answers (Some reply.NoFull), passed S))) [
      | true ↦ λ h.
          let f = and_true (leb (length Js) MAX_PROJECTIONS) (rows_fit Js S.state.tree) h in
          record { ordered = still_ordered J S.projections Js k.ordered refl; few = few_of (length Js) f.0; rows = f.1 }
      | false ↦ λ h. passed_kept S k
    ] refl

fits_of : (n : ℕ) → IsTrue (leb n MAX_ROW_BYTES) → n ≤ MAX_ROW_BYTES
fits_of n h = grind (arith, nat_tests)

removed_kept : (S : TableState) (n : NameText) → Kept S → Kept (projecting S (without_projection n S.projections)).1
removed_kept S n k =
    record {
      ordered = left_ordered n S.projections (without_projection n S.projections) k.ordered refl;
      few = omega (arith, fewer n S.projections, k.few);
      rows = le-leb (rows_bytes (without_projection n S.projections) S.state.tree) MAX_ROW_BYTES (omega (arith, smaller n S.projections S.state.tree, fits_of (rows_bytes S.projections S.state.tree) k.rows));
    }

pub entry_kept : (S : TableState) (e : TableEntry) → Kept S → Kept (next_tables S e)
entry_kept S (OfTree e) k = tree_kept S (exec S.state e) k
entry_kept S (Proj J) k =
    elim (has_projection J.name S.projections) as (λ b. Keeps (cond b (Answers (Some reply.NoExists), passed S) (registering S (with_projection J S.projections)))) [
      | true ↦ passed_kept S k
      | false ↦ added_kept S J k
    ]
entry_kept S (Unproj n) k =
    elim (has_projection n S.projections) as (λ b. Keeps (cond b (projecting S (without_projection n S.projections)) (NoUnknown, passed S))) [
      | true ↦ removed_kept S n k
      | false ↦ passed_kept S k
    ]

opening_kept : Kept opening_tables
opening_kept = record { ordered = refl; few = omega arith; rows = refl }

pub history_kept : (S : TableState) (es : List TableEntry) → Kept S → Kept (run_tables S es)
history_kept S [] k = k
history_kept S (e ∷ es) k = history_kept (next_tables S e) es (entry_kept S e k)

pub all_kept : (es : List TableEntry) → Kept (run_tables opening_tables es)
all_kept es = history_kept opening_tables es opening_kept

-- ---- the tables follow

-- tables at a position
abbrev at : ℕ → AllTables → TablesAt
at n ts = record { position = n; tables = ts }

pub step_makes : (S : TableState) (now : TablesAt) → IsInOrder S.projections → stepped (whole_step S) now ≡ tables_of S
step_makes S now h = ap (at S.state.position) (whole_makes S.state.tree S.projections h)

pub steps_follow : (S : TableState) (es : List TableEntry) → Kept S → run (steps_of S es) (tables_of S) ≡ tables_of (run_tables S es)
steps_follow S [] k = refl
steps_follow S (e ∷ es) k =
    let next : Kept (next_tables S e) = entry_kept S e k in
    ap (run (steps_of (next_tables S e) es)) (step_makes (next_tables S e) (tables_of S) next.ordered)
    ∙ steps_follow (next_tables S e) es next

pub from_opening : (es : List TableEntry) → run (steps_of opening_tables es) (tables_of opening_tables) ≡ tables_of (run_tables opening_tables es)
from_opening es = steps_follow opening_tables es opening_kept
