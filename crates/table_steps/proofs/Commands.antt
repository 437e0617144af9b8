-- What the commands on projections answer, and what look-ups show after them.
use Rattle.std.proofs.Common.{◌≡◌, ◌↔◌, true, false, cond, List, refl, sym, ap, ◌∙◌, Option, Some, None}
use Rattle.std.specs.FinMap.{entries}
use Rattle.khepri_terms.specs.Terms.{NameText}
use Rattle.khepri_terms.specs.declared.scalar.Scalar.{Scalar}
use Rattle.khepri_types.specs.declared.projection.Projection.{Projection}
use Rattle.khepri_types.specs.declared.reply.Reply.{Reply}
use Rattle.khepri_types.specs.declared.reply.Reply.TheVariants as reply
use Rattle.khepri_types.specs.Exec.{Lookup}
use Rattle.khepri_types.specs.Projecting.{table, look_over, has_projection, with_projection, without_projection}
use Rattle.khepri_types.specs.Tables.{TableRows, rows_at, shown_of}
use Rattle.khepri_types.specs.TableSteps.{projections_fit, TableState, Proj, Unproj, TableReply, Answers, Done, NoUnknown, passed, projecting, registering, exec_tables, next_tables, look_in}
use Rattle.khepri_types.specs.Tree.{Tree}
use Rattle.table_steps.proofs.Looks.{found, shown_in, look_is, found_none, found_some, with_own, with_other, without_own, without_other}

-- ---- what is answered

full_not_done : Answers (Some reply.NoFull) ≡ Done → ⊥
full_not_done e = absurd cc

exists_not_done : Answers (Some reply.NoExists) ≡ Done → ⊥
exists_not_done e = absurd cc

unknown_not_done : NoUnknown ≡ Done → ⊥
unknown_not_done e = absurd cc

-- what a command on projections comes to, by what it answers
pub record Done_or_nothing (S : TableState) (Js : List Projection) (after : TableReply × TableState) : Type 0 where
  pub done : after.0 ≡ Done → after.1 ≡ (projecting S Js).1
  pub refused : (after.0 ≡ Done → ⊥) → after.1 ≡ passed S

is_done : (S : TableState) (Js : List Projection) → Done_or_nothing S Js (projecting S Js)
is_done S Js = record { done = λ e. refl; refused = λ unlike. absurd (unlike refl) }

is_refused : (S : TableState) (Js : List Projection) (r : TableReply) → (r ≡ Done → ⊥) → Done_or_nothing S Js (r, passed S)
is_refused S Js r unlike = record { done = λ e. absurd (unlike e); refused = λ n. refl }

registered : (S : TableState) (Js : List Projection) → Done_or_nothing S Js (registering S Js)
registered S Js =
    elim (projections_fit Js S.state.tree) as (λ b. Done_or_nothing S Js (cond b (projecting S Js) (Answers (Some reply.NoFull), passed S))) [
      | true ↦ is_done S Js
      | false ↦ is_refused S Js (Answers (Some reply.NoFull)) full_not_done
    ]

pub proj_does : (S : TableState) (J : Projection) → Done_or_nothing S (with_projection J S.projections) (exec_tables S (Proj J))
proj_does S J =
    let Js : List Projection = with_projection J S.projections in
    elim (has_projection J.name S.projections) as (λ b. Done_or_nothing S Js (cond b (Answers (Some reply.NoExists), passed S) (registering S Js))) [
      | true ↦ is_refused S Js (Answers (Some reply.NoExists)) exists_not_done
      | false ↦ registered S Js
    ]

pub unproj_does : (S : TableState) (n : NameText) → Done_or_nothing S (without_projection n S.projections) (exec_tables S (Unproj n))
unproj_does S n =
    let Js : List Projection = without_projection n S.projections in
    elim (has_projection n S.projections) as (λ b. Done_or_nothing S Js (cond b (projecting S Js) (NoUnknown, passed S))) [
      | true ↦ is_done S Js
      | false ↦ is_refused S Js NoUnknown unknown_not_done
    ]

-- ---- look-ups

same_look : (Js Ks : List Projection) (U : Tree) (n m : NameText) (k : List Scalar) → found Js U n ≡ found Ks U m → look_over Js U n k ≡ look_over Ks U m k
same_look Js Ks U n m k e = look_is Js U n k ∙ (ap (shown_in k) e ∙ sym (look_is Ks U m k))

pub own_table : (S : TableState) (J : Projection) (k : List Scalar) → (exec_tables S (Proj J)).0 ≡ Done
    → look_in (next_tables S (Proj J)) (record { name = J.name; key = k }) ≡ Some (shown_of J.bag (rows_at k (entries (table J S.state.tree).rows)))
own_table S J k done =
    let q : Lookup = record { name = J.name; key = k } in
    ap (λ (N : TableState). look_in N q) ((proj_does S J).done done)
    ∙ (look_is (with_projection J S.projections) S.state.tree J.name k
    ∙ ap (shown_in k) (with_own J S.projections S.state.tree))

-- the rows that a name's look-ups show stay, whatever the command answers
stays : (S : TableState) (Js : List Projection) (q : Lookup) (after : TableReply × TableState) → Done_or_nothing S Js after → found Js S.state.tree q.name ≡ found S.projections S.state.tree q.name → look_in after.1 q ≡ look_in S q
stays S Js q (Done, next) does e = ap (λ (N : TableState). look_in N q) (does.done refl) ∙ same_look Js S.projections S.state.tree q.name q.name q.key e
stays S Js q (Answers r, next) does e = ap (λ (N : TableState). look_in N q) (does.refused (answers_not_done r))
  where
    answers_not_done : (r : Option Reply) → Answers r ≡ Done → ⊥
    answers_not_done r e = absurd cc
stays S Js q (NoUnknown, next) does e = ap (λ (N : TableState). look_in N q) (does.refused unknown_not_done)

pub proj_spares : (S : TableState) (J : Projection) (q : Lookup) → (q.name ≡ J.name → ⊥) → look_in (next_tables S (Proj J)) q ≡ look_in S q
proj_spares S J q unlike = stays S (with_projection J S.projections) q (exec_tables S (Proj J)) (proj_does S J) (with_other J S.projections S.state.tree q.name unlike)

pub unproj_spares : (S : TableState) (n : NameText) (q : Lookup) → (q.name ≡ n → ⊥) → look_in (next_tables S (Unproj n)) q ≡ look_in S q
unproj_spares S n q unlike = stays S (without_projection n S.projections) q (exec_tables S (Unproj n)) (unproj_does S n) (without_other n S.projections S.state.tree q.name unlike)

pub gone_table : (S : TableState) (n : NameText) (k : List Scalar) → look_in (next_tables S (Unproj n)) (record { name = n; key = k }) ≡ None
gone_table S n k =
    let q : Lookup = record { name = n; key = k } in
    elim (has_projection n S.projections) as (λ b. has_projection n S.projections ≡ b → look_in (cond b (projecting S (without_projection n S.projections)) (NoUnknown, passed S)).1 q ≡ None) [
      | true ↦ λ h. look_is (without_projection n S.projections) S.state.tree n k ∙ ap (shown_in k) (without_own n S.projections S.state.tree)
      | false ↦ λ h. look_is S.projections S.state.tree n k ∙ ap (shown_in k) (found_none S.projections S.state.tree n h)
    ] refl

some_rows : (S : TableState) (q : Lookup) → has_projection q.name S.projections ≡ true → look_in S q ≡ None → ⊥
some_rows S q h e =
    let f = found_some S.projections S.state.tree q.name h in
    shown_not_none f.0 (sym (look_is S.projections S.state.tree q.name q.key ∙ ap (shown_in q.key) f.1) ∙ e)
  where
    shown_not_none : (t : TableRows) → shown_in q.key (Some t) ≡ None → ⊥
    shown_not_none t e = absurd cc

pub none_exactly : (S : TableState) (q : Lookup) → (look_in S q ≡ None) ↔ (has_projection q.name S.projections ≡ false)
none_exactly S q = (
  λ e. elim (has_projection q.name S.projections) as (λ b. has_projection q.name S.projections ≡ b → b ≡ false) [ true ↦ λ h. absurd (some_rows S q h e) | false ↦ λ h. refl ] refl,
  λ h. look_is S.projections S.state.tree q.name q.key ∙ ap (shown_in q.key) (found_none S.projections S.state.tree q.name h),
)
