-- What is found among the tables of projections.
use Rattle.std.proofs.Common.{◌≡◌, Bool, true, false, cond, not, ◌||◌, List, [], ◌∷◌, map, refl, sym, ap, ◌∙◌, Option, Some, None, Less, Equal, Greater}
use Rattle.std.specs.Option.{option_map}
use Rattle.std.specs.Ordering.{is_eq, eq_by_cmp}
use Rattle.std.specs.declared.cmp.Ordering.{Ordering}
use Rattle.std.specs.Cmp.{eq_by_cmp_equiv}
use Rattle.std.specs.FinMap.{find, entries, get-from_entries}
use Rattle.std.specs.FinMap.Entries.{by_order}
use Rattle.khepri_terms.specs.Terms.{NameText}
use Rattle.khepri_terms.specs.declared.scalar.Scalar.{Scalar}
use Rattle.khepri_terms.specs.Order.{name_cmp}
use Rattle.khepri_terms.proofs.Cases.{or_false}
use Rattle.khepri_types.proofs.Order.{name_cmp_total, name_cmp-same}
use Rattle.khepri_types.specs.declared.projection.Projection.{Projection}
use Rattle.khepri_types.specs.Projecting.{table, named_table, look_over, has_projection, with_projection, without_projection}
use Rattle.khepri_types.specs.Tables.{TableRows, rows_at, shown_of}
use Rattle.khepri_types.specs.Tree.{Tree}

-- the table of a name, among those of projections
abbrev pub found : List Projection → Tree → NameText → Option TableRows
found Js U n = find name_cmp n (map (named_table U) Js)

-- the rows of a key in a table that was found
abbrev pub shown_in : List Scalar → Option TableRows → Option (List (List NameText × List Scalar))
shown_in k t = option_map (λ t. shown_of t.bag (rows_at k (entries t.rows))) t

pub look_is : (Js : List Projection) (U : Tree) (n : NameText) (k : List Scalar) → look_over Js U n k ≡ shown_in k (found Js U n)
look_is Js U n k = ap (shown_in k) (get-from_entries name_cmp_total (map (named_table U) Js) n)

-- ---- names

tied : (n m : NameText) → eq_by_cmp name_cmp n m ≡ true → n ≡ m
tied n m h = name_cmp-same n m (elim (name_cmp n m) as (λ r. is_eq r ≡ true → r ≡ Equal) [ Less ↦ λ g. absurd cc | Equal ↦ λ g. refl | Greater ↦ λ g. absurd cc ] h)

own_name : (n : NameText) → eq_by_cmp name_cmp n n ≡ true
own_name n = (eq_by_cmp_equiv name_cmp_total).refl n

apart : (n m : NameText) → (n ≡ m → ⊥) → eq_by_cmp name_cmp n m ≡ false
apart n m unlike = elim (eq_by_cmp name_cmp n m) as (λ b. eq_by_cmp name_cmp n m ≡ b → b ≡ false) [ true ↦ λ h. absurd (unlike (tied n m h)) | false ↦ λ h. refl ] refl

-- the first of these tables, where the name is its, and else the one among the others
abbrev first_or : Tree → Projection → Option TableRows → Bool → Option TableRows
first_or U K others is = cond is (Some (table K U)) others

-- ---- what is there

pub found_none : (Js : List Projection) (U : Tree) (n : NameText) → has_projection n Js ≡ false → found Js U n ≡ None
found_none [] U n h = refl
found_none (K ∷ Js) U n h =
    let o = or_false (eq_by_cmp name_cmp n K.name) (has_projection n Js) h in
    ap (first_or U K (found Js U n)) o.0 ∙ found_none Js U n o.1

pub found_some : (Js : List Projection) (U : Tree) (n : NameText) → has_projection n Js ≡ true → (t : TableRows) × (found Js U n ≡ Some t)
found_some [] U n h = absurd cc
found_some (K ∷ Js) U n h =
    elim (eq_by_cmp name_cmp n K.name) as (λ b. (b || has_projection n Js) ≡ true → (t : TableRows) × (first_or U K (found Js U n) b ≡ Some t)) [
      | true ↦ λ h. (table K U, refl)
      | false ↦ λ h. found_some Js U n h
    ] h

-- ---- with one more

pub with_own : (J : Projection) (Js : List Projection) (U : Tree) → found (with_projection J Js) U J.name ≡ Some (table J U)
unfolding with_projection
with_own J [] U = ap (first_or U J None) (own_name J.name)
with_own J (K ∷ Js) U =
    elim (name_cmp J.name K.name) as (λ r. name_cmp J.name K.name ≡ r → found (by_order r (J ∷ K ∷ Js) (J ∷ Js) (K ∷ with_projection J Js)) U J.name ≡ Some (table J U)) [
      | Less ↦ λ t. ap (first_or U J (found (K ∷ Js) U J.name)) (own_name J.name)
      | Equal ↦ λ t. ap (first_or U J (found Js U J.name)) (own_name J.name)
      | Greater ↦ λ t. ap (λ (r : Ordering). first_or U K (found (with_projection J Js) U J.name) (is_eq r)) t ∙ with_own J Js U
    ] refl

pub with_other : (J : Projection) (Js : List Projection) (U : Tree) (n : NameText) → (n ≡ J.name → ⊥) → found (with_projection J Js) U n ≡ found Js U n
unfolding with_projection
with_other J [] U n unlike = ap (first_or U J None) (apart n J.name unlike)
with_other J (K ∷ Js) U n unlike =
    elim (name_cmp J.name K.name) as (λ r. name_cmp J.name K.name ≡ r → found (by_order r (J ∷ K ∷ Js) (J ∷ Js) (K ∷ with_projection J Js)) U n ≡ found (K ∷ Js) U n) [
      | Less ↦ λ t. ap (first_or U J (found (K ∷ Js) U n)) (apart n J.name unlike)
      | Equal ↦ λ t.
          ap (first_or U J (found Js U n)) (apart n J.name unlike)
          ∙ sym (ap (first_or U K (found Js U n)) (apart n K.name (λ e. unlike (e ∙ sym (name_cmp-same J.name K.name t)))))
      | Greater ↦ λ t. ap (λ (o : Option TableRows). first_or U K o (eq_by_cmp name_cmp n K.name)) (with_other J Js U n unlike)
    ] refl

-- ---- with one less

pub without_own : (n : NameText) (Js : List Projection) (U : Tree) → found (without_projection n Js) U n ≡ None
without_own n [] U = refl
without_own n (K ∷ Js) U =
    elim (eq_by_cmp name_cmp n K.name) as (λ b. eq_by_cmp name_cmp n K.name ≡ b → found (cond (not b) (K ∷ without_projection n Js) (without_projection n Js)) U n ≡ None) [
      | true ↦ λ t. without_own n Js U
      | false ↦ λ t. ap (first_or U K (found (without_projection n Js) U n)) t ∙ without_own n Js U
    ] refl

pub without_other : (n : NameText) (Js : List Projection) (U : Tree) (m : NameText) → (m ≡ n → ⊥) → found (without_projection n Js) U m ≡ found Js U m
without_other n [] U m unlike = refl
without_other n (K ∷ Js) U m unlike =
    elim (eq_by_cmp name_cmp n K.name) as (λ b. eq_by_cmp name_cmp n K.name ≡ b → found (cond (not b) (K ∷ without_projection n Js) (without_projection n Js)) U m ≡ found (K ∷ Js) U m) [
      | true ↦ λ t.
          without_other n Js U m unlike
          ∙ sym (ap (first_or U K (found Js U m)) (apart m K.name (λ e. unlike (e ∙ sym (tied n K.name t)))))
      | false ↦ λ t. ap (λ (o : Option TableRows). first_or U K o (eq_by_cmp name_cmp m K.name)) (without_other n Js U m unlike)
    ] refl
