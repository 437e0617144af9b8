-- A key of another number of scalars than a projection has keys shows no row.
use Rattle.std.proofs.Common.{◌≡◌, ℕ, suc, Bool, false, cond, List, [], ◌∷◌, length, map, refl, sym, ap, ◌∙◌, Option, Some, None, Less, Equal, Greater}
use Rattle.std.specs.Ordering.{is_eq, ordering_then}
use Rattle.std.specs.declared.cmp.Ordering.{Ordering}
use Rattle.std.specs.Cmp.{eq_by_cmp_equiv}
use Rattle.std.specs.FinMap.{find, entries, get-entries, get-from_entries}
use Rattle.khepri_terms.specs.Terms.{NameText}
use Rattle.khepri_terms.specs.declared.scalar.Scalar.{Scalar}
use Rattle.khepri_terms.specs.Order.{path_cmp}
use Rattle.khepri_terms.proofs.Cases.{some_is, some_not_none}
use Rattle.khepri_types.proofs.Order.{path_cmp_total}
use Rattle.khepri_types.proofs.PlaceOrder.{place_total, key_cmp-same}
use Rattle.khepri_types.specs.Keys.{Place, key_cmp, place_cmp}
use Rattle.khepri_types.specs.declared.node.Node.{Node}
use Rattle.khepri_types.specs.declared.projection.Origin.{Origin}
use Rattle.khepri_types.specs.declared.projection.Projection.{Projection}
use Rattle.khepri_types.specs.declared.row.Row.{Row}
use Rattle.khepri_types.specs.Patterns.{matching_nodes}
use Rattle.khepri_types.specs.Projecting.{source, and_list, sources, both, and_rows, found_rows, rows_over, placed, table}
use Rattle.khepri_types.specs.Tables.{rows_at}
use Rattle.khepri_types.specs.Tree.{Tree}

one_more : (o : Option Scalar) (rest : Option (List Scalar)) (n : ℕ) (xs : List Scalar) → ((ys : List Scalar) → rest ≡ Some ys → length ys ≡ n) → and_list o rest ≡ Some xs → length xs ≡ suc n
one_more None rest n xs len e = absurd cc
one_more (Some x) None n xs len e = absurd cc
one_more (Some x) (Some ys) n xs len e = ap length (sym (some_is (x ∷ ys) xs e)) ∙ ap suc (len ys refl)

as_many : (p : List NameText) (n : Node) (os : List Origin) (xs : List Scalar) → sources p n os ≡ Some xs → length xs ≡ length os
unfolding sources
as_many p n [] xs e = ap length (sym (some_is [] xs e))
as_many p n (o ∷ os) xs e = one_more (source p n o) (sources p n os) (length os) xs (λ ys f. as_many p n os ys f) e

-- a key that no row has is not among rows
not_this : (k : List Scalar) (q p : List NameText) (rest : List Row) (ks vs : Option (List Scalar)) → ((xs : List Scalar) → ks ≡ Some xs → key_cmp k xs ≡ Equal → ⊥) → find place_cmp (k, q) (map placed rest) ≡ None
    → find place_cmp (k, q) (map placed (and_rows (both p ks vs) rest)) ≡ None
not_this k q p rest None vs other none = none
not_this k q p rest (Some l) None other none = none
not_this k q p rest (Some l) (Some v) other none =
    elim (key_cmp k l) as (λ r. key_cmp k l ≡ r → cond (is_eq (ordering_then r (path_cmp q p))) (Some v) (find place_cmp (k, q) (map placed rest)) ≡ None) [
      | Less ↦ λ t. none
      | Equal ↦ λ t. absurd (other l refl t)
      | Greater ↦ λ t. none
    ] refl

none_found : (J : Projection) (k : List Scalar) (q : List NameText) (nodes : List (List NameText × Node)) → (length k ≡ length J.keys → ⊥) → find place_cmp (k, q) (map placed (found_rows J nodes)) ≡ None
unfolding found_rows
none_found J k q [] unlike = refl
none_found J k q (e ∷ nodes) unlike =
    not_this k q e.0 (found_rows J nodes) (sources e.0 e.1 J.keys) (sources e.0 e.1 J.values)
    (λ xs is tie. unlike (ap length (key_cmp-same k xs tie) ∙ as_many e.0 e.1 J.keys xs is))
    (none_found J k q nodes unlike)

-- what stands behind a first entry of another key
behind : (k : List Scalar) (q : List NameText) (e : Place × List Scalar) (es : List (Place × List Scalar)) (r : Ordering) → is_eq r ≡ false → key_cmp k e.0.0 ≡ r → find place_cmp (k, q) (e ∷ es) ≡ None → find place_cmp (k, q) es ≡ None
behind k q e es Less other t none = sym (ap (λ (r : Ordering). cond (is_eq (ordering_then r (path_cmp q e.0.1))) (Some e.1) (find place_cmp (k, q) es)) t) ∙ none
behind k q e es Equal other t none = absurd cc
behind k q e es Greater other t none = sym (ap (λ (r : Ordering). cond (is_eq (ordering_then r (path_cmp q e.0.1))) (Some e.1) (find place_cmp (k, q) es)) t) ∙ none

here : (k : List Scalar) (e : Place × List Scalar) (es : List (Place × List Scalar)) → key_cmp k e.0.0 ≡ Equal → find place_cmp (k, e.0.1) (e ∷ es) ≡ Some e.1
here k e es t =
    ap (λ (r : Ordering). cond (is_eq (ordering_then r (path_cmp e.0.1 e.0.1))) (Some e.1) (find place_cmp (k, e.0.1) es)) t
    ∙ ap (λ (b : Bool). cond b (Some e.1) (find place_cmp (k, e.0.1) es)) ((eq_by_cmp_equiv path_cmp_total).refl e.0.1)

none_at : (k : List Scalar) (es : List (Place × List Scalar)) → ((q : List NameText) → find place_cmp (k, q) es ≡ None) → rows_at k es ≡ []
none_at k [] none = refl
none_at k (e ∷ es) none =
    elim (key_cmp k e.0.0) as (λ r. key_cmp k e.0.0 ≡ r → cond (is_eq r) ((e.0.1, e.1) ∷ rows_at k es) (rows_at k es) ≡ []) [
      | Less ↦ λ t. none_at k es (λ q. behind k q e es Less refl t (none q))
      | Equal ↦ λ t. absurd (some_not_none e.1 (sym (here k e es t) ∙ none e.0.1))
      | Greater ↦ λ t. none_at k es (λ q. behind k q e es Greater refl t (none q))
    ] refl

pub no_rows : (J : Projection) (U : Tree) (k : List Scalar) → (length k ≡ length J.keys → ⊥) → rows_at k (entries (table J U).rows) ≡ []
no_rows J U k unlike =
    none_at k (entries (table J U).rows) (λ q.
    sym (get-entries (table J U).rows (k, q)) ∙ (get-from_entries place_total (map placed (rows_over J U)) (k, q) ∙ none_found J k q (matching_nodes J.pattern U) unlike))
