-- How a search finds the place of a name among projections in order.
use Rattle.std.proofs.Common.{◌≡◌, ℕ, zero, suc, ◌+◌, ◌<◌, ◌≤◌, Bool, true, false, cond, not, List, [], ◌∷◌, ◌++◌, map, length, get_or, take, drop, refl, sym, ap, subst, ◌∙◌, drop-cons, arith, Less, Equal, Greater, ◌&&◌, ◌||◌}
use Rattle.std.specs.Prelude.{IsTrue, insert, T}
use Rattle.std.specs.List.{remove, list_any}
use Rattle.std.specs.Ordering.{is_eq, is_lt, eq_by_cmp}
use Rattle.std.specs.declared.cmp.Ordering.{Ordering}
use Rattle.std.specs.FinMap.{is_sorted, put}
use Rattle.std.specs.FinMap.Entries.{by_order, below_all, is_sorted-put, is_sorted-where_key, where_key}
use Rattle.khepri_terms.specs.Terms.{NameText}
use Rattle.khepri_terms.specs.Order.{name_cmp}
use Rattle.khepri_types.proofs.Order.{name_cmp_total, name_cmp-same}
use Rattle.khepri_types.specs.declared.projection.Projection.{Projection}
use Rattle.khepri_types.specs.Projecting.{keyed, IsInOrder, has_projection, with_projection, without_projection}

-- n is below all names
abbrev pub Above : NameText → List Projection → Type 0
Above n Js = IsTrue (below_all name_cmp n (map keyed Js))

first_true : (a b : Bool) → IsTrue (a && b) → IsTrue a
first_true true b h = refl
first_true false b h = h

second_true : (a b : Bool) → IsTrue (a && b) → IsTrue b
second_true true b h = h
second_true false b h = absurd cc

both_true : (a b : Bool) → IsTrue a → IsTrue b → IsTrue (a && b)
both_true true b g h = h
both_true false b g h = absurd cc

less_is : (o : Ordering) → IsTrue (is_lt o) → o ≡ Less
less_is Less h = refl
less_is Equal h = absurd cc
less_is Greater h = absurd cc

head_above : (n : NameText) (K : Projection) (Js : List Projection) → Above n (K ∷ Js) → name_cmp n K.name ≡ Less
head_above n K Js h = less_is (name_cmp n K.name) (first_true (is_lt (name_cmp n K.name)) (below_all name_cmp n (map keyed Js)) h)

tail_above : (n : NameText) (K : Projection) (Js : List Projection) → Above n (K ∷ Js) → Above n Js
tail_above n K Js h = second_true (is_lt (name_cmp n K.name)) (below_all name_cmp n (map keyed Js)) h

above_all : (n : NameText) (m : NameText) (Js : List Projection) → name_cmp n m ≡ Less → Above m Js → Above n Js
above_all n m [] less h = refl
above_all n m (K ∷ Js) less h =
    both_true (is_lt (name_cmp n K.name)) (below_all name_cmp n (map keyed Js))
    (ap is_lt (name_cmp_total.trans n m K.name less (head_above m K Js h)))
    (above_all n m Js less (tail_above m K Js h))

above_tied : (n : NameText) (m : NameText) (Js : List Projection) → name_cmp n m ≡ Equal → Above m Js → Above n Js
above_tied n m Js same h = subst (λ (x : NameText). Above x Js) (sym (name_cmp-same n m same)) h

-- what a name below all finds
pub above_has : (n : NameText) (Js : List Projection) → Above n Js → has_projection n Js ≡ false
above_has n [] h = refl
above_has n (K ∷ Js) h = ap (λ (o : Ordering). is_eq o || has_projection n Js) (head_above n K Js h) ∙ above_has n Js (tail_above n K Js h)

above_adds : (J : Projection) (Js : List Projection) → Above J.name Js → with_projection J Js ≡ J ∷ Js
unfolding with_projection
above_adds J [] h = refl
above_adds J (K ∷ Js) h = ap (λ (o : Ordering). by_order o (J ∷ K ∷ Js) (J ∷ Js) (K ∷ with_projection J Js)) (head_above J.name K Js h)

above_stays : (n : NameText) (Js : List Projection) → Above n Js → without_projection n Js ≡ Js
above_stays n [] h = refl
above_stays n (K ∷ Js) h =
    ap (λ (o : Ordering). cond (not (is_eq o)) (K ∷ without_projection n Js) (without_projection n Js)) (head_above n K Js h)
    ∙ ap (λ (Ks : List Projection). K ∷ Ks) (above_stays n Js (tail_above n K Js h))

-- the first i projections are below n: what is asked of the whole is asked of the rest
pub record Passed (n : NameText) (all : List Projection) (i : ℕ) : Type 0 where
  pub sorted : IsInOrder (drop i all)
  pub has : has_projection n all ≡ has_projection n (drop i all)
  pub goes : without_projection n all ≡ take i all ++ without_projection n (drop i all)
  pub adds : (J : Projection) → J.name ≡ n → with_projection J all ≡ take i all ++ with_projection J (drop i all)

pub none_passed : (n : NameText) (all : List Projection) → IsInOrder all → Passed n all 0
none_passed n all sorted = record { sorted = sorted; has = refl; goes = refl; adds = λ J h. refl }

moved : (all : List Projection) (i : ℕ) (K : Projection) (rest : List Projection) → i < length all → K ≡ get_or all i K → take i all ++ K ∷ rest ≡ take (suc i) all ++ rest
moved [] i K rest lt is = absurd (omega arith)
moved (x ∷ all) zero K rest lt is = ap (λ (y : Projection). y ∷ rest) is
moved (x ∷ all) (suc i) K rest lt is = ap (λ (ys : List Projection). x ∷ ys) (moved all i K rest (omega arith) is)

module _ (n : NameText) (all : List Projection) (i : ℕ) (K : Projection) (lt : i < length all) (is : K ≡ get_or all i K) (passed : Passed n all i) where
  rest : List Projection
  rest = drop (suc i) all

  cell : drop i all ≡ K ∷ drop (suc i) all
  cell = drop-cons all i K lt ∙ ap (λ (x : Projection). x ∷ drop (suc i) all) (sym is)

  ordered : IsInOrder (K ∷ drop (suc i) all)
  ordered = subst IsInOrder cell passed.sorted

  above_rest : Above K.name (drop (suc i) all)
  above_rest = first_true (below_all name_cmp K.name (map keyed (drop (suc i) all))) (is_sorted name_cmp (map keyed (drop (suc i) all))) ordered

  -- K is below n too
  more : name_cmp n K.name ≡ Greater → Passed n all (suc i)
  unfolding with_projection
  more greater = record {
    sorted = second_true (below_all name_cmp K.name (map keyed (drop (suc i) all))) (is_sorted name_cmp (map keyed (drop (suc i) all))) ordered;
    has = passed.has ∙ (ap (has_projection n) cell ∙ ap (λ (o : Ordering). is_eq o || has_projection n (drop (suc i) all)) greater);
    goes = passed.goes ∙ (ap (λ (Ks : List Projection). take i all ++ without_projection n Ks) cell
        ∙ (ap (λ (o : Ordering). take i all ++ cond (not (is_eq o)) (K ∷ without_projection n (drop (suc i) all)) (without_projection n (drop (suc i) all))) greater
        ∙ moved all i K (without_projection n (drop (suc i) all)) lt is));
    adds = λ J h. passed.adds J h ∙ (ap (λ (Ks : List Projection). take i all ++ with_projection J Ks) cell
        ∙ (ap (λ (o : Ordering). take i all ++ by_order o (J ∷ K ∷ drop (suc i) all) (J ∷ drop (suc i) all) (K ∷ with_projection J (drop (suc i) all))) (ap (λ (m : NameText). name_cmp m K.name) h ∙ greater)
        ∙ moved all i K (with_projection J (drop (suc i) all)) lt is));
  }

  pub one_passed : name_cmp n K.name ≡ Greater → Passed n all (i + 1)
  one_passed greater = subst (Passed n all) {x = suc i} (omega arith) (more greater)

  -- K has the name
  pub has_here : name_cmp n K.name ≡ Equal → has_projection n all ≡ true
  has_here same = passed.has ∙ (ap (has_projection n) cell ∙ ap (λ (o : Ordering). is_eq o || has_projection n (drop (suc i) all)) same)

  pub goes_here : name_cmp n K.name ≡ Equal → without_projection n all ≡ remove all i
  goes_here same =
      passed.goes ∙ ap (λ (Ks : List Projection). take i all ++ Ks) (ap (without_projection n) cell
      ∙ (ap (λ (o : Ordering). cond (not (is_eq o)) (K ∷ without_projection n (drop (suc i) all)) (without_projection n (drop (suc i) all))) same
      ∙ above_stays n (drop (suc i) all) (above_tied n K.name (drop (suc i) all) same above_rest)))

  -- K is above n
  pub above_here : name_cmp n K.name ≡ Less → Above n (drop i all)
  above_here less = subst (Above n) (sym cell)
      (both_true (is_lt (name_cmp n K.name)) (below_all name_cmp n (map keyed (drop (suc i) all))) (ap is_lt less) (above_all n K.name (drop (suc i) all) less above_rest))

-- all others are above n
pub has_none : (n : NameText) (all : List Projection) (i : ℕ) → Passed n all i → Above n (drop i all) → has_projection n all ≡ false
has_none n all i passed above = passed.has ∙ above_has n (drop i all) above

pub adds_here : (n : NameText) (all : List Projection) (i : ℕ) → Passed n all i → Above n (drop i all) → (J : Projection) → J.name ≡ n → with_projection J all ≡ insert all i J
adds_here n all i passed above J h = passed.adds J h ∙ ap (λ (Ks : List Projection). take i all ++ Ks) (above_adds J (drop i all) (subst (λ (m : NameText). Above m (drop i all)) (sym h) above))

pub nothing_above : (n : NameText) (all : List Projection) (i : ℕ) → length all ≤ i → Above n (drop i all)
nothing_above n [] i le = subst (Above n) (sym (none i)) refl
  where
    none : (i : ℕ) → ◌≡◌ {A = List Projection} (drop i []) []
    none zero = refl
    none (suc i) = refl
nothing_above n (K ∷ all) zero le = absurd (omega arith)
nothing_above n (K ∷ all) (suc i) le = nothing_above n all i (omega arith)

-- ---- the order stays

kept : (b : Bool) → IsTrue b → T b
kept b h = subst T (sym h) tt

held : (b : Bool) → T b → IsTrue b
held true h = refl
held false h = absurd h

keyed_put : (J : Projection) (Js : List Projection) → map keyed (with_projection J Js) ≡ put name_cmp J.name J (map keyed Js)
unfolding with_projection
keyed_put J [] = refl
keyed_put J (K ∷ Js) = elim (name_cmp J.name K.name) as (λ r. name_cmp J.name K.name ≡ r → map keyed (by_order r (J ∷ K ∷ Js) (J ∷ Js) (K ∷ with_projection J Js)) ≡ by_order r (keyed J ∷ keyed K ∷ map keyed Js) ((K.name, J) ∷ map keyed Js) (keyed K ∷ put name_cmp J.name J (map keyed Js))) [
  | Less ↦ λ t. refl
  | Equal ↦ λ t. ap (λ (m : NameText). (m, J) ∷ map keyed Js) (name_cmp-same J.name K.name t)
  | Greater ↦ λ t. ap (λ (es : List (NameText × Projection)). keyed K ∷ es) (keyed_put J Js)
] refl

pub still_ordered : (J : Projection) (Js new : List Projection) → IsInOrder Js → with_projection J Js ≡ new → IsInOrder new
still_ordered J Js new h is = subst IsInOrder is (subst (λ (es : List (NameText × Projection)). IsTrue (is_sorted name_cmp es)) (sym (keyed_put J Js)) (held (is_sorted name_cmp (put name_cmp J.name J (map keyed Js))) (is_sorted-put name_cmp name_cmp_total J.name J (map keyed Js) (kept (is_sorted name_cmp (map keyed Js)) h))))

keyed_where : (n : NameText) (Js : List Projection) → map keyed (without_projection n Js) ≡ where_key name_cmp (λ (x : NameText). not (eq_by_cmp name_cmp n x)) (map keyed Js)
keyed_where n [] = refl
keyed_where n (K ∷ Js) = elim (not (eq_by_cmp name_cmp n K.name)) as (λ b. map keyed (cond b (K ∷ without_projection n Js) (without_projection n Js)) ≡ cond b (keyed K ∷ where_key name_cmp (λ (x : NameText). not (eq_by_cmp name_cmp n x)) (map keyed Js)) (where_key name_cmp (λ (x : NameText). not (eq_by_cmp name_cmp n x)) (map keyed Js))) [
  | true ↦ ap (λ (es : List (NameText × Projection)). keyed K ∷ es) (keyed_where n Js)
  | false ↦ keyed_where n Js
]

pub left_ordered : (n : NameText) (Js new : List Projection) → IsInOrder Js → without_projection n Js ≡ new → IsInOrder new
left_ordered n Js new h is = subst IsInOrder is (subst (λ (es : List (NameText × Projection)). IsTrue (is_sorted name_cmp es)) (sym (keyed_where n Js)) (held (is_sorted name_cmp (where_key name_cmp (λ (x : NameText). not (eq_by_cmp name_cmp n x)) (map keyed Js))) (is_sorted-where_key name_cmp (λ (x : NameText). not (eq_by_cmp name_cmp n x)) (map keyed Js) (kept (is_sorted name_cmp (map keyed Js)) h))))
