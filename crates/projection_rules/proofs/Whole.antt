-- A whole step makes exactly the tables of the tree.
use Rattle.std.proofs.Common.{◌≡◌, Bool, true, false, cond, List, [], ◌∷◌, ◌++◌, map, refl, sym, ap, subst, ◌∙◌, Option, Some, None, Less, Equal, Greater, ◌&&◌}
use Rattle.std.specs.Prelude.{IsTrue, T}
use Rattle.std.specs.List.{filter}
use Rattle.std.specs.Option.{option_or}
use Rattle.std.specs.Ordering.{is_eq, is_lt, eq_by_cmp, ordering_then}
use Rattle.std.specs.declared.cmp.Ordering.{Ordering}
use Rattle.std.specs.Cmp.{IsTotalOrder, eq_by_cmp_equiv}
use Rattle.std.specs.FinMap.{FinMap, IsAntisymmetric, empty, get, insert, from_entries, find, is_sorted, entries, entries_sorted, get-empty, get-insert, get-from_entries, same_map}
use Rattle.std.specs.FinMap.Entries.{below_all, where_key, is_sorted-where_key}
use Rattle.khepri_terms.specs.Terms.{NameText}
use Rattle.khepri_terms.specs.declared.scalar.Scalar.{Scalar}
use Rattle.khepri_terms.specs.Order.{name_cmp, path_cmp}
use Rattle.khepri_types.proofs.Order.{name_cmp_total, name_cmp-same}
use Rattle.khepri_types.proofs.PlaceOrder.{place_total, place_same}
use Rattle.khepri_types.specs.Keys.{Place, key_cmp, place_cmp}
use Rattle.khepri_types.specs.declared.node.Node.{Node}
use Rattle.khepri_types.specs.declared.projection.Projection.{Projection}
use Rattle.khepri_types.specs.declared.row.Row.{Row}
use Rattle.khepri_types.specs.declared.row.RowChange.{RowChange}
use Rattle.khepri_types.specs.declared.row.RowChange.TheVariants.{AddTable, PutRow}
use Rattle.khepri_types.specs.Patterns.{matches, matching_nodes}
use Rattle.khepri_types.specs.Projecting.{sources, both, row, and_rows, found_rows, rows_over, placed, table, named_table, tables_over, table_changes, whole_changes, keyed, IsInOrder}
use Rattle.khepri_types.specs.Tables.{Rows, TableRows, AllTables, with_rows, changes}
use Rattle.khepri_types.specs.Tree.{Tree}

first_true : (a b : Bool) → IsTrue (a && b) → IsTrue a
first_true true b h = refl
first_true false b h = h

second_true : (a b : Bool) → IsTrue (a && b) → IsTrue b
second_true true b h = h
second_true false b h = absurd cc

less_is : (o : Ordering) → IsTrue (is_lt o) → o ≡ Less
less_is Less h = refl
less_is Equal h = absurd cc
less_is Greater h = absurd cc

held : (b : Bool) → T b → IsTrue b
held true h = refl
held false h = absurd h

-- ---- entries that are put in one after another

module _ {K X : Type 0} (R : K → K → Ordering) where
  -- the map with these entries put in, from the first
  abbrev pub inserts : List (K × X) → FinMap R X → FinMap R X
  inserts [] m = m
  inserts (e ∷ es) m = inserts es (insert m e.0 e.1)

  -- no key stands twice
  abbrev pub Apart : List (K × X) → Type 0
  Apart [] = Unit {0}
  Apart (e ∷ es) = (find R e.0 es ≡ None) × Apart es

tied : {K : Type 0} (R : K → K → Ordering) → IsAntisymmetric R → (q k : K) → eq_by_cmp R q k ≡ true → q ≡ k
tied R same q k h = same q k (elim (R q k) as (λ r. is_eq r ≡ true → r ≡ Equal) [ Less ↦ λ g. absurd cc | Equal ↦ λ g. refl | Greater ↦ λ g. absurd cc ] h)

or_nothing : {X : Type 0} (x : Option X) → option_or x None ≡ x
or_nothing None = refl
or_nothing (Some v) = refl

module _ {K X : Type 0} (R : K → K → Ordering) (o : IsTotalOrder R) (same : IsAntisymmetric R) where
  got : (es : List (K × X)) (m : FinMap R X) → Apart R es → (q : K) → get (inserts R es m) q ≡ option_or (find R q es) (get m q)
  got [] m apart q = refl
  got (e ∷ es) m apart q =
      got es (insert m e.0 e.1) apart.1 q
      ∙ (ap (option_or (find R q es)) (get-insert o m e.0 e.1 q)
      ∙ elim (eq_by_cmp R q e.0) as (λ b. eq_by_cmp R q e.0 ≡ b → option_or (find R q es) (cond b (Some e.1) (get m q)) ≡ option_or (cond b (Some e.1) (find R q es)) (get m q)) [
        | true ↦ λ t. ap (λ (x : Option X). option_or x (Some e.1)) (ap (λ (k : K). find R k es) (tied R same q e.0 t) ∙ apart.0)
        | false ↦ λ t. refl
      ] refl)

  pub all_inserted : (es : List (K × X)) → Apart R es → inserts R es empty ≡ from_entries es
  all_inserted es apart = same_map o same _ _ (λ q.
      got es empty apart q ∙ (ap (option_or (find R q es)) (get-empty R q) ∙ (or_nothing (find R q es) ∙ sym (get-from_entries o es q))))

  -- a key that is put in twice
  pub again : (m : FinMap R X) (k : K) (v w : X) → insert (insert m k v) k w ≡ insert m k w
  again m k v w = same_map o same _ _ (λ q.
      get-insert o (insert m k v) k w q ∙ (ap (cond (eq_by_cmp R q k) (Some w)) (get-insert o m k v q)
      ∙ (elim (eq_by_cmp R q k) as (λ b. cond b (Some w) (cond b (Some v) (get m q)) ≡ cond b (Some w) (get m q)) [ true ↦ refl | false ↦ refl ]
      ∙ sym (get-insert o m k w q))))

  pub got_it : (m : FinMap R X) (k : K) (v : X) → get (insert m k v) k ≡ Some v
  got_it m k v = get-insert o m k v k ∙ ap (λ (b : Bool). cond b (Some v) (get m k)) ((eq_by_cmp_equiv o).refl k)

-- ---- the rows of one table

put_in : (n : NameText) (b : Bool) (rs : List Row) (m : Rows) (ts : AllTables) → changes (map (PutRow n) rs) (insert ts n (record { bag = b; rows = m })) ≡ insert ts n (record { bag = b; rows = inserts place_cmp (map placed rs) m })
put_in n b [] m ts = refl
put_in n b (r ∷ rs) m ts =
    ap (λ (o : Option TableRows). changes (map (PutRow n) rs) (with_rows (λ (rows : Rows). insert rows (r.key, r.path) r.value) n (insert ts n (record { bag = b; rows = m })) o)) (got_it name_cmp name_cmp_total name_cmp-same ts n (record { bag = b; rows = m }))
    ∙ (ap (λ (us : AllTables). changes (map (PutRow n) rs) us) (again name_cmp name_cmp_total name_cmp-same ts n (record { bag = b; rows = m }) (record { bag = b; rows = insert m (r.key, r.path) r.value }))
    ∙ put_in n b rs (insert m (r.key, r.path) r.value) ts)

never : (r : Ordering) → is_eq (ordering_then r Less) ≡ false
never Less = refl
never Equal = refl
never Greater = refl

-- no row of a path stands where a lower path's would
not_among : (k : List Scalar) (p q : List NameText) (rest : List Row) (ks vs : Option (List Scalar)) → path_cmp p q ≡ Less → find place_cmp (k, p) (map placed rest) ≡ None
    → find place_cmp (k, p) (map placed (and_rows (both q ks vs) rest)) ≡ None
not_among k p q rest None vs less none = none
not_among k p q rest (Some l) None less none = none
not_among k p q rest (Some l) (Some v) less none =
    ap (λ (r : Ordering). cond (is_eq (ordering_then (key_cmp k l) r)) (Some v) (find place_cmp (k, p) (map placed rest))) less
    ∙ (ap (λ (b : Bool). cond b (Some v) (find place_cmp (k, p) (map placed rest))) (never (key_cmp k l)) ∙ none)

one_apart : (p : List NameText) (rest : List Row) (ks vs : Option (List Scalar)) → ((k : List Scalar) → find place_cmp (k, p) (map placed rest) ≡ None) → Apart place_cmp (map placed rest)
    → Apart place_cmp (map placed (and_rows (both p ks vs) rest))
one_apart p rest None vs none apart = apart
one_apart p rest (Some k) None none apart = apart
one_apart p rest (Some k) (Some v) none apart = (none k, apart)

-- a path below those of all nodes has none of their rows
apart_from : (J : Projection) (k : List Scalar) (p : List NameText) (nodes : List (List NameText × Node)) → IsTrue (below_all path_cmp p nodes) → find place_cmp (k, p) (map placed (found_rows J nodes)) ≡ None
unfolding found_rows
apart_from J k p [] h = refl
apart_from J k p (e ∷ nodes) h =
    not_among k p e.0 (found_rows J nodes) (sources e.0 e.1 J.keys) (sources e.0 e.1 J.values)
    (less_is (path_cmp p e.0) (first_true (is_lt (path_cmp p e.0)) (below_all path_cmp p nodes) h))
    (apart_from J k p nodes (second_true (is_lt (path_cmp p e.0)) (below_all path_cmp p nodes) h))

rows_apart : (J : Projection) (nodes : List (List NameText × Node)) → IsTrue (is_sorted path_cmp nodes) → Apart place_cmp (map placed (found_rows J nodes))
unfolding found_rows
rows_apart J [] h = tt
rows_apart J (e ∷ nodes) h =
    one_apart e.0 (found_rows J nodes) (sources e.0 e.1 J.keys) (sources e.0 e.1 J.values)
    (λ k. apart_from J k e.0 nodes (first_true (below_all path_cmp e.0 nodes) (is_sorted path_cmp nodes) h))
    (rows_apart J nodes (second_true (below_all path_cmp e.0 nodes) (is_sorted path_cmp nodes) h))

-- the nodes that a pattern matches are in order of path
matching_sorted : (J : Projection) (U : Tree) → IsTrue (is_sorted path_cmp (matching_nodes J.pattern U))
matching_sorted J U = held (is_sorted path_cmp (matching_nodes J.pattern U)) (is_sorted-where_key path_cmp (λ (q : List NameText). matches J.pattern U q) (entries U) (entries_sorted U))

one_table : (J : Projection) (U : Tree) (ts : AllTables) → changes (table_changes U J) ts ≡ insert ts J.name (table J U)
one_table J U ts =
    put_in J.name J.bag (rows_over J U) empty ts
    ∙ ap (λ (m : Rows). insert ts J.name (record { bag = J.bag; rows = m })) (all_inserted place_cmp place_total place_same (map placed (rows_over J U)) (rows_apart J (matching_nodes J.pattern U) (matching_sorted J U)))

-- ---- all tables

both_parts : (xs ys : List RowChange) (ts : AllTables) → changes (xs ++ ys) ts ≡ changes ys (changes xs ts)
both_parts [] ys ts = refl
both_parts (x ∷ xs) ys ts = both_parts xs ys _

all_tables : (U : Tree) (Js : List Projection) (ts : AllTables) → changes (whole_changes U Js) ts ≡ inserts name_cmp (map (named_table U) Js) ts
unfolding whole_changes
all_tables U [] ts = refl
all_tables U (J ∷ Js) ts =
    both_parts (table_changes U J) (whole_changes U Js) ts
    ∙ (ap (λ (us : AllTables). changes (whole_changes U Js) us) (one_table J U ts)
    ∙ all_tables U Js (insert ts J.name (table J U)))

no_such : (U : Tree) (n : NameText) (Js : List Projection) → IsTrue (below_all name_cmp n (map keyed Js)) → find name_cmp n (map (named_table U) Js) ≡ None
no_such U n [] h = refl
no_such U n (K ∷ Js) h =
    ap (λ (r : Ordering). cond (is_eq r) (Some (table K U)) (find name_cmp n (map (named_table U) Js))) (less_is (name_cmp n K.name) (first_true (is_lt (name_cmp n K.name)) (below_all name_cmp n (map keyed Js)) h))
    ∙ no_such U n Js (second_true (is_lt (name_cmp n K.name)) (below_all name_cmp n (map keyed Js)) h)

names_apart : (U : Tree) (Js : List Projection) → IsInOrder Js → Apart name_cmp (map (named_table U) Js)
names_apart U [] h = tt
names_apart U (J ∷ Js) h = (no_such U J.name Js (first_true (below_all name_cmp J.name (map keyed Js)) (is_sorted name_cmp (map keyed Js)) h), names_apart U Js (second_true (below_all name_cmp J.name (map keyed Js)) (is_sorted name_cmp (map keyed Js)) h))

pub whole_makes : (U : Tree) (Js : List Projection) → IsInOrder Js → changes (whole_changes U Js) empty ≡ tables_over Js U
whole_makes U Js h = all_tables U Js empty ∙ all_inserted name_cmp name_cmp_total name_cmp-same (map (named_table U) Js) (names_apart U Js h)
