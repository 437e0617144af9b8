-- What is found in the rows of a table, by those of its keys.
use Rattle.std.proofs.Common.{◌≡◌, true, false, cond, List, [], ◌∷◌, ◌++◌, map, refl, sym, ap, subst, ◌∙◌, Option, Some, None, Less, Equal, Greater, ◌&&◌}
use Rattle.std.specs.Prelude.{IsTrue, T}
use Rattle.std.specs.List.{AllByRecursion}
use Rattle.std.specs.Option.{option_and_then, option_map, option_map_or, option_or}
use Rattle.std.specs.Ordering.{is_eq, is_lt, eq_by_cmp, ordering_then}
use Rattle.std.specs.declared.cmp.Ordering.{Ordering}
use Rattle.std.specs.Cmp.{tied_itself}
use Rattle.std.specs.FinMap.{empty, get-empty, find, is_sorted, entries, entries_sorted, get, insert, remove, get-from_sorted, entries-from_sorted, get-insert, get-remove, same_map}
use Rattle.std.specs.FinMap.Entries.{below_all}
use Rattle.khepri_terms.specs.Terms.{NameText}
use Rattle.khepri_terms.specs.declared.scalar.Scalar.{Scalar}
use Rattle.khepri_terms.specs.Order.{path_cmp}
use Rattle.khepri_types.specs.Keys.{Place, key_cmp, key_total, place_cmp}
use Rattle.khepri_types.specs.Tables.{rows_at}
use Rattle.khepri_types.proofs.PlaceOrder.{key_cmp-same, place_total, place_same}
use Rattle.projected_table.specs.Buckets.{Bucketed, Cells}
use Rattle.projected_table.specs.Spreads.{Buckets, onto, spread, rows_of, owed_in}
use Rattle.projected_table.proofs.Finding.{and_both, and_first, and_second, or_none, lt_less, find-both, below-both, sorted-both, find-tied_below}

held : (b : _) → T b → IsTrue b
held b h = elim b as (λ c. T c → IsTrue c) [ true ↦ λ g. refl | false ↦ λ g. absurd g ] h

kept : (b : _) → IsTrue b → T b
kept b h = subst T (sym h) tt

find-onto : (x : List Scalar) (q : List NameText) (y : List Scalar) (ps : List (List NameText × List Scalar)) → find place_cmp (x, q) (map (onto y) ps) ≡ cond (is_eq (key_cmp x y)) (find path_cmp q ps) None
find-onto x q y [] = elim (is_eq (key_cmp x y)) as (λ b. ◌≡◌ {A = Option (List Scalar)} None (cond b None None)) [ true ↦ refl | false ↦ refl ]
find-onto x q y (e ∷ ps) =
    let rest = find-onto x q y ps in
    elim (key_cmp x y) as (λ r. key_cmp x y ≡ r → cond (is_eq (ordering_then r (path_cmp q e.0))) (Some e.1) (find place_cmp (x, q) (map (onto y) ps)) ≡ cond (is_eq r) (cond (is_eq (path_cmp q e.0)) (Some e.1) (find path_cmp q ps)) None) [
      | Less ↦ λ h. rest ∙ ap (λ (r : Ordering). cond (is_eq r) (find path_cmp q ps) None) h
      | Equal ↦ λ h. ap (cond (is_eq (path_cmp q e.0)) (Some e.1)) (rest ∙ ap (λ (r : Ordering). cond (is_eq r) (find path_cmp q ps) None) h)
      | Greater ↦ λ h. rest ∙ ap (λ (r : Ordering). cond (is_eq r) (find path_cmp q ps) None) h
    ] refl

-- what a key's rows have at a path
abbrev pub at_path : List NameText → Bucketed → Option (List Scalar)
at_path q b = find path_cmp q (entries b.cells)

-- a row of a key is found among the rows of the key
pub find-spread : (x : List Scalar) (q : List NameText) (es : Buckets) → IsTrue (is_sorted key_cmp es) → find place_cmp (x, q) (spread es) ≡ option_and_then (at_path q) (find key_cmp x es)
find-spread x q [] h = refl
find-spread x q (e ∷ es) h =
    let rest = find-spread x q es (and_second (below_all key_cmp e.0 es) (is_sorted key_cmp es) h) in
    find-both place_cmp (x, q) (map (onto e.0) (entries e.1.cells)) (spread es)
    ∙ (ap (λ (a : Option (List Scalar)). option_or a (find place_cmp (x, q) (spread es))) (find-onto x q e.0 (entries e.1.cells))
    ∙ elim (key_cmp x e.0) as (λ r. key_cmp x e.0 ≡ r → option_or (cond (is_eq r) (at_path q e.1) None) (find place_cmp (x, q) (spread es)) ≡ option_and_then (at_path q) (cond (is_eq r) (Some e.1) (find key_cmp x es))) [
      | Less ↦ λ t. rest
      | Equal ↦ λ t.
          ap (option_or (at_path q e.1)) (rest ∙ ap (option_and_then (at_path q)) (find-tied_below key_cmp key_total x e.0 es t (and_first (below_all key_cmp e.0 es) (is_sorted key_cmp es) h)))
          ∙ or_none (at_path q e.1)
      | Greater ↦ λ t. rest
    ] refl)

below-onto : (x : List Scalar) (p : List NameText) (y : List Scalar) (ps : List (List NameText × List Scalar)) → key_cmp x y ≡ Less → IsTrue (below_all place_cmp (x, p) (map (onto y) ps))
below-onto x p y [] h = refl
below-onto x p y (e ∷ ps) h =
    and_both (is_lt (ordering_then (key_cmp x y) (path_cmp p e.0))) (below_all place_cmp (x, p) (map (onto y) ps))
    (ap (λ (r : Ordering). is_lt (ordering_then r (path_cmp p e.0))) h) (below-onto x p y ps h)

below-spread : (x : List Scalar) (p : List NameText) (es : Buckets) → IsTrue (below_all key_cmp x es) → IsTrue (below_all place_cmp (x, p) (spread es))
below-spread x p [] h = refl
below-spread x p (e ∷ es) h =
    below-both place_cmp (x, p) (map (onto e.0) (entries e.1.cells)) (spread es)
    (below-onto x p e.0 (entries e.1.cells) (lt_less (key_cmp x e.0) (and_first (is_lt (key_cmp x e.0)) (below_all key_cmp x es) h)))
    (below-spread x p es (and_second (is_lt (key_cmp x e.0)) (below_all key_cmp x es) h))

each-onto : (x : List Scalar) (ps : List (List NameText × List Scalar)) (es : Buckets) → IsTrue (below_all key_cmp x es) → AllByRecursion (λ (e : Place × List Scalar). IsTrue (below_all place_cmp e.0 (spread es))) (map (onto x) ps)
each-onto x [] es h = tt
each-onto x (e ∷ ps) es h = (below-spread x e.0 es h, each-onto x ps es h)

below-same : (x : List Scalar) (p : List NameText) (ps : List (List NameText × List Scalar)) → below_all place_cmp (x, p) (map (onto x) ps) ≡ below_all path_cmp p ps
below-same x p [] = refl
below-same x p (e ∷ ps) = λ i. is_lt (ordering_then (tied_itself key_total x i) (path_cmp p e.0)) && below-same x p ps i

sorted-onto : (x : List Scalar) (ps : List (List NameText × List Scalar)) → is_sorted place_cmp (map (onto x) ps) ≡ is_sorted path_cmp ps
sorted-onto x [] = refl
sorted-onto x (e ∷ ps) = λ i. below-same x e.0 ps i && sorted-onto x ps i

pub sorted-spread : (es : Buckets) → IsTrue (is_sorted key_cmp es) → IsTrue (is_sorted place_cmp (spread es))
sorted-spread [] h = refl
sorted-spread (e ∷ es) h =
    sorted-both place_cmp (map (onto e.0) (entries e.1.cells)) (spread es) (sorted-onto e.0 (entries e.1.cells) ∙ held (is_sorted path_cmp (entries e.1.cells)) (entries_sorted e.1.cells))
    (sorted-spread es (and_second (below_all key_cmp e.0 es) (is_sorted key_cmp es) h))
    (each-onto e.0 (entries e.1.cells) es (and_first (below_all key_cmp e.0 es) (is_sorted key_cmp es) h))

-- what a table has at a place
pub got : (es : Buckets) → IsTrue (is_sorted key_cmp es) → (y : List Scalar) (q : List NameText) → get (rows_of es) (y, q) ≡ option_and_then (at_path q) (find key_cmp y es)
got es h y q = get-from_sorted place_cmp (spread es) (y, q) (kept (is_sorted place_cmp (spread es)) (sorted-spread es h)) ∙ find-spread y q es h

-- ---- the rows of a key

rows_at-both : (k : List Scalar) (xs ys : List (Place × List Scalar)) → rows_at k (xs ++ ys) ≡ rows_at k xs ++ rows_at k ys
rows_at-both k [] ys = refl
rows_at-both k (x ∷ xs) ys = elim (eq_by_cmp key_cmp k x.0.0) as (λ b. cond b ((x.0.1, x.1) ∷ rows_at k (xs ++ ys)) (rows_at k (xs ++ ys)) ≡ cond b ((x.0.1, x.1) ∷ rows_at k xs) (rows_at k xs) ++ rows_at k ys) [
  | true ↦ ap (λ (zs : List (List NameText × List Scalar)). (x.0.1, x.1) ∷ zs) (rows_at-both k xs ys)
  | false ↦ rows_at-both k xs ys
]

rows_at-onto : (k y : List Scalar) (ps : List (List NameText × List Scalar)) → rows_at k (map (onto y) ps) ≡ cond (eq_by_cmp key_cmp k y) ps []
rows_at-onto k y [] = elim (eq_by_cmp key_cmp k y) as (λ b. ◌≡◌ {A = List (List NameText × List Scalar)} [] (cond b [] [])) [ true ↦ refl | false ↦ refl ]
rows_at-onto k y (e ∷ ps) = elim (eq_by_cmp key_cmp k y) as (λ b. rows_at k (map (onto y) ps) ≡ cond b ps [] → cond b ((e.0, e.1) ∷ rows_at k (map (onto y) ps)) (rows_at k (map (onto y) ps)) ≡ cond b (e ∷ ps) []) [
  | true ↦ λ r. ap (λ (zs : List (List NameText × List Scalar)). e ∷ zs) r
  | false ↦ λ r. r
] (rows_at-onto k y ps)

no_more : (xs : List (List NameText × List Scalar)) → xs ++ [] ≡ xs
no_more [] = refl
no_more (x ∷ xs) = ap (λ (zs : List (List NameText × List Scalar)). x ∷ zs) (no_more xs)

pub rows_at-spread : (k : List Scalar) (es : Buckets) → IsTrue (is_sorted key_cmp es) → rows_at k (spread es) ≡ option_map_or (λ (b : Bucketed). entries b.cells) (find key_cmp k es) []
rows_at-spread k [] h = refl
rows_at-spread k (e ∷ es) h =
    let rest = rows_at-spread k es (and_second (below_all key_cmp e.0 es) (is_sorted key_cmp es) h) in
    rows_at-both k (map (onto e.0) (entries e.1.cells)) (spread es)
    ∙ (ap (λ (a : List (List NameText × List Scalar)). a ++ rows_at k (spread es)) (rows_at-onto k e.0 (entries e.1.cells))
    ∙ elim (key_cmp k e.0) as (λ r. key_cmp k e.0 ≡ r → cond (is_eq r) (entries e.1.cells) [] ++ rows_at k (spread es) ≡ option_map_or (λ (b : Bucketed). entries b.cells) (cond (is_eq r) (Some e.1) (find key_cmp k es)) []) [
      | Less ↦ λ t. rest
      | Equal ↦ λ t. ap (λ (a : List (List NameText × List Scalar)). entries e.1.cells ++ a) (rest ∙ ap (λ (o : Option Bucketed). option_map_or (λ (b : Bucketed). entries b.cells) o []) (find-tied_below key_cmp key_total k e.0 es t (and_first (below_all key_cmp e.0 es) (is_sorted key_cmp es) h))) ∙ no_more (entries e.1.cells)
      | Greater ↦ λ t. rest
    ] refl)

-- the rows of a key in a table
pub rows_at-table : (k : List Scalar) (es : Buckets) → IsTrue (is_sorted key_cmp es) → rows_at k (entries (rows_of es)) ≡ option_map_or (λ (b : Bucketed). entries b.cells) (find key_cmp k es) []
rows_at-table k es h = ap (rows_at k) (entries-from_sorted place_cmp (spread es) (kept (is_sorted place_cmp (spread es)) (sorted-spread es h))) ∙ rows_at-spread k es h

-- ---- what a write to one key does to the table

-- fs has w at k, and else what es has
abbrev pub Sets : List Scalar → Bucketed → Buckets → Buckets → Type 0
Sets k w es fs = (y : List Scalar) → find key_cmp y fs ≡ cond (eq_by_cmp key_cmp y k) (Some w) (find key_cmp y es)

module _ (k : List Scalar) (w : Bucketed) (es fs : Buckets) (g : IsTrue (is_sorted key_cmp es)) (h : IsTrue (is_sorted key_cmp fs)) (now : Sets k w es fs) where
  -- the key's rows were written at p
  write : (p : List NameText) (u : Option (List Scalar)) → ((q : List NameText) → at_path q w ≡ cond (eq_by_cmp path_cmp q p) u (option_and_then (at_path q) (find key_cmp k es))) → (z : Place) → get (rows_of fs) z ≡ cond (eq_by_cmp place_cmp z (k, p)) u (get (rows_of es) z)
  write p u inner z =
      let y = z.0 in
      let q = z.1 in
      got fs h y q ∙ (ap (option_and_then (at_path q)) (now y)
      ∙ (elim (key_cmp y k) as (λ r. key_cmp y k ≡ r → option_and_then (at_path q) (cond (is_eq r) (Some w) (find key_cmp y es)) ≡ cond (is_eq (ordering_then r (path_cmp q p))) u (option_and_then (at_path q) (find key_cmp y es))) [
        | Less ↦ λ t. refl
        | Equal ↦ λ t. inner q ∙ ap (λ (x : List Scalar). cond (is_eq (path_cmp q p)) u (option_and_then (at_path q) (find key_cmp x es))) (sym (key_cmp-same y k t))
        | Greater ↦ λ t. refl
      ] refl ∙ ap (cond (eq_by_cmp place_cmp z (k, p)) u) (sym (got es g y q))))

  pub put_rows : (p : List NameText) (v : List Scalar) → ((q : List NameText) → at_path q w ≡ cond (eq_by_cmp path_cmp q p) (Some v) (option_and_then (at_path q) (find key_cmp k es))) → rows_of fs ≡ insert (rows_of es) (k, p) v
  put_rows p v inner = same_map place_total place_same _ _ (λ z. write p (Some v) inner z ∙ sym (get-insert place_total (rows_of es) (k, p) v z))

  pub cut_rows : (p : List NameText) → ((q : List NameText) → at_path q w ≡ cond (eq_by_cmp path_cmp q p) None (option_and_then (at_path q) (find key_cmp k es))) → rows_of fs ≡ remove (rows_of es) (k, p)
  cut_rows p inner = same_map place_total place_same _ _ (λ z. write p None inner z ∙ sym (get-remove place_total (rows_of es) (k, p) z))

  pub same_rows : ((q : List NameText) → at_path q w ≡ option_and_then (at_path q) (find key_cmp k es)) → rows_of fs ≡ rows_of es
  same_rows inner = same_map place_total place_same _ _ (λ z.
      let y = z.0 in
      let q = z.1 in
      got fs h y q ∙ (ap (option_and_then (at_path q)) (now y)
      ∙ (elim (key_cmp y k) as (λ r. key_cmp y k ≡ r → option_and_then (at_path q) (cond (is_eq r) (Some w) (find key_cmp y es)) ≡ option_and_then (at_path q) (find key_cmp y es)) [
        | Less ↦ λ t. refl
        | Equal ↦ λ t. inner q ∙ ap (λ (x : List Scalar). option_and_then (at_path q) (find key_cmp x es)) (sym (key_cmp-same y k t))
        | Greater ↦ λ t. refl
      ] refl ∙ sym (got es g y q))))

  pub owed_now : (y : List Scalar) → owed_in fs y ≡ cond (eq_by_cmp key_cmp y k) w.owed (owed_in es y)
  owed_now y = ap (λ (o : Option Bucketed). option_map_or (λ (b : Bucketed). b.owed) o 0) (now y) ∙ elim (eq_by_cmp key_cmp y k) as (λ b. option_map_or (λ (b : Bucketed). b.owed) (cond b (Some w) (find key_cmp y es)) 0 ≡ cond b w.owed (owed_in es y)) [ true ↦ refl | false ↦ refl ]

-- a table has the rows that its keys have
pub same_cells : (es fs : Buckets) → IsTrue (is_sorted key_cmp es) → IsTrue (is_sorted key_cmp fs) → ((y : List Scalar) → option_map (λ (b : Bucketed). b.cells) (find key_cmp y fs) ≡ option_map (λ (b : Bucketed). b.cells) (find key_cmp y es)) → rows_of fs ≡ rows_of es
same_cells es fs g h same = same_map place_total place_same _ _ (λ z.
    got fs h z.0 z.1 ∙ (through z.1 (find key_cmp z.0 fs)
    ∙ (ap (option_and_then (λ (c : Cells). find path_cmp z.1 (entries c))) (same z.0)
    ∙ (sym (through z.1 (find key_cmp z.0 es)) ∙ sym (got es g z.0 z.1)))))
  where
    through : (q : List NameText) (o : Option Bucketed) → option_and_then (at_path q) o ≡ option_and_then (λ (c : Cells). find path_cmp q (entries c)) (option_map (λ (b : Bucketed). b.cells) o)
    through q None = refl
    through q (Some b) = refl

pub no_spread : (es : Buckets) → es ≡ [] → rows_of es ≡ empty
no_spread es h = same_map place_total place_same _ _ (λ z. ap (λ (x : Buckets). get (rows_of x) z) h ∙ (get-from_sorted place_cmp [] z tt ∙ sym (get-empty place_cmp z)))
