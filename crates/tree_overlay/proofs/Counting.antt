-- How many nodes and children there are, as nodes come and change.
use Rattle.std.proofs.Common.{◌≡◌, ℕ, ◌+◌, Bool, true, false, cond, not, List, [], ◌∷◌, length, refl, sym, ap, ◌∙◌, arith, Option, Some, None, Less, Equal, Greater}
use Rattle.std.specs.Prelude.{IsTrue, T, is_some}
use Rattle.std.specs.List.{sum_by}
use Rattle.std.specs.Ordering.{is_eq, eq_by_cmp}
use Rattle.std.specs.Cmp.{tied_itself, eq_by_cmp_equiv}
use Rattle.std.specs.FinMap.{get, len, entries, insert, remove, find, put, is_sorted, from_sorted, entries_sorted, len-entries, get-remove, get-entries, entries-insert, entries-from_sorted}
use Rattle.std.specs.FinMap.Entries.{by_order, below_all, where_key, is_sorted-where_key, find-where_key, same_entries}
use Rattle.std.proofs.lemmas.List.Sums.{sum_by-cons, sum-map, length-filter}
use Rattle.khepri_terms.specs.Terms.{NameText}
use Rattle.khepri_terms.specs.Order.{name_cmp, path_cmp}
use Rattle.khepri_types.specs.declared.node.Node.{Node}
use Rattle.khepri_types.specs.Paths.{is_child}
use Rattle.khepri_types.specs.Sizes.{kids, bytes, node_bytes}
use Rattle.khepri_types.specs.Tree.{Tree}
use Rattle.khepri_types.proofs.Order.{path_cmp_total, path_cmp-same}
use Rattle.khepri_types.proofs.Fronts.{child_taken, child_long}
use Rattle.nested_nodes.specs.Nests.{IsNest, children}
use Rattle.nested_nodes.proofs.Rows.{and_first, and_second, find-below, find-tied_below}
use Rattle.nested_nodes.proofs.Named.{Rows}
use Rattle.tree_overlay.proofs.Applying.{holds}

abbrev pub Entry : Type 0
Entry = List NameText × Node

-- ---- a sum over all nodes

pub sum-new : (f : Entry → ℕ) (k : List NameText) (v : Node) (es : List Entry) → find path_cmp k es ≡ None → sum_by f (put path_cmp k v es) ≡ sum_by f es + f (k, v)
sum-new f k v [] h = sum_by-cons f (k, v) [] ∙ omega arith
sum-new f k v (e ∷ es) h = elim (path_cmp k e.0) as (λ o. cond (is_eq o) (Some e.1) (find path_cmp k es) ≡ None → sum_by f (by_order o ((k, v) ∷ e ∷ es) ((e.0, v) ∷ es) (e ∷ put path_cmp k v es)) ≡ sum_by f (e ∷ es) + f (k, v)) [
  | Less ↦ λ none. sum_by-cons f (k, v) (e ∷ es) ∙ omega arith
  | Equal ↦ λ none. absurd cc
  | Greater ↦ λ none. omega (arith, sum_by-cons f e (put path_cmp k v es), sum_by-cons f e es, sum-new f k v es none)
] h

pub sum-old : (f : Entry → ℕ) (k : List NameText) (v w : Node) (es : List Entry) → IsTrue (is_sorted path_cmp es) → find path_cmp k es ≡ Some w → sum_by f (put path_cmp k v es) + f (k, w) ≡ sum_by f es + f (k, v)
sum-old f k v w [] s h = absurd cc
sum-old f k v w (e ∷ es) s h =
    let below = and_first (below_all path_cmp e.0 es) (is_sorted path_cmp es) s in
    elim (path_cmp k e.0) as (λ o. path_cmp k e.0 ≡ o → cond (is_eq o) (Some e.1) (find path_cmp k es) ≡ Some w → sum_by f (by_order o ((k, v) ∷ e ∷ es) ((e.0, v) ∷ es) (e ∷ put path_cmp k v es)) + f (k, w) ≡ sum_by f (e ∷ es) + f (k, v)) [
      | Less ↦ λ t g. absurd (cc (g, find-below path_cmp path_cmp_total k e.0 es t below))
      | Equal ↦ λ t g.
          let same : k ≡ e.0 = path_cmp-same k e.0 t in
          let value : e.1 ≡ w = cc in
          let was : f (k, w) ≡ f e = λ i. f (same i, sym value i) in
          let now : f (k, v) ≡ f (e.0, v) = λ i. f (same i, v) in
          omega (arith, sum_by-cons f (e.0, v) es, sum_by-cons f e es, was, now)
      | Greater ↦ λ t g. omega (arith, sum_by-cons f e (put path_cmp k v es), sum_by-cons f e es, sum-old f k v w es (and_second (below_all path_cmp e.0 es) (is_sorted path_cmp es) s) g)
    ] refl h

held : (b : Bool) → T b → IsTrue b
held true h = refl
held false h = absurd h

-- 1 for a child of p, 0 for another
abbrev pub flag : List NameText → Entry → ℕ
flag p e = cond (is_child p e.0) 1 0

kids_sum : (M : Tree) (p : List NameText) → kids M p ≡ sum_by (flag p) (entries M)
kids_sum M p = length-filter (λ (e : Entry). is_child p e.0) (entries M)

pub kids-new : (M : Tree) (k : List NameText) (v : Node) (p : List NameText) → get M k ≡ None → kids (insert M k v) p ≡ kids M p + flag p (k, v)
kids-new M k v p none =
    kids_sum (insert M k v) p
    ∙ (ap (sum_by (flag p)) (entries-insert path_cmp_total M k v)
    ∙ (sum-new (flag p) k v (entries M) (sym (get-entries M k) ∙ none) ∙ ap (λ (n : ℕ). n + flag p (k, v)) (sym (kids_sum M p))))

pub kids-old : (M : Tree) (k : List NameText) (v w : Node) (p : List NameText) → get M k ≡ Some w → kids (insert M k v) p ≡ kids M p
kids-old M k v w p some =
    omega (arith, kids_sum (insert M k v) p, ap (sum_by (flag p)) (entries-insert path_cmp_total M k v), sum-old (flag p) k v w (entries M) (held _ (entries_sorted M)) (sym (get-entries M k) ∙ some), kids_sum M p)

-- ---- a node goes

without : List NameText → List NameText → Bool
without k x = not (eq_by_cmp path_cmp k x)

entries-gone : (M : Tree) (k : List NameText) → entries (remove M k) ≡ where_key path_cmp (without k) (entries M)
unfolding without
entries-gone M k = same_entries path_cmp path_cmp_total path_cmp-same (entries (remove M k)) (where_key path_cmp (without k) (entries M)) (entries_sorted (remove M k)) (is_sorted-where_key path_cmp (without k) (entries M) (entries_sorted M)) (λ q.
    sym (get-entries (remove M k) q)
    ∙ (get-remove path_cmp_total M k q
    ∙ (ap (λ (b : Bool). cond b None (get M q)) ((eq_by_cmp_equiv path_cmp_total).symm q k)
    ∙ (elim (eq_by_cmp path_cmp k q) as (λ b. cond b None (get M q) ≡ cond (not b) (get M q) None) [ true ↦ refl | false ↦ refl ]
    ∙ (ap (λ (o : Option Node). cond (without k q) o None) (get-entries M q)
    ∙ sym (find-where_key path_cmp (without k) q (λ x tie. ap (λ (r : List NameText). not (eq_by_cmp path_cmp k r)) (sym (path_cmp-same q x tie))) (entries M)))))))

sum-off : (f : Entry → ℕ) (k : List NameText) (es : List Entry) → find path_cmp k es ≡ None → sum_by f (where_key path_cmp (without k) es) ≡ sum_by f es
unfolding without
sum-off f k [] h = refl
sum-off f k (e ∷ es) h = elim (eq_by_cmp path_cmp k e.0) as (λ b. cond b (Some e.1) (find path_cmp k es) ≡ None → sum_by f (cond (not b) (e ∷ where_key path_cmp (without k) es) (where_key path_cmp (without k) es)) ≡ sum_by f (e ∷ es)) [
  | true ↦ λ g. absurd cc
  | false ↦ λ g. omega (arith, sum_by-cons f e (where_key path_cmp (without k) es), sum_by-cons f e es, sum-off f k es g)
] h

sum-gone : (f : Entry → ℕ) (k : List NameText) (w : Node) (es : List Entry) → IsTrue (is_sorted path_cmp es) → find path_cmp k es ≡ Some w → sum_by f (where_key path_cmp (without k) es) + f (k, w) ≡ sum_by f es
unfolding without
sum-gone f k w [] s h = absurd cc
sum-gone f k w (e ∷ es) s h = elim (path_cmp k e.0) as (λ o. path_cmp k e.0 ≡ o → cond (is_eq o) (Some e.1) (find path_cmp k es) ≡ Some w → sum_by f (cond (not (is_eq o)) (e ∷ where_key path_cmp (without k) es) (where_key path_cmp (without k) es)) + f (k, w) ≡ sum_by f (e ∷ es)) [
  | Less ↦ λ t g. omega (arith, sum_by-cons f e (where_key path_cmp (without k) es), sum_by-cons f e es, sum-gone f k w es (and_second (below_all path_cmp e.0 es) (is_sorted path_cmp es) s) g)
  | Equal ↦ λ t g.
      let value : e.1 ≡ w = cc in
      let was : f (k, w) ≡ f e = λ i. f (path_cmp-same k e.0 t i, sym value i) in
      omega (arith, sum_by-cons f e es, was, sum-off f k es (find-tied_below path_cmp path_cmp_total k e.0 es t (and_first (below_all path_cmp e.0 es) (is_sorted path_cmp es) s)))
  | Greater ↦ λ t g. omega (arith, sum_by-cons f e (where_key path_cmp (without k) es), sum_by-cons f e es, sum-gone f k w es (and_second (below_all path_cmp e.0 es) (is_sorted path_cmp es) s) g)
] refl h

pub kids-gone : (M : Tree) (k : List NameText) (w : Node) (p : List NameText) → get M k ≡ Some w → kids (remove M k) p + flag p (k, w) ≡ kids M p
kids-gone M k w p some =
    let gone = ap (sum_by (flag p)) (entries-gone M k) in
    let was = sum-gone (flag p) k w (entries M) (held _ (entries_sorted M)) (sym (get-entries M k) ∙ some) in
    omega (arith, kids_sum (remove M k) p, gone, was, kids_sum M p)

count_all : (es : List Entry) → length es ≡ sum_by (λ (e : Entry). 1) es
count_all [] = refl
count_all (e ∷ es) = omega (arith, count_all es, sum_by-cons (λ (e : Entry). 1) e es)

pub len-gone : (M : Tree) (k : List NameText) (w : Node) → get M k ≡ Some w → len (remove M k) + 1 ≡ len M
len-gone M k w some =
    let gone = ap (sum_by (λ (e : Entry). 1)) (entries-gone M k) in
    let was = sum-gone (λ (e : Entry). 1) k w (entries M) (held _ (entries_sorted M)) (sym (get-entries M k) ∙ some) in
    omega (arith, len-entries (remove M k), len-entries M, count_all (entries (remove M k)), count_all (entries M), gone, was)

-- ---- the number of children in rows

pub kids-rows : (ps : Rows Node) (p : List NameText) → IsNest name_cmp ps → kids (from_sorted {R = path_cmp} ps) p ≡ children ps p
kids-rows ps p nest = kids_sum (from_sorted ps) p ∙ ap (sum_by (flag p)) (entries-from_sorted path_cmp ps (holds _ nest.sorted))

stands_more : (q : List NameText) (x : Entry) (es : List Entry) → is_some (find path_cmp q es) ≡ true → is_some (find path_cmp q (x ∷ es)) ≡ true
stands_more q x es h = elim (eq_by_cmp path_cmp q x.0) as (λ b. is_some (cond b (Some x.1) (find path_cmp q es)) ≡ true) [ true ↦ refl | false ↦ h ]

none_flagged : (p : List NameText) (es : List Entry) → ((q : List NameText) → is_some (find path_cmp q es) ≡ true → is_child p q ≡ false) → sum_by (flag p) es ≡ 0
none_flagged p [] none = refl
none_flagged p (x ∷ es) none =
    let here : is_some (find path_cmp x.0 (x ∷ es)) ≡ true = ap (λ (b : Bool). is_some (cond b (Some x.1) (find path_cmp x.0 es))) (itself x.0) in
    let first : flag p x ≡ 0 = ap {B = ℕ} (λ (b : Bool). cond b 1 0) (none x.0 here) in
    omega (arith, sum_by-cons (flag p) x es, first, none_flagged p es (λ q h. none q (stands_more q x es h)))
  where
    itself : (q : List NameText) → eq_by_cmp path_cmp q q ≡ true
    itself q = ap is_eq (tied_itself path_cmp_total q)

-- where no path that stands is a child, there is none
pub kids-none : (M : Tree) (p : List NameText) → ((q : List NameText) → is_some (get M q) ≡ true → is_child p q ≡ false) → kids M p ≡ 0
kids-none M p none = kids_sum M p ∙ none_flagged p (entries M) (λ q h. none q (ap is_some (get-entries M q) ∙ h))

-- a path that is missing has no children
pub childless : (ps : Rows Node) (p : List NameText) → IsNest name_cmp ps → false ≡ is_some (find path_cmp p ps) → children ps p ≡ 0
childless ps p nest none = none_flagged p ps (λ q h. elim (is_child p q) as (λ t. is_child p q ≡ t → t ≡ false) [
  | true ↦ λ t.
      let up = nest.fronts q (length p) (omega (arith, child_long p q t)) h in
      absurd (cc (none, ap (λ (r : List NameText). is_some (find path_cmp r ps)) (sym (child_taken p q t)), up))
  | false ↦ λ t. refl
] refl)

-- ---- the bytes

bytes_sum : (M : Tree) → bytes M ≡ sum_by node_bytes (entries M)
bytes_sum M = sum-map node_bytes (entries M)

pub bytes-old : (M : Tree) (k : List NameText) (v w : Node) → get M k ≡ Some w → bytes (insert M k v) + node_bytes (k, w) ≡ bytes M + node_bytes (k, v)
bytes-old M k v w some =
    let put = ap (sum_by node_bytes) (entries-insert path_cmp_total M k v) in
    let both = sum-old node_bytes k v w (entries M) (held _ (entries_sorted M)) (sym (get-entries M k) ∙ some) in
    omega (arith, bytes_sum (insert M k v), put, both, bytes_sum M)

pub bytes-gone : (M : Tree) (k : List NameText) (w : Node) → get M k ≡ Some w → bytes (remove M k) + node_bytes (k, w) ≡ bytes M
bytes-gone M k w some =
    let gone = ap (sum_by node_bytes) (entries-gone M k) in
    let was = sum-gone node_bytes k w (entries M) (held _ (entries_sorted M)) (sym (get-entries M k) ∙ some) in
    omega (arith, bytes_sum (remove M k), gone, was, bytes_sum M)
