-- What the calls of the map of a table do to its rows.
use Rattle.std.proofs.Common.{◌≡◌, ℕ, ◌+◌, ◌<◌, Bool, true, false, cond, List, [], ◌∷◌, refl, sym, ap, subst, ◌∙◌, arith, Option, Some, None, Less, Equal, Greater}
use Rattle.std.specs.Prelude.{IsTrue, is_some}
use Rattle.std.specs.List.Sorted.{IsStrictlySortedBy}
use Rattle.std.specs.Map.{lookup, keys_of}
use Rattle.std.specs.BTreeMap.{BTreeMap, is_at, UpdatesBy, WritesThrough}
use Rattle.std.specs.Option.{option_and_then, option_map_or}
use Rattle.std.specs.Ordering.{eq_by_cmp, is_eq}
use Rattle.std.specs.Cmp.{eq_by_cmp_equiv}
use Rattle.std.specs.FinMap.{find, is_sorted, entries, empty, get, get-entries, get-empty, get-insert, get-remove, insert, remove, same_map}
use Rattle.khepri_terms.specs.Terms.{NameText}
use Rattle.khepri_terms.specs.declared.scalar.Scalar.{Scalar}
use Rattle.khepri_terms.specs.Order.{path_cmp}
use Rattle.khepri_types.proofs.Order.{path_cmp_total}
use Rattle.khepri_types.specs.Keys.{Place, key_cmp, key_total, place_cmp}
use Rattle.khepri_types.specs.Tables.{rows_at}
use Rattle.khepri_types.proofs.PlaceOrder.{place_total, place_same}
use Rattle.projected_table.specs.Buckets.{Bucketed, Cells}
use Rattle.projected_table.specs.Spreads.{Buckets, rows_of, owed_in}
use Rattle.projected_table.proofs.Finding.{find_lookup, sorted_strict}
use Rattle.projected_table.proofs.Spreads.{Sets, at_path, got, rows_at-table, put_rows, cut_rows, same_rows, owed_now}

abbrev pub Map : Type 0
Map = BTreeMap (List Scalar) Bucketed

pub sorted_now : (m : Map) → IsStrictlySortedBy key_cmp (keys_of m.entries) → IsTrue (is_sorted key_cmp m.entries)
sorted_now m h = sorted_strict key_cmp m.entries h

pub sets_from : (k : List Scalar) (w : Bucketed) (m n : Map) → UpdatesBy key_cmp (key_cmp k) m n (Some w) → Sets k w m.entries n.entries
sets_from k w m n up y =
    find_lookup key_cmp y n.entries ∙ (up.0 y
    ∙ (ap (λ (b : Bool). cond b (Some w) (lookup (is_at (key_cmp y)) m.entries)) ((eq_by_cmp_equiv key_total).symm k y)
    ∙ ap (cond (eq_by_cmp key_cmp y k) (Some w)) (sym (find_lookup key_cmp y m.entries))))

-- a key and its rows were copied
pub sets_copied : (k key : List Scalar) (w : Bucketed) (m n : Map) → key ≡ k → UpdatesBy key_cmp (key_cmp key) m n (Some w) → Sets k w m.entries n.entries
sets_copied k key w m n same up = sets_from k w m n (subst (λ (x : List Scalar). UpdatesBy key_cmp (key_cmp x) m n (Some w)) same up)

pub there : (k : List Scalar) (b : Bucketed) (es : Buckets) → Some b ≡ lookup (is_at (key_cmp k)) es → find key_cmp k es ≡ Some b
there k b es h = find_lookup key_cmp k es ∙ sym h

at_put : (q p : List NameText) (v : List Scalar) (w : Bucketed) (c : Cells) → w.cells ≡ insert c p v → at_path q w ≡ cond (eq_by_cmp path_cmp q p) (Some v) (find path_cmp q (entries c))
at_put q p v w c h = ap (λ (x : Cells). find path_cmp q (entries x)) h ∙ (sym (get-entries (insert c p v) q) ∙ (get-insert path_cmp_total c p v q ∙ ap (cond (eq_by_cmp path_cmp q p) (Some v)) (get-entries c q)))

at_cut : (q p : List NameText) (w : Bucketed) (c : Cells) → w.cells ≡ remove c p → at_path q w ≡ cond (eq_by_cmp path_cmp q p) None (find path_cmp q (entries c))
at_cut q p w c h = ap (λ (x : Cells). find path_cmp q (entries x)) h ∙ (sym (get-entries (remove c p) q) ∙ (get-remove path_cmp_total c p q ∙ ap (cond (eq_by_cmp path_cmp q p) None) (get-entries c q)))

tied_found : (y k : List Scalar) → eq_by_cmp key_cmp y k ≡ true → (es : Buckets) → find key_cmp y es ≡ find key_cmp k es
tied_found y k t [] = refl
tied_found y k t (e ∷ es) = λ i. cond ((eq_by_cmp_equiv key_total).congr y k e.0 t i) (Some e.1) (tied_found y k t es i)

-- a bucket that is there was written
module _ (k : List Scalar) (b w : Bucketed) (m n : Map) (sorted : IsTrue (is_sorted key_cmp m.entries)) (stands : Some b ≡ lookup (is_at (key_cmp k)) m.entries) (wrote : WritesThrough key_cmp (key_cmp k) m w n) where
  now : Sets k w m.entries n.entries
  now = sets_from k w m n (wrote.3 (ap is_some (sym stands)))

  was : (q : List NameText) → option_and_then (at_path q) (find key_cmp k m.entries) ≡ at_path q b
  was q = ap (option_and_then (at_path q)) (there k b m.entries stands)

  pub put_there : (p : List NameText) (v : List Scalar) → w.cells ≡ insert b.cells p v → rows_of n.entries ≡ insert (rows_of m.entries) (k, p) v
  put_there p v h = put_rows k w m.entries n.entries sorted (sorted_now n wrote.4) now p v (λ q. at_put q p v w b.cells h ∙ ap (cond (eq_by_cmp path_cmp q p) (Some v)) (sym (was q)))

  pub cut_there : (p : List NameText) → w.cells ≡ remove b.cells p → rows_of n.entries ≡ remove (rows_of m.entries) (k, p)
  cut_there p h = cut_rows k w m.entries n.entries sorted (sorted_now n wrote.4) now p (λ q. at_cut q p w b.cells h ∙ ap (cond (eq_by_cmp path_cmp q p) None) (sym (was q)))

  pub same_there : w.cells ≡ b.cells → rows_of n.entries ≡ rows_of m.entries
  same_there h = same_rows k w m.entries n.entries sorted (sorted_now n wrote.4) now (λ q. ap (λ (x : Cells). find path_cmp q (entries x)) h ∙ sym (was q))

  owed_was : owed_in m.entries k ≡ b.owed
  owed_was = ap (λ (o : Option Bucketed). option_map_or (λ (x : Bucketed). x.owed) o 0) (there k b m.entries stands)

  pub owed_there : (y : List Scalar) → owed_in n.entries y ≡ cond (eq_by_cmp key_cmp y k) w.owed (owed_in m.entries y)
  owed_there y = owed_now k w m.entries n.entries sorted (sorted_now n wrote.4) now y

  owed_tied : (y : List Scalar) → eq_by_cmp key_cmp y k ≡ true → owed_in m.entries y ≡ b.owed
  owed_tied y t = ap (λ (o : Option Bucketed). option_map_or (λ (x : Bucketed). x.owed) o 0) (tied_found y k t m.entries) ∙ owed_was

  pub owed_more : w.owed ≡ b.owed + 1 → (y : List Scalar) → owed_in n.entries y ≡ owed_in m.entries y + cond (eq_by_cmp key_cmp y k) 1 0
  owed_more h y = owed_there y ∙ elim (eq_by_cmp key_cmp y k) as (λ t. eq_by_cmp key_cmp y k ≡ t → cond t w.owed (owed_in m.entries y) ≡ owed_in m.entries y + cond t 1 0) [
    | true ↦ λ t. omega (arith, h, owed_tied y t)
    | false ↦ λ t. omega arith
  ] refl

  pub owed_less : w.owed + 1 ≡ b.owed → (y : List Scalar) → owed_in n.entries y + cond (eq_by_cmp key_cmp y k) 1 0 ≡ owed_in m.entries y
  owed_less h y = ap (λ (x : ℕ). x + cond (eq_by_cmp key_cmp y k) 1 0) (owed_there y) ∙ elim (eq_by_cmp key_cmp y k) as (λ t. eq_by_cmp key_cmp y k ≡ t → cond t w.owed (owed_in m.entries y) + cond t 1 0 ≡ owed_in m.entries y) [
    | true ↦ λ t. omega (arith, h, owed_tied y t)
    | false ↦ λ t. omega arith
  ] refl

  pub owed_same : w.owed ≡ b.owed → (y : List Scalar) → owed_in n.entries y ≡ owed_in m.entries y
  owed_same h y = owed_there y ∙ elim (eq_by_cmp key_cmp y k) as (λ t. eq_by_cmp key_cmp y k ≡ t → cond t w.owed (owed_in m.entries y) ≡ owed_in m.entries y) [
    | true ↦ λ t. h ∙ sym (owed_tied y t)
    | false ↦ λ t. refl
  ] refl

  pub owed_gone : w.owed ≡ 0 → owed_in n.entries k ≡ 0
  owed_gone h = owed_there k ∙ (ap (λ (b : Bool). cond b w.owed (owed_in m.entries k)) ((eq_by_cmp_equiv key_total).refl k) ∙ h)

  pub room_there : 0 < owed_in m.entries k → 0 < b.owed
  room_there h = omega (arith, h, owed_was)

-- a key was opened that had no bucket
module _ (k key : List Scalar) (w : Bucketed) (m n : Map) (sorted : IsTrue (is_sorted key_cmp m.entries)) (same : key ≡ k) (absent : is_some (lookup (is_at (key_cmp k)) m.entries) ≡ false) (up : UpdatesBy key_cmp (key_cmp key) m n (Some w)) (ordered : IsStrictlySortedBy key_cmp (keys_of n.entries)) where
  none : find key_cmp k m.entries ≡ None
  none = find_lookup key_cmp k m.entries ∙ elim (lookup (is_at (key_cmp k)) m.entries) as (λ o. is_some o ≡ false → o ≡ None) [ None ↦ λ h. refl | Some b ↦ λ h. absurd cc ] absent

  came : Sets k w m.entries n.entries
  came = sets_from k w m n (subst (λ (x : List Scalar). UpdatesBy key_cmp (key_cmp x) m n (Some w)) same up)

  pub opened_rows : w.cells ≡ empty → rows_of n.entries ≡ rows_of m.entries
  opened_rows h = same_rows k w m.entries n.entries sorted (sorted_now n ordered) came (λ q. ap (λ (x : Cells). find path_cmp q (entries x)) h ∙ (sym (get-entries (empty {R = path_cmp}) q) ∙ (get-empty path_cmp q ∙ ap (option_and_then (at_path q)) (sym none))))

  pub opened_owed : w.owed ≡ 0 → (y : List Scalar) → owed_in n.entries y ≡ owed_in m.entries y
  opened_owed h y = owed_now k w m.entries n.entries sorted (sorted_now n ordered) came y ∙ elim (eq_by_cmp key_cmp y k) as (λ t. eq_by_cmp key_cmp y k ≡ t → cond t w.owed (owed_in m.entries y) ≡ owed_in m.entries y) [
    | true ↦ λ t. h ∙ sym (ap (λ (o : Option Bucketed). option_map_or (λ (x : Bucketed). x.owed) o 0) (tied_found y k t m.entries ∙ none))
    | false ↦ λ t. refl
  ] refl

  pub opened_there : IsTrue (is_some (find key_cmp k n.entries))
  opened_there = ap is_some (came k) ∙ ap (λ (b : Bool). is_some (cond b (Some w) (find key_cmp k m.entries))) ((eq_by_cmp_equiv key_total).refl k)

-- a key that has no bucket has no row to cut
pub cut_absent : (k : List Scalar) (p : List NameText) (m n : Map) → IsTrue (is_sorted key_cmp m.entries) → None ≡ lookup (is_at (key_cmp k)) m.entries → n.entries ≡ m.entries → rows_of n.entries ≡ remove (rows_of m.entries) (k, p)
cut_absent k p m n sorted none is = ap rows_of is ∙ same_map place_total place_same _ _ (λ z. nothing z ∙ sym (get-remove place_total (rows_of m.entries) (k, p) z))
  where
    nothing : (z : Place) → get (rows_of m.entries) z ≡ cond (eq_by_cmp place_cmp z (k, p)) None (get (rows_of m.entries) z)
    nothing z = elim (place_cmp z (k, p)) as (λ r. place_cmp z (k, p) ≡ r → get (rows_of m.entries) z ≡ cond (is_eq r) None (get (rows_of m.entries) z)) [
      | Less ↦ λ t. refl
      | Equal ↦ λ t. ap (get (rows_of m.entries)) (place_same z (k, p) t) ∙ (got m.entries sorted k p ∙ ap (option_and_then (at_path p)) (find_lookup key_cmp k m.entries ∙ sym none))
      | Greater ↦ λ t. refl
    ] refl

-- a key without a row was taken out
module _ (k : List Scalar) (m n : Map) (sorted : IsTrue (is_sorted key_cmp m.entries)) (bare : rows_at k (entries (rows_of m.entries)) ≡ []) (up : UpdatesBy key_cmp (key_cmp k) m n None) (ordered : IsStrictlySortedBy key_cmp (keys_of n.entries)) where
  gone : (y : List Scalar) → find key_cmp y n.entries ≡ cond (eq_by_cmp key_cmp y k) None (find key_cmp y m.entries)
  gone y =
      find_lookup key_cmp y n.entries ∙ (up.0 y
      ∙ (ap (λ (b : Bool). cond b None (lookup (is_at (key_cmp y)) m.entries)) ((eq_by_cmp_equiv key_total).symm k y)
      ∙ ap (cond (eq_by_cmp key_cmp y k) None) (sym (find_lookup key_cmp y m.entries))))

  pub bare_rows : rows_of n.entries ≡ rows_of m.entries
  bare_rows = same_map place_total place_same _ _ (λ z.
      got n.entries (sorted_now n ordered) z.0 z.1 ∙ (ap (option_and_then (at_path z.1)) (gone z.0)
      ∙ (elim (eq_by_cmp key_cmp z.0 k) as (λ b. eq_by_cmp key_cmp z.0 k ≡ b → option_and_then (at_path z.1) (cond b None (find key_cmp z.0 m.entries)) ≡ option_and_then (at_path z.1) (find key_cmp z.0 m.entries)) [
        | true ↦ λ t. sym (ap (option_and_then (at_path z.1)) (tied_found z.0 k t m.entries) ∙ nothing z.1 (find key_cmp k m.entries) (sym (rows_at-table k m.entries sorted) ∙ bare))
        | false ↦ λ t. refl
      ] refl ∙ sym (got m.entries sorted z.0 z.1))))
    where
      nothing : (q : List NameText) (o : Option Bucketed) → option_map_or (λ (b : Bucketed). entries b.cells) o [] ≡ [] → option_and_then (at_path q) o ≡ None
      nothing q None h = refl
      nothing q (Some b) h = ap (find path_cmp q) h

  pub bare_gone : find key_cmp k n.entries ≡ None
  bare_gone = gone k ∙ ap (λ (b : Bool). cond b None (find key_cmp k m.entries)) ((eq_by_cmp_equiv key_total).refl k)

  pub bare_owed : owed_in n.entries k ≡ 0
  bare_owed = ap (λ (o : Option Bucketed). option_map_or (λ (b : Bucketed). b.owed) o 0) bare_gone

-- a key that is not there has no room
pub absent_owed : (k : List Scalar) (m n : Map) → None ≡ lookup (is_at (key_cmp k)) m.entries → n.entries ≡ m.entries → owed_in n.entries k ≡ 0
absent_owed k m n none is = ap (λ (es : Buckets). owed_in es k) is ∙ ap (λ (o : Option Bucketed). option_map_or (λ (b : Bucketed). b.owed) o 0) (find_lookup key_cmp k m.entries ∙ sym none)
