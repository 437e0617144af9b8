-- Rows of one key as lists and as maps.
use Rattle.std.proofs.Common.{◌≡◌, ℕ, ◌<◌, List, ◌∷◌, ◌++◌, map, take, drop, get_or, length, refl, sym, ap, subst, ◌∙◌, not, suc, true, false, Bool, cond, [], set, arith, None}
use Rattle.std.specs.Prelude.{IsTrue, T, insert}
use Rattle.std.specs.List.{remove}
use Rattle.std.specs.Ordering.{eq_by_cmp, is_eq}
use Rattle.std.specs.Cmp.{alike_right, eq_by_cmp_equiv}
use Rattle.std.specs.FinMap.{empty, get, entries, from_sorted, is_sorted, put, find, insert as with_key, remove as without_key, same_entries_map, same_map, get-from_sorted, get-remove, get-empty, entries-insert, entries-from_sorted}
use Rattle.std.specs.FinMap.Entries.{is_sorted-where_key, is_sorted-put, find-where_key}
use Rattle.std.proofs.lemmas.List.{take-map, drop-map, map-append, get_or-map, map-set}
use Rattle.khepri_terms.specs.Terms.{NameText}
use Rattle.khepri_terms.specs.declared.scalar.Scalar.{Scalar}
use Rattle.khepri_terms.specs.Order.{path_cmp}
use Rattle.khepri_types.proofs.Order.{path_cmp_total, path_cmp-same}
use Rattle.khepri_types.specs.declared.row.Row.{Row}
use Rattle.projected_table.specs.Buckets.{cell, without}
use Rattle.projected_table.proofs.Places.{Entry, IsSorted}

held : (b : _) → T b → IsTrue b
held b h = elim b as (λ c. T c → IsTrue c) [ true ↦ λ g. refl | false ↦ λ g. absurd g ] h

kept : (b : _) → IsTrue b → T b
kept b h = subst T (sym h) tt

-- what the entries of a written list are
pub cells-put : (es fs : List Entry) (p : List NameText) (v : List Scalar) → IsSorted es → put path_cmp p v es ≡ fs → IsSorted fs
cells-put es fs p v h is = subst IsSorted is (held (is_sorted path_cmp (put path_cmp p v es)) (is_sorted-put path_cmp path_cmp_total p v es (kept (is_sorted path_cmp es) h)))

pub cells-without : (es fs : List Entry) (p : List NameText) → IsSorted es → without p es ≡ fs → IsSorted fs
cells-without es fs p h is = subst IsSorted is (held (is_sorted path_cmp (without p es)) (is_sorted-where_key path_cmp _ es (kept (is_sorted path_cmp es) h)))

pub entries_are : (es : List Entry) → IsSorted es → entries (from_sorted {R = path_cmp} es) ≡ es
entries_are es h = entries-from_sorted path_cmp es (kept (is_sorted path_cmp es) h)

pub put_is : (es fs : List Entry) (p : List NameText) (v : List Scalar) → IsSorted es → put path_cmp p v es ≡ fs → from_sorted {R = path_cmp} fs ≡ with_key (from_sorted {R = path_cmp} es) p v
put_is es fs p v h is = same_entries_map _ _ (entries_are fs (cells-put es fs p v h is) ∙ (sym is ∙ (ap (put path_cmp p v) (sym (entries_are es h)) ∙ sym (entries-insert path_cmp_total (from_sorted {R = path_cmp} es) p v))))

turned : {A : Type 0} (b : Bool) (x y : A) → cond (not b) x y ≡ cond b y x
turned true x y = refl
turned false x y = refl

pub without_is : (es fs : List Entry) (p : List NameText) → IsSorted es → without p es ≡ fs → from_sorted {R = path_cmp} fs ≡ without_key (from_sorted {R = path_cmp} es) p
without_is es fs p h is = same_map path_cmp_total path_cmp-same _ _ (λ q.
    get-from_sorted path_cmp fs q (kept (is_sorted path_cmp fs) (cells-without es fs p h is))
    ∙ (ap (find path_cmp q) (sym is)
    ∙ (find-where_key path_cmp (λ x. not (eq_by_cmp path_cmp p x)) q (λ x t. ap (λ r. not (is_eq r)) (sym (alike_right path_cmp_total q x p t))) es
    ∙ (turned (eq_by_cmp path_cmp p q) (find path_cmp q es) None
    ∙ (ap (λ (b : Bool). cond b None (find path_cmp q es)) ((eq_by_cmp_equiv path_cmp_total).symm p q)
    ∙ sym (get-remove path_cmp_total (from_sorted {R = path_cmp} es) p q ∙ ap (cond (eq_by_cmp path_cmp q p) None) (get-from_sorted path_cmp es q (kept (is_sorted path_cmp es) h))))))))

-- a list with no entry is the empty map's
pub empty_is : (es : List Entry) → es ≡ [] → from_sorted {R = path_cmp} es ≡ empty
empty_is es h = same_map path_cmp_total path_cmp-same _ _ (λ q. ap (λ (x : List Entry). get (from_sorted {R = path_cmp} x) q) h ∙ (get-from_sorted path_cmp [] q tt ∙ sym (get-empty path_cmp q)))

-- rows and their cells
pub map-insert : (rows : List Row) (i : ℕ) (r : Row) → map cell (insert rows i r) ≡ insert (map cell rows) i (cell r)
map-insert rows i r = map-append cell (take i rows) (r ∷ drop i rows) ∙ (λ j. sym (take-map cell i rows) j ++ cell r ∷ sym (drop-map cell i rows) j)

pub map-remove : (rows : List Row) (i : ℕ) → map cell (remove rows i) ≡ remove (map cell rows) i
map-remove rows i = map-append cell (take i rows) (drop (suc i) rows) ∙ (λ j. sym (take-map cell i rows) j ++ sym (drop-map cell (suc i) rows) j)

-- the cell of the row at i
pub cell_at : (rows : List Row) (i : ℕ) (r : Row) → i < length rows → r ≡ get_or rows i r → cell r ≡ get_or (map cell rows) i (cell r)
cell_at rows i r lt is = ap cell is ∙ sym (get_or-map cell rows i r (cell r) lt)

pub no_rows : (rows : List Row) → length rows ≡ 0 → map cell rows ≡ []
no_rows [] h = refl
no_rows (r ∷ rows) h = absurd (omega arith)

-- the cells after a row is set at its place, or inserted there
pub set_cells : (old s : List Row) (i : ℕ) (row : Row) → s ≡ old → ((v : List Scalar) → put path_cmp row.path v (map cell s) ≡ set (map cell s) i (row.path, v)) → put path_cmp row.path row.value (map cell old) ≡ map cell (set old i row)
set_cells old s i row is h = subst (λ (x : List Row). put path_cmp row.path row.value (map cell x) ≡ set (map cell x) i (row.path, row.value)) is (h row.value) ∙ sym (map-set cell old i row)

pub insert_cells : (old s new : List Row) (i : ℕ) (row : Row) → s ≡ old → new ≡ insert old i row → ((v : List Scalar) → put path_cmp row.path v (map cell s) ≡ insert (map cell s) i (row.path, v)) → put path_cmp row.path row.value (map cell old) ≡ map cell new
insert_cells old s new i row is now h = subst (λ (x : List Row). put path_cmp row.path row.value (map cell x) ≡ insert (map cell x) i (row.path, row.value)) is (h row.value) ∙ (sym (map-insert old i row) ∙ ap (map cell) (sym now))
