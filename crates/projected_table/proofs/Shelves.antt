-- What the calls of the map of all tables do to them.
use Rattle.std.proofs.Common.{◌≡◌, ℕ, ◌+◌, ◌<◌, Bool, true, false, cond, ◌&&◌, List, [], ◌∷◌, ◌++◌, map, refl, sym, ap, subst, ◌∙◌, arith, Option, Some, None, Less, Equal, Greater}
use Rattle.std.specs.Prelude.{IsTrue, T, is_some}
use Rattle.std.specs.List.{AllByRecursion}
use Rattle.std.specs.List.Sorted.{IsStrictlySortedBy}
use Rattle.std.specs.Map.{lookup, keys_of, set_value, remove_entry}
use Rattle.std.specs.BTreeMap.{BTreeMap, insert_entry, is_at, UpdatesBy, WritesThrough}
use Rattle.std.specs.Option.{option_map, option_map_or}
use Rattle.std.specs.Ordering.{eq_by_cmp, is_eq, is_lt, match_ordering}
use Rattle.std.specs.Cmp.{eq_by_cmp_equiv}
use Rattle.std.specs.FinMap.{find, is_sorted, get, get-from_sorted, get-insert, get-remove, get-empty, empty, insert, remove, same_map}
use Rattle.std.specs.FinMap.Entries.{below_all}
use Rattle.khepri_terms.specs.Terms.{NameText}
use Rattle.khepri_terms.specs.declared.scalar.Scalar.{Scalar}
use Rattle.khepri_terms.specs.Order.{name_cmp}
use Rattle.khepri_types.proofs.Order.{name_cmp_total, name_cmp-same}
use Rattle.khepri_types.specs.declared.row.Row.{Row}
use Rattle.khepri_types.specs.declared.row.RowChange.{RowChange}
use Rattle.khepri_types.specs.declared.row.RowChange.TheVariants.{PutRow}
use Rattle.khepri_types.specs.Keys.{key_cmp, key_total}
use Rattle.khepri_types.specs.Tables.{Rows, TableRows, AllTables, with_rows}
use Rattle.projected_table.specs.Spreads.{IsTable, table_of, owed_in}
use Rattle.projected_table.specs.Shelves.{Shelves, shelf, tables_of, AreTables, owed_at, stands, tally, put_by, puts, Room}
use Rattle.projected_table.specs.declared.table.Table.{Table}
use Rattle.projected_table.proofs.Finding.{find_lookup, sorted_strict}

kept : (b : _) → IsTrue b → T b
kept b h = subst T (sym h) tt

find-shelf : (n : NameText) (es : Shelves) → find name_cmp n (map shelf es) ≡ option_map table_of (find name_cmp n es)
find-shelf n [] = refl
find-shelf n (e ∷ es) = elim (eq_by_cmp name_cmp n e.0) as (λ b. cond b (Some (table_of e.1)) (find name_cmp n (map shelf es)) ≡ option_map table_of (cond b (Some e.1) (find name_cmp n es))) [ true ↦ refl | false ↦ find-shelf n es ]

below-shelf : (n : NameText) (es : Shelves) → below_all name_cmp n (map shelf es) ≡ below_all name_cmp n es
below-shelf n [] = refl
below-shelf n (e ∷ es) = ap (λ (b : Bool). is_lt (name_cmp n e.0) && b) (below-shelf n es)

sorted-shelf : (es : Shelves) → is_sorted name_cmp (map shelf es) ≡ is_sorted name_cmp es
sorted-shelf [] = refl
sorted-shelf (e ∷ es) = λ i. below-shelf e.0 es i && sorted-shelf es i

-- the table of a name
pub got_table : (es : Shelves) → IsTrue (is_sorted name_cmp es) → (n : NameText) → get (tables_of es) n ≡ option_map table_of (find name_cmp n es)
got_table es h n = get-from_sorted name_cmp (map shelf es) n (kept (is_sorted name_cmp (map shelf es)) (sorted-shelf es ∙ h)) ∙ find-shelf n es

abbrev pub Map : Type 0
Map = BTreeMap NameText Table

each-set : (test : NameText → Bool) (es : Shelves) (w : Table) → AllByRecursion (λ (e : NameText × Table). IsTable e.1) es → IsTable w → AllByRecursion (λ (e : NameText × Table). IsTable e.1) (set_value test es w)
each-set test [] w all h = tt
each-set test (e ∷ es) w all h = elim (test e.0) as (λ b. AllByRecursion (λ (e : NameText × Table). IsTable e.1) (cond b ((e.0, w) ∷ es) (e ∷ set_value test es w))) [
  | true ↦ (h, all.1)
  | false ↦ (all.0, each-set test es w all.1 h)
]

each-found : (n : NameText) (t : Table) (es : Shelves) → AllByRecursion (λ (e : NameText × Table). IsTable e.1) es → find name_cmp n es ≡ Some t → IsTable t
each-found n t [] all h = absurd cc
each-found n t (e ∷ es) all h = elim (eq_by_cmp name_cmp n e.0) as (λ b. cond b (Some e.1) (find name_cmp n es) ≡ Some t → IsTable t) [
  | true ↦ λ g. let same : e.1 ≡ t = cc in subst IsTable same all.0
  | false ↦ λ g. each-found n t es all.1 g
] h

-- a table that stands was written
module _ (x : NameText) (t w : Table) (m n : Map) (all : AreTables m.entries) (stood : Some t ≡ lookup (is_at (name_cmp x)) m.entries) (wrote : WritesThrough name_cmp (name_cmp x) m w n) where
  found : find name_cmp x m.entries ≡ Some t
  found = find_lookup name_cmp x m.entries ∙ sym stood

  pub is_table : IsTable t
  is_table = each-found x t m.entries all.each found

  now : (y : NameText) → find name_cmp y n.entries ≡ cond (eq_by_cmp name_cmp y x) (Some w) (find name_cmp y m.entries)
  now y = find_lookup name_cmp y n.entries ∙ ((wrote.3 (ap is_some (sym stood))).0 y
      ∙ (ap (λ (b : Bool). cond b (Some w) (lookup (is_at (name_cmp y)) m.entries)) ((eq_by_cmp_equiv name_cmp_total).symm x y)
      ∙ ap (cond (eq_by_cmp name_cmp y x) (Some w)) (sym (find_lookup name_cmp y m.entries))))

  pub written : IsTable w → AreTables n.entries
  written h = record {
    sorted = sorted_strict name_cmp n.entries wrote.4;
    each = subst (λ (es : Shelves). AllByRecursion (λ (e : NameText × Table). IsTable e.1) es) (sym wrote.0) (each-set (is_at (name_cmp x)) m.entries w all.each h);
  }

  tied : (y : NameText) → eq_by_cmp name_cmp y x ≡ true → y ≡ x
  tied y h = name_cmp-same y x (elim (name_cmp y x) as (λ r. name_cmp y x ≡ r → name_cmp y x ≡ Equal) [
    | Less ↦ λ e. absurd (cc (h, ap (λ r. is_eq r) e))
    | Equal ↦ λ e. e
    | Greater ↦ λ e. absurd (cc (h, ap (λ r. is_eq r) e))
  ] refl)

  pub names_stay : (y : NameText) → stands n.entries y ≡ stands m.entries y
  names_stay y = ap is_some (now y) ∙ elim (eq_by_cmp name_cmp y x) as (λ b. eq_by_cmp name_cmp y x ≡ b → is_some (cond b (Some w) (find name_cmp y m.entries)) ≡ is_some (find name_cmp y m.entries)) [
    | true ↦ λ h. sym (ap (λ (z : NameText). is_some (find name_cmp z m.entries)) (tied y h) ∙ ap is_some found)
    | false ↦ λ h. refl
  ] refl

  -- other rows for the table
  pub table_rows : (f : Rows → Rows) → IsTable w → table_of w ≡ record { bag = t.bag; rows = f (table_of t).rows } → tables_of n.entries ≡ with_rows f x (tables_of m.entries) (get (tables_of m.entries) x)
  table_rows f h is = same_map name_cmp_total name_cmp-same _ _ (λ y.
      got_table n.entries (written h).sorted y ∙ (ap (option_map table_of) (now y)
      ∙ (elim (eq_by_cmp name_cmp y x) as (λ b. option_map table_of (cond b (Some w) (find name_cmp y m.entries)) ≡ cond b (Some (record { bag = t.bag; rows = f (table_of t).rows })) (option_map table_of (find name_cmp y m.entries))) [ true ↦ ap Some is | false ↦ refl ]
      ∙ (ap (cond (eq_by_cmp name_cmp y x) (Some (record { bag = t.bag; rows = f (table_of t).rows }))) (sym (got_table m.entries all.sorted y))
      ∙ (sym (get-insert name_cmp_total (tables_of m.entries) x _ y) ∙ ap (λ (o : Option TableRows). get (with_rows f x (tables_of m.entries) o) y) (sym (got_table m.entries all.sorted x ∙ ap (option_map table_of) found)))))))

  -- the table as it was
  pub table_same : IsTable w → table_of w ≡ table_of t → tables_of n.entries ≡ tables_of m.entries
  table_same h is = same_map name_cmp_total name_cmp-same _ _ (λ y.
      got_table n.entries (written h).sorted y ∙ (ap (option_map table_of) (now y)
      ∙ (elim (eq_by_cmp name_cmp y x) as (λ b. eq_by_cmp name_cmp y x ≡ b → option_map table_of (cond b (Some w) (find name_cmp y m.entries)) ≡ option_map table_of (find name_cmp y m.entries)) [
        | true ↦ λ g. ap Some is ∙ sym (ap (λ (z : NameText). option_map table_of (find name_cmp z m.entries)) (tied y g) ∙ ap (option_map table_of) found)
        | false ↦ λ g. refl
      ] refl ∙ sym (got_table m.entries all.sorted y))))

  owed_was : (k : List Scalar) → owed_at m.entries x k ≡ owed_in t.rows.entries k
  owed_was k = ap (λ (o : Option Table). option_map_or (λ (u : Table). owed_in u.rows.entries k) o 0) found

  owed_now : (y : NameText) (k : List Scalar) → owed_at n.entries y k ≡ cond (eq_by_cmp name_cmp y x) (owed_in w.rows.entries k) (owed_at m.entries y k)
  owed_now y k = ap (λ (o : Option Table). option_map_or (λ (u : Table). owed_in u.rows.entries k) o 0) (now y) ∙ elim (eq_by_cmp name_cmp y x) as (λ b. option_map_or (λ (u : Table). owed_in u.rows.entries k) (cond b (Some w) (find name_cmp y m.entries)) 0 ≡ cond b (owed_in w.rows.entries k) (owed_at m.entries y k)) [ true ↦ refl | false ↦ refl ]

  pub owed_more : (l : List Scalar) → ((k : List Scalar) → owed_in w.rows.entries k ≡ owed_in t.rows.entries k + cond (eq_by_cmp key_cmp k l) 1 0) → (y : NameText) (k : List Scalar) → owed_at n.entries y k ≡ owed_at m.entries y k + tally x l y k
  owed_more l h y k = owed_now y k ∙ elim (eq_by_cmp name_cmp y x) as (λ b. eq_by_cmp name_cmp y x ≡ b → cond b (owed_in w.rows.entries k) (owed_at m.entries y k) ≡ owed_at m.entries y k + cond (b && eq_by_cmp key_cmp k l) 1 0) [
    | true ↦ λ g. h k ∙ ap (λ (z : ℕ). z + cond (eq_by_cmp key_cmp k l) 1 0) (sym (ap (λ (z : NameText). owed_at m.entries z k) (tied y g) ∙ owed_was k))
    | false ↦ λ g. omega arith
  ] refl

  pub owed_less : (l : List Scalar) → ((k : List Scalar) → owed_in w.rows.entries k + cond (eq_by_cmp key_cmp k l) 1 0 ≡ owed_in t.rows.entries k) → (y : NameText) (k : List Scalar) → owed_at n.entries y k + tally x l y k ≡ owed_at m.entries y k
  owed_less l h y k = ap (λ (z : ℕ). z + tally x l y k) (owed_now y k) ∙ elim (eq_by_cmp name_cmp y x) as (λ b. eq_by_cmp name_cmp y x ≡ b → cond b (owed_in w.rows.entries k) (owed_at m.entries y k) + cond (b && eq_by_cmp key_cmp k l) 1 0 ≡ owed_at m.entries y k) [
    | true ↦ λ g. h k ∙ sym (ap (λ (z : NameText). owed_at m.entries z k) (tied y g) ∙ owed_was k)
    | false ↦ λ g. omega arith
  ] refl

  pub owed_same : ((k : List Scalar) → owed_in w.rows.entries k ≡ owed_in t.rows.entries k) → (y : NameText) (k : List Scalar) → owed_at n.entries y k ≡ owed_at m.entries y k
  owed_same h y k = owed_now y k ∙ elim (eq_by_cmp name_cmp y x) as (λ b. eq_by_cmp name_cmp y x ≡ b → cond b (owed_in w.rows.entries k) (owed_at m.entries y k) ≡ owed_at m.entries y k) [
    | true ↦ λ g. h k ∙ sym (ap (λ (z : NameText). owed_at m.entries z k) (tied y g) ∙ owed_was k)
    | false ↦ λ g. refl
  ] refl

  pub room_of : (l : List Scalar) → (IsTrue (stands m.entries x) → 0 < owed_at m.entries x l) → 0 < owed_in t.rows.entries l
  room_of l h = omega (arith, h (ap is_some found), owed_was l)

-- no table of the name stands
module _ (x : NameText) (m n : Map) (all : AreTables m.entries) (none : None ≡ lookup (is_at (name_cmp x)) m.entries) (is : n ≡ m) where
  pub absent_tables : AreTables n.entries
  absent_tables = subst (λ (u : Map). AreTables u.entries) (sym is) all

  pub absent_rows : (f : Rows → Rows) → tables_of n.entries ≡ with_rows f x (tables_of m.entries) (get (tables_of m.entries) x)
  absent_rows f = ap (λ (u : Map). tables_of u.entries) is ∙ ap (with_rows f x (tables_of m.entries)) (sym (got_table m.entries all.sorted x ∙ ap (option_map table_of) (find_lookup name_cmp x m.entries ∙ sym none)))

  pub absent_same : tables_of n.entries ≡ tables_of m.entries
  absent_same = ap (λ (u : Map). tables_of u.entries) is

  pub absent_names : (y : NameText) → stands n.entries y ≡ stands m.entries y
  absent_names y = ap (λ (u : Map). stands u.entries y) is

  pub absent_owed : (y : NameText) (k : List Scalar) → owed_at n.entries y k ≡ owed_at m.entries y k
  absent_owed y k = ap (λ (u : Map). owed_at u.entries y k) is

  -- so a change of it concerns none that stands
  pub absent_tally : (l : List Scalar) (y : NameText) (k : List Scalar) → IsTrue (stands m.entries y) → tally x l y k ≡ 0
  absent_tally l y k h = elim (name_cmp y x) as (λ r. name_cmp y x ≡ r → ◌≡◌ {A = ℕ} (cond (is_eq r && eq_by_cmp key_cmp k l) 1 0) 0) [
    | Less ↦ λ e. refl
    | Equal ↦ λ e. absurd (cc (h, ap (λ (z : NameText). stands m.entries z) (name_cmp-same y x e), ap is_some (find_lookup name_cmp x m.entries ∙ sym none)))
    | Greater ↦ λ e. refl
  ] refl

-- ---- counts

pub puts_more : (c : RowChange) (done : List RowChange) (n : NameText) (k : List Scalar) → puts (done ++ c ∷ []) n k ≡ puts done n k + put_by c n k
puts_more c [] n k = omega arith
puts_more c (d ∷ done) n k = omega (arith, puts_more c done n k)

-- room was made for one more change
pub room_more : (c : RowChange) (es fs : Shelves) → ((n : NameText) → stands fs n ≡ stands es n) → ((n : NameText) (k : List Scalar) → IsTrue (stands es n) → owed_at fs n k ≡ owed_at es n k + put_by c n k) → (done : List RowChange) → Room es done → Room fs (done ++ c ∷ [])
room_more c es fs names owed done room n k h = let g : IsTrue (stands es n) = sym (names n) ∙ h in omega (arith, room n k g, owed n k g, puts_more c done n k)

-- room for one was taken up
pub room_less : (c : RowChange) (es fs : Shelves) → ((n : NameText) → stands fs n ≡ stands es n) → ((n : NameText) (k : List Scalar) → IsTrue (stands es n) → owed_at fs n k + put_by c n k ≡ owed_at es n k) → (rest : List RowChange) → Room es (c ∷ rest) → Room fs rest
room_less c es fs names owed rest room n k h = let g : IsTrue (stands es n) = sym (names n) ∙ h in omega (arith, room n k g, owed n k g)

-- room for a row that is put at once
pub room_now : (c : RowChange) (x : NameText) (r : Row) (es : Shelves) → c ≡ PutRow x r → Room es (c ∷ []) → IsTrue (stands es x) → 0 < owed_at es x r.key
room_now c x r es is room h =
    let one : tally x r.key x r.key ≡ 1 = λ i. cond ((eq_by_cmp_equiv name_cmp_total).refl x i && (eq_by_cmp_equiv key_total).refl r.key i) 1 0 in
    let this : put_by c x r.key ≡ tally x r.key x r.key = ap (λ (d : RowChange). put_by d x r.key) is in
    omega (arith, room x r.key h, one, this)

-- room that was made is there
pub room_claimed : (x : NameText) (l k : List Scalar) (es fs : Shelves) → l ≡ k → ((n : NameText) → stands fs n ≡ stands es n) → ((n : NameText) (k : List Scalar) → IsTrue (stands es n) → owed_at fs n k ≡ owed_at es n k + tally x l n k) → IsTrue (stands fs x) → 0 < owed_at fs x k
room_claimed x l k es fs same names owed h =
    let one : tally x l x k ≡ 1 = λ i. cond ((eq_by_cmp_equiv name_cmp_total).refl x i && (ap (eq_by_cmp key_cmp k) same ∙ (eq_by_cmp_equiv key_total).refl k) i) 1 0 in
    omega (arith, owed x k (sym (names x) ∙ h), one)

-- ---- tables that come and go

each-insert : (es : Shelves) (k : NameText) (w : Table) → AllByRecursion (λ (e : NameText × Table). IsTable e.1) es → IsTable w → AllByRecursion (λ (e : NameText × Table). IsTable e.1) (insert_entry name_cmp es k w)
each-insert [] k w all h = (h, tt)
each-insert (e ∷ es) k w all h = elim (name_cmp k e.0) as (λ r. AllByRecursion (λ (e : NameText × Table). IsTable e.1) (match_ordering r ((k, w) ∷ e ∷ es) ((e.0, w) ∷ es) (e ∷ insert_entry name_cmp es k w))) [
  | Less ↦ (h, all)
  | Equal ↦ (h, all.1)
  | Greater ↦ (all.0, each-insert es k w all.1 h)
]

each-remove : (test : NameText → Bool) (es : Shelves) → AllByRecursion (λ (e : NameText × Table). IsTable e.1) es → AllByRecursion (λ (e : NameText × Table). IsTable e.1) (remove_entry test es)
each-remove test [] all = tt
each-remove test (e ∷ es) all = elim (test e.0) as (λ b. AllByRecursion (λ (e : NameText × Table). IsTable e.1) (cond b es (e ∷ remove_entry test es))) [
  | true ↦ all.1
  | false ↦ (all.0, each-remove test es all.1)
]

-- what a map of tables finds after an update
pub updated : (x : NameText) (u : Option Table) (m n : Map) → UpdatesBy name_cmp (name_cmp x) m n u → (y : NameText) → find name_cmp y n.entries ≡ cond (eq_by_cmp name_cmp y x) u (find name_cmp y m.entries)
updated x u m n up y = find_lookup name_cmp y n.entries ∙ (up.0 y
    ∙ (ap (λ (b : Bool). cond b u (lookup (is_at (name_cmp y)) m.entries)) ((eq_by_cmp_equiv name_cmp_total).symm x y)
    ∙ ap (cond (eq_by_cmp name_cmp y x) u) (sym (find_lookup name_cmp y m.entries))))

mapped : (b : Bool) (u o : Option Table) → option_map table_of (cond b u o) ≡ cond b (option_map table_of u) (option_map table_of o)
mapped true u o = refl
mapped false u o = refl

module _ (x key : NameText) (w : Table) (m n : Map) (all : AreTables m.entries) (same : key ≡ x) (up : UpdatesBy name_cmp (name_cmp key) m n (Some w)) (is : n.entries ≡ insert_entry name_cmp m.entries key w) (ordered : IsStrictlySortedBy name_cmp (keys_of n.entries)) (h : IsTable w) where
  pub added : AreTables n.entries
  added = record {
    sorted = sorted_strict name_cmp n.entries ordered;
    each = subst (λ (es : Shelves). AllByRecursion (λ (e : NameText × Table). IsTable e.1) es) (sym is) (each-insert m.entries key w all.each h);
  }

  pub added_tables : (v : TableRows) → table_of w ≡ v → tables_of n.entries ≡ insert (tables_of m.entries) x v
  added_tables v value = same_map name_cmp_total name_cmp-same _ _ (λ y.
      got_table n.entries added.sorted y ∙ (ap (option_map table_of) (updated x (Some w) m n (subst (λ (z : NameText). UpdatesBy name_cmp (name_cmp z) m n (Some w)) same up) y)
      ∙ (mapped (eq_by_cmp name_cmp y x) (Some w) (find name_cmp y m.entries)
      ∙ ((λ i. cond (eq_by_cmp name_cmp y x) (Some (value i)) (sym (got_table m.entries all.sorted y) i)) ∙ sym (get-insert name_cmp_total (tables_of m.entries) x v y)))))

module _ (x : NameText) (m n : Map) (all : AreTables m.entries) (up : UpdatesBy name_cmp (name_cmp x) m n None) (is : n.entries ≡ remove_entry (is_at (name_cmp x)) m.entries) (ordered : IsStrictlySortedBy name_cmp (keys_of n.entries)) where
  pub removed : AreTables n.entries
  removed = record {
    sorted = sorted_strict name_cmp n.entries ordered;
    each = subst (λ (es : Shelves). AllByRecursion (λ (e : NameText × Table). IsTable e.1) es) (sym is) (each-remove (is_at (name_cmp x)) m.entries all.each);
  }

  pub removed_tables : tables_of n.entries ≡ remove (tables_of m.entries) x
  removed_tables = same_map name_cmp_total name_cmp-same _ _ (λ y.
      got_table n.entries removed.sorted y ∙ (ap (option_map table_of) (updated x None m n up y)
      ∙ (mapped (eq_by_cmp name_cmp y x) None (find name_cmp y m.entries)
      ∙ (ap (cond (eq_by_cmp name_cmp y x) None) (sym (got_table m.entries all.sorted y)) ∙ sym (get-remove name_cmp_total (tables_of m.entries) x y)))))

pub no_tables : (es : Shelves) → es ≡ [] → tables_of es ≡ empty
no_tables es h = same_map name_cmp_total name_cmp-same _ _ (λ y. ap (λ (x : Shelves). get (tables_of x) y) h ∙ (got_table [] refl y ∙ sym (get-empty name_cmp y)))

-- a look-up reads one table
pub looked : (es : Shelves) → AreTables es → (n : NameText) (o : Option Table) → o ≡ lookup (is_at (name_cmp n)) es → get (tables_of es) n ≡ option_map table_of o
looked es all n o is = got_table es all.sorted n ∙ ap (option_map table_of) (find_lookup name_cmp n es ∙ sym is)

pub looked_table : (es : Shelves) → AreTables es → (n : NameText) (t : Table) → Some t ≡ lookup (is_at (name_cmp n)) es → IsTable t
looked_table es all n t is = each-found n t es all.each (find_lookup name_cmp n es ∙ sym is)

none_of : (o : Option TableRows) → is_some o ≡ false → o ≡ None
none_of None h = refl
none_of (Some t) h = absurd cc

-- a table that did not stand was made, and goes again
pub made_and_gone : (ts : AllTables) (x : NameText) (v : TableRows) → is_some (get ts x) ≡ false → remove (insert ts x v) x ≡ ts
made_and_gone ts x v absent = let none = none_of (get ts x) absent in same_map name_cmp_total name_cmp-same _ _ (λ y.
    get-remove name_cmp_total (insert ts x v) x y ∙ (ap (cond (eq_by_cmp name_cmp y x) None) (get-insert name_cmp_total ts x v y)
    ∙ elim (name_cmp y x) as (λ r. name_cmp y x ≡ r → cond (is_eq r) None (cond (is_eq r) (Some v) (get ts y)) ≡ get ts y) [
      | Less ↦ λ t. refl
      | Equal ↦ λ t. sym (ap (get ts) (name_cmp-same y x t) ∙ none)
      | Greater ↦ λ t. refl
    ] refl))

-- the names of the map are those of the tables
pub stands_is : (es : Shelves) → AreTables es → (n : NameText) → is_some (lookup (is_at (name_cmp n)) es) ≡ is_some (get (tables_of es) n)
stands_is es all n = sym (ap is_some (got_table es all.sorted n ∙ ap (option_map table_of) (find_lookup name_cmp n es)) ∙ mapped_some (lookup (is_at (name_cmp n)) es))
  where
    mapped_some : (o : Option Table) → is_some (option_map table_of o) ≡ is_some o
    mapped_some None = refl
    mapped_some (Some t) = refl

-- tables are the same where each name has the same
pub same_tables : (es fs : Shelves) → IsTrue (is_sorted name_cmp es) → IsTrue (is_sorted name_cmp fs) → ((n : NameText) → option_map table_of (find name_cmp n fs) ≡ option_map table_of (find name_cmp n es)) → tables_of fs ≡ tables_of es
same_tables es fs g h same = same_map name_cmp_total name_cmp-same _ _ (λ n. got_table fs h n ∙ (same n ∙ sym (got_table es g n)))

-- a name and its table were copied
pub updated_copied : (x key : NameText) (w : Table) (m n : Map) → key ≡ x → UpdatesBy name_cmp (name_cmp key) m n (Some w) → (y : NameText) → find name_cmp y n.entries ≡ cond (eq_by_cmp name_cmp y x) (Some w) (find name_cmp y m.entries)
updated_copied x key w m n same up y = updated x (Some w) m n (subst (λ (z : NameText). UpdatesBy name_cmp (name_cmp z) m n (Some w)) same up) y
