-- Which paths are among those of the nodes that fail.
use Rattle.std.proofs.Common.{◌≡◌, suc, ◌<◌, ◌≤◌, Bool, true, false, cond, List, [], ◌∷◌, length, map, refl, sym, ap, subst, ◌∙◌, arith, ◌&&◌, ◌||◌, Some, None}
use Rattle.std.specs.Prelude.{IsTrue, is_some, T as Holds}
use Rattle.std.specs.List.{filter}
use Rattle.std.specs.Ordering.{is_eq, is_lt, eq_by_cmp}
use Rattle.std.specs.Cmp.{tied_itself}
use Rattle.std.specs.declared.cmp.Ordering.{Ordering}
use Rattle.std.specs.declared.cmp.Ordering.TheVariants.{Less, Equal, Greater}
use Rattle.std.specs.FinMap.{get, entries, find, is_sorted, get-entries, entries_sorted}
use Rattle.std.specs.FinMap.Entries.{below_all}
use Rattle.khepri_terms.specs.Terms.{NameText}
use Rattle.khepri_terms.specs.Order.{path_cmp}
use Rattle.khepri_terms.proofs.Cases.{some_is}
use Rattle.khepri_types.specs.declared.node.Node.{Node}
use Rattle.khepri_types.specs.Paths.{is_front, is_under}
use Rattle.khepri_types.specs.Settling.{is_broken, fails, failing, are_none, stable}
use Rattle.khepri_types.specs.Tree.{Tree, stands}
use Rattle.khepri_types.proofs.Order.{path_cmp_total, path_cmp-same}
use Rattle.khepri_types.proofs.Trees.{tie_is}
use Rattle.khepri_types.proofs.Fronts.{front_itself}

abbrev Entry : Type 0
Entry = List NameText × Node

-- ---- the entries that pass a test

abbrev found : (List NameText → Node → Bool) → List Entry → List (List NameText)
found f es = map (λ e. e.0) (filter (λ e. f e.0 e.1) es)

pub find-here : (e : Entry) (es : List Entry) → find path_cmp e.0 (e ∷ es) ≡ Some e.1
find-here e es = ap (λ (o : Ordering). cond (is_eq o) (Some e.1) (find path_cmp e.0 es)) (tied_itself path_cmp_total e.0)

pub stands-later : (e : Entry) (es : List Entry) (q : List NameText) → IsTrue (is_some (find path_cmp q es)) → IsTrue (is_some (find path_cmp q (e ∷ es)))
stands-later e es q h = elim (eq_by_cmp path_cmp q e.0) as (λ b. IsTrue (is_some (cond b (Some e.1) (find path_cmp q es)))) [ true ↦ refl | false ↦ h ]

pub stands-here : (e : Entry) (es : List Entry) → IsTrue (is_some (find path_cmp e.0 (e ∷ es)))
stands-here e es = ap is_some (find-here e es)

-- where none passes, a node that is found does not
none_found : (f : List NameText → Node → Bool) (es : List Entry) → are_none (found f es) ≡ true → (q : List NameText) (n : Node) → find path_cmp q es ≡ Some n → f q n ≡ false
none_found f [] h q n is = absurd cc
none_found f (e ∷ es) h q n is =
    let rest = filter (λ (x : Entry). f x.0 x.1) es in
    elim (f e.0 e.1) as (λ b. f e.0 e.1 ≡ b → are_none (map (λ (x : Entry). x.0) (cond b (e ∷ rest) rest)) ≡ true → f q n ≡ false) [
      | true ↦ λ t none. absurd cc
      | false ↦ λ t none. elim (eq_by_cmp path_cmp q e.0) as (λ b. eq_by_cmp path_cmp q e.0 ≡ b → cond b (Some e.1) (find path_cmp q es) ≡ Some n → f q n ≡ false) [
        | true ↦ λ tie at.
            let same : q ≡ e.0 = path_cmp-same q e.0 (tie_is _ tie) in
            subst (λ (k : List NameText). f k n ≡ false) (sym same) (subst (λ (m : Node). f e.0 m ≡ false) (some_is e.1 n at) t)
        | false ↦ λ tie at. none_found f es none q n at
      ] refl is
    ] refl h

-- where one passes, its path stands
some_found : (f : List NameText → Node → Bool) (es : List Entry) → are_none (found f es) ≡ false → (p : List NameText) × IsTrue (is_some (find path_cmp p es)) × (is_under (found f es) p ≡ true)
some_found f [] h = absurd cc
some_found f (e ∷ es) h =
    let rest = filter (λ (x : Entry). f x.0 x.1) es in
    elim (f e.0 e.1) as (λ b. are_none (map (λ (x : Entry). x.0) (cond b (e ∷ rest) rest)) ≡ false → (p : List NameText) × IsTrue (is_some (find path_cmp p (e ∷ es))) × (is_under (map (λ (x : Entry). x.0) (cond b (e ∷ rest) rest)) p ≡ true)) [
      | true ↦ λ some. (e.0, stands-here e es, ap (λ (b : Bool). b || is_under (map (λ (x : Entry). x.0) rest) e.0) (front_itself e.0))
      | false ↦ λ some. let r = some_found f es some in (r.0, stands-later e es r.0 r.1, r.2)
    ] h

find_below : (q : List NameText) (es : List Entry) → Holds (below_all path_cmp q es) → find path_cmp q es ≡ None
find_below q [] h = refl
find_below q (e ∷ es) h = elim (path_cmp q e.0) as (λ o. Holds (is_lt o && below_all path_cmp q es) → cond (is_eq o) (Some e.1) (find path_cmp q es) ≡ None) [
  | Less ↦ λ b. find_below q es b
  | Equal ↦ λ b. absurd b
  | Greater ↦ λ b. absurd b
] h

pub halves : (a b : Bool) → Holds (a && b) → Holds a × Holds b
halves true b h = (tt, h)
halves false b h = absurd h

-- what is found behind an entry is found with it
pub find-later : (e : Entry) (es : List Entry) → Holds (is_sorted path_cmp (e ∷ es)) → (q : List NameText) (n : Node) → find path_cmp q es ≡ Some n → find path_cmp q (e ∷ es) ≡ Some n
find-later e es sorted q n is = elim (eq_by_cmp path_cmp q e.0) as (λ b. eq_by_cmp path_cmp q e.0 ≡ b → cond b (Some e.1) (find path_cmp q es) ≡ Some n) [
  | true ↦ λ tie.
      let none : find path_cmp e.0 es ≡ None = find_below e.0 es (halves (below_all path_cmp e.0 es) (is_sorted path_cmp es) sorted).0 in
      let same : q ≡ e.0 = path_cmp-same q e.0 (tie_is _ tie) in
      absurd (cc (is, none, ap (λ (k : List NameText). find path_cmp k es) same))
  | false ↦ λ tie. is
] refl

-- a node at the front of q passes the test
pub record Culprit (f : List NameText → Node → Bool) (es : List Entry) (q : List NameText) : Type 0 where
  pub path : List NameText
  pub node : Node
  pub front : is_front path q ≡ true
  pub passes : f path node ≡ true
  pub is : find path_cmp path es ≡ Some node

under_found : (f : List NameText → Node → Bool) (es : List Entry) → Holds (is_sorted path_cmp es) → (q : List NameText) → is_under (found f es) q ≡ true → Culprit f es q
under_found f [] sorted q h = absurd cc
under_found f (e ∷ es) sorted q h =
    let rest = filter (λ (x : Entry). f x.0 x.1) es in
    let behind : is_under (map (λ (x : Entry). x.0) rest) q ≡ true → Culprit f (e ∷ es) q = λ under.
    let r = under_found f es (halves (below_all path_cmp e.0 es) (is_sorted path_cmp es) sorted).1 q under in
    record { path = r.path; node = r.node; front = r.front; passes = r.passes; is = find-later e es sorted r.path r.node r.is } in
    elim (f e.0 e.1) as (λ b. f e.0 e.1 ≡ b → is_under (map (λ (x : Entry). x.0) (cond b (e ∷ rest) rest)) q ≡ true → Culprit f (e ∷ es) q) [
      | true ↦ λ t under. elim (is_front e.0 q) as (λ b. is_front e.0 q ≡ b → (b || is_under (map (λ (x : Entry). x.0) rest) q) ≡ true → Culprit f (e ∷ es) q) [
        | true ↦ λ front _. record { path = e.0; node = e.1; front = front; passes = t; is = find-here e es }
        | false ↦ λ front later. behind later
      ] refl under
      | false ↦ λ t under. behind under
    ] refl h

no_more : (keep : List NameText → Bool) (es : List Entry) → length (filter (λ (e : Entry). keep e.0) es) ≤ length es
no_more keep [] = omega arith
no_more keep (e ∷ es) = elim (keep e.0) as (λ b. length (cond b (e ∷ filter (λ (x : Entry). keep x.0) es) (filter (λ (x : Entry). keep x.0) es)) ≤ suc (length es)) [
  | true ↦ omega (arith, no_more keep es)
  | false ↦ omega (arith, no_more keep es)
]

-- fewer entries are left where one that stands is left out
pub fewer : (keep : List NameText → Bool) (p : List NameText) → keep p ≡ false → (es : List Entry) → IsTrue (is_some (find path_cmp p es)) → length (filter (λ (e : Entry). keep e.0) es) < length es
fewer keep p low [] h = absurd cc
fewer keep p low (e ∷ es) h = elim (eq_by_cmp path_cmp p e.0) as (λ b. eq_by_cmp path_cmp p e.0 ≡ b → IsTrue (is_some (cond b (Some e.1) (find path_cmp p es))) → length (filter (λ (x : Entry). keep x.0) (e ∷ es)) < suc (length es)) [
  | true ↦ λ tie _.
      let gone : keep e.0 ≡ false = sym (ap keep (path_cmp-same p e.0 (tie_is _ tie))) ∙ low in
      subst (λ (b : Bool). length (cond b (e ∷ filter (λ (x : Entry). keep x.0) es) (filter (λ (x : Entry). keep x.0) es)) < suc (length es)) (sym gone) (omega (arith, no_more keep es))
  | false ↦ λ tie at. elim (keep e.0) as (λ b. length (cond b (e ∷ filter (λ (x : Entry). keep x.0) es) (filter (λ (x : Entry). keep x.0) es)) < suc (length es)) [
    | true ↦ omega (arith, fewer keep p low es at)
    | false ↦ omega (arith, fewer keep p low es at)
  ]
] refl h

-- ---- the nodes that fail

-- where none fails, each that stands does not
pub steady : (T : Tree) → IsTrue (stable T) → (q : List NameText) (n : Node) → get T q ≡ Some n → fails T q n ≡ false
steady T h q n is = none_found (fails T) (entries T) h q n (sym (get-entries T q) ∙ is)

-- where one fails, its path stands
pub unstable : (T : Tree) → stable T ≡ false → (p : List NameText) × IsTrue (stands T p) × (is_under (failing T) p ≡ true)
unstable T h = let r = some_found (fails T) (entries T) h in (r.0, ap is_some (get-entries T r.0) ∙ r.1, r.2)

-- what is below the path of a failing node
pub culprit : (T : Tree) (q : List NameText) → is_under (failing T) q ≡ true → Culprit (fails T) (entries T) q
culprit T q h = under_found (fails T) (entries T) (entries_sorted T) q h

pub stable-all : (T : Tree) → ((q : List NameText) (n : Node) → get T q ≡ Some n → fails T q n ≡ false) → IsTrue (stable T)
stable-all T none = elim (stable T) as (λ b. stable T ≡ b → IsTrue b) [
  | true ↦ λ e. refl
  | false ↦ λ e.
      let r = unstable T e in
      let c = culprit T r.0 r.2 in
      absurd (cc (c.passes, none c.path c.node (get-entries T c.path ∙ c.is)))
] refl

root_found : (T : Tree) (es : List Entry) → is_under (found (fails T) es) [] ≡ false
unfolding is_front
root_found T [] = refl
root_found T (([], n) ∷ es) = root_found T es
root_found T ((a ∷ p, n) ∷ es) =
    let rest = filter (λ (x : Entry). fails T x.0 x.1) es in
    elim (is_broken T n.watches) as (λ b. is_under (map (λ (x : Entry). x.0) (cond b ((a ∷ p, n) ∷ rest) rest)) [] ≡ false) [ true ↦ root_found T es | false ↦ root_found T es ]

-- the root does not fail
pub root_spared : (T : Tree) → is_under (failing T) [] ≡ false
root_spared T = root_found T (entries T)
