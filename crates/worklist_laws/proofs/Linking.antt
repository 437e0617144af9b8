-- How an index of watchers follows a tree.
use Rattle.std.proofs.Common.{◌≡◌, inl, inr, Bool, true, false, cond, ◌&&◌, ◌||◌, List, [], ◌∷◌, map, refl, sym, ap, subst, ◌∙◌, Option, Some, None, Less, Equal, Greater}
use Rattle.std.specs.declared.cmp.Ordering.{Ordering}
use Rattle.std.specs.Prelude.{IsTrue, T as Holds}
use Rattle.std.specs.List.{filter}
use Rattle.std.specs.Ordering.{is_eq, is_lt, eq_by_cmp}
use Rattle.std.specs.FinMap.{get, entries, find, is_sorted, from_sorted, same_map, get-entries, insert, get-insert, get-remove, get-from_sorted, entries-from_sorted, entries_sorted}
use Rattle.std.specs.FinMap.Entries.{below_all}
use Rattle.khepri_terms.specs.Order.{path_cmp}
use Rattle.khepri_types.specs.declared.node.Node.{Node}
use Rattle.khepri_types.specs.declared.watch.Watch.{Watch}
use Rattle.khepri_types.specs.Tree.{Tree}
use Rattle.khepri_types.proofs.Order.{path_cmp_total, path_cmp-same}
use Rattle.worklist_laws.specs.Candidates.{is_in, aims_at, aims_node, watchers}
use Rattle.worklist_laws.specs.Changes.{SameBut}
use Rattle.worklist_laws.specs.Index.{IsIndex}
use Rattle.worklist_laws.specs.Links.{Links, linked, linked_to, targets, unlinked, targets_at, targets_of, HoldsWatches, linked_again, relinked, followed}
use Rattle.worklist_laws.proofs.Among.{Path, or_left, same_test, test_false, not_both, tie, tied, in_later, in_cons}
use Rattle.worklist_laws.proofs.Indexing.{watchers-in, in-watchers}

-- ---- lists that rise

abbrev pub Rises : List Path → Type 0
Rises ps = Holds (is_sorted path_cmp (map (λ p. (p, true)) ps))

find-marked : (ps : List Path) (q : Path) → find path_cmp q (map (λ p. (p, true)) ps) ≡ cond (is_in ps q) (Some true) None
find-marked [] q = refl
find-marked (p ∷ ps) q = elim (eq_by_cmp path_cmp q p) as (λ b. cond b (Some true) (find path_cmp q (map (λ r. (r, true)) ps)) ≡ cond (b || is_in ps q) (Some true) None) [
  | true ↦ refl
  | false ↦ find-marked ps q
]

unmarked : (ps : List Path) → map (λ (e : Path × Bool). e.0) (map (λ (p : Path). (p, true)) ps) ≡ ps
unmarked [] = refl
unmarked (p ∷ ps) = ap (λ (rs : List Path). p ∷ rs) (unmarked ps)

-- two lists of paths that rise and have the same paths are one
pub same_list : (ps rs : List Path) → Rises ps → Rises rs → ((q : Path) → is_in ps q ≡ is_in rs q) → ps ≡ rs
same_list ps rs sp sr same =
    let es : List (Path × Bool) = map (λ (p : Path). (p, true)) ps in
    let fs : List (Path × Bool) = map (λ (p : Path). (p, true)) rs in
    let maps : from_sorted {R = path_cmp} es ≡ from_sorted {R = path_cmp} fs =
    same_map path_cmp_total path_cmp-same (from_sorted {R = path_cmp} es) (from_sorted {R = path_cmp} fs) (λ q.
    get-from_sorted path_cmp es q sp ∙ (find-marked ps q ∙ (ap (λ (b : Bool). cond b (Some true) None) (same q) ∙ sym (get-from_sorted path_cmp fs q sr ∙ find-marked rs q)))) in
    let lists : es ≡ fs = sym (entries-from_sorted path_cmp es sp) ∙ (ap entries maps ∙ entries-from_sorted path_cmp fs sr) in
    sym (unmarked ps) ∙ (ap (λ (xs : List (Path × Bool)). map (λ (e : Path × Bool). e.0) xs) lists ∙ unmarked rs)

pub halves : (a b : Bool) → Holds (a && b) → Holds a × Holds b
halves true b h = (tt, h)
halves false b h = absurd h

both : (a b : Bool) → Holds a → Holds b → Holds (a && b)
both true b h g = g
both false b h g = absurd h

below_kept : {X : Type 0} (f : Path × X → Bool) (x : Path) (es : List (Path × X)) → Holds (below_all path_cmp x es) → Holds (below_all path_cmp x (map (λ p. (p, true)) (map (λ (e : Path × X). e.0) (filter f es))))
below_kept f x [] h = tt
below_kept {X} f x (e ∷ es) h =
    let parts = halves (is_lt (path_cmp x e.0)) (below_all path_cmp x es) h in
    let rest = below_kept f x es parts.1 in
    elim (f e) as (λ b. Holds (below_all path_cmp x (map (λ p. (p, true)) (map (λ (y : Path × X). y.0) (cond b (e ∷ filter f es) (filter f es)))))) [
      | true ↦ both (is_lt (path_cmp x e.0)) (below_all path_cmp x (map (λ p. (p, true)) (map (λ (y : Path × X). y.0) (filter f es)))) parts.0 rest
      | false ↦ rest
    ]

-- the paths of some entries rise
pub rises : {X : Type 0} (f : Path × X → Bool) (es : List (Path × X)) → Holds (is_sorted path_cmp es) → Rises (map (λ (e : Path × X). e.0) (filter f es))
rises f [] h = tt
rises {X} f (e ∷ es) h =
    let parts = halves (below_all path_cmp e.0 es) (is_sorted path_cmp es) h in
    let rest = rises f es parts.1 in
    elim (f e) as (λ b. Rises (map (λ (y : Path × X). y.0) (cond b (e ∷ filter f es) (filter f es)))) [
      | true ↦ both (below_all path_cmp e.0 (map (λ p. (p, true)) (map (λ (y : Path × X). y.0) (filter f es)))) (is_sorted path_cmp (map (λ p. (p, true)) (map (λ (y : Path × X). y.0) (filter f es)))) (below_kept f e.0 es parts.0) rest
      | false ↦ rest
    ]

-- ---- who is linked

aims-targets : (watches : List Watch) (q : Path) → is_in (targets watches) q ≡ aims_at watches q
aims-targets [] q = refl
aims-targets (w ∷ watches) q = ap (λ (b : Bool). is_eq (path_cmp q w.target) || b) (aims-targets watches q)

aims-of : (o : Option Node) (q : Path) → is_in (targets_of o) q ≡ aims_node o q
aims-of None q = refl
aims-of (Some n) q = aims-targets n.watches q

pub not_tied : (o : Ordering) → Holds (is_lt o) → is_eq o ≡ false
not_tied Less h = refl
not_tied Equal h = absurd h
not_tied Greater h = refl

pub find_below : (x : Path) (xs : List (Path × List Path)) → Holds (below_all path_cmp x xs) → find path_cmp x xs ≡ None
find_below x [] h = refl
find_below x (y ∷ ys) h =
    let parts = halves (is_lt (path_cmp x y.0)) (below_all path_cmp x ys) h in
    ap (λ (b : Bool). cond b (Some y.1) (find path_cmp x ys)) (not_tied (path_cmp x y.0) parts.0) ∙ find_below x ys parts.1

-- a path is linked to q exactly where q is one of its targets
pub member : (q : Path) (es : List (Path × List Path)) → Holds (is_sorted path_cmp es) → (p : Path) → is_in (map (λ (e : Path × List Path). e.0) (filter (λ (e : Path × List Path). is_in e.1 q) es)) p ≡ is_in (targets_at (find path_cmp p es)) q
member q [] sorted p = refl
member q (e ∷ es) sorted p =
    let parts = halves (below_all path_cmp e.0 es) (is_sorted path_cmp es) sorted in
    let rest = member q es parts.1 p in
    let F : Path × List Path → Bool = λ x. is_in x.1 q in
    elim (eq_by_cmp path_cmp p e.0) as (λ b. eq_by_cmp path_cmp p e.0 ≡ b → is_in (map (λ (x : Path × List Path). x.0) (cond (F e) (e ∷ filter F es) (filter F es))) p ≡ is_in (targets_at (cond b (Some e.1) (find path_cmp p es))) q) [
      | true ↦ λ t.
          let same : p ≡ e.0 = tied p e.0 t in
          let none : is_in (map (λ (x : Path × List Path). x.0) (filter F es)) p ≡ false = rest ∙ ap (λ (o : Option (List Path)). is_in (targets_at o) q) (ap (λ (k : Path). find path_cmp k es) same ∙ find_below e.0 es parts.0) in
          elim (F e) as (λ c. F e ≡ c → is_in (map (λ (x : Path × List Path). x.0) (cond c (e ∷ filter F es) (filter F es))) p ≡ is_in e.1 q) [
            | true ↦ λ f. or_left (is_eq (path_cmp p e.0)) (is_in (map (λ (x : Path × List Path). x.0) (filter F es)) p) t ∙ sym f
            | false ↦ λ f. none ∙ sym f
          ] refl
      | false ↦ λ t. elim (F e) as (λ c. is_in (map (λ (x : Path × List Path). x.0) (cond c (e ∷ filter F es) (filter F es))) p ≡ is_in (targets_at (find path_cmp p es)) q) [
        | true ↦ ap (λ (b : Bool). b || is_in (map (λ (x : Path × List Path). x.0) (filter F es)) p) t ∙ rest
        | false ↦ rest
      ]
    ] refl

in-linked : (L : Links) (q p : Path) → is_in (linked_to L q) p ≡ is_in (targets_at (get L p)) q
in-linked L q p = member q (entries L) (entries_sorted L) p ∙ ap (λ (o : Option (List Path)). is_in (targets_at o) q) (sym (get-entries L p))

-- a node that was linked to nothing is linked to the targets of these watches, beside all others
pub linked-adds : (L : Links) (node : Path) (watches : List Watch) → get L node ≡ None → (q p : Path) → is_in (linked_to (linked L node watches) q) p ≡ ((is_eq (path_cmp p node) && aims_at watches q) || is_in (linked_to L q) p)
linked-adds L node watches none q p =
    let ts : List Path = targets watches in
    in-linked (insert L node ts) q p
    ∙ (ap (λ (o : Option (List Path)). is_in (targets_at o) q) (get-insert path_cmp_total L node ts p)
    ∙ elim (is_eq (path_cmp p node)) as (λ b. is_eq (path_cmp p node) ≡ b → is_in (targets_at (cond b (Some ts) (get L p))) q ≡ ((b && aims_at watches q) || is_in (linked_to L q) p)) [
      | true ↦ λ t.
          let absent : is_in (linked_to L q) p ≡ false = in-linked L q p ∙ ap (λ (o : Option (List Path)). is_in (targets_at o) q) (ap (get L) (tied p node t) ∙ none) in
          aims-targets watches q ∙ sym (ap (λ (b : Bool). aims_at watches q || b) absent ∙ or_none (aims_at watches q))
      | false ↦ λ t. sym (in-linked L q p)
    ] refl) where
      or_none : (a : Bool) → (a || false) ≡ a
      or_none true = refl
      or_none false = refl

-- what an index that holds the watches of a tree lists is who watches
pub holds-lists : (T : Tree) (L : Links) → HoldsWatches T L → IsIndex T (linked_to L)
holds-lists T L holds q =
    same_list (linked_to L q) (watchers T q) (rises (λ (e : Path × List Path). is_in e.1 q) (entries L) (entries_sorted L)) (rises (λ (e : Path × Node). aims_at e.1.watches q) (entries T) (entries_sorted T)) (λ p.
    member q (entries L) (entries_sorted L) p
    ∙ (ap (λ (o : Option (List Path)). is_in (targets_at o) q) (sym (get-entries L p))
    ∙ (ap (λ (ts : List Path). is_in ts q) (holds p) ∙ (aims-of (get T p) q ∙ sym (same_test (is_in (watchers T q) p) (aims_node (get T p) q) (in-watchers T p q) (watchers-in T p q))))))

-- ---- a tree that changes

again-here : (L : Links) (p : Path) (o : Option Node) → targets_at (get (linked_again (unlinked L p) p o) p) ≡ targets_of o
again-here L p None = ap targets_at (get-remove path_cmp_total L p p ∙ ap (λ (b : Bool). cond b None (get L p)) (tie p p refl))
again-here L p (Some n) = ap targets_at (get-insert path_cmp_total (unlinked L p) p (targets n.watches) p ∙ ap (λ (b : Bool). cond b (Some (targets n.watches)) (get (unlinked L p) p)) (tie p p refl))

again-other : (L : Links) (p q : Path) (o : Option Node) → is_eq (path_cmp q p) ≡ false → get (linked_again (unlinked L p) p o) q ≡ get L q
again-other L p q None off = get-remove path_cmp_total L p q ∙ ap (λ (b : Bool). cond b None (get L q)) off
again-other L p q (Some n) off =
    get-insert path_cmp_total (unlinked L p) p (targets n.watches) q
    ∙ (ap (λ (b : Bool). cond b (Some (targets n.watches)) (get (unlinked L p) q)) off ∙ (get-remove path_cmp_total L p q ∙ ap (λ (b : Bool). cond b None (get L q)) off))

followed-off : (T : Tree) (L : Links) (paths : List Path) (q : Path) → is_in paths q ≡ false → get (followed T L paths) q ≡ get L q
followed-off T L [] q off = refl
followed-off T L (p ∷ paths) q off =
    let no : is_eq (path_cmp q p) ≡ false = test_false (is_eq (path_cmp q p)) (λ h. not_both (is_in (p ∷ paths) q) (or_left (is_eq (path_cmp q p)) (is_in paths q) h) off) in
    let rest : is_in paths q ≡ false = test_false (is_in paths q) (λ h. not_both (is_in (p ∷ paths) q) (in_later p paths q h) off) in
    followed-off T (relinked T L p) paths q rest ∙ again-other L p q (get T p) no

followed-on : (T : Tree) (L : Links) (paths : List Path) (q : Path) → IsTrue (is_in paths q) → targets_at (get (followed T L paths) q) ≡ targets_of (get T q)
followed-on T L [] q on = absurd cc
followed-on T L (p ∷ paths) q on = elim (is_in paths q) as (λ b. is_in paths q ≡ b → targets_at (get (followed T (relinked T L p) paths) q) ≡ targets_of (get T q)) [
  | true ↦ λ h. followed-on T (relinked T L p) paths q h
  | false ↦ λ h. elim (in_cons p paths q on) as (λ _. targets_at (get (followed T (relinked T L p) paths) q) ≡ targets_of (get T q)) [
    | inl same ↦ ap targets_at (followed-off T (relinked T L p) paths q h) ∙ subst (λ (r : Path). targets_at (get (relinked T L p) r) ≡ targets_of (get T r)) (sym same) (again-here L p (get T p))
    | inr later ↦ absurd (not_both (is_in paths q) later h)
  ]
] refl

-- to link the touched paths anew is enough
pub holds-followed : (B D : Tree) (L : Links) (touched : List Path) → HoldsWatches B L → SameBut touched B D → HoldsWatches D (followed D L touched)
holds-followed B D L touched holds same p = elim (is_in touched p) as (λ b. is_in touched p ≡ b → targets_at (get (followed D L touched) p) ≡ targets_of (get D p)) [
  | true ↦ λ on. followed-on D L touched p on
  | false ↦ λ off. ap targets_at (followed-off D L touched p off) ∙ (holds p ∙ ap targets_of (same p off))
] refl
