-- The nodes at paths that rise, and the first of them that has a watch that isn't met.
use Rattle.std.proofs.Common.{◌≡◌, ℕ, ◌<◌, ◌+◌, length, take, get_or, Bool, true, false, cond, List, [], ◌∷◌, ◌++◌, refl, sym, ap, ◌∙◌, Option, Some, None, Less, Equal, Greater, ◌||◌, ◌&&◌}
use Rattle.std.specs.Prelude.{IsTrue, T as Holds}
use Rattle.std.specs.List.{list_any, AllByRecursion}
use Rattle.std.specs.List.Sorted.{IsStrictlySortedBy}
use Rattle.std.specs.Ordering.{is_eq, is_lt, ordering_reverse}
use Rattle.std.specs.Option.{option_map}
use Rattle.std.proofs.lemmas.List.{take_more}
use Rattle.std.specs.declared.cmp.Ordering.{Ordering}
use Rattle.std.specs.FinMap.{get, entries, find, is_sorted, entries_sorted, get-entries}
use Rattle.std.specs.FinMap.Entries.{below_all, is_sorted-where_key, find-where_key, same_entries}
use Rattle.khepri_terms.specs.Terms.{NameText}
use Rattle.khepri_terms.specs.Order.{path_cmp, path_eq}
use Rattle.khepri_terms.specs.OrderLaws.{path_ties}
use Rattle.khepri_types.specs.declared.node.Node.{Node}
use Rattle.khepri_types.specs.declared.watch.Watch.{Watch}
use Rattle.khepri_types.specs.Tree.{Tree}
use Rattle.khepri_types.specs.Watching.{unmet_of}
use Rattle.khepri_types.proofs.Order.{path_cmp_total, path_cmp-same}
use Rattle.khepri_types.proofs.Trees.{tie_is}
use Rattle.worklist_laws.specs.Candidates.{is_in}
use Rattle.khepri_types.specs.Transactions.{written_nodes, or_else, first_unmet_among, unmet_among}

abbrev Path : Type 0
Path = List NameText

abbrev Entry : Type 0
Entry = List NameText × Node

-- the node in front, where there is one
abbrev pub in_front : Path → Option Node → List Entry → List Entry
in_front p None es = es
in_front p (Some n) es = (p, n) ∷ es

-- the nodes that stand at these paths
abbrev pub picked : List Entry → List Path → List Entry
picked es [] = []
picked es (k ∷ ks) = in_front k (find path_cmp k es) (picked es ks)

-- ---- what is found among them

same_either : (b : Bool) (o : Option Node) → cond b o o ≡ o
same_either true o = refl
same_either false o = refl

find-in_front : (es : List Entry) (ks : List Path) (q k : Path) (o : Option Node) (b : Bool) → find path_cmp k es ≡ o → is_eq (path_cmp q k) ≡ b
    → find path_cmp q (picked es ks) ≡ cond (is_in ks q) (find path_cmp q es) None → find path_cmp q (in_front k o (picked es ks)) ≡ cond (b || is_in ks q) (find path_cmp q es) None
find-in_front es ks q k None false at tie rest = rest
find-in_front es ks q k None true at tie rest =
    let none : find path_cmp q es ≡ None = ap (λ (p : Path). find path_cmp p es) (path_cmp-same q k (tie_is (path_cmp q k) tie)) ∙ at in
    rest ∙ (ap (λ (o : Option Node). cond (is_in ks q) o None) none ∙ (same_either (is_in ks q) None ∙ sym none))
find-in_front es ks q k (Some n) false at tie rest = ap (λ (b : Bool). cond b (Some n) (find path_cmp q (picked es ks))) tie ∙ rest
find-in_front es ks q k (Some n) true at tie rest =
    let found : find path_cmp q es ≡ Some n = ap (λ (p : Path). find path_cmp p es) (path_cmp-same q k (tie_is (path_cmp q k) tie)) ∙ at in
    ap (λ (b : Bool). cond b (Some n) (find path_cmp q (picked es ks))) tie ∙ sym found

find-picked : (es : List Entry) (ks : List Path) (q : Path) → find path_cmp q (picked es ks) ≡ cond (is_in ks q) (find path_cmp q es) None
find-picked es [] q = refl
find-picked es (k ∷ ks) q = find-in_front es ks q k (find path_cmp k es) (is_eq (path_cmp q k)) refl refl (find-picked es ks q)

-- ---- they stand in order

held : (b : Bool) → IsTrue b → Holds b
held true h = tt
held false h = absurd cc

both : (a b : Bool) → IsTrue a → IsTrue b → IsTrue (a && b)
both true b g h = h
both false b g h = absurd cc

below-in_front : (p k : Path) (o : Option Node) (es : List Entry) → path_cmp p k ≡ Less → IsTrue (below_all path_cmp p es) → IsTrue (below_all path_cmp p (in_front k o es))
below-in_front p k None es less h = h
below-in_front p k (Some n) es less h = both (is_lt (path_cmp p k)) (below_all path_cmp p es) (ap is_lt less) h

below-picked : (es : List Entry) (p : Path) (ks : List Path) → AllByRecursion (λ y. path_cmp p y ≡ Less) ks → IsTrue (below_all path_cmp p (picked es ks))
below-picked es p [] all = refl
below-picked es p (k ∷ ks) all = below-in_front p k (find path_cmp k es) (picked es ks) all.0 (below-picked es p ks all.1)

sorted-in_front : (k : Path) (o : Option Node) (es : List Entry) → IsTrue (below_all path_cmp k es) → IsTrue (is_sorted path_cmp es) → IsTrue (is_sorted path_cmp (in_front k o es))
sorted-in_front k None es below h = h
sorted-in_front k (Some n) es below h = both (below_all path_cmp k es) (is_sorted path_cmp es) below h

sorted-picked : (es : List Entry) (ks : List Path) → IsStrictlySortedBy path_cmp ks → IsTrue (is_sorted path_cmp (picked es ks))
unfolding IsStrictlySortedBy
sorted-picked es [] rising = refl
sorted-picked es (k ∷ ks) rising = sorted-in_front k (find path_cmp k es) (picked es ks) (below-picked es k ks rising.0) (sorted-picked es ks rising.1)

-- ---- they are the written nodes

any_ties : (q : Path) (ks : List Path) → list_any (path_eq q) ks ≡ is_in ks q
any_ties q [] = refl
any_ties q (k ∷ ks) = ap (λ (b : Bool). b || list_any (path_eq q) ks) (path_ties q k) ∙ ap (λ (b : Bool). is_eq (path_cmp q k) || b) (any_ties q ks)

pub picked_all : (T : Tree) (written ks : List Path) → IsStrictlySortedBy path_cmp ks → ((q : Path) → is_in ks q ≡ is_in written q) → written_nodes T written ≡ picked (entries T) ks
picked_all T written ks rising same =
    let es = entries T in
    let listed = λ (q : Path). list_any (path_eq q) written in
    same_entries path_cmp path_cmp_total path_cmp-same (written_nodes T written) (picked es ks)
    (is_sorted-where_key path_cmp listed es (entries_sorted T))
    (held (is_sorted path_cmp (picked es ks)) (sorted-picked es ks rising))
    (λ q.
    find-where_key path_cmp listed q (λ x tie. ap listed (sym (path_cmp-same q x tie))) es
    ∙ (ap (λ (b : Bool). cond b (find path_cmp q es) None) (any_ties q written ∙ sym (same q)) ∙ sym (find-picked es ks q)))

-- ---- the first watch that isn't met

unmet-in_front : (T : Tree) (k : Path) (o : Option Node) (es : List Entry) → first_unmet_among T (in_front k o es) ≡ or_else (unmet_of T o) (first_unmet_among T es)
unmet-in_front T k None es = refl
unmet-in_front T k (Some n) es = refl

abbrev pub target_of : Option Watch → Option Path
target_of o = option_map (λ (w : Watch). w.target) o

-- of the nodes at these paths
abbrev pub unmet_at : Tree → List Path → Option Watch
unmet_at T ks = first_unmet_among T (picked (entries T) ks)

pub unmet-first : (T : Tree) (k : Path) (ks : List Path) → unmet_at T (k ∷ ks) ≡ or_else (unmet_of T (get T k)) (unmet_at T ks)
unmet-first T k ks = unmet-in_front T k (find path_cmp k (entries T)) (picked (entries T) ks) ∙ ap (λ (o : Option Node). or_else (unmet_of T o) (unmet_at T ks)) (sym (get-entries T k))

pub unmet_all : (T : Tree) (written ks : List Path) → IsStrictlySortedBy path_cmp ks → ((q : Path) → is_in ks q ≡ is_in written q) → unmet_among T written ≡ unmet_at T ks
unmet_all T written ks rising same = ap (first_unmet_among T) (picked_all T written ks rising same)

found_first : (o rest : Option Watch) (t : Path) → Some t ≡ target_of o → Some t ≡ target_of (or_else o rest)
found_first None rest t is = absurd cc
found_first (Some w) rest t is = is

-- the first of these paths has the target
pub unmet-here : (T : Tree) (k : Path) (ks : List Path) (t : Path) → Some t ≡ target_of (unmet_of T (get T k)) → Some t ≡ target_of (unmet_at T (k ∷ ks))
unmet-here T k ks t is = found_first (unmet_of T (get T k)) (unmet_at T ks) t is ∙ ap target_of (sym (unmet-first T k ks))

none_first : (o rest : Option Watch) → None ≡ target_of o → or_else o rest ≡ rest
none_first None rest none = refl
none_first (Some w) rest none = absurd cc

-- all watches of the first of these paths are met
pub unmet-later : (T : Tree) (k : Path) (ks : List Path) → None ≡ target_of (unmet_of T (get T k)) → unmet_at T (k ∷ ks) ≡ unmet_at T ks
unmet-later T k ks none = unmet-first T k ks ∙ none_first (unmet_of T (get T k)) (unmet_at T ks) none

-- ---- the paths that were noted

either : (a b c : Bool) → (a || (b || c)) ≡ (b || (a || c))
either true true c = refl
either true false c = refl
either false b c = refl

any-end : (q k : Path) (ks : List Path) → is_in (ks ++ k ∷ []) q ≡ (is_eq (path_cmp q k) || is_in ks q)
any-end q k [] = refl
any-end q k (x ∷ ks) = ap (λ (b : Bool). is_eq (path_cmp q x) || b) (any-end q k ks) ∙ either (is_eq (path_cmp q x)) (is_eq (path_cmp q k)) (is_in ks q)

even : (o : Ordering) → is_eq (ordering_reverse o) ≡ is_eq o
even Less = refl
even Equal = refl
even Greater = refl

tie-turned : (p q : Path) → is_eq (path_cmp p q) ≡ is_eq (path_cmp q p)
tie-turned p q = ap is_eq (path_cmp_total.antisymm p q) ∙ even (path_cmp q p)

pub noted : (written : List Path) (i : ℕ) (x : Path) (old new : List Path) → i < length written → x ≡ get_or written i x → ((q : Path) → is_in old q ≡ is_in (take i written) q)
    → ((q : Path) → is_in new q ≡ (is_eq (path_cmp x q) || is_in old q)) → (q : Path) → is_in new q ≡ is_in (take (i + 1) written) q
noted written i x old new lt is was adds q =
    let more : take (i + 1) written ≡ take i written ++ x ∷ [] = take_more written i x lt ∙ ap (λ (y : Path). take i written ++ y ∷ []) (sym is) in
    adds q
    ∙ (ap (λ (b : Bool). b || is_in old q) (tie-turned x q)
    ∙ (ap (λ (b : Bool). is_eq (path_cmp q x) || b) (was q)
    ∙ (sym (any-end q x (take i written)) ∙ ap (λ (ps : List Path). is_in ps q) (sym more))))
