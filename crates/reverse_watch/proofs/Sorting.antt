-- Paths in order, and what the lists of an index are.
use Rattle.std.proofs.Common.{arith, not, ◌≡◌, ◌<◌, ◌≤◌, ℕ, zero, suc, length, slice_index_or, Bool, true, false, cond, ◌&&◌, ◌||◌, List, [], ◌∷◌, map, refl, sym, ap, subst, ◌∙◌, ◌+◌, Option, Some, None, Less, Equal, Greater}
use Rattle.std.specs.declared.cmp.Ordering.{Ordering}
use Rattle.std.specs.Prelude.{T as Holds}
use Rattle.std.specs.List.{filter, remove, insert}
use Rattle.std.specs.Ordering.{is_eq, is_lt, eq_by_cmp}
use Rattle.std.specs.FinMap.{entries, find, is_sorted, get-entries, entries_sorted}
use Rattle.std.specs.FinMap.Entries.{below_all}
use Rattle.std.specs.Prelude.{IsSortedBy}
use Rattle.std.specs.List.{AllWithin}
use Rattle.std.specs.List.Sorted.{IsNonDecreasingBy, IsPartitionPoint}
use Rattle.std.specs.Ordering.{ordering_reverse, ordering_index}
use Rattle.std.proofs.lemmas.List.Sorted.{searchable_from_sorted}
use Rattle.khepri_types.proofs.Order.{path_cmp_total}
use Rattle.khepri_terms.specs.Order.{path_cmp}
use Rattle.worklist_laws.specs.Candidates.{is_in}
use Rattle.worklist_laws.specs.Links.{Links, linked_to, targets_at}
use Rattle.worklist_laws.proofs.Among.{or_left, or_right, tied, test_false, not_both}
use Rattle.worklist_laws.proofs.Linking.{same_list, rises, halves, not_tied, member}
use Rattle.reverse_watch.specs.Listing.{Lists, Rises, IsIndex, links_of}
use Rattle.reverse_watch.proofs.Moves.{Path, get-links, other_way}

-- a list that rises and has the nodes of its path is the one that `of` has to give
pub listed : (ls es : Lists) (q : Path) (xs : List Path) → IsIndex ls es → Rises xs → targets_at (find path_cmp q ls) ≡ xs → xs ≡ linked_to (links_of es) q
listed ls es q xs index up is =
    let L : Links = links_of es in
    same_list xs (linked_to L q) up (rises (λ (e : Path × List Path). is_in e.1 q) (entries L) (entries_sorted L)) (λ p.
    ap (λ (ys : List Path). is_in ys p) (sym is) ∙ (index q p ∙ (ap (λ (o : Option (List Path)). is_in (targets_at o) q) (sym (get-links es p) ∙ get-entries L p) ∙ sym (member q (entries L) (entries_sorted L) p))))

-- ---- one place of a list

pair_up : (a b : Bool) → Holds a → Holds b → Holds (a && b)
pair_up true b h g = g
pair_up false b h g = absurd h

below_cut : (x : Path) (ps : List Path) (i : ℕ) → Holds (below_all path_cmp x (map (λ (p : Path). (p, true)) ps)) → Holds (below_all path_cmp x (map (λ (p : Path). (p, true)) (remove ps i)))
below_cut x [] zero h = tt
below_cut x [] (suc i) h = tt
below_cut x (p ∷ ps) zero h = (halves (is_lt (path_cmp x p)) (below_all path_cmp x (map (λ (r : Path). (r, true)) ps)) h).1
below_cut x (p ∷ ps) (suc i) h =
    let parts = halves (is_lt (path_cmp x p)) (below_all path_cmp x (map (λ (r : Path). (r, true)) ps)) h in
    pair_up (is_lt (path_cmp x p)) (below_all path_cmp x (map (λ (r : Path). (r, true)) (remove ps i))) parts.0 (below_cut x ps i parts.1)

-- without one of its paths a list still rises
pub rises-cut : (ps : List Path) (i : ℕ) → Rises ps → Rises (remove ps i)
rises-cut [] zero h = tt
rises-cut [] (suc i) h = tt
rises-cut (p ∷ ps) zero h = (halves (below_all path_cmp p (map (λ (r : Path). (r, true)) ps)) (is_sorted path_cmp (map (λ (r : Path). (r, true)) ps)) h).1
rises-cut (p ∷ ps) (suc i) h =
    let parts = halves (below_all path_cmp p (map (λ (r : Path). (r, true)) ps)) (is_sorted path_cmp (map (λ (r : Path). (r, true)) ps)) h in
    pair_up (below_all path_cmp p (map (λ (r : Path). (r, true)) (remove ps i))) (is_sorted path_cmp (map (λ (r : Path). (r, true)) (remove ps i))) (below_cut p ps i parts.0) (rises-cut ps i parts.1)

-- a path that stands at some place is in the list
pub at_in : (ps : List Path) (i : ℕ) (x : Path) → i < length ps → ((d : Path) → path_cmp (slice_index_or ps i d) x ≡ Equal) → is_in ps x ≡ true
at_in [] i x lt h = absurd (omega (arith, lt))
at_in (p ∷ ps) zero x lt h = or_left (is_eq (path_cmp x p)) (is_in ps x) (other_way x p ∙ ap is_eq (h x))
at_in (p ∷ ps) (suc i) x lt h = or_right (is_eq (path_cmp x p)) (is_in ps x) (at_in ps i x (omega (arith, lt)) h)

pub or_stays : (a x : Bool) → (x ≡ true → a ≡ true) → a ≡ (a || x)
or_stays true x h = refl
or_stays false true h = h refl
or_stays false false h = refl

or_swap : (a b : Bool) → (a || b) ≡ (b || a)
or_swap true true = refl
or_swap true false = refl
or_swap false true = refl
or_swap false false = refl

or_along : (a b c : Bool) → (a || (b || c)) ≡ ((a || b) || c)
or_along true b c = refl
or_along false b c = refl

-- who is in a list that one path came into
pub in_put : (ps : List Path) (i : ℕ) (x p : Path) → is_in (insert ps i x) p ≡ (is_in ps p || is_eq (path_cmp p x))
in_put [] zero x p = or_swap (is_eq (path_cmp p x)) false
in_put [] (suc i) x p = or_swap (is_eq (path_cmp p x)) false
in_put (y ∷ ps) zero x p = or_swap (is_eq (path_cmp p x)) (is_eq (path_cmp p y) || is_in ps p)
in_put (y ∷ ps) (suc i) x p = ap (λ (b : Bool). is_eq (path_cmp p y) || b) (in_put ps i x p) ∙ or_along (is_eq (path_cmp p y)) (is_in ps p) (is_eq (path_cmp p x))

below_not : (y : Path) (ps : List Path) → Holds (below_all path_cmp y (map (λ (r : Path). (r, true)) ps)) → is_in ps y ≡ false
below_not y [] h = refl
below_not y (r ∷ ps) h =
    let parts = halves (is_lt (path_cmp y r)) (below_all path_cmp y (map (λ (s : Path). (s, true)) ps)) h in
    ap (λ (b : Bool). b || is_in ps y) (not_tied (path_cmp y r) parts.0) ∙ below_not y ps parts.1

here_bool : (b c e : Bool) → b ≡ e → (e ≡ true → c ≡ false) → c ≡ ((b || c) && not e)
here_bool true c true s h = h refl
here_bool true c false s h = absurd cc
here_bool false c true s h = absurd cc
here_bool false true false s h = refl
here_bool false false false s h = refl

later_bool : (b c d e : Bool) → d ≡ (c && not e) → (e ≡ true → b ≡ false) → (b || d) ≡ ((b || c) && not e)
later_bool true c d true s h = absurd (cc (h refl))
later_bool true c d false s h = refl
later_bool false c d e s h = s

-- who is in a list that one path went from
pub in_cut : (ps : List Path) (i : ℕ) (x p : Path) → Rises ps → i < length ps → ((d : Path) → path_cmp (slice_index_or ps i d) x ≡ Equal) → is_in (remove ps i) p ≡ (is_in ps p && not (is_eq (path_cmp p x)))
in_cut [] i x p up lt h = absurd (omega (arith, lt))
in_cut (y ∷ ps) zero x p up lt h =
    let parts = halves (below_all path_cmp y (map (λ (r : Path). (r, true)) ps)) (is_sorted path_cmp (map (λ (r : Path). (r, true)) ps)) up in
    let same : y ≡ x = tied y x (ap is_eq (h x)) in
    here_bool (is_eq (path_cmp p y)) (is_in ps p) (is_eq (path_cmp p x)) (ap (λ (r : Path). is_eq (path_cmp p r)) same) (λ e. ap (λ (r : Path). is_in ps r) (tied p x e ∙ sym same) ∙ below_not y ps parts.0)
in_cut (y ∷ ps) (suc i) x p up lt h =
    let parts = halves (below_all path_cmp y (map (λ (r : Path). (r, true)) ps)) (is_sorted path_cmp (map (λ (r : Path). (r, true)) ps)) up in
    later_bool (is_eq (path_cmp p y)) (is_in ps p) (is_in (remove ps i) p) (is_eq (path_cmp p x)) (in_cut ps i x p parts.1 (omega (arith, lt)) h)
    (λ e. test_false (is_eq (path_cmp p y)) (λ t. not_both (is_in ps x) (at_in ps i x (omega (arith, lt)) h) (ap (λ (r : Path). is_in ps r) (sym (tied p x e) ∙ tied p y t) ∙ below_not y ps parts.0)))

-- ---- where a binary search ends that finds nothing

one_way : (o : Ordering) → Holds (is_lt o) → is_lt (ordering_reverse o) ≡ false
one_way Less h = refl
one_way Equal h = absurd h
one_way Greater h = absurd h

-- no path of a list that rises is before the one in front of it
in_order : (ps : List Path) → Rises ps → IsSortedBy (λ a b. is_lt (path_cmp a b)) ps
in_order [] up k d low high = absurd (omega (arith, high))
in_order (p ∷ []) up k d low high = absurd (omega (arith, high))
in_order (p ∷ q ∷ ps) up zero d low high =
    let first = halves (is_lt (path_cmp p q)) (below_all path_cmp p (map (λ (r : Path). (r, true)) ps)) (halves (below_all path_cmp p (map (λ (r : Path). (r, true)) (q ∷ ps))) (is_sorted path_cmp (map (λ (r : Path). (r, true)) (q ∷ ps))) up).0 in
    ap is_lt (path_cmp_total.antisymm q p) ∙ one_way (path_cmp p q) first.0
in_order (p ∷ q ∷ ps) up (suc k) d low high =
    subst (λ (n : ℕ). is_lt (path_cmp (slice_index_or (p ∷ q ∷ ps) n d) (slice_index_or (q ∷ ps) k d)) ≡ false) {x = suc (k + 1)} {y = suc k + 1} (omega arith)
    (in_order (q ∷ ps) (halves (below_all path_cmp p (map (λ (r : Path). (r, true)) (q ∷ ps))) (is_sorted path_cmp (map (λ (r : Path). (r, true)) (q ∷ ps))) up).1 k d (omega arith) (omega (arith, high)))

-- a list that rises may be searched
pub searchable : (ps : List Path) (x : Path) → Rises ps → IsNonDecreasingBy (λ y. ordering_index (path_cmp y x)) ps
searchable ps x up = searchable_from_sorted path_cmp_total (λ y. y) ps x (in_order ps up)

-- the place between the paths before x and those after it
abbrev pub Parts : List Path → Path → ℕ → Type 0
Parts ps x i = IsPartitionPoint (λ y. path_cmp y x ≡ Less) (λ y. path_cmp y x ≡ Greater) ps i

less_lt : (o : Ordering) → o ≡ Less → Holds (is_lt o)
less_lt Less h = tt
less_lt Equal h = absurd cc
less_lt Greater h = absurd cc

-- x is before all that are after it
above_all : (ps : List Path) (x : Path) → AllWithin (λ y. path_cmp y x ≡ Greater) ps 0 (length ps) → Holds (below_all path_cmp x (map (λ (r : Path). (r, true)) ps))
above_all [] x h = tt
above_all (y ∷ ys) x h =
    pair_up (is_lt (path_cmp x y)) (below_all path_cmp x (map (λ (r : Path). (r, true)) ys)) (less_lt (path_cmp x y) (path_cmp_total.antisymm x y ∙ ap ordering_reverse (h 0 x (omega arith) (omega arith))))
    (above_all ys x (λ k d low high. h (suc k) d (omega arith) (omega (arith, high))))

-- what is below x and all of a list is below the list with x in it
below_put : (y x : Path) (ps : List Path) (i : ℕ) → path_cmp y x ≡ Less → Holds (below_all path_cmp y (map (λ (r : Path). (r, true)) ps)) → Holds (below_all path_cmp y (map (λ (r : Path). (r, true)) (insert ps i x)))
below_put y x [] zero lt h = pair_up (is_lt (path_cmp y x)) true (less_lt (path_cmp y x) lt) tt
below_put y x [] (suc i) lt h = pair_up (is_lt (path_cmp y x)) true (less_lt (path_cmp y x) lt) tt
below_put y x (p ∷ ps) zero lt h = pair_up (is_lt (path_cmp y x)) (below_all path_cmp y (map (λ (r : Path). (r, true)) (p ∷ ps))) (less_lt (path_cmp y x) lt) h
below_put y x (p ∷ ps) (suc i) lt h =
    let parts = halves (is_lt (path_cmp y p)) (below_all path_cmp y (map (λ (r : Path). (r, true)) ps)) h in
    pair_up (is_lt (path_cmp y p)) (below_all path_cmp y (map (λ (r : Path). (r, true)) (insert ps i x))) parts.0 (below_put y x ps i lt parts.1)

-- with x at its place a list still rises
pub rises-put : (ps : List Path) (i : ℕ) (x : Path) → Rises ps → i ≤ length ps → Parts ps x i → Rises (insert ps i x)
rises-put [] zero x up le parts = tt
rises-put [] (suc i) x up le parts = tt
rises-put (y ∷ ys) zero x up le parts = pair_up (below_all path_cmp x (map (λ (r : Path). (r, true)) (y ∷ ys))) (is_sorted path_cmp (map (λ (r : Path). (r, true)) (y ∷ ys))) (above_all (y ∷ ys) x parts.1) up
rises-put (y ∷ ys) (suc i) x up le parts =
    let h = halves (below_all path_cmp y (map (λ (r : Path). (r, true)) ys)) (is_sorted path_cmp (map (λ (r : Path). (r, true)) ys)) up in
    pair_up (below_all path_cmp y (map (λ (r : Path). (r, true)) (insert ys i x))) (is_sorted path_cmp (map (λ (r : Path). (r, true)) (insert ys i x)))
    (below_put y x ys i (parts.0 0 x (omega arith) (omega arith)) h.0)
    (rises-put ys i x h.1 (omega (arith, le)) (λ k d low high. parts.0 (suc k) d (omega arith) (omega (arith, high)), λ k d low high. parts.1 (suc k) d (omega (arith, low)) (omega (arith, high))))

not_tied_less : (x y : Path) → path_cmp y x ≡ Less → is_eq (path_cmp x y) ≡ false
not_tied_less x y h = ap is_eq (path_cmp_total.antisymm x y ∙ ap ordering_reverse h)

not_tied_greater : (x y : Path) → path_cmp y x ≡ Greater → is_eq (path_cmp x y) ≡ false
not_tied_greater x y h = ap is_eq (path_cmp_total.antisymm x y ∙ ap ordering_reverse h)

-- a path that has a place and none at it is not in the list
pub not_in : (ps : List Path) (i : ℕ) (x : Path) → Parts ps x i → is_in ps x ≡ false
not_in [] i x parts = refl
not_in (y ∷ ys) zero x parts =
    ap (λ (b : Bool). b || is_in ys x) (not_tied_greater x y (parts.1 0 x (omega arith) (omega arith)))
    ∙ not_in ys zero x (λ k d low high. absurd (omega (arith, high)), λ k d low high. parts.1 (suc k) d (omega arith) (omega (arith, high)))
not_in (y ∷ ys) (suc i) x parts =
    ap (λ (b : Bool). b || is_in ys x) (not_tied_less x y (parts.0 0 x (omega arith) (omega arith)))
    ∙ not_in ys i x (λ k d low high. parts.0 (suc k) d (omega arith) (omega (arith, high)), λ k d low high. parts.1 (suc k) d (omega (arith, low)) (omega (arith, high)))

and_stays : (a x : Bool) → (x ≡ true → a ≡ false) → a ≡ (a && not x)
and_stays true true none = none refl
and_stays true false none = refl
and_stays false x none = refl

-- nothing goes from a list that has it not
pub none_cut : (ps : List Path) (i : ℕ) (x p : Path) → Parts ps x i → is_in ps p ≡ (is_in ps p && not (is_eq (path_cmp p x)))
none_cut ps i x p parts = and_stays (is_in ps p) (is_eq (path_cmp p x)) (λ t. ap (λ (r : Path). is_in ps r) (tied p x t) ∙ not_in ps i x parts)
