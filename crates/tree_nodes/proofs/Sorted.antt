-- Nodes in order of path.
use Rattle.std.proofs.Common.{◌≡◌, ℕ, zero, suc, ◌<◌, Bool, true, false, cond, List, [], ◌∷◌, length, get_or, refl, ap, ◌∙◌, arith, Some, None, Less, Equal, Greater, ◌&&◌}
use Rattle.std.specs.Prelude.{IsTrue}
use Rattle.std.specs.Ordering.{is_eq, is_lt, ordering_reverse}
use Rattle.std.specs.declared.cmp.Ordering.{Ordering}
use Rattle.std.specs.FinMap.{find, is_sorted}
use Rattle.std.specs.FinMap.Entries.{below_all}
use Rattle.khepri_terms.specs.Terms.{NameText}
use Rattle.khepri_terms.specs.Order.{path_cmp}
use Rattle.khepri_types.specs.declared.node.Node.{Node}
use Rattle.khepri_types.proofs.Order.{path_cmp_total}

abbrev pub Entry : Type 0
Entry = List NameText × Node

abbrev pub IsSorted : List Entry → Type 0
IsSorted es = IsTrue (is_sorted path_cmp es)

pub both_true : (a b : Bool) → IsTrue a → IsTrue b → IsTrue (a && b)
both_true true b g h = h
both_true false b g h = absurd cc

pub second_true : (a b : Bool) → IsTrue (a && b) → IsTrue b
second_true true b h = h
second_true false b h = absurd cc

pub first_true : (a b : Bool) → IsTrue (a && b) → IsTrue a
first_true true b h = refl
first_true false b h = h

less_is : (o : Ordering) → IsTrue (is_lt o) → o ≡ Less
less_is Less h = refl
less_is Equal h = absurd cc
less_is Greater h = absurd cc

pub head_below : (q : List NameText) (x : Entry) (es : List Entry) → IsTrue (below_all path_cmp q (x ∷ es)) → path_cmp q x.0 ≡ Less
head_below q x es h = less_is (path_cmp q x.0) (first_true (is_lt (path_cmp q x.0)) (below_all path_cmp q es) h)

pub tail_below : (q : List NameText) (x : Entry) (es : List Entry) → IsTrue (below_all path_cmp q (x ∷ es)) → IsTrue (below_all path_cmp q es)
tail_below q x es h = second_true (is_lt (path_cmp q x.0)) (below_all path_cmp q es) h

pub head_sorted : (x : Entry) (es : List Entry) → IsSorted (x ∷ es) → IsTrue (below_all path_cmp x.0 es)
head_sorted x es h = first_true (below_all path_cmp x.0 es) (is_sorted path_cmp es) h

pub tail_sorted : (x : Entry) (es : List Entry) → IsSorted (x ∷ es) → IsSorted es
tail_sorted x es h = second_true (below_all path_cmp x.0 es) (is_sorted path_cmp es) h

-- a path below all of them is below each
pub below-at : (q : List NameText) (es : List Entry) (i : ℕ) (e : Entry) → i < length es → e ≡ get_or es i e → IsTrue (below_all path_cmp q es) → path_cmp q e.0 ≡ Less
below-at q [] i e lt is h = absurd (omega arith)
below-at q (x ∷ es) zero e lt is h = ap (λ (y : Entry). path_cmp q y.0) is ∙ head_below q x es h
below-at q (x ∷ es) (suc i) e lt is h = below-at q es i e (omega arith) is (tail_below q x es h)

-- a path below the least of them is below all
pub below-all : (p q : List NameText) (es : List Entry) → path_cmp p q ≡ Less → IsTrue (below_all path_cmp q es) → IsTrue (below_all path_cmp p es)
below-all p q [] less h = refl
below-all p q (x ∷ es) less h =
    both_true (is_lt (path_cmp p x.0)) (below_all path_cmp p es)
    (ap is_lt (path_cmp_total.trans p q x.0 less (head_below q x es h)))
    (below-all p q es less (tail_below q x es h))

pub turned : (p q : List NameText) (o : Ordering) → path_cmp p q ≡ o → path_cmp q p ≡ ordering_reverse o
turned p q o e = path_cmp_total.antisymm q p ∙ ap ordering_reverse e

-- a path above which all of them stand is none of them
pub find-above : (p : List NameText) (es : List Entry) → IsTrue (below_all path_cmp p es) → find path_cmp p es ≡ None
find-above p [] h = refl
find-above p (x ∷ es) h = ap (λ r. cond (is_eq r) (Some x.1) (find path_cmp p es)) (head_below p x es h) ∙ find-above p es (tail_below p x es h)
