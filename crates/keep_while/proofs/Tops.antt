-- Paths in order of which none is below another.
use Rattle.std.proofs.Common.{◌≡◌, inl, inr, ◌∙◌, true, false, List, [], ◌∷◌, ◌++◌, refl, sym, ap, subst, Less, Greater}
use Rattle.std.specs.Prelude.{IsTrue}
use Rattle.std.specs.List.{AllByRecursion}
use Rattle.std.specs.List.Sorted.{IsStrictlySortedBy}
use Rattle.std.specs.Ordering.{is_lt, ordering_reverse}
use Rattle.std.specs.Cmp.{tied_itself}
use Rattle.std.proofs.lemmas.Map.Keys.{sorted_head, sorted_tail}
use Rattle.khepri_terms.specs.Order.{path_cmp}
use Rattle.khepri_types.specs.Paths.{is_front}
use Rattle.khepri_types.specs.Tree.{Tree, stands}
use Rattle.khepri_types.proofs.Fronts.{front_itself}
use Rattle.khepri_types.proofs.Order.{path_cmp_total}
use Rattle.worklist_laws.specs.Candidates.{is_in, IsWithin}
use Rattle.worklist_laws.proofs.Among.{Path, in_append, in_cons, in_here, in_later, in_left, in_right}
use Rattle.keep_while.specs.Costs.{AreApart, EndsApart}
use Rattle.keep_while.proofs.Counting.{above_all}
use Rattle.keep_while.proofs.Gathering.{front_least, front_between}

-- ---- in order

pub split-less : (done : List Path) (x : Path) (rest : List Path) → IsStrictlySortedBy path_cmp (done ++ x ∷ rest) → (p : Path) → IsTrue (is_in done p) → path_cmp p x ≡ Less
split-less [] x rest rising p h = absurd cc
split-less (d ∷ done) x rest rising p h = elim (in_cons d done p h) as (λ _. path_cmp p x ≡ Less) [
  | inl here ↦ ap (λ (r : Path). path_cmp r x) here ∙ above_all d (done ++ x ∷ rest) (sorted_head path_cmp d (done ++ x ∷ rest) rising) x (in_right done (x ∷ rest) x (in_here x rest))
  | inr later ↦ split-less done x rest (sorted_tail path_cmp d (done ++ x ∷ rest) rising) p later
]

all-more : (P : Path → Type 0) (ps : List Path) (x : Path) → AllByRecursion P ps → P x → AllByRecursion P (ps ++ x ∷ [])
all-more P [] x all one = (one, tt)
all-more P (p ∷ ps) x all one = (all.0, all-more P ps x all.1 one)

rises_on : (t : Path) (ts : List Path) → AllByRecursion (λ y. path_cmp t y ≡ Less) ts → IsStrictlySortedBy path_cmp ts → IsStrictlySortedBy path_cmp (t ∷ ts)
unfolding IsStrictlySortedBy
rises_on t ts all rising = (all, rising)

pub rises-none : IsStrictlySortedBy path_cmp []
unfolding IsStrictlySortedBy
rises-none = tt

pub rises-more : (tops : List Path) (x : Path) → IsStrictlySortedBy path_cmp tops → ((p : Path) → IsTrue (is_in tops p) → path_cmp p x ≡ Less) → IsStrictlySortedBy path_cmp (tops ++ x ∷ [])
rises-more [] x rising less = rises_on x [] tt rises-none
rises-more (t ∷ tops) x rising less =
    rises_on t (tops ++ x ∷ []) (all-more (λ y. path_cmp t y ≡ Less) tops x (sorted_head path_cmp t tops rising) (less t (in_here t tops)))
    (rises-more tops x (sorted_tail path_cmp t tops rising) (λ p h. less p (in_later t tops p h)))

-- ---- apart

pub apart-none : AreApart []
apart-none p q hp hq front = absurd cc

-- some path is the last of those
record Last (tops : List Path) : Type 0 where
  before : List Path
  last : Path
  is : tops ≡ before ++ last ∷ []

last_of : (t : Path) (tops : List Path) → Last (t ∷ tops)
last_of t [] = record { before = []; last = t; is = refl }
last_of t (s ∷ tops) = let l = last_of s tops in record { before = t ∷ l.before; last = l.last; is = ap (λ (ps : List Path). t ∷ ps) l.is }

last_in : (tops : List Path) (p : Path) → IsTrue (is_in tops p) → Last tops
last_in [] p h = absurd cc
last_in (t ∷ tops) p h = last_of t tops

not_less : (p : Path) → path_cmp p p ≡ Less → ⊥
not_less p less = cc (sym less ∙ tied_itself path_cmp_total p)

-- none of them is a front of a later path of which the last is none
no_front : (tops : List Path) (x : Path) → IsStrictlySortedBy path_cmp tops → AreApart tops → ((p : Path) → IsTrue (is_in tops p) → path_cmp p x ≡ Less) → EndsApart tops x → (p : Path) → IsTrue (is_in tops p) → is_front p x ≡ true → ⊥
no_front tops x rising apart less ends p h front =
    let l = last_in tops p h in
    let there : IsTrue (is_in tops l.last) = subst (λ (ps : List Path). IsTrue (is_in ps l.last)) (sym l.is) (in_right l.before (l.last ∷ []) l.last (in_here l.last [])) in
    elim (in_append l.before (l.last ∷ []) p (subst (λ (ps : List Path). IsTrue (is_in ps p)) l.is h)) as (λ _. ⊥) [
      | inl earlier ↦
          let lower : path_cmp p l.last ≡ Less = split-less l.before l.last [] (subst (IsStrictlySortedBy path_cmp) l.is rising) p earlier in
          let same : p ≡ l.last = apart p l.last h there (front_between p p l.last x (front_itself p) front lower (less l.last there)) in
          not_less l.last (subst (λ (r : Path). path_cmp r l.last ≡ Less) same lower)
      | inr here ↦ elim (in_cons l.last [] p here) as (λ _. ⊥) [
        | inl same ↦ ends l.before l.last l.is (subst (λ (r : Path). IsTrue (is_front r x)) same front)
        | inr none ↦ absurd cc
      ]
    ]

pub apart-more : (tops : List Path) (x : Path) → IsStrictlySortedBy path_cmp tops → AreApart tops → ((p : Path) → IsTrue (is_in tops p) → path_cmp p x ≡ Less) → EndsApart tops x → AreApart (tops ++ x ∷ [])
apart-more tops x rising apart less ends p q hp hq front = elim (in_append tops (x ∷ []) p hp) as (λ _. p ≡ q) [
  | inl p_there ↦ elim (in_append tops (x ∷ []) q hq) as (λ _. p ≡ q) [
    | inl q_there ↦ apart p q p_there q_there front
    | inr q_here ↦ absurd (no_front tops x rising apart less ends p p_there (subst (λ (r : Path). is_front p r ≡ true) (is q q_here) front))
  ]
  | inr p_here ↦ elim (in_append tops (x ∷ []) q hq) as (λ _. p ≡ q) [
    | inl q_there ↦
        let lower : path_cmp q x ≡ Less = less q q_there in
        let back : path_cmp x q ≡ Greater = path_cmp_total.antisymm x q ∙ ap ordering_reverse lower in
        let same : x ≡ q = front_least x q (subst (λ (r : Path). is_front r q ≡ true) (is p p_here) front) (ap is_lt back) in
        absurd (not_less x (subst (λ (r : Path). path_cmp r x ≡ Less) (sym same) lower))
    | inr q_here ↦ is p p_here ∙ sym (is q q_here)
  ]
]
  where
    is : (r : Path) → IsTrue (is_in (x ∷ []) r) → r ≡ x
    is r h = elim (in_cons x [] r h) as (λ _. r ≡ x) [ inl same ↦ same | inr none ↦ absurd cc ]

pub ends-none : (p : Path) (tops : List Path) → tops ≡ [] → EndsApart tops p
ends-none p tops none before last is front = nothing before (sym is ∙ none)
  where
    nothing : (b : List Path) → b ++ last ∷ [] ≡ [] → ⊥
    nothing [] e = cc
    nothing (x ∷ b) e = cc

pub ends-last : (p : Path) (before : List Path) (last : Path) (tops : List Path) → tops ≡ before ++ last ∷ [] → is_front last p ≡ false → EndsApart tops p
ends-last p before last tops is apart other end also front = cc (sym front ∙ (ap (λ (r : Path). is_front r p) (same other before end last (sym also ∙ is)) ∙ apart))
  where
    rest_of : List Path → List Path
    rest_of [] = []
    rest_of (k ∷ ps) = ps

    same : (b c : List Path) (x y : Path) → b ++ x ∷ [] ≡ c ++ y ∷ [] → x ≡ y
    same [] [] x y e = cc
    same [] (k ∷ []) x y e = absurd cc
    same [] (k ∷ j ∷ c) x y e = absurd cc
    same (k ∷ []) [] x y e = absurd cc
    same (k ∷ j ∷ b) [] x y e = absurd cc
    same (k ∷ b) (j ∷ c) x y e = same b c x y (ap rest_of e)

pub in-more : (done : List Path) (x : Path) (tops : List Path) → IsWithin tops done → IsWithin tops (done ++ x ∷ [])
in-more done x tops within p h = in_left done (x ∷ []) p (within p h)

pub in-both : (done : List Path) (x : Path) (tops : List Path) → IsWithin tops done → IsWithin (tops ++ x ∷ []) (done ++ x ∷ [])
in-both done x tops within p h = elim (in_append tops (x ∷ []) p h) as (λ _. IsTrue (is_in (done ++ x ∷ []) p)) [
  | inl a ↦ in_left done (x ∷ []) p (within p a)
  | inr b ↦ in_right done (x ∷ []) p b
]

pub stands-more : (T : Tree) (tops : List Path) (x : Path) → ((p : Path) → IsTrue (is_in tops p) → IsTrue (stands T p)) → IsTrue (stands T x) → (p : Path) → IsTrue (is_in (tops ++ x ∷ []) p) → IsTrue (stands T p)
stands-more T tops x all one p h = elim (in_append tops (x ∷ []) p h) as (λ _. IsTrue (stands T p)) [
  | inl a ↦ all p a
  | inr b ↦ elim (in_cons x [] p b) as (λ _. IsTrue (stands T p)) [
    | inl same ↦ subst (λ (r : Path). IsTrue (stands T r)) (sym same) one
    | inr none ↦ absurd cc
  ]
]
