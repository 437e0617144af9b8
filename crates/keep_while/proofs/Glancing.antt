-- A look over what changed.
use Rattle.std.proofs.Common.{◌≡◌, ◌⊎◌, inl, inr, ℕ, zero, suc, ◌+◌, ◌*◌, ◌<◌, ◌≤◌, true, false, ◌||◌, List, [], ◌∷◌, ◌++◌, length, map, take, get_or, refl, sym, ap, subst, ◌∙◌, arith, Option, Some, None, Less, Equal, Greater}
use Rattle.std.specs.Prelude.{IsTrue}
use Rattle.std.specs.List.Sorted.{IsStrictlySortedBy}
use Rattle.std.specs.FinMap.{empty}
use Rattle.std.specs.Ordering.{is_eq, is_lt, ordering_reverse}
use Rattle.std.specs.declared.cmp.Ordering.{Ordering}
use Rattle.std.proofs.lemmas.List.{append-nil}
use Rattle.std.proofs.lemmas.List.Folds.{list_any_more}
use Rattle.std.proofs.lemmas.List.Sums.{sum_by-cons}
use Rattle.khepri_terms.specs.Order.{path_cmp}
use Rattle.khepri_terms.proofs.Cases.{some_is}
use Rattle.khepri_types.specs.declared.limits.TheConstants.{MAX_WATCHES}
use Rattle.khepri_types.specs.Conditions.{seen_at}
use Rattle.khepri_types.specs.Paths.{is_child}
use Rattle.khepri_types.specs.Tree.{Tree}
use Rattle.khepri_types.proofs.Order.{path_cmp_total, path_cmp-same}
use Rattle.tree_nodes.specs.Drafts.{Drafted, IsTouched}
use Rattle.tree_nodes.specs.Next.{IsNext, follows}
use Rattle.worklist_laws.specs.Candidates.{is_in, IsWithin, fails_at, watchers}
use Rattle.worklist_laws.specs.Counts.{watching}
use Rattle.worklist_laws.specs.Links.{Links, linked_to}
use Rattle.worklist_laws.proofs.Among.{Path, in_append, in_cons, not_both, or_either, test_false, tied}
use Rattle.keep_while.specs.Costs.{AreAnew, IsFirst, IsGlance, IsLook, IsPaidFor, IsPaidSoFar}
use Rattle.keep_while.specs.Gathering.{IsNoted, NoneFails, NoneFailsAnew, NotesAsked, Passes}
use Rattle.keep_while.proofs.Firsts.{unlinked}
use Rattle.keep_while.proofs.Looking.{not_after, same_path, to_touch, touched-less, touched-whole}
use Rattle.keep_while.proofs.Tops.{rises-more, rises-none}

-- ---- nodes that don't fail

pub none-begins : (D : Tree) (paths : List Path) → NoneFails D (take 0 paths)
none-begins D paths p h = absurd cc

pub none-more : (D : Tree) (paths : List Path) (i : ℕ) (x : Path) → i < length paths → x ≡ get_or paths i x → NoneFails D (take i paths) → fails_at D x ≡ false → NoneFails D (take (i + 1) paths)
none-more D paths i x lt is was one p h = elim (or_either (is_in (take i paths) p) (is_eq (path_cmp p x)) (sym taken ∙ h)) as (λ _. fails_at D p ≡ false) [
  | inl earlier ↦ was p earlier
  | inr here ↦ ap (fails_at D) (tied p x here) ∙ one
]
  where
    taken : is_in (take (i + 1) paths) p ≡ (is_in (take i paths) p || is_eq (path_cmp p x))
    taken = list_any_more (λ (r : Path). is_eq (path_cmp p r)) paths i x lt ∙ ap (λ (r : Path). is_in (take i paths) p || is_eq (path_cmp p r)) (sym is)

pub none-listed : (D : Tree) (paths : List Path) → length paths ≡ 0 → NoneFails D paths
none-listed D [] e p h = absurd cc
none-listed D (x ∷ paths) e p h = absurd (omega (arith, e))

-- an empty index lists no node
pub none-linked : (D : Tree) (L : Links) → L ≡ empty → (r : Path) → NoneFails D (linked_to L r)
none-linked D L none r p h = absurd (unlinked L none r p h)

-- what was found of the parent of q
pub parent-asked : (B D : Tree) (of : Path → List Path) (q parent : Path) (above : List Path) (o : Option Path) → o ≡ Some parent → ((r : Path) → IsTrue (is_child r q) → o ≡ Some r) → IsNoted B D of parent above → NotesAsked B D of q above
parent-asked B D of q parent above o is only noted r child moved = subst (λ (x : Path). IsNoted B D of x above) (some_is _ _ (sym is ∙ only r child)) noted

-- no node fails that `of` lists at one of these paths
abbrev pub NoneAsked : Tree → (Path → List Path) → List Path → Type 0
NoneAsked D of paths = (q : Path) → IsTrue (is_in paths q) → NoneFails D (of q)

pub asked-fine : (D : Tree) (of : Path → List Path) (done : List Path) (x : Path) → NoneAsked D of done → NoneFails D (of x) → NoneAsked D of (done ++ x ∷ [])
asked-fine D of done x was one q h = elim (in_append done (x ∷ []) q h) as (λ _. NoneFails D (of q)) [
  | inl earlier ↦ was q earlier
  | inr here ↦ elim (in_cons x [] q here) as (λ _. NoneFails D (of q)) [
    | inl same ↦ subst (λ (r : Path). NoneFails D (of r)) (sym same) one
    | inr none ↦ absurd cc
  ]
]

pub fine-all : (D : Tree) (of : Path → List Path) (done all : List Path) → done ++ [] ≡ all → NoneAsked D of done → NoneAsked D of all
fine-all D of done all e was = subst (NoneAsked D of) (sym (append-nil done) ∙ e) was

-- ---- how many watch

watching-cons : (T : Tree) (x : Path) (paths : List Path) → watching T (x ∷ paths) ≡ length (watchers T x) + watching T paths
watching-cons T x paths = sum_by-cons (λ n. n) (length (watchers T x)) (map (λ q. length (watchers T q)) paths)

watching-two : (T : Tree) (xs ys : List Path) → watching T (xs ++ ys) ≡ watching T xs + watching T ys
watching-two T [] ys = omega arith
watching-two T (x ∷ xs) ys = omega (arith, watching-two T xs ys, watching-cons T x xs, watching-cons T x (xs ++ ys))

pub watching-more : (T : Tree) (done : List Path) (x : Path) → watching T (done ++ x ∷ []) ≡ watching T done + length (watchers T x)
watching-more T done x = omega (arith, watching-two T done (x ∷ []), watching-cons T x [])

pub watching-some : (T : Tree) (done left all : List Path) → done ++ left ≡ all → watching T done ≤ watching T all
watching-some T done left all e = omega (arith, watching-two T done left, ap (watching T) e)

-- ---- what the look costs

less_is : (o : Ordering) → IsTrue (is_lt o) → o ≡ Less
less_is Less h = refl
less_is Equal h = absurd cc
less_is Greater h = absurd cc

earlier_less : (after : Option Path) (q x : Path) → follows path_cmp after q ≡ false → IsTrue (follows path_cmp after x) → path_cmp q x ≡ Less
earlier_less None q x low on = absurd cc
earlier_less (Some a) q x low on = elim (path_cmp a q) as (λ o. path_cmp a q ≡ o → path_cmp q x ≡ Less) [
  | Less ↦ λ e. absurd (not_both (is_lt (path_cmp a q)) (ap is_lt e) low)
  | Equal ↦ λ e. subst (λ (r : Path). path_cmp r x ≡ Less) (path_cmp-same a q e) (less_is (path_cmp a x) on)
  | Greater ↦ λ e. path_cmp_total.trans q a x (path_cmp_total.antisymm q a ∙ ap ordering_reverse e) (less_is (path_cmp a x) on)
] refl

behind : (q x : Path) → path_cmp q x ≡ Less → follows path_cmp (Some x) q ≡ false
behind q x less = ap is_lt (path_cmp_total.antisymm x q ∙ ap ordering_reverse less)

-- up to `after` the touched paths were looked at
pub record Glanced (d : Drafted) (after : Option Path) (old now : ℕ) : Type 0 where
  pub changed : List Path
  pub anew : AreAnew d.base d.tree changed
  pub rising : IsStrictlySortedBy path_cmp changed
  pub before : (q : Path) → IsTrue (is_in changed q) → follows path_cmp after q ≡ false
  pub paid : now + 24 * length (to_touch d.touched after) ≤ old + 24 * length d.touched + 17 * watching d.base changed

pub glanced-none : (d : Drafted) (old : ℕ) → Glanced d None old old
glanced-none d old = record {
  changed = [];
  anew = λ q h. absurd cc;
  rising = rises-none;
  before = λ q h. absurd cc;
  paid = omega (arith, touched-whole d.touched);
}

pub glanced-more : (d : Drafted) (after : Option Path) (x : Path) (old now tested seen new : ℕ) → Glanced d after old now → IsNext path_cmp (IsTouched d.touched) after (Some x)
    → tested ≤ now + 1 + (1 + MAX_WATCHES) → IsLook d x tested seen → new ≤ seen + 4 → Glanced d (Some x) old new
glanced-more d after x old now tested seen new was next test look note = elim look as (λ _. Glanced d (Some x) old new) [
  | inl few ↦ record {
    changed = was.changed;
    anew = was.anew;
    rising = was.rising;
    before = λ q h. behind q x (less q h);
    paid = omega (arith, was.paid, test, few, note, touched-less d.touched after x next);
  }
  | inr more ↦ record {
    changed = was.changed ++ x ∷ [];
    anew = λ q h. elim (on q h) as (λ _. seen_at d.base q ≡ seen_at d.tree q → ⊥) [
      | inl earlier ↦ was.anew q earlier
      | inr here ↦ subst (λ (r : Path). seen_at d.base r ≡ seen_at d.tree r → ⊥) (sym here) more.0
    ];
    rising = rises-more was.changed x was.rising less;
    before = λ q h. elim (on q h) as (λ _. follows path_cmp (Some x) q ≡ false) [
      | inl earlier ↦ behind q x (less q earlier)
      | inr here ↦ ap (follows path_cmp (Some x)) here ∙ not_after x
    ];
    paid = omega (arith, was.paid, test, more.1, note, touched-less d.touched after x next, watching-more d.base was.changed x);
  }
]
  where
    less : (q : Path) → IsTrue (is_in was.changed q) → path_cmp q x ≡ Less
    less q h = earlier_less after q x (was.before q h) next.1

    on : (q : Path) → IsTrue (is_in (was.changed ++ x ∷ []) q) → IsTrue (is_in was.changed q) ⊎ (q ≡ x)
    on q h = elim (in_append was.changed (x ∷ []) q h) as (λ _. IsTrue (is_in was.changed q) ⊎ (q ≡ x)) [
      | inl earlier ↦ inl earlier
      | inr here ↦ elim (in_cons x [] q here) as (λ _. IsTrue (is_in was.changed q) ⊎ (q ≡ x)) [
        | inl same ↦ inr same
        | inr none ↦ absurd cc
      ]
    ]

pub glance-of : (d : Drafted) (after : Option Path) (old now new : ℕ) → Glanced d after old now → new ≤ now + 1 → IsGlance d 17 old new
glance-of d after old now new was last = record {
  changed = was.changed;
  anew = was.anew;
  rising = was.rising;
  paid = omega (arith, was.paid, last);
}

-- a touched node fails
pub glance-failed : (d : Drafted) (after : Option Path) (x : Path) (old now new : ℕ) → Glanced d after old now → IsNext path_cmp (IsTouched d.touched) after (Some x) → new ≤ now + 1 + (1 + MAX_WATCHES) → IsGlance d 17 old new
glance-failed d after x old now new was next test = record {
  changed = was.changed;
  anew = was.anew;
  rising = was.rising;
  paid = omega (arith, was.paid, test, touched-less d.touched after x next);
}

-- ---- two lists of paths

either_most : (a b : ℕ) → (a ≤ b) ⊎ (b ≤ a)
either_most zero b = inl (omega arith)
either_most (suc a) zero = inr (omega arith)
either_most (suc a) (suc b) = elim (either_most a b) as (λ _. (suc a ≤ suc b) ⊎ (suc b ≤ suc a)) [
  | inl h ↦ inl (omega (arith, h))
  | inr h ↦ inr (omega (arith, h))
]

pub glance-alone : (d : Drafted) (old new : ℕ) → IsGlance d 17 old new → IsGlance d 34 old new
glance-alone d old new g = record {
  changed = g.changed;
  anew = g.anew;
  rising = g.rising;
  paid = omega (arith, g.paid);
}

pub glance-both : (d : Drafted) (above : List Path) (old now new : ℕ) → IsGlance d 17 old now → AreAnew d.base d.tree above → IsStrictlySortedBy path_cmp above → new ≤ now + 17 * watching d.base above → IsGlance d 34 old new
glance-both d above old now new g anew rising up = elim (either_most (watching d.base g.changed) (watching d.base above)) as (λ _. IsGlance d 34 old new) [
  | inl less ↦ record {
    changed = above;
    anew = anew;
    rising = rising;
    paid = omega (arith, g.paid, up, less);
  }
  | inr less ↦ record {
    changed = g.changed;
    anew = g.anew;
    rising = g.rising;
    paid = omega (arith, g.paid, up, less);
  }
]

-- where nothing fails, the look is all that it took
pub paid-glance : (d : Drafted) (old new : ℕ) → IsGlance d 34 old new → IsPaidFor d old new
paid-glance d old new g = record {
  changed = g.changed;
  anew = g.anew;
  rising = g.rising;
  paid = omega (arith, g.paid);
}

pub paid-first : (d : Drafted) (candidates : List Path) (old seen now : ℕ) → IsGlance d 34 old seen → IsFirst d candidates → now ≤ seen + 8 * length d.touched + 1 → IsPaidSoFar d d.tree candidates old now
paid-first d candidates old seen now g f cost = elim (either_most (watching d.base g.changed) (watching d.base f.changed)) as (λ _. IsPaidSoFar d d.tree candidates old now) [
  | inl less ↦ record {
    changed = f.changed;
    anew = f.anew;
    rising = f.rising;
    paid = omega (arith, g.paid, f.count, cost, less);
  }
  | inr less ↦ record {
    changed = g.changed;
    anew = g.anew;
    rising = g.rising;
    paid = omega (arith, g.paid, f.count, cost, less);
  }
]

-- ---- a walk over the touched paths

-- up to `after` each touched path passes
abbrev pub PassesSoFar : Tree → Tree → (Path → List Path) → List Path → List Path → Option Path → Type 0
PassesSoFar B D of touched above after = (q : Path) → IsTouched touched q → follows path_cmp after q ≡ false → Passes B D of above q

pub passes-none : (B D : Tree) (of : Path → List Path) (touched above : List Path) → PassesSoFar B D of touched above None
passes-none B D of touched above q on low = absurd cc

pub passes-more : (B D : Tree) (of : Path → List Path) (touched old new : List Path) (after : Option Path) (x : Path) → PassesSoFar B D of touched old after → IsNext path_cmp (IsTouched touched) after (Some x) → IsWithin old new
    → fails_at D x ≡ false → NoneFailsAnew B D of x → NotesAsked B D of x new → PassesSoFar B D of touched new (Some x)
passes-more B D of touched old new after x was next on fine none above q t low =
    let here : Passes B D of new x = record { itself = fine; anew = none; above = above } in
    elim (follows path_cmp after q) as (λ b. follows path_cmp after q ≡ b → Passes B D of new q) [
      | true ↦ λ f. subst (Passes B D of new) (same_path x q (λ less. not_both (follows path_cmp (Some x) q) (ap is_lt less) low) (next.2 q t f)) here
      | false ↦ λ f. on_more q (was q t f)
    ] refl
  where
    on_more : (r : Path) → Passes B D of old r → Passes B D of new r
    on_more r p = record {
      itself = p.itself;
      anew = p.anew;
      above = λ parent child moved anew. elim (p.above parent child moved anew) as (λ _. IsTrue (is_in new parent) ⊎ NoneFails D (of parent)) [
        | inl noted ↦ inl (on parent noted)
        | inr fine ↦ inr fine
      ];
    }

pub passes-all : (B D : Tree) (of : Path → List Path) (touched above : List Path) (after : Option Path) → PassesSoFar B D of touched above after → IsNext path_cmp (IsTouched touched) after None → (q : Path) → IsTouched touched q → Passes B D of above q
passes-all B D of touched above after was none q on = was q on (test_false (follows path_cmp after q) (λ t. none q on t))
