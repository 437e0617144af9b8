-- What is gathered for a round of settling.
use Rattle.std.proofs.Common.{◌≡◌, ◌⊎◌, inl, inr, ℕ, ◌+◌, ◌-◌, ◌<◌, Bool, true, false, cond, not, ◌&&◌, ◌||◌, List, [], ◌∷◌, ◌++◌, length, take, get_or, append_assoc, refl, sym, ap, subst, ◌∙◌, arith, Option, Some, None, Less, Equal, Greater, ◌*◌, ◌≤◌}
use Rattle.std.specs.Prelude.{IsTrue, is_some}
use Rattle.std.specs.List.{list_any, flat_map}
use Rattle.std.specs.Ordering.{is_eq, is_lt, ordering_reverse, ordering_then}
use Rattle.std.specs.declared.cmp.Ordering.{Ordering}
use Rattle.std.specs.Cmp.{tied_itself}
use Rattle.std.specs.FinMap.{get}
use Rattle.std.proofs.lemmas.List.{append-nil}
use Rattle.std.proofs.lemmas.List.Elements.{filter_more}
use Rattle.std.proofs.lemmas.List.Folds.{list_any_more, list_any-append}
use Rattle.khepri_terms.specs.Terms.{NameText}
use Rattle.khepri_terms.specs.Order.{name_cmp, path_cmp}
use Rattle.khepri_terms.proofs.Cases.{and_true, or_false}
use Rattle.khepri_types.specs.declared.limits.TheConstants.{MAX_WATCHES}
use Rattle.khepri_types.specs.declared.node.Node.{Node}
use Rattle.khepri_types.specs.Conditions.{seen_at}
use Rattle.khepri_types.specs.Drop.{drop}
use Rattle.khepri_types.specs.Paths.{is_child, is_front, is_under}
use Rattle.khepri_types.specs.Settling.{stable, failing}
use Rattle.khepri_types.specs.Tree.{Tree, stands}
use Rattle.khepri_types.proofs.Fronts.{front_itself, child_taken, child_long}
use Rattle.khepri_types.proofs.Order.{name_cmp_total, name_cmp-same, path_cmp_total, path_cmp-same}
use Rattle.khepri_types.proofs.Trees.{tie_is}
use Rattle.tree_nodes.specs.Next.{IsNext, IsUnder}
use Rattle.worklist_laws.specs.Candidates.{is_in, IsWithin, fails_at, tested, IsEnough, DropsFailing, SameBelow, aims_node, ListsAll}
use Rattle.worklist_laws.specs.Changes.{changed_paths, SameBut}
use Rattle.worklist_laws.proofs.Among.{Path, and_both, from_flat, in_append, in_cons, in_filter, in_filtered, in_here, in_later, in_left, in_right, not_both, or_either, or_left, or_right, passes_filter, test_false, tie, tied, under_from, under_in}
use Rattle.worklist_laws.proofs.Candidates.{fails-from, culprit, next-enough, lists-drop, tested-below, failing-in, enough-drops}
use Rattle.worklist_laws.proofs.Changing.{near, seen-but, stands-left}
use Rattle.worklist_laws.proofs.Indexing.{filter-append}
use Rattle.khepri_types.proofs.Failing.{steady}
use Rattle.keep_while.specs.Gathering.{AreOut, Asks, asked, both, GoesUnder, HasAbove, HasBelow, HasNear, LooksAt, NoneFails, Passes, without}

-- ---- paths are added

pub within-on : (a b c : List Path) → IsWithin a b → IsWithin b c → IsWithin a c
within-on a b c f g q h = g q (f q h)

pub within-none : (left paths set : List Path) → IsWithin (without left (take 0 paths)) set
within-none left paths set q h = absurd cc

-- a path more, if it isn't left out
pub within-more : (left paths : List Path) (i : ℕ) (x : Path) (old new : List Path) → i < length paths → x ≡ get_or paths i x → IsWithin (without left (take i paths)) old → IsWithin old new → (is_in left x ≡ false → IsTrue (is_in new x)) → IsWithin (without left (take (i + 1) paths)) new
within-more left paths i x old new lt is was stays one q h =
    let K : Path → Bool = λ p. not (is_in left p) in
    let all : without left (take (i + 1) paths) ≡ without left (take i paths) ++ cond (K x) (x ∷ []) [] =
    filter_more K paths i x lt ∙ ap (λ (y : Path). without left (take i paths) ++ cond (K y) (y ∷ []) []) (sym is) in
    elim (in_append (without left (take i paths)) (cond (K x) (x ∷ []) []) q (subst (λ (ps : List Path). IsTrue (is_in ps q)) all h)) as (λ _. IsTrue (is_in new q)) [
      | inl earlier ↦ stays q (was q earlier)
      | inr here ↦ elim (is_in left x) as (λ b. is_in left x ≡ b → IsTrue (is_in (cond (not b) (x ∷ []) []) q) → IsTrue (is_in new q)) [
        | true ↦ λ t g. absurd cc
        | false ↦ λ t g. elim (in_cons x [] q g) as (λ _. IsTrue (is_in new q)) [
          | inl same ↦ subst (λ (r : Path). IsTrue (is_in new r)) (sym same) (one t)
          | inr none ↦ absurd cc
        ]
      ] refl here
    ]

-- those of one list, and then those of another
pub within-both : (xs ys now new : List Path) → IsWithin xs now → IsWithin now new → IsWithin ys new → IsWithin (xs ++ ys) new
within-both xs ys now new f stays g q h = elim (in_append xs ys q h) as (λ _. IsTrue (is_in new q)) [
  | inl a ↦ stays q (f q a)
  | inr b ↦ g q b
]

-- what goes below one top, or none yet
pub goes-none : (tops old : List Path) → GoesUnder (take 0 tops) old old
goes-none tops old p h = or_left (is_in old p) false h

pub goes-one : (top x : Path) (old now new : List Path) → is_front top x ≡ true → GoesUnder (top ∷ []) old now → ((q : Path) → is_in new q ≡ (is_eq (path_cmp x q) || is_in now q)) → GoesUnder (top ∷ []) old new
goes-one top x old now new front was one p h = elim (or_either (is_eq (path_cmp x p)) (is_in now p) (sym (one p) ∙ h)) as (λ _. IsTrue (is_in old p || is_under (top ∷ []) p)) [
  | inl here ↦ or_right (is_in old p) (is_under (top ∷ []) p) (or_left (is_front top p) false (ap (is_front top) (sym (tied x p here)) ∙ front))
  | inr earlier ↦ was p earlier
]

pub goes-begins : (top : Path) (old new : List Path) → ((q : Path) → is_in new q ≡ (is_eq (path_cmp top q) || is_in old q)) → GoesUnder (top ∷ []) old new
goes-begins top old new one = goes-one top top old old new (front_itself top) (λ p h. or_left (is_in old p) (is_under (top ∷ []) p) h) one

pub goes-more : (tops : List Path) (i : ℕ) (top : Path) (old now new : List Path) → i < length tops → top ≡ get_or tops i top → GoesUnder (take i tops) old now → GoesUnder (top ∷ []) now new → GoesUnder (take (i + 1) tops) old new
goes-more tops i top old now new lt is was one p h =
    let under : is_under (take (i + 1) tops) p ≡ (is_under (take i tops) p || is_front top p) = list_any_more (λ (r : Path). is_front r p) tops i top lt ∙ ap (λ (r : Path). is_under (take i tops) p || is_front r p) (sym is) in
    ap (λ (b : Bool). is_in old p || b) under
    ∙ elim (or_either (is_in now p) (is_under (top ∷ []) p) (one p h)) as (λ _. (is_in old p || (is_under (take i tops) p || is_front top p)) ≡ true) [
      | inl earlier ↦ elim (or_either (is_in old p) (is_under (take i tops) p) (was p earlier)) as (λ _. (is_in old p || (is_under (take i tops) p || is_front top p)) ≡ true) [
        | inl a ↦ or_left (is_in old p) (is_under (take i tops) p || is_front top p) a
        | inr b ↦ or_right (is_in old p) (is_under (take i tops) p || is_front top p) (or_left (is_under (take i tops) p) (is_front top p) b)
      ]
      | inr here ↦ elim (or_either (is_front top p) false here) as (λ _. (is_in old p || (is_under (take i tops) p || is_front top p)) ≡ true) [
        | inl a ↦ or_right (is_in old p) (is_under (take i tops) p || is_front top p) (or_right (is_under (take i tops) p) (is_front top p) a)
        | inr b ↦ absurd cc
      ]
    ]

-- ---- the order of paths

less_is : (o : Ordering) → IsTrue (is_lt o) → o ≡ Less
less_is Less h = refl
less_is Equal h = absurd cc
less_is Greater h = absurd cc

name_is : (n m : NameText) → is_eq (name_cmp n m) ≡ true → n ≡ m
name_is n m h = name_cmp-same n m (tie_is _ h)

pub front_trans : (f g q : Path) → is_front f g ≡ true → is_front g q ≡ true → is_front f q ≡ true
unfolding is_front
front_trans [] g q a b = refl
front_trans (n ∷ f) [] q a b = absurd cc
front_trans (n ∷ f) (m ∷ g) [] a b = absurd cc
front_trans (n ∷ f) (m ∷ g) (k ∷ q) a b =
    let x = and_true (is_eq (name_cmp n m)) (is_front f g) a in
    let y = and_true (is_eq (name_cmp m k)) (is_front g q) b in
    and_both (is_eq (name_cmp n k)) (is_front f q) (ap (λ (r : NameText). is_eq (name_cmp r k)) (name_is n m x.0) ∙ y.0) (front_trans f g q x.1 y.1)

-- what begins with f comes after it, or is f
pub front_least : (f q : Path) → is_front f q ≡ true → is_lt (path_cmp f q) ≡ false → f ≡ q
unfolding is_front
front_least [] [] a b = refl
front_least [] (m ∷ q) a b = absurd cc
front_least (n ∷ f) [] a b = absurd cc
front_least (n ∷ f) (m ∷ q) a b =
    let x = and_true (is_eq (name_cmp n m)) (is_front f q) a in
    let rest = front_least f q x.1 (sym (ap (λ (o : Ordering). is_lt (ordering_then o (path_cmp f q))) (tie_is _ x.0)) ∙ b) in
    λ i. name_is n m x.0 i ∷ rest i

-- what lies between two paths that begin with f begins with f
pub front_between : (f a x y : Path) → is_front f a ≡ true → is_front f y ≡ true → path_cmp a x ≡ Less → path_cmp x y ≡ Less → is_front f x ≡ true
unfolding is_front
front_between [] a x y g h ax xy = refl
front_between (n ∷ f) [] x y g h ax xy = absurd cc
front_between (n ∷ f) (b ∷ a) x [] g h ax xy = absurd cc
front_between (n ∷ f) (b ∷ a) [] (c ∷ y) g h ax xy = absurd cc
front_between (n ∷ f) (b ∷ a) (m ∷ x) (c ∷ y) g h ax xy =
    let g' = and_true (is_eq (name_cmp n b)) (is_front f a) g in
    let h' = and_true (is_eq (name_cmp n c)) (is_front f y) h in
    let same : c ≡ b = sym (name_is n c h'.0) ∙ name_is n b g'.0 in
    elim (name_cmp b m) as (λ o. name_cmp b m ≡ o → ordering_then o (path_cmp a x) ≡ Less → (is_eq (name_cmp n m) && is_front f x) ≡ true) [
      | Less ↦ λ e l.
          let back : name_cmp m c ≡ Greater = ap (name_cmp m) same ∙ (name_cmp_total.antisymm m b ∙ ap ordering_reverse e) in
          absurd (cc (sym (ap (λ (o : Ordering). ordering_then o (path_cmp x y)) back) ∙ xy))
      | Equal ↦ λ e l.
          let here : b ≡ m = name_cmp-same b m e in
          let level : name_cmp m c ≡ Equal = ap (name_cmp m) (same ∙ here) ∙ tied_itself name_cmp_total m in
          and_both (is_eq (name_cmp n m)) (is_front f x) (ap (λ (k : NameText). is_eq (name_cmp n k)) (sym here) ∙ g'.0)
          (front_between f a x y g'.1 h'.1 l (sym (ap (λ (o : Ordering). ordering_then o (path_cmp x y)) level) ∙ xy))
      | Greater ↦ λ e l. absurd cc
    ] refl ax

same_path : (x y : Path) → (path_cmp x y ≡ Less → ⊥) → (path_cmp y x ≡ Less → ⊥) → x ≡ y
same_path x y nl ng = elim (path_cmp x y) as (λ o. path_cmp x y ≡ o → x ≡ y) [
  | Less ↦ λ e. absurd (nl e)
  | Equal ↦ λ e. path_cmp-same x y e
  | Greater ↦ λ e. absurd (ng (path_cmp_total.antisymm y x ∙ ap ordering_reverse e))
] refl

-- ---- a walk over what is below a path

abbrev pub Stands : Tree → Path → Type 0
Stands T q = IsTrue (stands T q)

-- up to the path `at`, which is below the top, what stands below the top is noted
pub record Walked (T : Tree) (top at : Path) (paths : List Path) : Type 0 where
  pub under : is_front top at ≡ true
  pub done : (q : Path) → Stands T q → is_front top q ≡ true → is_lt (path_cmp at q) ≡ false → IsTrue (is_in paths q)

pub walked-begins : (T : Tree) (top : Path) (paths : List Path) → IsTrue (is_in paths top) → Walked T top top paths
walked-begins T top paths f = record {
  under = front_itself top;
  done = λ q h front low. subst (λ (r : Path). IsTrue (is_in paths r)) (front_least top q front low) f;
}

pub walked-more : (T : Tree) (top at x : Path) (old new : List Path) → Walked T top at old → IsNext path_cmp (Stands T) (Some at) (Some x) → is_front top x ≡ true → IsWithin old new → IsTrue (is_in new x) → Walked T top x new
walked-more T top at x old new w next under stays one = record {
  under = under;
  done = λ q h front low. elim (is_lt (path_cmp at q)) as (λ b. is_lt (path_cmp at q) ≡ b → IsTrue (is_in new q)) [
    | true ↦ λ t. subst (λ (r : Path). IsTrue (is_in new r)) (same_path x q (λ less. not_both (is_lt (path_cmp x q)) (ap is_lt less) low) (next.2 q h t)) one
    | false ↦ λ t. stays q (w.done q h front t)
  ] refl;
}

pub walked-ends : (T : Tree) (top at : Path) (paths : List Path) → Walked T top at paths → IsNext path_cmp (IsUnder T top) (Some at) None → HasBelow T top paths
walked-ends T top at paths w none q h front = w.done q h front (test_false (is_lt (path_cmp at q)) (λ t. none q (h, front) t))

-- the next of what is below the top is the next of all
pub under-next : (T : Tree) (top at x : Path) → is_front top at ≡ true → IsNext path_cmp (IsUnder T top) (Some at) (Some x) → IsNext path_cmp (Stands T) (Some at) (Some x)
under-next T top at x under next = (next.0.0, next.1, λ q h f less. next.2 q (h, front_between top at q x under next.0.1 (less_is _ f) less) f less)

-- what comes next, told of an answer that was taken apart
pub came-under : (T : Tree) (top at : Path) (o p : Option Path) → o ≡ p → IsNext path_cmp (IsUnder T top) (Some at) o → IsNext path_cmp (IsUnder T top) (Some at) p
came-under T top at o p apart next = subst (λ (r : Option Path). IsNext path_cmp (IsUnder T top) (Some at) r) apart next

-- ---- parents

pub above-root : (top : Path) (paths : List Path) → length top ≡ 0 → HasAbove top paths
above-root top paths none q child = absurd (omega (arith, child_long q top child, none))

parent-is : (q top : Path) → is_child q top ≡ true → q ≡ take (length top - 1) top
parent-is q top child =
    let long : length q ≡ length top - 1 = omega (arith, child_long q top child) in
    sym (child_taken q top child) ∙ ap (λ (k : ℕ). take k top) long

pub above-one : (top parent : Path) (paths : List Path) → parent ≡ take (length top - 1) top → IsTrue (is_in paths parent) → HasAbove top paths
above-one top parent paths is f q child = subst (λ (r : Path). IsTrue (is_in paths r)) (is ∙ sym (parent-is q top child)) f

-- ---- what a round changes

pub near-none : (T : Tree) (tops paths : List Path) → HasNear T (take 0 tops) paths
near-none T tops paths q h is = absurd cc

either_four : (a b c d : Bool) → ((a || b) || (c || d)) ≡ true → ((a || c) ≡ true) ⊎ ((b ≡ true) ⊎ (d ≡ true))
either_four true b c d h = inl refl
either_four false true c d h = inr (inl refl)
either_four false false true d h = inl refl
either_four false false false d h = inr (inr h)

pub near-more : (T : Tree) (tops : List Path) (i : ℕ) (top : Path) (old mid new : List Path) → i < length tops → top ≡ get_or tops i top → HasNear T (take i tops) old
    → IsWithin old mid → HasAbove top mid → IsWithin mid new → HasBelow T top new → HasNear T (take (i + 1) tops) new
near-more T tops i top old mid new lt is was stays above on below q h near =
    let under : is_under (take (i + 1) tops) q ≡ (is_under (take i tops) q || is_front top q) = list_any_more (λ (p : Path). is_front p q) tops i top lt ∙ ap (λ (p : Path). is_under (take i tops) q || is_front p q) (sym is) in
    let child : list_any (λ p. is_child q p) (take (i + 1) tops) ≡ (list_any (λ p. is_child q p) (take i tops) || is_child q top) = list_any_more (λ (p : Path). is_child q p) tops i top lt ∙ ap (λ (p : Path). list_any (λ r. is_child q r) (take i tops) || is_child q p) (sym is) in
    elim (either_four (is_under (take i tops) q) (is_front top q) (list_any (λ p. is_child q p) (take i tops)) (is_child q top) ((λ j. sym under j || sym child j) ∙ near)) as (λ _. IsTrue (is_in new q)) [
      | inl earlier ↦ on q (stays q (was q h earlier))
      | inr here ↦ elim here as (λ _. IsTrue (is_in new q)) [
        | inl front ↦ below q h front
        | inr parent ↦ on q (above q parent)
      ]
    ]

-- ---- who watches that

pub asks-none : (of : Path → List Path) (paths : List Path) → Asks of [] paths
asks-none of paths q h = absurd cc

pub asks-more : (of : Path → List Path) (done : List Path) (x : Path) (old new : List Path) → Asks of done old → IsWithin old new → IsWithin (of x) new → Asks of (done ++ x ∷ []) new
asks-more of done x old new was stays one q h p in' = elim (in_append done (x ∷ []) q h) as (λ _. IsTrue (is_in new p)) [
  | inl earlier ↦ stays p (was q earlier p in')
  | inr here ↦ elim (in_cons x [] q here) as (λ _. IsTrue (is_in new p)) [
    | inl same ↦ one p (subst (λ (r : Path). IsTrue (is_in (of r) p)) same in')
    | inr none ↦ absurd cc
  ]
]

pub asks-all : (of : Path → List Path) (done all paths : List Path) → done ++ [] ≡ all → Asks of done paths → Asks of all paths
asks-all of done all paths e was = subst (λ (ps : List Path). Asks of ps paths) (sym (append-nil done) ∙ e) was

pub added-one : (x : Path) (old new : List Path) → ((q : Path) → is_in new q ≡ (is_eq (path_cmp x q) || is_in old q)) → IsTrue (is_in new x)
added-one x old new f = f x ∙ or_left (is_eq (path_cmp x x)) (is_in old x) (tie x x refl)

pub added-stays : (x : Path) (old new : List Path) → ((q : Path) → is_in new q ≡ (is_eq (path_cmp x q) || is_in old q)) → IsWithin old new
added-stays x old new f q h = f q ∙ or_right (is_eq (path_cmp x q)) (is_in old q) h

-- ---- the candidates that fail

-- the same nodes are below these paths and below those that fail among the candidates so far
abbrev pub FailsSoFar : Tree → List Path → List Path → Type 0
FailsSoFar T done tops = SameBelow tops (tested T done)

under_two : (xs ys : List Path) (q : Path) → is_under (xs ++ ys) q ≡ (is_under xs q || is_under ys q)
under_two xs ys q = list_any-append (λ (p : Path). is_front p q) xs ys

tested-more : (T : Tree) (done : List Path) (x : Path) (b : Bool) → fails_at T x ≡ b → tested T (done ++ x ∷ []) ≡ tested T done ++ cond b (x ∷ []) []
tested-more T done x b low = filter-append (fails_at T) done (x ∷ []) ∙ ap (λ (c : Bool). tested T done ++ cond c (x ∷ []) []) low

pub split-more : (done left : List Path) (x : Path) (rest all : List Path) → done ++ left ≡ all → left ≡ x ∷ rest → (done ++ x ∷ []) ++ rest ≡ all
split-more done left x rest all e is = append_assoc done (x ∷ []) rest ∙ (ap (λ (ps : List Path). done ++ ps) (sym is) ∙ e)

pub tops-none : (T : Tree) → FailsSoFar T [] []
tops-none T q = refl

pub tops-skip : (T : Tree) (done : List Path) (x : Path) (tops : List Path) → fails_at T x ≡ false → FailsSoFar T done tops → FailsSoFar T (done ++ x ∷ []) tops
tops-skip T done x tops low was q =
    was q ∙ (sym (or_none (is_under (tested T done) q)) ∙ sym (ap (λ (ps : List Path). is_under ps q) (tested-more T done x false low) ∙ under_two (tested T done) [] q))
  where
    or_none : (b : Bool) → (b || false) ≡ b
    or_none true = refl
    or_none false = refl

pub tops-push : (T : Tree) (done : List Path) (x : Path) (tops : List Path) → fails_at T x ≡ true → FailsSoFar T done tops → FailsSoFar T (done ++ x ∷ []) (tops ++ x ∷ [])
tops-push T done x tops low was q =
    under_two tops (x ∷ []) q
    ∙ (ap (λ (b : Bool). b || is_under (x ∷ []) q) (was q)
    ∙ sym (ap (λ (ps : List Path). is_under ps q) (tested-more T done x true low) ∙ under_two (tested T done) (x ∷ []) q))

pub tops-cover : (T : Tree) (done : List Path) (x : Path) (tops : List Path) → fails_at T x ≡ true → IsTrue (is_under tops x) → FailsSoFar T done tops → FailsSoFar T (done ++ x ∷ []) tops
tops-cover T done x tops low cover was q =
    sym (covered (is_under tops q) (is_under (x ∷ []) q) (λ h.
    let a = under_from tops x cover in
    under_in tops a.path q a.listed (front_trans a.path x q a.front (below_x q h))))
    ∙ (sym (under_two tops (x ∷ []) q) ∙ tops-push T done x tops low was q)
  where
    covered : (a b : Bool) → (b ≡ true → a ≡ true) → (a || b) ≡ a
    covered true b f = refl
    covered false true f = sym (f refl)
    covered false false f = refl

    below_x : (r : Path) → is_under (x ∷ []) r ≡ true → is_front x r ≡ true
    below_x r h = elim (or_either (is_front x r) false h) as (λ _. is_front x r ≡ true) [
      | inl a ↦ a
      | inr b ↦ absurd cc
    ]

-- ---- what tests cost

length_two : (xs ys : List Path) → length (xs ++ ys) ≡ length xs + length ys
length_two [] ys = omega arith
length_two (x ∷ xs) ys = omega (arith, length_two xs ys)

pub test-cost : (done : List Path) (x : Path) (old now new : ℕ) → now ≤ old + (1 + MAX_WATCHES) * length done → new ≤ now + 1 + MAX_WATCHES → new ≤ old + (1 + MAX_WATCHES) * length (done ++ x ∷ [])
test-cost done x old now new was one = omega (arith, was, one, length_two done (x ∷ []))

pub tests-cost : (done left all : List Path) (old new : ℕ) → done ++ left ≡ all → new ≤ old + (1 + MAX_WATCHES) * length done → new ≤ old + (1 + MAX_WATCHES) * length all
tests-cost done left all old new is was = omega (arith, was, length_two done left, ap length is)

-- ---- the next round

-- what may be left out before a round and what goes in it may be left out after it
pub out-next : (touched : List Path) (T U : Tree) (tops old new : List Path) → AreOut touched T old → GoesUnder tops old new → U ≡ drop T tops → AreOut touched U new
out-next touched T U tops old new was goes is p h off =
    ap (λ (V : Tree). stands V p) is
    ∙ (stands-left T tops p
    ∙ elim (is_under tops p) as (λ b. is_under tops p ≡ b → cond b false (stands T p) ≡ false) [
      | true ↦ λ under. refl
      | false ↦ λ apart. was p (elim (or_either (is_in old p) (is_under tops p) (goes p h)) as (λ _. IsTrue (is_in old p)) [
        | inl a ↦ a
        | inr b ↦ absurd (not_both (is_under tops p) b apart)
      ]) off
    ] refl)

-- of those that watch, a node that stands is asked for
pub asked-on : (touched left gone : List Path) (U : Tree) (of written : Path → List Path) (q p : Path) → AreOut touched U left → AreOut [] U gone → IsTrue (stands U p) → IsTrue (is_in (both touched of written q) p) → IsTrue (is_in (asked left gone of written q) p)
asked-on touched left gone U of written q p out away there h = elim (in_append (without touched (of q)) (written q) p h) as (λ _. IsTrue (is_in (asked left gone of written q) p)) [
  | inl a ↦
      let off : is_in touched p ≡ false = not_not (is_in touched p) (passes_filter (λ r. not (is_in touched r)) (of q) p a) in
      let kept : is_in left p ≡ false = test_false (is_in left p) (λ on. not_both (stands U p) there (out p on off)) in
      in_left (without left (of q)) (without gone (written q)) p (in_filter (λ r. not (is_in left r)) (of q) p (ap not kept) (in_filtered (λ r. not (is_in touched r)) (of q) p a))
  | inr b ↦
      let kept : is_in gone p ≡ false = test_false (is_in gone p) (λ on. not_both (stands U p) there (away p on refl)) in
      in_right (without left (of q)) (without gone (written q)) p (in_filter (λ r. not (is_in gone r)) (written q) p (ap not kept) b)
]
  where
    not_not : (b : Bool) → not b ≡ true → b ≡ false
    not_not true e = absurd cc
    not_not false e = refl

pub fails-stands : (T : Tree) (p : Path) → IsTrue (fails_at T p) → IsTrue (stands T p)
fails-stands T p h = let f = fails-from T p h in ap is_some f.is

-- what is gathered in a round is enough after it
pub gathered-enough : (T U : Tree) (touched left gone : List Path) (of written : Path → List Path) (candidates tops changed paths : List Path) → ListsAll T (both touched of written) → IsEnough T candidates → SameBelow tops (tested T candidates) → HasNear T tops changed
    → AreOut touched U left → AreOut [] U gone → Asks (asked left gone of written) changed paths → U ≡ drop T tops → IsEnough U paths × ListsAll U (both touched of written)
gathered-enough T U touched left gone of written candidates tops changed paths lists all below has out away asks is =
    let drops : DropsFailing T tops = λ p h. below p ∙ (tested-below T candidates all p ∙ enough-drops T (failing T) (failing-in T) p h) in
    let enough : IsEnough U (flat_map (both touched of written) (changed_paths T tops)) = subst (λ (V : Tree). IsEnough V (flat_map (both touched of written) (changed_paths T tops))) (sym is) (next-enough T (both touched of written) tops lists drops) in (
      λ p h.
          let f = from_flat (both touched of written) (changed_paths T tops) p (enough p h) in
          let n = near T tops f.0 f.1 in
          asks f.0 (has f.0 n.0 n.1) p (asked-on touched left gone U of written f.0 p out away (fails-stands U p h) f.2),
      subst (λ (V : Tree). ListsAll V (both touched of written)) (sym is) (lists-drop T (both touched of written) tops lists),
    )

-- ---- the first round

-- a child of q among the touched paths came or went
abbrev differ : Bool → Bool → Bool
differ true b = not b
differ false b = b

differ-not : (a b : Bool) → differ a b ≡ false → a ≡ b
differ-not true true h = refl
differ-not true false h = absurd cc
differ-not false true h = absurd cc
differ-not false false h = refl

differ-apart : (a b : Bool) → differ a b ≡ true → a ≡ b → ⊥
differ-apart true true h e = cc
differ-apart true false h e = cc
differ-apart false true h e = cc
differ-apart false false h e = cc

abbrev moved : Tree → Tree → Path → Path → Bool
moved B D q p = is_child q p && differ (stands B p) (stands D p)

any_at : (test : Path → Bool) (paths : List Path) → list_any test paths ≡ true → (p : Path) × IsTrue (is_in paths p) × (test p ≡ true)
any_at test [] h = absurd cc
any_at test (r ∷ paths) h = elim (or_either (test r) (list_any test paths) h) as (λ _. (p : Path) × IsTrue (is_in (r ∷ paths) p) × (test p ≡ true)) [
  | inl here ↦ (r, in_here r paths, here)
  | inr later ↦ let a = any_at test paths later in (a.0, in_later r paths a.0 a.1, a.2)
]

any_none : (test : Path → Bool) (paths : List Path) (p : Path) → list_any test paths ≡ false → IsTrue (is_in paths p) → test p ≡ false
any_none test [] p none h = absurd cc
any_none test (r ∷ paths) p none h =
    let both = or_false (test r) (list_any test paths) none in
    elim (in_cons r paths p h) as (λ _. test p ≡ false) [
      | inl here ↦ ap test here ∙ both.0
      | inr later ↦ any_none test paths p both.1 later
    ]

and_first : (a b : Bool) → (a && b) ≡ false → a ≡ true → b ≡ false
and_first true b h g = h
and_first false b h g = absurd cc

unmoved : (B D : Tree) (q c : Path) → IsTrue (is_child q c) → moved B D q c ≡ false → stands B c ≡ stands D c
unmoved B D q c child low = differ-not (stands B c) (stands D c) (and_first (is_child q c) (differ (stands B c) (stands D c)) low child)

-- where something else is seen, a touched path was looked at, or a child of it that came or went
pub anew-looked : (B D : Tree) (touched : List Path) (P : Path → Type 0) → SameBut touched B D → ((q : Path) → IsTrue (is_in touched q) → (seen_at B q ≡ seen_at D q → ⊥) → P q)
    → ((q r : Path) → IsTrue (is_in touched q) → IsTrue (is_child r q) → (stands B q ≡ stands D q → ⊥) → (seen_at B r ≡ seen_at D r → ⊥) → P r) → (q : Path) → (seen_at B q ≡ seen_at D q → ⊥) → P q
anew-looked B D touched P same itself above q anew = elim (is_in touched q) as (λ b. is_in touched q ≡ b → P q) [
  | true ↦ λ on. itself q on anew
  | false ↦ λ off. elim (list_any (moved B D q) touched) as (λ b. list_any (moved B D q) touched ≡ b → P q) [
    | true ↦ λ some. by_child (any_at (moved B D q) touched some)
    | false ↦ λ none. absurd (anew (seen-but B D touched q same off (λ r on child. unmoved B D q r child (any_none (moved B D q) touched r none on))))
  ] refl
] refl
  where
    by_child : ((c : Path) × IsTrue (is_in touched c) × (moved B D q c ≡ true)) → P q
    by_child c =
        let m = and_true (is_child q c.0) (differ (stands B c.0) (stands D c.0)) c.2 in
        above c.0 q c.1 m.0 (differ-apart (stands B c.0) (stands D c.0) m.1) anew

-- an untouched node that fails watches a path at which something else is seen
pub untouched-culprit : (B D : Tree) (of : Path → List Path) (touched : List Path) (p : Path) → IsTrue (stable B) → ListsAll B of → SameBut touched B D → is_in touched p ≡ false → IsTrue (fails_at D p) → (q : Path) × IsTrue (is_in (of q) p) × (seen_at B q ≡ seen_at D q → ⊥)
untouched-culprit B D of touched p firm lists same off h =
    let f = fails-from D p h in
    let stood : get B p ≡ Some f.node = same p off ∙ f.is in
    let c = culprit B D p f.node (record { old = f.node; stood = stood; watches = refl; met = steady B firm p f.node stood }) f.has in
    (c.0.target, lists p c.0.target c.1, c.2)

-- where the first round looks at each touched path, it tests enough, and both indexes together list all who watch
pub looked-enough : (B D : Tree) (of written : Path → List Path) (touched tests changed left gone paths : List Path) → IsTrue (stable B) → ListsAll B of → SameBut touched B D → ((q : Path) → IsTrue (is_in touched q) → LooksAt B D written tests changed q)
    → IsWithin tests paths → AreOut touched D left → AreOut [] D gone → Asks (asked left gone of written) changed paths → IsEnough D paths × ListsAll D (both touched of written)
looked-enough B D of written touched tests changed left gone paths firm lists same looks stays out away asks = (enough, all)
  where
    -- where something else is seen, it is noted
    noted : (q : Path) → (seen_at B q ≡ seen_at D q → ⊥) → IsTrue (is_in changed q)
    noted = anew-looked B D touched (λ q. IsTrue (is_in changed q)) same (λ q on. (looks q on).anew) (λ q r on. (looks q on).above r)

    untouched : (q p : Path) → is_in touched p ≡ false → IsTrue (is_in (of q) p) → IsTrue (is_in (both touched of written q) p)
    untouched q p off h = in_left (without touched (of q)) (written q) p (in_filter (λ r. not (is_in touched r)) (of q) p (ap not off) h)

    enough : IsEnough D paths
    enough p h = elim (is_in touched p) as (λ b. is_in touched p ≡ b → IsTrue (is_in paths p)) [
      | true ↦ λ on. stays p (looks p on).itself
      | false ↦ λ off.
          let c = untouched-culprit B D of touched p firm lists same off h in
          asks c.0 (noted c.0 c.2) p (asked-on touched left gone D of written c.0 p out away (fails-stands D p h) (untouched c.0 p off c.1))
    ] refl

    all : ListsAll D (both touched of written)
    all p q h = elim (is_in touched p) as (λ b. is_in touched p ≡ b → IsTrue (is_in (both touched of written q) p)) [
      | true ↦ λ on. in_right (without touched (of q)) (written q) p ((looks p on).linked q h)
      | false ↦ λ off. untouched q p off (lists p q (ap (λ (o : Option Node). aims_node o q) (same p off) ∙ h))
    ] refl

-- where each touched path passes, and no node fails that watches a path above them, no node fails
pub passed-enough : (B D : Tree) (of : Path → List Path) (touched above : List Path) → IsTrue (stable B) → ListsAll B of → SameBut touched B D → ((q : Path) → IsTrue (is_in touched q) → Passes B D of above q)
    → ((q : Path) → IsTrue (is_in above q) → NoneFails D (of q)) → IsEnough D []
passed-enough B D of touched above firm lists same passes up p h = absurd (elim (is_in touched p) as (λ b. is_in touched p ≡ b → ⊥) [
  | true ↦ λ on. not_both (fails_at D p) h (passes p on).itself
  | false ↦ λ off.
      let c = untouched-culprit B D of touched p firm lists same off h in
      not_both (fails_at D p) h (anew-looked B D touched (λ q. NoneFails D (of q)) same (λ q on. (passes q on).anew) (λ q r on child moved anew. elim ((passes q on).above r child moved anew) as (λ _. NoneFails D (of r)) [
        | inl noted ↦ up r noted
        | inr fine ↦ fine
      ]) c.0 c.2 p c.1)
] refl)
