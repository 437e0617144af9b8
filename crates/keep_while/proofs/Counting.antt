-- How many paths there are, and what a walk over them costs.
use Rattle.std.proofs.Common.{◌≡◌, ◌⊎◌, inl, inr, ℕ, suc, ◌+◌, ◌<◌, ◌≤◌, Bool, true, false, cond, not, ◌&&◌, ◌||◌, List, [], ◌∷◌, length, refl, sym, ap, ◌∙◌, arith, Some, Less}
use Rattle.std.specs.Prelude.{IsTrue, is_some}
use Rattle.std.specs.List.{filter, AllByRecursion}
use Rattle.std.specs.List.Sorted.{IsStrictlySortedBy}
use Rattle.std.specs.Ordering.{is_eq, is_lt, eq_by_cmp}
use Rattle.std.specs.Cmp.{tied_itself}
use Rattle.std.specs.FinMap.{entries, find, get-entries}
use Rattle.std.proofs.lemmas.List.Sums.{length-filter, count_by-le-length, sum_by-cons}
use Rattle.std.proofs.lemmas.Map.Keys.{sorted_head, sorted_tail}
use Rattle.khepri_terms.specs.Terms.{NameText}
use Rattle.khepri_terms.specs.Order.{name_cmp, path_cmp}
use Rattle.khepri_terms.proofs.Cases.{and_true}
use Rattle.khepri_types.specs.Paths.{is_front, is_under}
use Rattle.khepri_types.specs.Tree.{Tree, stands}
use Rattle.khepri_types.proofs.Fronts.{front_itself}
use Rattle.khepri_types.proofs.Order.{name_cmp_total, name_cmp-same, path_cmp_total}
use Rattle.khepri_types.proofs.Trees.{tie_is}
use Rattle.tree_nodes.specs.Next.{follows}
use Rattle.worklist_laws.specs.Candidates.{is_in, IsWithin}
use Rattle.worklist_laws.proofs.Among.{Path, Entry, and_both, in_filter, in_here, in_later, in_cons, not_both, test_false, tie, tied, under_from}
use Rattle.keep_while.specs.Costs.{AreApart, below, walks}

-- ---- distinct paths among others

pub above_all : (x : Path) (xs : List Path) → AllByRecursion (λ y. path_cmp x y ≡ Less) xs → (q : Path) → IsTrue (is_in xs q) → path_cmp x q ≡ Less
above_all x [] all q h = absurd cc
above_all x (y ∷ xs) all q h = elim (in_cons y xs q h) as (λ _. path_cmp x q ≡ Less) [
  | inl here ↦ ap (path_cmp x) here ∙ all.0
  | inr later ↦ above_all x xs all.1 q later
]

less_apart : (x q : Path) → path_cmp x q ≡ Less → is_eq (path_cmp q x) ≡ false
less_apart x q less = test_false (is_eq (path_cmp q x)) (λ h. cc (sym less ∙ (ap (path_cmp x) (tied q x h) ∙ tied_itself path_cmp_total x)))

fewer_or_same : (K : Path → Bool) (ys : List Path) → length (filter K ys) ≤ length ys
fewer_or_same K ys = omega (arith, length-filter K ys, count_by-le-length K ys)

fewer : (x : Path) (ys : List Path) → IsTrue (is_in ys x) → length (filter (λ r. not (is_eq (path_cmp r x))) ys) < length ys
fewer x [] h = absurd cc
fewer x (y ∷ ys) h =
    let K : Path → Bool = λ r. not (is_eq (path_cmp r x)) in
    elim (is_eq (path_cmp y x)) as (λ b. is_eq (path_cmp y x) ≡ b → length (cond (not b) (y ∷ filter K ys) (filter K ys)) < suc (length ys)) [
      | true ↦ λ t. omega (arith, fewer_or_same K ys)
      | false ↦ λ t. elim (in_cons y ys x h) as (λ _. suc (length (filter K ys)) < suc (length ys)) [
        | inl here ↦ absurd (not_both (is_eq (path_cmp y x)) (tie y x (sym here)) t)
        | inr later ↦ omega (arith, fewer x ys later)
      ]
    ] refl

-- paths that rise are no more than those that they are among
pub no_more : (xs ys : List Path) → IsStrictlySortedBy path_cmp xs → IsWithin xs ys → length xs ≤ length ys
no_more [] ys rising within = omega arith
no_more (x ∷ xs) ys rising within =
    let K : Path → Bool = λ r. not (is_eq (path_cmp r x)) in
    let all = sorted_head path_cmp x xs rising in
    let rest = no_more xs (filter K ys) (sorted_tail path_cmp x xs rising) (λ q h. in_filter K ys q (ap not (less_apart x q (above_all x xs all q h))) (within q (in_later x xs q h))) in
    omega (arith, rest, fewer x ys (within x (in_here x xs)))

-- ---- nodes below paths

abbrev some_of : (Path → Bool) → List Entry → ℕ
some_of f es = length (filter (λ e. f e.0) es)

some_less : (f g : Path → Bool) (es : List Entry) → some_of f (filter (λ e. g e.0) es) ≤ some_of f es
some_less f g [] = omega arith
some_less f g (e ∷ es) =
    let rest = some_less f g es in
    let F : Entry → Bool = λ x. f x.0 in
    let G : Entry → Bool = λ x. g x.0 in
    elim (g e.0) as (λ b. length (filter F (cond b (e ∷ filter G es) (filter G es))) ≤ length (filter F (e ∷ es))) [
      | true ↦ elim (f e.0) as (λ b. length (cond b (e ∷ filter F (filter G es)) (filter F (filter G es))) ≤ length (cond b (e ∷ filter F es) (filter F es))) [ true ↦ omega (arith, rest) | false ↦ omega (arith, rest) ]
      | false ↦ elim (f e.0) as (λ b. length (filter F (filter G es)) ≤ length (cond b (e ∷ filter F es) (filter F es))) [ true ↦ omega (arith, rest) | false ↦ omega (arith, rest) ]
    ]

-- one of them passes one test and not the other
one_less : (f g : Path → Bool) (p : Path) (es : List Entry) → IsTrue (is_some (find path_cmp p es)) → f p ≡ true → g p ≡ false → some_of f (filter (λ e. g e.0) es) < some_of f es
one_less f g p [] h high low = absurd cc
one_less f g p (e ∷ es) h high low =
    let F : Entry → Bool = λ x. f x.0 in
    let G : Entry → Bool = λ x. g x.0 in
    elim (eq_by_cmp path_cmp p e.0) as (λ b. eq_by_cmp path_cmp p e.0 ≡ b → IsTrue (is_some (cond b (Some e.1) (find path_cmp p es))) → length (filter F (filter G (e ∷ es))) < length (filter F (e ∷ es))) [
      | true ↦ λ t _.
          let same : p ≡ e.0 = tied p e.0 t in
          let off : g e.0 ≡ false = ap g (sym same) ∙ low in
          let on : f e.0 ≡ true = ap f (sym same) ∙ high in
          omega (arith, ap (λ (b : Bool). length (filter F (cond b (e ∷ filter G es) (filter G es)))) off, ap (λ (b : Bool). length (cond b (e ∷ filter F es) (filter F es))) on, some_less f g es)
      | false ↦ λ t later.
          let rest = one_less f g p es later high low in
          elim (g e.0) as (λ b. length (filter F (cond b (e ∷ filter G es) (filter G es))) < length (filter F (e ∷ es))) [
            | true ↦ elim (f e.0) as (λ b. length (cond b (e ∷ filter F (filter G es)) (filter F (filter G es))) < length (cond b (e ∷ filter F es) (filter F es))) [ true ↦ omega (arith, rest) | false ↦ omega (arith, rest) ]
            | false ↦ elim (f e.0) as (λ b. length (filter F (filter G es)) < length (cond b (e ∷ filter F es) (filter F es))) [ true ↦ omega (arith, rest) | false ↦ omega (arith, rest) ]
          ]
    ] refl h

not_after : (x : Path) → follows path_cmp (Some x) x ≡ false
not_after x = ap is_lt (tied_itself path_cmp_total x)

-- what stands below a path, and the path itself
walk_below : (T : Tree) (top : Path) → IsTrue (stands T top) → 1 + below T top ≤ some_of (is_front top) (entries T)
walk_below T top h = omega (arith, one_less (is_front top) (follows path_cmp (Some top)) top (entries T) (sym (ap is_some (get-entries T top)) ∙ h) (front_itself top) (not_after top))

name_is : (n m : NameText) → is_eq (name_cmp n m) ≡ true → n ≡ m
name_is n m h = name_cmp-same n m (tie_is _ h)

name_tie : (n m : NameText) → n ≡ m → is_eq (name_cmp n m) ≡ true
name_tie n m e = ap (λ (k : NameText). is_eq (name_cmp k m)) e ∙ ap is_eq (tied_itself name_cmp_total m)

-- of two fronts of one path, one is a front of the other
fronts_meet : (f g q : Path) → is_front f q ≡ true → is_front g q ≡ true → (is_front f g ≡ true) ⊎ (is_front g f ≡ true)
unfolding is_front
fronts_meet [] g q a b = inl refl
fronts_meet (n ∷ f) [] q a b = inr refl
fronts_meet (n ∷ f) (m ∷ g) [] a b = absurd cc
fronts_meet (n ∷ f) (m ∷ g) (k ∷ q) a b =
    let x = and_true (is_eq (name_cmp n k)) (is_front f q) a in
    let y = and_true (is_eq (name_cmp m k)) (is_front g q) b in
    let same : n ≡ m = name_is n k x.0 ∙ sym (name_is m k y.0) in
    elim (fronts_meet f g q x.1 y.1) as (λ _. ((is_eq (name_cmp n m) && is_front f g) ≡ true) ⊎ ((is_eq (name_cmp m n) && is_front g f) ≡ true)) [
      | inl h ↦ inl (and_both (is_eq (name_cmp n m)) (is_front f g) (name_tie n m same) h)
      | inr h ↦ inr (and_both (is_eq (name_cmp m n)) (is_front g f) (name_tie m n (sym same)) h)
    ]

-- tests that never pass together are counted one beside the other
beside : (f g : Path → Bool) (es : List Entry) → ((q : Path) → f q ≡ true → g q ≡ true → ⊥) → some_of f es + some_of g es ≤ some_of (λ q. f q || g q) es
beside f g [] never = omega arith
beside f g (e ∷ es) never =
    let rest = beside f g es never in
    let F : Entry → Bool = λ x. f x.0 in
    let G : Entry → Bool = λ x. g x.0 in
    let H : Entry → Bool = λ x. f x.0 || g x.0 in
    elim (f e.0) as (λ b. f e.0 ≡ b → length (cond b (e ∷ filter F es) (filter F es)) + length (filter G (e ∷ es)) ≤ length (cond (b || g e.0) (e ∷ filter H es) (filter H es))) [
      | true ↦ λ t. elim (g e.0) as (λ b. g e.0 ≡ b → suc (length (filter F es)) + length (cond b (e ∷ filter G es) (filter G es)) ≤ suc (length (filter H es))) [
        | true ↦ λ u. absurd (never e.0 t u)
        | false ↦ λ u. omega (arith, rest)
      ] refl
      | false ↦ λ t. elim (g e.0) as (λ b. length (filter F es) + length (cond b (e ∷ filter G es) (filter G es)) ≤ length (cond b (e ∷ filter H es) (filter H es))) [ true ↦ omega (arith, rest) | false ↦ omega (arith, rest) ]
    ] refl

-- ---- walks over what is below paths

pub apart-less : (t : Path) (tops : List Path) → AreApart (t ∷ tops) → AreApart tops
apart-less t tops apart p q hp hq front = apart p q (in_later t tops p hp) (in_later t tops q hq) front

-- the walks below paths of which none is below another go over no node twice
pub walks-below : (T : Tree) (tops : List Path) → IsStrictlySortedBy path_cmp tops → AreApart tops → ((p : Path) → IsTrue (is_in tops p) → IsTrue (stands T p)) → walks T tops ≤ length (filter (λ e. is_under tops e.0) (entries T))
walks-below T [] rising apart all = omega arith
walks-below T (t ∷ tops) rising apart all =
    let rest = walks-below T tops (sorted_tail path_cmp t tops rising) (apart-less t tops apart) (λ p h. all p (in_later t tops p h)) in
    let here = walk_below T t (all t (in_here t tops)) in
    let never : (q : Path) → is_front t q ≡ true → is_under tops q ≡ true → ⊥ = λ q front under.
    let a = under_from tops q under in
    let less : path_cmp t a.path ≡ Less = above_all t tops (sorted_head path_cmp t tops rising) a.path a.listed in
    let same : t ≡ a.path = elim (fronts_meet t a.path q front a.front) as (λ _. t ≡ a.path) [
      | inl h ↦ apart t a.path (in_here t tops) (in_later t tops a.path a.listed) h
      | inr h ↦ sym (apart a.path t (in_later t tops a.path a.listed) (in_here t tops) h)
    ] in
    cc (sym less ∙ (ap (path_cmp t) (sym same) ∙ tied_itself path_cmp_total t)) in
    omega (arith, rest, here, beside (is_front t) (is_under tops) (entries T) never, sum_by-cons (λ (p : Path). 1 + below T p) t tops)

-- as many walks as paths
pub walks-length : (T : Tree) (tops : List Path) → length tops ≤ walks T tops
walks-length T [] = omega arith
walks-length T (t ∷ tops) = omega (arith, walks-length T tops, sum_by-cons (λ (p : Path). 1 + below T p) t tops)
