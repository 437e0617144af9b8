-- What is noted, and nothing else.
use Rattle.std.proofs.Common.{◌≡◌, ◌⊎◌, inl, inr, ℕ, ◌+◌, ◌<◌, Bool, true, false, cond, not, ◌||◌, List, [], ◌∷◌, ◌++◌, length, take, get_or, refl, sym, ap, subst, ◌∙◌, arith, Some}
use Rattle.std.specs.Prelude.{IsTrue}
use Rattle.std.specs.List.{filter, list_any, flat_map}
use Rattle.std.specs.Ordering.{is_eq}
use Rattle.std.proofs.Math.Seq.{take-length}
use Rattle.std.proofs.lemmas.List.{append-nil}
use Rattle.std.proofs.lemmas.List.Elements.{filter_more}
use Rattle.std.proofs.lemmas.List.Folds.{list_any_more}
use Rattle.std.proofs.lemmas.List.Sums.{sum_by_more}
use Rattle.khepri_terms.specs.Order.{path_cmp}
use Rattle.khepri_types.specs.Paths.{is_child, is_front, is_under}
use Rattle.khepri_types.specs.Tree.{Tree, IsTree, stands}
use Rattle.khepri_types.proofs.Fronts.{front_itself, child_taken, child_long}
use Rattle.tree_nodes.specs.Next.{IsNext}
use Rattle.tree_nodes.proofs.Walking.{Stands, ahead, walk-goes_on}
use Rattle.worklist_laws.specs.Candidates.{is_in, IsWithin}
use Rattle.worklist_laws.specs.Changes.{is_near}
use Rattle.worklist_laws.proofs.Among.{Path, Entry, from_flat, in_append, in_filter, in_flat, in_here, in_left, in_right, or_either, or_left, or_right, tie, tied}
use Rattle.worklist_laws.proofs.Changing.{near-changed}
use Rattle.keep_while.specs.Costs.{below, KeepsBelow, KeepsUnder, OnlyAbove, OnlyAsks, OnlyBelow, OnlyNear, walks}
use Rattle.keep_while.specs.Gathering.{without}
use Rattle.keep_while.proofs.Gathering.{within-on}

-- ---- one path, and several

pub only-none : (left old : List Path) (x : Path) → IsWithin old (old ++ without left (x ∷ []))
only-none left old x q h = in_left old (without left (x ∷ [])) q h

pub only-one : (left old new : List Path) (x : Path) → is_in left x ≡ false → ((q : Path) → is_in new q ≡ (is_eq (path_cmp x q) || is_in old q)) → IsWithin new (old ++ without left (x ∷ []))
only-one left old new x off one q h = elim (or_either (is_eq (path_cmp x q)) (is_in old q) (sym (one q) ∙ h)) as (λ _. IsTrue (is_in (old ++ without left (x ∷ [])) q)) [
  | inl here ↦
      let same : x ≡ q = tied x q here in
      in_right old (without left (x ∷ [])) q (in_filter (λ r. not (is_in left r)) (x ∷ []) q (ap (λ (r : Path). not (is_in left r)) (sym same) ∙ ap not off) (or_left (is_eq (path_cmp q x)) false (tie q x (sym same))))
  | inr earlier ↦ in_left old (without left (x ∷ [])) q earlier
]

pub only-begins : (left paths old : List Path) → IsWithin old (old ++ without left (take 0 paths))
only-begins left paths old q h = in_left old (without left (take 0 paths)) q h

pub only-more : (left paths : List Path) (i : ℕ) (x : Path) (old now new : List Path) → i < length paths → x ≡ get_or paths i x → IsWithin now (old ++ without left (take i paths)) → IsWithin new (now ++ without left (x ∷ [])) → IsWithin new (old ++ without left (take (i + 1) paths))
only-more left paths i x old now new lt is was one q h =
    let K : Path → Bool = λ p. not (is_in left p) in
    let some = without left (take i paths) in
    let all : without left (take (i + 1) paths) ≡ some ++ cond (K x) (x ∷ []) [] =
    filter_more K paths i x lt ∙ ap (λ (y : Path). some ++ cond (K y) (y ∷ []) []) (sym is) in
    subst (λ (ps : List Path). IsTrue (is_in (old ++ ps) q)) (sym all) (elim (in_append now (without left (x ∷ [])) q (one q h)) as (λ _. IsTrue (is_in (old ++ (some ++ without left (x ∷ []))) q)) [
      | inl earlier ↦ elim (in_append old some q (was q earlier)) as (λ _. IsTrue (is_in (old ++ (some ++ without left (x ∷ []))) q)) [
        | inl a ↦ in_left old (some ++ without left (x ∷ [])) q a
        | inr b ↦ in_right old (some ++ without left (x ∷ [])) q (in_left some (without left (x ∷ [])) q b)
      ]
      | inr here ↦ in_right old (some ++ without left (x ∷ [])) q (in_right some (without left (x ∷ [])) q here)
    ])

pub only-both : (old mid new xs ys : List Path) → IsWithin mid (old ++ xs) → IsWithin new (mid ++ ys) → IsWithin new (old ++ (xs ++ ys))
only-both old mid new xs ys f g q h = elim (in_append mid ys q (g q h)) as (λ _. IsTrue (is_in (old ++ (xs ++ ys)) q)) [
  | inl a ↦ elim (in_append old xs q (f q a)) as (λ _. IsTrue (is_in (old ++ (xs ++ ys)) q)) [
    | inl c ↦ in_left old (xs ++ ys) q c
    | inr d ↦ in_right old (xs ++ ys) q (in_left xs ys q d)
  ]
  | inr b ↦ in_right old (xs ++ ys) q (in_right xs ys q b)
]

-- ---- who is asked

pub asked-none : (of : Path → List Path) (old : List Path) → OnlyAsks of [] old old
asked-none of old q h = in_left old [] q h

pub asked-more : (of : Path → List Path) (done : List Path) (x : Path) (old now new : List Path) → OnlyAsks of done old now → IsWithin new (now ++ of x) → OnlyAsks of (done ++ x ∷ []) old new
asked-more of done x old now new was one q h =
    let all = done ++ x ∷ [] in
    elim (in_append now (of x) q (one q h)) as (λ _. IsTrue (is_in (old ++ flat_map of all) q)) [
      | inl earlier ↦ elim (in_append old (flat_map of done) q (was q earlier)) as (λ _. IsTrue (is_in (old ++ flat_map of all) q)) [
        | inl a ↦ in_left old (flat_map of all) q a
        | inr b ↦ let f = from_flat of done q b in in_right old (flat_map of all) q (in_flat of all f.0 q (in_left done (x ∷ []) f.0 f.1) f.2)
      ]
      | inr here ↦ in_right old (flat_map of all) q (in_flat of all x q (in_right done (x ∷ []) x (in_here x [])) here)
    ]

pub asked-all : (of : Path → List Path) (done all old new : List Path) → done ++ [] ≡ all → OnlyAsks of done old new → OnlyAsks of all old new
asked-all of done all old new e was = subst (λ (ps : List Path). OnlyAsks of ps old new) (sym (append-nil done) ∙ e) was

-- ---- what stands at and below a path

pub below-one : (T : Tree) (top x : Path) (old now new : List Path) → Stands T x → is_front top x ≡ true → OnlyBelow T top old now → ((q : Path) → is_in new q ≡ (is_eq (path_cmp x q) || is_in now q)) → OnlyBelow T top old new
below-one T top x old now new there front was one on q h = elim (or_either (is_eq (path_cmp x q)) (is_in now q) (sym (one q) ∙ h)) as (λ _. IsTrue (is_in old q) ⊎ (IsTrue (stands T q) × IsTrue (is_front top q))) [
  | inl here ↦ let same : x ≡ q = tied x q here in inr (ap (λ (r : Path). stands T r) (sym same) ∙ there, ap (is_front top) (sym same) ∙ front)
  | inr earlier ↦ was on q earlier
]

pub below-begins : (T : Tree) (top : Path) (old new : List Path) → ((q : Path) → is_in new q ≡ (is_eq (path_cmp top q) || is_in old q)) → OnlyBelow T top old new
below-begins T top old new one on q h = below-one T top top old old new on (front_itself top) (λ _ r g. inl g) one on q h

pub cost-more : (T : Tree) (top at x : Path) → IsNext path_cmp (Stands T) (Some at) (Some x) → is_front top x ≡ true
    → length (filter (λ (e : Entry). is_front top e.0) (ahead T (Some at))) ≡ 1 + length (filter (λ (e : Entry). is_front top e.0) (ahead T (Some x)))
cost-more T top at x next front =
    let F : Entry → Bool = λ e. is_front top e.0 in
    let step = walk-goes_on T (Some at) x next in
    omega (arith, ap (λ (es : List Entry). length (filter F es)) step.2, ap (λ (b : Bool). length (cond b ((x, step.0) ∷ filter F (ahead T (Some x))) (filter F (ahead T (Some x))))) front)

-- ---- what is near the tops

pub above-none : (top : Path) (old : List Path) → OnlyAbove top old old
above-none top old q h = inl h

pub above-only : (top parent : Path) (old new : List Path) → IsTrue (is_child parent top) → ((q : Path) → is_in new q ≡ (is_eq (path_cmp parent q) || is_in old q)) → OnlyAbove top old new
above-only top parent old new child one q h = elim (or_either (is_eq (path_cmp parent q)) (is_in old q) (sym (one q) ∙ h)) as (λ _. IsTrue (is_in old q) ⊎ IsTrue (is_child q top)) [
  | inl here ↦ inr (subst (λ (r : Path). IsTrue (is_child r top)) (tied parent q here) child)
  | inr earlier ↦ inl earlier
]

tree-parent : (T : Tree) → IsTree T → (q p : Path) → is_child q p ≡ true → Stands T p → Stands T q
tree-parent T tree q p child h = subst (Stands T) (child_taken q p child) (tree.fronts p (length q) (omega (arith, child_long q p child)) h)

-- only nodes that stand near these tops, where the tops stand
abbrev pub StandsNear : Tree → List Path → List Path → Type 0
StandsNear T tops paths = ((p : Path) → IsTrue (is_in tops p) → Stands T p) → (q : Path) → IsTrue (is_in paths q) → Stands T q × IsTrue (is_near tops q)

pub stands-none : (T : Tree) (tops paths : List Path) → paths ≡ [] → StandsNear T (take 0 tops) paths
stands-none T tops paths none all q h = absurd (cc (sym h ∙ ap (λ (ps : List Path). is_in ps q) none))

pub stands-more : (T : Tree) (tops : List Path) (i : ℕ) (top : Path) (old mid new : List Path) → IsTree T → i < length tops → top ≡ get_or tops i top → StandsNear T (take i tops) old
    → OnlyAbove top old mid → OnlyBelow T top mid new → StandsNear T (take (i + 1) tops) new
stands-more T tops i top old mid new tree lt is was above on all q h =
    let mine : Stands T top = all top in_more in
    let under : is_under (take (i + 1) tops) q ≡ (is_under (take i tops) q || is_front top q) = list_any_more (λ (p : Path). is_front p q) tops i top lt ∙ ap (λ (p : Path). is_under (take i tops) q || is_front p q) (sym is) in
    let child : list_any (λ p. is_child q p) (take (i + 1) tops) ≡ (list_any (λ p. is_child q p) (take i tops) || is_child q top) = list_any_more (λ (p : Path). is_child q p) tops i top lt ∙ ap (λ (p : Path). list_any (λ r. is_child q r) (take i tops) || is_child q p) (sym is) in
    elim (on mine q h) as (λ _. Stands T q × IsTrue (is_near (take (i + 1) tops) q)) [
      | inl before ↦ elim (above q before) as (λ _. Stands T q × IsTrue (is_near (take (i + 1) tops) q)) [
        | inl earlier ↦
            let w = was (λ p g. all p (in_earlier p g)) q earlier in (
              w.0,
              elim (or_either (is_under (take i tops) q) (list_any (λ p. is_child q p) (take i tops)) w.1) as (λ _. IsTrue (is_near (take (i + 1) tops) q)) [
                | inl a ↦ or_left (is_under (take (i + 1) tops) q) (list_any (λ p. is_child q p) (take (i + 1) tops)) (under ∙ or_left (is_under (take i tops) q) (is_front top q) a)
                | inr b ↦ or_right (is_under (take (i + 1) tops) q) (list_any (λ p. is_child q p) (take (i + 1) tops)) (child ∙ or_left (list_any (λ p. is_child q p) (take i tops)) (is_child q top) b)
              ],
            )
        | inr parent ↦ (tree-parent T tree q top parent mine, or_right (is_under (take (i + 1) tops) q) (list_any (λ p. is_child q p) (take (i + 1) tops)) (child ∙ or_right (list_any (λ p. is_child q p) (take i tops)) (is_child q top) parent))
      ]
      | inr below ↦ (below.0, or_left (is_under (take (i + 1) tops) q) (list_any (λ p. is_child q p) (take (i + 1) tops)) (under ∙ or_right (is_under (take i tops) q) (is_front top q) below.1))
    ]
  where
    taken : (p : Path) → is_in (take (i + 1) tops) p ≡ (is_in (take i tops) p || is_eq (path_cmp p top))
    taken p = list_any_more (λ (r : Path). is_eq (path_cmp p r)) tops i top lt ∙ ap (λ (r : Path). is_in (take i tops) p || is_eq (path_cmp p r)) (sym is)

    in_more : IsTrue (is_in (take (i + 1) tops) top)
    in_more = taken top ∙ or_right (is_in (take i tops) top) (is_eq (path_cmp top top)) (tie top top refl)

    in_earlier : (p : Path) → IsTrue (is_in (take i tops) p) → IsTrue (is_in (take (i + 1) tops) p)
    in_earlier p g = taken p ∙ or_left (is_in (take i tops) p) (is_eq (path_cmp p top)) g

pub near-only : (T : Tree) (tops paths : List Path) → StandsNear T tops paths → OnlyNear T tops paths
near-only T tops paths near all q h = let n = near all q h in near-changed T tops q all n.0 n.1

pub near-all : (T : Tree) (tops : List Path) (i : ℕ) (paths : List Path) → i ≡ length tops → StandsNear T (take i tops) paths → OnlyNear T tops paths
near-all T tops i paths e near = near-only T tops paths (subst (λ (ps : List Path). StandsNear T ps paths) (ap (λ (k : ℕ). take k tops) e ∙ take-length tops) near)

-- ---- what goes is left out

pub keeps-none : (T : Tree) (tops old : List Path) → KeepsUnder T (take 0 tops) old old
keeps-none T tops old = (λ q h. h, λ q there under. absurd cc)

pub keeps-more : (T : Tree) (tops : List Path) (i : ℕ) (top : Path) (old now new : List Path) → i < length tops → top ≡ get_or tops i top → KeepsUnder T (take i tops) old now → KeepsBelow T top now new → KeepsUnder T (take (i + 1) tops) old new
keeps-more T tops i top old now new lt is was one = (
  within-on old now new was.0 one.0,
  λ q there under.
      let all : is_under (take (i + 1) tops) q ≡ (is_under (take i tops) q || is_front top q) = list_any_more (λ (p : Path). is_front p q) tops i top lt ∙ ap (λ (p : Path). is_under (take i tops) q || is_front p q) (sym is) in
      elim (or_either (is_under (take i tops) q) (is_front top q) (sym all ∙ under)) as (λ _. IsTrue (is_in new q)) [
        | inl earlier ↦ one.0 q (was.1 q there earlier)
        | inr here ↦ one.1 q there here
      ],
)

pub walks-more : (T : Tree) (tops : List Path) (i : ℕ) (top : Path) → i < length tops → top ≡ get_or tops i top → walks T (take (i + 1) tops) ≡ walks T (take i tops) + (1 + below T top)
walks-more T tops i top lt is = sum_by_more (λ (p : Path). 1 + below T p) tops i top lt ∙ ap (λ (p : Path). walks T (take i tops) + (1 + below T p)) (sym is)
