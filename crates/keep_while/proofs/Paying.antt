-- What the rounds cost.
use Rattle.std.proofs.Common.{◌≡◌, inl, inr, ℕ, ◌+◌, ◌*◌, ◌-◌, ◌≤◌, Bool, true, false, not, List, [], ◌∷◌, ◌++◌, length, refl, sym, ap, subst, ◌∙◌, arith, Option, Some, None}
use Rattle.std.specs.Prelude.{IsTrue, is_some}
use Rattle.std.specs.List.{filter, flat_map}
use Rattle.std.specs.List.Sorted.{IsStrictlySortedBy}
use Rattle.std.specs.FinMap.{get, entries, len, len-entries}
use Rattle.std.proofs.lemmas.List.Filters.{length-filter_both}
use Rattle.khepri_terms.specs.Order.{path_cmp}
use Rattle.khepri_types.specs.declared.limits.TheConstants.{MAX_WATCHES}
use Rattle.khepri_types.specs.declared.node.Node.{Node}
use Rattle.khepri_types.specs.Drop.{drop}
use Rattle.khepri_types.specs.Paths.{is_under}
use Rattle.khepri_types.specs.Settling.{failing, stable}
use Rattle.khepri_types.specs.Tree.{Tree, stands}
use Rattle.khepri_types.proofs.Dropping.{stays, len-left}
use Rattle.tree_nodes.specs.Drafts.{Drafted, IsCovered}
use Rattle.worklist_laws.specs.Candidates.{is_in, IsWithin, SameBelow, tested, watchers, watches_at, aims_node}
use Rattle.worklist_laws.specs.Changes.{changed_paths}
use Rattle.worklist_laws.specs.Counts.{watching, round_watching, reads_left}
use Rattle.worklist_laws.specs.Index.{IsIndex}
use Rattle.worklist_laws.proofs.Among.{Path, Entry, from_flat, in_append, in_filter, in_filtered, in_flat, in_left, in_right, not_both, passes_filter, test_false}
use Rattle.worklist_laws.proofs.Candidates.{changed-same, drop-same}
use Rattle.worklist_laws.proofs.Changing.{len-changed}
use Rattle.worklist_laws.proofs.Counting.{listed, round-paid}
use Rattle.worklist_laws.proofs.Indexing.{watchers-in, in-watchers, watchers-drop}
use Rattle.keep_while.specs.Costs.{AreAnew, AreApart, IsFirst, IsPaidFor, IsPaidSoFar, KeepsUnder, LinksTouched, OnlyAsks, OnlyWatch, walks}
use Rattle.keep_while.specs.Gathering.{asked, without}
use Rattle.keep_while.proofs.Counting.{no_more, walks-below, walks-length}

not_true : (b : Bool) → not b ≡ true → b ≡ false
not_true true h = absurd cc
not_true false h = refl

-- ---- who is asked watches

watcher_stands : (T : Tree) (p q : Path) → IsTrue (watches_at T p q) → IsTrue (stands T p)
watcher_stands T p q h = elim (get T p) as (λ o. get T p ≡ o → IsTrue (aims_node o q) → IsTrue (is_some o)) [
  | None ↦ λ e g. absurd cc
  | Some n ↦ λ e g. refl
] refl h

-- before the first round
pub first-asked : (B D : Tree) (touched left gone : List Path) (of written : Path → List Path) → IsIndex B of → IsCovered B D touched → IsWithin touched left → LinksTouched D touched written → OnlyWatch D (asked left gone of written)
first-asked B D touched left gone of written index same within links q p h = elim (in_append (without left (of q)) (without gone (written q)) p h) as (λ _. IsTrue (is_in (watchers D q) p)) [
  | inl a ↦
      let off : is_in left p ≡ false = not_true (is_in left p) (passes_filter (λ r. not (is_in left r)) (of q) p a) in
      let apart : is_in touched p ≡ false = test_false (is_in touched p) (λ t. not_both (is_in left p) (within p t) off) in
      let watched : IsTrue (watches_at B p q) = in-watchers B p q (subst (λ (ps : List Path). IsTrue (is_in ps p)) (index q) (in_filtered (λ r. not (is_in left r)) (of q) p a)) in
      watchers-in D p q (ap (λ (o : Option Node). aims_node o q) (sym (same p apart)) ∙ watched)
  | inr b ↦ watchers-in D p q (links q p (in_filtered (λ r. not (is_in gone r)) (written q) p b)).1
]

-- after a round
pub next-asked : (T U : Tree) (tops left gone left' gone' : List Path) (of written : Path → List Path) → OnlyWatch T (asked left gone of written) → KeepsUnder T tops left left' → KeepsUnder T tops gone gone' → U ≡ drop T tops → OnlyWatch U (asked left' gone' of written)
next-asked T U tops left gone left' gone' of written was out away is q p h =
    subst (λ (V : Tree). IsTrue (is_in (watchers V q) p)) (sym is)
    (subst (λ (ps : List Path). IsTrue (is_in ps p)) (sym (watchers-drop T tops q))
    (elim (in_append (without left' (of q)) (without gone' (written q)) p h) as (λ _. IsTrue (is_in (filter (stays tops) (watchers T q)) p)) [
      | inl a ↦ still left left' out.0 out.1 (of q) a (λ k. in_left (without left (of q)) (without gone (written q)) p k)
      | inr b ↦ still gone gone' away.0 away.1 (written q) b (λ k. in_right (without left (of q)) (without gone (written q)) p k)
    ]))
  where
    still : (old new : List Path) → IsWithin old new → ((r : Path) → IsTrue (stands T r) → IsTrue (is_under tops r) → IsTrue (is_in new r)) → (ws : List Path) → IsTrue (is_in (without new ws) p)
        → (IsTrue (is_in (without old ws) p) → IsTrue (is_in (asked left gone of written q) p)) → IsTrue (is_in (filter (stays tops) (watchers T q)) p)
    still old new within under ws k on =
        let off : is_in new p ≡ false = not_true (is_in new p) (passes_filter (λ r. not (is_in new r)) ws p k) in
        let earlier : is_in old p ≡ false = test_false (is_in old p) (λ t. not_both (is_in new p) (within p t) off) in
        let here = was q p (on (in_filter (λ r. not (is_in old r)) ws p (ap not earlier) (in_filtered (λ r. not (is_in new r)) ws p k))) in
        let there : IsTrue (stands T p) = watcher_stands T p q (in-watchers T p q here) in
        let apart : is_under tops p ≡ false = test_false (is_under tops p) (λ t. not_both (is_in new p) (under p there t) off) in
        in_filter (stays tops) (watchers T q) p (ap not apart) here

-- where more is left out, fewer are asked
pub asked-less : (T : Tree) (left gone left' gone' : List Path) (of written : Path → List Path) → OnlyWatch T (asked left gone of written) → IsWithin left left' → IsWithin gone gone' → OnlyWatch T (asked left' gone' of written)
asked-less T left gone left' gone' of written was more away q p h = was q p (elim (in_append (without left' (of q)) (without gone' (written q)) p h) as (λ _. IsTrue (is_in (asked left gone of written q) p)) [
  | inl a ↦ in_left (without left (of q)) (without gone (written q)) p (fewer left left' more (of q) a)
  | inr b ↦ in_right (without left (of q)) (without gone (written q)) p (fewer gone gone' away (written q) b)
])
  where
    fewer : (old new : List Path) → IsWithin old new → (ws : List Path) → IsTrue (is_in (without new ws) p) → IsTrue (is_in (without old ws) p)
    fewer old new within ws k =
        let off : is_in new p ≡ false = not_true (is_in new p) (passes_filter (λ r. not (is_in new r)) ws p k) in
        in_filter (λ r. not (is_in old r)) ws p (ap not (test_false (is_in old p) (λ t. not_both (is_in new p) (within p t) off))) (in_filtered (λ r. not (is_in new r)) ws p k)

-- ---- how many candidates

length-two : (xs ys : List Path) → length (xs ++ ys) ≡ length xs + length ys
length-two [] ys = omega arith
length-two (x ∷ xs) ys = omega (arith, length-two xs ys)

watched : (T : Tree) (paths : List Path) → length (flat_map (watchers T) paths) ≤ watching T paths
watched T paths = listed T (watchers T) paths (λ q. omega arith)

pub first-few : (d : Drafted) (left gone tests changed set : List Path) (of written : Path → List Path) → IsIndex d.base of → LinksTouched d.tree d.touched written → IsWithin tests d.touched → AreAnew d.base d.tree changed → IsStrictlySortedBy path_cmp changed
    → OnlyAsks (asked left gone of written) changed tests set → IsStrictlySortedBy path_cmp set → IsFirst d set
first-few d left gone tests changed set of written index links within anew rising only sorted = record {
  changed = changed;
  anew = anew;
  rising = rising;
  count = omega (arith, no_more set (d.touched ++ flat_map (watchers d.base) changed) sorted mine, length-two d.touched (flat_map (watchers d.base) changed), watched d.base changed);
}
  where
    mine : IsWithin set (d.touched ++ flat_map (watchers d.base) changed)
    mine p h = elim (in_append tests (flat_map (asked left gone of written) changed) p (only p h)) as (λ _. IsTrue (is_in (d.touched ++ flat_map (watchers d.base) changed) p)) [
      | inl a ↦ in_left d.touched (flat_map (watchers d.base) changed) p (within p a)
      | inr b ↦
          let f = from_flat (asked left gone of written) changed p b in
          elim (in_append (without left (of f.0)) (without gone (written f.0)) p f.2) as (λ _. IsTrue (is_in (d.touched ++ flat_map (watchers d.base) changed) p)) [
            | inl old ↦ in_right d.touched (flat_map (watchers d.base) changed) p (in_flat (watchers d.base) changed f.0 p f.1 (subst (λ (ps : List Path). IsTrue (is_in ps p)) (index f.0) (in_filtered (λ r. not (is_in left r)) (of f.0) p old)))
            | inr new ↦ in_left d.touched (flat_map (watchers d.base) changed) p (links f.0 p (in_filtered (λ r. not (is_in gone r)) (written f.0) p new)).0
          ]
    ]

next-few : (T : Tree) (tops changed set : List Path) (of : Path → List Path) → OnlyWatch T of → IsWithin changed (changed_paths T tops) → changed_paths T tops ≡ changed_paths T (failing T) → OnlyAsks of changed [] set → IsStrictlySortedBy path_cmp set → length set ≤ round_watching T
next-few T tops changed set of watch within same only sorted =
    let paths = changed_paths T (failing T) in
    let mine : IsWithin set (flat_map (watchers T) paths) = λ p h.
    let f = from_flat of changed p (only p h) in
    in_flat (watchers T) paths f.0 p (subst (λ (ps : List Path). IsTrue (is_in ps f.0)) same (within f.0 f.1)) (watch f.0 p f.2) in
    omega (arith, no_more set (flat_map (watchers T) paths) sorted mine, watched T paths)

-- ---- what a round costs

-- walks over what goes cost no more than goes
walks-gone : (T : Tree) (tops : List Path) → IsStrictlySortedBy path_cmp tops → AreApart tops → ((p : Path) → IsTrue (is_in tops p) → IsTrue (stands T p)) → walks T tops + len (drop T tops) ≤ len T
walks-gone T tops rising apart all =
    let gone : length (filter (λ (e : Entry). stays tops e.0) (entries T)) + length (filter (λ (e : Entry). is_under tops e.0) (entries T)) ≡ length (entries T) =
    length-filter_both (λ (e : Entry). stays tops e.0) (λ (e : Entry). is_under tops e.0) (λ e. twice (is_under tops e.0)) (entries T) in
    omega (arith, walks-below T tops rising apart all, gone, len-left T tops, len-entries T)
  where
    twice : (b : Bool) → b ≡ not (not b)
    twice true = refl
    twice false = refl

-- what a round tested, changed and dropped
pub record Round (T U : Tree) (tops candidates next : List Path) (start tested walked dropped : ℕ) : Type 0 where
  pub rising : IsStrictlySortedBy path_cmp tops
  pub apart : AreApart tops
  pub standing : (p : Path) → IsTrue (is_in tops p) → IsTrue (stands T p)
  pub fewer : length next ≤ round_watching T
  pub tests : tested ≤ start + (1 + MAX_WATCHES) * length candidates
  pub walks : walked ≤ tested + walks T tops
  pub drops : dropped ≡ walked + length tops + (len T - len U)

pub paid-round : (d : Drafted) (T U : Tree) (tops candidates next : List Path) (old start tested walked dropped : ℕ) → IsPaidSoFar d T candidates old start → stable T ≡ false → SameBelow tops (failing T) → U ≡ drop T tops
    → Round T U tops candidates next start tested walked dropped → IsPaidSoFar d U next old dropped
paid-round d T U tops candidates next old start tested walked dropped was low same is r = record {
  changed = was.changed;
  anew = was.anew;
  rising = was.rising;
  paid =
      let N = drop T (failing T) in
      let left : U ≡ N = is ∙ drop-same T tops (failing T) same in
      let gone : len U ≡ len (drop T tops) = ap len is in
      let most = len-changed T (failing T) in
      omega (arith, was.paid, r.tests, r.walks, r.drops, round-paid T candidates next low r.fewer, walks-gone T tops r.rising r.apart r.standing, walks-length T tops, gone, most, ap len left, ap (λ (V : Tree). reads_left V next) left);
}

pub paid-end : (d : Drafted) (T : Tree) (candidates : List Path) (old now end : ℕ) → IsPaidSoFar d T candidates old now → end ≤ now + (1 + MAX_WATCHES) * length candidates → IsPaidFor d old end
paid-end d T candidates old now end was tests = record {
  changed = was.changed;
  anew = was.anew;
  rising = was.rising;
  paid = omega (arith, was.paid, tests);
}

-- the candidates after a round
pub round-few : (T : Tree) (tops changed set : List Path) (of : Path → List Path) → SameBelow tops (failing T) → OnlyWatch T of → IsWithin changed (changed_paths T tops) → OnlyAsks of changed [] set → IsStrictlySortedBy path_cmp set → length set ≤ round_watching T
round-few T tops changed set of same watch within only sorted = next-few T tops changed set of watch within (changed-same T tops (failing T) same) only sorted
