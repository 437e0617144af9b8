-- What settling costs.
use Rattle.std.specs.Prelude.{◌≡◌, ◌⊎◌, ℕ, ◌+◌, ◌*◌, ◌≤◌, true, IsTrue, List, [], ◌∷◌, ◌++◌, length, Some}
use Rattle.std.specs.List.{filter, flat_map, sum_by}
use Rattle.std.specs.List.Sorted.{IsStrictlySortedBy}
use Rattle.std.specs.FinMap.{entries}
use Rattle.khepri_terms.specs.Terms.{NameText}
use Rattle.khepri_terms.specs.Order.{path_cmp}
use Rattle.khepri_types.specs.Conditions.{seen_at}
use Rattle.khepri_types.specs.Paths.{is_child, is_front, is_under}
use Rattle.khepri_types.specs.Tree.{Tree, stands}
use Rattle.tree_nodes.specs.Next.{follows}
use Rattle.tree_nodes.specs.Drafts.{Drafted}
use Rattle.worklist_laws.specs.Candidates.{is_in, IsWithin, watchers, watches_at}
use Rattle.worklist_laws.specs.Changes.{changed_paths}
use Rattle.worklist_laws.specs.Counts.{watching, settling_changes, settling_watching, reads_left}

-- none of these paths is below another
abbrev pub AreApart : List (List NameText) → Type 0
AreApart tops = (p q : List NameText) → IsTrue (is_in tops p) → IsTrue (is_in tops q) → is_front p q ≡ true → p ≡ q

-- how many nodes stand below the path
abbrev pub below : Tree → List NameText → ℕ
below T top = length (filter (λ e. is_front top e.0) (filter (λ e. follows path_cmp (Some top) e.0) (entries T)))

-- what the walks over all that is below these paths cost
abbrev pub walks : Tree → List (List NameText) → ℕ
walks T tops = sum_by (λ p. 1 + below T p) tops

-- the last of these paths isn't a front of p
abbrev pub EndsApart : List (List NameText) → List NameText → Type 0
EndsApart tops p = (before : List (List NameText)) (last : List NameText) → tops ≡ before ++ last ∷ [] → IsTrue (is_front last p) → ⊥

-- ---- what is noted, and nothing else

-- beside the old paths only standing ones are new that the path is a front of, where it stands itself
abbrev pub OnlyBelow : Tree → List NameText → List (List NameText) → List (List NameText) → Type 0
OnlyBelow T top old new = IsTrue (stands T top) → (q : List NameText) → IsTrue (is_in new q) → IsTrue (is_in old q) ⊎ (IsTrue (stands T q) × IsTrue (is_front top q))

-- beside the old paths only the parent is new
abbrev pub OnlyAbove : List NameText → List (List NameText) → List (List NameText) → Type 0
OnlyAbove top old new = (q : List NameText) → IsTrue (is_in new q) → IsTrue (is_in old q) ⊎ IsTrue (is_child q top)

-- only paths that a round changes that drops the tops, where these stand
abbrev pub OnlyNear : Tree → List (List NameText) → List (List NameText) → Type 0
OnlyNear T tops paths = ((p : List NameText) → IsTrue (is_in tops p) → IsTrue (stands T p)) → IsWithin paths (changed_paths T tops)

-- beside the old ones only those who watch one of the changed paths
abbrev pub OnlyAsks : (List NameText → List (List NameText)) → List (List NameText) → List (List NameText) → List (List NameText) → Type 0
OnlyAsks of changed old new = IsWithin new (old ++ flat_map of changed)

-- the old paths, and what stands at and below the path, are among the new ones
abbrev pub KeepsBelow : Tree → List NameText → List (List NameText) → List (List NameText) → Type 0
KeepsBelow T top old new = IsWithin old new × ((q : List NameText) → IsTrue (stands T q) → IsTrue (is_front top q) → IsTrue (is_in new q))

-- the same of what stands at and below one of these paths
abbrev pub KeepsUnder : Tree → List (List NameText) → List (List NameText) → List (List NameText) → Type 0
KeepsUnder T tops old new = IsWithin old new × ((q : List NameText) → IsTrue (stands T q) → IsTrue (is_under tops q) → IsTrue (is_in new q))

-- beside the old paths only those are new at which something else is seen in D than in B
abbrev pub OnlyAnew : Tree → Tree → List (List NameText) → List (List NameText) → Type 0
OnlyAnew B D old new = (q : List NameText) → IsTrue (is_in new q) → IsTrue (is_in old q) ⊎ (seen_at B q ≡ seen_at D q → ⊥)

-- at each of these paths something else is seen in D than in B
abbrev pub AreAnew : Tree → Tree → List (List NameText) → Type 0
AreAnew B D paths = (q : List NameText) → IsTrue (is_in paths q) → seen_at B q ≡ seen_at D q → ⊥

-- beside the old links there are only those of q to what it watches in D
abbrev pub OnlyLinks : Tree → List NameText → (List NameText → List (List NameText)) → (List NameText → List (List NameText)) → Type 0
OnlyLinks D q old new = (t p : List NameText) → IsTrue (is_in (new t) p) → IsTrue (is_in (old t) p) ⊎ ((p ≡ q) × IsTrue (watches_at D q t))

-- only touched nodes are linked, and only to what they watch in D
abbrev pub LinksTouched : Tree → List (List NameText) → (List NameText → List (List NameText)) → Type 0
LinksTouched D touched written = (t p : List NameText) → IsTrue (is_in (written t) p) → IsTrue (is_in touched p) × IsTrue (watches_at D p t)

-- `of` lists at each path only those who watch it in T
abbrev pub OnlyWatch : Tree → (List NameText → List (List NameText)) → Type 0
OnlyWatch T of = (q p : List NameText) → IsTrue (is_in (of q) p) → IsTrue (is_in (watchers T q) p)

-- these are no more candidates than touched paths and watchers, in the tree under the draft, of paths at which something else is seen now
pub record IsFirst (d : Drafted) (candidates : List (List NameText)) : Type 0 where
  pub changed : List (List NameText)
  pub anew : AreAnew d.base d.tree changed
  pub rising : IsStrictlySortedBy path_cmp changed
  pub count : length candidates ≤ length d.touched + watching d.base changed

-- a look over what this draft changed took the steps from the old number to the new one: at most 24 for each touched path, and k for each
-- watcher, in the tree under the draft, of a path at which something else is seen now
pub record IsGlance (d : Drafted) (k old new : ℕ) : Type 0 where
  pub changed : List (List NameText)
  pub anew : AreAnew d.base d.tree changed
  pub rising : IsStrictlySortedBy path_cmp changed
  pub paid : new ≤ old + 24 * length d.touched + k * watching d.base changed + 1

-- a look at q, and at those who watch it where something else is seen there
abbrev pub IsLook : Drafted → List NameText → ℕ → ℕ → Type 0
IsLook d q old new = (new ≤ old + 2) ⊎ ((seen_at d.base q ≡ seen_at d.tree q → ⊥) × (new ≤ old + 2 + 17 * length (watchers d.base q)))

-- to settle this draft took the steps from the old number to the new one: at most 52 for each touched path, for each pair of a round and a
-- node that it changes, for each watcher of such a pair, and for each watcher, in the tree under the draft, of a path at which something
-- else is seen now
pub record IsPaidFor (d : Drafted) (old new : ℕ) : Type 0 where
  pub changed : List (List NameText)
  pub anew : AreAnew d.base d.tree changed
  pub rising : IsStrictlySortedBy path_cmp changed
  pub paid : new ≤ old + 52 * (length d.touched + settling_changes d.tree + (watching d.base changed + settling_watching d.tree) + 1)

-- so far it took the steps from the old number to this one, and what the candidates pay for is still to come
pub record IsPaidSoFar (d : Drafted) (T : Tree) (candidates : List (List NameText)) (old now : ℕ) : Type 0 where
  pub changed : List (List NameText)
  pub anew : AreAnew d.base d.tree changed
  pub rising : IsStrictlySortedBy path_cmp changed
  pub paid : now + reads_left T candidates ≤ old + 52 * (length d.touched + settling_changes d.tree + (watching d.base changed + settling_watching d.tree) + 1)
