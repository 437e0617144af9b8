-- Nested nodes as the list of their paths, in order, each with its value.
use Rattle.std.specs.Prelude.{◌≡◌, ℕ, ◌+◌, ◌≤◌, Bool, true, false, cond, List, [], ◌∷◌, ◌++◌, length, map, take, IsTrue, Some, None, is_some}
use Rattle.std.specs.List.{AllByRecursion, count_by}
use Rattle.std.specs.Ordering.{is_eq}
use Rattle.std.specs.FinMap.{find, is_sorted}
use Rattle.std.specs.Cmp.Lexicographic.{slice_cmp}
use Rattle.std.specs.declared.cmp.Ordering.{Ordering}
use Rattle.std.proofs.Common.{arith, length-append}
use Rattle.std.proofs.lemmas.List.{length-map}
use Rattle.khepri_terms.specs.Terms.{NameText}
use Rattle.khepri_terms.specs.Order.{path_cmp}
use Rattle.khepri_types.specs.Paths.{is_child, is_front}
use denote.Param.Weighed.{most}

-- a row of a child, seen from its parent
abbrev pub onto : {K X : Type 0} → K → List K × X → List K × X
onto k e = (k ∷ e.0, e.1)

-- the rows of all children, each behind its name
abbrev pub spread : {K X : Type 0} → List (K × List (List K × X)) → List (List K × X)
spread [] = []
spread (e ∷ es) = map (onto e.0) e.1 ++ spread es

-- the rows of a node: its own, and those of its children
abbrev pub whole : {K X : Type 0} → X → List (K × List (List K × X)) → List (List K × X)
whole v es = ([], v) ∷ spread es

abbrev pub is_root : {K : Type 0} → List K → Bool
is_root [] = true
is_root (k ∷ p) = false

-- the rows are those of a node: in order of path, with its own, once, and with each path all its fronts
pub record IsNest {K X : Type 0} (R : K → K → Ordering) (ps : List (List K × X)) : Type 0 where
  pub sorted : IsTrue (is_sorted (slice_cmp R) ps)
  pub root : IsTrue (is_some (find (slice_cmp R) [] ps))
  pub once : count_by (λ e. is_root e.0) ps ≡ 1
  pub fronts : (p : List K) (i : ℕ) → i ≤ length p → IsTrue (is_some (find (slice_cmp R) p ps)) → IsTrue (is_some (find (slice_cmp R) (take i p) ps))

-- children in order of name, each a node
pub record AreNests {K X : Type 0} (R : K → K → Ordering) (es : List (K × List (List K × X))) : Type 0 where
  pub sorted : IsTrue (is_sorted R es)
  pub each : AllByRecursion (λ e. IsNest R e.1) es

pub most-spread : {K X : Type 0} (es : List (K × List (List K × X))) → most (λ k. length k + 1) (map (λ e. e.1) es) ≤ length (spread es) + 1
most-spread [] = omega arith
most-spread (e ∷ es) = omega (arith, most-spread es, length-append (map (onto e.0) e.1) (spread es), length-map e.1 (onto e.0))

-- how many rows are children of p
abbrev pub children : {X : Type 0} → List (List NameText × X) → List NameText → ℕ
children ps p = count_by (λ e. is_child p e.0) ps

-- rs are the rows at p and below it, by the paths from there on
pub record IsSub {X : Type 0} (p : List NameText) (ps rs : List (List NameText × X)) : Type 0 where
  pub finds : (q : List NameText) → find path_cmp q rs ≡ find path_cmp (p ++ q) ps
  pub kids : (q : List NameText) → children rs q ≡ children ps (p ++ q)

-- the new rows have u at p, and else what the old ones had
abbrev pub Puts : {K X : Type 0} → (K → K → Ordering) → List K → X → List (List K × X) → List (List K × X) → Type 0
Puts {K = K} R p u old new = (q : List K) → find (slice_cmp R) q new ≡ cond (is_eq (slice_cmp R p q)) (Some u) (find (slice_cmp R) q old)

-- the new rows have nothing at p and below it, and else what the old ones had
abbrev pub Cuts : {X : Type 0} → List NameText → List (List NameText × X) → List (List NameText × X) → Type 0
Cuts p old new = (q : List NameText) → find path_cmp q new ≡ cond (is_front p q) None (find path_cmp q old)
