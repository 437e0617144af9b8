-- The list of sources, one after another.
use Rattle.std.proofs.Common.{◌≡◌, ℕ, zero, suc, ◌<◌, ◌≤◌, arith, List, [], ◌∷◌, ◌++◌, length, get_or, drop, drop-cons, refl, sym, ap, ◌∙◌, Option, Some, None}
use Rattle.khepri_terms.specs.Terms.{NameText}
use Rattle.khepri_terms.specs.declared.scalar.Scalar.{Scalar}
use Rattle.khepri_types.specs.declared.node.Node.{Node}
use Rattle.khepri_types.specs.declared.projection.Origin.{Origin}
use Rattle.khepri_types.specs.Projecting.{source, and_list, sources}
use Rattle.projection_rules.specs.Sources.{before}

pub none_before : (o : Option (List Scalar)) → o ≡ before [] o
none_before None = refl
none_before (Some xs) = refl

one_before : (xs : List Scalar) (x : Scalar) (o : Option (List Scalar)) → before xs (and_list (Some x) o) ≡ before (xs ++ x ∷ []) o
one_before xs x None = refl
one_before xs x (Some ys) = ap Some (shifted xs)
  where
    shifted : (zs : List Scalar) → zs ++ x ∷ ys ≡ (zs ++ x ∷ []) ++ ys
    shifted [] = refl
    shifted (z ∷ zs) = ap (λ (us : List Scalar). z ∷ us) (shifted zs)

pub all_before : (xs ys : List Scalar) → ys ≡ xs → Some ys ≡ before xs (Some [])
all_before xs ys is = ap Some (is ∙ sym (no_more xs))
  where
    no_more : (zs : List Scalar) → zs ++ [] ≡ zs
    no_more [] = refl
    no_more (z ∷ zs) = ap (λ (us : List Scalar). z ∷ us) (no_more zs)

module _ (p : List NameText) (n : Node) (os : List Origin) (i : ℕ) (o : Origin) (lt : i < length os) (is : o ≡ get_or os i o) where
  next : sources p n (drop i os) ≡ and_list (source p n o) (sources p n (drop (suc i) os))
  unfolding sources
  next = ap (sources p n) (drop-cons os i o lt) ∙ ap (λ (x : Origin). and_list (source p n x) (sources p n (drop (suc i) os))) (sym is)

  pub missing : (all : List Scalar) (whole : Option (List Scalar)) → None ≡ source p n o → whole ≡ before all (sources p n (drop i os)) → None ≡ whole
  missing all whole none so = sym (so ∙ ap (before all) (next ∙ ap (λ (s : Option Scalar). and_list s (sources p n (drop (suc i) os))) (sym none)))

  pub one_more : (all new : List Scalar) (x : Scalar) (whole : Option (List Scalar)) → Some x ≡ source p n o → new ≡ all ++ x ∷ [] → whole ≡ before all (sources p n (drop i os)) → whole ≡ before new (sources p n (drop (suc i) os))
  one_more all new x whole there now so =
      so ∙ (ap (before all) (next ∙ ap (λ (s : Option Scalar). and_list s (sources p n (drop (suc i) os))) (sym there))
      ∙ (one_before all x (sources p n (drop (suc i) os)) ∙ ap (λ (xs : List Scalar). before xs (sources p n (drop (suc i) os))) (sym now)))

past : (os : List Origin) (i : ℕ) → length os ≤ i → drop i os ≡ []
past [] i le = empty i
  where
    empty : (i : ℕ) → ◌≡◌ {A = List Origin} (drop i []) []
    empty zero = refl
    empty (suc i) = refl
past (o ∷ os) zero le = absurd (omega arith)
past (o ∷ os) (suc i) le = past os i (omega arith)

pub all_taken : (p : List NameText) (n : Node) (os : List Origin) (i : ℕ) (all : List Scalar) → length os ≤ i → sources p n os ≡ before all (sources p n (drop i os)) → Some all ≡ sources p n os
unfolding sources
all_taken p n os i all le so = all_before all all refl ∙ sym (so ∙ ap (λ (xs : List Origin). before all (sources p n xs)) (past os i le))
