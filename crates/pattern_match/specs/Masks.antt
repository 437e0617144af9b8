-- What masks mean.
use Rattle.std.specs.Prelude.{◌≡◌, ℕ, ◌≤◌, Bool, ◌==◌, List, [], ◌∷◌, ◌++◌, length, take}
use Rattle.std.specs.Int.{bit_at}
use Rattle.khepri_terms.specs.Terms.{NameText}
use Rattle.khepri_types.specs.declared.pattern.PatternPart.{PatternPart}
use Rattle.khepri_types.specs.Tree.{Tree}
use Rattle.khepri_types.specs.Patterns.{takes}
use Rattle.pattern_match.specs.declared.mask.Mask.{Mask}

-- whether the mask has this number of parts
abbrev pub has : Mask → ℕ → Bool
has m i = bit_at m.bits i == 1

-- the mask has exactly those numbers of parts that take the names of the path
abbrev pub IsMask : List PatternPart → Tree → List NameText → Mask → Type 0
IsMask parts T p m = (i : ℕ) → i ≤ length parts → has m i ≡ takes T [] (take i parts) p

-- the masks of the path q, and of q with one more of the names behind it each
abbrev pub AreMasks : List PatternPart → Tree → List NameText → List NameText → List Mask → Type 0
AreMasks parts T q [] [] = ⊥
AreMasks parts T q [] (m ∷ []) = IsMask parts T q m
AreMasks parts T q [] (m ∷ k ∷ masks) = ⊥
AreMasks parts T q (n ∷ p) [] = ⊥
AreMasks parts T q (n ∷ p) (m ∷ masks) = IsMask parts T q m × AreMasks parts T (q ++ n ∷ []) p masks
