-- What a drop spares.
use Rattle.std.proofs.Common.{◌≡◌, ◌<◌, false, List, [], ◌∷◌, length, refl, ap, ◌∙◌, arith}
use Rattle.khepri_terms.specs.Terms.{NameText}
use Rattle.khepri_types.specs.Paths.{is_front, is_under}

not_root : (n m : NameText) (p q : List NameText) → is_under ((n ∷ p) ∷ (m ∷ q) ∷ []) [] ≡ false
unfolding is_front
not_root n m p q = refl

-- to drop two paths other than the root spares the root
pub both_below_root : (p q : List NameText) (paths : List (List NameText)) → paths ≡ p ∷ q ∷ [] → 0 < length p → 0 < length q → is_under paths [] ≡ false
both_below_root [] q paths e k l = absurd (omega arith)
both_below_root (n ∷ p) [] paths e k l = absurd (omega arith)
both_below_root (n ∷ p) (m ∷ q) paths e k l = ap (λ (ps : List (List NameText)). is_under ps []) e ∙ not_root n m p q

only_root : (n : NameText) (p : List NameText) → is_under ((n ∷ p) ∷ []) [] ≡ false
unfolding is_front
only_root n p = refl

-- to drop one path other than the root spares the root
pub below_root : (p : List NameText) (paths : List (List NameText)) → paths ≡ p ∷ [] → 0 < length p → is_under paths [] ≡ false
below_root [] paths e k = absurd (omega arith)
below_root (n ∷ p) paths e k = ap (λ (ps : List (List NameText)). is_under ps []) e ∙ only_root n p
