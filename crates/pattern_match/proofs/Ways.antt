-- The masks of the prefixes of a path.
use Rattle.std.proofs.Common.{◌≡◌, ℕ, zero, suc, ◌+◌, ◌-◌, ◌<◌, List, [], ◌∷◌, ◌++◌, length, take, refl, sym, subst, append_assoc, arith, Some, slice_get, slice_index_or}
use Rattle.std.proofs.lemmas.List.{append-nil, length-append}
use Rattle.khepri_terms.specs.Terms.{NameText}
use Rattle.khepri_types.specs.declared.pattern.PatternPart.{PatternPart}
use Rattle.khepri_types.specs.Tree.{Tree}
use Rattle.pattern_match.specs.declared.mask.Mask.{Mask}
use Rattle.pattern_match.specs.Masks.{IsMask, AreMasks}

masks_len : (parts : List PatternPart) (T : Tree) (q p : List NameText) (masks : List Mask) → AreMasks parts T q p masks → length masks ≡ length p + 1
masks_len parts T q [] [] are = absurd are
masks_len parts T q [] (m ∷ []) are = refl
masks_len parts T q [] (m ∷ k ∷ masks) are = absurd are
masks_len parts T q (n ∷ p) [] are = absurd are
masks_len parts T q (n ∷ p) (m ∷ masks) are = let l = masks_len parts T (q ++ n ∷ []) p masks are.1 in omega (arith, l)

masks_add : (parts : List PatternPart) (T : Tree) (q p : List NameText) (n : NameText) (masks : List Mask) (m : Mask) → AreMasks parts T q p masks → IsMask parts T (q ++ (p ++ n ∷ [])) m → AreMasks parts T q (p ++ n ∷ []) (masks ++ m ∷ [])
masks_add parts T q [] n [] m are is = absurd are
masks_add parts T q [] n (k ∷ []) m are is = (are, is)
masks_add parts T q [] n (k ∷ l ∷ masks) m are is = absurd are
masks_add parts T q (o ∷ p) n [] m are is = absurd are
masks_add parts T q (o ∷ p) n (k ∷ masks) m are is =
    (are.0, masks_add parts T (q ++ o ∷ []) p n masks m are.1 (subst (λ (w : List NameText). IsMask parts T w m) (sym (append_assoc q (o ∷ []) (p ++ n ∷ []))) is))

masks_front : (parts : List PatternPart) (T : Tree) (q p : List NameText) (n : NameText) (masks : List Mask) → AreMasks parts T q (p ++ n ∷ []) masks → AreMasks parts T q p (take (suc (length p)) masks)
masks_front parts T q [] n [] are = absurd are
masks_front parts T q [] n (m ∷ masks) are = are.0
masks_front parts T q (o ∷ p) n [] are = absurd are
masks_front parts T q (o ∷ p) n (m ∷ masks) are = (are.0, masks_front parts T (q ++ o ∷ []) p n masks are.1)

masks_last : (parts : List PatternPart) (T : Tree) (q p : List NameText) (masks : List Mask) (none : Mask) → AreMasks parts T q p masks → IsMask parts T (q ++ p) (slice_index_or masks (length p) none)
masks_last parts T q [] [] none are = absurd are
masks_last parts T q [] (m ∷ []) none are = subst (λ (w : List NameText). IsMask parts T w m) (sym (append-nil q)) are
masks_last parts T q [] (m ∷ k ∷ masks) none are = absurd are
masks_last parts T q (n ∷ p) [] none are = absurd are
masks_last parts T q (n ∷ p) (m ∷ masks) none are =
    subst (λ (w : List NameText). IsMask parts T w (slice_index_or masks (length p) none)) (append_assoc q (n ∷ []) p) (masks_last parts T (q ++ n ∷ []) p masks none are.1)

pub entered : (parts : List PatternPart) (T : Tree) (p : List NameText) (n : NameText) (masks : List Mask) (m : Mask) → AreMasks parts T [] p masks → IsMask parts T (p ++ n ∷ []) m → AreMasks parts T [] (p ++ n ∷ []) (masks ++ m ∷ [])
entered parts T p n masks m are is = masks_add parts T [] p n masks m are is

pub left : (parts : List PatternPart) (T : Tree) (p : List NameText) (n : NameText) (masks : List Mask) → AreMasks parts T [] (p ++ n ∷ []) masks → AreMasks parts T [] p (take (length masks - 1) masks)
left parts T p n masks are =
    let l : length masks - 1 ≡ suc (length p) = omega (arith, masks_len parts T [] (p ++ n ∷ []) masks are, length-append p (n ∷ [])) in
    subst (λ (k : ℕ). AreMasks parts T [] p (take k masks)) (sym l) (masks_front parts T [] p n masks are)

pub topped : (parts : List PatternPart) (T : Tree) (p : List NameText) (masks : List Mask) (none : Mask) → AreMasks parts T [] p masks → IsMask parts T p (slice_index_or masks (length masks - 1) none)
topped parts T p masks none are =
    let l : length p ≡ length masks - 1 = omega (arith, masks_len parts T [] p masks are) in
    subst (λ (k : ℕ). IsMask parts T p (slice_index_or masks k none)) l (masks_last parts T [] p masks none are)

pub place_of : (masks : List Mask) (k : ℕ) (none : Mask) → k < length masks → slice_get masks k ≡ Some (slice_index_or masks k none)
place_of [] k none l = absurd (omega arith)
place_of (m ∷ masks) zero none l = refl
place_of (m ∷ masks) (suc k) none l = place_of masks k none (omega arith)
