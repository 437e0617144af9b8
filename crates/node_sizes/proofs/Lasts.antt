-- The last name of a path.
use Rattle.std.proofs.Common.{◌≡◌, ℕ, zero, suc, List, [], ◌∷◌, length, refl, sym, ap, arith, Some}
use Rattle.std.specs.Prelude.{slice_get}
use Rattle.khepri_terms.specs.Names.{comp_text}
use Rattle.khepri_terms.specs.Terms.{NameText}
use Rattle.khepri_types.specs.Conditions.{last_name}
use Rattle.khepri_types.specs.Texts.{last_text}

pub last_is : (p : List NameText) (i : ℕ) (n : NameText) → slice_get p i ≡ Some n → suc i ≡ length p → Some n ≡ last_name p
last_is [] i n h e = absurd cc
last_is (m ∷ []) zero n h e = sym h
last_is (m ∷ []) (suc i) n h e = absurd cc
last_is (m ∷ k ∷ p) zero n h e = absurd (omega arith)
last_is (m ∷ k ∷ p) (suc i) n h e = last_is (k ∷ p) i n h (omega arith)

pub last_size : (p : List NameText) (i : ℕ) (n : NameText) → slice_get p i ≡ Some n → suc i ≡ length p → length (last_text p) ≡ length (comp_text n)
last_size [] i n h e = absurd cc
last_size (m ∷ []) zero n h e = let same : m ≡ n = cc in ap (λ (k : NameText). length (comp_text k)) same
last_size (m ∷ []) (suc i) n h e = absurd cc
last_size (m ∷ k ∷ p) zero n h e = absurd (omega arith)
last_size (m ∷ k ∷ p) (suc i) n h e = last_size (k ∷ p) i n h (omega arith)

pub root_last : (p : List NameText) → length p ≡ 0 → last_text p ≡ []
root_last [] e = refl
root_last (m ∷ p) e = absurd (omega arith)
