-- Setting an item at a place.
use Rattle.std.proofs.Common.{◌≡◌, ℕ, zero, suc, ◌<◌, ◌≤◌, List, [], ◌∷◌, length, slice_set, refl, ap, arith}
use Rattle.khepri_types.specs.Registers.{set_at}

pub set_within : {X : Type 0} (n : ℕ) (x : X) (xs : List X) → n < length xs → slice_set xs n x ≡ set_at n x xs
set_within n x [] h = absurd (omega (arith, h))
set_within zero x (y ∷ ys) h = refl
set_within (suc n) x (y ∷ ys) h = ap (λ (zs : List _). y ∷ zs) (set_within n x ys (omega (arith, h)))

pub set_beyond : {X : Type 0} (n : ℕ) (x : X) (xs : List X) → length xs ≤ n → set_at n x xs ≡ xs
set_beyond n x [] h = refl
set_beyond zero x (y ∷ ys) h = absurd (omega (arith, h))
set_beyond (suc n) x (y ∷ ys) h = ap (λ (zs : List _). y ∷ zs) (set_beyond n x ys (omega (arith, h)))
