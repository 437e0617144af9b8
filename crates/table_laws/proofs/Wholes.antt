-- A text that is read whole.
use Rattle.std.proofs.Common.{◌≡◌, ℕ, List, [], ◌∷◌, ap, Option, Some, None}
use Rattle.khepri_terms.proofs.Cases.{some_is}
use Rattle.khepri_types.specs.ProjectionLines.{whole}

pub whole_is : {X : Type 0} (o : Option (X × List ℕ)) (x : X) → whole o ≡ Some x → o ≡ Some (x, [])
whole_is None x e = absurd cc
whole_is (Some (y, [])) x e = ap (λ z. Some (z, [])) (some_is y x e)
whole_is (Some (y, b ∷ rest)) x e = absurd cc
