-- The orders of keys and of places are total, and only equal ones tie.
use Rattle.std.proofs.Common.{◌≡◌, refl, ap, ◌∙◌, Less, Equal, Greater}
use Rattle.std.specs.Ordering.{is_eq, ordering_then}
use Rattle.std.specs.Cmp.{IsTotalOrder}
use Rattle.std.specs.FinMap.{IsAntisymmetric}
use Rattle.std.proofs.lemmas.Cmp.{on_total, then_total}
use Rattle.khepri_terms.specs.Order.{path_cmp}
use Rattle.khepri_types.proofs.Order.{path_cmp_total, path_cmp-same}
use Rattle.khepri_types.specs.Keys.{Place, key_cmp, key_decides, key_ties, key_total, place_cmp}

pub key_cmp-same : IsAntisymmetric key_cmp
key_cmp-same a b e = (key_decides a b).0 (key_ties a b ∙ ap is_eq e)

pub place_total : IsTotalOrder place_cmp
place_total = then_total (on_total (λ (x : Place). x.0) key_total) (on_total (λ (x : Place). x.1) path_cmp_total)

pub place_same : IsAntisymmetric place_cmp
place_same x y is = elim (key_cmp x.0 y.0) as (λ r. key_cmp x.0 y.0 ≡ r → ordering_then r (path_cmp x.1 y.1) ≡ Equal → x ≡ y) [
  | Less ↦ λ t e. absurd cc
  | Equal ↦ λ t e i. (key_cmp-same x.0 y.0 t i, path_cmp-same x.1 y.1 e i)
  | Greater ↦ λ t e. absurd cc
] refl is
