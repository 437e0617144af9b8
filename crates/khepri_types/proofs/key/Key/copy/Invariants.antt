use Rattle.std.proofs.Common.{◌≡◌, take}
use Rattle.khepri_types.proofs.key.Key.copy.Given as goal

-- so far the copy has the scalars that were passed
abbrev pub invariant-loop-scalar : goal.invariant-loop-scalar
invariant-loop-scalar l = l.scalars.items ≡ take l.scalar-index l.self-inside.scalars.items
