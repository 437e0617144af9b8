use Rattle.std.proofs.Common.{◌≡◌, take}
use Rattle.khepri_types.proofs.row.copy_changes.Given as goal

-- so far the copy has the changes that were passed
abbrev pub invariant-loop-change : goal.invariant-loop-change
invariant-loop-change l = l.copy.items ≡ take l.change-index l.changes
