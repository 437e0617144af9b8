-- The entries that are left stand behind the items.
use Rattle.std.proofs.Common.{◌≡◌, ◌+◌, ◌++◌, length}
use Rattle.raft_types.specs.Items.{number}
use Rattle.raft_core.proofs.appending.number_all.Given as goal

abbrev pub invariant-numbered : goal.invariant-numbered
invariant-numbered l =
    (l.items.items ++ number l.at l.left.items ≡ l.initial.items.items ++ number l.index l.fn.entries.items) × (l.at + length l.left.items ≡ l.index + length l.fn.entries.items)

abbrev pub decreases-numbered : goal.decreases-numbered
decreases-numbered l = length l.left.items
