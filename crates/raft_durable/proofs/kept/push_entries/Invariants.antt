-- What was pushed and the entries that are left are all.
use Rattle.std.proofs.Common.{◌≡◌, ◌+◌, ℕ, suc, List, ◌++◌, map, drop}
use Rattle.raft_types.specs.Items.{number}
use Rattle.raft_durable.specs.Bytes.{item_bytes}
use Rattle.raft_durable.proofs.kept.push_entries.Given as goal

abbrev pub invariant-entries : goal.invariant-entries
invariant-entries l = (snapshot : List ℕ) → l.items.items ++ map (item_bytes snapshot) (number (suc (l.log.base + l.i)) (drop l.i l.log.entries))
    ≡ l.fn.items.items ++ map (item_bytes snapshot) (number (suc l.log.base) l.log.entries)
