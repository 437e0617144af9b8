-- What the list says is what the rest says after what was read.
use Rattle.std.proofs.Common.{◌≡◌, drop}
use Rattle.raft_durable.specs.Stores.{start, took_all}
use Rattle.raft_durable.proofs.kept.Kept.read.Given as goal

abbrev pub invariant-items : goal.invariant-items
invariant-items l = took_all start l.items ≡ took_all l.reading (drop l.item-index l.items)
