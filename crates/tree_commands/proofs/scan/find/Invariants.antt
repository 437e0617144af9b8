use Rattle.std.proofs.Common.{◌≡◌, ◌+◌, List}
use Rattle.tree_commands.specs.Listing.{Lists}
use Rattle.tree_commands.proofs.Gathering.{Entry, Scanned}
use Rattle.tree_commands.proofs.scan.find.Given as goal

abbrev pub invariant-nodes : goal.invariant-nodes
invariant-nodes g l =
    (es : List Entry) × Scanned l.pattern l.walk.tree l.counter l.walk.last l.masks es × Lists l.walk.tree l.limit es l.found × (l.walk.tree ≡ l.tree) × (l.steps ≡ l.fn.steps + l.counter)
