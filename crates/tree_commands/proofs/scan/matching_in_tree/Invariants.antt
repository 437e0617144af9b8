use Rattle.std.proofs.Common.{◌≡◌, ◌+◌, List, map}
use Rattle.tree_commands.proofs.Gathering.{Entry, Scanned}
use Rattle.tree_commands.proofs.scan.matching_in_tree.Given as goal

abbrev pub invariant-nodes : goal.invariant-nodes
invariant-nodes g l =
    (es : List Entry) × Scanned l.pattern l.walk.tree l.counter l.walk.last l.masks es × (l.paths.items ≡ map (λ e. e.0) es) × (l.walk.tree ≡ l.tree) × (l.steps ≡ l.fn.steps + l.counter)
