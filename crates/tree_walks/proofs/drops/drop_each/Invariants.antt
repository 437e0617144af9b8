use Rattle.std.specs.Prelude.{◌≡◌, take}
use Rattle.tree_walks.proofs.Dropping.{Dropped}
use Rattle.tree_walks.proofs.drops.drop_each.Given as goal

abbrev pub invariant-paths : goal.invariant-paths
invariant-paths l = record {
  base : l.draft.base ≡ l.fn.draft.base;
  dropped : Dropped (take l.path-index l.paths) l.losers.keys l.fn.draft.tree l.draft.tree l.fn.draft.touched l.draft.touched;
}
