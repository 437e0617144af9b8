use Rattle.std.specs.Prelude.{◌≡◌, ◌+◌, ◌<◌, length, take, None}
use Rattle.std.specs.FinMap.{get}
use Rattle.tree_walks.proofs.grow.standing_front.Given as goal

abbrev pub invariant-up : goal.invariant-up
invariant-up l = record {
  within : l.above < length l.path;
  missing : get l.draft.tree (take (l.above + 1) l.path) ≡ None;
}

abbrev pub decreases-up : goal.decreases-up
decreases-up l = l.above
