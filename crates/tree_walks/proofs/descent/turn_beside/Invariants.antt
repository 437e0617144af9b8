use Rattle.std.proofs.Common.{◌≤◌, length, take}
use Rattle.tree_walks.proofs.Descending.{Beside}
use Rattle.tree_walks.proofs.descent.turn_beside.Given as goal

-- no node under the first so many turns comes after the way
abbrev pub invariant-up : goal.invariant-up
invariant-up l = record {
  within : l.len ≤ length l.way;
  beside : Beside l.root l.way (take l.len l.way);
}

abbrev pub decreases-up : goal.decreases-up
decreases-up l = l.len
