use Rattle.std.proofs.Common.{◌+◌, ◌*◌, ◌≤◌, take}
use Rattle.khepri_types.specs.declared.limits.TheConstants.{MAX_WATCHES}
use Rattle.keep_while.specs.Gathering.{NoneFails}
use Rattle.keep_while.proofs.glance.some_fail.Given as goal

abbrev pub invariant-loop-node : goal.invariant-loop-node
invariant-loop-node g l = record {
  none : NoneFails l.draft.tree (take l.node-index l.paths);
  cost : l.steps ≤ l.fn.steps + (1 + MAX_WATCHES) * l.node-index;
  risen : l.fn.steps ≤ l.steps;
}
