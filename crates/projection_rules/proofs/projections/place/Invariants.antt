use Rattle.std.proofs.Common.{◌≤◌, ◌-◌, length}
use Rattle.projection_rules.proofs.Ordered.{Passed}
use Rattle.projection_rules.proofs.projections.place.Given as goal

abbrev pub invariant-places : goal.invariant-places
invariant-places l = record {
  within : l.at ≤ length l.all;
  passed : Passed l.name l.all l.at;
}

abbrev pub decreases-places : goal.decreases-places
decreases-places l = length l.all - l.at
