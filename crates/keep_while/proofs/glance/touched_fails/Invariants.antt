use Rattle.std.proofs.Common.{◌≤◌, length}
use Rattle.std.specs.Option.{option_copied}
use Rattle.worklist_laws.specs.Links.{linked_to}
use Rattle.keep_while.specs.Costs.{AreAnew}
use Rattle.keep_while.proofs.Glancing.{Glanced, PassesSoFar}
use Rattle.keep_while.proofs.Looking.{to_touch}
use Rattle.keep_while.proofs.glance.touched_fails.Given as goal

abbrev pub invariant-touched : goal.invariant-touched
invariant-touched g l = record {
  passes : PassesSoFar l.draft.base l.draft.tree (linked_to l.watchers) l.draft.touched l.above.keys (option_copied l.after);
  anew : AreAnew l.draft.base l.draft.tree l.above.keys;
  cost : Glanced l.draft (option_copied l.after) l.fn.steps l.steps;
  risen : l.fn.steps ≤ l.steps;
}

abbrev pub decreases-touched : goal.decreases-touched
decreases-touched g l = length (to_touch l.draft.touched (option_copied l.after))
