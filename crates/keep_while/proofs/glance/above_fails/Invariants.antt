use Rattle.std.proofs.Common.{◌≡◌, ◌+◌, ◌*◌, ◌≤◌, ◌++◌, List}
use Rattle.khepri_terms.specs.Terms.{NameText}
use Rattle.worklist_laws.specs.Counts.{watching}
use Rattle.worklist_laws.specs.Links.{linked_to}
use Rattle.keep_while.proofs.Glancing.{NoneAsked}
use Rattle.keep_while.proofs.glance.above_fails.Given as goal

abbrev pub invariant-loop-path : goal.invariant-loop-path
invariant-loop-path g l = record {
  done : List (List NameText);
  rest : done ++ l.path-iterator ≡ l.above.keys;
  none : NoneAsked l.draft.tree (linked_to l.watchers) done;
  cost : l.steps ≤ l.fn.steps + 17 * watching l.draft.base done;
  risen : l.fn.steps ≤ l.steps;
}
