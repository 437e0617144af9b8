use Rattle.std.proofs.Common.{◌≤◌, ◌+◌, ◌*◌, [], length}
use Rattle.std.specs.Option.{option_copied}
use Rattle.worklist_laws.specs.Candidates.{IsWithin}
use Rattle.worklist_laws.specs.Links.{linked_to}
use Rattle.keep_while.specs.Costs.{AreAnew, LinksTouched}
use Rattle.keep_while.specs.Gathering.{AreOut}
use Rattle.keep_while.proofs.Firsts.{Leaves}
use Rattle.keep_while.proofs.Looking.{Looked, to_touch}
use Rattle.keep_while.proofs.first.look_at_all.Given as goal

abbrev pub invariant-touched : goal.invariant-touched
invariant-touched g l = record {
  looked : Looked l.draft.base l.draft.tree l.written l.draft.touched l.tests.keys l.changed.keys (option_copied l.after);
  left : IsWithin l.out.left.keys l.draft.touched;
  gone : AreOut [] l.draft.tree l.out.gone.keys;
  tested : IsWithin l.tests.keys l.draft.touched;
  leaves : Leaves l.draft.touched (option_copied l.after) l.out.left.keys;
  anew : AreAnew l.draft.base l.draft.tree l.changed.keys;
  only : LinksTouched l.draft.tree l.draft.touched (linked_to l.written);
  cost : l.steps + 8 * length (to_touch l.draft.touched (option_copied l.after)) ≤ l.fn.steps + 8 * length l.draft.touched;
  risen : l.fn.steps ≤ l.steps;
}

abbrev pub decreases-touched : goal.decreases-touched
decreases-touched g l = length (to_touch l.draft.touched (option_copied l.after))
