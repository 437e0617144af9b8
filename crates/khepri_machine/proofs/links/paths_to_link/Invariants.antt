use Rattle.std.proofs.Common.{length}
use Rattle.std.specs.Option.{option_copied}
use Rattle.keep_while.proofs.Looking.{to_touch}
use Rattle.khepri_machine.specs.Following.{Noted}
use Rattle.khepri_machine.proofs.links.paths_to_link.Given as goal

abbrev pub invariant-touched : goal.invariant-touched
invariant-touched g l = record {
  noted : Noted l.draft.base l.draft.tree l.draft.touched (option_copied l.after) l.paths.items;
}

abbrev pub decreases-touched : goal.decreases-touched
decreases-touched g l = length (to_touch l.draft.touched (option_copied l.after))
