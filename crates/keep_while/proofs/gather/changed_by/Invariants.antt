use Rattle.std.proofs.Common.{◌≤◌, ◌+◌, take}
use Rattle.keep_while.specs.Costs.{KeepsUnder, walks}
use Rattle.keep_while.specs.Gathering.{GoesUnder, HasNear}
use Rattle.keep_while.proofs.Noting.{StandsNear}
use Rattle.keep_while.proofs.gather.changed_by.Given as goal

abbrev pub invariant-loop-top : goal.invariant-loop-top
invariant-loop-top g l = record {
  near : HasNear l.draft.tree (take l.top-index l.tops) l.set.keys;
  left : GoesUnder (take l.top-index l.tops) l.fn.out.left.keys l.out.left.keys;
  gone : GoesUnder (take l.top-index l.tops) l.fn.out.gone.keys l.out.gone.keys;
  only : StandsNear l.draft.tree (take l.top-index l.tops) l.set.keys;
  keeps_left : KeepsUnder l.draft.tree (take l.top-index l.tops) l.fn.out.left.keys l.out.left.keys;
  keeps_gone : KeepsUnder l.draft.tree (take l.top-index l.tops) l.fn.out.gone.keys l.out.gone.keys;
  cost : l.steps ≤ l.fn.steps + walks l.draft.tree (take l.top-index l.tops);
  risen : l.fn.steps ≤ l.steps;
}
