use Rattle.std.proofs.Common.{take, ◌++◌}
use Rattle.worklist_laws.specs.Candidates.{IsWithin}
use Rattle.keep_while.specs.Gathering.{without}
use Rattle.keep_while.proofs.gather.note_all.Given as goal

abbrev pub invariant-loop-path : goal.invariant-loop-path
invariant-loop-path l = record {
  these : IsWithin (without l.left.keys (take l.path-index l.paths)) l.set.keys;
  stays : IsWithin l.fn.set.keys l.set.keys;
  only : IsWithin l.set.keys (l.fn.set.keys ++ without l.left.keys (take l.path-index l.paths));
}
