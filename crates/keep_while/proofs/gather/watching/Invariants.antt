use Rattle.worklist_laws.specs.Links.{linked_to}
use Rattle.std.proofs.Common.{◌≡◌, ◌++◌, List}
use Rattle.khepri_terms.specs.Terms.{NameText}
use Rattle.worklist_laws.specs.Candidates.{IsWithin}
use Rattle.keep_while.specs.Costs.{OnlyAsks}
use Rattle.keep_while.specs.Gathering.{asked, Asks}
use Rattle.keep_while.proofs.gather.watching.Given as goal

abbrev pub invariant-loop-path : goal.invariant-loop-path
invariant-loop-path l = record {
  done : List (List NameText);
  rest : done ++ l.path-iterator ≡ l.changed.keys;
  asks : Asks (asked l.out.left.keys l.out.gone.keys (linked_to l.watchers) (linked_to l.written)) done l.set.keys;
  stays : IsWithin l.fn.candidates.keys l.set.keys;
  only : OnlyAsks (asked l.out.left.keys l.out.gone.keys (linked_to l.watchers) (linked_to l.written)) done l.fn.candidates.keys l.set.keys;
}
