use Rattle.std.proofs.Common.{◌≡◌, ◌≤◌, ℕ, []}
use Rattle.std.specs.FinMap.{len}
use Rattle.worklist_laws.specs.Candidates.{IsEnough, ListsAll}
use Rattle.worklist_laws.specs.Links.{linked_to}
use Rattle.keep_while.specs.Costs.{IsPaidSoFar, OnlyWatch}
use Rattle.keep_while.specs.Gathering.{AreOut, asked, both}
use Rattle.keep_while.proofs.Settled.{Settling}
use Rattle.keep_while.proofs.worklist.rounds.Given as goal

abbrev pub invariant-rounds : goal.invariant-rounds
invariant-rounds g l = record {
  settling : Settling l.fn.draft l.draft;
  enough : IsEnough l.draft.tree l.candidates.keys;
  lists : ListsAll l.draft.tree (both l.fn.draft.touched (linked_to l.watchers) (linked_to l.written));
  left : AreOut l.fn.draft.touched l.draft.tree l.out.left.keys;
  gone : AreOut [] l.draft.tree l.out.gone.keys;
  asked : OnlyWatch l.draft.tree (asked l.out.left.keys l.out.gone.keys (linked_to l.watchers) (linked_to l.written));
  paid : (start : ℕ) → IsPaidSoFar l.fn.draft l.fn.draft.tree l.fn.first.keys start l.fn.steps → IsPaidSoFar l.fn.draft l.draft.tree l.candidates.keys start l.steps;
  before : l.before ≡ len l.fn.draft.tree;
  risen : l.fn.steps ≤ l.steps;
}

abbrev pub decreases-rounds : goal.decreases-rounds
decreases-rounds g l = len l.draft.tree
