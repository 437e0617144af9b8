use Rattle.std.proofs.Common.{◌≤◌, ◌+◌, [], ◌∷◌, length, Some}
use Rattle.std.specs.List.{filter}
use Rattle.khepri_types.specs.Paths.{is_front}
use Rattle.tree_nodes.proofs.Walking.{ahead}
use Rattle.worklist_laws.specs.Candidates.{IsWithin}
use Rattle.worklist_laws.proofs.Among.{Entry}
use Rattle.keep_while.specs.Costs.{below, OnlyBelow}
use Rattle.keep_while.specs.Gathering.{GoesUnder}
use Rattle.keep_while.proofs.Gathering.{Walked}
use Rattle.keep_while.proofs.gather.add_below.Given as goal

abbrev pub invariant-walk : goal.invariant-walk
invariant-walk g l = record {
  walked : Walked l.draft.tree l.top l.at l.set.keys;
  walked_left : Walked l.draft.tree l.top l.at l.out.left.keys;
  walked_gone : Walked l.draft.tree l.top l.at l.out.gone.keys;
  stays : IsWithin l.fn.set.keys l.set.keys;
  stays_left : IsWithin l.fn.out.left.keys l.out.left.keys;
  stays_gone : IsWithin l.fn.out.gone.keys l.out.gone.keys;
  left : GoesUnder (l.top ∷ []) l.fn.out.left.keys l.out.left.keys;
  gone : GoesUnder (l.top ∷ []) l.fn.out.gone.keys l.out.gone.keys;
  only : OnlyBelow l.draft.tree l.top l.fn.set.keys l.set.keys;
  cost : l.steps + length (filter (λ (e : Entry). is_front l.top e.0) (ahead l.draft.tree (Some l.at))) ≤ l.fn.steps + below l.draft.tree l.top;
  risen : l.fn.steps ≤ l.steps;
}

abbrev pub decreases-walk : goal.decreases-walk
decreases-walk g l = length (ahead l.draft.tree (Some l.at))
