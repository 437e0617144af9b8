use Rattle.std.proofs.Common.{◌≡◌, ◌+◌, ◌*◌, ◌≤◌, ◌++◌, List, length}
use Rattle.std.specs.Prelude.{IsTrue}
use Rattle.std.specs.List.Sorted.{IsStrictlySortedBy}
use Rattle.khepri_terms.specs.Terms.{NameText}
use Rattle.khepri_terms.specs.Order.{path_cmp}
use Rattle.khepri_types.specs.declared.limits.TheConstants.{MAX_WATCHES}
use Rattle.khepri_types.specs.Tree.{stands}
use Rattle.worklist_laws.specs.Candidates.{is_in, IsWithin}
use Rattle.keep_while.specs.Costs.{AreApart}
use Rattle.keep_while.proofs.Gathering.{FailsSoFar}
use Rattle.keep_while.proofs.gather.failing_tops.Given as goal

abbrev pub invariant-loop-path : goal.invariant-loop-path
invariant-loop-path g l = record {
  done : List (List NameText);
  rest : done ++ l.path-iterator ≡ l.candidates.keys;
  tops : FailsSoFar l.draft.tree done l.tops.items;
  within : IsWithin l.tops.items done;
  standing : (p : List NameText) → IsTrue (is_in l.tops.items p) → IsTrue (stands l.draft.tree p);
  rising : IsStrictlySortedBy path_cmp l.tops.items;
  apart : AreApart l.tops.items;
  cost : l.steps ≤ l.fn.steps + (1 + MAX_WATCHES) * length done;
  risen : l.fn.steps ≤ l.steps;
}
