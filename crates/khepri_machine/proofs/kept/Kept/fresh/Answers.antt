use Rattle.std.proofs.Common.{sym, subst}
use Rattle.std.specs.Prelude.{IsTrue}
use Rattle.khepri_types.specs.Settling.{stable}
use Rattle.khepri_types.specs.Tree.{Tree}
use Rattle.khepri_types.proofs.Staying.{stable-opening}
use Rattle.worklist_laws.specs.Links.{HoldsWatches}
use Rattle.khepri_machine.proofs.Following.{opening-holds}
use Rattle.khepri_machine.proofs.kept.Kept.fresh.Goals as goal

pub invariant_of-result : goal.invariant_of-result
invariant_of-result c = (
  subst (λ (T : Tree). IsTrue (stable T)) (sym c.in_ok-fresh.ensures) stable-opening,
  subst (λ (T : Tree). HoldsWatches T c.fresh-2.result) (sym c.in_ok-fresh.ensures) (opening-holds c.fresh-2.result c.fresh-2.ensures),
)
