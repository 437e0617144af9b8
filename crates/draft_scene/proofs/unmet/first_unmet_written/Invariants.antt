use Rattle.std.proofs.Common.{◌≡◌}
use Rattle.khepri_types.specs.Transactions.{unmet_among}
use Rattle.draft_scene.proofs.Picking.{unmet_at}
use Rattle.draft_scene.proofs.unmet.first_unmet_written.Given as goal

abbrev pub invariant-loop-path : goal.invariant-loop-path
invariant-loop-path g l = unmet_among l.draft.tree l.written ≡ unmet_at l.draft.tree l.path-iterator
