use Rattle.std.proofs.Common.{◌≡◌, List, ◌++◌, length}
use Rattle.khepri_types.specs.declared.row.RowStep.{RowStep}
use Rattle.khepri_types.specs.Tables.{run}
use Rattle.projected_table.proofs.board.PlainBoardBoard.publish.Given as goal

-- some first steps are published, and the others are pending
abbrev pub invariant-steps : goal.invariant-steps
invariant-steps l = (done : List RowStep) × (l.initial.self.pending.items ≡ done ++ l.self.pending.items) × (l.self.tables ≡ run done l.initial.self.tables)

abbrev pub decreases-steps : goal.decreases-steps
decreases-steps l = length l.self.pending.items
