use Rattle.std.proofs.Common.{length}
use Rattle.worked_tables.proofs.main.Given as goal

abbrev pub decreases-rows : goal.decreases-rows
decreases-rows l = length l.rest
