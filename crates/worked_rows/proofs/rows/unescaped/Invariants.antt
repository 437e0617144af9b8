use Rattle.std.proofs.Common.{length}
use Rattle.worked_rows.proofs.rows.unescaped.Given as goal

abbrev pub decreases-rest : goal.decreases-rest
decreases-rest l = length l.rest
