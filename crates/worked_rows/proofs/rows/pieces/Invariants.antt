use Rattle.std.proofs.Common.{length}
use Rattle.worked_rows.proofs.rows.pieces.Given as goal

abbrev pub decreases-pieces : goal.decreases-pieces
decreases-pieces l = length l.rest
