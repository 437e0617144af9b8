-- Two expressions are below one that has both as its parts.
use Rattle.std.proofs.Common.{◌+◌, ◌*◌, max}
use Rattle.khepri_types.proofs.script.Expr.TheLaws.{the_size}
use Rattle.tx_script.proofs.value.+values.Given as goal

abbrev pub decreases-value : goal.decreases-value
decreases-value g l = 2 * the_size l.e.now

abbrev pub decreases-pair : goal.decreases-pair
decreases-pair g l = 2 * max (the_size l.a.now) (the_size l.b.now) + 1
