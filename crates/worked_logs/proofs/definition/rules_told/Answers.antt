-- The script, computed.
use Rattle.std.proofs.Common.{refl}
use Rattle.worked_logs.proofs.definition.rules_told.Goals as goal

pub returns : goal.returns
returns c = refl
