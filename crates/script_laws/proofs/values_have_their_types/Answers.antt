use Rattle.script_laws.proofs.ValueTyping.{suits}
use Rattle.script_laws.proofs.values_have_their_types.Goals as goal

pub returns : goal.returns
returns c e R T = suits e R T
