-- What a machine stands for.
use Rattle.std.specs.Prelude.{Option, Some, None}
use Rattle.khepri_types.specs.Exec.{State, opening_state}

-- the state that is kept; a machine that keeps none may only be dropped
abbrev pub kept_state : Option State → State
kept_state None = opening_state
kept_state (Some S) = S
