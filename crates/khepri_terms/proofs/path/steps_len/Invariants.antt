use Rattle.std.proofs.Common.{◌≡◌, length, take}
use Rattle.std.specs.List.{flat_map}
use Rattle.khepri_terms.specs.Lengths.{capped}
use Rattle.khepri_terms.specs.Paths.{step_text}
use Rattle.khepri_terms.proofs.path.steps_len.Given as goal

abbrev pub invariant-loop-name : goal.invariant-loop-name
invariant-loop-name l = l.len ≡ capped (length (flat_map step_text (take l.name-index l.names)))
