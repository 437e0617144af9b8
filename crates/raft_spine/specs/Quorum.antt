-- Majorities of a list of members.
use Rattle.std.specs.Prelude.{ℕ, ◌*◌, ◌<◌, Bool, List, length}
use Rattle.raft_types.specs.Quorum.{tally}

-- more than half of the members pass the test
pub record IsQuorum (members : List ℕ) (p : ℕ → Bool) : Type 0 where
  pub most : length members < 2 * tally p members
