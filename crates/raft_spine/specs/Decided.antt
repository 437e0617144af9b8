-- What is decided. Raft, sections 5.3 and 5.4.2: an entry is committed once a majority holds it and it is of the leader's own term;
-- with it all entries before it are committed.
use Rattle.std.specs.Prelude.{◌≢◌, ◌⊎◌, ℕ, suc, ◌≤◌, leb, List, length}
use Rattle.raft_types.specs.declared.entry.LogEntry.{LogEntry}
use Rattle.raft_spine.specs.Quorum.{IsQuorum}
use Rattle.raft_spine.specs.Logs.{IsOfTerm, IsFront}
use Rattle.raft_spine.specs.Start.{Start}
use Rattle.raft_spine.specs.Spine.{Spine}

-- entry i of the leader's log of term t is of that term, and a majority was seen to share it
pub record IsCommitted (b : Start) (s : Spine) (t i : ℕ) : Type 0 where
  pub led : s.leader t ≢ 0
  pub own : IsOfTerm (s.leader_log t) t i
  pub most : IsQuorum b.members (λ j. leb (suc i) (s.shared j t))

-- the list is a front of a leader's log in a term up to the bound, and ends no later than an entry that is committed there
pub record IsCovered (b : Start) (s : Spine) (bound : ℕ) (p : List LogEntry) : Type 0 where
  pub term : ℕ
  pub place : ℕ
  pub up_to : term ≤ bound
  pub committed : IsCommitted b s term place
  pub short : length p ≤ suc place
  pub front : IsFront p (s.leader_log term)

-- the list is decided in terms up to the bound: it is a front of what all began with, or is covered by a committed entry
pub record Decided (b : Start) (s : Spine) (bound : ℕ) (p : List LogEntry) : Type 0 where
  pub how : IsFront p b.log ⊎ IsCovered b s bound p
