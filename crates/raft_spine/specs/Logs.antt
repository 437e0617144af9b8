-- Whole logs: lists of entries, whose places count from 0.
use Rattle.std.specs.Prelude.{◌≡◌, ℕ, ◌<◌, List, length, take}
use Rattle.raft_types.specs.declared.entry.LogEntry.{LogEntry}
use Rattle.raft_types.specs.Log.{term_at}

-- the log has an entry at place i, and that entry is of term t
pub record IsOfTerm (l : List LogEntry) (t i : ℕ) : Type 0 where
  pub below : i < length l
  pub term : term_at l i ≡ t

-- two logs have the same first n entries
abbrev pub SameFirst : ℕ → List LogEntry → List LogEntry → Type 0
SameFirst n l m = take n l ≡ take n m

-- the first list is a front of the second one
abbrev pub IsFront : List LogEntry → List LogEntry → Type 0
IsFront p l = take (length p) l ≡ p
