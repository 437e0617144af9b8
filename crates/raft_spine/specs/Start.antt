-- How the nodes begin: each with one and the same store.
use Rattle.std.specs.Prelude.{ℕ, ◌<◌, ◌≤◌, List, length}
use Rattle.raft_types.specs.declared.entry.LogEntry.{LogEntry}
use Rattle.raft_types.specs.Log.{term_at}

-- the members, and the store that each of them begins with
pub record Start : Type 0 where
  -- the numbers of the nodes; no move is made by node 0
  pub members : List ℕ
  -- the term that each node is in
  pub term : ℕ
  -- for whom each node voted in that term; 0 for nobody
  pub vote : ℕ
  -- the log of each node, from the base on
  pub log : List LogEntry
  -- the index of the base: place i of a whole log is index base + i + 1
  pub base : ℕ
  -- the term of the base
  pub base_term : ℕ

-- terms never fall in the log, and none of them, nor the base's, is above the nodes' term
pub record IsStart (b : Start) : Type 0 where
  pub low : b.base_term ≤ b.term
  pub rising : (i k : ℕ) → i ≤ k → k < length b.log → term_at b.log i ≤ term_at b.log k
  pub bounded : (i : ℕ) → i < length b.log → term_at b.log i ≤ b.term
