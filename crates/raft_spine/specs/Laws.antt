-- The laws, of every spine that moves reach from nodes that begin with one and the same store.
use Rattle.std.specs.Prelude.{◌≡◌, ◌≢◌, ◌⊎◌, ℕ, suc, ◌<◌, ◌≤◌, ◌==◌, List, length, Some}
use Rattle.raft_types.specs.declared.entry.LogEntry.{LogEntry}
use Rattle.raft_spine.specs.Quorum.{IsQuorum}
use Rattle.raft_spine.specs.Logs.{SameFirst, IsFront}
use Rattle.raft_types.specs.Log.{term_at}
use Rattle.raft_spine.specs.Start.{Start, IsStart}
use Rattle.raft_spine.specs.Spine.{Spine, begin}
use Rattle.raft_spine.specs.Moves.{Move, CanAll, moved_all}
use Rattle.raft_spine.specs.Decided.{Decided}

-- some list of moves, each of which may be made, leads from the start to s
pub record IsReached (b : Start) (s : Spine) : Type 0 where
  pub start : IsStart b
  pub moves : List Move
  pub can : CanAll b (begin b) moves
  pub is : moved_all moves (begin b) ≡ s

-- two nodes that majorities voted for in one term are one, and a majority voted for each leader
pub record OneLeader (b : Start) (s : Spine) : Type 0 where
  pub one : (t j k : ℕ) → IsQuorum b.members (λ x. s.voted x t == j) → IsQuorum b.members (λ x. s.voted x t == k) → j ≡ k
  pub backed : (t : ℕ) → s.leader t ≢ 0 → IsQuorum b.members (λ x. s.voted x t == s.leader t)

-- two whole logs that have an entry of one term at one place are the same up to it
abbrev pub LogsMatch : Spine → Type 0
LogsMatch s = (j k i : ℕ) → i < length (s.log j) → i < length (s.log k) → term_at (s.log j) i ≡ term_at (s.log k) i → SameFirst (suc i) (s.log j) (s.log k)

-- of two decided histories one is a front of the other
abbrev pub OneHistory : Start → Spine → Type 0
OneHistory b s = (u v : ℕ) (p q : List LogEntry) → Decided b s u p → Decided b s v q → IsFront p q ⊎ IsFront q p

-- a leader's log begins with all that was decided up to its term, and a node that leads now has that in its own log
pub record LeadersHave (b : Start) (s : Spine) : Type 0 where
  pub of_term : (u t : ℕ) (p : List LogEntry) → Decided b s u p → u ≤ t → s.leader t ≢ 0 → IsFront p (s.leader_log t)
  pub of_node : (u k : ℕ) (p : List LogEntry) → Decided b s u p → u ≤ s.term k → k ≢ 0 → s.leader (s.term k) ≡ k → IsFront p (s.log k)

-- what was known in s is known in s' too: terms, votes, candidates, leaders and shares stay or grow, and a leader's log keeps its entries
pub record Grows (s s' : Spine) : Type 0 where
  pub term : (j : ℕ) → s.term j ≤ s'.term j
  pub voted : (j t : ℕ) → s.voted j t ≢ 0 → s'.voted j t ≡ s.voted j t
  pub stood : (j t : ℕ) (l : List LogEntry) → s.stood j t ≡ Some l → s'.stood j t ≡ Some l
  pub leader : (t : ℕ) → s.leader t ≢ 0 → s'.leader t ≡ s.leader t
  pub leader_log : (t : ℕ) → s.leader t ≢ 0 → IsFront (s.leader_log t) (s'.leader_log t)
  pub shared : (j t : ℕ) → s.shared j t ≤ s'.shared j t

-- whatever moves follow, what was known stays known, and what was decided stays decided
pub record ForGood (b : Start) (s : Spine) : Type 0 where
  pub known : (ms : List Move) → CanAll b s ms → Grows s (moved_all ms s)
  pub decided : (ms : List Move) (u v : ℕ) (p : List LogEntry) → CanAll b s ms → u ≤ v → Decided b s u p → Decided b (moved_all ms s) v p
