-- The invariant of the spine. Each notion takes the functions that it reads, so that a move that changes none of them keeps it as it stands.
use Rattle.std.specs.Prelude.{◌≡◌, ◌≢◌, ◌⊎◌, ℕ, suc, ◌<◌, ◌≤◌, Bool, ◌||◌, leb, ◌==◌, List, length, Some}
use Rattle.raft_types.specs.declared.entry.LogEntry.{LogEntry}
use Rattle.raft_spine.specs.Quorum.{IsQuorum}
use Rattle.raft_spine.specs.Logs.{IsOfTerm, SameFirst, IsFront}
use Rattle.raft_types.specs.Log.{term_at}
use Rattle.raft_spine.specs.Start.{Start}
use Rattle.raft_spine.specs.Spine.{Spine}

-- node j was seen to share entry i with the leader of term t, or may yet be
abbrev pub could : (ℕ → ℕ → ℕ) → (ℕ → ℕ) → ℕ → ℕ → ℕ → Bool
could shared term t i j = leb (suc i) (shared j t) || leb (term j) t

-- no majority can ever share entry i with the leader of term t
pub record Dead (b : Start) (shared : ℕ → ℕ → ℕ) (term : ℕ → ℕ) (t i : ℕ) : Type 0 where
  pub none : IsQuorum b.members (could shared term t i) → ⊥

-- log l has log m up to entry i, or that entry of term t is dead
abbrev pub Safe : Start → (ℕ → ℕ → ℕ) → (ℕ → ℕ) → ℕ → ℕ → List LogEntry → List LogEntry → Type 0
Safe b shared term t i m l = SameFirst (suc i) l m ⊎ Dead b shared term t i

-- log l has the log of term t's leader up to its entry i, or that entry is dead
abbrev pub Has : Start → Spine → ℕ → ℕ → List LogEntry → Type 0
Has b s t i l = Safe b s.shared s.term t i (s.leader_log t) l

-- every entry of the log stands in the log of its term's leader, after the same entries
pub record Rooted (b : Start) (leader : ℕ → ℕ) (leader_log : ℕ → List LogEntry) (bound : ℕ) (l : List LogEntry) : Type 0 where
  pub known : (i : ℕ) → i < length l → (term_at l i ≤ b.term) ⊎ (leader (term_at l i) ≢ 0)
  pub same : (i : ℕ) → i < length l → SameFirst (suc i) l (leader_log (term_at l i))
  pub rising : (i k : ℕ) → i ≤ k → k < length l → term_at l i ≤ term_at l k
  pub bounded : (i : ℕ) → i < length l → term_at l i ≤ bound
  pub begun : IsFront b.log l

-- node k is one that may have stood in term t
pub record Candidate (b : Start) (voted : ℕ → ℕ → ℕ) (k t : ℕ) : Type 0 where
  pub is_node : k ≢ 0
  pub late : b.term < t
  pub own_vote : voted k t ≡ k

-- a majority voted for node k in term t
pub record Elected (b : Start) (voted : ℕ → ℕ → ℕ) (t k : ℕ) : Type 0 where
  pub late : b.term < t
  pub votes : IsQuorum b.members (λ j. voted j t == k)

-- what node j was seen to share with the leader of term t
pub record Shares (leader : ℕ → ℕ) (leader_log : ℕ → List LogEntry) (term : ℕ → ℕ) (shared : ℕ → ℕ → ℕ) (j t : ℕ) : Type 0 where
  pub led : leader t ≢ 0
  pub within : shared j t ≤ length (leader_log t)
  pub past : t ≤ term j

-- what holds of the spine after every list of moves
pub record Sound (b : Start) (s : Spine) : Type 0 where
  -- nobody voted in a term that is still before it
  pub voted_past : (j t : ℕ) → s.term j < t → s.voted j t ≡ 0
  -- who got a vote stood in that term
  pub voted_stood : (j t : ℕ) → b.term < t → s.voted j t ≢ 0 → (l : List LogEntry) × (s.stood (s.voted j t) t ≡ Some l)
  -- who stood voted for itself, in a term above that of the start
  pub candidates : (k t : ℕ) (l : List LogEntry) → s.stood k t ≡ Some l → Candidate b s.voted k t
  -- a candidate's log stays until its term has a leader
  pub candidate_log : (k : ℕ) (l : List LogEntry) → s.stood k (s.term k) ≡ Some l → s.leader (s.term k) ≡ 0 → s.log k ≡ l
  -- a majority voted for each leader
  pub elected : (t : ℕ) → s.leader t ≢ 0 → Elected b s.voted t (s.leader t)
  -- a node that leads its term has the leader's log
  pub own_log : (k : ℕ) → k ≢ 0 → s.leader (s.term k) ≡ k → s.log k ≡ s.leader_log (s.term k)
  -- the logs of the nodes, of the leaders and of the candidates are rooted
  pub logs : (j : ℕ) → Rooted b s.leader s.leader_log (s.term j) (s.log j)
  pub leader_logs : (t : ℕ) → s.leader t ≢ 0 → Rooted b s.leader s.leader_log t (s.leader_log t)
  pub stood_logs : (k t : ℕ) (l : List LogEntry) → s.stood k t ≡ Some l → Rooted b s.leader s.leader_log t l
  -- a node was seen to share only what there is, in terms that it came to
  pub shares : (j t : ℕ) → 0 < s.shared j t → Shares s.leader s.leader_log s.term s.shared j t
  -- what a node was seen to share of a leader's own entries it still has, or they are dead
  pub holder_has : (j t i : ℕ) → IsOfTerm (s.leader_log t) t i → i < s.shared j t → Has b s t i (s.log j)
  -- a later leader has a leader's own entries, or they are dead
  pub later_has : (t u i : ℕ) → t < u → s.leader t ≢ 0 → s.leader u ≢ 0 → IsOfTerm (s.leader_log t) t i → Has b s t i (s.leader_log u)
  -- whom a node voted for in a later term has what the voter was seen to share of a leader's own entries, or they are dead
  pub voted_has : (j t u i : ℕ) (l : List LogEntry) → t < u → s.voted j u ≢ 0 → s.stood (s.voted j u) u ≡ Some l
      → IsOfTerm (s.leader_log t) t i → i < s.shared j t → Has b s t i l
