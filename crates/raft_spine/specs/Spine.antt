-- The spine: what the safety of the log is about. It has no messages, no roles, no commit index and no snapshots.
use Rattle.std.specs.Prelude.{ℕ, cond, ◌==◌, List, Option, None}
use Rattle.raft_types.specs.declared.entry.LogEntry.{LogEntry}
use Rattle.raft_spine.specs.Start.{Start}

-- what each node keeps, and what is remembered of every term
pub record Spine : Type 0 where
  -- of a node: its term
  pub term : ℕ → ℕ
  -- of a node: its whole log
  pub log : ℕ → List LogEntry
  -- of a node in a term: for whom it voted; 0 for nobody
  pub voted : ℕ → ℕ → ℕ
  -- of a node in a term: the log with which it stood for election, if it stood
  pub stood : ℕ → ℕ → Option (List LogEntry)
  -- of a term: who was elected; 0 for nobody
  pub leader : ℕ → ℕ
  -- of a term: the log of its leader, as far as it grew in that term
  pub leader_log : ℕ → List LogEntry
  -- of a node in a term: how many first entries it was seen to share with that term's leader, who keeps it as the match index
  pub shared : ℕ → ℕ → ℕ

-- every node has the one store, and nobody was elected yet
abbrev pub begin : Start → Spine
begin b =
    record {
      term = λ j. b.term;
      log = λ j. b.log;
      voted = λ j t. cond (t == b.term) b.vote 0;
      stood = λ j t. None;
      leader = λ t. 0;
      leader_log = λ t. b.log;
      shared = λ j t. 0;
    }

-- f, but with v at k
abbrev pub at : {A : Type 0} → (ℕ → A) → ℕ → A → ℕ → A
at f k v j = cond (j == k) v (f j)

-- f, but with v at k and t
abbrev pub at2 : {A : Type 0} → (ℕ → ℕ → A) → ℕ → ℕ → A → ℕ → ℕ → A
at2 f k t v j = cond (j == k) (at (f j) t v) (f j)
