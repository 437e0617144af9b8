-- A core, or the store of one that stands still, over the whole log that the spine has of its node.
use Rattle.std.specs.Prelude.{◌≡◌, ◌≢◌, ℕ, ◌+◌, ◌-◌, ◌<◌, ◌≤◌, true, All, List, length, take}
use Rattle.raft_types.specs.declared.entry.LogEntry.{LogEntry}
use Rattle.raft_types.specs.declared.state.Role.TheVariants.{Candidate, Leader}
use Rattle.raft_types.specs.Log.{LogParts, compacted}
use Rattle.raft_types.specs.Core.{CoreParts, Out, voted_for, match_of, next_of}
use Rattle.raft_spine.specs.Start.{Start}
use Rattle.raft_spine.specs.Spine.{Spine}
use Rattle.raft_spine.specs.Moves.{Move, actor, CanAll, moved_all}
use Rattle.raft_spine.specs.Decided.{Decided}
use Rattle.raft_claims.specs.Claims.{Claim}

-- the whole log of a node: its entries from the base of the start on
abbrev pub whole_log : Start → List LogEntry → LogParts
whole_log b whole = record { base = b.base; base_term = b.base_term; entries = whole }

-- what a candidate knows: it does not lead its term yet, and each vote that it counts was given
pub record IsStanding (b : Start) (s : Spine) (c : CoreParts) : Type 0 where
  pub late : b.term < c.term
  pub not_yet : s.leader c.term ≢ c.id
  pub votes : (j : ℕ) → 1 ≤ j → voted_for c j ≡ true → s.voted j c.term ≡ c.id

-- what a leader knows: it leads its term, the nodes share what they are counted for, and it sends from no place past its end
pub record IsLeading (b : Start) (s : Spine) (c : CoreParts) (whole : List LogEntry) : Type 0 where
  pub leads : s.leader c.term ≡ c.id
  pub own : s.shared c.id c.term ≡ length whole
  pub matches : (j : ℕ) → 1 ≤ j → match_of c j ≤ b.base + s.shared j c.term
  pub nexts : (j : ℕ) → next_of c j ≤ b.base + length whole + 1

-- a running node: its core has the spine's term and vote, its log stands for the whole one, its snapshot has the length of
-- one that stands for the entries up to the base, and what it takes for committed is decided
pub record Tied (b : Start) (len : List LogEntry → ℕ) (s : Spine) (c : CoreParts) (whole : List LogEntry) : Type 0 where
  pub is_node : c.id ≢ 0
  pub term : s.term c.id ≡ c.term
  pub vote : s.voted c.id c.term ≡ c.vote
  pub log : s.log c.id ≡ whole
  pub stands_for : c.log ≡ compacted (whole_log b whole) c.log.base
  pub size : c.snapshot_len ≡ len (take (c.log.base - b.base) whole)
  pub based : b.base ≤ c.log.base
  pub known : c.log.base ≤ c.commit
  pub short : c.commit ≤ b.base + length whole
  pub decided : Decided b s c.term (take (c.commit - b.base) whole)
  pub standing : c.role ≡ Candidate → IsStanding b s c
  pub leading : c.role ≡ Leader → IsLeading b s c whole

-- the store of node k, which is all that it keeps where it stops: term t, vote v, log l and a snapshot of n bytes
pub record StoreTied (b : Start) (len : List LogEntry → ℕ) (s : Spine) (k t v : ℕ) (l : LogParts) (n : ℕ) (whole : List LogEntry) : Type 0 where
  pub is_node : k ≢ 0
  pub term : s.term k ≡ t
  pub vote : s.voted k t ≡ v
  pub log : s.log k ≡ whole
  pub stands_for : l ≡ compacted (whole_log b whole) l.base
  pub size : n ≡ len (take (l.base - b.base) whole)
  pub based : b.base ≤ l.base
  pub short : l.base ≤ b.base + length whole
  pub decided : Decided b s t (take (l.base - b.base) whole)

-- what an event that ends does, as moves of its node: after them the core is tied again, what it sends is true, and the
-- entries up to the base it had stay
pub record Turned (b : Start) (len : List LogEntry → ℕ) (s : Spine) (c : CoreParts) (whole : List LogEntry) (o : Out) (after : List LogEntry) : Type 0 where
  pub moves : List Move
  pub mine : All (λ m. actor m ≡ c.id) moves
  pub can : CanAll b s moves
  pub tied : Tied b len (moved_all moves s) o.core after
  pub said : All (λ x. (x.from ≡ c.id) × Claim b len (moved_all moves s) x.from x.to x.body) o.messages
  pub front : take (c.log.base - b.base) after ≡ take (c.log.base - b.base) whole
