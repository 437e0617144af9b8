-- What every message in flight says of the spine. Each claim stays true.
-- b is how the nodes began, len the length of the snapshot that stands for entries, s the spine, t the term of the message; pi, li and i are
-- indexes, pt, lt and bt the terms there, es entries, mc a commit index, off and total numbers of bytes, n a number of entries of a whole log.
use Rattle.std.specs.Prelude.{◌≡◌, ◌≢◌, ◌⊎◌, ℕ, ◌+◌, ◌≤◌, true, List, length, take, drop, Some}
use Rattle.raft_types.specs.declared.entry.LogEntry.{LogEntry}
use Rattle.raft_types.specs.declared.message.Body.{Body}
use Rattle.raft_types.specs.declared.message.Body.TheVariants.{Vote, VoteReply, Append, AppendReply, Chunk, ChunkReply}
use Rattle.raft_spine.specs.Start.{Start}
use Rattle.raft_spine.specs.Spine.{Spine}
use Rattle.raft_spine.specs.Moves.{last_term}
use Rattle.raft_spine.specs.Decided.{Decided}

-- a piece of a list, from a place on
pub record Piece (m : List LogEntry) (p : ℕ) (es : List LogEntry) : Type 0 where
  pub within : p + length es ≤ length m
  pub is : take (length es) (drop p m) ≡ es

-- a candidate stood in the term with a log of this end
pub record AskClaim (b : Start) (s : Spine) (from t li lt : ℕ) : Type 0 where
  pub log : List LogEntry
  pub stood : s.stood from t ≡ Some log
  pub index : li ≡ b.base + length log
  pub last : lt ≡ last_term b log

-- the sender leads the term, its log has these entries after this index and term, and what the message says to be committed
-- of them is decided
pub record AppendClaim (b : Start) (s : Spine) (from t pi pt : ℕ) (es : List LogEntry) (mc : ℕ) : Type 0 where
  pub led : s.leader t ≢ 0
  pub leader : s.leader t ≡ from
  pub n : ℕ
  pub index : pi ≡ b.base + n
  pub piece : Piece (s.leader_log t) n es
  pub prev : pt ≡ last_term b (take n (s.leader_log t))
  pub commit : (c : ℕ) → b.base + c ≤ mc → c ≤ n + length es → Decided b s t (take c (s.leader_log t))

-- the sender leads the term, and its log up to this index is decided and ends with this term; its snapshot has this length
pub record ChunkClaim (b : Start) (len : List LogEntry → ℕ) (s : Spine) (from t i bt total : ℕ) : Type 0 where
  pub led : s.leader t ≢ 0
  pub leader : s.leader t ≡ from
  pub n : ℕ
  pub index : i ≡ b.base + n
  pub long : n ≤ length (s.leader_log t)
  pub last : bt ≡ last_term b (take n (s.leader_log t))
  pub decided : Decided b s t (take n (s.leader_log t))
  pub size : total ≡ len (take n (s.leader_log t))

-- a node that holds as many bytes as the snapshot up to this index has shares the leader's log up to there
pub record HeldClaim (b : Start) (len : List LogEntry → ℕ) (s : Spine) (from t i off : ℕ) : Type 0 where
  pub led : s.leader t ≢ 0
  pub n : ℕ
  pub index : i ≡ b.base + n
  pub long : n ≤ length (s.leader_log t)
  pub whole : len (take n (s.leader_log t)) ≤ off → n ≤ s.shared from t

-- what a message from one node to another claims, by its body: a granted vote was given, and what is acknowledged is shared
abbrev pub Claim : Start → (List LogEntry → ℕ) → Spine → ℕ → ℕ → Body → Type 0
Claim b len s from to (Vote t li lt) = AskClaim b s from t li lt
Claim b len s from to (VoteReply t g) = g ≡ true → s.voted from t ≡ to
Claim b len s from to (Append t pi pt es mc) = AppendClaim b s from t pi pt es mc
Claim b len s from to (AppendReply t ok i) = ok ≡ true → (s.leader t ≢ 0) × (i ≤ b.base + s.shared from t)
Claim b len s from to (Chunk t i bt off total bytes) = ChunkClaim b len s from t i bt total
Claim b len s from to (ChunkReply t i off) = (off ≡ 0) ⊎ HeldClaim b len s from t i off
