-- What an event of a node asks for, what becomes of the whole log, and what a stop in the event leaves.
use Rattle.std.specs.Prelude.{◌≡◌, ◌≢◌, ℕ, zero, suc, ◌-◌, ◌≤◌, if◌then◌else◌, ⊤, All, List, [], ◌∷◌, take}
use Rattle.raft_types.specs.declared.entry.LogEntry.{LogEntry}
use Rattle.raft_types.specs.declared.event.CoreEvent.{CoreEvent}
use Rattle.raft_types.specs.declared.event.CoreEvent.TheVariants.{Timeout, Beat, Raise, Command, Fire, Heard}
use Rattle.raft_types.specs.declared.item.Item.{Item}
use Rattle.raft_types.specs.declared.item.Item.TheVariants.{Snap, Vote as VoteItem, Entry}
use Rattle.raft_types.specs.declared.message.Body.{Body}
use Rattle.raft_types.specs.declared.message.Body.TheVariants.{Vote, VoteReply, Append, AppendReply, Chunk, ChunkReply}
use Rattle.raft_types.specs.declared.message.Message.{Message}
use Rattle.raft_types.specs.declared.state.Role.TheVariants.{Follower, Leader}
use Rattle.raft_types.specs.Items.{stored, log_after, term_after, vote_after}
use Rattle.raft_types.specs.Core.{CoreParts, Out}
use Rattle.raft_types.specs.Step.{starts_anew}
use Rattle.raft_spine.specs.Logs.{SameFirst}
use Rattle.raft_spine.specs.Start.{Start}
use Rattle.raft_spine.specs.Spine.{Spine}
use Rattle.raft_spine.specs.Moves.{Move, actor, CanAll, moved_all}
use Rattle.raft_claims.specs.Claims.{Claim}
use Rattle.raft_claims.specs.Tied.{StoreTied}

-- the whole log after the items of an event: a snapshot takes the entries up to its index from its sender's whole log
abbrev pub whole_after : Start → List LogEntry → List LogEntry → List Item → List LogEntry
whole_after b sender whole [] = whole
whole_after b sender whole (Snap index term ∷ items) = stored b.base (take (index - b.base) sender) items
whole_after b sender whole (VoteItem term vote ∷ items) = stored b.base whole items
whole_after b sender whole (Entry index term entry ∷ items) = stored b.base whole (Entry index term entry ∷ items)

-- what a stop leaves of the items of an event: the first so many; of those that start the store anew all or none
abbrev pub kept : ℕ → List Item → List Item
kept zero items = []
kept (suc n) items = (if starts_anew items then items else take (suc n) items)

-- the length of the snapshot in the store after these items, which may bring another one
abbrev pub len_after : ℕ → ℕ → List Item → ℕ
len_after before brought items = (if starts_anew items then brought else before)

-- a chunk is of the snapshot of its sender: as many bytes as it has are held at most, and the sender's whole log has the
-- entries up to its index as the leader of its term has them
pub record IsOfSender (b : Start) (s : Spine) (sender : List LogEntry) (term index total held : ℕ) : Type 0 where
  pub held_within : held ≤ total
  pub same : SameFirst (index - b.base) sender (s.leader_log term)

-- what a body asks of its sender
abbrev pub AskedOf : Start → Spine → List LogEntry → ℕ → Body → Type 0
AskedOf b s sender held (Vote term last_index last_term) = ⊤
AskedOf b s sender held (VoteReply term granted) = ⊤
AskedOf b s sender held (Append term prev_index prev_term entries commit) = ⊤
AskedOf b s sender held (AppendReply term ok index) = ⊤
AskedOf b s sender held (Chunk term index base_term offset total bytes) = IsOfSender b s sender term index total held
AskedOf b s sender held (ChunkReply term index offset) = ⊤

-- a message that is delivered is from another node and for this one, and its claim holds; the machine has applied at least
-- what the base stands for, and no more than is committed
pub record IsHeard (b : Start) (len : List LogEntry → ℕ) (s : Spine) (c : CoreParts) (sender : List LogEntry) (message : Message) (applied held : ℕ) : Type 0 where
  pub from_node : message.from ≢ 0
  pub from_other : message.from ≢ c.id
  pub to_this : message.to ≡ c.id
  pub claim : Claim b len s message.from message.to message.body
  pub from_base : c.log.base ≤ applied
  pub to_commit : applied ≤ c.commit
  pub of_sender : AskedOf b s sender held message.body

-- what an event asks for: commands, fires and beats are for leaders, and the opening's term is for followers
abbrev pub Asked : Start → (List LogEntry → ℕ) → Spine → CoreParts → List LogEntry → CoreEvent → Type 0
Asked b len s c sender Timeout = ⊤
Asked b len s c sender Beat = c.role ≡ Leader
Asked b len s c sender (Raise term) = c.role ≡ Follower
Asked b len s c sender (Command entry) = c.role ≡ Leader
Asked b len s c sender (Fire entry) = c.role ≡ Leader
Asked b len s c sender (Heard message applied held) = IsHeard b len s c sender message applied held

-- what an event in which the node stops leaves, as moves of the node: after them the store with these items is tied to the
-- whole log, and the entries up to the base stay
pub record Stopped (b : Start) (len : List LogEntry → ℕ) (s : Spine) (c : CoreParts) (whole : List LogEntry) (o : Out) (items : List Item) (after : List LogEntry) : Type 0 where
  pub moves : List Move
  pub mine : All (λ m. actor m ≡ c.id) moves
  pub can : CanAll b s moves
  pub store : StoreTied b len (moved_all moves s) c.id (term_after c.term items) (vote_after c.vote items) (log_after c.log items) (len_after c.snapshot_len o.core.snapshot_len items) after
  pub front : take (c.log.base - b.base) after ≡ take (c.log.base - b.base) whole
