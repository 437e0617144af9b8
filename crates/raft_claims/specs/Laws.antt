-- The laws: what a node does is a list of moves of it, and what is known of nodes and messages stays.
use Rattle.std.specs.Prelude.{◌≡◌, ◌≢◌, ℕ, ◌-◌, ◌≤◌, All, List, [], take}
use Rattle.raft_types.specs.declared.entry.LogEntry.{LogEntry}
use Rattle.raft_types.specs.declared.event.CoreEvent.{CoreEvent}
use Rattle.raft_types.specs.declared.message.Body.{Body}
use Rattle.raft_types.specs.Log.{LogParts}
use Rattle.raft_types.specs.Quorum.{ids}
use Rattle.raft_types.specs.Core.{CoreParts, new_core, compacts}
use Rattle.raft_types.specs.Step.{on}
use Rattle.raft_spine.specs.Start.{Start}
use Rattle.raft_spine.specs.Spine.{Spine, begin}
use Rattle.raft_spine.specs.Moves.{Move, actor, CanAll}
use Rattle.raft_spine.specs.Laws.{IsReached}
use Rattle.raft_claims.specs.Claims.{Claim}
use Rattle.raft_claims.specs.Tied.{whole_log, Tied, StoreTied, Turned}
use Rattle.raft_claims.specs.Events.{whole_after, kept, Asked, Stopped}

-- a node that runs: its core is tied to its whole log in a spine that moves reach, the members are all nodes, and a
-- snapshot has at least one byte
pub record Running : Type 0 where
  pub start : Start
  pub len : List LogEntry → ℕ
  pub spine : Spine
  pub core : CoreParts
  pub whole : List LogEntry
  pub reached : IsReached start spine
  pub members : start.members ≡ ids core.nodes
  pub sizes : (l : List LogEntry) → 1 ≤ len l
  pub tied : Tied start len spine core whole

-- the event is one that the node may meet; a chunk comes from a node with this whole log
abbrev pub Meets : Running → List LogEntry → CoreEvent → Type 0
Meets n sender event = Asked n.start n.len n.spine n.core sender event

-- the event, where the node ends it, is a list of moves of the node, and the whole log after it is what its items make of it
abbrev pub TurnsBy : Running → List LogEntry → CoreEvent → Type 0
TurnsBy n sender event =
    Turned n.start n.len n.spine n.core n.whole (on n.core event) (whole_after n.start sender n.whole (on n.core event).items)

-- the event, where the node stops in it and k of its items are kept, is a list of moves of the node too
abbrev pub StopsBy : Running → List LogEntry → CoreEvent → ℕ → Type 0
StopsBy n sender event k =
    let items = kept k (on n.core event).items in
    Stopped n.start n.len n.spine n.core n.whole (on n.core event) items (whole_after n.start sender n.whole items)

-- a claim of a message to a node
abbrev pub ClaimsStay : Start → (List LogEntry → ℕ) → Spine → Spine → Type 0
ClaimsStay b len s s' = (from to : ℕ) (body : Body) → to ≢ 0 → Claim b len s from to body → Claim b len s' from to body

-- moves of node k
pub record MovesOf (b : Start) (s : Spine) (k : ℕ) (moves : List Move) : Type 0 where
  pub reached : IsReached b s
  pub can : CanAll b s moves
  pub mine : All (λ m. actor m ≡ k) moves

-- what is known of every other node than k, while it runs and while it stands still
pub record OthersStay (b : Start) (len : List LogEntry → ℕ) (s s' : Spine) (k : ℕ) : Type 0 where
  pub cores : (c : CoreParts) (whole : List LogEntry) → c.id ≢ k → Tied b len s c whole → Tied b len s' c whole
  pub stores : (j t v : ℕ) (l : LogParts) (n : ℕ) (whole : List LogEntry) → j ≢ k → StoreTied b len s j t v l n whole → StoreTied b len s' j t v l n whole

-- every node begins with a store that is tied
abbrev pub BeginsTied : Start → (List LogEntry → ℕ) → ℕ → Type 0
BeginsTied b len k = StoreTied b len (begin b) k b.term b.vote (whole_log b b.log) (len []) b.log

-- a node that stops leaves a store that is tied; one that starts with it is tied; and so is one that makes a snapshot of what it has committed
pub record StoresTie (b : Start) (len : List LogEntry → ℕ) (s : Spine) (whole : List LogEntry) : Type 0 where
  pub stops : (c : CoreParts) → Tied b len s c whole → StoreTied b len s c.id c.term c.vote c.log c.snapshot_len whole
  pub starts : (k nodes t v : ℕ) (l : LogParts) (n : ℕ) → StoreTied b len s k t v l n whole → Tied b len s (new_core k nodes t v l n) whole
  pub compacts : (c : CoreParts) (i : ℕ) → Tied b len s c whole → c.log.base ≤ i → i ≤ c.commit
      → Tied b len s (compacts c i (len (take (i - b.base) whole))) whole
