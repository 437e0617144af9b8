-- The facts of every world that events reach.
use Rattle.std.specs.Prelude.{◌≡◌, ◌⊎◌, ℕ, suc, ◌+◌, ◌-◌, ◌<◌, ◌≤◌, true, ⊤, List, [], ◌∷◌, ◌++◌, length, take, get_or, Some}
use Rattle.raft_types.specs.declared.limits.TheConstants.{NOOP}
use Rattle.raft_types.specs.declared.entry.LogEntry.{LogEntry}
use Rattle.raft_types.specs.declared.event.CoreEvent.{CoreEvent}
use Rattle.raft_types.specs.declared.event.CoreEvent.TheVariants.{Timeout, Beat, Raise, Command, Fire, Heard}
use Rattle.raft_types.specs.declared.message.Message.{Message}
use Rattle.raft_types.specs.declared.state.Role.TheVariants.{Follower, Leader}
use Rattle.raft_types.specs.Log.{LogParts, nothing, term_at, log_at}
use Rattle.raft_types.specs.Quorum.{ids}
use Rattle.raft_types.specs.Step.{on}
use Rattle.raft_spine.specs.Logs.{SameFirst, IsFront}
use Rattle.raft_spine.specs.Start.{Start, IsStart}
use Rattle.cluster_world.specs.World.{Machine, Held, Node, Placed, World, nodes_of, core_of, node_at}
use Rattle.cluster_world.specs.Node.{arrived, told_of, ended}
use Rattle.cluster_world.specs.Events.{Event, run}

-- what the nodes begin with: one store, of nodes with the numbers from 1 on, and a machine whose snapshots have at least one byte
pub record IsFit (b : Start) (m : Machine) : Type 0 where
  pub start : IsStart b
  pub members : b.members ≡ ids (nodes_of b)
  pub sizes : (l : List LogEntry) → 1 ≤ m.len l

-- node k runs
abbrev pub Runs : Start → World → ℕ → Type 0
Runs b w k = (node_at b w k).up ≡ true

-- node k runs and leads its term
pub record LeadsNow (b : Start) (w : World) (k : ℕ) : Type 0 where
  pub runs : Runs b w k
  pub role : (node_at b w k).role ≡ Leader

-- two nodes that lead in one term are one
abbrev pub NoTwoLead : Start → World → Type 0
NoTwoLead b w = (j k : ℕ) → LeadsNow b w j → LeadsNow b w k → (node_at b w j).term ≡ (node_at b w k).term → j ≡ k

-- who leads in a term after some events, and who leads in it after more of them, are one: no other node leads in it later
abbrev pub LedOnce : Start → Machine → World → Type 0
LedOnce b m w =
    (es es2 : List Event) (j k : ℕ) → LeadsNow b (run b m w es) j → LeadsNow b (run b m w (es ++ es2)) k
    → (node_at b (run b m w es) j).term ≡ (node_at b (run b m w (es ++ es2)) k).term → j ≡ k

-- of two takes with one index and one term both are one
abbrev pub TakesDiffer : World → Type 0
TakesDiffer w =
    (i j : ℕ) (d : Placed) → i < length w.takes → j < length w.takes → (get_or w.takes i d).index ≡ (get_or w.takes j d).index
    → (get_or w.takes i d).term ≡ (get_or w.takes j d).term → i ≡ j

-- two whole logs that have an entry of one term at one index are the same up to it
abbrev pub LogsMatch : List LogEntry → List LogEntry → Type 0
LogsMatch l m = (i : ℕ) → i < length l → i < length m → term_at l i ≡ term_at m i → SameFirst (suc i) l m

abbrev pub WholeLogsMatch : Start → World → Type 0
WholeLogsMatch b w = (j k : ℕ) → LogsMatch (node_at b w j).whole (node_at b w k).whole

-- what a node has applied, and what it knows to be committed, from the base of the start on
abbrev pub applied_of : Start → Node → List LogEntry
applied_of b n = take (n.applied - b.base) n.whole

abbrev pub committed_of : Start → Node → List LogEntry
committed_of b n = take (n.commit - b.base) n.whole

-- one of two lists is a front of the other
abbrev pub IsOneLine : List LogEntry → List LogEntry → Type 0
IsOneLine p q = IsFront p q ⊎ IsFront q p

-- of what a running node has applied and the history one is a front of the other, and so it is of what two running nodes have applied
pub record OneHistory (b : Start) (w : World) : Type 0 where
  pub of_history : (k : ℕ) → Runs b w k → IsOneLine (applied_of b (node_at b w k)) w.history
  pub of_nodes : (j k : ℕ) → Runs b w j → Runs b w k → IsOneLine (applied_of b (node_at b w j)) (applied_of b (node_at b w k))

-- where every node started at the opening, the history is no shorter: what a running node has applied is a front of it
abbrev pub HistoryIsLonger : Start → World → Type 0
HistoryIsLonger b w = w.all_started ≡ true → (k : ℕ) → Runs b w k → IsFront (applied_of b (node_at b w k)) w.history

-- it was in some store at the opening, above what a snapshot stood for
pub record WasStored (opened : List LogParts) (x : Placed) : Type 0 where
  pub store : ℕ
  pub there : store < length opened
  pub is : (d : LogParts) → log_at (get_or opened store d) x.index ≡ Some (record { term = x.term; entry = x.entry })

-- it is one of these
pub record IsAmong (xs : List Placed) (x : Placed) : Type 0 where
  pub place : ℕ
  pub there : place < length xs
  pub is : (d : Placed) → get_or xs place d ≡ x

-- it is one of these, and no other one of them has its index and term
pub record IsOneOf (xs : List Placed) (x : Placed) : Type 0 where
  pub among : IsAmong xs x
  pub only : (i : ℕ) (d : Placed) → i < length xs → (get_or xs i d).index ≡ x.index → (get_or xs i d).term ≡ x.term → i ≡ among.place

-- an entry is of the opening, a noop, a fire, or exactly one of the commands that were taken
abbrev pub ComesFrom : World → Placed → Type 0
ComesFrom w x = (WasStored w.opened x ⊎ (x.entry ≡ NOOP ∷ [])) ⊎ (IsAmong w.fires x ⊎ IsOneOf w.takes x)

-- the entry at a place of a whole log
abbrev pub entry_of : Start → List LogEntry → ℕ → Placed
entry_of b l place = record { index = suc (b.base + place); term = (get_or l place nothing).term; entry = (get_or l place nothing).entry }

-- each entry of the history that is past what it began with at the opening comes from somewhere
abbrev pub HistoryComesFrom : Start → World → Type 0
HistoryComesFrom b w = (place : ℕ) → w.opened_at ≤ b.base + place → place < length w.history → ComesFrom w (entry_of b w.history place)

-- who leads has all that running nodes of no later term know to be committed
abbrev pub LeadersHave : Start → World → Type 0
LeadersHave b w =
    (j k : ℕ) → LeadsNow b w j → Runs b w k → (node_at b w k).term ≤ (node_at b w j).term → IsFront (committed_of b (node_at b w k)) (node_at b w j).whole

-- the facts
pub record WorldFacts (b : Start) (w : World) : Type 0 where
  pub one_leader : NoTwoLead b w
  pub logs_match : WholeLogsMatch b w
  pub one_history : OneHistory b w
  pub leaders_have : LeadersHave b w

-- a compacted log stands for the whole one: the core that reads the whole log of a node from its base up, after an event that the
-- node ends, is the core that the step gives
abbrev pub StandsFor : Start → Machine → ℕ → List LogEntry → Node → Held → CoreEvent → Type 0
StandsFor b m k sender n held event = core_of b m k (ended b m sender n held (on (core_of b m k n) event)) ≡ (on (core_of b m k n) event).core

-- an event that node k may have of its own
abbrev pub MayHave : Node → CoreEvent → Type 0
MayHave n Timeout = ⊤
MayHave n Beat = n.role ≡ Leader
MayHave n (Raise term) = n.role ≡ Follower
MayHave n (Command entry) = n.role ≡ Leader
MayHave n (Fire entry) = n.role ≡ Leader
MayHave n (Heard message applied held) = ⊥

-- a message that is in flight, at some place
pub record IsInFlight (w : World) (x : Message) : Type 0 where
  pub place : ℕ
  pub there : place < length w.flight
  pub is : (d : Message) → get_or w.flight place d ≡ x

-- so it is in each running node's own events, and where a message in flight arrives at one
pub record StandsForWhole (b : Start) (m : Machine) (w : World) : Type 0 where
  pub own : (k : ℕ) (event : CoreEvent) → Runs b w k → MayHave (node_at b w k) event → StandsFor b m k [] (node_at b w k) (node_at b w k).held event
  pub arrives : (x : Message) → Runs b w x.to → IsInFlight w x
      → StandsFor b m x.to (node_at b w x.from).whole (node_at b w x.to) (arrived (node_at b w x.to) x.body)
      (Heard x (node_at b w x.to).applied (told_of (node_at b w x.to) x.body))
