-- A world: nodes on their whole logs, the messages in flight between them, and the history.
use Rattle.std.specs.Prelude.{ℕ, zero, suc, ◌+◌, ◌-◌, Bool, false, List, [], length, get_or, take, replicate}
use Rattle.raft_types.specs.declared.entry.LogEntry.{LogEntry}
use Rattle.raft_types.specs.declared.message.Message.{Message}
use Rattle.raft_types.specs.declared.state.Role.{Role}
use Rattle.raft_types.specs.declared.state.Role.TheVariants.{Follower}
use Rattle.raft_types.specs.Log.{LogParts, compacted}
use Rattle.raft_types.specs.Core.{CoreParts}
use Rattle.raft_spine.specs.Start.{Start}
use Rattle.raft_claims.specs.Tied.{whole_log}

-- a machine, as far as a world looks into it: of the entries from the base of the start on, whether it can take the last one
-- after the others, and how many bytes its snapshot has after all of them
pub record Machine : Type 0 where
  pub takes : List LogEntry → Bool
  pub len : List LogEntry → ℕ

-- how many bytes a node holds of a snapshot that arrives, and of which: up to this index, where the entry has this term
pub record Held : Type 0 where
  pub index : ℕ
  pub base_term : ℕ
  pub count : ℕ

abbrev pub nothing_held : Held
nothing_held = record { index = 0; base_term = 0; count = 0 }

pub record Node : Type 0 where
  -- its store: term, vote, its whole log from the base of the start on, the index up to which a snapshot stands for it, and
  -- the number of items
  pub term : ℕ
  pub vote : ℕ
  pub whole : List LogEntry
  pub base : ℕ
  pub count : ℕ
  -- what a stop forgets
  pub up : Bool
  pub role : Role
  pub leader : ℕ
  pub commit : ℕ
  pub applied : ℕ
  pub votes : List Bool
  pub next : List ℕ
  pub «match» : List ℕ
  pub held : Held

-- an entry of this term at an index
pub record Placed : Type 0 where
  pub index : ℕ
  pub term : ℕ
  pub entry : List ℕ

pub record World : Type 0 where
  -- node k at place k - 1
  pub nodes : List Node
  pub flight : List Message
  -- the links that are cut, each by its two nodes
  pub cuts : List (ℕ × ℕ)
  -- delivery waits for orders
  pub hold : Bool
  -- the history's length as an index, and its entries from the base of the start on
  pub placed : ℕ
  pub history : List LogEntry
  -- the commands that leaders took since the opening, also in events in which they stopped
  pub takes : List Placed
  -- remembered of the opening, for what is said of the history: the entries in the stores, the index that the history began
  -- with, and whether all nodes started; and the fires that leaders appended since
  pub opened : List LogParts
  pub opened_at : ℕ
  pub all_started : Bool
  pub fires : List Placed

-- how many nodes there are
abbrev pub nodes_of : Start → ℕ
nodes_of b = length b.members

-- the log that a node's store holds: what lies above its base
abbrev pub log_of : Start → Node → LogParts
log_of b n = compacted (whole_log b n.whole) n.base

-- the core of node k, which reads the log from the base up
abbrev pub core_of : Start → Machine → ℕ → Node → CoreParts
core_of b m k n =
    record {
      id = k;
      nodes = nodes_of b;
      term = n.term;
      vote = n.vote;
      log = log_of b n;
      snapshot_len = m.len (take (n.base - b.base) n.whole);
      role = n.role;
      leader = n.leader;
      commit = n.commit;
      votes = n.votes;
      next = n.next;
      «match» = n.«match»;
    }

-- a node with this store that just started, or that stands still
abbrev pub fresh_node : Start → Bool → ℕ → ℕ → List LogEntry → ℕ → ℕ → Node
fresh_node b up term vote whole base count =
    record {
      term = term;
      vote = vote;
      whole = whole;
      base = base;
      count = count;
      up = up;
      role = Follower;
      leader = 0;
      commit = base;
      applied = base;
      votes = replicate (nodes_of b) false;
      next = replicate (nodes_of b) 0;
      «match» = replicate (nodes_of b) 0;
      held = nothing_held;
    }

-- the node with the store that it has, after a start or a stop
abbrev pub refreshed : Start → Bool → Node → Node
refreshed b up n = fresh_node b up n.term n.vote n.whole n.base n.count

-- the index of its last entry
abbrev pub last_of : Start → Node → ℕ
last_of b n = b.base + length n.whole

-- for a number that no node has: one that stands still
abbrev pub nobody : Start → Node
nobody b = fresh_node b false 0 0 [] b.base 0

-- node k
abbrev pub node_at : Start → World → ℕ → Node
node_at b w zero = nobody b
node_at b w (suc place) = get_or w.nodes place (nobody b)

-- every node stands still with one and the same store of this many items, and nothing happened yet
abbrev pub begin_world : Start → ℕ → World
begin_world b count =
    record {
      nodes = replicate (nodes_of b) (fresh_node b false b.term b.vote b.log b.base count);
      flight = [];
      cuts = [];
      hold = false;
      placed = b.base;
      history = [];
      takes = [];
      opened = replicate (nodes_of b) (whole_log b b.log);
      opened_at = b.base;
      all_started = false;
      fires = [];
    }
