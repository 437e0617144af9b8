-- The events of a world, and a run over a list of them.
use Rattle.std.specs.Prelude.{ℕ, zero, suc, ◌-◌, max, Bool, true, false, not, ◌||◌, ◌&&◌, nat_lt, nat_le, ◌==◌, if◌then◌else◌, List, [], ◌∷◌, ◌++◌, length, get_or, take, drop, set, map, Option, Some, None}
use Rattle.raft_types.specs.declared.limits.TheConstants.{MAX_INDEX}
use Rattle.raft_types.specs.declared.entry.LogEntry.{LogEntry}
use Rattle.raft_types.specs.declared.event.CoreEvent.{CoreEvent}
use Rattle.raft_types.specs.declared.event.CoreEvent.TheVariants.{Timeout as TimeoutEvent, Beat as BeatEvent, Raise as RaiseEvent, Command as CommandEvent, Fire as FireEvent, Heard}
use Rattle.raft_types.specs.declared.message.Message.{Message}
use Rattle.raft_types.specs.Quorum.{ids}
use Rattle.raft_types.specs.Core.{is_leader}
use Rattle.raft_types.specs.Step.{on}
use Rattle.raft_spine.specs.Start.{Start}
use Rattle.raft_claims.specs.Events.{kept}
use Rattle.cluster_world.specs.World.{Machine, Held, Node, Placed, World, nodes_of, log_of, core_of, refreshed, last_of, node_at}
use Rattle.cluster_world.specs.Node.{arrived, told_of, applied_before, ended, halted, is_due, tidied, tidied_if_due}

-- how a node fares in an opening: whether it starts, and where it does not, whether its start put the snapshot that was due in
-- place; where it stops as it saves the opening's term, of how many items; and where it stops in the tidying after that,
-- whether the snapshot is in place
pub record Opening : Type 0 where
  pub starts : Bool
  pub replaced : Bool
  pub raise_stop : Option ℕ
  pub tidy_stop : Option Bool

-- the events; where a node may stop in one, it says of how many items of the event the store then has the first
pub data Event : Type 0 where
  Open : (openings : List Opening) → Event
  StartNode : (k : ℕ) → Event
  FailStart : (k : ℕ) → (replaced : Bool) → Event
  StopNode : (k : ℕ) → Event
  Timeout : (k : ℕ) → (stop : Option ℕ) → Event
  Beat : (k : ℕ) → (stop : Option ℕ) → Event
  Command : (k : ℕ) → (entry : List ℕ) → (stop : Option ℕ) → Event
  Fire : (k : ℕ) → (entry : List ℕ) → (stop : Option ℕ) → Event
  Deliver : (place : ℕ) → (again : Bool) → (stop : Option ℕ) → Event
  Drop : (place : ℕ) → Event
  Tidy : (k : ℕ) → (stop : Option Bool) → Event
  Cut : (j k : ℕ) → Event
  Mend : (j k : ℕ) → Event
  Hold : Event
  Flow : Event

-- node k is another one now
abbrev pub with_node : ℕ → Node → World → World
with_node zero n w = w
with_node (suc place) n w = record w { nodes = set w.nodes place n }

-- the most messages in flight, this project's own
abbrev pub MAX_IN_FLIGHT : ℕ
MAX_IN_FLIGHT = 1024

-- each message joins the end of those in flight, unless as many as may be are in flight already
abbrev pub sent : List Message → List Message → List Message
sent flight [] = flight
sent flight (x ∷ xs) = sent (if nat_lt (length flight) MAX_IN_FLIGHT then flight ++ x ∷ [] else flight) xs

-- the history grows by the entries that a node applied directly after its last one; what a snapshot stands for is not applied
abbrev pub grows_by : Start → Node → Node → World → World
grows_by b n n' w =
    (if nat_le (applied_before n n'.base) w.placed && nat_lt w.placed n'.applied
    then record w { placed = n'.applied; history = w.history ++ take (n'.applied - w.placed) (drop (w.placed - b.base) n'.whole) }
    else w)

-- an event of node k in the world: it ends it, or stops after so many items; the whole log is that of a chunk's sender, and the
-- bytes are those held after the event
abbrev pub node_event : Start → Machine → ℕ → List LogEntry → Held → CoreEvent → Option ℕ → World → World
node_event b m k sender held event None w =
    let n = node_at b w k in
    let o = on (core_of b m k n) event in
    let n' = ended b m sender n held o in
    let v = grows_by b n n' (with_node k n' w) in
    record v { flight = sent v.flight o.messages }
node_event b m k sender held event (Some count) w =
    let n = node_at b w k in
    with_node k (halted b sender n (kept count (on (core_of b m k n) event).items)) w

-- an event of a node's own
abbrev pub own_event : Start → Machine → ℕ → CoreEvent → Option ℕ → World → World
own_event b m k event stop w = node_event b m k [] (node_at b w k).held event stop w

-- node k leads, and has room for one more entry
abbrev pub may_append : Start → Node → Bool
may_append b n = n.up && (is_leader n.role && nat_lt (last_of b n) MAX_INDEX)

-- the next entry of node k, in its term
abbrev pub next_entry : Start → Node → List ℕ → Placed
next_entry b n entry = record { index = suc (last_of b n); term = n.term; entry = entry }

-- node k puts a snapshot in place of items, or stops as it does so
abbrev pub tidies : Start → ℕ → Option Bool → World → World
tidies b k None w = with_node k (tidied b (node_at b w k)) w
tidies b k (Some false) w = with_node k (refreshed b false (node_at b w k)) w
tidies b k (Some true) w = with_node k (refreshed b false (tidied b (node_at b w k))) w

-- the same, where it runs and that is due
abbrev pub tidies_if_due : Start → ℕ → Option Bool → World → World
tidies_if_due b k stop w = (let n = node_at b w k in if n.up && is_due b n then tidies b k stop w else w)

-- node k starts with its store; where so many items are in it, a snapshot takes their place first
abbrev pub starts : Start → ℕ → World → World
starts b k w = with_node k (tidied_if_due b (refreshed b true (node_at b w k))) w

-- node k doesn't start; its store may have been put in order before that
abbrev pub fails_to_start : Start → ℕ → Bool → World → World
fails_to_start b k replaced w =
    (let n = refreshed b false (node_at b w k) in with_node k (if replaced then refreshed b false (tidied_if_due b n) else n) w)

-- the link between two nodes is cut
abbrev pub is_cut : List (ℕ × ℕ) → ℕ → ℕ → Bool
is_cut [] j k = false
is_cut (x ∷ xs) j k = ((x.0 == j) && (x.1 == k)) || (((x.0 == k) && (x.1 == j)) || is_cut xs j k)

abbrev pub mended : List (ℕ × ℕ) → ℕ → ℕ → List (ℕ × ℕ)
mended [] j k = []
mended (x ∷ xs) j k = (if is_cut (x ∷ []) j k then mended xs j k else x ∷ mended xs j k)

-- what is in flight without the message at a place
abbrev pub without : List Message → ℕ → List Message
without flight place = take place flight ++ drop (suc place) flight

-- a message arrives: it is lost where its receiver stands still or the link is cut
abbrev pub arrives : Start → Machine → Message → Option ℕ → World → World
arrives b m x stop w =
    let n = node_at b w x.to in
    (if n.up && not (is_cut w.cuts x.from x.to)
    then node_event b m x.to (node_at b w x.from).whole (arrived n x.body) (Heard x n.applied (told_of n x.body)) stop w
    else w)

-- the first of some messages arrives; it left those in flight before, unless it is delivered once more
abbrev pub delivers : Start → Machine → ℕ → Bool → Option ℕ → List Message → World → World
delivers b m place again stop [] w = w
delivers b m place again stop (x ∷ xs) w = arrives b m x stop (if again then w else record w { flight = without w.flight place })

-- The opening.

-- how node k fares; of whom nothing is said, that one doesn't start
abbrev pub opening_of : List Opening → ℕ → Opening
opening_of openings k = get_or openings (k - 1) (record { starts = false; replaced = false; raise_stop = None; tidy_stop = None })

-- each node with its store: those that start, and those that don't
abbrev pub all_start : Start → List Opening → List ℕ → World → World
all_start b openings [] w = w
all_start b openings (k ∷ ks) w =
    all_start b openings ks (let o = opening_of openings k in if o.starts then starts b k w else fails_to_start b k o.replaced w)

-- the greatest term, and the greatest base, of the nodes that run; 0 where none does
abbrev pub greatest_term : Start → World → List ℕ → ℕ
greatest_term b w [] = 0
greatest_term b w (k ∷ ks) = (let n = node_at b w k in max (if n.up then n.term else 0) (greatest_term b w ks))

abbrev pub greatest_base : Start → World → List ℕ → ℕ
greatest_base b w [] = 0
greatest_base b w (k ∷ ks) = (let n = node_at b w k in max (if n.up then n.base else 0) (greatest_base b w ks))

-- the whole log, up to its base, of the first node that runs and has this base
abbrev pub front_at : Start → World → ℕ → List ℕ → List LogEntry
front_at b w base [] = []
front_at b w base (k ∷ ks) = (let n = node_at b w k in if n.up && (n.base == base) then take (base - b.base) n.whole else front_at b w base ks)

abbrev pub all_up : Start → World → List ℕ → Bool
all_up b w [] = true
all_up b w (k ∷ ks) = (node_at b w k).up && all_up b w ks

-- each node that runs in a lower term comes to this one, and is tidied where that is due then
abbrev pub all_raise : Start → Machine → List Opening → ℕ → List ℕ → World → World
all_raise b m openings term [] w = w
all_raise b m openings term (k ∷ ks) w =
    let n = node_at b w k in
    let o = opening_of openings k in
    all_raise b m openings term ks (if n.up && nat_lt n.term term then tidies_if_due b k o.tidy_stop (own_event b m k (RaiseEvent term) o.raise_stop w) else w)

-- before the opening: every node stands still with its store, and nothing is in flight, cut, held, taken or in the history
abbrev pub closed : Start → World → World
closed b w =
    record {
      nodes = map (refreshed b false) w.nodes;
      flight = [];
      cuts = [];
      hold = false;
      placed = b.base;
      history = [];
      takes = [];
      opened = map (log_of b) w.nodes;
      opened_at = b.base;
      all_started = false;
      fires = [];
    }

-- the history of an opening: what the greatest base of those that started stands for
abbrev pub with_front : Start → List ℕ → World → World
with_front b ks v =
    let base = greatest_base b v ks in
    record v { placed = base; history = front_at b v base ks; opened_at = base; all_started = all_up b v ks }

-- the opening: the nodes start with what their stores hold, the history is what the greatest base of those that started stands
-- for, and the greatest term of those becomes the term of all that run
abbrev pub opens : Start → Machine → List Opening → World → World
opens b m openings w =
    let all = ids (nodes_of b) in
    let v = all_start b openings all (closed b w) in
    all_raise b m openings (greatest_term b v all) all (with_front b all v)

-- What happens.

-- the world after an event; where it makes no sense there, as an order for a node that stands still, nothing happens
abbrev pub happens : Start → Machine → World → Event → World
happens b m w (Open openings) = opens b m openings w
happens b m w (StartNode k) = (if (node_at b w k).up then w else starts b k w)
happens b m w (FailStart k replaced) = (if (node_at b w k).up then w else fails_to_start b k replaced w)
happens b m w (StopNode k) = with_node k (refreshed b false (node_at b w k)) w
happens b m w (Timeout k stop) = (if (node_at b w k).up then own_event b m k TimeoutEvent stop w else w)
happens b m w (Beat k stop) = (let n = node_at b w k in if n.up && is_leader n.role then own_event b m k BeatEvent stop w else w)
happens b m w (Command k entry stop) =
    (let n = node_at b w k in
    if may_append b n then (let v = own_event b m k (CommandEvent entry) stop w in record v { takes = next_entry b n entry ∷ v.takes }) else w)
happens b m w (Fire k entry stop) =
    (let n = node_at b w k in
    if may_append b n && (n.applied == last_of b n)
    then (let v = own_event b m k (FireEvent entry) stop w in record v { fires = next_entry b n entry ∷ v.fires })
    else w)
happens b m w (Deliver place again stop) = delivers b m place again stop (drop place w.flight) w
happens b m w (Drop place) = record w { flight = without w.flight place }
happens b m w (Tidy k stop) = tidies_if_due b k stop w
happens b m w (Cut j k) = record w { cuts = (j, k) ∷ w.cuts }
happens b m w (Mend j k) = record w { cuts = mended w.cuts j k }
happens b m w Hold = record w { hold = true }
happens b m w Flow = record w { hold = false }

-- the world after a list of events
abbrev pub run : Start → Machine → World → List Event → World
run b m w [] = w
run b m w (e ∷ es) = run b m (happens b m w e) es
