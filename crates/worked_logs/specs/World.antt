-- Three nodes by the definition of the step, and the messages in flight between them.
use Rattle.std.specs.Prelude.{◌⊎◌, ℕ, suc, ◌==◌, if◌then◌else◌, List, [], ◌∷◌, ◌++◌, map, take, drop, slice_get, Option, Some, None}
use mathlib.Core.Logic.{inl, inr}
use Rattle.raft_types.specs.declared.entry.LogEntry.{LogEntry}
use Rattle.raft_types.specs.declared.event.Acts.{Acts}
use Rattle.raft_types.specs.declared.event.CoreEvent.{CoreEvent}
use Rattle.raft_types.specs.declared.event.CoreEvent.TheVariants.{Timeout, Beat, Raise, Command, Fire, Heard}
use Rattle.raft_types.specs.declared.item.Item.{Item}
use Rattle.raft_types.specs.declared.item.Item.TheVariants.{Snap, Vote as VoteItem, Entry}
use Rattle.raft_types.specs.declared.message.Body.{Body}
use Rattle.raft_types.specs.declared.message.Body.TheVariants.{Vote, VoteReply, Append, AppendReply, Chunk, ChunkReply}
use Rattle.raft_types.specs.declared.message.Message.{Message}
use Rattle.raft_types.specs.declared.state.CoreState.{CoreState}
use Rattle.raft_types.specs.Core.{CoreParts, new_core, compacts, state_of, acts_of}
use Rattle.raft_types.specs.Log.{LogParts}
use Rattle.raft_types.specs.Step.{on}
use Rattle.worked_logs.specs.declared.script.Does.{Does}
use Rattle.worked_logs.specs.declared.script.Does.TheVariants.{Timeout as DoesTimeout, Beat as DoesBeat, Raise as DoesRaise, Command as DoesCommand, Fire as DoesFire, Hears, Deliver, Again, Lose, Compact, Show}
use Rattle.worked_logs.specs.declared.script.Says.{Says}
use Rattle.worked_logs.specs.declared.script.Says.TheVariants.{Vote as SaysVote, VoteReply as SaysVoteReply, Append as SaysAppend, AppendReply as SaysAppendReply, Chunk as SaysChunk, ChunkReply as SaysChunkReply}
use Rattle.worked_logs.specs.declared.script.Sent.{Sent}
use Rattle.worked_logs.specs.declared.script.Step.{Step}
use Rattle.worked_logs.specs.declared.script.Tells.{Tells}
use Rattle.worked_logs.specs.declared.script.Tells.TheVariants.{Nothing, Acts as TellsActs, State as TellsState}
use Rattle.worked_logs.specs.Scripts.{few}
use Rattle.worked_logs.specs.declared.script.Wrote.{Wrote}
use Rattle.worked_logs.specs.declared.script.Wrote.TheVariants.{Snap as WroteSnap, Vote as WroteVote, Entry as WroteEntry}

-- three nodes, and the messages in flight
pub record World : Type 0 where
  pub one : CoreParts
  pub two : CoreParts
  pub three : CoreParts
  pub flight : List Message

-- a node of three over an empty log
abbrev pub empty : ℕ → CoreParts
empty id = new_core id 3 0 0 (record { base = 0; base_term = 0; entries = [] }) 0

abbrev pub start : World
start = record { one = empty 1; two = empty 2; three = empty 3; flight = [] }

-- the node of this number
abbrev pub node : World → ℕ → CoreParts
node w id = (if id == 1 then w.one else (if id == 2 then w.two else w.three))

-- another node in its place
abbrev pub with_node : World → ℕ → CoreParts → World
with_node w id c =
    (if id == 1 then record w { one = c } else (if id == 2 then record w { two = c } else record w { three = c }))

-- what scripts write, as the definition has it
abbrev pub made : ℕ × ℕ → LogEntry
made e = record { term = e.0; entry = e.1 ∷ [] }

abbrev pub body_of : Says → Body
body_of (SaysVote term last_index last_term) = Vote term last_index last_term
body_of (SaysVoteReply term granted) = VoteReply term granted
body_of (SaysAppend term prev_index prev_term entries commit) = Append term prev_index prev_term (map made (few entries)) commit
body_of (SaysAppendReply term ok index) = AppendReply term ok index
body_of (SaysChunk term index base_term offset total) = Chunk term index base_term offset total []
body_of (SaysChunkReply term index offset) = ChunkReply term index offset

abbrev pub message_of : Sent → Message
message_of s = record { from = s.0; to = s.1; body = body_of s.2 }

abbrev pub item_of : Wrote → Item
item_of (WroteSnap index term) = Snap index term
item_of (WroteVote term vote) = VoteItem term vote
item_of (WroteEntry index term byte) = Entry index term (byte ∷ [])

-- what a step tells: nothing, what a node does, or a node's state and log
abbrev pub Told : Type 0
Told = Option (Acts ⊎ (CoreState × LogParts))

abbrev pub tells_of : Tells → Told
tells_of Nothing = None
tells_of (TellsActs wrote sent role commit) =
    Some (inl (record { items = map item_of (few wrote); messages = map message_of (few sent); commit = commit; role = role }))
tells_of (TellsState s base entries) =
    Some (inr (record { term = s.0; vote = s.1; commit = s.4; role = s.2; leader = s.3 }, record { base = base.0; base_term = base.1; entries = map made (few entries) }))

-- an event at a node: its messages are in flight
abbrev pub meets : World → ℕ → CoreEvent → World × Told
meets w id event =
    let o = on (node w id) event in
    (record (with_node w id o.core) { flight = w.flight ++ o.messages }, Some (inl (acts_of o)))

-- a message arrives at a node that has applied what it knows to be committed
abbrev pub arrives : World → Option Message → World × Told
arrives w None = (w, None)
arrives w (Some m) = meets w m.to (Heard m (node w m.to).commit 0)

-- the message at a place is in flight no longer
abbrev pub without : World → ℕ → World
without w place = record w { flight = take place w.flight ++ drop (suc place) w.flight }

-- what happens, and what is told
abbrev pub does : World → Does → World × Told
does w (DoesTimeout id) = meets w id Timeout
does w (DoesBeat id) = meets w id Beat
does w (DoesRaise id term) = meets w id (Raise term)
does w (DoesCommand id byte) = meets w id (Command (byte ∷ []))
does w (DoesFire id byte) = meets w id (Fire (byte ∷ []))
does w (Hears from to says applied held) = meets w to (Heard (message_of (record { 0 = from; 1 = to; 2 = says })) applied held)
does w (Deliver place) = arrives (without w place) (slice_get w.flight place)
does w (Again place) = arrives w (slice_get w.flight place)
does w (Lose place) = (without w place, None)
does w (Compact id index len) = (with_node w id (compacts (node w id) index len), None)
does w (Show id) = (w, Some (inr (state_of (node w id), (node w id).log)))

-- what the steps of a script tell, one by one
abbrev pub told : World → List Step → List Told
told w [] = []
told w (s ∷ steps) = let d = does w s.0 in d.1 ∷ told d.0 steps

-- what the script says that they tell
abbrev pub wanted : List Step → List Told
wanted steps = map (λ (s : Step). tells_of s.1) steps
