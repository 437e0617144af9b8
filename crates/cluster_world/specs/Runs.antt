-- Runs of three nodes from empty stores, computed, so that no premise of the facts is empty.
use Rattle.std.specs.Prelude.{◌≡◌, ℕ, suc, true, false, List, [], ◌∷◌, ◌++◌, length, replicate, Some, None}
use Rattle.raft_types.specs.declared.entry.LogEntry.{LogEntry}
use Rattle.raft_spine.specs.Start.{Start}
use Rattle.cluster_world.specs.World.{Machine, Placed, World, node_at, begin_world}
use Rattle.cluster_world.specs.Events.{Opening, Event, Open, StartNode, FailStart, StopNode, Timeout, Beat, Command, Fire, Deliver, Drop, Tidy, Cut, Mend, Hold, Flow, run}

-- three nodes with empty stores
abbrev pub three : Start
three = record { members = 1 ∷ 2 ∷ 3 ∷ []; term = 0; vote = 0; log = []; base = 0; base_term = 0 }

-- a machine that takes every entry, and whose snapshot has a byte more than there are entries
abbrev pub counter : Machine
counter = record { takes = λ l. true; len = λ l. suc (length l) }

-- so many items in each store at the beginning that a few more make a snapshot due
abbrev pub CROWDED : ℕ
CROWDED = 1020

abbrev pub opens_well : Opening
opens_well = record { starts = true; replaced = false; raise_stop = None; tidy_stop = None }

-- all open, and node 1 is elected with the vote of node 2; that of node 3 is lost
abbrev pub elect : List Event
elect = Open (opens_well ∷ opens_well ∷ opens_well ∷ []) ∷ Timeout 1 None ∷ Drop 1 ∷ Deliver 0 false None ∷ Deliver 0 false None ∷ []

-- the world after that
abbrev pub elected_world : World
elected_world = run three counter (begin_world three CROWDED) elect

-- a command comes to node 1; node 3 stops inside its append, with the term written and the entry not, and node 2 takes it
abbrev pub command : List Event
command = Command 1 (7 ∷ []) None ∷ Deliver 3 false (Some 1) ∷ Deliver 2 false None ∷ Deliver 2 false None ∷ []

-- the world in which the command is decided
abbrev pub decided_world : World
decided_world = run three counter elected_world command

-- node 3 starts again, at the second try; it gets the entry, and node 2 hears that it is committed
abbrev pub restart : List Event
restart = Hold ∷ FailStart 3 false ∷ StartNode 3 ∷ Flow ∷ Deliver 3 false None ∷ Deliver 2 false None ∷ []

-- the world in which the command is applied on three nodes
abbrev pub restarted_world : World
restarted_world = run three counter decided_world restart

-- the first so many messages in flight are lost
abbrev pub lose : ℕ → List Event
lose n = replicate n (Drop 0)

-- node 1 is cut off; a command that it takes reaches nobody, though one of its messages comes twice, and node 2 is elected by node 3
abbrev pub cut_off : List Event
cut_off =
    lose 4
    ++ (Cut 1 2 ∷ Cut 3 1 ∷ Command 1 (8 ∷ []) None ∷ Deliver 0 true None ∷ [])
    ++ lose 2
    ++ (Timeout 2 None ∷ Deliver 1 false None ∷ Deliver 1 false None ∷ [])

-- the world in which two nodes lead, in two terms
abbrev pub divided_world : World
divided_world = run three counter restarted_world cut_off

-- node 2 fires; where the links stand again node 1 takes the fire in place of the command, and the fire is decided
abbrev pub overrule : List Event
overrule = lose 3 ++ (Fire 2 (9 ∷ []) None ∷ Mend 2 1 ∷ Mend 1 3 ∷ Deliver 1 false None ∷ Deliver 0 false None ∷ Deliver 0 false None ∷ [])

-- the world in which the command is lost
abbrev pub overruled_world : World
overruled_world = run three counter divided_world overrule

-- node 1 stops, and misses a command; node 2 puts a snapshot in place of its items, and node 1, which starts again, is sent that
abbrev pub install : List Event
install =
    StopNode 1
    ∷ lose 3
    ++ (Command 2 (5 ∷ []) None ∷ Deliver 1 false None ∷ Deliver 1 false None ∷ [])
    ++ lose 3
    ++ (Tidy 2 None ∷ StartNode 1 ∷ Beat 2 None ∷ Deliver 0 false None ∷ Deliver 0 false None ∷ [])

-- the world in which the snapshot is installed
abbrev pub installed_world : World
installed_world = run three counter overruled_world install

-- an entry of a term, and one that a leader took at an index
abbrev pub of_term : ℕ → ℕ → LogEntry
of_term term byte = record { term = term; entry = byte ∷ [] }

abbrev pub taken_at : ℕ → ℕ → ℕ → Placed
taken_at index term byte = record { index = index; term = term; entry = byte ∷ [] }

-- a node runs, has these entries, and has applied as many
abbrev pub AppliedAt : World → List LogEntry → ℕ → Type 0
AppliedAt w l k = ((node_at three w k).up ≡ true) × (((node_at three w k).whole ≡ l) × ((node_at three w k).applied ≡ length l))

-- all three nodes run, have these entries, and have applied as many
abbrev pub AllApplied : World → List LogEntry → Type 0
AllApplied w l = AppliedAt w l 1 × (AppliedAt w l 2 × AppliedAt w l 3)
