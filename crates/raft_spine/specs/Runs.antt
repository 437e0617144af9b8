-- Runs of three nodes as lists of moves. Each of the seven moves is made in them.
use Rattle.std.specs.Prelude.{ℕ, List, [], ◌∷◌}
use Rattle.raft_types.specs.declared.entry.LogEntry.{LogEntry}
use Rattle.raft_spine.specs.Start.{Start}
use Rattle.raft_spine.specs.Spine.{Spine, begin}
use Rattle.raft_spine.specs.Moves.{Move, Raise, Stand, Grant, Lead, Put, Adopt, Agree, moved_all}

-- an entry of this term that orders one byte
abbrev pub entry_of : ℕ → ℕ → LogEntry
entry_of t x = record { term = t; entry = x ∷ [] }

-- nodes 1, 2 and 3 begin in term 1 with one entry, and with no vote
abbrev pub three : Start
three = record { members = 1 ∷ 2 ∷ 3 ∷ []; term = 1; vote = 0; log = entry_of 1 10 ∷ []; base = 0; base_term = 0 }

-- node 1 is elected in term 2, adds an entry, and shares it with node 2
abbrev pub decide_moves : List Move
decide_moves = Raise 1 2 ∷ Stand 1 ∷ Raise 2 2 ∷ Grant 2 1 ∷ Lead 1 ∷ Put 1 (20 ∷ []) ∷ Agree 1 2 ∷ Adopt 2 2 ∷ Agree 2 2 ∷ []

-- the spine after them
abbrev pub after_decide : Spine
after_decide = moved_all decide_moves (begin three)

-- then node 2 is elected in term 3, while node 1 still adds an entry in term 2;
-- node 2 adds one too, node 3 takes it, and node 1 gives up its own for it
abbrev pub succeed_moves : List Move
succeed_moves =
    Raise 2 3 ∷ Stand 2 ∷ Raise 3 3 ∷ Grant 3 2 ∷ Lead 2 ∷ Put 1 (21 ∷ [])
    ∷ Put 2 (30 ∷ []) ∷ Agree 2 3 ∷ Adopt 3 3 ∷ Agree 3 3 ∷ Raise 1 3 ∷ Adopt 1 3 ∷ []

-- the spine after both lists
abbrev pub after_succeed : Spine
after_succeed = moved_all succeed_moves after_decide

-- instead node 3 stands in term 2 too, in which node 1 was elected
abbrev pub rival_moves : List Move
rival_moves = Raise 3 2 ∷ Stand 3 ∷ []

-- the spine after the rival stood
abbrev pub after_rival : Spine
after_rival = moved_all rival_moves after_decide

-- or nodes 1 and 3 both stand in term 2, and node 2 votes for node 1
abbrev pub twice_moves : List Move
twice_moves = Raise 1 2 ∷ Stand 1 ∷ Raise 3 2 ∷ Stand 3 ∷ Raise 2 2 ∷ Grant 2 1 ∷ []

-- the spine in which node 3 asks node 2 for its vote too; all logs are equal
abbrev pub after_twice : Spine
after_twice = moved_all twice_moves (begin three)

-- or node 3, which lacks the decided entry, stands in term 3, and node 2 comes to that term
abbrev pub ask_moves : List Move
ask_moves = Raise 3 3 ∷ Stand 3 ∷ Raise 2 3 ∷ []

-- the spine in which node 3 asks node 2 for its vote
abbrev pub after_ask : Spine
after_ask = moved_all ask_moves after_decide

-- node 1 adds an entry in term 2 and node 3 another one in term 3, both alone;
-- then node 1 is elected in term 4, and a majority comes to share its entry of term 2
abbrev pub old_entry_moves : List Move
old_entry_moves =
    Raise 1 2 ∷ Stand 1 ∷ Raise 2 2 ∷ Grant 2 1 ∷ Lead 1 ∷ Put 1 (20 ∷ [])
    ∷ Raise 3 3 ∷ Stand 3 ∷ Raise 2 3 ∷ Grant 2 3 ∷ Lead 3 ∷ Put 3 (30 ∷ [])
    ∷ Raise 1 4 ∷ Stand 1 ∷ Raise 2 4 ∷ Grant 2 1 ∷ Lead 1 ∷ Agree 1 2 ∷ Adopt 2 2 ∷ Agree 2 2 ∷ []

-- the spine after them
abbrev pub after_old_entry : Spine
after_old_entry = moved_all old_entry_moves (begin three)

-- then node 3 is elected in term 5, and its entry of term 3 takes the place of the one that the majority shared
abbrev pub overwrite_moves : List Move
overwrite_moves = Raise 3 5 ∷ Stand 3 ∷ Raise 2 5 ∷ Grant 2 3 ∷ Lead 3 ∷ Adopt 2 2 ∷ []

-- the spine after both lists
abbrev pub after_overwrite : Spine
after_overwrite = moved_all overwrite_moves after_old_entry
