-- The seven moves: of each, when it may be made, and what it changes. All else stays.
-- What an event of a node does, also where the node stops in the middle of it, is a list of moves of that node.
-- b is how the nodes began, s the spine before the move, j and k are nodes, t is a term, n a number of entries, and e the bytes of an entry.
use Rattle.std.specs.Prelude.{◌≡◌, ◌≢◌, ◌⊎◌, ℕ, ◌<◌, ◌≤◌, ◌==◌, List, [], ◌∷◌, ◌++◌, length, take, Some}
use Rattle.raft_types.specs.declared.entry.LogEntry.{LogEntry}
use Rattle.raft_spine.specs.Quorum.{IsQuorum}
use Rattle.raft_spine.specs.Logs.{SameFirst}
use Rattle.raft_types.specs.Log.{term_at}
use Rattle.raft_spine.specs.Start.{Start}
use Rattle.raft_spine.specs.Spine.{Spine, at, at2}

-- Raise. Raft, section 5.1: a term only grows, at a timeout or by a message of a greater term; and, which is this project's own, where the nodes open.

-- node k may come to any term above its own
pub record Rises (s : Spine) (k t : ℕ) : Type 0 where
  pub above : s.term k < t

-- node k comes to term t
abbrev pub raise : ℕ → ℕ → Spine → Spine
raise k t s = record s { term = at s.term k t }

-- Stand. Raft, section 5.2: a candidate votes for itself in a new term.

-- node k may stand in its term where that is above the term of the start, and it voted for nobody in it
pub record Stands (b : Start) (s : Spine) (k : ℕ) : Type 0 where
  pub is_node : k ≢ 0
  pub late : b.term < s.term k
  pub no_vote : s.voted k (s.term k) ≡ 0

-- node k votes for itself in its term, and the log with which it stands is remembered
abbrev pub stand : ℕ → Spine → Spine
stand k s = record s { voted = at2 s.voted k (s.term k) k; stood = at2 s.stood k (s.term k) (Some (s.log k)) }

-- Grant. Raft, sections 5.2 and 5.4.1: one vote a term, first come first served, to a log that is at least as up to date.
-- To grant the same vote once more is no move.

-- the term of a log's last entry, or of the base where the log is empty
abbrev pub last_term : Start → List LogEntry → ℕ
last_term b [] = b.base_term
last_term b (x ∷ xs) = term_at (x ∷ xs) (length xs)

-- log c is at least as up to date as log l: it ends in a greater term, or in the same one and is no shorter
abbrev pub IsUpToDate : Start → List LogEntry → List LogEntry → Type 0
IsUpToDate b c l = (last_term b l < last_term b c) ⊎ ((last_term b l ≡ last_term b c) × (length l ≤ length c))

-- node j may vote for k where it voted for nobody in its term, and k stood in that term with a log at least as up to date as j's
pub record Grants (b : Start) (s : Spine) (j k : ℕ) : Type 0 where
  pub no_vote : s.voted j (s.term j) ≡ 0
  pub log : List LogEntry
  pub stood : s.stood k (s.term j) ≡ Some log
  pub up_to_date : IsUpToDate b log (s.log j)

-- node j votes for k in its term
abbrev pub grant : ℕ → ℕ → Spine → Spine
grant j k s = record s { voted = at2 s.voted j (s.term j) k }

-- Lead. Raft, section 5.2: who has the votes of a majority in a term becomes its leader.

-- node k may become the leader of its term where that is above the term of the start, it is not yet, and a majority voted for it
pub record Leads (b : Start) (s : Spine) (k : ℕ) : Type 0 where
  pub is_node : k ≢ 0
  pub late : b.term < s.term k
  pub not_yet : s.leader (s.term k) ≢ k
  pub votes : IsQuorum b.members (λ j. s.voted j (s.term k) == k)

-- node k is the leader of its term, and its log is the leader's
abbrev pub lead : ℕ → Spine → Spine
lead k s = record s { leader = at s.leader (s.term k) k; leader_log = at s.leader_log (s.term k) (s.log k) }

-- Put. Raft, section 5.3: a leader adds an entry of its term to the end of its log, and changes no other entry.

-- node k may add an entry where it leads its term
pub record Puts (s : Spine) (k : ℕ) : Type 0 where
  pub is_node : k ≢ 0
  pub leads : s.leader (s.term k) ≡ k

-- a log, and then one entry of this term
abbrev pub push : List LogEntry → ℕ → List ℕ → List LogEntry
push l t e = l ++ record { term = t; entry = e } ∷ []

-- node k adds an entry of its term to its log, and so to the leader's
abbrev pub put : ℕ → List ℕ → Spine → Spine
put k e s = record s { log = at s.log k (push (s.log k) (s.term k) e); leader_log = at s.leader_log (s.term k) (push (s.log k) (s.term k) e) }

-- Adopt. Raft, sections 5.3 and 7: where a log differs from the entries or the snapshot of a leader it is cut, and takes the leader's.
-- A log that has these entries already is not cut, so that an old message takes nothing away: that is no move.

-- node k may take the first n entries of its term's leader where its own first n entries differ from them
pub record Adopts (s : Spine) (k n : ℕ) : Type 0 where
  pub led : s.leader (s.term k) ≢ 0
  pub within : n ≤ length (s.leader_log (s.term k))
  pub differs : SameFirst n (s.log k) (s.leader_log (s.term k)) → ⊥

-- the log of node k is the first n entries of its term's leader
abbrev pub adopt : ℕ → ℕ → Spine → Spine
adopt k n s = record s { log = at s.log k (take n (s.leader_log (s.term k))) }

-- Agree. Raft, section 5.3: a reply tells the leader how far the node's log is the same as its own. A leader counts itself too.

-- node k may be seen to share n entries with its term's leader where it does, and never fewer than before
pub record Agrees (s : Spine) (k n : ℕ) : Type 0 where
  pub led : s.leader (s.term k) ≢ 0
  pub within : n ≤ length (s.leader_log (s.term k))
  pub same : SameFirst n (s.log k) (s.leader_log (s.term k))
  pub more : s.shared k (s.term k) ≤ n

-- node k is seen to share n entries with its term's leader
abbrev pub agree : ℕ → ℕ → Spine → Spine
agree k n s = record s { shared = at2 s.shared k (s.term k) n }

-- All seven.

-- one of the moves, as data
pub data Move : Type 0 where
  Raise : (k t : ℕ) → Move
  Stand : (k : ℕ) → Move
  Grant : (j k : ℕ) → Move
  Lead : (k : ℕ) → Move
  Put : (k : ℕ) → (e : List ℕ) → Move
  Adopt : (k n : ℕ) → Move
  Agree : (k n : ℕ) → Move

-- the node that makes the move
abbrev pub actor : Move → ℕ
actor (Raise k t) = k
actor (Stand k) = k
actor (Grant j k) = j
actor (Lead k) = k
actor (Put k e) = k
actor (Adopt k n) = k
actor (Agree k n) = k

-- the move may be made
abbrev pub Can : Start → Spine → Move → Type 0
Can b s (Raise k t) = Rises s k t
Can b s (Stand k) = Stands b s k
Can b s (Grant j k) = Grants b s j k
Can b s (Lead k) = Leads b s k
Can b s (Put k e) = Puts s k
Can b s (Adopt k n) = Adopts s k n
Can b s (Agree k n) = Agrees s k n

-- the spine after the move
abbrev pub moved : Move → Spine → Spine
moved (Raise k t) s = raise k t s
moved (Stand k) s = stand k s
moved (Grant j k) s = grant j k s
moved (Lead k) s = lead k s
moved (Put k e) s = put k e s
moved (Adopt k n) s = adopt k n s
moved (Agree k n) s = agree k n s

-- the moves may be made one after another
abbrev pub CanAll : Start → Spine → List Move → Type 0
CanAll b s [] = Unit {0}
CanAll b s (m ∷ ms) = Can b s m × CanAll b (moved m s) ms

-- the spine after all the moves
abbrev pub moved_all : List Move → Spine → Spine
moved_all [] s = s
moved_all (m ∷ ms) s = moved_all ms (moved m s)
