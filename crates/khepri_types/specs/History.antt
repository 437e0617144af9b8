-- The history that an output tells, and what it stands on.
use Rattle.std.specs.Prelude.{ℕ, ◌+◌, IsTrue, List, [], ◌∷◌, length, take}
use Rattle.khepri_types.specs.declared.out.EntryText.{EntryText}
use Rattle.khepri_types.specs.declared.out.OutLine.{OutLine}
use Rattle.khepri_types.specs.declared.out.OutLine.TheVariants as out
use Rattle.khepri_types.specs.Exec.{State, opening_state, state_of}
use Rattle.khepri_types.specs.Settling.{stable}

-- what a session begins with: a state at its position, and the entries that the nodes' stores hold from earlier sessions, by place
pub record Opening : Type 0 where
  pub state : State
  pub held : ℕ → List EntryText

-- nothing was there before
abbrev pub empty_opening : Opening
empty_opening = record { state = opening_state; held = λ n. [] }

-- the entries of the `#` lines, in order
abbrev pub history : List OutLine → List EntryText
history [] = []
history (out.Entry n l t ∷ lines) = t ∷ history lines
history (x ∷ lines) = history lines

-- the state after these entries
abbrev pub run_from : State → List EntryText → State
run_from S [] = S
run_from S (e ∷ es) = run_from (state_of S e) es

-- the state after the entries that these lines tell
abbrev pub state_after : Opening → List OutLine → State
state_after O lines = run_from O.state (history lines)

-- how long the history is after these lines
abbrev pub length_after : Opening → List OutLine → ℕ
length_after O lines = O.state.position + length (history lines)

-- after each front of the entries that these lines tell, no node of the tree fails
abbrev pub StaysStable : Opening → List OutLine → Type 0
StaysStable O lines = (n : ℕ) → IsTrue (stable (run_from O.state (take n (history lines))).tree)
