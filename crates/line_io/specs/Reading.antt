-- A reader of lines, and the facts that it keeps.
use Rattle.std.specs.Prelude.{◌≡◌, ℕ, ◌+◌, ◌-◌, ◌<◌, ◌≤◌, Bool, true, false, if◌then◌else◌, List, [], ◌++◌, length, take, drop}
use Rattle.line_io.specs.Lines.{NoLf}

-- a reader as its callers see it
pub record Reading : Type 0 where
  pub limit : ℕ  -- the most bytes of a line
  pub unread : List ℕ  -- the bytes taken and not yet given; of a line that is too long its front
  pub room : ℕ  -- how many more bytes may be taken, of which the last is the one after the budget
  pub ended : Bool  -- a take gave no bytes

-- how many more bytes may be taken, where this much of the budget is left
abbrev pub room_of : ℕ → Bool → ℕ
room_of budget past = if past then 0 else budget + 1

-- a line that began in an earlier piece, and what is unread of the last piece
abbrev pub unread_of : List ℕ → List ℕ → ℕ → ℕ → List ℕ
unread_of begun piece at end = begun ++ take (end - at) (drop at piece)

-- the place is within the piece, and of a line that began only the front that decides is kept
pub record IsReader (limit : ℕ) (begun piece : List ℕ) (at end : ℕ) (past ended : Bool) : Type 0 where
  pub place : at ≤ end
  pub within : end ≤ length piece
  pub some : 0 < length piece
  pub front : length begun ≤ limit + 2
  pub free : NoLf begun
  pub over : ended ≡ true → (begun ≡ []) × (at ≡ end) × (past ≡ false)

-- at most how many bytes the reader can still give lines of
abbrev pub bytes_ahead : Reading → ℕ
bytes_ahead r = length r.unread + (r.room - 1)
