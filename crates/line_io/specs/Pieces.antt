-- What a reader of lines does with one piece of its input.
use Rattle.std.specs.Prelude.{◌≡◌, ℕ, ◌+◌, ◌<◌, ◌≤◌, true, false, List, [], length, Option, Some, None, Result, Ok, Err}
use Rattle.line_io.specs.Lines.{NoLf, lines}
use Rattle.line_io.specs.Shown.{shown_lines, given_next}
use Rattle.line_io.specs.Reading.{Reading, bytes_ahead}
use Rattle.line_io.specs.Ahead.{GoesOn, bytes_before, TakesAll}
use Rattle.line_io.specs.Streams.{Rose}
use Rattle.line_io.specs.declared.next.Next.{Next}
use Rattle.line_io.specs.declared.next.LineFault.{LineFault}
use Rattle.line_io.specs.declared.next.LineFault.TheVariants.{ReadFault, InputLong, NoMemory}

-- a whole line was given, and what stood behind it is unread
pub record FoundLine (old new : Reading) (next : Next) : Type 0 where
  pub stays : new ≡ record old { unread = new.unread }
  pub goes : GoesOn old.limit old.unread (given_next next) new.unread
  pub one : length (given_next next) ≡ 1
  pub fewer : length new.unread < length old.unread

-- the first whole line of what was unread, or that there is none
abbrev pub Found : Reading → Option Next → Reading → Type 0
Found old None new = NoLf old.unread × (new ≡ old)
Found old (Some next) new = FoundLine old new next

-- a piece came
pub record Came (old new : Reading) (left left' : Option (List ℕ)) (bytes : List ℕ) : Type 0 where
  pub taken : TakesAll left left' bytes false
  pub limit : new.limit ≡ old.limit
  pub going : new.ended ≡ false
  pub spent : length bytes + new.room ≡ old.room
  pub goes : GoesOn old.limit (bytes_before old bytes) [] new.unread
  pub fewer : bytes_ahead new ≤ bytes_ahead old

-- the end was met, and what stood unread is the last line
pub record Ended (old new : Reading) (left left' : Option (List ℕ)) (next : Next) : Type 0 where
  pub taken : TakesAll left left' [] true
  pub stays : new ≡ record old { unread = []; ended = true }
  pub last : given_next next ≡ shown_lines old.limit (lines old.unread)

-- taking a piece: it comes, or the end is met, or the source fails
abbrev pub Taken : Reading → Reading → Option (List ℕ) → Option (List ℕ) → ℕ → ℕ → Result (Option Next) LineFault → Type 0
Taken old new left left' before now (Ok None) = (bytes : List ℕ) × Came old new left left' bytes × (new.room < old.room)
Taken old new left left' before now (Ok (Some next)) = Ended old new left left' next
Taken old new left left' before now (Err ReadFault) = Rose before now × NoLf new.unread × (new.room ≡ old.room) × Came old new left left' []
Taken old new left left' before now (Err InputLong) = ⊥
Taken old new left left' before now (Err NoMemory) = Came old new left left' []
