-- What a reader of lines has given, and what it has still to give.
use Rattle.std.specs.Prelude.{◌≡◌, ◌⊎◌, ℕ, ◌+◌, ◌-◌, ◌<◌, ◌≤◌, Bool, true, false, List, [], ◌++◌, length, take, Option, Some, None, Result, Ok, Err}
use Rattle.line_io.specs.Lines.{NoLf, lines, lines_from, last_line, no_line, whole_lines}
use Rattle.line_io.specs.Shown.{shown_lines, given, given_next}
use Rattle.line_io.specs.Reading.{Reading, bytes_ahead}
use Rattle.line_io.specs.Streams.{Rose}
use Rattle.line_io.specs.declared.next.Next.{Next}
use Rattle.line_io.specs.declared.next.Next.TheVariants.{Line, TooLong, End}
use Rattle.line_io.specs.declared.next.LineFault.{LineFault}
use Rattle.line_io.specs.declared.next.LineFault.TheVariants.{ReadFault, InputLong, NoMemory}

-- whatever follows these bytes, their lines are those given and then those of what is unread
abbrev pub Continues : (List ℕ → List (List ℕ)) → ℕ → List ℕ → List (Option (List ℕ)) → List ℕ → Type 0
Continues last limit bytes gave unread = (after : List ℕ) → shown_lines limit (lines_from last [] (bytes ++ after)) ≡ gave ++ shown_lines limit (lines_from last [] (unread ++ after))

-- this holds of all lines, and of those that an LF ends
pub record GoesOn (limit : ℕ) (bytes : List ℕ) (gave : List (Option (List ℕ))) (unread : List ℕ) : Type 0 where
  pub all : Continues last_line limit bytes gave unread
  pub whole : Continues no_line limit bytes gave unread

-- of these bytes these lines were given; at the end of the input they are all
abbrev pub Reads : ℕ → List ℕ → List (Option (List ℕ)) → List ℕ → Bool → Type 0
Reads limit bytes gave unread false = GoesOn limit bytes gave unread
Reads limit bytes gave unread true = (shown_lines limit (lines bytes) ≡ gave) × (unread ≡ [])

-- the bytes of which a call gives lines: those that were unread, and those within the budget that it took
abbrev pub bytes_before : Reading → List ℕ → List ℕ
bytes_before old bytes = old.unread ++ take (old.room - 1) bytes

-- these bytes are the front of what was left, where the source tells, and all of it where the end was met
abbrev pub TakesAll : Option (List ℕ) → Option (List ℕ) → List ℕ → Bool → Type 0
TakesAll None left' bytes ended = left' ≡ None
TakesAll (Some left) left' bytes ended = (rest : List ℕ) × (left' ≡ Some rest) × (left ≡ bytes ++ rest) × (ended ≡ true → rest ≡ [])

-- a call took these bytes, and gave these lines
pub record Step (old new : Reading) (left left' : Option (List ℕ)) (gave : List (Option (List ℕ))) (bytes : List ℕ) : Type 0 where
  pub taken : old.ended ≡ false → TakesAll left left' bytes new.ended
  pub over : old.ended ≡ true → (bytes ≡ []) × (gave ≡ []) × (new ≡ old) × (left' ≡ left)
  pub limit : new.limit ≡ old.limit
  pub spent : length bytes + new.room ≡ old.room
  pub reads : Reads old.limit (bytes_before old bytes) gave new.unread new.ended
  pub fewer : length gave + bytes_ahead new ≤ bytes_ahead old

-- a line ends with an LF, or with the input before the budget was passed
abbrev pub HasEnd : List ℕ → Reading → Type 0
HasEnd bytes new = (whole_lines bytes ≡ [] → ⊥) ⊎ ((new.ended ≡ true) × (0 < new.room) × (bytes ≡ [] → ⊥))

-- why a call answers what it does, where these are the bytes of which it gives lines
abbrev pub HasCause : Result Next LineFault → List ℕ → Reading → ℕ → ℕ → Type 0
HasCause (Ok (Line v)) bytes new before now = HasEnd bytes new
HasCause (Ok TooLong) bytes new before now = HasEnd bytes new
HasCause (Ok End) bytes new before now = (new.ended ≡ true) × (0 < new.room) × (bytes ≡ [])
HasCause (Err ReadFault) bytes new before now = Rose before now × (new.ended ≡ false) × (0 < new.room) × NoLf new.unread
HasCause (Err InputLong) bytes new before now = (new.ended ≡ false) × (new.room ≡ 0) × NoLf new.unread
HasCause (Err NoMemory) bytes new before now = new.ended ≡ false

-- what one call did, and why
pub record Call (old new : Reading) (left left' : Option (List ℕ)) (before now : ℕ) (result : Result Next LineFault) : Type 0 where
  pub bytes : List ℕ
  pub step : Step old new left left' (given result) bytes
  pub cause : HasCause result (bytes_before old bytes) new before now

-- the next line was given without the source, as by a call that takes nothing of it; or none stands whole among the bytes taken
abbrev pub NextTaken : Reading → Option Next → Reading → Type 0
NextTaken old None new = NoLf old.unread × (new ≡ old)
NextTaken old (Some next) new = (length (given_next next) ≡ 1) × ((left : Option (List ℕ)) (n : ℕ) → Call old new left left n n (Ok next))
