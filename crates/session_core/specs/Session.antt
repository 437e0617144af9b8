-- What a session takes and writes, by the status that it ends with.
use Rattle.std.specs.Prelude.{◌≡◌, ℕ, ◌+◌, ◌-◌, ◌<◌, ◌≤◌, List, [], ◌++◌, length, take, Option, Some, None, IfSome}
use Rattle.line_io.specs.Lines.{lines, whole_lines}
use Rattle.line_io.specs.Streams.{Appends}
use Rattle.khepri_types.specs.declared.limits.TheConstants.{MAX_INPUT_BYTES}
use Rattle.khepri_types.specs.History.{empty_opening, StaysStable}
use Rattle.khepri_types.specs.Legal.{Legal}
use Rattle.khepri_types.specs.Calm.{calm, text_of}
use Rattle.session_core.specs.declared.status.Status.{Status}
use Rattle.session_core.specs.declared.status.Status.TheVariants.{Ended, Usage, SourceFault, SinkFault, NoMemory, AuditBad, InputLong, ListenFault}

-- these bytes are the front of what was left, where the source tells
abbrev pub Took : Option (List ℕ) → Option (List ℕ) → List ℕ → Type 0
Took None left' bytes = left' ≡ None
Took (Some left) left' bytes = (rest : List ℕ) × (left' ≡ Some rest) × (left ≡ bytes ++ rest)

-- nothing is left, where the source tells
abbrev pub IsAtEnd : Option (List ℕ) → Type 0
IsAtEnd left' = IfSome left' (λ rest. rest ≡ [])

-- the first bytes are a front of the second
abbrev pub IsFrontOf : List ℕ → List ℕ → Type 0
IsFrontOf written whole = (rest : List ℕ) × (whole ≡ written ++ rest)

-- the bytes that are written for these input lines
abbrev pub calm_text : List (List ℕ) → List ℕ
calm_text input = text_of (calm input)

-- the input was read to its end, and each of its lines has its answer
pub record IsEnded (left' : Option (List ℕ)) (bytes written : List ℕ) : Type 0 where
  pub at_end : IsAtEnd left'
  pub within : length bytes ≤ MAX_INPUT_BYTES
  pub answered : written ≡ calm_text (lines bytes)

-- the source failed, and each line that an LF ended has its answer
pub record IsCutOff (bytes written : List ℕ) : Type 0 where
  pub within : length bytes ≤ MAX_INPUT_BYTES
  pub answered : written ≡ calm_text (whole_lines bytes)

-- the byte after the most that an input may have was taken, and each line that an LF ended before it has its answer
pub record IsOver (bytes written : List ℕ) : Type 0 where
  pub over : length bytes ≡ MAX_INPUT_BYTES + 1
  pub answered : written ≡ calm_text (whole_lines (take MAX_INPUT_BYTES bytes))

-- the sink failed within the answer to line m, or within the first line of all where m is 0: the lines before it have their answers,
-- and its own is cut off; where the byte after the most that an input may have was taken, an LF before it ended line m
pub record IsBrokenOff (bytes written : List ℕ) : Type 0 where
  pub m : ℕ
  pub among : m ≤ length (lines bytes)
  pub before : 0 < m → IsFrontOf (calm_text (take (m - 1) (lines bytes))) written
  pub cut : length written < length (calm_text (take m (lines bytes)))
  pub within : length bytes ≡ MAX_INPUT_BYTES + 1 → m ≤ length (whole_lines (take MAX_INPUT_BYTES bytes))

-- what was taken and written, by the status
abbrev pub Says : Status → Option (List ℕ) → List ℕ → List ℕ → Type 0
Says Ended left' bytes written = IsEnded left' bytes written
Says Usage left' bytes written = ⊥
Says SourceFault left' bytes written = IsCutOff bytes written
Says SinkFault left' bytes written = IsBrokenOff bytes written
Says NoMemory left' bytes written = Unit {0}
Says AuditBad left' bytes written = ⊥
Says InputLong left' bytes written = IsOver bytes written
Says ListenFault left' bytes written = ⊥

-- a session took bytes and wrote a front of what is written for their lines, as its status says
pub record Session (status : Status) (left left' held held' : Option (List ℕ)) : Type 0 where
  pub bytes : List ℕ
  pub written : List ℕ
  pub took : Took left left' bytes
  pub wrote : Appends held held' written
  pub legal : Legal empty_opening (lines bytes) (calm (lines bytes))
  pub stable : StaysStable empty_opening (calm (lines bytes))
  pub front : IsFrontOf written (calm_text (lines bytes))
  pub most : length bytes ≤ MAX_INPUT_BYTES + 1
  pub says : Says status left' bytes written
