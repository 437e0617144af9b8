-- What a turn of a session puts out and is given.
use Rattle.std.specs.Prelude.{◌≡◌, ℕ, List, [], ◌++◌, Option, Some, None, Result, Ok, Err}
use Rattle.line_io.specs.Reading.{Reading}
use Rattle.line_io.specs.Ahead.{Call, NextTaken}
use Rattle.line_io.specs.Streams.{Rose, Appends, AppendsPart}
use Rattle.line_io.specs.declared.next.Next.{Next}
use Rattle.line_io.specs.declared.next.Next.TheVariants.{End}
use Rattle.line_io.specs.declared.next.LineFault.TheVariants as fault
use Rattle.session_core.specs.declared.status.Status.{Status}
use Rattle.session_core.specs.declared.status.Status.TheVariants.{Ended, Usage, SourceFault, SinkFault, NoMemory, AuditBad, InputLong, ListenFault}

-- the next line stands among the bytes taken; or none is given, and the reader is as it was
abbrev pub AtHand : Reading → Reading → Option Next → Type 0
AtHand r r' None = r' ≡ r
AtHand r r' (Some next) = NextTaken r (Some next) r'

-- a call of the reader, a fault told as a status
abbrev pub Asks : Reading → Reading → Option (List ℕ) → Option (List ℕ) → ℕ → ℕ → Result Next Status → Type 0
Asks r r' left left' n n' (Ok next) = Call r r' left left' n n' (Ok next)
Asks r r' left left' n n' (Err Ended) = ⊥
Asks r r' left left' n n' (Err Usage) = ⊥
Asks r r' left left' n n' (Err SourceFault) = Call r r' left left' n n' (Err fault.ReadFault)
Asks r r' left left' n n' (Err SinkFault) = ⊥
Asks r r' left left' n n' (Err NoMemory) = Call r r' left left' n n' (Err fault.NoMemory)
Asks r r' left left' n n' (Err AuditBad) = ⊥
Asks r r' left left' n n' (Err InputLong) = Call r r' left left' n n' (Err fault.InputLong)
Asks r r' left left' n n' (Err ListenFault) = ⊥

-- a front of what is gathered was put out, and the rest stays gathered; at the end of the input nothing does
pub record Given (r r' : Reading) (left left' : Option (List ℕ)) (n n' : ℕ) (held held' : Option (List ℕ)) (out out' : List ℕ) (next : Next) : Type 0 where
  pub call : Call r r' left left' n n' (Ok next)
  pub front : List ℕ
  pub wrote : Appends held held' front
  pub rest : out ≡ front ++ out'
  pub all : next ≡ End → out' ≡ []

-- all that is gathered was put out, and then the reader gave no line
pub record Stopped (r r' : Reading) (left left' : Option (List ℕ)) (n n' : ℕ) (held held' : Option (List ℕ)) (out : List ℕ) (status : Status) : Type 0 where
  pub wrote : Appends held held' out
  pub asked : Asks r r' left left' n n' (Err status)

-- not all of what is gathered was put out, as the sink failed
pub record Broke (held held' : Option (List ℕ)) (k k' : ℕ) (out : List ℕ) : Type 0 where
  pub wrote : AppendsPart held held' out
  pub cause : Rose k k'

-- the source was not asked, as the sink had failed
pub record BrokeOff (r r' : Reading) (left left' : Option (List ℕ)) (held held' : Option (List ℕ)) (k k' : ℕ) (out : List ℕ) : Type 0 where
  pub reader : r' ≡ r
  pub source : left' ≡ left
  pub broke : Broke held held' k k' out

-- one line is given, or why there is none
abbrev pub Turn : Reading → Reading → Option (List ℕ) → Option (List ℕ) → ℕ → ℕ → Option (List ℕ) → Option (List ℕ) → ℕ → ℕ → List ℕ → List ℕ → Result Next Status → Type 0
Turn r r' left left' n n' held held' k k' out out' (Ok next) = Given r r' left left' n n' held held' out out' next
Turn r r' left left' n n' held held' k k' out out' (Err Ended) = ⊥
Turn r r' left left' n n' held held' k k' out out' (Err Usage) = ⊥
Turn r r' left left' n n' held held' k k' out out' (Err SourceFault) = Stopped r r' left left' n n' held held' out SourceFault
Turn r r' left left' n n' held held' k k' out out' (Err SinkFault) = BrokeOff r r' left left' held held' k k' out
Turn r r' left left' n n' held held' k k' out out' (Err NoMemory) = Stopped r r' left left' n n' held held' out NoMemory
Turn r r' left left' n n' held held' k k' out out' (Err AuditBad) = ⊥
Turn r r' left left' n n' held held' k k' out out' (Err InputLong) = Stopped r r' left left' n n' held held' out InputLong
Turn r r' left left' n n' held held' k k' out out' (Err ListenFault) = ⊥

-- what is gathered was put out before a session ends for want of memory, or the sink failed
abbrev pub Parted : Option (List ℕ) → Option (List ℕ) → ℕ → ℕ → List ℕ → Status → Type 0
Parted held held' k k' out Ended = ⊥
Parted held held' k k' out Usage = ⊥
Parted held held' k k' out SourceFault = ⊥
Parted held held' k k' out SinkFault = Broke held held' k k' out
Parted held held' k k' out NoMemory = Appends held held' out
Parted held held' k k' out AuditBad = ⊥
Parted held held' k k' out InputLong = ⊥
Parted held held' k k' out ListenFault = ⊥
