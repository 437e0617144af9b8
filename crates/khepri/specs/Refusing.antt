-- What is written where the words of a command line are not known.
use Rattle.std.specs.Prelude.{◌≡◌, ℕ, List, Option}
use Rattle.line_io.specs.Streams.{Appends, AppendsPart}
use Rattle.session_core.specs.declared.status.Status.{Status}
use Rattle.session_core.specs.declared.status.Status.TheVariants.{Ended, Usage, SourceFault, SinkFault, NoMemory, AuditBad, InputLong, ListenFault}
use Rattle.khepri.specs.Words.{usage_line}

-- where the words are not known, nothing was taken, and the usage line was written, or not all of it where the sink failed
abbrev pub Refuses : Status → Option (List ℕ) → Option (List ℕ) → Option (List ℕ) → Option (List ℕ) → Type 0
Refuses Ended left left' held held' = ⊥
Refuses Usage left left' held held' = (left' ≡ left) × Appends held held' usage_line
Refuses SourceFault left left' held held' = ⊥
Refuses SinkFault left left' held held' = (left' ≡ left) × AppendsPart held held' usage_line
Refuses NoMemory left left' held held' = ⊥
Refuses AuditBad left left' held held' = ⊥
Refuses InputLong left left' held held' = ⊥
Refuses ListenFault left left' held held' = ⊥
