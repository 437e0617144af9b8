-- Statuses as numbers.
use Rattle.std.specs.Prelude.{ℕ}
use Rattle.session_core.specs.declared.status.Status.{Status}
use Rattle.session_core.specs.declared.status.Status.TheVariants.{Ended, Usage, SourceFault, SinkFault, NoMemory, AuditBad, InputLong, ListenFault}

-- the exit status
abbrev pub code_of : Status → ℕ
code_of Ended = 0
code_of Usage = 1
code_of SourceFault = 2
code_of SinkFault = 3
code_of NoMemory = 4
code_of AuditBad = 5
code_of InputLong = 6
code_of ListenFault = 7
