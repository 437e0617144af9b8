-- Which output is legal for which input: twelve rules over the two lists of lines.
use Rattle.std.specs.Prelude.{◌≡◌, ◌⊎◌, ℕ, zero, suc, ◌+◌, ◌<◌, ◌≤◌, List, [], ◌∷◌, ◌++◌, length, slice_get, Option, Some, None}
use Rattle.std.specs.List.{AllByRecursion}
use Rattle.khepri_types.specs.declared.limits.TheConstants.{MAX_LINE_BYTES}
use Rattle.khepri_types.specs.declared.command.Command.{Command}
use Rattle.khepri_types.specs.declared.command.Line.{Line}
use Rattle.khepri_types.specs.declared.command.Line.TheVariants as line
use Rattle.khepri_types.specs.declared.reply.Reply.{Reply}
use Rattle.khepri_types.specs.declared.out.EntryText.{EntryText}
use Rattle.khepri_types.specs.declared.out.EntryText.TheVariants as text
use Rattle.khepri_types.specs.declared.out.Reason.{Reason}
use Rattle.khepri_types.specs.declared.out.Reason.TheVariants.{TooLong, BadLine, NoNode, Running, Stopped, NotLeader, LogFull, Backlog, NoSlot}
use Rattle.khepri_types.specs.declared.out.OutLine.{OutLine}
use Rattle.khepri_types.specs.declared.out.OutLine.TheVariants as out
use Rattle.khepri_types.specs.declared.out.Rows.{Rows}
use Rattle.khepri_types.specs.Exec.{reply_of, first_event, Lookup, look, rows_of}
use Rattle.khepri_types.specs.Spelled.{HasSpelling}
use Rattle.khepri_types.specs.Reading.{line_at}
use Rattle.khepri_types.specs.History.{Opening, state_after, length_after}

-- ---- reading the two lists

-- input line l, counted from 1
abbrev pub input_line : List (List ℕ) → ℕ → Option (List ℕ)
input_line input zero = None
input_line input (suc l) = slice_get input l

-- what the bytes of a line spell, where there is such a line
abbrev pub read_line : Option (List ℕ) → Option Line
read_line None = None
read_line (Some bytes) = line_at bytes

-- what input line l spells
abbrev pub line_of : List (List ℕ) → ℕ → Option Line
line_of input l = read_line (input_line input l)

-- the command that a line carries
abbrev pub command_in : Option Line → Option Command
command_in None = None
command_in (Some (line.Command k c)) = Some c

-- the command that input line l is
abbrev pub command_of : List (List ℕ) → ℕ → Option Command
command_of input l = command_in (line_of input l)

-- the look-up that a line asks for: so far no line is one
abbrev pub lookup_in : Option Line → Option Lookup
lookup_in None = None
lookup_in (Some (line.Command k c)) = None

-- the look-up that input line l asks for
abbrev pub lookup_of : List (List ℕ) → ℕ → Option Lookup
lookup_of input l = lookup_in (line_of input l)

-- the input line that an output line names, and 0 where it names none
abbrev pub named : OutLine → ℕ
named (out.Entry n l t) = l
named (out.Reply l n r) = l
named (out.Lost l) = l
named (out.Pending l n) = l
named (out.Read l n rows) = l
named (out.Refused l r) = l
named x = 0

-- the input line that a `#` line names
abbrev pub entered : OutLine → ℕ
entered (out.Entry n l t) = l
entered x = 0

-- the input line that a `#`, `*` or `-` line names
abbrev pub settled : OutLine → ℕ
settled (out.Entry n l t) = l
settled (out.Lost l) = l
settled (out.Read l n rows) = l
settled (out.Refused l r) = l
settled x = 0

-- the input line that a `?` line names
abbrev pub awaited : OutLine → ℕ
awaited (out.Pending l n) = l
awaited x = 0

-- none of these lines names l so
abbrev pub Nowhere : (OutLine → ℕ) → ℕ → List OutLine → Type 0
Nowhere number l lines = AllByRecursion (λ x. number x ≡ l → ⊥) lines

-- of each line, with those before it and those after it
abbrev pub AtEach : (List OutLine → OutLine → List OutLine → Type 0) → List OutLine → List OutLine → Type 0
AtEach rule before [] = Unit {0}
AtEach rule before (x ∷ after) = rule before x after × AtEach rule (before ++ x ∷ []) after

-- ---- the twelve rules, each of a line x

-- `#` lines are numbered one after the other, from the opening's position on
abbrev pub Numbered : Opening → List OutLine → OutLine → List OutLine → Type 0
Numbered O before (out.Entry n l t) after = n ≡ length_after O before + 1
Numbered O before x after = Unit {0}

-- the entry of line l is that line's command, and no other `#` line has it
pub record IsOwn (input : List (List ℕ)) (before after : List OutLine) (l : ℕ) (t : EntryText) : Type 0 where
  pub command : (c : Command) × (command_of input l ≡ Some c) × (t ≡ text.Command c)
  pub not_before : Nowhere entered l before
  pub not_after : Nowhere entered l after

-- a `#` line that names an input line carries the command of that line, once
abbrev pub Carried : List (List ℕ) → List OutLine → OutLine → List OutLine → Type 0
Carried input before (out.Entry n l t) after = 0 < l → IsOwn input before after l t
Carried input before x after = Unit {0}

-- an entry of no line of this session: a noop, the fire of the first queued event, or a command that a store held from before at this place
abbrev pub IsOlder : Opening → List OutLine → ℕ → EntryText → Type 0
IsOlder O before n (text.Command c) = (i : ℕ) × (slice_get (O.held n) i ≡ Some (text.Command c))
IsOlder O before n (text.Fire s) = first_event (state_after O before) ≡ Some s
IsOlder O before n text.Noop = Unit {0}

-- a `#` line that names none has such an entry
abbrev pub Explained : Opening → List OutLine → OutLine → List OutLine → Type 0
Explained O before (out.Entry n l t) after = l ≡ 0 → IsOlder O before n t
Explained O before x after = Unit {0}

-- the next line, where there is one, is the reply that the history gives
abbrev pub IsAnswered : Opening → List OutLine → ℕ → ℕ → EntryText → List OutLine → Type 0
IsAnswered O before n l t [] = Unit {0}
IsAnswered O before n l t (y ∷ after) = (r : Reply) × (reply_of (state_after O before) t ≡ Some r) × (y ≡ out.Reply l n r)

-- the entry is a noop
abbrev pub IsNoop : EntryText → Type 0
IsNoop (text.Command c) = ⊥
IsNoop (text.Fire s) = ⊥
IsNoop text.Noop = Unit {0}

-- a `=` line directly behind the `#` line of its entry, which is no noop
pub record IsBehind (before : List OutLine) (l n : ℕ) : Type 0 where
  pub front : List OutLine
  pub entry : EntryText
  pub is : before ≡ front ++ out.Entry n l entry ∷ []
  pub answers : IsNoop entry → ⊥

-- behind the `#` line of each entry but noop stands its reply, and no other `=` line stands anywhere
abbrev pub Answered : Opening → List OutLine → OutLine → List OutLine → Type 0
Answered O before (out.Entry n l text.Noop) after = Unit {0}
Answered O before (out.Entry n l t) after = IsAnswered O before n l t after
Answered O before (out.Reply l n r) after = IsBehind before l n
Answered O before x after = Unit {0}

-- where this is the `#` line of l, it has place n
abbrev pub IsAt : ℕ → ℕ → OutLine → Type 0
IsAt l n (out.Entry m k t) = k ≡ l → m ≡ n
IsAt l n x = Unit {0}

-- line l is a command that waits for place n
pub record IsWaiting (O : Opening) (input : List (List ℕ)) (before after : List OutLine) (l n : ℕ) : Type 0 where
  pub command : (c : Command) × (command_of input l ≡ Some c)
  pub ahead : length_after O before < n
  pub later : AllByRecursion (IsAt l n) after

-- a `?` line names a command and a place above the history's length, and its entry comes at no other
abbrev pub Awaited : Opening → List (List ℕ) → List OutLine → OutLine → List OutLine → Type 0
Awaited O input before (out.Pending l n) after = IsWaiting O input before after l n
Awaited O input before x after = Unit {0}

-- where this is a `?` line of l, its place is reached
abbrev pub IsReached : ℕ → ℕ → OutLine → Type 0
IsReached reached l (out.Pending k n) = k ≡ l → n ≤ reached
IsReached reached l x = Unit {0}

-- line l is a command whose entry is nowhere, and each place that a `?` line of it gave is reached
pub record IsGone (O : Opening) (input : List (List ℕ)) (before after : List OutLine) (l : ℕ) : Type 0 where
  pub command : (c : Command) × (command_of input l ≡ Some c)
  pub not_before : Nowhere entered l before
  pub not_after : Nowhere entered l after
  pub reached : AllByRecursion (IsReached (length_after O before) l) before

-- a `lost` line names such a command
abbrev pub Lost : Opening → List (List ℕ) → List OutLine → OutLine → List OutLine → Type 0
Lost O input before (out.Lost l) after = IsGone O input before after l
Lost O input before x after = Unit {0}

-- the rows that line l asked for, at the history's length
pub record IsShown (O : Opening) (input : List (List ℕ)) (before : List OutLine) (l n : ℕ) (rows : Rows) : Type 0 where
  pub asked : Lookup
  pub line : lookup_of input l ≡ Some asked
  pub place : n ≡ length_after O before
  pub is : rows ≡ rows_of (look (state_after O before) asked)

-- a `*` line shows the whole answer of its look-up after all entries so far
abbrev pub Shown : Opening → List (List ℕ) → List OutLine → OutLine → List OutLine → Type 0
Shown O input before (out.Read l n rows) after = IsShown O input before l n rows
Shown O input before x after = Unit {0}

-- the line names a node
abbrev pub NamesNode : Line → Type 0
NamesNode (line.Command k c) = Unit {0}

-- the line is a command or a beat
abbrev pub AsksLeader : Line → Type 0
AsksLeader (line.Command k c) = Unit {0}

-- the line is a command
abbrev pub IsCommandLine : Line → Type 0
IsCommandLine (line.Command k c) = Unit {0}

-- the line starts a node: so far none does
abbrev pub IsStart : Line → Type 0
IsStart (line.Command k c) = ⊥

-- the line names the place of a message: so far none does
abbrev pub NamesPlace : Line → Type 0
NamesPlace (line.Command k c) = ⊥

-- input line l spells a line of this kind
abbrev pub Is : (Line → Type 0) → List (List ℕ) → ℕ → Type 0
Is kind input l = (x : Line) × (line_of input l ≡ Some x) × kind x

-- input line l has more bytes than a line may have
abbrev pub IsTooLong : List (List ℕ) → ℕ → Type 0
IsTooLong input l = (bytes : List ℕ) × (input_line input l ≡ Some bytes) × (MAX_LINE_BYTES < length bytes)

-- input line l has no more, and is no spelling
abbrev pub IsBad : List (List ℕ) → ℕ → Type 0
IsBad input l = (bytes : List ℕ) × (input_line input l ≡ Some bytes) × (length bytes ≤ MAX_LINE_BYTES) × (line_at bytes ≡ None)

-- line l may be refused for this reason
abbrev pub MayRefuse : List (List ℕ) → ℕ → Reason → Type 0
MayRefuse input l TooLong = IsTooLong input l
MayRefuse input l BadLine = IsBad input l
MayRefuse input l NoNode = Is NamesNode input l
MayRefuse input l Running = Is IsStart input l
MayRefuse input l Stopped = Is NamesNode input l
MayRefuse input l NotLeader = Is AsksLeader input l
MayRefuse input l LogFull = Is IsCommandLine input l
MayRefuse input l Backlog = Is IsCommandLine input l
MayRefuse input l NoSlot = Is NamesPlace input l

-- a refusal names a line that may be refused so
abbrev pub Refused : List (List ℕ) → List OutLine → OutLine → List OutLine → Type 0
Refused input before (out.Refused l r) after = MayRefuse input l r
Refused input before x after = Unit {0}

-- where this line settles l, it is its `#` line or its `lost` line
abbrev pub IsEnd : ℕ → OutLine → Type 0
IsEnd l (out.Read k n rows) = k ≡ l → ⊥
IsEnd l (out.Refused k r) = k ≡ l → ⊥
IsEnd l x = Unit {0}

-- a `?` line of l: the only one, with no other line of l before it, and after it only what ends the waiting
pub record IsOnce (before after : List OutLine) (l : ℕ) : Type 0 where
  pub first : Nowhere awaited l before
  pub not_before : Nowhere settled l before
  pub then : AllByRecursion (IsEnd l) after

-- at most one `#`, `*` or `-` line names an input line, and at most one `?` line, before it
abbrev pub Once : List OutLine → OutLine → List OutLine → Type 0
Once before (out.Pending l n) after = 0 < l → IsOnce before after l
Once before x after = 0 < settled x → Nowhere settled (settled x) before

-- the first lines that name input lines name them in rising order
abbrev pub Rising : List OutLine → OutLine → List OutLine → Type 0
Rising before x after = 0 < named x → (Nowhere named (named x) before → ⊥) ⊎ AllByRecursion (λ y. named y < named x) before

-- where this line says that a node leads, it is in another term
abbrev pub LeadsElse : ℕ → OutLine → Type 0
LeadsElse t (out.Leads k u) = u ≡ t → ⊥
LeadsElse t x = Unit {0}

-- no two lines say that a node leads in one term
abbrev pub OneLeader : List OutLine → OutLine → List OutLine → Type 0
OneLeader before (out.Leads k t) after = AllByRecursion (LeadsElse t) before
OneLeader before x after = Unit {0}

-- the output lines are legal for the input lines over an opening
pub record Legal (O : Opening) (input : List (List ℕ)) (output : List OutLine) : Type 0 where
  pub spelled : AllByRecursion HasSpelling output
  pub numbered : AtEach (Numbered O) [] output
  pub carried : AtEach (Carried input) [] output
  pub explained : AtEach (Explained O) [] output
  pub answered : AtEach (Answered O) [] output
  pub awaited : AtEach (Awaited O input) [] output
  pub lost : AtEach (Lost O input) [] output
  pub shown : AtEach (Shown O input) [] output
  pub refused : AtEach (Refused input) [] output
  pub once : AtEach Once [] output
  pub rising : AtEach Rising [] output
  pub one_leader : AtEach OneLeader [] output
