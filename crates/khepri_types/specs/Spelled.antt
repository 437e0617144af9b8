-- What has a spelling, with the limits that the grammar sets.
use Rattle.std.specs.Prelude.{◌≡◌, ℕ, ◌^◌, ◌<◌, ◌≤◌, List, length}
use Rattle.std.specs.List.{AllByRecursion}
use lib.Signed.{mag}
use Rattle.khepri_terms.specs.Bytes.{AreBytes}
use Rattle.khepri_terms.specs.Paths.{IsPath}
use Rattle.khepri_terms.specs.Records.{IsRec}
use Rattle.khepri_types.specs.declared.limits.TheConstants.{MAX_WATCHES, MAX_SHOWN_NODES}
use Rattle.khepri_types.specs.declared.node.Payload.{Payload}
use Rattle.khepri_types.specs.declared.node.Payload.TheVariants.{Empty, Fields, Proc}
use Rattle.khepri_types.specs.declared.command.Command.{Command}
use Rattle.khepri_types.specs.declared.command.Command.TheVariants.{Put, Create, Update, Cas, Clear, Del, Delmany, Get, Many, Count, Tx, Run}
use Rattle.khepri_types.specs.declared.command.Line.{Line}
use Rattle.khepri_types.specs.declared.command.Line.TheVariants as line
use Rattle.khepri_types.specs.declared.reply.Reply.{Reply}
use Rattle.khepri_types.specs.declared.reply.Reply.TheVariants as reply
use Rattle.khepri_types.specs.declared.out.EntryText.{EntryText}
use Rattle.khepri_types.specs.declared.out.EntryText.TheVariants as text
use Rattle.khepri_types.specs.declared.out.OutLine.{OutLine}
use Rattle.khepri_types.specs.declared.out.OutLine.TheVariants as out
use Rattle.khepri_types.specs.declared.shown.ShownNode.{ShownNode}
use Rattle.khepri_types.specs.declared.watch.Watch.{Watch}
use Rattle.khepri_types.specs.declared.watch.Watching.{Watching}
use Rattle.khepri_types.specs.declared.watch.Watching.TheVariants.{Stay, Free, While}
use Rattle.khepri_types.specs.ConditionTexts.{IsCondition}
use Rattle.khepri_types.specs.PatternTexts.{IsPattern}
use Rattle.khepri_types.specs.ScriptTexts.{IsScript}
use Rattle.khepri_types.specs.declared.value.Value.{Value}
use Rattle.khepri_types.specs.declared.value.Value.TheVariants as value
pub use Rattle.khepri_types.specs.Ranges.{IsNumber}

-- a node that may be named by one digit
abbrev pub IsNode : ℕ → Type 0
IsNode k = (1 ≤ k) × (k ≤ 9)

-- a payload that may be written
abbrev pub IsPayload : Payload → Type 0
IsPayload Empty = Unit {0}
IsPayload (Fields r) = IsRec r
IsPayload (Proc s) = IsScript s

-- a watch that may be written; its target may have more names than the path of a node
pub record IsWatch (w : Watch) : Type 0 where
  pub target : IsPath w.target
  pub cond : IsCondition w.cond

-- watches that may be written behind a payload
pub record AreWatches (watches : List Watch) : Type 0 where
  pub some : 1 ≤ length watches
  pub few : length watches ≤ MAX_WATCHES
  pub each : AllByRecursion IsWatch watches

-- what may be written of watches
abbrev pub IsWatching : Watching → Type 0
IsWatching Stay = Unit {0}
IsWatching Free = Unit {0}
IsWatching (While watches) = AreWatches watches

-- a command that may be written; its path may have more names than the path of a node
abbrev pub IsCommand : Command → Type 0
IsCommand (Put p x w) = IsPath p × IsPayload x × IsWatching w
IsCommand (Create p x w) = IsPath p × IsPayload x × IsWatching w
IsCommand (Update p x w) = IsPath p × IsPayload x × IsWatching w
IsCommand (Cas p c x w) = IsPath p × IsCondition c × IsPayload x × IsWatching w
IsCommand (Clear p) = IsPath p
IsCommand (Del p) = IsPath p
IsCommand (Delmany parts) = IsPattern parts
IsCommand (Get p) = IsPath p
IsCommand (Many parts limit) = IsPattern parts × (1 ≤ limit) × (limit ≤ MAX_SHOWN_NODES)
IsCommand (Count parts) = IsPattern parts
IsCommand (Tx args s) = IsRec args × IsScript s
IsCommand (Run p args) = IsPath p × IsRec args

-- an input line that may be written
abbrev pub IsLine : Line → Type 0
IsLine (line.Command k c) = IsNode k × IsCommand c

-- a node that may be listed
pub record IsShownNode (s : ShownNode) : Type 0 where
  pub path : IsPath s.path
  pub pv : IsNumber s.pv
  pub cv : IsNumber s.cv
  pub kids : IsNumber s.kids
  pub payload : IsPayload s.payload

-- a value that may be written: its text has no limit
abbrev pub IsValue : Value → Type 0
IsValue (value.Int z) = mag z < 2 ^ 63
IsValue (value.Text b) = AreBytes b
IsValue (value.Path p) = IsPath p
IsValue (value.Rec f) = IsRec f

-- a reply that may be written; it may list any number of nodes, and of values
abbrev pub IsReply : Reply → Type 0
IsReply (reply.Changed n k) = IsNumber n × IsNumber k
IsReply (reply.Node pv cv kids x) = IsNumber pv × IsNumber cv × IsNumber kids × IsPayload x
IsReply (reply.Nodes m nodes) = IsNumber m × AllByRecursion IsShownNode nodes
IsReply (reply.Count m) = IsNumber m
IsReply (reply.Done k values) = IsNumber k × AllByRecursion IsValue values
IsReply reply.NoRoot = Unit {0}
IsReply reply.NoDeep = Unit {0}
IsReply reply.NoScript = Unit {0}
IsReply reply.NoExists = Unit {0}
IsReply reply.NoAbsent = Unit {0}
IsReply reply.NoMismatch = Unit {0}
IsReply (reply.NoWhile p) = IsPath p
IsReply reply.NoName = Unit {0}
IsReply reply.NoSpent = Unit {0}
IsReply (reply.NoAbort b) = AreBytes b
IsReply reply.NoFull = Unit {0}

-- what may stand in the `#` line of input line l: a command; where l is 0 also a fire or a noop
abbrev pub IsEntryText : ℕ → EntryText → Type 0
IsEntryText l (text.Command c) = IsCommand c
IsEntryText l (text.Fire s) = (l ≡ 0) × IsNumber s
IsEntryText l text.Noop = l ≡ 0

-- an output line that may be written
abbrev pub HasSpelling : OutLine → Type 0
HasSpelling (out.Entry n l t) = IsNumber n × IsNumber l × IsEntryText l t
HasSpelling (out.Reply l n r) = IsNumber l × IsNumber n × IsReply r
HasSpelling (out.Lost l) = IsNumber l
HasSpelling (out.Pending l n) = IsNumber l × IsNumber n
HasSpelling (out.Read l n rows) = IsNumber l × IsNumber n
HasSpelling (out.Refused l r) = IsNumber l
HasSpelling (out.Leads k t) = IsNode k × IsNumber t
HasSpelling (out.Follows k t) = IsNode k × IsNumber t
HasSpelling (out.Stopped k c) = IsNode k
HasSpelling (out.Started k) = IsNode k
