-- The one spelling of commands, replies and output lines.
use Rattle.std.specs.Prelude.{ℕ, List, [], ◌∷◌, ◌++◌, codes}
use Rattle.std.specs.List.{flat_map}
use Rattle.std.specs.Fmt.{decimal, signed_decimal}
use Rattle.khepri_terms.specs.Terms.{NameText}
use Rattle.khepri_terms.specs.Names.{comp_text}
use Rattle.khepri_terms.specs.Paths.{path_text}
use Rattle.khepri_terms.specs.Records.{rec_text}
use Rattle.khepri_types.specs.declared.node.Payload.{Payload}
use Rattle.khepri_types.specs.declared.node.Payload.TheVariants.{Empty, Fields, Proc}
use Rattle.khepri_types.specs.declared.command.Command.{Command}
use Rattle.khepri_types.specs.declared.command.Command.TheVariants.{Put, Create, Update, Cas, Clear, Del, Delmany, Get, Many, Count, Tx, Run}
use Rattle.khepri_types.specs.declared.command.Line.{Line}
use Rattle.khepri_types.specs.declared.command.Line.TheVariants as line
use Rattle.khepri_types.specs.declared.reply.Reply.{Reply}
use Rattle.khepri_types.specs.declared.reply.Reply.TheVariants as reply
use Rattle.khepri_types.specs.declared.out.EntryText.{EntryText}
use Rattle.khepri_types.specs.declared.out.EntryText.TheVariants as text
use Rattle.khepri_types.specs.declared.out.Reason.{Reason}
use Rattle.khepri_types.specs.declared.out.Reason.TheVariants.{TooLong, BadLine, NoNode, Running, Stopped, NotLeader, LogFull, Backlog, NoSlot}
use Rattle.khepri_types.specs.declared.out.StopWord.{StopWord}
use Rattle.khepri_types.specs.declared.out.StopWord.TheVariants.{Order, Vault, Memory, Bad}
use Rattle.khepri_types.specs.declared.out.Rows.{Rows}
use Rattle.khepri_types.specs.declared.out.Rows.TheVariants.{Absent}
use Rattle.khepri_types.specs.declared.out.OutLine.{OutLine}
use Rattle.khepri_types.specs.declared.out.OutLine.TheVariants as out
use Rattle.khepri_types.specs.declared.watch.Watch.{Watch}
use Rattle.khepri_types.specs.declared.watch.Watching.{Watching}
use Rattle.khepri_types.specs.declared.watch.Watching.TheVariants.{Stay, Free, While}
use Rattle.khepri_types.specs.declared.shown.ShownNode.{ShownNode}
use Rattle.khepri_types.specs.ConditionTexts.{condition_text}
use Rattle.khepri_types.specs.PatternTexts.{pattern_text}
use Rattle.khepri_types.specs.ScriptTexts.{quoted, script_text}
use Rattle.khepri_types.specs.declared.value.Value.{Value}
use Rattle.khepri_types.specs.declared.value.Value.TheVariants as value

-- `-`, a record, or a script
unfoldable pub payload_text : Payload → List ℕ
payload_text Empty = 45 ∷ []
payload_text (Fields r) = rec_text r
payload_text (Proc s) = script_text s

-- ` while PATH COND`
unfoldable pub watch_text : Watch → List ℕ
watch_text w = codes " while " ++ path_text w.target ++ 32 ∷ condition_text w.cond

-- nothing, ` free`, or the watches one after another
unfoldable pub watching_text : Watching → List ℕ
watching_text Stay = []
watching_text Free = codes " free"
watching_text (While watches) = flat_map watch_text watches

-- `PATH PAYLOAD`, and what is said of watches
unfoldable pub assigned_text : List NameText → Payload → Watching → List ℕ
assigned_text p x w = path_text p ++ 32 ∷ payload_text x ++ watching_text w

-- the command's word, a space, its path or pattern, and what else it has
unfoldable pub command_text : Command → List ℕ
command_text (Put p x w) = codes "put " ++ assigned_text p x w
command_text (Create p x w) = codes "create " ++ assigned_text p x w
command_text (Update p x w) = codes "update " ++ assigned_text p x w
command_text (Cas p c x w) = codes "cas " ++ path_text p ++ 32 ∷ condition_text c ++ 32 ∷ payload_text x ++ watching_text w
command_text (Clear p) = codes "clear " ++ path_text p
command_text (Del p) = codes "del " ++ path_text p
command_text (Delmany parts) = codes "delmany " ++ pattern_text parts
command_text (Get p) = codes "get " ++ path_text p
command_text (Many parts limit) = codes "many " ++ pattern_text parts ++ 32 ∷ decimal limit
command_text (Count parts) = codes "count " ++ pattern_text parts
command_text (Tx args s) = codes "tx " ++ rec_text args ++ 32 ∷ script_text s
command_text (Run p args) = codes "run " ++ path_text p ++ 32 ∷ rec_text args

-- `@k COMMAND`
unfoldable pub line_text : Line → List ℕ
line_text (line.Command k c) = 64 ∷ decimal k ++ 32 ∷ command_text c

-- the last name of a path as it is spelled, nothing for the root
abbrev pub last_text : List NameText → List ℕ
last_text [] = []
last_text (n ∷ []) = comp_text n
last_text (n ∷ m ∷ p) = last_text (m ∷ p)

-- ` PATH PV CV KIDS PAYLOAD`
unfoldable pub shown_text : ShownNode → List ℕ
shown_text s = 32 ∷ path_text s.path ++ 32 ∷ decimal s.pv ++ 32 ∷ decimal s.cv ++ 32 ∷ decimal s.kids ++ 32 ∷ payload_text s.payload

-- an integer, `'` and bytes, a path, or a record
unfoldable pub value_text : Value → List ℕ
value_text (value.Int z) = signed_decimal z
value_text (value.Text b) = quoted b
value_text (value.Path p) = path_text p
value_text (value.Rec f) = rec_text f

-- a value behind a space
abbrev pub spaced_value_text : Value → List ℕ
spaced_value_text v = 32 ∷ value_text v

-- `ok N K`, `node PV CV KIDS PAYLOAD`, `nodes M` and the nodes, `count M`, `done K` and the values, or `no` and the word of a refusal,
-- with the target where it is `while`, and the text where it is `abort`
unfoldable pub reply_text : Reply → List ℕ
reply_text (reply.Changed n k) = codes "ok " ++ decimal n ++ 32 ∷ decimal k
reply_text (reply.Node pv cv kids x) = codes "node " ++ decimal pv ++ 32 ∷ decimal cv ++ 32 ∷ decimal kids ++ 32 ∷ payload_text x
reply_text (reply.Nodes m nodes) = codes "nodes " ++ decimal m ++ flat_map shown_text nodes
reply_text (reply.Count m) = codes "count " ++ decimal m
reply_text (reply.Done k values) = codes "done " ++ decimal k ++ flat_map spaced_value_text values
reply_text reply.NoRoot = codes "no root"
reply_text reply.NoDeep = codes "no deep"
reply_text reply.NoScript = codes "no script"
reply_text reply.NoExists = codes "no exists"
reply_text reply.NoAbsent = codes "no absent"
reply_text reply.NoMismatch = codes "no mismatch"
reply_text (reply.NoWhile p) = codes "no while " ++ path_text p
reply_text reply.NoName = codes "no name"
reply_text reply.NoSpent = codes "no spent"
reply_text (reply.NoAbort b) = codes "no abort " ++ quoted b
reply_text reply.NoFull = codes "no full"

-- a command, `fire s` or `noop`
unfoldable pub entry_text : EntryText → List ℕ
entry_text (text.Command c) = command_text c
entry_text (text.Fire s) = codes "fire " ++ decimal s
entry_text text.Noop = codes "noop"

-- the word of a refusal
unfoldable pub reason_text : Reason → List ℕ
reason_text TooLong = codes "toolong"
reason_text BadLine = codes "badline"
reason_text NoNode = codes "nonode"
reason_text Running = codes "running"
reason_text Stopped = codes "stopped"
reason_text NotLeader = codes "notleader"
reason_text LogFull = codes "logfull"
reason_text Backlog = codes "backlog"
reason_text NoSlot = codes "noslot"

-- the word of a stop
unfoldable pub stop_text : StopWord → List ℕ
stop_text Order = codes "order"
stop_text Vault = codes "vault"
stop_text Memory = codes "memory"
stop_text Bad = codes "bad"

-- the rows of a look-up, or `none` where there is no such projection
unfoldable pub rows_text : Rows → List ℕ
rows_text Absent = codes "none"

-- an output line without its LF
unfoldable pub out_text : OutLine → List ℕ
out_text (out.Entry n l t) = codes "# " ++ decimal n ++ codes " @" ++ decimal l ++ 32 ∷ entry_text t
out_text (out.Reply l n r) = codes "= " ++ decimal l ++ 32 ∷ decimal n ++ 32 ∷ reply_text r
out_text (out.Lost l) = codes "- " ++ decimal l ++ codes " lost"
out_text (out.Pending l n) = codes "? " ++ decimal l ++ 32 ∷ decimal n
out_text (out.Read l n rows) = codes "* " ++ decimal l ++ 32 ∷ decimal n ++ 32 ∷ rows_text rows
out_text (out.Refused l r) = codes "- " ++ decimal l ++ 32 ∷ reason_text r
out_text (out.Leads k t) = codes "! " ++ decimal k ++ codes " leads " ++ decimal t
out_text (out.Follows k t) = codes "! " ++ decimal k ++ codes " follows " ++ decimal t
out_text (out.Stopped k c) = codes "! " ++ decimal k ++ codes " stopped " ++ stop_text c
out_text (out.Started k) = codes "! " ++ decimal k ++ codes " started"
