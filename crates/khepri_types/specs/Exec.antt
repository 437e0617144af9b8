-- What a state is, and what an entry does to it.
use Rattle.std.specs.Prelude.{◌≡◌, ℕ, ◌+◌, ◌-◌, Bool, true, ◌||◌, if◌then◌else◌, List, [], ◌∷◌, length, take, map, Option, Some, None}
use Rattle.std.specs.FinMap.{get, len}
use Rattle.khepri_terms.specs.Terms.{NameText}
use Rattle.khepri_terms.specs.declared.rec.Field.{Field}
use Rattle.khepri_terms.specs.declared.scalar.Scalar.{Scalar}
use Rattle.khepri_types.specs.declared.node.Node.{Node}
use Rattle.khepri_types.specs.declared.node.Payload.{Payload}
use Rattle.khepri_types.specs.declared.node.Payload.TheVariants.{Empty, Fields, Proc}
use Rattle.khepri_types.specs.declared.command.Command.{Command}
use Rattle.khepri_types.specs.declared.command.Command.TheVariants.{Put, Create, Update, Cas, Clear, Del, Delmany, Get, Many, Count, Tx, Run}
use Rattle.khepri_types.specs.declared.command.Entry.{Entry}
use Rattle.khepri_types.specs.declared.command.Entry.TheVariants as entry
use Rattle.khepri_types.specs.declared.reply.Reply.{Reply}
use Rattle.khepri_types.specs.declared.reply.Reply.TheVariants as reply
use Rattle.khepri_types.specs.declared.out.EntryText.{EntryText}
use Rattle.khepri_types.specs.declared.out.EntryText.TheVariants as text
use Rattle.khepri_types.specs.declared.out.Rows.{Rows}
use Rattle.khepri_types.specs.declared.out.Rows.TheVariants.{Absent}
use Rattle.khepri_types.specs.declared.pattern.PatternPart.{PatternPart}
use Rattle.khepri_types.specs.declared.shown.ShownNode.{ShownNode}
use Rattle.khepri_types.specs.declared.script.Statement.{Statement}
use Rattle.khepri_types.specs.declared.value.Stop.{Stop}
use Rattle.khepri_types.specs.declared.value.Stop.TheVariants.{Abort, Spent, Refused}
use Rattle.khepri_types.specs.declared.value.Value.{Value}
use Rattle.khepri_types.specs.declared.watch.Watch.{Watch}
use Rattle.khepri_types.specs.declared.watch.Watching.{Watching}
use Rattle.khepri_types.specs.declared.watch.Watching.TheVariants.{Stay}
use Rattle.khepri_types.specs.Tree.{Tree, stands, opening_tree}
use Rattle.khepri_types.specs.Conditions.{holds_at}
use Rattle.khepri_types.specs.Patterns.{matching_nodes, matching}
use Rattle.khepri_types.specs.Settling.{settle, gone}
use Rattle.khepri_types.specs.Watching.{set_watched, is_deep, gives_root_watches, has_deep_target, unmet_of}
use Rattle.khepri_types.specs.Drop.{drop}
use Rattle.khepri_types.specs.Sizes.{kids, fits}
use Rattle.khepri_types.specs.Statements.{Flow, Goes, Stops, script, no_of}
use Rattle.khepri_types.specs.Transactions.{unmet_among}
use Rattle.khepri_types.specs.Typing.{well_typed}

-- the tree, and how many entries were applied
pub record State : Type 0 where
  pub tree : Tree
  pub position : ℕ

-- the root alone, and no entry
abbrev pub opening_state : State
opening_state = record { tree = opening_tree; position = 0 }

-- the payload version of a node, 0 where there is none
abbrev pub pv_of : Option Node → ℕ
pv_of None = 0
pv_of (Some n) = n.pv

-- the state after an entry that made this tree
abbrev pub applied : State → Tree → State
applied S T = record S { tree = T; position = S.position + 1 }

-- an entry that changes the position alone
abbrev pub passed_over : State → State
passed_over S = applied S S.tree

-- a refused command: the position rises, and all else is as before
abbrev pub refused : State → Reply → Reply × State
refused S r = (r, passed_over S)

-- the tree becomes this one, unless that would pass a limit
abbrev pub changed : State → Tree → Reply → Reply × State
changed S T r = if fits T then (r, applied S T) else refused S reply.NoFull

-- what is left of the changed tree when it has settled, unless that would pass a limit; the reply has this number, and how many
-- nodes settling removed
abbrev pub settle_within_limits : State → Tree → ℕ → Reply × State
settle_within_limits S T number = changed S (settle T) (reply.Changed number (gone T))

-- so, unless there is a watch of a written node that isn't met in the changed tree
abbrev pub settle_unless : Option Watch → State → Tree → ℕ → Reply × State
settle_unless None S T number = settle_within_limits S T number
settle_unless (Some w) S T number = refused S (reply.NoWhile w.target)

-- the node at the path was written, which made this tree; the reply has its payload version after the change
abbrev pub finish_write : State → List NameText → Tree → Reply × State
finish_write S p T = settle_unless (unmet_of T (get T p)) S T (pv_of (get T p))

-- the payload is set at the path, and then the watches of its node
abbrev pub write : State → List NameText → Payload → Watching → Reply × State
write S p x w = finish_write S p (set_watched S.tree p x w)

-- a command that writes the node at the path goes on so, unless it gives the root watches, or the path or a target has too many names
abbrev pub if_writable : State → List NameText → Watching → Reply × State → Reply × State
if_writable S p w next = if gives_root_watches p w then refused S reply.NoRoot else (if is_deep p || has_deep_target w then refused S reply.NoDeep else next)

-- whether a payload may be set: a script only where it is well typed
abbrev pub is_checked : Payload → Bool
is_checked Empty = true
is_checked (Fields r) = true
is_checked (Proc s) = well_typed s

-- a command that sets this payload goes on so, unless it is an ill-typed script
abbrev pub if_checked : State → Payload → Reply × State → Reply × State
if_checked S x next = if is_checked x then next else refused S reply.NoScript

-- the nodes at these paths and all below them are dropped in one round; the reply has their number
abbrev pub dropped : State → List (List NameText) → Reply × State
dropped S paths = settle_within_limits S (drop S.tree paths) (len S.tree - len (drop S.tree paths))

-- the node at the path and all below it are dropped, unless it is the root
abbrev pub delete : State → List NameText → Reply × State
delete S [] = refused S reply.NoRoot
delete S (n ∷ p) = dropped S ((n ∷ p) ∷ [])

-- all nodes that the pattern matches, and all below them, are dropped, unless it is the root's pattern
abbrev pub delete_all : State → List PatternPart → Reply × State
delete_all S [] = refused S reply.NoRoot
delete_all S (P ∷ parts) = dropped S (matching (P ∷ parts) S.tree)

-- the node at a path as a reply shows it
abbrev pub shown : Tree → List NameText → Option Node → Reply
shown T p None = reply.NoAbsent
shown T p (Some n) = reply.Node n.pv n.cv (kids T p) n.payload

-- a node and its path as a reply lists them
abbrev pub shown_node : Tree → List NameText × Node → ShownNode
shown_node T e = record { path = e.0; pv = e.1.pv; cv = e.1.cv; kids = kids T e.0; payload = e.1.payload }

-- how many nodes the pattern matches, and the first of them, at most so many
abbrev pub listed : Tree → List PatternPart → ℕ → Reply
listed T parts limit = reply.Nodes (length (matching parts T)) (map (shown_node T) (take limit (matching_nodes parts T)))

-- what answers a script that ended before its last statement had
abbrev pub stop_of : Stop → Reply
stop_of (Abort text) = reply.NoAbort text
stop_of Spent = reply.NoSpent
stop_of (Refused why) = no_of why

-- a script made this tree and emitted these values: the tree settles, unless there is a watch of a written node that isn't met
-- before that, or what is left would pass a limit
abbrev pub done_unless : Option Watch → State → Tree → List Value → Reply × State
done_unless None S T values = changed S (settle T) (reply.Done (gone T) values)
done_unless (Some w) S T values = refused S (reply.NoWhile w.target)

-- a script came to its end, or ended before it: then the tree is as it was
abbrev pub ended : State → Flow → Reply × State
ended S (Goes r) = done_unless (unmet_among r.scene.tree r.scene.written) S r.scene.tree r.values
ended S (Stops r stop) = refused S (stop_of stop)

-- a script runs with these arguments and this path, unless it is ill typed
abbrev pub run_script : State → List Field → List NameText → List Statement → Reply × State
run_script S args at s = if well_typed s then ended S (script s args at S.tree) else refused S reply.NoScript

-- the script that a payload is runs so
abbrev pub run_payload : State → List Field → List NameText → Payload → Reply × State
run_payload S args at Empty = refused S reply.NoScript
run_payload S args at (Fields r) = refused S reply.NoScript
run_payload S args at (Proc s) = run_script S args at s

-- the script of a node runs so
abbrev pub run_node : State → List Field → List NameText → Option Node → Reply × State
run_node S args at None = refused S reply.NoAbsent
run_node S args at (Some n) = run_payload S args at n.payload

-- a command's reply and the next state
abbrev pub exec_command : State → Command → Reply × State
exec_command S (Put p x w) = if_writable S p w (if_checked S x (write S p x w))
exec_command S (Create p x w) = if_writable S p w (if_checked S x (if stands S.tree p then refused S reply.NoExists else write S p x w))
exec_command S (Update p x w) = if_writable S p w (if_checked S x (if stands S.tree p then write S p x w else refused S reply.NoAbsent))
exec_command S (Cas p c x w) = if_writable S p w (if_checked S x (if holds_at c S.tree p then write S p x w else refused S reply.NoMismatch))
exec_command S (Clear p) = if stands S.tree p then write S p Empty Stay else refused S reply.NoAbsent
exec_command S (Del p) = delete S p
exec_command S (Delmany parts) = delete_all S parts
exec_command S (Get p) = (shown S.tree p (get S.tree p), passed_over S)
exec_command S (Many parts limit) = (listed S.tree parts limit, passed_over S)
exec_command S (Count parts) = (reply.Count (length (matching parts S.tree)), passed_over S)
exec_command S (Tx args s) = run_script S args [] s
exec_command S (Run p args) = run_node S args [] (get S.tree p)

-- a reply that says nothing of a change, and is not that of a script that ran to its end
pub record SaysNoChange (r : Reply) : Type 0 where
  pub changed : (n k : ℕ) → r ≡ reply.Changed n k → ⊥
  pub done : (k : ℕ) (values : List Value) → r ≡ reply.Done k values → ⊥

-- what stands in the `#` line of an entry
abbrev pub shown_entry : Entry → EntryText
shown_entry (entry.Command conn line cmd) = text.Command cmd

-- what an entry answers, by what stands in its `#` line, and the next state; a noop answers nothing, and neither does a fire as long as no event is ever queued
abbrev pub exec : State → EntryText → Option Reply × State
exec S (text.Command cmd) = (Some (exec_command S cmd).0, (exec_command S cmd).1)
exec S (text.Fire event) = (None, passed_over S)
exec S text.Noop = (None, passed_over S)

-- what an entry answers
abbrev pub reply_of : State → EntryText → Option Reply
reply_of S e = (exec S e).0

-- the state after an entry
abbrev pub state_of : State → EntryText → State
state_of S e = (exec S e).1

-- the number of the first queued event; so far none is ever queued
abbrev pub first_event : State → Option ℕ
first_event S = None

-- a question to a table: a projection's name and a key
pub record Lookup : Type 0 where
  pub name : NameText
  pub key : List Scalar

-- the rows of a look-up, each a path and a value, or none where there is no such projection; so far there is no projection
abbrev pub look : State → Lookup → Option (List (List NameText × List Scalar))
look S q = None

-- the rows as a `*` line shows them: so far it shows that there is no such projection
abbrev pub rows_of : Option (List (List NameText × List Scalar)) → Rows
rows_of found = Absent
