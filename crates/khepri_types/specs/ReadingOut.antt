-- Reading output lines from left to right.
use Rattle.std.specs.Prelude.{ℕ, ◌-◌, ◌&&◌, nat_le, ◌==◌, if◌then◌else◌, List, [], ◌∷◌, length, drop, Option, Some, None, codes}
use Rattle.khepri_terms.specs.Many.{many, ◌>>=◌}
use Rattle.khepri_terms.specs.Terms.{NameText}
use Rattle.khepri_terms.specs.Numbers.{number_at, int_at}
use Rattle.khepri_terms.specs.Paths.{path_at}
use Rattle.khepri_terms.specs.Records.{rec_at}
use Rattle.khepri_types.specs.declared.limits.TheConstants.{MAX_NUMBER}
use Rattle.khepri_types.specs.declared.reply.Reply.{Reply}
use Rattle.khepri_types.specs.declared.reply.Reply.TheVariants as reply
use Rattle.khepri_types.specs.declared.out.EntryText.{EntryText}
use Rattle.khepri_types.specs.declared.out.EntryText.TheVariants as entry
use Rattle.khepri_types.specs.declared.out.Reason.{Reason}
use Rattle.khepri_types.specs.declared.out.Reason.TheVariants.{TooLong, BadLine, NoNode, Running, Stopped, NotLeader, LogFull, Backlog, NoSlot}
use Rattle.khepri_types.specs.declared.out.StopWord.{StopWord}
use Rattle.khepri_types.specs.declared.out.StopWord.TheVariants.{Order, Vault, Memory, Bad}
use Rattle.khepri_types.specs.declared.out.Rows.{Rows}
use Rattle.khepri_types.specs.declared.out.Rows.TheVariants.{Absent}
use Rattle.khepri_types.specs.declared.out.OutLine.{OutLine}
use Rattle.khepri_types.specs.declared.out.OutLine.TheVariants as out
use Rattle.khepri_types.specs.declared.shown.ShownNode.{ShownNode}
use Rattle.khepri_types.specs.declared.value.Value.{Value}
use Rattle.khepri_types.specs.declared.value.Value.TheVariants as value
use Rattle.khepri_types.specs.Items.{or_read}
use Rattle.khepri_types.specs.Reading.{begins, is_word, spelled_payload, payload_at, spelled_path, spelled_command}
use Rattle.khepri_types.specs.ReadingConditions.{after_byte}
use Rattle.khepri_types.specs.ReadingScripts.{read_as, quoted_at}
unfoldable pub use Rattle.khepri_types.specs.Words.{after_word}
pub use Rattle.khepri_types.specs.ReadingNumbers.{whole_number}
unfoldable pub use Rattle.khepri_types.specs.ReadingNumbers.{number_before, three_before, spelled_number}

-- `N K`
unfoldable pub changed_at : List ℕ → Option Reply
changed_at text = do
  n ← number_before (codes " ") text
  k ← spelled_number n.1
  Some (reply.Changed n.0 k)

-- `PV CV KIDS PAYLOAD`
unfoldable pub node_at : List ℕ → Option Reply
node_at text = do
  numbers ← three_before text
  payload ← spelled_payload numbers.3
  Some (reply.Node numbers.0 numbers.1 numbers.2 payload)

-- the numbers and the payload behind the path of a node, and what is after them
unfoldable pub shown_content : List NameText → List ℕ → Option (ShownNode × List ℕ)
shown_content path text = do
  numbers ← three_before text
  payload ← payload_at numbers.3
  Some (record { path = path; pv = numbers.0; cv = numbers.1; kids = numbers.2; payload = payload.0 }, payload.1)

-- ` PATH PV CV KIDS PAYLOAD` at the front, and what is after it
unfoldable pub shown_at : List ℕ → Option (ShownNode × List ℕ)
shown_at text = do
  place ← after_byte 32 text
  path ← path_at place
  content ← after_byte 32 path.1
  shown_content path.0 content

-- nodes that nothing follows
abbrev pub whole_nodes : ℕ → List ShownNode × List ℕ → Option Reply
whole_nodes m (nodes, []) = Some (reply.Nodes m nodes)
whole_nodes m (nodes, b ∷ rest) = None

-- `M`, and as many nodes as there are
unfoldable pub nodes_at : List ℕ → Option Reply
nodes_at text = do
  count ← number_at MAX_NUMBER text
  whole_nodes count.0 (many shown_at (length count.1) count.1)

-- `M`
unfoldable pub count_at : List ℕ → Option Reply
count_at text = do
  count ← spelled_number text
  Some (reply.Count count)

-- the value at the front, and what is after it
unfoldable pub value_at : List ℕ → Option (Value × List ℕ)
value_at text =
    or_read (read_as value.Int (int_at text))
    (or_read (read_as value.Text (quoted_at text))
    (or_read (read_as value.Path (path_at text))
    (read_as value.Rec (rec_at text))))

-- the value at the front behind a space, and what is after it
unfoldable pub spaced_value_at : List ℕ → Option (Value × List ℕ)
spaced_value_at text = do
  rest ← after_byte 32 text
  value_at rest

-- values that nothing follows
abbrev pub whole_values : ℕ → List Value × List ℕ → Option Reply
whole_values k (values, []) = Some (reply.Done k values)
whole_values k (values, b ∷ rest) = None

-- `K`, and as many values as there are
unfoldable pub done_at : List ℕ → Option Reply
done_at text = do
  gone ← number_at MAX_NUMBER text
  whole_values gone.0 (many spaced_value_at (length gone.1) gone.1)

-- bytes that nothing follows
abbrev pub whole_bytes : Option (List ℕ × List ℕ) → Option Reply
whole_bytes None = None
whole_bytes (Some (b, [])) = Some (reply.NoAbort b)
whole_bytes (Some (b, c ∷ rest)) = None

-- the text that the whole text spells, as a refusal
unfoldable pub abort_no : List ℕ → Option Reply
abort_no text = whole_bytes (quoted_at text)

-- the refusal of a script that the whole text spells
unfoldable pub script_no : List ℕ → Option Reply
script_no text =
    if is_word (codes "no script") text then Some reply.NoScript
    else (if is_word (codes "no name") text then Some reply.NoName
    else (if is_word (codes "no spent") text then Some reply.NoSpent
    else (if begins (codes "no abort ") text then abort_no (drop 9 text)
    else None)))

-- the target that the whole text spells, as a refusal
unfoldable pub while_no : List ℕ → Option Reply
while_no text = do
  target ← spelled_path text
  Some (reply.NoWhile target)

-- the refusal of a command that the whole text spells
unfoldable pub spelled_no : List ℕ → Option Reply
spelled_no text =
    if is_word (codes "no root") text then Some reply.NoRoot
    else (if is_word (codes "no deep") text then Some reply.NoDeep
    else (if is_word (codes "no exists") text then Some reply.NoExists
    else (if is_word (codes "no absent") text then Some reply.NoAbsent
    else (if is_word (codes "no mismatch") text then Some reply.NoMismatch
    else (if is_word (codes "no full") text then Some reply.NoFull
    else (if begins (codes "no while ") text then while_no (drop 9 text)
    else script_no text))))))

-- the reply that the whole text spells
unfoldable pub spelled_reply : List ℕ → Option Reply
spelled_reply text =
    if begins (codes "ok ") text then changed_at (drop 3 text)
    else (if begins (codes "node ") text then node_at (drop 5 text)
    else (if begins (codes "nodes ") text then nodes_at (drop 6 text)
    else (if begins (codes "count ") text then count_at (drop 6 text)
    else (if begins (codes "done ") text then done_at (drop 5 text)
    else spelled_no text))))

-- the command that the whole text spells, as what stands in a `#` line
unfoldable pub command_entry : List ℕ → Option EntryText
command_entry text = do
  cmd ← spelled_command text
  Some (entry.Command cmd)

-- the fire whose number the whole text spells
unfoldable pub fire_entry : List ℕ → Option EntryText
fire_entry text = do
  event ← spelled_number text
  Some (entry.Fire event)

-- what stands in the `#` line of no input line
unfoldable pub older_entry : List ℕ → Option EntryText
older_entry text =
    if is_word (codes "noop") text then Some entry.Noop
    else (if begins (codes "fire ") text then fire_entry (drop 5 text)
    else command_entry text)

-- what stands in the `#` line of input line l
unfoldable pub spelled_entry : ℕ → List ℕ → Option EntryText
spelled_entry l text = if l == 0 then older_entry text else command_entry text

-- the reason that the whole text spells
unfoldable pub spelled_reason : List ℕ → Option Reason
spelled_reason text =
    if is_word (codes "toolong") text then Some TooLong
    else (if is_word (codes "badline") text then Some BadLine
    else (if is_word (codes "nonode") text then Some NoNode
    else (if is_word (codes "running") text then Some Running
    else (if is_word (codes "stopped") text then Some Stopped
    else (if is_word (codes "notleader") text then Some NotLeader
    else (if is_word (codes "logfull") text then Some LogFull
    else (if is_word (codes "backlog") text then Some Backlog
    else (if is_word (codes "noslot") text then Some NoSlot
    else None))))))))

-- the cause of a stop that the whole text spells
unfoldable pub spelled_stop : List ℕ → Option StopWord
spelled_stop text =
    if is_word (codes "order") text then Some Order
    else (if is_word (codes "vault") text then Some Vault
    else (if is_word (codes "memory") text then Some Memory
    else (if is_word (codes "bad") text then Some Bad
    else None)))

-- the rows that the whole text spells
unfoldable pub spelled_rows : List ℕ → Option Rows
spelled_rows text = if is_word (codes "none") text then Some Absent else None

-- behind `# `: the entry's place, ` @`, its input line, and what stands there
unfoldable pub entry_line : List ℕ → Option OutLine
entry_line text = do
  n ← number_before (codes " @") text
  l ← number_before (codes " ") n.1
  shown ← spelled_entry l.0 l.1
  Some (out.Entry n.0 l.0 shown)

-- behind `= `: the input line, the entry's place and the reply
unfoldable pub reply_line : List ℕ → Option OutLine
reply_line text = do
  l ← number_before (codes " ") text
  n ← number_before (codes " ") l.1
  answer ← spelled_reply n.1
  Some (out.Reply l.0 n.0 answer)

-- a line that is refused
unfoldable pub refused_line : ℕ → List ℕ → Option OutLine
refused_line l text = do
  reason ← spelled_reason text
  Some (out.Refused l reason)

-- behind `- `: the input line, and `lost` or the reason of a refusal
unfoldable pub end_line : List ℕ → Option OutLine
end_line text = do
  l ← number_before (codes " ") text
  if is_word (codes "lost") l.1 then Some (out.Lost l.0) else refused_line l.0 l.1

-- behind `? `: the input line and the place that it waits for
unfoldable pub pending_line : List ℕ → Option OutLine
pending_line text = do
  l ← number_before (codes " ") text
  n ← spelled_number l.1
  Some (out.Pending l.0 n)

-- behind `* `: the input line, the place and the rows
unfoldable pub rows_line : List ℕ → Option OutLine
rows_line text = do
  l ← number_before (codes " ") text
  n ← number_before (codes " ") l.1
  rows ← spelled_rows n.1
  Some (out.Read l.0 n.0 rows)

-- the node leads
unfoldable pub leads_line : ℕ → List ℕ → Option OutLine
leads_line k text = do
  term ← spelled_number text
  Some (out.Leads k term)

-- the node follows
unfoldable pub follows_line : ℕ → List ℕ → Option OutLine
follows_line k text = do
  term ← spelled_number text
  Some (out.Follows k term)

-- the node stopped
unfoldable pub stopped_line : ℕ → List ℕ → Option OutLine
stopped_line k text = do
  cause ← spelled_stop text
  Some (out.Stopped k cause)

-- what is said of the node
unfoldable pub node_news : ℕ → List ℕ → Option OutLine
node_news k text =
    if begins (codes "leads ") text then leads_line k (drop 6 text)
    else (if begins (codes "follows ") text then follows_line k (drop 8 text)
    else (if begins (codes "stopped ") text then stopped_line k (drop 8 text)
    else (if is_word (codes "started") text then Some (out.Started k)
    else None)))

-- behind `! `: a digit from 1 to 9, a space and what is said of that node
unfoldable pub node_line : List ℕ → Option OutLine
node_line [] = None
node_line (d ∷ []) = None
node_line (d ∷ s ∷ text) = if nat_le 49 d && nat_le d 57 && s == 32 then node_news (d - 48) text else None

-- the output line that the whole text spells
unfoldable pub out_at : List ℕ → Option OutLine
out_at text =
    if begins (codes "# ") text then entry_line (drop 2 text)
    else (if begins (codes "= ") text then reply_line (drop 2 text)
    else (if begins (codes "- ") text then end_line (drop 2 text)
    else (if begins (codes "? ") text then pending_line (drop 2 text)
    else (if begins (codes "* ") text then rows_line (drop 2 text)
    else (if begins (codes "! ") text then node_line (drop 2 text)
    else None)))))
