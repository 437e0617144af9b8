-- Reading lines from left to right.
use Rattle.std.specs.Prelude.{ℕ, ◌-◌, ◌&&◌, nat_le, ◌==◌, if◌then◌else◌, List, [], ◌∷◌, drop, Option, Some, None, codes}
use Rattle.khepri_terms.specs.Many.{many, ◌>>=◌}
use Rattle.khepri_terms.specs.Terms.{NameText}
use Rattle.khepri_terms.specs.Numbers.{number_at}
use Rattle.khepri_terms.specs.Paths.{path_at}
use Rattle.khepri_terms.specs.declared.rec.Field.{Field}
use Rattle.khepri_terms.specs.Records.{rec_at}
use Rattle.khepri_types.specs.declared.node.Payload.{Payload}
use Rattle.khepri_types.specs.declared.node.Payload.TheVariants.{Empty, Fields, Proc}
use Rattle.khepri_types.specs.declared.command.Command.{Command}
use Rattle.khepri_types.specs.declared.command.Command.TheVariants.{Put, Create, Update, Cas, Clear, Del, Delmany, Get, Many, Count, Tx, Run}
use Rattle.khepri_types.specs.declared.command.Line.{Line}
use Rattle.khepri_types.specs.declared.command.Line.TheVariants as line
use Rattle.khepri_types.specs.declared.condition.Condition.{Condition}
use Rattle.khepri_types.specs.declared.limits.TheConstants.{MAX_WATCHES, MAX_SHOWN_NODES}
use Rattle.khepri_types.specs.declared.pattern.PatternPart.{PatternPart}
use Rattle.khepri_types.specs.declared.watch.Watch.{Watch}
use Rattle.khepri_types.specs.declared.watch.Watching.{Watching}
use Rattle.khepri_types.specs.declared.watch.Watching.TheVariants.{Stay, Free, While}
use Rattle.khepri_types.specs.ReadingConditions.{after_byte, condition_at, pattern_at}
use Rattle.khepri_types.specs.ReadingNumbers.{whole_number}
use Rattle.khepri_types.specs.ReadingScripts.{script_at}
use Rattle.khepri_types.specs.declared.script.Statement.{Statement}
use Rattle.khepri_types.specs.Words.{after_word}
pub use Rattle.khepri_types.specs.Words.{begins, is_word}

-- the fields of a record that nothing follows
abbrev pub whole_fields : Option (List Field × List ℕ) → Option (List Field)
whole_fields None = None
whole_fields (Some (r, [])) = Some r
whole_fields (Some (r, b ∷ rest)) = None

-- a record that nothing follows
abbrev pub whole_record : Option (List Field × List ℕ) → Option Payload
whole_record None = None
whole_record (Some (r, [])) = Some (Fields r)
whole_record (Some (r, b ∷ rest)) = None

-- a script that nothing follows
abbrev pub whole_script : Option (List Statement × List ℕ) → Option (List Statement)
whole_script None = None
whole_script (Some (s, [])) = Some s
whole_script (Some (s, b ∷ rest)) = None

-- the script that the whole text spells
unfoldable pub spelled_script : List ℕ → Option (List Statement)
spelled_script text = whole_script (script_at text)

-- a script as a payload
abbrev pub as_script : Option (List Statement) → Option Payload
as_script None = None
as_script (Some s) = Some (Proc s)

-- the record or the script that the whole text spells
unfoldable pub spelled_content : List ℕ → Option Payload
spelled_content text = if begins (codes "<") text then as_script (spelled_script text) else whole_record (rec_at text)

-- the payload that the whole text spells
unfoldable pub spelled_payload : List ℕ → Option Payload
spelled_payload text = if is_word (codes "-") text then Some Empty else spelled_content text

-- the path that the whole text spells
abbrev pub whole_path : Option (List NameText × List ℕ) → Option (List NameText)
whole_path None = None
whole_path (Some (p, [])) = Some p
whole_path (Some (p, b ∷ rest)) = None

unfoldable pub spelled_path : List ℕ → Option (List NameText)
spelled_path text = whole_path (path_at text)

-- the fields of a record as a payload
abbrev pub fields_at : Option (List Field × List ℕ) → Option (Payload × List ℕ)
fields_at None = None
fields_at (Some x) = Some (Fields x.0, x.1)

-- a script as a payload
abbrev pub proc_at : Option (List Statement × List ℕ) → Option (Payload × List ℕ)
proc_at None = None
proc_at (Some x) = Some (Proc x.0, x.1)

-- the record or the script at the front, and what is after it
unfoldable pub content_at : List ℕ → Option (Payload × List ℕ)
content_at text = if begins (codes "<") text then proc_at (script_at text) else fields_at (rec_at text)

-- the payload at the front, and what is after it
unfoldable pub payload_at : List ℕ → Option (Payload × List ℕ)
payload_at text = if begins (codes "-") text then Some (Empty, drop 1 text) else content_at text

-- `PATH COND` at the front, and what is after it
unfoldable pub asked_at : List ℕ → Option (List NameText × Condition × List ℕ)
asked_at text = do
  path ← path_at text
  cond_text ← after_byte 32 path.1
  cond ← condition_at cond_text
  Some (path.0, cond.0, cond.1)

-- the watch that is spelled at the front, and what is after it
unfoldable pub watch_at : List ℕ → Option (Watch × List ℕ)
watch_at text = do
  asked_text ← after_word (codes " while ") text
  asked ← asked_at asked_text
  Some (record { target = asked.0; cond = asked.1 }, asked.2)

-- one or more watches that nothing follows
abbrev pub whole_watches : List Watch × List ℕ → Option Watching
whole_watches ([], rest) = None
whole_watches (w ∷ watches, []) = Some (While (w ∷ watches))
whole_watches (w ∷ watches, b ∷ rest) = None

-- what the whole text says of watches
unfoldable pub spelled_watching : List ℕ → Option Watching
spelled_watching [] = Some Stay
spelled_watching (b ∷ text) = if is_word (codes " free") (b ∷ text) then Some Free else whole_watches (many watch_at MAX_WATCHES (b ∷ text))

-- a payload and what is said of watches, behind a space
unfoldable pub spelled_set : List ℕ → Option (Payload × Watching)
spelled_set text = do
  payload_text ← after_byte 32 text
  payload ← payload_at payload_text
  watch ← spelled_watching payload.1
  Some (payload.0, watch)

-- what a command sets: a payload at a path, and watches
pub record Assigned : Type 0 where
  pub path : List NameText
  pub payload : Payload
  pub watch : Watching

-- the path, the payload and the watches that the whole text spells
unfoldable pub spelled_assigned : List ℕ → Option Assigned
spelled_assigned text = do
  path ← path_at text
  set ← spelled_set path.1
  Some (record { path = path.0; payload = set.0; watch = set.1 })

-- a command of a path, a payload and watches
abbrev pub assigning : (List NameText → Payload → Watching → Command) → Option Assigned → Option Command
assigning command None = None
assigning command (Some a) = Some (command a.path a.payload a.watch)

-- a command of a path
abbrev pub naming : (List NameText → Command) → Option (List NameText) → Option Command
naming command None = None
naming command (Some p) = Some (command p)

-- `PATH COND PAYLOAD` and what is said of watches, as a command
unfoldable pub spelled_cas : List ℕ → Option Command
spelled_cas text = do
  asked ← asked_at text
  set ← spelled_set asked.2
  Some (Cas asked.0 asked.1 set.0 set.1)

-- the pattern that the whole text spells
abbrev pub whole_pattern : Option (List PatternPart × List ℕ) → Option (List PatternPart)
whole_pattern None = None
whole_pattern (Some (parts, [])) = Some parts
whole_pattern (Some (parts, b ∷ rest)) = None

unfoldable pub spelled_pattern : List ℕ → Option (List PatternPart)
spelled_pattern text = whole_pattern (pattern_at text)

-- a command of a pattern
abbrev pub scanning : (List PatternPart → Command) → Option (List PatternPart) → Option Command
scanning command None = None
scanning command (Some parts) = Some (command parts)

-- how many nodes the whole text asks for
unfoldable pub spelled_limit : List ℕ → Option ℕ
spelled_limit text = do
  limit ← whole_number (number_at MAX_SHOWN_NODES text)
  if nat_le 1 limit then Some limit else None

-- how many nodes the whole text asks for, behind a space
unfoldable pub limit_behind : List ℕ → Option ℕ
limit_behind text = do
  limit_text ← after_byte 32 text
  spelled_limit limit_text

-- `PATTERN C` as a command
unfoldable pub spelled_many : List ℕ → Option Command
spelled_many text = do
  pattern ← pattern_at text
  limit ← limit_behind pattern.1
  Some (Many pattern.0 limit)

-- a script and its arguments, `REC SCRIPT`, as a command
unfoldable pub spelled_tx : List ℕ → Option Command
spelled_tx text = do
  args ← rec_at text
  script_text ← after_byte 32 args.1
  script ← spelled_script script_text
  Some (Tx args.0 script)

-- the record that the whole text spells, behind a space
unfoldable pub args_behind : List ℕ → Option (List Field)
args_behind text = do
  rec_text ← after_byte 32 text
  whole_fields (rec_at rec_text)

-- `PATH REC` as a command
unfoldable pub spelled_run : List ℕ → Option Command
spelled_run text = do
  path ← path_at text
  args ← args_behind path.1
  Some (Run path.0 args)

-- the command that the whole text spells, one that runs a script
unfoldable pub running : List ℕ → Option Command
running text =
    if begins (codes "tx ") text then spelled_tx (drop 3 text)
    else (if begins (codes "run ") text then spelled_run (drop 4 text)
    else None)

-- the command that the whole text spells, one that deletes, asks or runs a script
unfoldable pub deleting_or_asking : List ℕ → Option Command
deleting_or_asking text =
    if begins (codes "del ") text then naming Del (spelled_path (drop 4 text))
    else (if begins (codes "delmany ") text then scanning Delmany (spelled_pattern (drop 8 text))
    else (if begins (codes "get ") text then naming Get (spelled_path (drop 4 text))
    else (if begins (codes "many ") text then spelled_many (drop 5 text)
    else (if begins (codes "count ") text then scanning Count (spelled_pattern (drop 6 text))
    else running text))))

-- the command that the whole text spells
unfoldable pub spelled_command : List ℕ → Option Command
spelled_command text =
    if begins (codes "put ") text then assigning Put (spelled_assigned (drop 4 text))
    else (if begins (codes "create ") text then assigning Create (spelled_assigned (drop 7 text))
    else (if begins (codes "update ") text then assigning Update (spelled_assigned (drop 7 text))
    else (if begins (codes "cas ") text then spelled_cas (drop 4 text)
    else (if begins (codes "clear ") text then naming Clear (spelled_path (drop 6 text))
    else deleting_or_asking text))))

-- a command to a node
abbrev pub asked : ℕ → Option Command → Option Line
asked k None = None
asked k (Some c) = Some (line.Command k c)

-- the line that the whole text spells: `@`, a digit from 1 to 9, a space and a command
unfoldable pub line_at : List ℕ → Option Line
line_at [] = None
line_at (a ∷ []) = None
line_at (a ∷ d ∷ []) = None
line_at (a ∷ d ∷ s ∷ text) = if a == 64 && nat_le 49 d && nat_le d 57 && s == 32 then asked (d - 48) (spelled_command text) else None
