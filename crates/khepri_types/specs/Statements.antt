-- What a script does, row by row of the table of statements.
use Rattle.std.specs.Prelude.{ℕ, ◌+◌, ltb, if◌then◌else◌, List, [], ◌∷◌, ◌++◌, length, map, Option, Some, None}
use Rattle.std.specs.FinMap.{get}
use Rattle.khepri_terms.specs.Terms.{NameText}
use Rattle.khepri_terms.specs.declared.rec.Field.{Field}
use Rattle.khepri_types.specs.declared.limits.TheConstants.{MAX_WATCHES}
use Rattle.khepri_types.specs.declared.node.Node.{Node}
use Rattle.khepri_types.specs.declared.node.Payload.TheVariants as payload
use Rattle.khepri_types.specs.declared.watch.Watch.{Watch}
use Rattle.khepri_types.specs.Patterns.{matching}
use Rattle.khepri_types.specs.Tree.{Tree, stands}
use Rattle.khepri_types.specs.Watching.{is_deep}
use Rattle.khepri_types.specs.declared.limits.TheConstants.{MAX_UNITS, MAX_EMITTED}
use Rattle.khepri_types.specs.declared.register.Register.{Register}
use Rattle.khepri_types.specs.declared.register.Registers.{Registers}
use Rattle.khepri_types.specs.declared.reply.Reply.{Reply}
use Rattle.khepri_types.specs.declared.reply.Reply.TheVariants as reply
use Rattle.khepri_types.specs.declared.script.Expr.{Expr}
use Rattle.khepri_types.specs.declared.script.Statement.{Statement}
use Rattle.khepri_types.specs.declared.script.Statement.TheFolds.{fold-Statement}
use Rattle.khepri_types.specs.declared.script.Statement.TheOpen.{Statement-F}
use Rattle.khepri_types.specs.declared.value.Operand.{Operand}
use Rattle.khepri_types.specs.declared.value.Operand.TheVariants as operand
use Rattle.khepri_types.specs.declared.value.Value.{Value}
use Rattle.khepri_types.specs.declared.value.Refusal.{Refusal}
use Rattle.khepri_types.specs.declared.value.Refusal.TheVariants.{Root, Deep, Absent, Full, Name}
use Rattle.khepri_types.specs.declared.value.Stop.{Stop}
use Rattle.khepri_types.specs.declared.value.Stop.TheVariants.{Abort, Spent, Refused}
use Rattle.khepri_types.specs.declared.value.Outcome.{Outcome}
use Rattle.khepri_types.specs.declared.value.Outcome.TheVariants as outcome
use Rattle.khepri_types.specs.Expressions.{Evaluation, Is, Refuses, value_of}
use Rattle.khepri_types.specs.Registers.{assign, opening}
use Rattle.khepri_types.specs.Scenes.{Scene, with_payload, without, with_watches}
use Rattle.khepri_types.specs.Values.{bytes, path, fields, truth, emitted}

-- ---- runs

-- where a script is: its registers, the tree with the paths written, what it emitted, and the units spent
pub record Run : Type 0 where
  pub registers : Registers
  pub scene : Scene
  pub values : List Value
  pub units : ℕ

-- what some statements lead to: the script goes on, or it has ended
pub data Flow : Type 0 where
  Goes : (run : Run) → Flow
  Stops : (run : Run) (stop : Stop) → Flow

-- and then this, where the script goes on
abbrev pub and_then : Flow → (Run → Flow) → Flow
and_then (Goes r) next = next r
and_then (Stops r e) next = Stops r e

abbrev pub refuse : Refusal → Run → Flow
refuse why r = Stops r (Refused why)

-- one unit more, unless it would be the 10,001st
abbrev pub spend : Run → Flow
spend r = if ltb r.units MAX_UNITS then Goes (record r { units = r.units + 1 }) else Stops r Spent

-- ---- how parts are joined

-- the value of an expression goes on, a refusal ends the script
abbrev pub on_value : Evaluation → Run → (Operand → Flow) → Flow
on_value (Is v) r next = next v
on_value (Refuses why) r next = refuse why r

-- a statement of one expression
abbrev pub given : Expr → Run → (Operand → Flow) → Flow
given e r next = on_value (value_of e r.registers r.scene.tree) r next

-- a statement of two expressions: both are evaluated, from the left, before anything else
abbrev pub given_two : Expr → Expr → Run → (Operand → Operand → Flow) → Flow
given_two a b r next = given a r (λ x. given b r (next x))

-- statements one after the other
abbrev pub in_turn : List (Run → Flow) → Run → Flow
in_turn [] r = Goes r
in_turn (s ∷ rest) r = and_then (s r) (in_turn rest)

-- one turn of `each`: its unit, the register, the block
abbrev pub turn : Register → List (Run → Flow) → List NameText → Run → Flow
turn reg body p r = and_then (spend r) (λ r. in_turn body (record r { registers = assign reg (operand.Path p) r.registers }))

-- a turn for each of these paths
abbrev pub turns : Register → List (Run → Flow) → List (List NameText) → Run → Flow
turns reg body [] r = Goes r
turns reg body (p ∷ paths) r = and_then (turn reg body p r) (turns reg body paths)

-- ---- what the statements do

-- `put`: sets fields
abbrev pub put : List NameText → List Field → Run → Flow
put p f r = if is_deep p then refuse Deep r else Goes (record r { scene = with_payload r.scene p (payload.Fields f) })

-- `clear`: the payload becomes empty
abbrev pub clear : List NameText → Run → Flow
clear p r = if stands r.scene.tree p then Goes (record r { scene = with_payload r.scene p payload.Empty }) else refuse Absent r

-- `del`: drops the subtree
abbrev pub del : List NameText → Run → Flow
del [] r = refuse Root r
del (n ∷ p) r = Goes (record r { scene = without r.scene (n ∷ p) })

-- a watch at the end of those of a node
abbrev pub hold_at : List NameText → Watch → Option Node → Run → Flow
hold_at p w None r = refuse Absent r
hold_at p w (Some n) r = if ltb (length n.watches) MAX_WATCHES then Goes (record r { scene = with_watches r.scene p (n.watches ++ w ∷ []) }) else refuse Full r

-- `hold`: adds a watch
abbrev pub hold : List NameText → Watch → Run → Flow
hold [] w r = refuse Root r
hold (n ∷ p) w r = if is_deep w.target then refuse Deep r else hold_at (n ∷ p) w (get r.scene.tree (n ∷ p)) r

-- `free`: takes the watches away
abbrev pub free : List NameText → Run → Flow
free [] r = refuse Root r
free (n ∷ p) r = if stands r.scene.tree (n ∷ p) then Goes (record r { scene = with_watches r.scene (n ∷ p) [] }) else refuse Absent r

-- `emit`: adds to the values
abbrev pub emit : Value → Run → Flow
emit v r = if ltb (length r.values) MAX_EMITTED then Goes (record r { values = r.values ++ v ∷ [] }) else refuse Full r

-- ---- the table

-- a statement that has begun, by what the statements of its blocks do
abbrev pub begun : Statement-F (Run → Flow) → Run → Flow
begun (Statement-F.Let reg e) r = given e r (λ v. Goes (record r { registers = assign reg v r.registers }))
begun (Statement-F.Put a b) r = given_two a b r (λ p d. put (path p) (fields d) r)
begun (Statement-F.Clear a) r = given a r (λ p. clear (path p) r)
begun (Statement-F.Del a) r = given a r (λ p. del (path p) r)
begun (Statement-F.Hold a b c) r = given_two a b r (λ p q. hold (path p) (record { target = path q; cond = c }) r)
begun (Statement-F.Free a) r = given a r (λ p. free (path p) r)
begun (Statement-F.Emit a) r = given a r (λ v. emit (emitted v) r)
begun (Statement-F.Abort a) r = given a r (λ t. Stops r (Abort (bytes t)))
begun (Statement-F.If e a b) r = given e r (λ t. if truth t then in_turn a r else in_turn b r)
begun (Statement-F.Each reg pattern body) r = turns reg body (matching pattern r.scene.tree) r

-- a statement costs one unit when it begins
abbrev pub layer_run : Statement-F (Run → Flow) → Run → Flow
layer_run s r = and_then (spend r) (begun s)

-- what a statement does
abbrev pub does : Statement → Run → Flow
does s = fold-Statement (Run → Flow) layer_run s

-- what a block does
abbrev pub block : List Statement → Run → Flow
block statements = in_turn (map does statements)

-- ---- scripts

-- the run at the beginning of a script with these arguments and this path, on this tree
abbrev pub begin : List Field → List NameText → Tree → Run
begin args at T = record { registers = opening args at; scene = record { tree = T; written = [] }; values = []; units = 0 }

-- what a script does with these arguments and this path on this tree
abbrev pub script : List Statement → List Field → List NameText → Tree → Flow
script s args at T = block s (begin args at T)

-- what answers a refusal inside a script
abbrev pub no_of : Refusal → Reply
no_of Root = reply.NoRoot
no_of Deep = reply.NoDeep
no_of Absent = reply.NoAbsent
no_of Full = reply.NoFull
no_of Name = reply.NoName

-- how it ended
abbrev pub stopped : Stop → Outcome
stopped (Abort text) = outcome.Abort text
stopped Spent = outcome.Spent
stopped (Refused why) = outcome.Refused (no_of why)

abbrev pub outcome_of : Flow → Outcome
outcome_of (Goes r) = outcome.Done r.values
outcome_of (Stops r e) = stopped e

-- where it ended
abbrev pub end_of : Flow → Run
end_of (Goes r) = r
end_of (Stops r e) = r
