-- What a command answers, and when its draft takes the tree's place.
use Rattle.std.specs.Prelude.{◌≡◌, ℕ, Bool, true, false, if◌then◌else◌, IsTrue}
use Rattle.khepri_types.specs.declared.command.Command.{Command}
use Rattle.khepri_types.specs.declared.reply.Reply.{Reply}
use Rattle.khepri_types.specs.declared.reply.Reply.TheVariants.{Changed, Node, Nodes, Count, Done, NoRoot, NoDeep, NoScript, NoExists, NoAbsent, NoMismatch, NoWhile, NoName, NoSpent, NoAbort, NoFull}
use Rattle.khepri_types.specs.Exec.{State, applied, refused, exec_command}
use Rattle.khepri_types.specs.Settling.{stable}
use Rattle.khepri_types.specs.Tree.{Tree}

-- whether the draft of a command with this reply takes the tree's place
abbrev pub is_change : Reply → Bool
is_change (Changed n k) = true
is_change (Node pv cv kids x) = false
is_change (Nodes n nodes) = false
is_change (Count n) = false
is_change (Done n values) = true
is_change NoRoot = false
is_change NoDeep = false
is_change NoScript = false
is_change NoExists = false
is_change NoAbsent = false
is_change NoMismatch = false
is_change (NoWhile target) = false
is_change NoName = false
is_change NoSpent = false
is_change (NoAbort text) = false
is_change NoFull = false

-- a state with this tree, after so many entries
abbrev pub state_with : Tree → ℕ → State
state_with T k = record { tree = T; position = k }

-- the reply, and the next state where the draft came to this tree
abbrev pub answered : State → Reply → Tree → Reply × State
answered S r U = if is_change r then (r, applied S U) else refused S r

-- what is to be done to a state with tree T answers r, and makes the draft's tree U the next where r says so
abbrev pub Answers : (State → Reply × State) → Tree → Reply → Tree → Type 0
Answers does T r U = (k : ℕ) → does (state_with T k) ≡ answered (state_with T k) r U

-- the command answers r on tree T, and makes the draft's tree U the next where r says so
abbrev pub IsAnswered : Command → Tree → Reply → Tree → Type 0
IsAnswered cmd T r U = Answers (λ S. exec_command S cmd) T r U

-- in a tree that takes another's place no node fails
abbrev pub IsSettled : Reply → Tree → Type 0
IsSettled r U = IsTrue (is_change r) → IsTrue (stable U)
