-- What a session of one node writes.
use Rattle.std.specs.Prelude.{ℕ, ◌+◌, ltb, List, [], ◌∷◌, ◌++◌, length, Option, Some, None, if◌then◌else◌}
use Rattle.std.specs.List.{flat_map}
use Rattle.khepri_types.specs.declared.limits.TheConstants.{MAX_LINE_BYTES}
use Rattle.khepri_types.specs.declared.command.Command.{Command}
use Rattle.khepri_types.specs.declared.command.Line.{Line}
use Rattle.khepri_types.specs.declared.command.Line.TheVariants as line
use Rattle.khepri_types.specs.declared.out.EntryText.TheVariants as text
use Rattle.khepri_types.specs.declared.out.Reason.TheVariants.{TooLong, BadLine, NoNode}
use Rattle.khepri_types.specs.declared.out.OutLine.{OutLine}
use Rattle.khepri_types.specs.declared.out.OutLine.TheVariants as out
use Rattle.khepri_types.specs.Exec.{State, opening_state, exec_command}
use Rattle.khepri_types.specs.Texts.{out_text}
use Rattle.khepri_types.specs.Reading.{line_at}

-- the `#` line and the `=` line of a command that input line l is, and the state after it
abbrev pub answer_command : ℕ → State → Command → List OutLine × State
answer_command l S c =
    (out.Entry (S.position + 1) l (text.Command c) ∷ out.Reply l (S.position + 1) (exec_command S c).0 ∷ [], (exec_command S c).1)

-- the output lines for input line l, which spells this or nothing, and the state after it; there is one node, and it leads
abbrev pub answer_line : ℕ → State → Option Line → List OutLine × State
answer_line l S None = (out.Refused l BadLine ∷ [], S)
answer_line l S (Some (line.Command k c)) = if ltb 1 k then (out.Refused l NoNode ∷ [], S) else answer_command l S c

-- the output lines for input line l, and the state after it
unfoldable pub answer : ℕ → State → List ℕ → List OutLine × State
answer l S bytes = if ltb MAX_LINE_BYTES (length bytes) then (out.Refused l TooLong ∷ [], S) else answer_line l S (line_at bytes)

-- the output lines for the input lines from line l on
unfoldable pub answers : ℕ → State → List (List ℕ) → List OutLine
answers l S [] = []
answers l S (bytes ∷ input) = (answer l S bytes).0 ++ answers (l + 1) (answer l S bytes).1 input

-- what a session of one node writes for these input lines: node 1 leads the first term, and each line has its answer
unfoldable pub calm : List (List ℕ) → List OutLine
calm input = out.Leads 1 1 ∷ answers 1 opening_state input

-- a line and its LF
abbrev pub with_lf : OutLine → List ℕ
with_lf x = out_text x ++ 10 ∷ []

-- the bytes of output lines, each ended by LF
abbrev pub text_of : List OutLine → List ℕ
text_of output = flat_map with_lf output
