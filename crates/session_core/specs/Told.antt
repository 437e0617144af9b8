-- What is answered to lines as the reader gives them, a line that is too long as none.
use Rattle.std.specs.Prelude.{ℕ, ◌+◌, List, [], ◌∷◌, ◌++◌, Option, Some, None}
use Rattle.khepri_types.specs.declared.out.Reason.TheVariants.{TooLong}
use Rattle.khepri_types.specs.declared.out.OutLine.{OutLine}
use Rattle.khepri_types.specs.declared.out.OutLine.TheVariants as out
use Rattle.khepri_types.specs.Exec.{State, opening_state}
use Rattle.khepri_types.specs.Reading.{line_at}
use Rattle.khepri_types.specs.Calm.{answer_line, text_of}

-- the output lines for line l as it was given, and the state after it
abbrev pub answer_given : ℕ → State → Option (List ℕ) → List OutLine × State
answer_given l S None = (out.Refused l TooLong ∷ [], S)
answer_given l S (Some line) = answer_line l S (line_at line)

-- the output lines for the lines given, from line l on
abbrev pub told : ℕ → State → List (Option (List ℕ)) → List OutLine
told l S [] = []
told l S (x ∷ gave) = (answer_given l S x).0 ++ told (l + 1) (answer_given l S x).1 gave

-- the state after these lines
abbrev pub after : ℕ → State → List (Option (List ℕ)) → State
after l S [] = S
after l S (x ∷ gave) = after (l + 1) (answer_given l S x).1 gave

-- what is written of the lines given
unfoldable pub told_text : List (Option (List ℕ)) → List ℕ
told_text gave = text_of (out.Leads 1 1 ∷ told 1 opening_state gave)
