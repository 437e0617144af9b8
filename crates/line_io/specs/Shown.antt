-- What is given of a line.
use Rattle.std.specs.Prelude.{ℕ, nat_lt, if◌then◌else◌, List, [], ◌∷◌, length, map, Option, Some, None, Result, Ok, Err}
use Rattle.line_io.specs.declared.next.Next.{Next}
use Rattle.line_io.specs.declared.next.Next.TheVariants.{Line, TooLong, End}
use Rattle.line_io.specs.declared.next.LineFault.{LineFault}

-- the line, or none where it is longer than the limit
unfoldable pub shown : ℕ → List ℕ → Option (List ℕ)
shown limit line = if nat_lt limit (length line) then None else Some line

-- each of these lines as it is given
abbrev pub shown_lines : ℕ → List (List ℕ) → List (Option (List ℕ))
shown_lines limit lines = map (shown limit) lines

-- what an answer gives: one line, or at the end none
abbrev pub given_next : Next → List (Option (List ℕ))
given_next (Line v) = Some v.items ∷ []
given_next TooLong = None ∷ []
given_next End = []

-- what a call gives: a fault gives none
abbrev pub given : Result Next LineFault → List (Option (List ℕ))
given (Ok next) = given_next next
given (Err fault) = []
