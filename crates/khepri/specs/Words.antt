-- The words of a command line.
use Rattle.std.specs.Prelude.{ℕ, List, [], ◌∷◌, ◌++◌, map, Option, Some, None, codes, nat_eq, if◌then◌else◌}
use Rattle.std.specs.declared.string.String.{String}
use Rattle.std.specs.Global.{Global}
use Rattle.std.specs.String.{string_bytes}
use lib.Pointwise.{pointwise}
use Rattle.khepri.specs.declared.words.Work.{Work}
use Rattle.khepri.specs.declared.words.Work.TheVariants.{Session}

-- the bytes of each word
abbrev pub bytes_of : List (String Global) → List (List ℕ)
bytes_of words = map string_bytes words

-- what the words ask for, where they are known: so far `session` alone is
abbrev pub work_of : List (List ℕ) → Option Work
work_of [] = None
work_of (word ∷ []) = if pointwise nat_eq word (codes "session") then Some Session else None
work_of (word ∷ more ∷ words) = None

-- what the program says where the words are not known
abbrev pub usage_line : List ℕ
usage_line = codes "khepri: session [--nodes N] | audit | gen --lines C --seed X | serve --port P --nodes N --workers W --connections C" ++ 10 ∷ []
