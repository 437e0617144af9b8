-- How bytes are cut into lines.
use Rattle.std.specs.Prelude.{◌≡◌, ℕ, ◌==◌, if◌then◌else◌, false, List, [], ◌∷◌, ◌++◌}
use Rattle.std.specs.List.{AllByRecursion}

-- no LF is among these bytes
abbrev pub NoLf : List ℕ → Type 0
NoLf bytes = AllByRecursion (λ b. (b == 10) ≡ false) bytes

-- the bytes without a CR at their end
unfoldable pub without_cr : List ℕ → List ℕ
without_cr [] = []
without_cr (b ∷ []) = if b == 13 then [] else b ∷ []
without_cr (b ∷ c ∷ rest) = b ∷ without_cr (c ∷ rest)

-- the bytes after the last LF are a line too, where there are any
abbrev pub last_line : List ℕ → List (List ℕ)
last_line [] = []
last_line (b ∷ begun) = (b ∷ begun) ∷ []

-- the bytes after the last LF are no line yet
abbrev pub no_line : List ℕ → List (List ℕ)
no_line begun = []

-- the lines of what follows, where these bytes of the first line stand before it
unfoldable pub lines_from : (List ℕ → List (List ℕ)) → List ℕ → List ℕ → List (List ℕ)
lines_from last begun [] = last begun
lines_from last begun (b ∷ rest) = if b == 10 then without_cr begun ∷ lines_from last [] rest else lines_from last (begun ++ b ∷ []) rest

-- the lines of these bytes
abbrev pub lines : List ℕ → List (List ℕ)
lines bytes = lines_from last_line [] bytes

-- the lines of these bytes that an LF ended
abbrev pub whole_lines : List ℕ → List (List ℕ)
whole_lines bytes = lines_from no_line [] bytes
