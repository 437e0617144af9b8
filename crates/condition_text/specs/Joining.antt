-- The mark between the parts of a list.
use Rattle.std.specs.Prelude.{ℕ, zero, suc, List, [], ◌∷◌}

-- what stands before the part at a place
abbrev pub comma : ℕ → List ℕ
comma zero = []
comma (suc i) = 44 ∷ []
