-- The mark between the statements of a block.
use Rattle.std.specs.Prelude.{ℕ, zero, suc, List, [], ◌∷◌}

-- what stands before the statement at a place
abbrev pub semicolon : ℕ → List ℕ
semicolon zero = []
semicolon (suc i) = 59 ∷ []
