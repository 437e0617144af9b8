-- Which numbers may be written.
use Rattle.std.specs.Prelude.{ℕ, ◌≤◌}
use Rattle.khepri_types.specs.declared.limits.TheConstants.{MAX_NUMBER}

-- a number that may be written
abbrev pub IsNumber : ℕ → Type 0
IsNumber n = n ≤ MAX_NUMBER
