-- How long texts are, as the program counts.
use Rattle.std.specs.Prelude.{ℕ, ◌-◌, ◌^◌, min}

-- a length, or the greatest `usize` where it is past that
abbrev pub capped : ℕ → ℕ
capped n = min n (2 ^ 64 - 1)
