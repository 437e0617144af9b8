-- Counts of faults, and the numbers of calls that fail.
use Rattle.std.specs.Prelude.{◌⊎◌, ℕ, ◌+◌, ◌-◌, ◌<◌, ◌≤◌, ◌^◌, ◌==◌, min, Bool, List}
use Rattle.std.specs.List.{list_any}

-- the count rose, or stands at its end
abbrev pub Rose : ℕ → ℕ → Type 0
Rose before now = (before < now) ⊎ (2 ^ 64 ≤ now + 1)

-- a count after one more: at the last value of a u64 it stays
abbrev pub counted : ℕ → ℕ
counted n = min (n + 1) (2 ^ 64 - 1)

-- this number stands in the list
abbrev pub is_listed : List ℕ → ℕ → Bool
is_listed fails n = list_any (λ f. f == n) fails
