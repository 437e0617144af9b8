-- Counts that rise.
use Rattle.std.proofs.Common.{ℕ, ◌≤◌, arith, inl, inr}
use Rattle.fault_count.specs.Faults.{Rose}

-- a count that rose since a moment rose since each earlier one, and has risen ever after
pub Rose-wider : (first before now later : ℕ) → first ≤ before → Rose before now → now ≤ later → Rose first later
Rose-wider first before now later earlier (inl lt) after = inl (omega arith)
Rose-wider first before now later earlier (inr le) after = inr (omega arith)
