-- Sources and sinks in memory, and the numbers of their calls.
use Rattle.std.specs.Prelude.{ℕ, List}
pub use Rattle.fault_count.specs.Faults.{counted, is_listed}

-- a source in memory as its callers see it
pub record Supply : Type 0 where
  pub left : List ℕ  -- the bytes that are left
  pub calls : ℕ  -- how many calls were made
  pub faults : ℕ  -- how many of them failed
  pub fails : List ℕ  -- the numbers of those that fail, counted from 1

-- a sink in memory as its callers see it
pub record Store : Type 0 where
  pub bytes : List ℕ  -- the bytes that it holds
  pub calls : ℕ  -- how many calls were made
  pub faults : ℕ  -- how many of them failed
  pub fails : List ℕ  -- the numbers of those that fail, counted from 1
