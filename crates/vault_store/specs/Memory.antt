-- A vault in memory.
use Rattle.std.specs.Prelude.{ℕ, List, [], ◌∷◌}
use Rattle.vault_store.specs.Vaults.{Held}

-- a vault in memory as its callers see it
pub record VaultParts : Type 0 where
  pub held : Held
  pub calls : ℕ  -- how many calls were made that may fail
  pub faults : ℕ  -- how many of them failed
  pub fails : List ℕ  -- the numbers of those that fail, counted from 1
  pub keeps : List ℕ  -- how many pending items each stop that is still to come keeps

-- how many pending items the next stop keeps
abbrev pub next_keep : List ℕ → ℕ
next_keep [] = 0
next_keep (n ∷ keeps) = n
