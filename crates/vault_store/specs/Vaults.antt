-- What a vault holds, and what its calls do to it.
use Rattle.std.specs.Prelude.{◌≡◌, ◌⊎◌, ℕ, List, [], ◌∷◌, ◌++◌, take, Option, Some, None, option_map, ⊤}
pub use Rattle.fault_count.specs.Faults.{Rose}

-- the items that a stop leaves, and those that it may forget, each list in the order in which they came
pub record Held : Type 0 where
  pub synced : List (List ℕ)
  pub pending : List (List ℕ)

-- all items
abbrev pub all_of : Held → List (List ℕ)
all_of h = h.synced ++ h.pending

-- one pending item more
abbrev pub appended : List ℕ → Held → Held
appended item h = record { synced = h.synced; pending = h.pending ++ item ∷ [] }

-- all items are synced
abbrev pub all_synced : Held → Held
all_synced h = record { synced = all_of h; pending = [] }

-- these items are the synced ones, and nothing is pending
abbrev pub replaced : List (List ℕ) → Held → Held
replaced items h = record { synced = items; pending = [] }

-- the first n of the pending items are synced, and the others are forgotten
abbrev pub powered_off : ℕ → Held → Held
powered_off n h = record { synced = h.synced ++ take n h.pending; pending = [] }

-- some front of the pending items is synced, and the others are forgotten
abbrev pub PowersOff : Option Held → Option Held → Type 0
PowersOff old new = (n : ℕ) × (new ≡ option_map (powered_off n) old)

-- what a replacement that is refused may leave: what there was, what a stop leaves of it, or the given list
abbrev pub IsRefused : List (List ℕ) → Option Held → Option Held → Type 0
IsRefused items old new = (new ≡ old) ⊎ (PowersOff old new ⊎ (new ≡ option_map (replaced items) old))

-- these are all items, where the vault tells
abbrev pub AreAll : Option Held → List (List ℕ) → Type 0
AreAll None items = ⊤
AreAll (Some h) items = items ≡ all_of h
