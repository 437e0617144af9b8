-- Items of a node's store as bytes.
use Rattle.std.specs.Prelude.{ℕ, Bool, true, false, ◌==◌, ◌&&◌, if◌then◌else◌, List, [], ◌∷◌, ◌++◌, take, drop, Option, Some, None, option_and_then, option_map}
use Rattle.byteorder.specs.Endian.{big_bytes, big_number}
use Rattle.raft_types.specs.declared.item.Item.{Item}
use Rattle.raft_types.specs.declared.item.Item.TheVariants.{Snap, Vote, Entry}
use Rattle.raft_durable.specs.declared.limits.TheConstants.{SNAP_TAG, VOTE_TAG, ENTRY_TAG}

-- an item as bytes: its kind, its numbers in eight bytes each, the highest first, and then the vote, the entry or the snapshot
abbrev pub item_bytes : List ℕ → Item → List ℕ
item_bytes snapshot (Snap index term) = SNAP_TAG ∷ (big_bytes 8 index ++ (big_bytes 8 term ++ snapshot))
item_bytes snapshot (Vote term vote) = VOTE_TAG ∷ (big_bytes 8 term ++ vote ∷ [])
item_bytes snapshot (Entry index term entry) = ENTRY_TAG ∷ (big_bytes 8 index ++ (big_bytes 8 term ++ entry))

-- these bytes are the same
abbrev pub same_bytes : List ℕ → List ℕ → Bool
same_bytes [] [] = true
same_bytes [] (y ∷ ys) = false
same_bytes (x ∷ xs) [] = false
same_bytes (x ∷ xs) (y ∷ ys) = (x == y) && same_bytes xs ys

-- this number and what is behind it, where the first eight bytes are its own
abbrev pub number_as : List ℕ → ℕ → Option (ℕ × List ℕ)
number_as bytes n = if same_bytes (take 8 bytes) (big_bytes 8 n) then Some (n, drop 8 bytes) else None

-- the number in the first eight bytes, and what is behind it
abbrev pub number_at : List ℕ → Option (ℕ × List ℕ)
number_at bytes = number_as bytes (big_number 8 bytes)

-- two numbers, and what is behind them
abbrev pub numbers_at : List ℕ → Option (ℕ × ℕ × List ℕ)
numbers_at bytes = option_and_then (λ a. option_map (λ b. (a.0, b.0, b.1)) (number_at a.1)) (number_at bytes)

-- a vote alone
abbrev pub vote_at : List ℕ → Option ℕ
vote_at [] = None
vote_at (vote ∷ []) = Some vote
vote_at (vote ∷ more ∷ rest) = None

-- a term and a vote, and nothing behind them
abbrev pub term_vote_at : List ℕ → Option (ℕ × ℕ)
term_vote_at bytes = option_and_then (λ a. option_map (λ vote. (a.0, vote)) (vote_at a.1)) (number_at bytes)
