-- A front of a list that is kept.
use Rattle.std.proofs.Common.{◌≡◌, ℕ, ◌+◌, List, [], ◌++◌, length, take, drop, ◌∙◌, arith, take-add}
use Rattle.std.proofs.lemmas.List.{take_all, drop_all}
use Rattle.vault_store.specs.Vaults.{Held, powered_off}

-- the first n items are synced
abbrev pub held_of : ℕ → List (List ℕ) → Held
held_of n items = record { synced = take n items; pending = drop n items }

-- where the first n + k items stay, and are synced, k pending ones were kept
pub kept_front : (n k len : ℕ) (items kept : List (List ℕ)) → kept ≡ take (n + k) items → len ≡ length kept → held_of len kept ≡ powered_off k (held_of n items)
kept_front n k len items kept is all =
    let synced : take len kept ≡ take n items ++ take k (drop n items) = take_all len kept (omega (arith, all)) ∙ (is ∙ take-add n k items) in
    let pending : drop len kept ≡ [] = drop_all len kept (omega (arith, all)) in
    λ i. record { synced = synced i; pending = pending i }
