-- The items gone over are copied, and there is room for the others.
use Rattle.std.proofs.Common.{◌≡◌, ◌≤◌, length, take}
use Rattle.std.specs.Prelude.{vec_capacity}
use Rattle.vault_store.proofs.memory.copy_items.Given as goal

abbrev pub invariant-copied : goal.invariant-copied
invariant-copied l = (l.copies.items ≡ take l.item-index l.items) × (length l.items ≤ vec_capacity l.copies)
