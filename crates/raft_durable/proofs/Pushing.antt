-- The entries of a log, one after the other.
use Rattle.std.proofs.Common.{◌≡◌, ℕ, suc, ◌+◌, ◌-◌, ◌<◌, ◌≤◌, List, [], ◌∷◌, ◌++◌, length, map, get_or, drop, refl, sym, ap, ◌∙◌, arith, append_assoc, drop-cons, add-one, Option, Some, None}
use Rattle.raft_types.specs.declared.entry.LogEntry.{LogEntry}
use Rattle.raft_types.specs.declared.item.Item.{Item}
use Rattle.raft_types.specs.declared.item.Item.TheVariants.{Vote, Entry}
use Rattle.raft_types.specs.Items.{number}
use Rattle.raft_types.specs.Log.{LogParts, nothing, last_index, log_term, log_entry}
use Rattle.raft_durable.specs.Bytes.{item_bytes}
use Rattle.raft_durable.specs.Stores.{snap_items, snap_bytes, entry_of}
use Rattle.std.specs.Prelude.{unwrap_or}

-- a log knows the term of each of its entries
pub term_known : (l : LogParts) (j : ℕ) → l.base < j → j ≤ last_index l → log_term l j ≡ Some (get_or l.entries (j - (l.base + 1)) nothing).term
term_known l j h w = grind arith

-- and its bytes
pub entry_known : (l : LogParts) (j : ℕ) → l.base < j → j ≤ last_index l → log_entry l j ≡ Some (get_or l.entries (j - (l.base + 1)) nothing).entry
entry_known l j h w = grind arith

-- the entries from a place on are the one there and those behind it
next_entry : (l : LogParts) (snapshot : List ℕ) (i : ℕ) → i < length l.entries
    → map (item_bytes snapshot) (number (suc (l.base + i)) (drop i l.entries)) ≡ item_bytes [] (entry_of l i) ∷ map (item_bytes snapshot) (number (suc (l.base + (i + 1))) (drop (i + 1) l.entries))
next_entry l snapshot i lt =
    let cell : drop i l.entries ≡ get_or l.entries i nothing ∷ drop (i + 1) l.entries = drop-cons l.entries i nothing lt ∙ ap (λ (m : ℕ). get_or l.entries i nothing ∷ drop m l.entries) (sym (add-one i)) in
    let here : suc (l.base + i) ≡ l.base + i + 1 = omega arith in
    let next : suc (suc (l.base + i)) ≡ suc (l.base + (i + 1)) = omega arith in
    ap (λ (xs : List LogEntry). map (item_bytes snapshot) (number (suc (l.base + i)) xs)) cell
    ∙ (ap (λ (m : ℕ). item_bytes [] (Entry m (get_or l.entries i nothing).term (get_or l.entries i nothing).entry) ∷ map (item_bytes snapshot) (number (suc (suc (l.base + i))) (drop (i + 1) l.entries))) here
    ∙ ap (λ (m : ℕ). item_bytes [] (entry_of l i) ∷ map (item_bytes snapshot) (number m (drop (i + 1) l.entries))) next)

-- what was pushed and the entries that are left, after one more is pushed
pub pushed_one : (l : LogParts) (snapshot : List ℕ) (i : ℕ) (done : List (List ℕ)) → i < length l.entries
    → done ++ map (item_bytes snapshot) (number (suc (l.base + i)) (drop i l.entries))
    ≡ (done ++ item_bytes [] (entry_of l i) ∷ []) ++ map (item_bytes snapshot) (number (suc (l.base + (i + 1))) (drop (i + 1) l.entries))
pushed_one l snapshot i done lt =
    ap (λ (xs : List (List ℕ)). done ++ xs) (next_entry l snapshot i lt)
    ∙ sym (append_assoc done (item_bytes [] (entry_of l i) ∷ []) (map (item_bytes snapshot) (number (suc (l.base + (i + 1))) (drop (i + 1) l.entries))))

-- a store is written anew in three parts
pub three_parts : (snapshot : Option (List ℕ)) (l : LogParts) (term vote : ℕ) (items : List Item)
    → (snap_bytes snapshot l ++ item_bytes [] (Vote term vote) ∷ []) ++ map (item_bytes (unwrap_or snapshot [])) items
    ≡ map (item_bytes (unwrap_or snapshot [])) (snap_items snapshot l ++ Vote term vote ∷ items)
three_parts None l term vote items = refl
three_parts (Some snapshot) l term vote items = refl
