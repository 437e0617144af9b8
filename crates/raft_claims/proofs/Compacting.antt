-- Entries that are numbered above an index go into the log compacted there as into the log.
use Rattle.std.proofs.Common.{◌≡◌, ℕ, suc, ◌+◌, ◌-◌, ◌<◌, ◌≤◌, List, [], ◌∷◌, take, refl, sym, ap, ◌∙◌, arith, length-append, length-take-le}
use Rattle.raft_types.specs.declared.entry.LogEntry.{LogEntry}
use Rattle.raft_types.specs.declared.item.Item.TheVariants.{Entry}
use Rattle.raft_types.specs.Items.{log_after, number}
use Rattle.raft_types.specs.Log.{LogParts, last_index, compacted}
use Rattle.raft_types.proofs.Compacts.{compacts}

one_by_one : (l : LogParts) (j : ℕ) (x : LogEntry) (xs : List LogEntry) → log_after l (number j (x ∷ xs)) ≡ log_after (log_after l (Entry j x.term x.entry ∷ [])) (number (suc j) xs)
one_by_one l j x [] = refl
one_by_one l j x (y ∷ ys) = refl

last_after : (l : LogParts) (j : ℕ) (x : LogEntry) → l.base < j → j ≤ last_index l + 1 → last_index (log_after l (Entry j x.term x.entry ∷ [])) ≡ j
last_after l j x lo hi =
    let a = length-append (take (j - (l.base + 1)) l.entries) (x ∷ []) in
    let c = length-take-le (j - (l.base + 1)) l.entries (omega arith) in
    omega arith

pub number_compact : (l : LogParts) (i : ℕ) → l.base ≤ i → i ≤ last_index l → (j : ℕ) (xs : List LogEntry) → i < j → j ≤ last_index l + 1
    → log_after (compacted l i) (number j xs) ≡ compacted (log_after l (number j xs)) i
number_compact l i h w j [] x g = refl
number_compact l i h w j (y ∷ ys) x g =
    let m = log_after l (Entry j y.term y.entry ∷ []) in
    let e = last_after l j y (omega arith) g in
    let s = compacts l i h w in
    one_by_one (compacted l i) j y ys
    ∙ (ap (λ (p : LogParts). log_after p (number (suc j) ys)) (s.puts j y.term y.entry x g)
    ∙ (number_compact m i h (omega arith) (suc j) ys (omega arith) (omega arith)
    ∙ ap (λ (p : LogParts). compacted p i) (sym (one_by_one l j y ys))))
