-- The log above a base, as the front and the rest of a whole log.
use Rattle.std.proofs.Common.{◌≡◌, ◌≢◌, ℕ, zero, suc, ◌+◌, ◌-◌, ◌<◌, ◌≤◌, Bool, true, false, cond, ◌==◌, List, length, take, drop, Some, refl, sym, ap, ◌∙◌, arith, length-take-le, take-take, take_all, length-drop, get_or-drop}
use Rattle.std.proofs.lemmas.Bool.{eqb-true, eqb-false}
use Rattle.raft_types.specs.declared.entry.LogEntry.{LogEntry}
use Rattle.raft_types.specs.Log.{LogParts, nothing, term_at, last_index, log_last_term, log_term, or_zero, compacted}
use Rattle.raft_spine.specs.Start.{Start}
use Rattle.raft_spine.specs.Moves.{last_term}
use Rattle.raft_spine.proofs.Fronts.{agree_term}
use Rattle.raft_spine.proofs.Grant.{last_term_is}
use Rattle.raft_claims.specs.Tied.{whole_log}

-- the log above a base of a whole one
abbrev pub compact : Start → List LogEntry → ℕ → LogParts
compact b whole base = record { base = base; base_term = last_term b (take (base - b.base) whole); entries = drop (base - b.base) whole }

-- the last term of a front
pub last_of_front : (b : Start) (i : ℕ) (l : List LogEntry) → i < length l → last_term b (take (suc i) l) ≡ term_at l i
last_of_front b i l h =
    let n = length-take-le (suc i) l h in
    last_term_is b (take (suc i) l) (omega arith)
    ∙ (ap (term_at (take (suc i) l)) (let e : length (take (suc i) l) - 1 ≡ i = omega arith in e)
    ∙ agree_term (suc i) i (take (suc i) l) l (omega arith) (take-take (suc i) (suc i) l (omega arith)))

at_start : (b : Start) (l : List LogEntry) (j : ℕ) → j ≡ b.base → log_term (whole_log b l) j ≡ Some b.base_term
at_start b l j h = grind arith

above_start : (b : Start) (l : List LogEntry) (j : ℕ) → b.base < j → j ≤ b.base + length l → log_term (whole_log b l) j ≡ Some (term_at l (j - (b.base + 1)))
above_start b l j h w = grind arith

-- the term at an index of a whole log is the last of the front up to it
pub term_of_front : (b : Start) (l : List LogEntry) (n j : ℕ) → j ≡ b.base + n → n ≤ length l → log_term (whole_log b l) j ≡ Some (last_term b (take n l))
term_of_front b l zero j e w = at_start b l j (omega arith)
term_of_front b l (suc i) j e w =
    let p : j - (b.base + 1) ≡ i = omega arith in
    above_start b l j (omega arith) (omega arith) ∙ (ap (λ (x : ℕ). Some (term_at l x)) p ∙ ap (λ (x : ℕ). Some x) (sym (last_of_front b i l w)))

-- a log of these parts
abbrev pub log_at : ℕ → ℕ → List LogEntry → LogParts
log_at base t l = record { base = base; base_term = t; entries = l }

pub compact_is : (b : Start) (whole : List LogEntry) (base : ℕ) → b.base ≤ base → base ≤ b.base + length whole → compacted (whole_log b whole) base ≡ compact b whole base
compact_is b whole base lo hi =
    ap (λ (t : ℕ). log_at base t (drop (base - b.base) whole)) (ap or_zero (term_of_front b whole (base - b.base) base (omega arith) (omega arith)))

-- the end of a log is that of the log compacted from it
pub compact_last : (b : Start) (l : List LogEntry) (base : ℕ) → b.base ≤ base → base ≤ b.base + length l → last_index (compact b l base) ≡ b.base + length l
compact_last b l base h w = let x = length-drop (base - b.base) l in omega arith

-- a list's last term is that of the list above a base, or of the front below
last_above : (b : Start) (n : ℕ) (l : List LogEntry) → n ≤ length l → (z : Bool) → (length (drop n l) == 0) ≡ z → cond z (last_term b (take n l)) (term_at (drop n l) (length (drop n l) - 1)) ≡ last_term b l
last_above b n l h true e = let x = length-drop n l in let y = eqb-true (length (drop n l)) 0 e in ap (last_term b) (take_all n l (omega arith))
last_above b n l h false e =
    let x = length-drop n l in
    let y : length (drop n l) ≢ 0 = eqb-false (length (drop n l)) 0 e in
    ap (λ (z : LogEntry). z.term) (get_or-drop n l (length (drop n l) - 1) nothing)
    ∙ (ap (term_at l) (let q : n + (length (drop n l) - 1) ≡ length l - 1 = omega arith in q) ∙ sym (last_term_is b l (omega arith)))

pub compact_last_term : (b : Start) (l : List LogEntry) (base : ℕ) → b.base ≤ base → base ≤ b.base + length l → log_last_term (compact b l base) ≡ last_term b l
compact_last_term b l base h w = last_above b (base - b.base) l (omega arith) (length (drop (base - b.base) l) == 0) refl
