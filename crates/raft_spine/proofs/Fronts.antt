-- Logs that have the same first entries.
use Rattle.std.proofs.Common.{◌≡◌, ◌⊎◌, inl, inr, ⊎_elim, ℕ, ◌<◌, ◌≤◌, List, length, take, get_or, refl, sym, ap, ◌∙◌, subst, arith, take_all, take-take, get_or-take, length-take, length-take-le}
use Rattle.std.proofs.lemmas.Bool.{cases_lt}
use Rattle.raft_types.specs.declared.entry.LogEntry.{LogEntry}
use Rattle.raft_spine.specs.Logs.{SameFirst, IsFront}
use Rattle.raft_types.specs.Log.{nothing, term_at}

-- fewer of the same are the same
pub agree_down : (m n : ℕ) (l k : List LogEntry) → m ≤ n → SameFirst n l k → SameFirst m l k
agree_down m n l k h e = sym (take-take m n l h) ∙ (ap (take m) e ∙ take-take m n k h)

-- the same entries have the same terms
pub agree_term : (n i : ℕ) (l k : List LogEntry) → i < n → SameFirst n l k → term_at l i ≡ term_at k i
agree_term n i l k h e =
    ap (λ (x : LogEntry). x.term) (sym (get_or-take n l i nothing h) ∙ (ap (λ (m : List LogEntry). get_or m i nothing) e ∙ get_or-take n k i nothing h))

-- a log with the same first n entries as one that has n of them has n of them too
pub agree_long : (n : ℕ) (l k : List LogEntry) → n ≤ length k → SameFirst n l k → n ≤ length l
agree_long n l k h e =
    let a = length-take n l in
    let c = length-take-le n k h in
    let d = ap length e in
    omega arith

-- a log is a front of itself
pub whole : (l : List LogEntry) → IsFront l l
whole l = take_all (length l) l (omega arith)

-- a front is no longer than the log
pub front_fits : (p l : List LogEntry) → IsFront p l → length p ≤ length l
front_fits p l e = agree_long (length p) l p (omega arith) (e ∙ sym (whole p))

front_of : (n m : ℕ) (l p q : List LogEntry) → n ≤ m → n ≡ length p → m ≡ length q → take n l ≡ p → take m l ≡ q → IsFront p q
front_of n m l p q le en em ep eq = ap (λ (x : ℕ). take x q) (sym en) ∙ (ap (take n) (sym eq) ∙ (take-take n m l le ∙ ep))

-- of two fronts of one log one is a front of the other
pub fronts : (l p q : List LogEntry) → IsFront p l → IsFront q l → IsFront p q ⊎ IsFront q p
fronts l p q ep eq = ⊎_elim
    (λ (x : length p < length q). inl (front_of (length p) (length q) l p q (omega arith) refl refl ep eq))
    (λ (x : length q ≤ length p). inr (front_of (length q) (length p) l q p x refl refl eq ep))
    (cases_lt (length p) (length q))

-- a front of a front is one
pub front_front : (n : ℕ) (p l : List LogEntry) → IsFront p l → IsFront (take n p) l
front_front n p l e = ⊎_elim
    (λ (x : n < length p).
    let q = length-take-le n p (omega arith) in
    ap (λ (k : ℕ). take k l) q ∙ (sym (take-take n (length p) l (omega arith)) ∙ ap (take n) e))
    (λ (x : length p ≤ n). subst (λ (r : List LogEntry). IsFront r l) (sym (take_all n p x)) e)
    (cases_lt n (length p))
