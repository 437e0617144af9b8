-- Majorities: two of one list share a member, and a weaker test keeps one.
use Rattle.std.proofs.Common.{◌≡◌, ◌⊎◌, inl, inr, ⊎_elim, ℕ, ◌+◌, ◌*◌, ◌<◌, ◌≤◌, Bool, true, false, cond, List, [], ◌∷◌, length, refl, arith}
use Rattle.std.proofs.lemmas.Bool.{cases_lt}
use Rattle.raft_spine.specs.Quorum.{IsQuorum}
use Rattle.raft_types.specs.Quorum.{tally}

meet_at : (p q : ℕ → Bool) (x : ℕ) (xs : List ℕ)
    → (length xs < tally p xs + tally q xs → (y : ℕ) × (p y ≡ true) × (q y ≡ true))
    → (b c : Bool) → p x ≡ b → q x ≡ c
    → length (x ∷ xs) < (cond b 1 0 + tally p xs) + (cond c 1 0 + tally q xs)
    → (y : ℕ) × (p y ≡ true) × (q y ≡ true)
meet_at p q x xs rest true true e f h = (x, e, f)
meet_at p q x xs rest true false e f h = rest (omega arith)
meet_at p q x xs rest false true e f h = rest (omega arith)
meet_at p q x xs rest false false e f h = rest (omega arith)

-- two counts that together exceed the list have a member in common
meet : (p q : ℕ → Bool) (xs : List ℕ) → length xs < tally p xs + tally q xs → (y : ℕ) × (p y ≡ true) × (q y ≡ true)
meet p q [] h = absurd (omega arith)
meet p q (x ∷ xs) h = meet_at p q x xs (meet p q xs) (p x) (q x) refl refl h

-- two majorities have a member in common
pub two_quorums : (ids : List ℕ) (p q : ℕ → Bool) → IsQuorum ids p → IsQuorum ids q → (y : ℕ) × (p y ≡ true) × (q y ≡ true)
two_quorums ids p q a b =
    let ha = a.most in let hb = b.most in
    meet p q ids (omega arith)

tally_at : (p q : ℕ → Bool) (x : ℕ) → (p x ≡ true → q x ≡ true) → (b c : Bool) → p x ≡ b → q x ≡ c → cond b 1 0 ≤ cond c 1 0
tally_at p q x f true true e g = omega arith
tally_at p q x f true false e g = absurd (cc (f e))
tally_at p q x f false true e g = omega arith
tally_at p q x f false false e g = omega arith

-- a weaker test counts no fewer
tally_grows : (p q : ℕ → Bool) → ((x : ℕ) → p x ≡ true → q x ≡ true) → (xs : List ℕ) → tally p xs ≤ tally q xs
tally_grows p q f [] = omega arith
tally_grows p q f (x ∷ xs) =
    let a = tally_at p q x (f x) (p x) (q x) refl refl in
    let b = tally_grows p q f xs in
    omega arith

-- a weaker test keeps a majority
pub quorum_grows : (ids : List ℕ) (p q : ℕ → Bool) → ((x : ℕ) → p x ≡ true → q x ≡ true) → IsQuorum ids p → IsQuorum ids q
quorum_grows ids p q f a =
    let h = a.most in let g = tally_grows p q f ids in
    record { most = omega arith }

-- a list of members has a majority that passes, or has none
pub quorum_or_not : (ids : List ℕ) (p : ℕ → Bool) → IsQuorum ids p ⊎ (IsQuorum ids p → ⊥)
quorum_or_not ids p = ⊎_elim
    (λ (x : length ids < 2 * tally p ids). inl (record { most = x }))
    (λ (y : 2 * tally p ids ≤ length ids). inr (λ (q : IsQuorum ids p). let m = q.most in omega arith))
    (cases_lt (length ids) (2 * tally p ids))
