-- Terms that do not fall, and entries that may follow.
use Rattle.std.proofs.Common.{◌≡◌, ℕ, zero, suc, ◌+◌, ◌-◌, ◌<◌, ◌≤◌, List, [], ◌∷◌, ◌++◌, length, take, get_or, refl, sym, ap, subst, ◌∙◌, arith, append_assoc, length-append, Some}
use Rattle.std.proofs.lemmas.List.{length-take-le}
use Rattle.std.proofs.Math.Seq.{get_or-append_seam}
use Rattle.raft_types.specs.declared.entry.LogEntry.{LogEntry}
use Rattle.raft_types.specs.declared.item.Item.{Item}
use Rattle.raft_types.specs.declared.item.Item.TheVariants.{Entry}
use Rattle.raft_types.specs.declared.limits.TheConstants.{MAX_TERM, MAX_INDEX}
use Rattle.raft_types.specs.Items.{stored, number, GoOn}
use Rattle.raft_types.specs.Log.{LogParts, nothing, last_index, log_term, or_zero}
use Rattle.raft_types.proofs.Kept.{stored_past}
use Rattle.raft_durable.specs.declared.kept.Kept.{Kept}
use Rattle.raft_durable.specs.Laws.{CanPut, Follow, after}
use Rattle.raft_durable.specs.Steps.{Rising}
use Rattle.raft_durable.proofs.Pushing.{term_known}

-- the first is not above the last
pub rising_to : (from to : ℕ) (xs : List LogEntry) → Rising from to xs → from ≤ to
rising_to from to [] r = r
rising_to from to (x ∷ xs) r = let h = r.0 in let g = rising_to x.term to xs r.1 in omega (arith, h, g)

-- the term before a place
abbrev before : ℕ → List LogEntry → ℕ → ℕ
before from es zero = from
before from [] (suc p) = from
before from (e ∷ es) (suc p) = before e.term es p

rising_behind : (from to : ℕ) (es xs : List LogEntry) (p : ℕ) → Rising from to (take p es ++ xs) → Rising (before from es p) to xs
rising_behind from to es xs zero r = r
rising_behind from to [] xs (suc p) r = r
rising_behind from to (e ∷ es) xs (suc p) r = rising_behind e.term to es xs p r.1

before_at : (from : ℕ) (es : List LogEntry) (q : ℕ) → q < length es → before from es (suc q) ≡ (get_or es q nothing).term
before_at from [] q h = absurd (omega (arith, h))
before_at from (e ∷ es) zero h = refl
before_at from (e ∷ es) (suc q) h = before_at e.term es q (omega (arith, h))

-- it is the one that the log knows there
before_is : (l : LogParts) (p : ℕ) → p ≤ length l.entries → before l.base_term l.entries p ≡ or_zero (log_term l (l.base + p))
before_is l zero h = let e : log_term l (l.base + 0) ≡ Some l.base_term = grind arith in sym (ap or_zero e)
before_is l (suc q) h =
    let place : l.base + suc q - (l.base + 1) ≡ q = omega arith in
    before_at l.base_term l.entries q (omega (arith, h))
    ∙ sym (ap or_zero (term_known l (l.base + suc q) (omega arith) (omega (arith, h))) ∙ ap (λ (m : ℕ). (get_or l.entries m nothing).term) place)

-- a log that was cut and has one entry more ends with it
ends : (b i : ℕ) (es : List LogEntry) (x : LogEntry) → b < i → i ≤ suc (b + length es) → b + length (take (i - (b + 1)) es ++ x ∷ []) ≡ i
ends b i es x h w =
    let n = length-append (take (i - (b + 1)) es) (x ∷ []) in
    let t = length-take-le (i - (b + 1)) es (omega (arith, h, w)) in
    omega (arith, n, t, h)

last_term : (l : LogParts) (i : ℕ) (x : LogEntry) (entries : List LogEntry) → l.base < i → i ≤ suc (last_index l) → entries ≡ take (i - (l.base + 1)) l.entries ++ x ∷ []
    → or_zero (log_term (record { base = l.base; base_term = l.base_term; entries = entries }) (suc i - 1)) ≡ x.term
last_term l i x entries h w e =
    let n = ap length e in
    let m = ends l.base i l.entries x h w in
    let t = length-take-le (i - (l.base + 1)) l.entries (omega (arith, h, w)) in
    let place : suc i - 1 - (l.base + 1) ≡ length (take (i - (l.base + 1)) l.entries) = omega (arith, t, h) in
    let known = term_known (record { base = l.base; base_term = l.base_term; entries = entries }) (suc i - 1) (omega (arith, h)) (omega (arith, n, m)) in
    ap or_zero known
    ∙ (ap (λ (m : ℕ). (get_or entries m nothing).term) place
    ∙ (ap (λ (xs : List LogEntry). (get_or xs (length (take (i - (l.base + 1)) l.entries)) nothing).term) e
    ∙ ap (λ (y : LogEntry). y.term) (get_or-append_seam (take (i - (l.base + 1)) l.entries) x [] nothing)))

-- entries in order, the first of them above the base and near the last, may follow
pub follow : (k : Kept) (i : ℕ) (xs : List LogEntry) → k.log.base < i → i ≤ suc (last_index k.log) → i + length xs ≤ suc MAX_INDEX → k.term ≤ MAX_TERM
    → Rising (or_zero (log_term k.log (i - 1))) k.term xs → Follow k (number i xs)
follow k i [] a b d e r = tt
follow k i (x ∷ xs) a b d e r =
    let x_to = rising_to x.term k.term xs r.1 in
    let next = after k (Entry i x.term x.entry ∷ []) in
    let n = ends k.log.base i k.log.entries (record { term = x.term; entry = x.entry }) a b in
    let t : or_zero (log_term next.log (suc i - 1)) ≡ x.term = last_term k.log i (record { term = x.term; entry = x.entry }) next.log.entries a b refl in
    let put : CanPut k i x.term = record { above = a; near = omega (arith, b); last = omega (arith, d); from = r.0; to = x_to; greatest = omega (arith, x_to, e) } in
    (put, follow next (suc i) xs (omega (arith, a)) (omega (arith, n)) (omega (arith, d)) e (subst (λ (z : ℕ). Rising z k.term xs) (sym t) r.1))

-- numbered entries cut a log at the first of them and are appended
pub stored_number : (b i : ℕ) (es : List LogEntry) (x : LogEntry) (xs : List LogEntry) → b < i → i ≤ suc (b + length es) → stored b es (number i (x ∷ xs)) ≡ take (i - (b + 1)) es ++ x ∷ xs
stored_number b i es x xs h w =
    let front = take (i - (b + 1)) es ++ x ∷ [] in
    let n : suc i ≡ suc (b + length front) = ap suc (sym (ends b i es x h w)) in
    ap (λ (m : ℕ). stored b front (number m xs)) n ∙ (stored_past b front xs ∙ append_assoc (take (i - (b + 1)) es) (x ∷ []) xs)

-- entries that go on may follow, where the log after them is in order
go_on : (k : Kept) (i : ℕ) (xs : List LogEntry) → k.log.base < i → i ≤ suc (last_index k.log) → k.term ≤ MAX_TERM
    → k.log.base + length (stored k.log.base k.log.entries (number i xs)) ≤ MAX_INDEX → Rising k.log.base_term k.term (stored k.log.base k.log.entries (number i xs)) → Follow k (number i xs)
go_on k i [] h w t n r = tt
go_on k i (x ∷ xs) h w t n r =
    let b = k.log.base in
    let es = k.log.entries in
    let is = stored_number b i es x xs h w in
    let p = i - (b + 1) in
    let sum = length-append (take p es) (x ∷ xs) in
    let front = length-take-le p es (omega (arith, h, w)) in
    let whole = ap length is in
    let place : b + p ≡ i - 1 = omega (arith, h) in
    let behind = rising_behind k.log.base_term k.term es (x ∷ xs) p (subst (λ (ys : List LogEntry). Rising k.log.base_term k.term ys) is r) in
    let from = before_is k.log p (omega (arith, h, w)) ∙ ap (λ (m : ℕ). or_zero (log_term k.log m)) place in
    follow k i (x ∷ xs) h w (omega (arith, n, whole, sum, front, h)) t (subst (λ (z : ℕ). Rising z k.term (x ∷ xs)) from behind)

pub goes_follow : (k : Kept) (commit : ℕ) (items : List Item) → k.log.base ≤ commit → k.term ≤ MAX_TERM → GoOn commit (last_index k.log) items
    → k.log.base + length (stored k.log.base k.log.entries items) ≤ MAX_INDEX → Rising k.log.base_term k.term (stored k.log.base k.log.entries items) → Follow k items
goes_follow k commit items b t g n r =
    let above = g.above in
    let near = g.near in
    subst (Follow k) (sym g.are)
    (go_on k g.index g.entries (omega (arith, b, above)) near t
    (subst (λ (xs : List Item). k.log.base + length (stored k.log.base k.log.entries xs) ≤ MAX_INDEX) g.are n)
    (subst (λ (xs : List Item). Rising k.log.base_term k.term (stored k.log.base k.log.entries xs)) g.are r))
