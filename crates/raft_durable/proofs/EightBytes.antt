-- Numbers in eight bytes: what is written is read, and what is read was written.
use Rattle.std.proofs.Common.{◌≡◌, ℕ, ◌<◌, ◌^◌, ◌==◌, ◌&&◌, Bool, true, false, cond, List, [], ◌∷◌, ◌++◌, length, take, drop, refl, sym, ap, ◌∙◌, arith, take-append-drop, Option, Some, None}
use Rattle.std.proofs.lemmas.List.{take_at, drop_at, length-take}
use Rattle.byteorder.specs.Endian.{big_bytes, big_number}
use Rattle.byteorder.specs.Numbers.{big_number-reads_back, length-bytes_high_first}
use Rattle.raft_durable.specs.Bytes.{same_bytes, number_as, number_at}

both_true : (p q : Bool) → (p && q) ≡ true → (p ≡ true) × (q ≡ true)
both_true true q h = (refl, h)
both_true false q h = absurd (grind arith)

pub equal : (a b : ℕ) → (a == b) ≡ true → a ≡ b
equal a b h = grind arith

equal_self : (a : ℕ) → (a == a) ≡ true
equal_self a = grind arith

same_self : (xs : List ℕ) → same_bytes xs xs ≡ true
same_self [] = refl
same_self (x ∷ xs) = ap (λ (b : Bool). b && same_bytes xs xs) (equal_self x) ∙ same_self xs

are_same : (xs ys : List ℕ) → same_bytes xs ys ≡ true → xs ≡ ys
are_same [] [] h = refl
are_same [] (y ∷ ys) h = absurd (grind arith)
are_same (x ∷ xs) [] h = absurd (grind arith)
are_same (x ∷ xs) (y ∷ ys) h =
    let b = both_true (x == y) (same_bytes xs ys) h in
    let e = equal x y b.0 in
    let r = are_same xs ys b.1 in
    λ i. e i ∷ r i

-- a number that is written is read, whatever follows
pub again : (n : ℕ) (rest : List ℕ) → n < 2 ^ 64 → number_at (big_bytes 8 n ++ rest) ≡ Some (n, rest)
again n rest fits =
    let eight = big_bytes 8 n in
    let long : length eight ≡ 8 = length-bytes_high_first 8 n in
    let reads : big_number 8 (eight ++ rest) ≡ n = big_number-reads_back 8 n rest (omega (arith, fits)) in
    let front : take 8 (eight ++ rest) ≡ eight = take_at eight rest 8 long in
    let behind : drop 8 (eight ++ rest) ≡ rest = drop_at eight rest 8 long in
    ap (number_as (eight ++ rest)) reads
    ∙ (ap (λ (xs : List ℕ). cond (same_bytes xs eight) (Some (n, drop 8 (eight ++ rest))) None) front
    ∙ (ap (λ (b : Bool). cond b (Some (n, drop 8 (eight ++ rest))) None) (same_self eight)
    ∙ ap (λ (xs : List ℕ). Some (n, xs)) behind))

-- the number and what is behind it, where the test is passed
abbrev tested : Bool → List ℕ → ℕ → Option (ℕ × List ℕ)
tested b bytes m = cond b (Some (m, drop 8 bytes)) None

abbrev number_in : Option (ℕ × List ℕ) → ℕ
number_in None = 0
number_in (Some n) = n.0

abbrev behind_in : Option (ℕ × List ℕ) → List ℕ
behind_in None = []
behind_in (Some n) = n.1

taken : (bytes : List ℕ) (m n : ℕ) (rest : List ℕ) (b : Bool) → same_bytes (take 8 bytes) (big_bytes 8 m) ≡ b → tested b bytes m ≡ Some (n, rest) → bytes ≡ big_bytes 8 n ++ rest
taken bytes m n rest true same is =
    let front : take 8 bytes ≡ big_bytes 8 m = are_same (take 8 bytes) (big_bytes 8 m) same in
    let number : m ≡ n = ap number_in is in
    let behind : drop 8 bytes ≡ rest = ap behind_in is in
    sym (take-append-drop 8 bytes) ∙ (ap (λ (xs : List ℕ). xs ++ drop 8 bytes) front ∙ (ap (λ (k : ℕ). big_bytes 8 k ++ drop 8 bytes) number ∙ ap (λ (xs : List ℕ). big_bytes 8 n ++ xs) behind))
taken bytes m n rest false same is = absurd cc

-- a number that is read was written
pub takes : (bytes : List ℕ) (n : ℕ) (rest : List ℕ) → number_at bytes ≡ Some (n, rest) → bytes ≡ big_bytes 8 n ++ rest
takes bytes n rest is = taken bytes (big_number 8 bytes) n rest (same_bytes (take 8 bytes) (big_bytes 8 (big_number 8 bytes))) refl is

none_in : (bytes : List ℕ) (m : ℕ) (b : Bool) → length bytes < 8 → same_bytes (take 8 bytes) (big_bytes 8 m) ≡ b → number_as bytes m ≡ None
none_in bytes m true short same =
    let front : take 8 bytes ≡ big_bytes 8 m = are_same (take 8 bytes) (big_bytes 8 m) same in
    absurd (omega (arith, short, ap length front, length-bytes_high_first 8 m, length-take 8 bytes))
none_in bytes m false short same = ap (λ (b : Bool). cond b (Some (m, drop 8 bytes)) None) same

-- fewer than eight bytes are no number
pub short : (bytes : List ℕ) → length bytes < 8 → number_at bytes ≡ None
short bytes few = none_in bytes (big_number 8 bytes) (same_bytes (take 8 bytes) (big_bytes 8 (big_number 8 bytes))) few refl

-- what begins with a number that was written is read so
pub read_as : (bytes : List ℕ) (n : ℕ) (rest : List ℕ) → n < 2 ^ 64 → bytes ≡ big_bytes 8 n ++ rest → number_at bytes ≡ Some (n, rest)
read_as bytes n rest fits is = ap number_at is ∙ again n rest fits
