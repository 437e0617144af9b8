-- The first place behind a `*` that fits is as good as any.
use Rattle.std.proofs.Common.{◌≡◌, ℕ, zero, suc, take, drop, ◌-◌, ◌+◌, ◌<◌, ◌≤◌, Bool, true, false, cond, eqb, ◌&&◌, ◌||◌, List, [], ◌∷◌, length, refl, sym, ap, subst, ◌∙◌, arith, Option, Some, None}
use Rattle.std.proofs.lemmas.List.{length-drop, take_all}
use Rattle.khepri_terms.proofs.Cases.{some_is, guard_some, and_true}
use Rattle.khepri_types.specs.declared.glob.GlobPiece.{GlobPiece}
use Rattle.khepri_types.specs.declared.glob.GlobPiece.TheVariants.{Byte, Star}
use Rattle.khepri_types.specs.Globs.{some_tail, begins_byte, glob_matches}
use Rattle.khepri_types.specs.Literals.{literal_at}

-- what is left of the pieces and the bytes matches exactly where all does
pub literal_matches : (pieces : List GlobPiece) (bytes : List ℕ) (left : List GlobPiece) (rest : List ℕ) → literal_at pieces bytes ≡ Some (left, rest) → glob_matches pieces bytes ≡ glob_matches left rest
unfolding literal_at glob_matches
literal_matches [] bytes left rest e = let is = some_is ([], bytes) (left, rest) e in ap (λ (x : List GlobPiece × List ℕ). glob_matches x.0 x.1) is
literal_matches (Star ∷ pieces) bytes left rest e = let is = some_is (Star ∷ pieces, bytes) (left, rest) e in ap (λ (x : List GlobPiece × List ℕ). glob_matches x.0 x.1) is
literal_matches (Byte a ∷ pieces) [] left rest e = absurd cc
literal_matches (Byte a ∷ pieces) (b ∷ bytes) left rest e =
    let g = guard_some (eqb a b) (literal_at pieces bytes) (left, rest) e in
    ap (λ (t : Bool). t && glob_matches pieces bytes) g.0 ∙ literal_matches pieces bytes left rest g.1

and_unlike : {A : Type 0} (t : Bool) (o : Option A) (v : Bool) → cond t o None ≡ None → (o ≡ None → v ≡ false) → (t && v) ≡ false
and_unlike true o v e f = f e
and_unlike false o v e f = refl

-- pieces that do not take their bytes match nothing
pub literal_unlike : (pieces : List GlobPiece) (bytes : List ℕ) → literal_at pieces bytes ≡ None → glob_matches pieces bytes ≡ false
unfolding literal_at glob_matches
literal_unlike [] bytes e = absurd cc
literal_unlike (Star ∷ pieces) bytes e = absurd cc
literal_unlike (Byte a ∷ pieces) [] e = refl
literal_unlike (Byte a ∷ pieces) (b ∷ bytes) e = and_unlike (eqb a b) (literal_at pieces bytes) (glob_matches pieces bytes) e (literal_unlike pieces bytes)

-- pieces without a `*` are the bytes where all of both is taken
pub literal_same : (pieces : List GlobPiece) (bytes : List ℕ) (left : List GlobPiece) (rest : List ℕ) → literal_at pieces bytes ≡ Some (left, rest) → length left < 1 → length rest < 1 → glob_matches pieces bytes ≡ true
unfolding glob_matches
literal_same pieces bytes [] [] e l r = literal_matches pieces bytes [] [] e
literal_same pieces bytes (p ∷ left) rest e l r = absurd (omega arith)
literal_same pieces bytes [] (b ∷ rest) e l r = absurd (omega arith)

pub literal_longer : (pieces : List GlobPiece) (bytes : List ℕ) (left : List GlobPiece) (rest : List ℕ) → literal_at pieces bytes ≡ Some (left, rest) → length left < 1 → 0 < length rest → glob_matches pieces bytes ≡ false
unfolding glob_matches
literal_longer pieces bytes [] (b ∷ rest) e l r = literal_matches pieces bytes [] (b ∷ rest) e
literal_longer pieces bytes (p ∷ left) rest e l r = absurd (omega arith)
literal_longer pieces bytes [] [] e l r = absurd (omega arith)

-- what is left of the pieces begins with a `*`
pub literal_star : (pieces : List GlobPiece) (bytes : List ℕ) (left : List GlobPiece) (rest : List ℕ) → literal_at pieces bytes ≡ Some (left, rest) → 0 < length left → left ≡ Star ∷ drop 1 left
unfolding literal_at
literal_star [] bytes left rest e l = let is = some_is ([], bytes) (left, rest) e in absurd (omega (arith, ap (λ (x : List GlobPiece × List ℕ). length x.0) is))
literal_star (Star ∷ pieces) bytes left rest e l = let is = some_is (Star ∷ pieces, bytes) (left, rest) e in subst (λ (p : List GlobPiece). p ≡ Star ∷ drop 1 p) (ap (λ (x : List GlobPiece × List ℕ). x.0) is) refl
literal_star (Byte k ∷ pieces) [] left rest e l = absurd cc
literal_star (Byte k ∷ pieces) (b ∷ bytes) left rest e l = literal_star pieces bytes left rest (guard_some (eqb k b) (literal_at pieces bytes) (left, rest) e).1 l

pub literal_shorter : (pieces : List GlobPiece) (bytes : List ℕ) (left : List GlobPiece) (rest : List ℕ) → literal_at pieces bytes ≡ Some (left, rest) → (length left ≤ length pieces) × (length rest ≤ length bytes)
unfolding literal_at
literal_shorter [] bytes left rest e = let is = some_is ([], bytes) (left, rest) e in (omega (arith, ap (λ (x : List GlobPiece × List ℕ). length x.0) is), omega (arith, ap (λ (x : List GlobPiece × List ℕ). length x.1) is))
literal_shorter (Star ∷ pieces) bytes left rest e = let is = some_is (Star ∷ pieces, bytes) (left, rest) e in (omega (arith, ap (λ (x : List GlobPiece × List ℕ). length x.0) is), omega (arith, ap (λ (x : List GlobPiece × List ℕ). length x.1) is))
literal_shorter (Byte k ∷ pieces) [] left rest e = absurd cc
literal_shorter (Byte k ∷ pieces) (b ∷ bytes) left rest e =
    let s = literal_shorter pieces bytes left rest (guard_some (eqb k b) (literal_at pieces bytes) (left, rest) e).1 in
    (omega (arith, s.0), omega (arith, s.1))

here_or : (test : List ℕ → Bool) (bytes : List ℕ) (t u : Bool) → test bytes ≡ t → (t || u) ≡ true → (u ≡ true → (k : ℕ) × (test (drop k bytes) ≡ true)) → (k : ℕ) × (test (drop k bytes) ≡ true)
here_or test bytes true u is e later = (0, is)
here_or test bytes false u is e later = later e

-- a place where the test is passed
some_place : (test : List ℕ → Bool) (bytes : List ℕ) → some_tail test bytes ≡ true → (k : ℕ) × (test (drop k bytes) ≡ true)
unfolding some_tail
some_place test [] e = (0, e)
some_place test (b ∷ bytes) e = here_or test (b ∷ bytes) (test (b ∷ bytes)) (some_tail test bytes) refl e (λ more. let s = some_place test bytes more in (suc s.0, s.1))

or_right : (a b : Bool) → b ≡ true → (a || b) ≡ true
or_right true b e = refl
or_right false b e = e

-- what is behind more of the bytes is behind fewer of them
tail_later : (test : List ℕ → Bool) (k : ℕ) (bytes : List ℕ) → some_tail test (drop k bytes) ≡ true → some_tail test bytes ≡ true
unfolding some_tail
tail_later test zero bytes e = e
tail_later test (suc k) [] e = e
tail_later test (suc k) (b ∷ bytes) e = or_right (test (b ∷ bytes)) (some_tail test bytes) (tail_later test k bytes e)

drop_on : (k : ℕ) (bytes : List ℕ) (c : ℕ) (rest : List ℕ) → drop k bytes ≡ c ∷ rest → rest ≡ drop (suc k) bytes
drop_on zero [] c rest e = absurd cc
drop_on zero (b ∷ bytes) c rest e = cc
drop_on (suc k) [] c rest e = absurd cc
drop_on (suc k) (b ∷ bytes) c rest e = drop_on k bytes c rest e

begins_byte_is : (a : ℕ) (test : List ℕ → Bool) (bytes : List ℕ) → begins_byte a test bytes ≡ true → (c : ℕ) × (rest : List ℕ) × (bytes ≡ c ∷ rest) × (test rest ≡ true)
begins_byte_is a test [] e = absurd cc
begins_byte_is a test (c ∷ rest) e = (c, rest, refl, (and_true (eqb a c) (test rest) e).1)

-- where the pieces fit behind more of the bytes, what is left behind the literal does so too
place_later : (pieces : List GlobPiece) (bytes : List ℕ) (later : List GlobPiece) (rest : List ℕ) (k : ℕ) → literal_at pieces bytes ≡ Some (Star ∷ later, rest) → glob_matches pieces (drop k bytes) ≡ true → some_tail (glob_matches later) rest ≡ true
unfolding literal_at glob_matches
place_later [] bytes later rest k e is = let s = some_is ([], bytes) (Star ∷ later, rest) e in absurd (omega (arith, ap (λ (x : List GlobPiece × List ℕ). length x.0) s))
place_later (Star ∷ pieces) bytes later rest k e is =
    let s = some_is (Star ∷ pieces, bytes) (Star ∷ later, rest) e in
    let t : pieces ≡ later = ap (λ (x : List GlobPiece × List ℕ). drop 1 x.0) s in
    let r : bytes ≡ rest = ap (λ (x : List GlobPiece × List ℕ). x.1) s in
    ap (λ (p : List GlobPiece). some_tail (glob_matches p) rest) (sym t) ∙ (ap (some_tail (glob_matches pieces)) (sym r) ∙ tail_later (glob_matches pieces) k bytes is)
place_later (Byte a ∷ pieces) [] later rest k e is = absurd cc
place_later (Byte a ∷ pieces) (b ∷ bytes) later rest k e is =
    let p = begins_byte_is a (glob_matches pieces) (drop k (b ∷ bytes)) is in
    let d : p.1 ≡ drop k bytes = drop_on k (b ∷ bytes) p.0 p.1 p.2 in
    place_later pieces bytes later rest k (guard_some (eqb a b) (literal_at pieces bytes) (Star ∷ later, rest) e).1 (ap (glob_matches pieces) (sym d) ∙ p.3)

or_left : (a b : Bool) → (b ≡ true → a ≡ true) → (a || b) ≡ a
or_left true b f = refl
or_left false true f = sym (f refl)
or_left false false f = refl

-- behind a `*`, the first place where the literal fits decides
pub first_place : (pieces : List GlobPiece) (bytes : List ℕ) (later : List GlobPiece) (rest : List ℕ) → literal_at pieces bytes ≡ Some (Star ∷ later, rest) → some_tail (glob_matches later) rest ≡ some_tail (glob_matches pieces) bytes
unfolding some_tail glob_matches
first_place pieces [] later rest e = sym (literal_matches pieces [] (Star ∷ later) rest e)
first_place pieces (b ∷ bytes) later rest e =
    let here : glob_matches pieces (b ∷ bytes) ≡ some_tail (glob_matches later) rest = literal_matches pieces (b ∷ bytes) (Star ∷ later) rest e in
    let more : some_tail (glob_matches pieces) bytes ≡ true → glob_matches pieces (b ∷ bytes) ≡ true = (λ t.
    let s = some_place (glob_matches pieces) bytes t in
    here ∙ place_later pieces (b ∷ bytes) later rest (suc s.0) e s.1) in
    sym here ∙ sym (or_left (glob_matches pieces (b ∷ bytes)) (some_tail (glob_matches pieces) bytes) more)

-- a place where the pieces match
pub place_is : (test : List ℕ → Bool) (bytes : List ℕ) → test bytes ≡ true → some_tail test bytes ≡ true
unfolding some_tail
place_is test [] e = e
place_is test (b ∷ bytes) e = ap (λ (t : Bool). t || some_tail test bytes) e

-- a place where they do not
pub place_unlike : (test : List ℕ → Bool) (bytes : List ℕ) → test bytes ≡ false → 0 < length bytes → some_tail test (drop 1 bytes) ≡ some_tail test bytes
unfolding some_tail
place_unlike test [] e l = absurd (omega arith)
place_unlike test (b ∷ bytes) e l = sym (ap (λ (t : Bool). t || some_tail test bytes) e)

pub last_unlike : (test : List ℕ → Bool) (bytes : List ℕ) → test bytes ≡ false → length bytes < 1 → some_tail test bytes ≡ false
unfolding some_tail
last_unlike test [] e l = e
last_unlike test (b ∷ bytes) e l = absurd (omega arith)

pub star_shorter : (pieces : List GlobPiece) (bytes : List ℕ) (later : List GlobPiece) (rest : List ℕ) → literal_at pieces bytes ≡ Some (Star ∷ later, rest) → length later + length rest < length pieces + length bytes
star_shorter pieces bytes later rest e = let s = literal_shorter pieces bytes (Star ∷ later) rest e in omega (arith, s.0, s.1)

pub star_left : (pieces : List GlobPiece) (bytes : List ℕ) (left : List GlobPiece) (rest : List ℕ) → literal_at pieces bytes ≡ Some (left, rest) → 1 ≤ length left → literal_at pieces bytes ≡ Some (Star ∷ take (length left - 1) (drop 1 left), rest)
star_left pieces bytes left rest e l =
    let len : length left - 1 ≡ length (drop 1 left) = sym (length-drop 1 left) in
    let all : take (length left - 1) (drop 1 left) ≡ drop 1 left = take_all (length left - 1) (drop 1 left) (omega (arith, len)) in
    e ∙ ap (λ (p : List GlobPiece). Some (p, rest)) (literal_star pieces bytes left rest e l ∙ ap (λ (p : List GlobPiece). Star ∷ p) (sym all))

pub tail_is : (bytes : List ℕ) → take (length bytes - 1) (drop 1 bytes) ≡ drop 1 bytes
tail_is bytes = take_all (length bytes - 1) (drop 1 bytes) (omega (arith, length-drop 1 bytes))

-- behind what the pieces before a `*` take
pub star_matches : (pieces : List GlobPiece) (bytes : List ℕ) (later : List GlobPiece) (rest : List ℕ) → literal_at pieces bytes ≡ Some (Star ∷ later, rest) → some_tail (glob_matches later) rest ≡ glob_matches pieces bytes
unfolding glob_matches
star_matches pieces bytes later rest e = sym (literal_matches pieces bytes (Star ∷ later) rest e)
