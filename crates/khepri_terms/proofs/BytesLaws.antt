-- What is read of bytes is spelled so, and what is spelled so is read.
use Rattle.std.proofs.Common.{◌≡◌, ℕ, ◌+◌, ◌*◌, ◌-◌, ◌/◌, ◌%◌, ◌<◌, true, false, cond, leb, eqb, ◌&&◌, ⊎_elim, List, [], ◌∷◌, ◌++◌, ◌≤◌, length, take, drop, get_or, refl, sym, ap, subst, ◌∙◌, append_assoc, arith, Some, None}
use Rattle.std.proofs.lemmas.Bool.Decides.{nat_tests}
use Rattle.std.proofs.lemmas.Bool.{eqb-true, cond-true, cond-false}
use Rattle.std.proofs.lemmas.Grind.{flat_map-append}
use Rattle.std.proofs.lemmas.List.{append-nil, length-append}
use Rattle.std.proofs.Math.Seq.{take-length}
use Rattle.std.specs.List.{AllByRecursion}
use Rattle.std.specs.Fmt.{digit_glyph}
use Rattle.percent_encoding.specs.Percent.{percent_encode_byte}
use Rattle.khepri_terms.specs.Many.{◌>>=◌}
use Rattle.khepri_terms.specs.Bytes.{is_plain, byte_text, bytes_text, AreBytes, hex_value, escape_at, byte_at, bytes_at}
use Rattle.khepri_terms.proofs.Cases.{bind_some, if_some, guard_some, unless_some}
use Rattle.khepri_terms.proofs.Reading.{ahead, Took, many_takes, many_again, many_done}

pub plain_small : (b : ℕ) → is_plain b ≡ true → b < 256
unfolding is_plain
plain_small b h = grind (arith, nat_tests)

pub byte_text-plain : (b : ℕ) → is_plain b ≡ true → byte_text b ≡ b ∷ []
unfolding byte_text
byte_text-plain b h = cond-true _ _ _ h

pub byte_text-other : (b : ℕ) → is_plain b ≡ false → byte_text b ≡ 37 ∷ digit_glyph true (b / 16 % 16) ∷ digit_glyph true (b % 16) ∷ []
unfolding byte_text percent_encode_byte
byte_text-other b h = cond-false _ _ _ h

hex_is : (h x : ℕ) → hex_value h ≡ Some x → (h ≡ digit_glyph true x) × (x < 16)
unfolding hex_value
hex_is h x e =
    ⊎_elim
    (λ (p : ((leb 48 h && leb h 57) ≡ true) × (Some (h - 48) ≡ Some x)). let k : h - 48 ≡ x = cc in (grind (arith, nat_tests), grind (arith, nat_tests)))
    (λ (p : ((leb 48 h && leb h 57) ≡ false) × (cond (leb 65 h && leb h 70) (Some (h - 55)) None ≡ Some x)).
    let q = guard_some (leb 65 h && leb h 70) (Some (h - 55)) x p.1 in
    let k : h - 55 ≡ x = cc in
    (grind (arith, nat_tests), grind (arith, nat_tests)))
    (if_some (leb 48 h && leb h 57) (Some (h - 48)) (cond (leb 65 h && leb h 70) (Some (h - 55)) None) x e)

hex_glyph : (x : ℕ) → x < 16 → hex_value (digit_glyph true x) ≡ Some x
unfolding hex_value
hex_glyph x lt = grind (arith, nat_tests)

escape_takes : (text : List ℕ) (x : ℕ × List ℕ) → escape_at text ≡ Some x → (37 ∷ text ≡ byte_text x.0 ++ x.1) × (x.0 < 256)
unfolding escape_at
escape_takes [] x e = absurd cc
escape_takes (h ∷ []) x e = absurd cc
escape_takes (h ∷ l ∷ text) x e =
    let a = bind_some (hex_value h) (λ high. hex_value l >>= λ low. cond (is_plain (16 * high + low)) None (Some (16 * high + low, text))) x e in
    let b = bind_some (hex_value l) (λ low. cond (is_plain (16 * a.0 + low)) None (Some (16 * a.0 + low, text))) x a.2 in
    let g = unless_some (is_plain (16 * a.0 + b.0)) (Some (16 * a.0 + b.0, text)) x b.2 in
    let made : (16 * a.0 + b.0, text) ≡ x = cc in
    let hi = hex_is h a.0 a.1 in
    let lo = hex_is l b.0 b.1 in
    let high-is : (16 * a.0 + b.0) / 16 % 16 ≡ a.0 = omega (arith, hi.1, lo.1) in
    let low-is : (16 * a.0 + b.0) % 16 ≡ b.0 = omega (arith, hi.1, lo.1) in
    let spelled : 37 ∷ h ∷ l ∷ text ≡ byte_text (16 * a.0 + b.0) ++ text =
    rw (byte_text-other (16 * a.0 + b.0) g.0, high-is, low-is) (ap (λ (n : ℕ). 37 ∷ n ∷ l ∷ text) hi.0 ∙ ap (λ (n : ℕ). 37 ∷ digit_glyph true a.0 ∷ n ∷ text) lo.0) in
    subst (λ (y : ℕ × List ℕ). (37 ∷ h ∷ l ∷ text ≡ byte_text y.0 ++ y.1) × (y.0 < 256)) made (spelled, omega (arith, hi.1, lo.1))

escape_again : (b : ℕ) (rest : List ℕ) → is_plain b ≡ false → b < 256 → escape_at (digit_glyph true (b / 16 % 16) ∷ digit_glyph true (b % 16) ∷ rest) ≡ Some (b, rest)
unfolding escape_at
escape_again b rest p lt =
    let whole : 16 * (b / 16 % 16) + b % 16 ≡ b = omega arith in
    rw (hex_glyph (b / 16 % 16) (omega arith), hex_glyph (b % 16) (omega arith)) (ap (λ (n : ℕ). cond (is_plain n) None (Some (n, rest))) whole ∙ cond-false _ _ _ p)

byte_at-plain : (b : ℕ) (text : List ℕ) → is_plain b ≡ true → byte_at (b ∷ text) ≡ Some (b, text)
unfolding byte_at
byte_at-plain b text p = cond-true _ _ _ p

byte_at-escape : (text : List ℕ) → byte_at (37 ∷ text) ≡ escape_at text
unfolding byte_at is_plain
byte_at-escape text = refl

pub byte_takes : (text : List ℕ) (x : ℕ × List ℕ) → byte_at text ≡ Some x → (text ≡ byte_text x.0 ++ x.1) × (x.0 < 256)
unfolding byte_at
byte_takes [] x e = absurd cc
byte_takes (b ∷ text) x e =
    ⊎_elim
    (λ (p : (is_plain b ≡ true) × (Some (b, text) ≡ Some x)).
    let made : (b, text) ≡ x = cc in
    subst (λ (y : ℕ × List ℕ). (b ∷ text ≡ byte_text y.0 ++ y.1) × (y.0 < 256)) made (rw (byte_text-plain b p.0) refl, plain_small b p.0))
    (λ (p : (is_plain b ≡ false) × (cond (eqb b 37) (escape_at text) None ≡ Some x)).
    let q = guard_some (eqb b 37) (escape_at text) x p.1 in
    let is : b ≡ 37 = eqb-true _ _ q.0 in
    let t = escape_takes text x q.1 in
    (ap (λ (n : ℕ). n ∷ text) is ∙ t.0, t.1))
    (if_some (is_plain b) (Some (b, text)) (cond (eqb b 37) (escape_at text) None) x e)

pub byte_again : (b : ℕ) (rest : List ℕ) → b < 256 → byte_at (byte_text b ++ rest) ≡ Some (b, rest)
byte_again b rest lt =
    elim (is_plain b) as (λ v. is_plain b ≡ v → byte_at (byte_text b ++ rest) ≡ Some (b, rest)) [
      | true ↦ λ p. rw (byte_text-plain b p) (byte_at-plain b rest p)
      | false ↦ λ p. rw (byte_text-other b p) (byte_at-escape (digit_glyph true (b / 16 % 16) ∷ digit_glyph true (b % 16) ∷ rest) ∙ escape_again b rest p lt)
    ] refl

-- bytes that are read are spelled so
pub bytes_takes : (n : ℕ) (text : List ℕ) → Took byte_text (λ b. b < 256) n text (bytes_at n text)
bytes_takes n text = many_takes byte_at byte_text (λ b. b < 256) byte_takes n text

-- bytes that are spelled are read, and then those behind them
pub bytes_again : (bytes : List ℕ) (m n : ℕ) (rest : List ℕ) → AreBytes bytes → m ≡ length bytes + n → bytes_at m (bytes_text bytes ++ rest) ≡ ahead bytes (bytes_at n rest)
bytes_again bytes m n rest are e =
    many_again byte_at byte_text (λ b. b < 256) (λ _. Unit {0}) (λ b r lt _. byte_again b r lt) (λ _ _ _. tt) bytes m n rest are e tt

-- bytes that stand for themselves
abbrev pub ArePlain : List ℕ → Type 0
ArePlain bytes = AllByRecursion (λ b. is_plain b ≡ true) bytes

plain_text : (bytes : List ℕ) → ArePlain bytes → bytes_text bytes ≡ bytes
plain_text [] all = refl
plain_text (b ∷ bytes) all = rw (byte_text-plain b all.0) (ap (λ (bs : List ℕ). b ∷ bs) (plain_text bytes all.1))

plain_bytes : (bytes : List ℕ) → ArePlain bytes → AreBytes bytes
plain_bytes [] all = tt
plain_bytes (b ∷ bytes) all = (plain_small b all.0, plain_bytes bytes all.1)

plain_read : (bytes rest : List ℕ) (n : ℕ) → ArePlain bytes → length bytes ≤ n → bytes_at n (bytes ++ rest) ≡ ahead bytes (bytes_at (n - length bytes) rest)
plain_read bytes rest n all le =
    ap (λ (bs : List ℕ). bytes_at n (bs ++ rest)) (sym (plain_text bytes all)) ∙ bytes_again bytes n (n - length bytes) rest (plain_bytes bytes all) (omega arith)

-- a loop that reads takes plain bytes at once
pub plain_on : (total : List ℕ × List ℕ) (most : ℕ) (xs ys bytes text rest : List ℕ) → length xs + length bytes ≤ most → ArePlain bytes → text ≡ bytes ++ rest → ys ≡ xs ++ bytes
    → total ≡ ahead xs (bytes_at (most - length xs) text) → total ≡ ahead ys (bytes_at (most - length ys) rest)
plain_on total most xs ys bytes text rest le all is e so_far =
    let left : ℕ = most - length xs in
    let after : List ℕ × List ℕ = bytes_at (left - length bytes) rest in
    let len : length ys ≡ length xs + length bytes = ap length e ∙ length-append xs bytes in
    so_far
    ∙ (ap (λ (t : List ℕ). ahead xs (bytes_at left t)) is
    ∙ (ap (λ (f : List ℕ × List ℕ). ahead xs f) (plain_read bytes rest left all (omega arith))
    ∙ (ap (λ (zs : List ℕ). (zs, after.1)) (sym (append_assoc xs bytes after.0))
    ∙ (ap (λ (zs : List ℕ). ahead zs after) (sym e) ∙ ap (λ (n : ℕ). ahead ys (bytes_at n rest)) (omega arith)))))

-- a loop that prints appends plain bytes at once
pub plain_print : (whole out mid bytes text rest : List ℕ) → ArePlain bytes → text ≡ bytes ++ rest → mid ≡ out ++ bytes → whole ≡ out ++ bytes_text text → whole ≡ mid ++ bytes_text rest
plain_print whole out mid bytes text rest all is e so_far =
    so_far
    ∙ (ap (λ (t : List ℕ). out ++ bytes_text t) is
    ∙ (ap (λ (t : List ℕ). out ++ t) (flat_map-append byte_text bytes rest)
    ∙ (ap (λ (t : List ℕ). out ++ (t ++ bytes_text rest)) (plain_text bytes all)
    ∙ (sym (append_assoc out bytes (bytes_text rest)) ∙ ap (λ (t : List ℕ). t ++ bytes_text rest) (sym e)))))

-- and then one byte
pub byte_print : (whole out mid text : List ℕ) → 1 ≤ length text → mid ≡ out ++ byte_text (get_or text 0 0) → whole ≡ out ++ bytes_text text → whole ≡ mid ++ bytes_text (take (length text - 1) (drop 1 text))
byte_print whole out mid [] le e so_far = absurd (omega arith)
byte_print whole out mid (b ∷ rest) le e so_far =
    let tail : take (length (b ∷ rest) - 1) rest ≡ rest = ap (λ (n : ℕ). take n rest) (omega arith) ∙ take-length rest in
    so_far ∙ (sym (append_assoc out (byte_text b) (bytes_text rest)) ∙ (ap (λ (t : List ℕ). t ++ bytes_text rest) (sym e) ∙ ap (λ (t : List ℕ). mid ++ bytes_text t) (sym tail)))

pub all_printed : (whole out text : List ℕ) → length text < 1 → whole ≡ out ++ bytes_text text → out ≡ whole
all_printed whole out [] lt so_far = sym (so_far ∙ append-nil out)
all_printed whole out (b ∷ rest) lt so_far = absurd (omega (arith, lt))

-- nothing is read behind plain bytes
pub plain_all : (n : ℕ) (bytes text rest : List ℕ) → ArePlain bytes → length bytes ≤ n → text ≡ bytes ++ rest → bytes_at (n - length bytes) rest ≡ ([], rest) → bytes_at n text ≡ (bytes, rest)
plain_all n bytes text rest all le is none = many_done _ _ _ (bytes_at (n - length bytes) rest) none (ap (λ (t : List ℕ). bytes_at n t) is ∙ plain_read bytes rest n all le)
