-- What is read of numbers is spelled so, and what is spelled so is read.
use Rattle.std.proofs.Common.{◌≡◌, ℕ, zero, suc, ◌+◌, ◌*◌, ◌-◌, ◌^◌, ◌<◌, ◌≤◌, true, false, cond, eqb, leb, ⊎_elim, List, [], ◌∷◌, ◌++◌, length, get_or, ℤ, pos, negsuc, refl, sym, ap, subst, ◌∙◌, arith, rules, Option, Some, None}
use Rattle.std.proofs.lemmas.Bool.Decides.{nat_tests}
use Rattle.std.proofs.lemmas.Bool.{eqb-true, cond-true, cond-false, le-leb}
use Rattle.std.proofs.lemmas.Str.Parse.{IsNumeralModel, numerals_by_fold}
use Rattle.std.proofs.lemmas.Fmt.{digits_decimal, digits_value-decimal, decimal-digits_value, decimal_digit, first_decimal, decimal_nonempty}
use Rattle.std.specs.List.{AllByRecursion}
use Rattle.std.specs.Fmt.{decimal, signed_decimal}
use lib.Signed.{mag}
use Rattle.khepri_terms.specs.Numbers.{is_digit, number_from, number_at, risen, sunken, int_at}
use Rattle.khepri_terms.proofs.Cases.{if_some, guard_some, some_is}

abbrev pub AreDigits : List ℕ → Type 0
AreDigits ds = AllByRecursion (λ b. is_digit b ≡ true) ds

-- the number so far and the digits
abbrev pub value : ℕ → List ℕ → ℕ
value n [] = n
value n (b ∷ ds) = value (10 * n + (b - 48)) ds

own : IsNumeralModel AreDigits (value 0)
own = numerals_by_fold AreDigits (search rules) value (search rules)

pub value_grows : (n : ℕ) (ds : List ℕ) → n ≤ value n ds
value_grows n [] = omega arith
value_grows n (b ∷ ds) = omega (arith, value_grows (10 * n + (b - 48)) ds)

-- what follows a number is no digit
abbrev pub Halts : List ℕ → Type 0
Halts [] = Unit {0}
Halts (b ∷ rest) = is_digit b ≡ false

pub record Counted (n greatest : ℕ) (text : List ℕ) (x : ℕ × List ℕ) : Type 0 where
  pub digits : List ℕ
  pub parts : text ≡ digits ++ x.1
  pub all : AreDigits digits
  pub is : x.0 ≡ value n digits
  pub high : n ≤ greatest → x.0 ≤ greatest

pub number_takes_from : (greatest n : ℕ) (text : List ℕ) (x : ℕ × List ℕ) → number_from greatest n text ≡ Some x → Counted n greatest text x
unfolding number_from
number_takes_from greatest n [] x e =
    subst (Counted n greatest []) (some_is (n, []) x e) (record { digits = []; parts = refl; all = tt; is = refl; high = λ h. h })
number_takes_from greatest n (b ∷ text) x e =
    ⊎_elim
    (λ (p : (is_digit b ≡ true) × (cond (leb (10 * n + (b - 48)) greatest) (number_from greatest (10 * n + (b - 48)) text) None ≡ Some x)).
    let q = guard_some (leb (10 * n + (b - 48)) greatest) (number_from greatest (10 * n + (b - 48)) text) x p.1 in
    let r = number_takes_from greatest (10 * n + (b - 48)) text x q.1 in
    let le : 10 * n + (b - 48) ≤ greatest = grind (arith, nat_tests) in
    record { digits = b ∷ r.digits; parts = ap (λ (t : List ℕ). b ∷ t) r.parts; all = (p.0, r.all); is = r.is; high = λ _. r.high le })
    (λ (p : (is_digit b ≡ false) × (Some (n, b ∷ text) ≡ Some x)).
    subst (Counted n greatest (b ∷ text)) (some_is (n, b ∷ text) x p.1) (record { digits = []; parts = refl; all = tt; is = refl; high = λ h. h }))
    (if_some (is_digit b) (cond (leb (10 * n + (b - 48)) greatest) (number_from greatest (10 * n + (b - 48)) text) None) (Some (n, b ∷ text)) x e)

pub number_again_from : (greatest n : ℕ) (ds rest : List ℕ) → AreDigits ds → value n ds ≤ greatest → Halts rest → number_from greatest n (ds ++ rest) ≡ Some (value n ds, rest)
unfolding number_from
number_again_from greatest n [] [] all le h = refl
number_again_from greatest n [] (b ∷ rest) all le h = cond-false _ _ _ h
number_again_from greatest n (b ∷ ds) rest all le h =
    let grows = value_grows (10 * n + (b - 48)) ds in
    let step : 10 * n + (b - 48) ≤ greatest = omega arith in
    cond-true _ _ _ all.0 ∙ (cond-true _ _ _ (le-leb _ _ step) ∙ number_again_from greatest (10 * n + (b - 48)) ds rest all.1 le h)

digit_takes : (greatest b : ℕ) (text : List ℕ) (x : ℕ × List ℕ) → greatest < 2 ^ 64 → 9 ≤ greatest → eqb b 48 ≡ false → is_digit b ≡ true → number_from greatest (b - 48) text ≡ Some x
    → (b ∷ text ≡ decimal x.0 ++ x.1) × (x.0 ≤ greatest)
digit_takes greatest b text x small nine zero-not digit e =
    let c = number_takes_from greatest (b - 48) text x e in
    let start : 10 * 0 + (b - 48) ≡ b - 48 = omega arith in
    let le : b - 48 ≤ greatest = grind (arith, nat_tests) in
    let high : x.0 ≤ greatest = c.high le in
    let whole : value 0 (b ∷ c.digits) ≡ x.0 = ap (λ (n : ℕ). value n c.digits) start ∙ sym c.is in
    let not-zero : b ≡ 48 → length (b ∷ c.digits) ≡ 1 = λ is. absurd (grind (arith, nat_tests)) in
    let is : decimal (value 0 (b ∷ c.digits)) ≡ b ∷ c.digits = decimal-digits_value own (b ∷ c.digits) (digit, c.all) (omega arith) not-zero (omega (arith, whole)) in
    (ap (λ (t : List ℕ). b ∷ t) c.parts ∙ ap (λ (t : List ℕ). t ++ x.1) (sym is ∙ ap decimal whole), high)

pub number_takes : (greatest : ℕ) (text : List ℕ) (x : ℕ × List ℕ) → greatest < 2 ^ 64 → 9 ≤ greatest → number_at greatest text ≡ Some x → (text ≡ decimal x.0 ++ x.1) × (x.0 ≤ greatest)
unfolding number_at
number_takes greatest [] x small nine e = absurd cc
number_takes greatest (b ∷ text) x small nine e =
    ⊎_elim
    (λ (p : (eqb b 48 ≡ true) × (Some (0, text) ≡ Some x)).
    subst (λ (y : ℕ × List ℕ). (b ∷ text ≡ decimal y.0 ++ y.1) × (y.0 ≤ greatest)) (some_is (0, text) x p.1)
    (ap (λ (n : ℕ). n ∷ text) (eqb-true b 48 p.0) ∙ ap (λ (t : List ℕ). t ++ text) (sym (decimal_digit 0 (omega arith))), omega arith))
    (λ (p : (eqb b 48 ≡ false) × (cond (is_digit b) (number_from greatest (b - 48) text) None ≡ Some x)).
    let q = guard_some (is_digit b) (number_from greatest (b - 48) text) x p.1 in
    digit_takes greatest b text x small nine p.0 q.0 q.1)
    (if_some (eqb b 48) (Some (0, text)) (cond (is_digit b) (number_from greatest (b - 48) text) None) x e)

digits_again : (greatest n : ℕ) (ds rest : List ℕ) → AreDigits ds → value 0 ds ≡ n → n ≤ greatest → 0 < length ds → 48 < get_or ds 0 0 → Halts rest → number_at greatest (ds ++ rest) ≡ Some (n, rest)
unfolding number_at
digits_again greatest n [] rest all is le low first h = absurd (omega arith)
digits_again greatest n (b ∷ ds) rest all is le low first h =
    let not-zero : eqb b 48 ≡ false = grind (arith, nat_tests) in
    let start : b - 48 ≡ 10 * 0 + (b - 48) = omega arith in
    let whole : value (b - 48) ds ≡ n = ap (λ (k : ℕ). value k ds) start ∙ is in
    cond-false _ _ _ not-zero ∙ (cond-true _ _ _ all.0 ∙ (number_again_from greatest (b - 48) ds rest all.1 (omega (arith, whole)) h ∙ ap (λ (k : ℕ). Some (k, rest)) whole))

zero_again : (greatest : ℕ) (rest : List ℕ) → number_at greatest (48 ∷ rest) ≡ Some (0, rest)
unfolding number_at
zero_again greatest rest = refl

pub number_again : (greatest n : ℕ) (rest : List ℕ) → n ≤ greatest → n < 2 ^ 64 → Halts rest → number_at greatest (decimal n ++ rest) ≡ Some (n, rest)
number_again greatest zero rest le small h = ap (λ (t : List ℕ). number_at greatest (t ++ rest)) (decimal_digit 0 (omega arith)) ∙ zero_again greatest rest
number_again greatest (suc n) rest le small h =
    digits_again greatest (suc n) (decimal (suc n)) rest (digits_decimal own (suc n) small) (digits_value-decimal own (suc n) small) le (decimal_nonempty (suc n) small) (first_decimal (suc n) (omega arith) small) h

risen_takes : (o : Option (ℕ × List ℕ)) (x : ℤ × List ℕ) → risen o ≡ Some x → (y : ℕ × List ℕ) × (o ≡ Some y) × ((pos y.0, y.1) ≡ x)
risen_takes None x e = absurd cc
risen_takes (Some (n, rest)) x e = ((n, rest), refl, some_is (pos n, rest) x e)

sunken_takes : (o : Option (ℕ × List ℕ)) (x : ℤ × List ℕ) → sunken o ≡ Some x → (n : ℕ) × (rest : List ℕ) × (o ≡ Some (suc n, rest)) × ((negsuc n, rest) ≡ x)
sunken_takes None x e = absurd cc
sunken_takes (Some (zero, rest)) x e = absurd cc
sunken_takes (Some (suc n, rest)) x e = (n, rest, refl, some_is (negsuc n, rest) x e)

pub int_takes : (text : List ℕ) (x : ℤ × List ℕ) → int_at text ≡ Some x → (text ≡ signed_decimal x.0 ++ x.1) × (mag x.0 < 2 ^ 63)
unfolding int_at
int_takes [] x e = absurd cc
int_takes (b ∷ text) x e =
    ⊎_elim
    (λ (p : (eqb b 45 ≡ true) × (sunken (number_at (2 ^ 63) text) ≡ Some x)).
    let s = sunken_takes (number_at (2 ^ 63) text) x p.1 in
    let t = number_takes (2 ^ 63) text (suc s.0, s.1) (omega arith) (omega arith) s.2 in
    subst (λ (y : ℤ × List ℕ). (b ∷ text ≡ signed_decimal y.0 ++ y.1) × (mag y.0 < 2 ^ 63)) s.3 ((λ i. eqb-true b 45 p.0 i ∷ t.0 i), omega (arith, t.1)))
    (λ (p : (eqb b 45 ≡ false) × (risen (number_at (2 ^ 63 - 1) (b ∷ text)) ≡ Some x)).
    let s = risen_takes (number_at (2 ^ 63 - 1) (b ∷ text)) x p.1 in
    let t = number_takes (2 ^ 63 - 1) (b ∷ text) s.0 (omega arith) (omega arith) s.1 in
    subst (λ (y : ℤ × List ℕ). (b ∷ text ≡ signed_decimal y.0 ++ y.1) × (mag y.0 < 2 ^ 63)) s.2 (t.0, omega (arith, t.1)))
    (if_some (eqb b 45) (sunken (number_at (2 ^ 63) text)) (risen (number_at (2 ^ 63 - 1) (b ∷ text))) x e)

minus_is_none : (greatest : ℕ) (text : List ℕ) → number_at greatest (45 ∷ text) ≡ None
unfolding number_at
minus_is_none greatest text = refl

nothing_counted : number_at (2 ^ 63 - 1) [] ≡ None
unfolding number_at
nothing_counted = refl

number_is_int : (text : List ℕ) (x : ℕ × List ℕ) → number_at (2 ^ 63 - 1) text ≡ Some x → int_at text ≡ Some (pos x.0, x.1)
unfolding int_at
number_is_int [] x e = let n = nothing_counted in absurd cc
number_is_int (b ∷ text) x e =
    let no-minus : eqb b 45 ≡ false = elim (eqb b 45) as (λ v. eqb b 45 ≡ v → v ≡ false) [
      | true ↦ λ p. let n : number_at (2 ^ 63 - 1) (b ∷ text) ≡ None = ap (λ (k : ℕ). number_at (2 ^ 63 - 1) (k ∷ text)) (eqb-true b 45 p) ∙ minus_is_none (2 ^ 63 - 1) text in absurd cc
      | false ↦ λ p. refl
    ] refl in
    cond-false _ _ _ no-minus ∙ ap risen e

minus_is_int : (text : List ℕ) → int_at (45 ∷ text) ≡ sunken (number_at (2 ^ 63) text)
unfolding int_at
minus_is_int text = refl

pub int_again : (z : ℤ) (rest : List ℕ) → mag z < 2 ^ 63 → Halts rest → int_at (signed_decimal z ++ rest) ≡ Some (z, rest)
int_again (pos n) rest small h = number_is_int (decimal n ++ rest) (n, rest) (number_again (2 ^ 63 - 1) n rest (omega arith) (omega arith) h)
int_again (negsuc n) rest small h =
    minus_is_int (decimal (suc n) ++ rest) ∙ ap sunken (number_again (2 ^ 63) (suc n) rest (omega arith) (omega arith) h)
