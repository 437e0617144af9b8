-- Leaves of expressions that are read are spelled so, and those that are spelled are read again.
use Rattle.std.proofs.Common.{◌≡◌, ℕ, zero, suc, ◌+◌, ◌-◌, ◌<◌, ◌≤◌, ◌^◌, Bool, true, false, eqb, ◌&&◌, ◌||◌, nat_le, List, [], ◌∷◌, ◌++◌, length, refl, sym, ap, subst, ◌∙◌, arith, Option, Some, ℤ, decimal}
use Rattle.std.proofs.lemmas.Bool.Decides.{nat_tests}
use Rattle.std.proofs.lemmas.Bool.{eqb-true}
use Rattle.std.proofs.lemmas.List.{append-nil, length-append}
use Rattle.std.specs.Fmt.{signed_decimal}
use Rattle.std.proofs.lemmas.Fmt.{decimal_digit}
use lib.Signed.{mag}
use Rattle.khepri_terms.specs.Terms.{NameText}
use Rattle.khepri_terms.specs.Many.{◌>>=◌}
use Rattle.khepri_terms.specs.Bytes.{is_plain, byte_text, bytes_text, bytes_at, byte_at, AreBytes}
use Rattle.khepri_terms.specs.Names.{comp_text, Stops}
use Rattle.khepri_terms.specs.Numbers.{is_digit, int_at}
use Rattle.khepri_terms.specs.Paths.{path_text, path_at, IsPath, Ends}
use Rattle.khepri_terms.specs.Records.{rec_text, rec_at, IsRec}
use Rattle.khepri_terms.proofs.Cases.{bind_some, guard_some, some_is, or_false}
use Rattle.khepri_terms.proofs.Reading.{ahead, many-end}
use Rattle.khepri_terms.proofs.BytesLaws.{byte_text-plain, byte_text-other, bytes_takes, bytes_again}
use Rattle.khepri_terms.proofs.NamesLaws.{comp_again, stops_none}
use Rattle.khepri_terms.proofs.NumbersLaws.{Halts, int_takes, int_again}
use Rattle.khepri_terms.proofs.PathsLaws.{path_takes, path_again}
use Rattle.khepri_terms.proofs.RecordsLaws.{rec_takes, rec_again}
use Rattle.khepri_types.specs.declared.register.Register.{Register}
use Rattle.khepri_types.specs.declared.register.Register.TheVariants as register
use Rattle.khepri_types.specs.ConditionTexts.{condition_text, IsCondition, IsKey}
use Rattle.khepri_types.specs.PatternTexts.{pattern_text, IsPattern, EndsPattern}
use Rattle.khepri_types.specs.ReadingConditions.{as_key, key_at, condition_at, pattern_at}
use Rattle.khepri_types.specs.ReadingScripts.{register_of, register_at, quoted_at}
use Rattle.khepri_types.specs.ScriptTexts.{register_text, quoted, IsRegister}
use Rattle.khepri_types.proofs.Asking.{key_takes}
use Rattle.khepri_types.proofs.ItemLaws.{Plainly, Anything}
use Rattle.khepri_types.proofs.PatternSpelling.{condition_takes, condition_again, pattern_takes, pattern_again}
use Rattle.khepri_types.proofs.Word.{if_read}

-- ---- what may follow

pub ends_stops : (rest : List ℕ) → Ends rest → Stops rest
ends_stops [] e = tt
ends_stops (b ∷ rest) e =
    let p = or_false (is_plain b || eqb b 37 || eqb b 47) (eqb b 58) e in
    let q = or_false (is_plain b || eqb b 37) (eqb b 47) p.0 in
    let r = or_false (is_plain b) (eqb b 37) q.0 in
    rw (r.0, r.1) refl

digit_plain : (b : ℕ) → is_plain b ≡ false → is_digit b ≡ false
unfolding is_plain
digit_plain b p = grind (arith, nat_tests)

ends_halts : (rest : List ℕ) → Ends rest → Halts rest
ends_halts [] e = tt
ends_halts (b ∷ rest) e =
    let p = or_false (is_plain b || eqb b 37 || eqb b 47) (eqb b 58) e in
    let q = or_false (is_plain b || eqb b 37) (eqb b 47) p.0 in
    digit_plain b (or_false (is_plain b) (eqb b 37) q.0).0

pub comma_ends : (rest : List ℕ) → Ends (44 ∷ rest)
unfolding is_plain
comma_ends rest = refl

pub close_ends : (rest : List ℕ) → Ends (41 ∷ rest)
unfolding is_plain
close_ends rest = refl

pub close_ends_pattern : (rest : List ℕ) → EndsPattern (41 ∷ rest)
unfolding is_plain
close_ends_pattern rest = refl

-- ---- the parts of forms

abbrev pub IsInt : ℤ → Type 0
IsInt z = mag z < 2 ^ 63

pub int_spells : Plainly int_at signed_decimal IsInt Ends
int_spells = record { takes = int_takes; again = λ z rest is fine. int_again z rest is (ends_halts rest fine) }

pub path_spells : Plainly path_at path_text IsPath Ends
path_spells = record { takes = path_takes; again = path_again }

pub rec_spells : Plainly rec_at rec_text IsRec Ends
rec_spells = record { takes = rec_takes; again = λ f rest is fine. rec_again f rest is }

pub condition_spells : Plainly condition_at condition_text IsCondition Anything
condition_spells = record { takes = condition_takes; again = λ c rest is fine. condition_again c rest is }

pub pattern_spells : Plainly pattern_at pattern_text IsPattern EndsPattern
pattern_spells = record { takes = pattern_takes; again = pattern_again }

key_reads : (n : NameText) (rest : List ℕ) → IsKey n → Ends rest → key_at (comp_text n ++ rest) ≡ Some (n, rest)
unfolding key_at
key_reads n rest is fine =
    ap (λ (o : Option (NameText × List ℕ)). o >>= λ name. as_key name name.0.kind) (comp_again n rest is.1 (ends_stops rest fine))
    ∙ ap (as_key (n, rest)) is.0

pub key_spells : Plainly key_at comp_text IsKey Ends
key_spells = record { takes = key_takes; again = key_reads }

-- ---- texts

byte_long : (b : ℕ) (v : Bool) → is_plain b ≡ v → 1 ≤ length (byte_text b)
byte_long b true p = let e = byte_text-plain b p in omega (arith, ap length e)
byte_long b false p = let e = byte_text-other b p in omega (arith, ap length e)

bytes_long : (bytes : List ℕ) → length bytes ≤ length (bytes_text bytes)
bytes_long [] = omega arith
bytes_long (b ∷ bytes) = omega (arith, byte_long b (is_plain b) refl, bytes_long bytes, length-append (byte_text b) (bytes_text bytes))

quoted_takes : (t : List ℕ) (x : List ℕ × List ℕ) → quoted_at t ≡ Some x → (t ≡ quoted x.0 ++ x.1) × AreBytes x.0
unfolding quoted_at
quoted_takes [] x e = absurd cc
quoted_takes (b ∷ t) x e =
    let g = guard_some (eqb b 39) (Some (bytes_at (length t) t)) x e in
    let w = bytes_takes (length t) t in
    subst (λ (y : List ℕ × List ℕ). (b ∷ t ≡ quoted y.0 ++ y.1) × AreBytes y.0) (some_is (bytes_at (length t) t) x g.1)
    ((λ i. eqb-true b 39 g.0 i ∷ w.parts i), w.all)

quoted_reads : (bytes rest : List ℕ) → AreBytes bytes → Ends rest → quoted_at (quoted bytes ++ rest) ≡ Some (bytes, rest)
unfolding quoted_at
quoted_reads bytes rest is fine =
    let t : List ℕ = bytes_text bytes ++ rest in
    let n : ℕ = length t - length bytes in
    let m : length t ≡ length bytes + n = omega (arith, bytes_long bytes, length-append (bytes_text bytes) rest) in
    ap Some (bytes_again bytes (length t) n rest is m
    ∙ (ap (λ (f : List ℕ × List ℕ). ahead bytes f) (many-end byte_at n rest (stops_none rest (ends_stops rest fine)))
    ∙ ap (λ (v : List ℕ). (v, rest)) (append-nil bytes)))

pub quoted_spells : Plainly quoted_at quoted AreBytes Ends
quoted_spells = record { takes = quoted_takes; again = quoted_reads }

-- ---- registers

digit_reads_of : (b n : ℕ) (rest : List ℕ) → n < 8 → register_at (b ∷ (48 + n) ∷ rest) ≡ (register_of b n >>= λ reg. Some (reg, rest))
unfolding register_at
digit_reads_of b zero rest h = refl
digit_reads_of b (suc zero) rest h = refl
digit_reads_of b (suc (suc zero)) rest h = refl
digit_reads_of b (suc (suc (suc zero))) rest h = refl
digit_reads_of b (suc (suc (suc (suc zero)))) rest h = refl
digit_reads_of b (suc (suc (suc (suc (suc zero))))) rest h = refl
digit_reads_of b (suc (suc (suc (suc (suc (suc zero)))))) rest h = refl
digit_reads_of b (suc (suc (suc (suc (suc (suc (suc zero))))))) rest h = refl
digit_reads_of b (suc (suc (suc (suc (suc (suc (suc (suc n)))))))) rest h = absurd (omega (arith, h))

digit_reads : (b n : ℕ) (rest : List ℕ) → n < 8 → register_at (b ∷ (decimal n ++ rest)) ≡ (register_of b n >>= λ reg. Some (reg, rest))
digit_reads b n rest h = ap (λ (ds : List ℕ). register_at (b ∷ (ds ++ rest))) (decimal_digit n (omega (arith, h))) ∙ digit_reads_of b n rest h

register_reads : (reg : Register) (rest : List ℕ) → IsRegister reg → Ends rest → register_at (register_text reg ++ rest) ≡ Some (reg, rest)
unfolding register_text
register_reads (register.Int n) rest is fine = digit_reads 105 n rest is
register_reads (register.Text n) rest is fine = digit_reads 116 n rest is
register_reads (register.Path n) rest is fine = digit_reads 112 n rest is
register_reads (register.Rec n) rest is fine = digit_reads 100 n rest is

register_named : (b n : ℕ) (reg : Register) → register_of b n ≡ Some reg → (register_text reg ≡ b ∷ decimal n) × (n < 8 → IsRegister reg)
unfolding register_text
register_named b n reg e =
    if_read (eqb b 105) _ _ reg e (λ h e. subst (λ (r : Register). (register_text r ≡ b ∷ decimal n) × (n < 8 → IsRegister r)) (some_is (register.Int n) reg e) (ap (λ (k : ℕ). k ∷ decimal n) (sym (eqb-true b 105 h)), λ k. k)) (λ e.
    if_read (eqb b 116) _ _ reg e (λ h e. subst (λ (r : Register). (register_text r ≡ b ∷ decimal n) × (n < 8 → IsRegister r)) (some_is (register.Text n) reg e) (ap (λ (k : ℕ). k ∷ decimal n) (sym (eqb-true b 116 h)), λ k. k)) (λ e.
    if_read (eqb b 112) _ _ reg e (λ h e. subst (λ (r : Register). (register_text r ≡ b ∷ decimal n) × (n < 8 → IsRegister r)) (some_is (register.Path n) reg e) (ap (λ (k : ℕ). k ∷ decimal n) (sym (eqb-true b 112 h)), λ k. k)) (λ e.
    if_read (eqb b 100) _ _ reg e (λ h e. subst (λ (r : Register). (register_text r ≡ b ∷ decimal n) × (n < 8 → IsRegister r)) (some_is (register.Rec n) reg e) (ap (λ (k : ℕ). k ∷ decimal n) (sym (eqb-true b 100 h)), λ k. k)) (λ e. absurd cc))))

register_takes : (t : List ℕ) (x : Register × List ℕ) → register_at t ≡ Some x → (t ≡ register_text x.0 ++ x.1) × IsRegister x.0
unfolding register_at
register_takes [] x e = absurd cc
register_takes (b ∷ []) x e = absurd cc
register_takes (b ∷ d ∷ t) x e =
    let g = guard_some (nat_le 48 d && nat_le d 55) (register_of b (d - 48) >>= λ reg. Some (reg, t)) x e in
    let r = bind_some (register_of b (d - 48)) (λ reg. Some (reg, t)) x g.1 in
    let low : 48 ≤ d = grind (arith, nat_tests) in
    let high : d - 48 < 8 = grind (arith, nat_tests) in
    let back : 48 + (d - 48) ≡ d = omega (arith, low) in
    let digits : decimal (d - 48) ≡ d ∷ [] = decimal_digit (d - 48) (omega (arith, high)) ∙ ap (λ (k : ℕ). k ∷ []) back in
    let named = register_named b (d - 48) r.0 r.1 in
    let text : register_text r.0 ≡ b ∷ d ∷ [] = named.0 ∙ ap (λ (s : List ℕ). b ∷ s) digits in
    subst (λ (y : Register × List ℕ). (b ∷ d ∷ t ≡ register_text y.0 ++ y.1) × IsRegister y.0) (some_is (r.0, t) x r.2)
    (ap (λ (s : List ℕ). s ++ t) (sym text), named.1 high)

pub register_spells : Plainly register_at register_text IsRegister Ends
register_spells = record { takes = register_takes; again = register_reads }
