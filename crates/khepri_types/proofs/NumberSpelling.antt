-- What is read of numbers is spelled so, and what is spelled so is read.
use Rattle.std.proofs.Common.{◌≡◌, ℕ, List, [], ◌∷◌, ◌++◌, length, drop, refl, sym, ap, subst, ◌∙◌, append_assoc, arith, Option, Some, None, codes, decimal}
use Rattle.std.proofs.lemmas.List.{append-nil}
use Rattle.khepri_terms.specs.Many.{◌>>=◌}
use Rattle.khepri_terms.specs.Numbers.{number_at}
use Rattle.khepri_terms.proofs.Cases.{bind_some, guard_some, some_is}
use Rattle.khepri_terms.proofs.NumbersLaws.{number_takes, number_again}
use Rattle.khepri_types.specs.declared.limits.TheConstants.{MAX_NUMBER}
use Rattle.khepri_types.specs.Ranges.{IsNumber}
use Rattle.khepri_types.specs.ReadingNumbers.{number_before, three_before, whole_number, spelled_number}
use Rattle.khepri_types.specs.Words.{begins, after_word}
use Rattle.khepri_types.proofs.Word.{word_takes}

-- four texts one after another
pub joined : (a b c d : List ℕ) → a ++ b ++ c ++ d ≡ a ++ (b ++ (c ++ d))
joined a b c d = append_assoc (a ++ b) c d ∙ append_assoc a b (c ++ d)

pub before_takes : (word text : List ℕ) (x : ℕ × List ℕ) → number_before word text ≡ Some x → (text ≡ decimal x.0 ++ (word ++ x.1)) × IsNumber x.0
unfolding number_before after_word
before_takes word text x e =
    let a = bind_some (number_at MAX_NUMBER text) (λ n. after_word word n.1 >>= λ rest. Some (n.0, rest)) x e in
    let b = bind_some (after_word word a.0.1) (λ rest. Some (a.0.0, rest)) x a.2 in
    let g = guard_some (begins word a.0.1) (Some (drop (length word) a.0.1)) b.0 b.1 in
    let w : a.0.1 ≡ word ++ b.0 = word_takes word a.0.1 g.0 ∙ ap (λ (t : List ℕ). word ++ t) (some_is (drop (length word) a.0.1) b.0 g.1) in
    let t = number_takes MAX_NUMBER text a.0 (omega arith) (omega arith) a.1 in
    subst (λ (y : ℕ × List ℕ). (text ≡ decimal y.0 ++ (word ++ y.1)) × IsNumber y.0) (some_is (a.0.0, b.0) x b.2) (t.0 ∙ ap (λ (r : List ℕ). decimal a.0.0 ++ r) w, t.1)

pub space_again : (n : ℕ) (rest : List ℕ) → IsNumber n → number_before (codes " ") (decimal n ++ 32 ∷ rest) ≡ Some (n, rest)
unfolding number_before after_word
space_again n rest le = ap (λ (o : Option (ℕ × List ℕ)). o >>= λ x. after_word (codes " ") x.1 >>= λ r. Some (x.0, r)) (number_again MAX_NUMBER n (32 ∷ rest) le (omega (arith, le)) refl)

pub at_again : (n : ℕ) (rest : List ℕ) → IsNumber n → number_before (codes " @") (decimal n ++ 32 ∷ 64 ∷ rest) ≡ Some (n, rest)
unfolding number_before after_word
at_again n rest le = ap (λ (o : Option (ℕ × List ℕ)). o >>= λ x. after_word (codes " @") x.1 >>= λ r. Some (x.0, r)) (number_again MAX_NUMBER n (32 ∷ 64 ∷ rest) le (omega (arith, le)) refl)

-- the text begins with three numbers and a space behind each
abbrev pub SpellsThree : List ℕ → ℕ × ℕ × ℕ × List ℕ → Type 0
SpellsThree text x = (text ≡ decimal x.0 ++ 32 ∷ (decimal x.1 ++ 32 ∷ (decimal x.2 ++ 32 ∷ x.3))) × (IsNumber x.0 × IsNumber x.1 × IsNumber x.2)

pub three_takes : (text : List ℕ) (x : ℕ × ℕ × ℕ × List ℕ) → three_before text ≡ Some x → SpellsThree text x
unfolding three_before
three_takes text x e =
    let a = bind_some (number_before (codes " ") text) (λ pv. number_before (codes " ") pv.1 >>= λ cv. number_before (codes " ") cv.1 >>= λ kids. Some (pv.0, cv.0, kids.0, kids.1)) x e in
    let b = bind_some (number_before (codes " ") a.0.1) (λ cv. number_before (codes " ") cv.1 >>= λ kids. Some (a.0.0, cv.0, kids.0, kids.1)) x a.2 in
    let c = bind_some (number_before (codes " ") b.0.1) (λ kids. Some (a.0.0, b.0.0, kids.0, kids.1)) x b.2 in
    let pv = before_takes (codes " ") text a.0 a.1 in
    let cv = before_takes (codes " ") a.0.1 b.0 b.1 in
    let kids = before_takes (codes " ") b.0.1 c.0 c.1 in
    subst (SpellsThree text) (some_is (a.0.0, b.0.0, c.0.0, c.0.1) x c.2)
    (pv.0 ∙ ap (λ (t : List ℕ). decimal a.0.0 ++ 32 ∷ t) (cv.0 ∙ ap (λ (t : List ℕ). decimal b.0.0 ++ 32 ∷ t) kids.0), (pv.1, cv.1, kids.1))

pub three_again : (pv cv kids : ℕ) (rest : List ℕ) → IsNumber pv → IsNumber cv → IsNumber kids → three_before (decimal pv ++ 32 ∷ (decimal cv ++ 32 ∷ (decimal kids ++ 32 ∷ rest))) ≡ Some (pv, cv, kids, rest)
unfolding three_before
three_again pv cv kids rest is-pv is-cv is-kids =
    ap (λ (o : Option (ℕ × List ℕ)). o >>= λ a. number_before (codes " ") a.1 >>= λ b. number_before (codes " ") b.1 >>= λ c. Some (a.0, b.0, c.0, c.1)) (space_again pv (decimal cv ++ 32 ∷ (decimal kids ++ 32 ∷ rest)) is-pv)
    ∙ (ap (λ (o : Option (ℕ × List ℕ)). o >>= λ b. number_before (codes " ") b.1 >>= λ c. Some (pv, b.0, c.0, c.1)) (space_again cv (decimal kids ++ 32 ∷ rest) is-cv)
    ∙ ap (λ (o : Option (ℕ × List ℕ)). o >>= λ c. Some (pv, cv, c.0, c.1)) (space_again kids rest is-kids))

pub whole_number_is : (o : Option (ℕ × List ℕ)) (n : ℕ) → whole_number o ≡ Some n → o ≡ Some (n, [])
whole_number_is None n e = absurd cc
whole_number_is (Some (m, [])) n e = ap (λ (k : ℕ). Some (k, [])) (some_is m n e)
whole_number_is (Some (m, b ∷ rest)) n e = absurd cc

pub spelled_number-takes : (text : List ℕ) (n : ℕ) → spelled_number text ≡ Some n → (text ≡ decimal n) × IsNumber n
unfolding spelled_number
spelled_number-takes text n e =
    let t = number_takes MAX_NUMBER text (n, []) (omega arith) (omega arith) (whole_number_is (number_at MAX_NUMBER text) n e) in
    (t.0 ∙ append-nil (decimal n), t.1)

pub spelled_number-again : (n : ℕ) → IsNumber n → spelled_number (decimal n) ≡ Some n
unfolding spelled_number
spelled_number-again n le = ap whole_number (ap (number_at MAX_NUMBER) (sym (append-nil (decimal n))) ∙ number_again MAX_NUMBER n [] le (omega (arith, le)) tt)
