use Rattle.std.proofs.Common.{◌≡◌, ℕ, true, false, List, drop, sym, ap, ◌∙◌, codes, Some, None}
use Rattle.std.proofs.lemmas.Bool.{cond-true, cond-false}
use Rattle.khepri_types.specs.Words.{begins}
use Rattle.khepri_types.specs.declared.script_words.OneWord.TheVariants.{Data, Pv, Cv, Kids, Last, Not}
use Rattle.khepri_types.specs.ReadingScripts.{one_word_at}
use Rattle.script_text.proofs.words.one_word.Goals as goal

data_read : (text rest : List ℕ) → begins (codes "data(") text ≡ true → rest ≡ drop 5 text → one_word_at text ≡ Some (Data, rest)
unfolding one_word_at
data_read text rest e is = cond-true _ _ _ e ∙ ap (λ (r : List ℕ). Some (Data, r)) (sym is)

pv_read : (text rest : List ℕ) → begins (codes "data(") text ≡ false → begins (codes "pv(") text ≡ true → rest ≡ drop 3 text → one_word_at text ≡ Some (Pv, rest)
unfolding one_word_at
pv_read text rest n0 e is = cond-false _ _ _ n0 ∙ (cond-true _ _ _ e ∙ ap (λ (r : List ℕ). Some (Pv, r)) (sym is))

cv_read : (text rest : List ℕ) → begins (codes "data(") text ≡ false → begins (codes "pv(") text ≡ false → begins (codes "cv(") text ≡ true → rest ≡ drop 3 text → one_word_at text ≡ Some (Cv, rest)
unfolding one_word_at
cv_read text rest n0 n1 e is = cond-false _ _ _ n0 ∙ (cond-false _ _ _ n1 ∙ (cond-true _ _ _ e ∙ ap (λ (r : List ℕ). Some (Cv, r)) (sym is)))

kids_read : (text rest : List ℕ) → begins (codes "data(") text ≡ false → begins (codes "pv(") text ≡ false → begins (codes "cv(") text ≡ false → begins (codes "kids(") text ≡ true → rest ≡ drop 5 text → one_word_at text ≡ Some (Kids, rest)
unfolding one_word_at
kids_read text rest n0 n1 n2 e is = cond-false _ _ _ n0 ∙ (cond-false _ _ _ n1 ∙ (cond-false _ _ _ n2 ∙ (cond-true _ _ _ e ∙ ap (λ (r : List ℕ). Some (Kids, r)) (sym is))))

last_read : (text rest : List ℕ) → begins (codes "data(") text ≡ false → begins (codes "pv(") text ≡ false → begins (codes "cv(") text ≡ false → begins (codes "kids(") text ≡ false → begins (codes "last(") text ≡ true → rest ≡ drop 5 text → one_word_at text ≡ Some (Last, rest)
unfolding one_word_at
last_read text rest n0 n1 n2 n3 e is = cond-false _ _ _ n0 ∙ (cond-false _ _ _ n1 ∙ (cond-false _ _ _ n2 ∙ (cond-false _ _ _ n3 ∙ (cond-true _ _ _ e ∙ ap (λ (r : List ℕ). Some (Last, r)) (sym is)))))

not_read : (text rest : List ℕ) → begins (codes "data(") text ≡ false → begins (codes "pv(") text ≡ false → begins (codes "cv(") text ≡ false → begins (codes "kids(") text ≡ false → begins (codes "last(") text ≡ false → begins (codes "not(") text ≡ true → rest ≡ drop 4 text → one_word_at text ≡ Some (Not, rest)
unfolding one_word_at
not_read text rest n0 n1 n2 n3 n4 e is = cond-false _ _ _ n0 ∙ (cond-false _ _ _ n1 ∙ (cond-false _ _ _ n2 ∙ (cond-false _ _ _ n3 ∙ (cond-false _ _ _ n4 ∙ (cond-true _ _ _ e ∙ ap (λ (r : List ℕ). Some (Not, r)) (sym is))))))

none_read : (text : List ℕ) → begins (codes "data(") text ≡ false → begins (codes "pv(") text ≡ false → begins (codes "cv(") text ≡ false → begins (codes "kids(") text ≡ false → begins (codes "last(") text ≡ false → begins (codes "not(") text ≡ false → one_word_at text ≡ None
unfolding one_word_at
none_read text n0 n1 n2 n3 n4 n5 = cond-false _ _ _ n0 ∙ (cond-false _ _ _ n1 ∙ (cond-false _ _ _ n2 ∙ (cond-false _ _ _ n3 ∙ (cond-false _ _ _ n4 ∙ (cond-false _ _ _ n5)))))

pub returns-in-Some : goal.returns-in-Some
returns-in-Some c = data_read c.args.text.now c.in-Some.rest.now c.in-Some.ensures.0 c.in-Some.ensures.1

pub returns-in-Some-strip : goal.returns-in-Some-strip
returns-in-Some-strip c = pv_read c.args.text.now c.in-Some-strip.rest.now c.in_default.ensures c.in-Some-strip.ensures.0 c.in-Some-strip.ensures.1

pub returns-in-Some-strip-2 : goal.returns-in-Some-strip-2
returns-in-Some-strip-2 c = cv_read c.args.text.now c.in-Some-strip-2.rest.now c.in_default.ensures c.in_default-strip.ensures c.in-Some-strip-2.ensures.0 c.in-Some-strip-2.ensures.1

pub returns-in-Some-strip-3 : goal.returns-in-Some-strip-3
returns-in-Some-strip-3 c = kids_read c.args.text.now c.in-Some-strip-3.rest.now c.in_default.ensures c.in_default-strip.ensures c.in_default-strip-2.ensures c.in-Some-strip-3.ensures.0 c.in-Some-strip-3.ensures.1

pub returns-in-Some-strip-4 : goal.returns-in-Some-strip-4
returns-in-Some-strip-4 c = last_read c.args.text.now c.in-Some-strip-4.rest.now c.in_default.ensures c.in_default-strip.ensures c.in_default-strip-2.ensures c.in_default-strip-3.ensures c.in-Some-strip-4.ensures.0 c.in-Some-strip-4.ensures.1

pub returns-in-Some-strip-5 : goal.returns-in-Some-strip-5
returns-in-Some-strip-5 c = not_read c.args.text.now c.in-Some-strip-5.rest.now c.in_default.ensures c.in_default-strip.ensures c.in_default-strip-2.ensures c.in_default-strip-3.ensures c.in_default-strip-4.ensures c.in-Some-strip-5.ensures.0 c.in-Some-strip-5.ensures.1

pub returns : goal.returns
returns c = none_read c.args.text.now c.in_default.ensures c.in_default-strip.ensures c.in_default-strip-2.ensures c.in_default-strip-3.ensures c.in_default-strip-4.ensures c.in_default-strip-5.ensures
