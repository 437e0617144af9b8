use Rattle.std.proofs.Common.{◌≡◌, ℕ, true, false, List, drop, sym, ap, ◌∙◌, codes, Some, None}
use Rattle.std.proofs.lemmas.Bool.{cond-true, cond-false}
use Rattle.khepri_types.specs.Words.{begins}
use Rattle.khepri_types.specs.declared.script_words.ExprWord.TheVariants.{Int, Text, With, Test}
use Rattle.khepri_types.specs.ReadingScripts.{field_word_at}
use Rattle.script_text.proofs.words.field_word.Goals as goal

int_read : (text rest : List ℕ) → begins (codes "int(") text ≡ true → rest ≡ drop 4 text → field_word_at text ≡ Some (Int, rest)
unfolding field_word_at
int_read text rest e is = cond-true _ _ _ e ∙ ap (λ (r : List ℕ). Some (Int, r)) (sym is)

text_read : (text rest : List ℕ) → begins (codes "int(") text ≡ false → begins (codes "text(") text ≡ true → rest ≡ drop 5 text → field_word_at text ≡ Some (Text, rest)
unfolding field_word_at
text_read text rest n0 e is = cond-false _ _ _ n0 ∙ (cond-true _ _ _ e ∙ ap (λ (r : List ℕ). Some (Text, r)) (sym is))

with_read : (text rest : List ℕ) → begins (codes "int(") text ≡ false → begins (codes "text(") text ≡ false → begins (codes "with(") text ≡ true → rest ≡ drop 5 text → field_word_at text ≡ Some (With, rest)
unfolding field_word_at
with_read text rest n0 n1 e is = cond-false _ _ _ n0 ∙ (cond-false _ _ _ n1 ∙ (cond-true _ _ _ e ∙ ap (λ (r : List ℕ). Some (With, r)) (sym is)))

test_read : (text rest : List ℕ) → begins (codes "int(") text ≡ false → begins (codes "text(") text ≡ false → begins (codes "with(") text ≡ false → begins (codes "test(") text ≡ true → rest ≡ drop 5 text → field_word_at text ≡ Some (Test, rest)
unfolding field_word_at
test_read text rest n0 n1 n2 e is = cond-false _ _ _ n0 ∙ (cond-false _ _ _ n1 ∙ (cond-false _ _ _ n2 ∙ (cond-true _ _ _ e ∙ ap (λ (r : List ℕ). Some (Test, r)) (sym is))))

none_read : (text : List ℕ) → begins (codes "int(") text ≡ false → begins (codes "text(") text ≡ false → begins (codes "with(") text ≡ false → begins (codes "test(") text ≡ false → field_word_at text ≡ None
unfolding field_word_at
none_read text n0 n1 n2 n3 = cond-false _ _ _ n0 ∙ (cond-false _ _ _ n1 ∙ (cond-false _ _ _ n2 ∙ (cond-false _ _ _ n3)))

pub returns-in-Some : goal.returns-in-Some
returns-in-Some c = int_read c.args.text.now c.in-Some.rest.now c.in-Some.ensures.0 c.in-Some.ensures.1

pub returns-in-Some-strip : goal.returns-in-Some-strip
returns-in-Some-strip c = text_read c.args.text.now c.in-Some-strip.rest.now c.in_default.ensures c.in-Some-strip.ensures.0 c.in-Some-strip.ensures.1

pub returns-in-Some-strip-2 : goal.returns-in-Some-strip-2
returns-in-Some-strip-2 c = with_read c.args.text.now c.in-Some-strip-2.rest.now c.in_default.ensures c.in_default-strip.ensures c.in-Some-strip-2.ensures.0 c.in-Some-strip-2.ensures.1

pub returns-in-Some-strip-3 : goal.returns-in-Some-strip-3
returns-in-Some-strip-3 c = test_read c.args.text.now c.in-Some-strip-3.rest.now c.in_default.ensures c.in_default-strip.ensures c.in_default-strip-2.ensures c.in-Some-strip-3.ensures.0 c.in-Some-strip-3.ensures.1

pub returns : goal.returns
returns c = none_read c.args.text.now c.in_default.ensures c.in_default-strip.ensures c.in_default-strip-2.ensures c.in_default-strip-3.ensures
