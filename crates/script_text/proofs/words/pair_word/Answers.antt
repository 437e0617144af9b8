use Rattle.std.proofs.Common.{◌≡◌, ℕ, true, false, List, drop, sym, ap, ◌∙◌, codes, Some}
use Rattle.std.proofs.lemmas.Bool.{cond-true, cond-false}
use Rattle.khepri_types.specs.Words.{begins}
use Rattle.khepri_types.specs.declared.script_words.PairWord.TheVariants.{Add, Sub, Cat, Child, All, Any}
use Rattle.khepri_types.specs.ReadingScripts.{compare_word_at, pair_word_at}
use Rattle.std.proofs.lemmas.Result.{IfOk-weaker}
use Rattle.script_text.proofs.words.pair_word.Goals as goal

add_read : (text rest : List ℕ) → begins (codes "add(") text ≡ true → rest ≡ drop 4 text → pair_word_at text ≡ Some (Add, rest)
unfolding pair_word_at
add_read text rest e is = cond-true _ _ _ e ∙ ap (λ (r : List ℕ). Some (Add, r)) (sym is)

sub_read : (text rest : List ℕ) → begins (codes "add(") text ≡ false → begins (codes "sub(") text ≡ true → rest ≡ drop 4 text → pair_word_at text ≡ Some (Sub, rest)
unfolding pair_word_at
sub_read text rest n0 e is = cond-false _ _ _ n0 ∙ (cond-true _ _ _ e ∙ ap (λ (r : List ℕ). Some (Sub, r)) (sym is))

cat_read : (text rest : List ℕ) → begins (codes "add(") text ≡ false → begins (codes "sub(") text ≡ false → begins (codes "cat(") text ≡ true → rest ≡ drop 4 text → pair_word_at text ≡ Some (Cat, rest)
unfolding pair_word_at
cat_read text rest n0 n1 e is = cond-false _ _ _ n0 ∙ (cond-false _ _ _ n1 ∙ (cond-true _ _ _ e ∙ ap (λ (r : List ℕ). Some (Cat, r)) (sym is)))

child_read : (text rest : List ℕ) → begins (codes "add(") text ≡ false → begins (codes "sub(") text ≡ false → begins (codes "cat(") text ≡ false → begins (codes "child(") text ≡ true → rest ≡ drop 6 text → pair_word_at text ≡ Some (Child, rest)
unfolding pair_word_at
child_read text rest n0 n1 n2 e is = cond-false _ _ _ n0 ∙ (cond-false _ _ _ n1 ∙ (cond-false _ _ _ n2 ∙ (cond-true _ _ _ e ∙ ap (λ (r : List ℕ). Some (Child, r)) (sym is))))

all_read : (text rest : List ℕ) → begins (codes "add(") text ≡ false → begins (codes "sub(") text ≡ false → begins (codes "cat(") text ≡ false → begins (codes "child(") text ≡ false → begins (codes "all(") text ≡ true → rest ≡ drop 4 text → pair_word_at text ≡ Some (All, rest)
unfolding pair_word_at
all_read text rest n0 n1 n2 n3 e is = cond-false _ _ _ n0 ∙ (cond-false _ _ _ n1 ∙ (cond-false _ _ _ n2 ∙ (cond-false _ _ _ n3 ∙ (cond-true _ _ _ e ∙ ap (λ (r : List ℕ). Some (All, r)) (sym is)))))

any_read : (text rest : List ℕ) → begins (codes "add(") text ≡ false → begins (codes "sub(") text ≡ false → begins (codes "cat(") text ≡ false → begins (codes "child(") text ≡ false → begins (codes "all(") text ≡ false → begins (codes "any(") text ≡ true → rest ≡ drop 4 text → pair_word_at text ≡ Some (Any, rest)
unfolding pair_word_at
any_read text rest n0 n1 n2 n3 n4 e is = cond-false _ _ _ n0 ∙ (cond-false _ _ _ n1 ∙ (cond-false _ _ _ n2 ∙ (cond-false _ _ _ n3 ∙ (cond-false _ _ _ n4 ∙ (cond-true _ _ _ e ∙ ap (λ (r : List ℕ). Some (Any, r)) (sym is))))))

none_read : (text : List ℕ) → begins (codes "add(") text ≡ false → begins (codes "sub(") text ≡ false → begins (codes "cat(") text ≡ false → begins (codes "child(") text ≡ false → begins (codes "all(") text ≡ false → begins (codes "any(") text ≡ false → pair_word_at text ≡ compare_word_at text
unfolding pair_word_at
none_read text n0 n1 n2 n3 n4 n5 = cond-false _ _ _ n0 ∙ (cond-false _ _ _ n1 ∙ (cond-false _ _ _ n2 ∙ (cond-false _ _ _ n3 ∙ (cond-false _ _ _ n4 ∙ (cond-false _ _ _ n5)))))

pub returns-in-Some-clause-value : goal.returns-in-Some-clause-value
returns-in-Some-clause-value c = add_read c.args.text.now c.in-Some.rest.now c.in-Some.ensures.0 c.in-Some.ensures.1

pub returns-in-Some-strip-clause-value : goal.returns-in-Some-strip-clause-value
returns-in-Some-strip-clause-value c = sub_read c.args.text.now c.in-Some-strip.rest.now c.in_default.ensures c.in-Some-strip.ensures.0 c.in-Some-strip.ensures.1

pub returns-in-Some-strip-2-clause-value : goal.returns-in-Some-strip-2-clause-value
returns-in-Some-strip-2-clause-value c = cat_read c.args.text.now c.in-Some-strip-2.rest.now c.in_default.ensures c.in_default-strip.ensures c.in-Some-strip-2.ensures.0 c.in-Some-strip-2.ensures.1

pub returns-in-Some-strip-3-clause-value : goal.returns-in-Some-strip-3-clause-value
returns-in-Some-strip-3-clause-value c = child_read c.args.text.now c.in-Some-strip-3.rest.now c.in_default.ensures c.in_default-strip.ensures c.in_default-strip-2.ensures c.in-Some-strip-3.ensures.0 c.in-Some-strip-3.ensures.1

pub returns-in-Some-strip-4-clause-value : goal.returns-in-Some-strip-4-clause-value
returns-in-Some-strip-4-clause-value c = all_read c.args.text.now c.in-Some-strip-4.rest.now c.in_default.ensures c.in_default-strip.ensures c.in_default-strip-2.ensures c.in_default-strip-3.ensures c.in-Some-strip-4.ensures.0 c.in-Some-strip-4.ensures.1

pub returns-in-Some-strip-5-clause-value : goal.returns-in-Some-strip-5-clause-value
returns-in-Some-strip-5-clause-value c = any_read c.args.text.now c.in-Some-strip-5.rest.now c.in_default.ensures c.in_default-strip.ensures c.in_default-strip-2.ensures c.in_default-strip-3.ensures c.in_default-strip-4.ensures c.in-Some-strip-5.ensures.0 c.in-Some-strip-5.ensures.1

pub returns-clause-value : goal.returns-clause-value
returns-clause-value c = IfOk-weaker c.compare_word.result _ _ (λ x e. none_read c.args.text.now c.in_default.ensures c.in_default-strip.ensures c.in_default-strip-2.ensures c.in_default-strip-3.ensures c.in_default-strip-4.ensures c.in_default-strip-5.ensures ∙ e) c.compare_word.ensures.value

pub returns-clause-bad : goal.returns-clause-bad
returns-clause-bad c = λ e. none_read c.args.text.now c.in_default.ensures c.in_default-strip.ensures c.in_default-strip-2.ensures c.in_default-strip-3.ensures c.in_default-strip-4.ensures c.in_default-strip-5.ensures ∙ c.compare_word.ensures.bad e
