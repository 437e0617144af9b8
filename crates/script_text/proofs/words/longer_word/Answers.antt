use Rattle.std.proofs.Common.{◌≡◌, ℕ, true, false, List, drop, sym, ap, ◌∙◌, codes, Some, None}
use Rattle.std.proofs.lemmas.Bool.{cond-true, cond-false}
use Rattle.khepri_types.specs.Words.{begins}
use Rattle.khepri_types.specs.declared.script_words.StatementWord.TheVariants.{Let, Put, Hold, If, Each}
use Rattle.khepri_types.specs.ReadingScripts.{longer_word_at}
use Rattle.script_text.proofs.words.longer_word.Goals as goal

let_read : (text rest : List ℕ) → begins (codes "let(") text ≡ true → rest ≡ drop 4 text → longer_word_at text ≡ Some (Let, rest)
unfolding longer_word_at
let_read text rest e is = cond-true _ _ _ e ∙ ap (λ (r : List ℕ). Some (Let, r)) (sym is)

put_read : (text rest : List ℕ) → begins (codes "let(") text ≡ false → begins (codes "put(") text ≡ true → rest ≡ drop 4 text → longer_word_at text ≡ Some (Put, rest)
unfolding longer_word_at
put_read text rest n0 e is = cond-false _ _ _ n0 ∙ (cond-true _ _ _ e ∙ ap (λ (r : List ℕ). Some (Put, r)) (sym is))

hold_read : (text rest : List ℕ) → begins (codes "let(") text ≡ false → begins (codes "put(") text ≡ false → begins (codes "hold(") text ≡ true → rest ≡ drop 5 text → longer_word_at text ≡ Some (Hold, rest)
unfolding longer_word_at
hold_read text rest n0 n1 e is = cond-false _ _ _ n0 ∙ (cond-false _ _ _ n1 ∙ (cond-true _ _ _ e ∙ ap (λ (r : List ℕ). Some (Hold, r)) (sym is)))

if_read : (text rest : List ℕ) → begins (codes "let(") text ≡ false → begins (codes "put(") text ≡ false → begins (codes "hold(") text ≡ false → begins (codes "if(") text ≡ true → rest ≡ drop 3 text → longer_word_at text ≡ Some (If, rest)
unfolding longer_word_at
if_read text rest n0 n1 n2 e is = cond-false _ _ _ n0 ∙ (cond-false _ _ _ n1 ∙ (cond-false _ _ _ n2 ∙ (cond-true _ _ _ e ∙ ap (λ (r : List ℕ). Some (If, r)) (sym is))))

each_read : (text rest : List ℕ) → begins (codes "let(") text ≡ false → begins (codes "put(") text ≡ false → begins (codes "hold(") text ≡ false → begins (codes "if(") text ≡ false → begins (codes "each(") text ≡ true → rest ≡ drop 5 text → longer_word_at text ≡ Some (Each, rest)
unfolding longer_word_at
each_read text rest n0 n1 n2 n3 e is = cond-false _ _ _ n0 ∙ (cond-false _ _ _ n1 ∙ (cond-false _ _ _ n2 ∙ (cond-false _ _ _ n3 ∙ (cond-true _ _ _ e ∙ ap (λ (r : List ℕ). Some (Each, r)) (sym is)))))

none_read : (text : List ℕ) → begins (codes "let(") text ≡ false → begins (codes "put(") text ≡ false → begins (codes "hold(") text ≡ false → begins (codes "if(") text ≡ false → begins (codes "each(") text ≡ false → longer_word_at text ≡ None
unfolding longer_word_at
none_read text n0 n1 n2 n3 n4 = cond-false _ _ _ n0 ∙ (cond-false _ _ _ n1 ∙ (cond-false _ _ _ n2 ∙ (cond-false _ _ _ n3 ∙ (cond-false _ _ _ n4))))

pub returns-in-Some : goal.returns-in-Some
returns-in-Some c = let_read c.args.text.now c.in-Some.rest.now c.in-Some.ensures.0 c.in-Some.ensures.1

pub returns-in-Some-strip : goal.returns-in-Some-strip
returns-in-Some-strip c = put_read c.args.text.now c.in-Some-strip.rest.now c.in_default.ensures c.in-Some-strip.ensures.0 c.in-Some-strip.ensures.1

pub returns-in-Some-strip-2 : goal.returns-in-Some-strip-2
returns-in-Some-strip-2 c = hold_read c.args.text.now c.in-Some-strip-2.rest.now c.in_default.ensures c.in_default-strip.ensures c.in-Some-strip-2.ensures.0 c.in-Some-strip-2.ensures.1

pub returns-in-Some-strip-3 : goal.returns-in-Some-strip-3
returns-in-Some-strip-3 c = if_read c.args.text.now c.in-Some-strip-3.rest.now c.in_default.ensures c.in_default-strip.ensures c.in_default-strip-2.ensures c.in-Some-strip-3.ensures.0 c.in-Some-strip-3.ensures.1

pub returns-in-Some-strip-4 : goal.returns-in-Some-strip-4
returns-in-Some-strip-4 c = each_read c.args.text.now c.in-Some-strip-4.rest.now c.in_default.ensures c.in_default-strip.ensures c.in_default-strip-2.ensures c.in_default-strip-3.ensures c.in-Some-strip-4.ensures.0 c.in-Some-strip-4.ensures.1

pub returns : goal.returns
returns c = none_read c.args.text.now c.in_default.ensures c.in_default-strip.ensures c.in_default-strip-2.ensures c.in_default-strip-3.ensures c.in_default-strip-4.ensures
