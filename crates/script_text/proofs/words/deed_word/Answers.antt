use Rattle.std.proofs.Common.{◌≡◌, ℕ, true, false, List, drop, sym, ap, ◌∙◌, codes, Some, None}
use Rattle.std.proofs.lemmas.Bool.{cond-true, cond-false}
use Rattle.khepri_types.specs.Words.{begins}
use Rattle.khepri_types.specs.declared.script_words.DeedWord.TheVariants.{Clear, Del, Free, Emit, Abort}
use Rattle.khepri_types.specs.ReadingScripts.{deed_word_at}
use Rattle.script_text.proofs.words.deed_word.Goals as goal

clear_read : (text rest : List ℕ) → begins (codes "clear(") text ≡ true → rest ≡ drop 6 text → deed_word_at text ≡ Some (Clear, rest)
unfolding deed_word_at
clear_read text rest e is = cond-true _ _ _ e ∙ ap (λ (r : List ℕ). Some (Clear, r)) (sym is)

del_read : (text rest : List ℕ) → begins (codes "clear(") text ≡ false → begins (codes "del(") text ≡ true → rest ≡ drop 4 text → deed_word_at text ≡ Some (Del, rest)
unfolding deed_word_at
del_read text rest n0 e is = cond-false _ _ _ n0 ∙ (cond-true _ _ _ e ∙ ap (λ (r : List ℕ). Some (Del, r)) (sym is))

free_read : (text rest : List ℕ) → begins (codes "clear(") text ≡ false → begins (codes "del(") text ≡ false → begins (codes "free(") text ≡ true → rest ≡ drop 5 text → deed_word_at text ≡ Some (Free, rest)
unfolding deed_word_at
free_read text rest n0 n1 e is = cond-false _ _ _ n0 ∙ (cond-false _ _ _ n1 ∙ (cond-true _ _ _ e ∙ ap (λ (r : List ℕ). Some (Free, r)) (sym is)))

emit_read : (text rest : List ℕ) → begins (codes "clear(") text ≡ false → begins (codes "del(") text ≡ false → begins (codes "free(") text ≡ false → begins (codes "emit(") text ≡ true → rest ≡ drop 5 text → deed_word_at text ≡ Some (Emit, rest)
unfolding deed_word_at
emit_read text rest n0 n1 n2 e is = cond-false _ _ _ n0 ∙ (cond-false _ _ _ n1 ∙ (cond-false _ _ _ n2 ∙ (cond-true _ _ _ e ∙ ap (λ (r : List ℕ). Some (Emit, r)) (sym is))))

abort_read : (text rest : List ℕ) → begins (codes "clear(") text ≡ false → begins (codes "del(") text ≡ false → begins (codes "free(") text ≡ false → begins (codes "emit(") text ≡ false → begins (codes "abort(") text ≡ true → rest ≡ drop 6 text → deed_word_at text ≡ Some (Abort, rest)
unfolding deed_word_at
abort_read text rest n0 n1 n2 n3 e is = cond-false _ _ _ n0 ∙ (cond-false _ _ _ n1 ∙ (cond-false _ _ _ n2 ∙ (cond-false _ _ _ n3 ∙ (cond-true _ _ _ e ∙ ap (λ (r : List ℕ). Some (Abort, r)) (sym is)))))

none_read : (text : List ℕ) → begins (codes "clear(") text ≡ false → begins (codes "del(") text ≡ false → begins (codes "free(") text ≡ false → begins (codes "emit(") text ≡ false → begins (codes "abort(") text ≡ false → deed_word_at text ≡ None
unfolding deed_word_at
none_read text n0 n1 n2 n3 n4 = cond-false _ _ _ n0 ∙ (cond-false _ _ _ n1 ∙ (cond-false _ _ _ n2 ∙ (cond-false _ _ _ n3 ∙ (cond-false _ _ _ n4))))

pub returns-in-Some : goal.returns-in-Some
returns-in-Some c = clear_read c.args.text.now c.in-Some.rest.now c.in-Some.ensures.0 c.in-Some.ensures.1

pub returns-in-Some-strip : goal.returns-in-Some-strip
returns-in-Some-strip c = del_read c.args.text.now c.in-Some-strip.rest.now c.in_default.ensures c.in-Some-strip.ensures.0 c.in-Some-strip.ensures.1

pub returns-in-Some-strip-2 : goal.returns-in-Some-strip-2
returns-in-Some-strip-2 c = free_read c.args.text.now c.in-Some-strip-2.rest.now c.in_default.ensures c.in_default-strip.ensures c.in-Some-strip-2.ensures.0 c.in-Some-strip-2.ensures.1

pub returns-in-Some-strip-3 : goal.returns-in-Some-strip-3
returns-in-Some-strip-3 c = emit_read c.args.text.now c.in-Some-strip-3.rest.now c.in_default.ensures c.in_default-strip.ensures c.in_default-strip-2.ensures c.in-Some-strip-3.ensures.0 c.in-Some-strip-3.ensures.1

pub returns-in-Some-strip-4 : goal.returns-in-Some-strip-4
returns-in-Some-strip-4 c = abort_read c.args.text.now c.in-Some-strip-4.rest.now c.in_default.ensures c.in_default-strip.ensures c.in_default-strip-2.ensures c.in_default-strip-3.ensures c.in-Some-strip-4.ensures.0 c.in-Some-strip-4.ensures.1

pub returns : goal.returns
returns c = none_read c.args.text.now c.in_default.ensures c.in_default-strip.ensures c.in_default-strip-2.ensures c.in_default-strip-3.ensures c.in_default-strip-4.ensures
