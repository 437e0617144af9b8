use Rattle.std.proofs.Common.{◌≡◌, ℕ, true, false, List, drop, sym, ap, ◌∙◌, codes, None}
use Rattle.std.proofs.lemmas.Bool.{cond-true, cond-false}
use Rattle.std.proofs.lemmas.Result.{IfOk-weaker}
use Rattle.khepri_types.specs.Words.{begins}
use Rattle.khepri_types.specs.ReadingOut.{entry_line, reply_line, out_at}
use Rattle.line_text.proofs.output.match_out.Goals as goal

entry_read : (text rest : List ℕ) → begins (codes "# ") text ≡ true → rest ≡ drop 2 text → out_at text ≡ entry_line rest
unfolding out_at
entry_read text rest e is = cond-true _ _ _ e ∙ ap (λ (r : List ℕ). entry_line r) (sym is)

reply_read : (text rest : List ℕ) → begins (codes "# ") text ≡ false → begins (codes "= ") text ≡ true → rest ≡ drop 2 text → out_at text ≡ reply_line rest
unfolding out_at
reply_read text rest n0 e is = cond-false _ _ _ n0 ∙ (cond-true _ _ _ e ∙ ap (λ (r : List ℕ). reply_line r) (sym is))

none_read : (text : List ℕ) → begins (codes "# ") text ≡ false → begins (codes "= ") text ≡ false → begins (codes "- ") text ≡ false → begins (codes "? ") text ≡ false → begins (codes "* ") text ≡ false → begins (codes "! ") text ≡ false → out_at text ≡ None
unfolding out_at
none_read text n0 n1 n2 n3 n4 n5 = cond-false _ _ _ n0 ∙ (cond-false _ _ _ n1 ∙ (cond-false _ _ _ n2 ∙ (cond-false _ _ _ n3 ∙ (cond-false _ _ _ n4 ∙ (cond-false _ _ _ n5)))))

pub returns-in-Some-clause-value : goal.returns-in-Some-clause-value
returns-in-Some-clause-value c = IfOk-weaker c.read_entry_line.result _ _ (λ x e. entry_read c.args.text.now c.in-Some.rest.now c.in-Some.ensures.0 c.in-Some.ensures.1 ∙ e) c.read_entry_line.ensures.value

pub returns-in-Some-clause-bad : goal.returns-in-Some-clause-bad
returns-in-Some-clause-bad c = λ e. entry_read c.args.text.now c.in-Some.rest.now c.in-Some.ensures.0 c.in-Some.ensures.1 ∙ c.read_entry_line.ensures.bad e

pub returns-in-Some-strip-clause-value : goal.returns-in-Some-strip-clause-value
returns-in-Some-strip-clause-value c = IfOk-weaker c.read_reply_line.result _ _ (λ x e. reply_read c.args.text.now c.in-Some-strip.rest.now c.in_default.ensures c.in-Some-strip.ensures.0 c.in-Some-strip.ensures.1 ∙ e) c.read_reply_line.ensures.value

pub returns-in-Some-strip-clause-bad : goal.returns-in-Some-strip-clause-bad
returns-in-Some-strip-clause-bad c = λ e. reply_read c.args.text.now c.in-Some-strip.rest.now c.in_default.ensures c.in-Some-strip.ensures.0 c.in-Some-strip.ensures.1 ∙ c.read_reply_line.ensures.bad e

pub returns-clause-bad : goal.returns-clause-bad
returns-clause-bad c = λ _. none_read c.args.text.now c.in_default.ensures c.in_default-strip.ensures c.in_default-strip-2.ensures c.in_default-strip-3.ensures c.in_default-strip-4.ensures c.in_default-strip-5.ensures
