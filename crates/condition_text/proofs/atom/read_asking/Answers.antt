use Rattle.std.proofs.Common.{◌≡◌, ℕ, true, false, List, drop, sym, ap, ◌∙◌, codes, None}
use Rattle.std.proofs.lemmas.Bool.{cond-true, cond-false}
use Rattle.std.proofs.lemmas.Result.{IfOk-weaker}
use Rattle.khepri_types.specs.Words.{begins}
use Rattle.khepri_types.specs.ReadingConditions.{name_asked, is_asked, field_asked, pv_asked, cv_asked, kids_asked, asking_at}
use Rattle.condition_text.proofs.atom.read_asking.Goals as goal

name_read : (left : ℕ) (text rest : List ℕ) → begins (codes "name(") text ≡ true → rest ≡ drop 5 text → asking_at left text ≡ name_asked left rest
unfolding asking_at
name_read left text rest e is = cond-true _ _ _ e ∙ ap (λ (r : List ℕ). name_asked left r) (sym is)

is_read : (left : ℕ) (text rest : List ℕ) → begins (codes "name(") text ≡ false → begins (codes "is(") text ≡ true → rest ≡ drop 3 text → asking_at left text ≡ is_asked left rest
unfolding asking_at
is_read left text rest n0 e is = cond-false _ _ _ n0 ∙ (cond-true _ _ _ e ∙ ap (λ (r : List ℕ). is_asked left r) (sym is))

field_read : (left : ℕ) (text rest : List ℕ) → begins (codes "name(") text ≡ false → begins (codes "is(") text ≡ false → begins (codes "field(") text ≡ true → rest ≡ drop 6 text → asking_at left text ≡ field_asked left rest
unfolding asking_at
field_read left text rest n0 n1 e is = cond-false _ _ _ n0 ∙ (cond-false _ _ _ n1 ∙ (cond-true _ _ _ e ∙ ap (λ (r : List ℕ). field_asked left r) (sym is)))

pv_read : (left : ℕ) (text rest : List ℕ) → begins (codes "name(") text ≡ false → begins (codes "is(") text ≡ false → begins (codes "field(") text ≡ false → begins (codes "pv(") text ≡ true → rest ≡ drop 3 text → asking_at left text ≡ pv_asked left rest
unfolding asking_at
pv_read left text rest n0 n1 n2 e is = cond-false _ _ _ n0 ∙ (cond-false _ _ _ n1 ∙ (cond-false _ _ _ n2 ∙ (cond-true _ _ _ e ∙ ap (λ (r : List ℕ). pv_asked left r) (sym is))))

cv_read : (left : ℕ) (text rest : List ℕ) → begins (codes "name(") text ≡ false → begins (codes "is(") text ≡ false → begins (codes "field(") text ≡ false → begins (codes "pv(") text ≡ false → begins (codes "cv(") text ≡ true → rest ≡ drop 3 text → asking_at left text ≡ cv_asked left rest
unfolding asking_at
cv_read left text rest n0 n1 n2 n3 e is = cond-false _ _ _ n0 ∙ (cond-false _ _ _ n1 ∙ (cond-false _ _ _ n2 ∙ (cond-false _ _ _ n3 ∙ (cond-true _ _ _ e ∙ ap (λ (r : List ℕ). cv_asked left r) (sym is)))))

kids_read : (left : ℕ) (text rest : List ℕ) → begins (codes "name(") text ≡ false → begins (codes "is(") text ≡ false → begins (codes "field(") text ≡ false → begins (codes "pv(") text ≡ false → begins (codes "cv(") text ≡ false → begins (codes "kids(") text ≡ true → rest ≡ drop 5 text → asking_at left text ≡ kids_asked left rest
unfolding asking_at
kids_read left text rest n0 n1 n2 n3 n4 e is = cond-false _ _ _ n0 ∙ (cond-false _ _ _ n1 ∙ (cond-false _ _ _ n2 ∙ (cond-false _ _ _ n3 ∙ (cond-false _ _ _ n4 ∙ (cond-true _ _ _ e ∙ ap (λ (r : List ℕ). kids_asked left r) (sym is))))))

none_read : (left : ℕ) (text : List ℕ) → begins (codes "name(") text ≡ false → begins (codes "is(") text ≡ false → begins (codes "field(") text ≡ false → begins (codes "pv(") text ≡ false → begins (codes "cv(") text ≡ false → begins (codes "kids(") text ≡ false → asking_at left text ≡ None
unfolding asking_at
none_read left text n0 n1 n2 n3 n4 n5 = cond-false _ _ _ n0 ∙ (cond-false _ _ _ n1 ∙ (cond-false _ _ _ n2 ∙ (cond-false _ _ _ n3 ∙ (cond-false _ _ _ n4 ∙ (cond-false _ _ _ n5)))))

pub returns-in-Some-clause-value : goal.returns-in-Some-clause-value
returns-in-Some-clause-value c = IfOk-weaker c.read_name_asked.result _ _ (λ x e. name_read c.args.left c.args.text.now c.in-Some.rest.now c.in-Some.ensures.0 c.in-Some.ensures.1 ∙ e) c.read_name_asked.ensures.value

pub returns-in-Some-clause-bad : goal.returns-in-Some-clause-bad
returns-in-Some-clause-bad c = λ e. name_read c.args.left c.args.text.now c.in-Some.rest.now c.in-Some.ensures.0 c.in-Some.ensures.1 ∙ c.read_name_asked.ensures.bad e

pub returns-in-Some-strip-clause-value : goal.returns-in-Some-strip-clause-value
returns-in-Some-strip-clause-value c = IfOk-weaker c.read_is_asked.result _ _ (λ x e. is_read c.args.left c.args.text.now c.in-Some-strip.rest.now c.in_default.ensures c.in-Some-strip.ensures.0 c.in-Some-strip.ensures.1 ∙ e) c.read_is_asked.ensures.value

pub returns-in-Some-strip-clause-bad : goal.returns-in-Some-strip-clause-bad
returns-in-Some-strip-clause-bad c = λ e. is_read c.args.left c.args.text.now c.in-Some-strip.rest.now c.in_default.ensures c.in-Some-strip.ensures.0 c.in-Some-strip.ensures.1 ∙ c.read_is_asked.ensures.bad e

pub returns-in-Some-strip-2-clause-value : goal.returns-in-Some-strip-2-clause-value
returns-in-Some-strip-2-clause-value c = IfOk-weaker c.read_field_asked.result _ _ (λ x e. field_read c.args.left c.args.text.now c.in-Some-strip-2.rest.now c.in_default.ensures c.in_default-strip.ensures c.in-Some-strip-2.ensures.0 c.in-Some-strip-2.ensures.1 ∙ e) c.read_field_asked.ensures.value

pub returns-in-Some-strip-2-clause-bad : goal.returns-in-Some-strip-2-clause-bad
returns-in-Some-strip-2-clause-bad c = λ e. field_read c.args.left c.args.text.now c.in-Some-strip-2.rest.now c.in_default.ensures c.in_default-strip.ensures c.in-Some-strip-2.ensures.0 c.in-Some-strip-2.ensures.1 ∙ c.read_field_asked.ensures.bad e

pub returns-in-Some-strip-3-clause-value : goal.returns-in-Some-strip-3-clause-value
returns-in-Some-strip-3-clause-value c = IfOk-weaker c.read_pv_asked.result _ _ (λ x e. pv_read c.args.left c.args.text.now c.in-Some-strip-3.rest.now c.in_default.ensures c.in_default-strip.ensures c.in_default-strip-2.ensures c.in-Some-strip-3.ensures.0 c.in-Some-strip-3.ensures.1 ∙ e) c.read_pv_asked.ensures.value

pub returns-in-Some-strip-3-clause-bad : goal.returns-in-Some-strip-3-clause-bad
returns-in-Some-strip-3-clause-bad c = λ e. pv_read c.args.left c.args.text.now c.in-Some-strip-3.rest.now c.in_default.ensures c.in_default-strip.ensures c.in_default-strip-2.ensures c.in-Some-strip-3.ensures.0 c.in-Some-strip-3.ensures.1 ∙ c.read_pv_asked.ensures.bad e

pub returns-in-Some-strip-4-clause-value : goal.returns-in-Some-strip-4-clause-value
returns-in-Some-strip-4-clause-value c = IfOk-weaker c.read_cv_asked.result _ _ (λ x e. cv_read c.args.left c.args.text.now c.in-Some-strip-4.rest.now c.in_default.ensures c.in_default-strip.ensures c.in_default-strip-2.ensures c.in_default-strip-3.ensures c.in-Some-strip-4.ensures.0 c.in-Some-strip-4.ensures.1 ∙ e) c.read_cv_asked.ensures.value

pub returns-in-Some-strip-4-clause-bad : goal.returns-in-Some-strip-4-clause-bad
returns-in-Some-strip-4-clause-bad c = λ e. cv_read c.args.left c.args.text.now c.in-Some-strip-4.rest.now c.in_default.ensures c.in_default-strip.ensures c.in_default-strip-2.ensures c.in_default-strip-3.ensures c.in-Some-strip-4.ensures.0 c.in-Some-strip-4.ensures.1 ∙ c.read_cv_asked.ensures.bad e

pub returns-in-Some-strip-5-clause-value : goal.returns-in-Some-strip-5-clause-value
returns-in-Some-strip-5-clause-value c = IfOk-weaker c.read_kids_asked.result _ _ (λ x e. kids_read c.args.left c.args.text.now c.in-Some-strip-5.rest.now c.in_default.ensures c.in_default-strip.ensures c.in_default-strip-2.ensures c.in_default-strip-3.ensures c.in_default-strip-4.ensures c.in-Some-strip-5.ensures.0 c.in-Some-strip-5.ensures.1 ∙ e) c.read_kids_asked.ensures.value

pub returns-in-Some-strip-5-clause-bad : goal.returns-in-Some-strip-5-clause-bad
returns-in-Some-strip-5-clause-bad c = λ e. kids_read c.args.left c.args.text.now c.in-Some-strip-5.rest.now c.in_default.ensures c.in_default-strip.ensures c.in_default-strip-2.ensures c.in_default-strip-3.ensures c.in_default-strip-4.ensures c.in-Some-strip-5.ensures.0 c.in-Some-strip-5.ensures.1 ∙ c.read_kids_asked.ensures.bad e

pub returns-clause-bad : goal.returns-clause-bad
returns-clause-bad c = λ _. none_read c.args.left c.args.text.now c.in_default.ensures c.in_default-strip.ensures c.in_default-strip-2.ensures c.in_default-strip-3.ensures c.in_default-strip-4.ensures c.in_default-strip-5.ensures
