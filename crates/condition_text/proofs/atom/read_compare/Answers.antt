use Rattle.std.proofs.Common.{◌≡◌, ℕ, true, false, List, drop, sym, ap, ◌∙◌, codes, Some, None}
use Rattle.std.proofs.lemmas.Bool.{cond-true, cond-false}
use Rattle.khepri_types.specs.Words.{begins}
use Rattle.khepri_types.specs.declared.compare.Compare.TheVariants.{Eq, Ne, Lt, Le, Gt, Ge}
use Rattle.khepri_types.specs.ReadingConditions.{compare_at}
use Rattle.condition_text.proofs.atom.read_compare.Goals as goal

eq_read : (text rest : List ℕ) → begins (codes "eq") text ≡ true → rest ≡ drop 2 text → compare_at text ≡ Some (Eq, rest)
unfolding compare_at
eq_read text rest e is = cond-true _ _ _ e ∙ ap (λ (r : List ℕ). Some (Eq, r)) (sym is)

ne_read : (text rest : List ℕ) → begins (codes "eq") text ≡ false → begins (codes "ne") text ≡ true → rest ≡ drop 2 text → compare_at text ≡ Some (Ne, rest)
unfolding compare_at
ne_read text rest n0 e is = cond-false _ _ _ n0 ∙ (cond-true _ _ _ e ∙ ap (λ (r : List ℕ). Some (Ne, r)) (sym is))

lt_read : (text rest : List ℕ) → begins (codes "eq") text ≡ false → begins (codes "ne") text ≡ false → begins (codes "lt") text ≡ true → rest ≡ drop 2 text → compare_at text ≡ Some (Lt, rest)
unfolding compare_at
lt_read text rest n0 n1 e is = cond-false _ _ _ n0 ∙ (cond-false _ _ _ n1 ∙ (cond-true _ _ _ e ∙ ap (λ (r : List ℕ). Some (Lt, r)) (sym is)))

le_read : (text rest : List ℕ) → begins (codes "eq") text ≡ false → begins (codes "ne") text ≡ false → begins (codes "lt") text ≡ false → begins (codes "le") text ≡ true → rest ≡ drop 2 text → compare_at text ≡ Some (Le, rest)
unfolding compare_at
le_read text rest n0 n1 n2 e is = cond-false _ _ _ n0 ∙ (cond-false _ _ _ n1 ∙ (cond-false _ _ _ n2 ∙ (cond-true _ _ _ e ∙ ap (λ (r : List ℕ). Some (Le, r)) (sym is))))

gt_read : (text rest : List ℕ) → begins (codes "eq") text ≡ false → begins (codes "ne") text ≡ false → begins (codes "lt") text ≡ false → begins (codes "le") text ≡ false → begins (codes "gt") text ≡ true → rest ≡ drop 2 text → compare_at text ≡ Some (Gt, rest)
unfolding compare_at
gt_read text rest n0 n1 n2 n3 e is = cond-false _ _ _ n0 ∙ (cond-false _ _ _ n1 ∙ (cond-false _ _ _ n2 ∙ (cond-false _ _ _ n3 ∙ (cond-true _ _ _ e ∙ ap (λ (r : List ℕ). Some (Gt, r)) (sym is)))))

ge_read : (text rest : List ℕ) → begins (codes "eq") text ≡ false → begins (codes "ne") text ≡ false → begins (codes "lt") text ≡ false → begins (codes "le") text ≡ false → begins (codes "gt") text ≡ false → begins (codes "ge") text ≡ true → rest ≡ drop 2 text → compare_at text ≡ Some (Ge, rest)
unfolding compare_at
ge_read text rest n0 n1 n2 n3 n4 e is = cond-false _ _ _ n0 ∙ (cond-false _ _ _ n1 ∙ (cond-false _ _ _ n2 ∙ (cond-false _ _ _ n3 ∙ (cond-false _ _ _ n4 ∙ (cond-true _ _ _ e ∙ ap (λ (r : List ℕ). Some (Ge, r)) (sym is))))))

none_read : (text : List ℕ) → begins (codes "eq") text ≡ false → begins (codes "ne") text ≡ false → begins (codes "lt") text ≡ false → begins (codes "le") text ≡ false → begins (codes "gt") text ≡ false → begins (codes "ge") text ≡ false → compare_at text ≡ None
unfolding compare_at
none_read text n0 n1 n2 n3 n4 n5 = cond-false _ _ _ n0 ∙ (cond-false _ _ _ n1 ∙ (cond-false _ _ _ n2 ∙ (cond-false _ _ _ n3 ∙ (cond-false _ _ _ n4 ∙ (cond-false _ _ _ n5)))))

pub returns-in-Some-clause-value : goal.returns-in-Some-clause-value
returns-in-Some-clause-value c = eq_read c.args.text.now c.in-Some.rest.now c.in-Some.ensures.0 c.in-Some.ensures.1

pub returns-in-Some-strip-clause-value : goal.returns-in-Some-strip-clause-value
returns-in-Some-strip-clause-value c = ne_read c.args.text.now c.in-Some-strip.rest.now c.in_default.ensures c.in-Some-strip.ensures.0 c.in-Some-strip.ensures.1

pub returns-in-Some-strip-2-clause-value : goal.returns-in-Some-strip-2-clause-value
returns-in-Some-strip-2-clause-value c = lt_read c.args.text.now c.in-Some-strip-2.rest.now c.in_default.ensures c.in_default-strip.ensures c.in-Some-strip-2.ensures.0 c.in-Some-strip-2.ensures.1

pub returns-in-Some-strip-3-clause-value : goal.returns-in-Some-strip-3-clause-value
returns-in-Some-strip-3-clause-value c = le_read c.args.text.now c.in-Some-strip-3.rest.now c.in_default.ensures c.in_default-strip.ensures c.in_default-strip-2.ensures c.in-Some-strip-3.ensures.0 c.in-Some-strip-3.ensures.1

pub returns-in-Some-strip-4-clause-value : goal.returns-in-Some-strip-4-clause-value
returns-in-Some-strip-4-clause-value c = gt_read c.args.text.now c.in-Some-strip-4.rest.now c.in_default.ensures c.in_default-strip.ensures c.in_default-strip-2.ensures c.in_default-strip-3.ensures c.in-Some-strip-4.ensures.0 c.in-Some-strip-4.ensures.1

pub returns-in-Some-strip-5-clause-value : goal.returns-in-Some-strip-5-clause-value
returns-in-Some-strip-5-clause-value c = ge_read c.args.text.now c.in-Some-strip-5.rest.now c.in_default.ensures c.in_default-strip.ensures c.in_default-strip-2.ensures c.in_default-strip-3.ensures c.in_default-strip-4.ensures c.in-Some-strip-5.ensures.0 c.in-Some-strip-5.ensures.1

pub returns-clause-bad : goal.returns-clause-bad
returns-clause-bad c = λ _. none_read c.args.text.now c.in_default.ensures c.in_default-strip.ensures c.in_default-strip-2.ensures c.in_default-strip-3.ensures c.in_default-strip-4.ensures c.in_default-strip-5.ensures
