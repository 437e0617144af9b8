use Rattle.std.proofs.Common.{◌≡◌, ℕ, true, false, List, drop, sym, ap, ◌∙◌, codes, Some}
use Rattle.std.proofs.lemmas.Bool.{cond-true, cond-false}
use Rattle.std.proofs.lemmas.Result.{IfOk-weaker}
use Rattle.khepri_types.specs.Words.{begins}
use Rattle.khepri_types.specs.declared.condition.Condition.TheVariants.{Absent, Exists, Payload, Data, Sproc}
use Rattle.khepri_types.specs.ReadingConditions.{asking_at, atom_at}
use Rattle.condition_text.proofs.atom.read_atom.Goals as goal

absent_read : (left : ℕ) (text rest : List ℕ) → begins (codes "absent") text ≡ true → rest ≡ drop 6 text → atom_at left text ≡ Some (Absent, left, rest)
unfolding atom_at
absent_read left text rest e is = cond-true _ _ _ e ∙ ap (λ (r : List ℕ). Some (Absent, left, r)) (sym is)

exists_read : (left : ℕ) (text rest : List ℕ) → begins (codes "absent") text ≡ false → begins (codes "exists") text ≡ true → rest ≡ drop 6 text → atom_at left text ≡ Some (Exists, left, rest)
unfolding atom_at
exists_read left text rest n0 e is = cond-false _ _ _ n0 ∙ (cond-true _ _ _ e ∙ ap (λ (r : List ℕ). Some (Exists, left, r)) (sym is))

payload_read : (left : ℕ) (text rest : List ℕ) → begins (codes "absent") text ≡ false → begins (codes "exists") text ≡ false → begins (codes "payload") text ≡ true → rest ≡ drop 7 text → atom_at left text ≡ Some (Payload, left, rest)
unfolding atom_at
payload_read left text rest n0 n1 e is = cond-false _ _ _ n0 ∙ (cond-false _ _ _ n1 ∙ (cond-true _ _ _ e ∙ ap (λ (r : List ℕ). Some (Payload, left, r)) (sym is)))

data_read : (left : ℕ) (text rest : List ℕ) → begins (codes "absent") text ≡ false → begins (codes "exists") text ≡ false → begins (codes "payload") text ≡ false → begins (codes "data") text ≡ true → rest ≡ drop 4 text → atom_at left text ≡ Some (Data, left, rest)
unfolding atom_at
data_read left text rest n0 n1 n2 e is = cond-false _ _ _ n0 ∙ (cond-false _ _ _ n1 ∙ (cond-false _ _ _ n2 ∙ (cond-true _ _ _ e ∙ ap (λ (r : List ℕ). Some (Data, left, r)) (sym is))))

sproc_read : (left : ℕ) (text rest : List ℕ) → begins (codes "absent") text ≡ false → begins (codes "exists") text ≡ false → begins (codes "payload") text ≡ false → begins (codes "data") text ≡ false → begins (codes "sproc") text ≡ true → rest ≡ drop 5 text → atom_at left text ≡ Some (Sproc, left, rest)
unfolding atom_at
sproc_read left text rest n0 n1 n2 n3 e is = cond-false _ _ _ n0 ∙ (cond-false _ _ _ n1 ∙ (cond-false _ _ _ n2 ∙ (cond-false _ _ _ n3 ∙ (cond-true _ _ _ e ∙ ap (λ (r : List ℕ). Some (Sproc, left, r)) (sym is)))))

asking_read : (left : ℕ) (text : List ℕ) → begins (codes "absent") text ≡ false → begins (codes "exists") text ≡ false → begins (codes "payload") text ≡ false → begins (codes "data") text ≡ false → begins (codes "sproc") text ≡ false → atom_at left text ≡ asking_at left text
unfolding atom_at
asking_read left text n0 n1 n2 n3 n4 = cond-false _ _ _ n0 ∙ (cond-false _ _ _ n1 ∙ (cond-false _ _ _ n2 ∙ (cond-false _ _ _ n3 ∙ (cond-false _ _ _ n4))))

pub returns-in-Some-clause-value : goal.returns-in-Some-clause-value
returns-in-Some-clause-value c = absent_read c.args.left c.args.text.now c.in-Some.rest.now c.in-Some.ensures.0 c.in-Some.ensures.1

pub returns-in-Some-strip-clause-value : goal.returns-in-Some-strip-clause-value
returns-in-Some-strip-clause-value c = exists_read c.args.left c.args.text.now c.in-Some-strip.rest.now c.in_default.ensures c.in-Some-strip.ensures.0 c.in-Some-strip.ensures.1

pub returns-in-Some-strip-2-clause-value : goal.returns-in-Some-strip-2-clause-value
returns-in-Some-strip-2-clause-value c = payload_read c.args.left c.args.text.now c.in-Some-strip-2.rest.now c.in_default.ensures c.in_default-strip.ensures c.in-Some-strip-2.ensures.0 c.in-Some-strip-2.ensures.1

pub returns-in-Some-strip-3-clause-value : goal.returns-in-Some-strip-3-clause-value
returns-in-Some-strip-3-clause-value c = data_read c.args.left c.args.text.now c.in-Some-strip-3.rest.now c.in_default.ensures c.in_default-strip.ensures c.in_default-strip-2.ensures c.in-Some-strip-3.ensures.0 c.in-Some-strip-3.ensures.1

pub returns-in-Some-strip-4-clause-value : goal.returns-in-Some-strip-4-clause-value
returns-in-Some-strip-4-clause-value c = sproc_read c.args.left c.args.text.now c.in-Some-strip-4.rest.now c.in_default.ensures c.in_default-strip.ensures c.in_default-strip-2.ensures c.in_default-strip-3.ensures c.in-Some-strip-4.ensures.0 c.in-Some-strip-4.ensures.1

pub returns-clause-value : goal.returns-clause-value
returns-clause-value c = IfOk-weaker c.read_asking.result _ _ (λ x e. asking_read c.args.left c.args.text.now c.in_default.ensures c.in_default-strip.ensures c.in_default-strip-2.ensures c.in_default-strip-3.ensures c.in_default-strip-4.ensures ∙ e) c.read_asking.ensures.value

pub returns-clause-bad : goal.returns-clause-bad
returns-clause-bad c = λ e. asking_read c.args.left c.args.text.now c.in_default.ensures c.in_default-strip.ensures c.in_default-strip-2.ensures c.in_default-strip-3.ensures c.in_default-strip-4.ensures ∙ c.read_asking.ensures.bad e
