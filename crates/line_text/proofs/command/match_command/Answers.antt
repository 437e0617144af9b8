use Rattle.std.proofs.Common.{◌≡◌, ℕ, true, false, List, drop, sym, ap, ◌∙◌, codes, Err}
use Rattle.std.proofs.lemmas.Bool.{cond-true, cond-false}
use Rattle.std.proofs.lemmas.Result.{IfOk-weaker, err_from_is_err_and}
use Rattle.khepri_terms.specs.declared.fault.TextFault.{TextFault}
use Rattle.khepri_terms.specs.declared.fault.TextFault.TheVariants.{Bad}
use Rattle.khepri_terms.proofs.Cases.{err_is}
use Rattle.khepri_types.specs.Words.{begins}
use Rattle.khepri_types.specs.declared.command.Command.TheVariants.{Put, Create, Update, Clear}
use Rattle.khepri_types.specs.Reading.{assigning, naming, spelled_assigned, spelled_cas, spelled_path, deleting_or_asking, spelled_command}
use Rattle.line_text.proofs.command.match_command.Goals as goal

put_read : (text rest : List ℕ) → begins (codes "put ") text ≡ true → rest ≡ drop 4 text → spelled_command text ≡ assigning Put (spelled_assigned rest)
unfolding spelled_command
put_read text rest e is = cond-true _ _ _ e ∙ ap (λ (r : List ℕ). assigning Put (spelled_assigned r)) (sym is)

create_read : (text rest : List ℕ) → begins (codes "put ") text ≡ false → begins (codes "create ") text ≡ true → rest ≡ drop 7 text → spelled_command text ≡ assigning Create (spelled_assigned rest)
unfolding spelled_command
create_read text rest n0 e is = cond-false _ _ _ n0 ∙ (cond-true _ _ _ e ∙ ap (λ (r : List ℕ). assigning Create (spelled_assigned r)) (sym is))

update_read : (text rest : List ℕ) → begins (codes "put ") text ≡ false → begins (codes "create ") text ≡ false → begins (codes "update ") text ≡ true → rest ≡ drop 7 text → spelled_command text ≡ assigning Update (spelled_assigned rest)
unfolding spelled_command
update_read text rest n0 n1 e is = cond-false _ _ _ n0 ∙ (cond-false _ _ _ n1 ∙ (cond-true _ _ _ e ∙ ap (λ (r : List ℕ). assigning Update (spelled_assigned r)) (sym is)))

cas_read : (text rest : List ℕ) → begins (codes "put ") text ≡ false → begins (codes "create ") text ≡ false → begins (codes "update ") text ≡ false → begins (codes "cas ") text ≡ true → rest ≡ drop 4 text → spelled_command text ≡ spelled_cas rest
unfolding spelled_command
cas_read text rest n0 n1 n2 e is = cond-false _ _ _ n0 ∙ (cond-false _ _ _ n1 ∙ (cond-false _ _ _ n2 ∙ (cond-true _ _ _ e ∙ ap (λ (r : List ℕ). spelled_cas r) (sym is))))

clear_read : (text rest : List ℕ) → begins (codes "put ") text ≡ false → begins (codes "create ") text ≡ false → begins (codes "update ") text ≡ false → begins (codes "cas ") text ≡ false → begins (codes "clear ") text ≡ true → rest ≡ drop 6 text → spelled_command text ≡ naming Clear (spelled_path rest)
unfolding spelled_command
clear_read text rest n0 n1 n2 n3 e is = cond-false _ _ _ n0 ∙ (cond-false _ _ _ n1 ∙ (cond-false _ _ _ n2 ∙ (cond-false _ _ _ n3 ∙ (cond-true _ _ _ e ∙ ap (λ (r : List ℕ). naming Clear (spelled_path r)) (sym is)))))

second_read : (text : List ℕ) → begins (codes "put ") text ≡ false → begins (codes "create ") text ≡ false → begins (codes "update ") text ≡ false → begins (codes "cas ") text ≡ false → begins (codes "clear ") text ≡ false → spelled_command text ≡ deleting_or_asking text
unfolding spelled_command
second_read text n0 n1 n2 n3 n4 = cond-false _ _ _ n0 ∙ (cond-false _ _ _ n1 ∙ (cond-false _ _ _ n2 ∙ (cond-false _ _ _ n3 ∙ (cond-false _ _ _ n4))))

pub returns-in-Some-clause-value : goal.returns-in-Some-clause-value
returns-in-Some-clause-value c = put_read c.args.text.now c.in-Some.rest.now c.in-Some.ensures.0 c.in-Some.ensures.1 ∙ ap (assigning Put) c.in_ok-path.ensures.value

pub returns-in_err-path-clause-bad : goal.returns-in_err-path-clause-bad
returns-in_err-path-clause-bad c =
    let p = err_from_is_err_and c.from_residual.result c.from_residual.ensures.1 in
    rw (p.1, p.2) (λ h. put_read c.args.text.now c.in-Some.rest.now c.in-Some.ensures.0 c.in-Some.ensures.1 ∙ ap (assigning Put) (c.in_err-path.ensures.bad (ap (λ (d : TextFault). Err d) (err_is c.in_err-path.field-0.0 Bad h))))

pub returns-in-Some-strip-clause-value : goal.returns-in-Some-strip-clause-value
returns-in-Some-strip-clause-value c = create_read c.args.text.now c.in-Some-strip.rest.now c.in_default.ensures c.in-Some-strip.ensures.0 c.in-Some-strip.ensures.1 ∙ ap (assigning Create) c.in_ok-path-2.ensures.value

pub returns-in_err-path-2-clause-bad : goal.returns-in_err-path-2-clause-bad
returns-in_err-path-2-clause-bad c =
    let p = err_from_is_err_and c.from_residual-in_err-path-2.result c.from_residual-in_err-path-2.ensures.1 in
    rw (p.1, p.2) (λ h. create_read c.args.text.now c.in-Some-strip.rest.now c.in_default.ensures c.in-Some-strip.ensures.0 c.in-Some-strip.ensures.1 ∙ ap (assigning Create) (c.in_err-path-2.ensures.bad (ap (λ (d : TextFault). Err d) (err_is c.in_err-path-2.field-0.0 Bad h))))

pub returns-in-Some-strip-2-clause-value : goal.returns-in-Some-strip-2-clause-value
returns-in-Some-strip-2-clause-value c = update_read c.args.text.now c.in-Some-strip-2.rest.now c.in_default.ensures c.in_default-strip.ensures c.in-Some-strip-2.ensures.0 c.in-Some-strip-2.ensures.1 ∙ ap (assigning Update) c.in_ok-path-3.ensures.value

pub returns-in_err-path-3-clause-bad : goal.returns-in_err-path-3-clause-bad
returns-in_err-path-3-clause-bad c =
    let p = err_from_is_err_and c.from_residual-in_err-path-3.result c.from_residual-in_err-path-3.ensures.1 in
    rw (p.1, p.2) (λ h. update_read c.args.text.now c.in-Some-strip-2.rest.now c.in_default.ensures c.in_default-strip.ensures c.in-Some-strip-2.ensures.0 c.in-Some-strip-2.ensures.1 ∙ ap (assigning Update) (c.in_err-path-3.ensures.bad (ap (λ (d : TextFault). Err d) (err_is c.in_err-path-3.field-0.0 Bad h))))

pub returns-in-Some-strip-3-clause-value : goal.returns-in-Some-strip-3-clause-value
returns-in-Some-strip-3-clause-value c = IfOk-weaker c.read_cas.result _ _ (λ x e. cas_read c.args.text.now c.in-Some-strip-3.rest.now c.in_default.ensures c.in_default-strip.ensures c.in_default-strip-2.ensures c.in-Some-strip-3.ensures.0 c.in-Some-strip-3.ensures.1 ∙ e) c.read_cas.ensures.value

pub returns-in-Some-strip-3-clause-bad : goal.returns-in-Some-strip-3-clause-bad
returns-in-Some-strip-3-clause-bad c = λ e. cas_read c.args.text.now c.in-Some-strip-3.rest.now c.in_default.ensures c.in_default-strip.ensures c.in_default-strip-2.ensures c.in-Some-strip-3.ensures.0 c.in-Some-strip-3.ensures.1 ∙ c.read_cas.ensures.bad e

pub returns-in-Some-strip-4-clause-value : goal.returns-in-Some-strip-4-clause-value
returns-in-Some-strip-4-clause-value c = clear_read c.args.text.now c.in-Some-strip-4.rest.now c.in_default.ensures c.in_default-strip.ensures c.in_default-strip-2.ensures c.in_default-strip-3.ensures c.in-Some-strip-4.ensures.0 c.in-Some-strip-4.ensures.1 ∙ ap (naming Clear) c.in_ok-path-4.ensures.value

pub returns-in_err-path-4-clause-bad : goal.returns-in_err-path-4-clause-bad
returns-in_err-path-4-clause-bad c =
    let p = err_from_is_err_and c.from_residual-in_err-path-4.result c.from_residual-in_err-path-4.ensures.1 in
    rw (p.1, p.2) (λ h. clear_read c.args.text.now c.in-Some-strip-4.rest.now c.in_default.ensures c.in_default-strip.ensures c.in_default-strip-2.ensures c.in_default-strip-3.ensures c.in-Some-strip-4.ensures.0 c.in-Some-strip-4.ensures.1 ∙ ap (naming Clear) (c.in_err-path-4.ensures.bad (ap (λ (d : TextFault). Err d) (err_is c.in_err-path-4.field-0.0 Bad h))))

pub returns-clause-value : goal.returns-clause-value
returns-clause-value c = IfOk-weaker c.match_deleting_or_asking.result _ _ (λ x e. second_read c.args.text.now c.in_default.ensures c.in_default-strip.ensures c.in_default-strip-2.ensures c.in_default-strip-3.ensures c.in_default-strip-4.ensures ∙ e) c.match_deleting_or_asking.ensures.value

pub returns-clause-bad : goal.returns-clause-bad
returns-clause-bad c = λ e. second_read c.args.text.now c.in_default.ensures c.in_default-strip.ensures c.in_default-strip-2.ensures c.in_default-strip-3.ensures c.in_default-strip-4.ensures ∙ c.match_deleting_or_asking.ensures.bad e
