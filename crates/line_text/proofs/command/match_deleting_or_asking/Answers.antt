use Rattle.std.proofs.Common.{◌≡◌, ℕ, true, false, List, drop, sym, ap, ◌∙◌, codes, Err}
use Rattle.std.proofs.lemmas.Bool.{cond-true, cond-false}
use Rattle.std.proofs.lemmas.Result.{IfOk-weaker, err_from_is_err_and}
use Rattle.khepri_terms.specs.declared.fault.TextFault.{TextFault}
use Rattle.khepri_terms.specs.declared.fault.TextFault.TheVariants.{Bad}
use Rattle.khepri_terms.proofs.Cases.{err_is}
use Rattle.khepri_types.specs.Words.{begins}
use Rattle.khepri_types.specs.declared.command.Command.TheVariants.{Del, Delmany, Get, Count}
use Rattle.khepri_types.specs.Reading.{naming, scanning, spelled_path, spelled_pattern, spelled_many, deleting_or_asking, running}
use Rattle.line_text.proofs.command.match_deleting_or_asking.Goals as goal

del_read : (text rest : List ℕ) → begins (codes "del ") text ≡ true → rest ≡ drop 4 text → deleting_or_asking text ≡ naming Del (spelled_path rest)
unfolding deleting_or_asking
del_read text rest e is = cond-true _ _ _ e ∙ ap (λ (r : List ℕ). naming Del (spelled_path r)) (sym is)

delmany_read : (text rest : List ℕ) → begins (codes "del ") text ≡ false → begins (codes "delmany ") text ≡ true → rest ≡ drop 8 text → deleting_or_asking text ≡ scanning Delmany (spelled_pattern rest)
unfolding deleting_or_asking
delmany_read text rest n0 e is = cond-false _ _ _ n0 ∙ (cond-true _ _ _ e ∙ ap (λ (r : List ℕ). scanning Delmany (spelled_pattern r)) (sym is))

get_read : (text rest : List ℕ) → begins (codes "del ") text ≡ false → begins (codes "delmany ") text ≡ false → begins (codes "get ") text ≡ true → rest ≡ drop 4 text → deleting_or_asking text ≡ naming Get (spelled_path rest)
unfolding deleting_or_asking
get_read text rest n0 n1 e is = cond-false _ _ _ n0 ∙ (cond-false _ _ _ n1 ∙ (cond-true _ _ _ e ∙ ap (λ (r : List ℕ). naming Get (spelled_path r)) (sym is)))

many_read : (text rest : List ℕ) → begins (codes "del ") text ≡ false → begins (codes "delmany ") text ≡ false → begins (codes "get ") text ≡ false → begins (codes "many ") text ≡ true → rest ≡ drop 5 text → deleting_or_asking text ≡ spelled_many rest
unfolding deleting_or_asking
many_read text rest n0 n1 n2 e is = cond-false _ _ _ n0 ∙ (cond-false _ _ _ n1 ∙ (cond-false _ _ _ n2 ∙ (cond-true _ _ _ e ∙ ap (λ (r : List ℕ). spelled_many r) (sym is))))

count_read : (text rest : List ℕ) → begins (codes "del ") text ≡ false → begins (codes "delmany ") text ≡ false → begins (codes "get ") text ≡ false → begins (codes "many ") text ≡ false → begins (codes "count ") text ≡ true → rest ≡ drop 6 text → deleting_or_asking text ≡ scanning Count (spelled_pattern rest)
unfolding deleting_or_asking
count_read text rest n0 n1 n2 n3 e is = cond-false _ _ _ n0 ∙ (cond-false _ _ _ n1 ∙ (cond-false _ _ _ n2 ∙ (cond-false _ _ _ n3 ∙ (cond-true _ _ _ e ∙ ap (λ (r : List ℕ). scanning Count (spelled_pattern r)) (sym is)))))

third_read : (text : List ℕ) → begins (codes "del ") text ≡ false → begins (codes "delmany ") text ≡ false → begins (codes "get ") text ≡ false → begins (codes "many ") text ≡ false → begins (codes "count ") text ≡ false → deleting_or_asking text ≡ running text
unfolding deleting_or_asking
third_read text n0 n1 n2 n3 n4 = cond-false _ _ _ n0 ∙ (cond-false _ _ _ n1 ∙ (cond-false _ _ _ n2 ∙ (cond-false _ _ _ n3 ∙ (cond-false _ _ _ n4))))

pub returns-in-Some-clause-value : goal.returns-in-Some-clause-value
returns-in-Some-clause-value c = del_read c.args.text.now c.in-Some.rest.now c.in-Some.ensures.0 c.in-Some.ensures.1 ∙ ap (naming Del) c.in_ok-path.ensures.value

pub returns-in_err-path-clause-bad : goal.returns-in_err-path-clause-bad
returns-in_err-path-clause-bad c =
    let p = err_from_is_err_and c.from_residual.result c.from_residual.ensures.1 in
    rw (p.1, p.2) (λ h. del_read c.args.text.now c.in-Some.rest.now c.in-Some.ensures.0 c.in-Some.ensures.1 ∙ ap (naming Del) (c.in_err-path.ensures.bad (ap (λ (d : TextFault). Err d) (err_is c.in_err-path.field-0.0 Bad h))))

pub returns-in-Some-strip-clause-value : goal.returns-in-Some-strip-clause-value
returns-in-Some-strip-clause-value c = delmany_read c.args.text.now c.in-Some-strip.rest.now c.in_default.ensures c.in-Some-strip.ensures.0 c.in-Some-strip.ensures.1 ∙ ap (scanning Delmany) c.in_ok-pattern.ensures.value

pub returns-in_err-pattern-clause-bad : goal.returns-in_err-pattern-clause-bad
returns-in_err-pattern-clause-bad c =
    let p = err_from_is_err_and c.from_residual-in_err-pattern.result c.from_residual-in_err-pattern.ensures.1 in
    rw (p.1, p.2) (λ h. delmany_read c.args.text.now c.in-Some-strip.rest.now c.in_default.ensures c.in-Some-strip.ensures.0 c.in-Some-strip.ensures.1 ∙ ap (scanning Delmany) (c.in_err-pattern.ensures.bad (ap (λ (d : TextFault). Err d) (err_is c.in_err-pattern.field-0.0 Bad h))))

pub returns-in-Some-strip-2-clause-value : goal.returns-in-Some-strip-2-clause-value
returns-in-Some-strip-2-clause-value c = get_read c.args.text.now c.in-Some-strip-2.rest.now c.in_default.ensures c.in_default-strip.ensures c.in-Some-strip-2.ensures.0 c.in-Some-strip-2.ensures.1 ∙ ap (naming Get) c.in_ok-path-2.ensures.value

pub returns-in_err-path-2-clause-bad : goal.returns-in_err-path-2-clause-bad
returns-in_err-path-2-clause-bad c =
    let p = err_from_is_err_and c.from_residual-in_err-path-2.result c.from_residual-in_err-path-2.ensures.1 in
    rw (p.1, p.2) (λ h. get_read c.args.text.now c.in-Some-strip-2.rest.now c.in_default.ensures c.in_default-strip.ensures c.in-Some-strip-2.ensures.0 c.in-Some-strip-2.ensures.1 ∙ ap (naming Get) (c.in_err-path-2.ensures.bad (ap (λ (d : TextFault). Err d) (err_is c.in_err-path-2.field-0.0 Bad h))))

pub returns-in-Some-strip-3-clause-value : goal.returns-in-Some-strip-3-clause-value
returns-in-Some-strip-3-clause-value c = IfOk-weaker c.read_many.result _ _ (λ x e. many_read c.args.text.now c.in-Some-strip-3.rest.now c.in_default.ensures c.in_default-strip.ensures c.in_default-strip-2.ensures c.in-Some-strip-3.ensures.0 c.in-Some-strip-3.ensures.1 ∙ e) c.read_many.ensures.value

pub returns-in-Some-strip-3-clause-bad : goal.returns-in-Some-strip-3-clause-bad
returns-in-Some-strip-3-clause-bad c = λ e. many_read c.args.text.now c.in-Some-strip-3.rest.now c.in_default.ensures c.in_default-strip.ensures c.in_default-strip-2.ensures c.in-Some-strip-3.ensures.0 c.in-Some-strip-3.ensures.1 ∙ c.read_many.ensures.bad e

pub returns-in-Some-strip-4-clause-value : goal.returns-in-Some-strip-4-clause-value
returns-in-Some-strip-4-clause-value c = count_read c.args.text.now c.in-Some-strip-4.rest.now c.in_default.ensures c.in_default-strip.ensures c.in_default-strip-2.ensures c.in_default-strip-3.ensures c.in-Some-strip-4.ensures.0 c.in-Some-strip-4.ensures.1 ∙ ap (scanning Count) c.in_ok-pattern-2.ensures.value

pub returns-in_err-pattern-2-clause-bad : goal.returns-in_err-pattern-2-clause-bad
returns-in_err-pattern-2-clause-bad c =
    let p = err_from_is_err_and c.from_residual-in_err-pattern-2.result c.from_residual-in_err-pattern-2.ensures.1 in
    rw (p.1, p.2) (λ h. count_read c.args.text.now c.in-Some-strip-4.rest.now c.in_default.ensures c.in_default-strip.ensures c.in_default-strip-2.ensures c.in_default-strip-3.ensures c.in-Some-strip-4.ensures.0 c.in-Some-strip-4.ensures.1 ∙ ap (scanning Count) (c.in_err-pattern-2.ensures.bad (ap (λ (d : TextFault). Err d) (err_is c.in_err-pattern-2.field-0.0 Bad h))))

pub returns-clause-value : goal.returns-clause-value
returns-clause-value c = IfOk-weaker c.match_running.result _ _ (λ x e. third_read c.args.text.now c.in_default.ensures c.in_default-strip.ensures c.in_default-strip-2.ensures c.in_default-strip-3.ensures c.in_default-strip-4.ensures ∙ e) c.match_running.ensures.value

pub returns-clause-bad : goal.returns-clause-bad
returns-clause-bad c = λ e. third_read c.args.text.now c.in_default.ensures c.in_default-strip.ensures c.in_default-strip-2.ensures c.in_default-strip-3.ensures c.in_default-strip-4.ensures ∙ c.match_running.ensures.bad e
