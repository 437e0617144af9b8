use Rattle.std.proofs.Common.{List, ap, sym, ◌∙◌, Some, Err, arith}
use Rattle.std.proofs.lemmas.Result.{err_from_is_err_and}
use Rattle.khepri_terms.specs.declared.fault.TextFault.{TextFault}
use Rattle.khepri_terms.specs.declared.fault.TextFault.TheVariants.{Bad}
use Rattle.khepri_terms.proofs.Cases.{err_is}
use Rattle.khepri_types.specs.declared.pattern.PatternPart.{PatternPart}
use Rattle.condition_text.proofs.Stages.{pattern_root, pattern_odd}
use Rattle.condition_text.proofs.pattern.match_pattern.Goals as goal

pub returns-in_err-after-clause-bad : goal.returns-in_err-after-clause-bad
returns-in_err-after-clause-bad c =
    let p = err_from_is_err_and c.from_residual-in_err-after.result c.from_residual-in_err-after.ensures.1 in
    rw (p.1, p.2) (λ h. pattern_odd c.args.text.now c.in_ok-parts.parts.items c.in_ok-parts.rest.now c.in_ok-parts.ensures.value (omega arith) (c.in_err-after.ensures.bad (ap (λ (d : TextFault). Err d) (err_is c.in_err-after.field-0.0 Bad h))))

pub returns-then-len-eq0-clause-value : goal.returns-then-len-eq0-clause-value
returns-then-len-eq0-clause-value c =
    pattern_root c.args.text.now c.in_ok-parts.parts.items c.in_ok-parts.rest.now c.in_ok-after.after.now c.in_ok-parts.ensures.value (omega arith) c.in_ok-after.ensures.value
    ∙ ap (λ (v : List PatternPart). Some (v, c.in_ok-after.after.now)) (sym c.from_vec.ensures)
