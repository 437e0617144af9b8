use Rattle.std.proofs.Common.{◌-◌, ◌∷◌, [], Bool, length, ap, ◌∙◌, Some, Err, arith}
use Rattle.khepri_terms.specs.declared.fault.TextFault.{TextFault}
use Rattle.khepri_terms.specs.declared.fault.TextFault.TheVariants.{Bad}
use Rattle.khepri_terms.proofs.Cases.{err_is}
use Rattle.std.proofs.lemmas.List.{length-append}
use Rattle.std.proofs.lemmas.Result.{IfOk-weaker, err_from_is_err_and}
use Rattle.khepri_types.specs.ReadingConditions.{nested_at, some_asked}
use Rattle.condition_text.proofs.Parts.{nested_none, left_none, nested_step, parts_past, parts_none, parts_odd, parts_last, parts_on, parts_fail}
use Rattle.condition_text.proofs.Layers.{layer_not, layer_all, layer_any, layer_atom}
use Rattle.condition_text.proofs.condition.+reading.Goals as goal

pub read_layer-returns-in-Some-clause-value : goal.read_layer-returns-in-Some-clause-value
read_layer-returns-in-Some-clause-value t c = IfOk-weaker c.read_not_asked.result _ _ (λ x e. layer_not (nested_at c.args.nesting) c.args.left c.args.text.now c.in-Some.rest.now c.in-Some.ensures.0 c.in-Some.ensures.1 ∙ e) c.read_not_asked.ensures.value

pub read_layer-returns-in-Some-clause-bad : goal.read_layer-returns-in-Some-clause-bad
read_layer-returns-in-Some-clause-bad t c = λ e. layer_not (nested_at c.args.nesting) c.args.left c.args.text.now c.in-Some.rest.now c.in-Some.ensures.0 c.in-Some.ensures.1 ∙ c.read_not_asked.ensures.bad e

pub read_layer-returns-in-Some-strip-clause-value : goal.read_layer-returns-in-Some-strip-clause-value
read_layer-returns-in-Some-strip-clause-value t c = IfOk-weaker c.read_all_asked.result _ _ (λ x e. layer_all (nested_at c.args.nesting) c.args.left c.args.text.now c.in-Some-strip.rest.now c.in-Some-strip.ensures.0 c.in-Some-strip.ensures.1 ∙ e) c.read_all_asked.ensures.value

pub read_layer-returns-in-Some-strip-clause-bad : goal.read_layer-returns-in-Some-strip-clause-bad
read_layer-returns-in-Some-strip-clause-bad t c = λ e. layer_all (nested_at c.args.nesting) c.args.left c.args.text.now c.in-Some-strip.rest.now c.in-Some-strip.ensures.0 c.in-Some-strip.ensures.1 ∙ c.read_all_asked.ensures.bad e

pub read_layer-returns-in-Some-strip-2-clause-value : goal.read_layer-returns-in-Some-strip-2-clause-value
read_layer-returns-in-Some-strip-2-clause-value t c = IfOk-weaker c.read_any_asked.result _ _ (λ x e. layer_any (nested_at c.args.nesting) c.args.left c.args.text.now c.in-Some-strip-2.rest.now c.in-Some-strip-2.ensures.0 c.in-Some-strip-2.ensures.1 ∙ e) c.read_any_asked.ensures.value

pub read_layer-returns-in-Some-strip-2-clause-bad : goal.read_layer-returns-in-Some-strip-2-clause-bad
read_layer-returns-in-Some-strip-2-clause-bad t c = λ e. layer_any (nested_at c.args.nesting) c.args.left c.args.text.now c.in-Some-strip-2.rest.now c.in-Some-strip-2.ensures.0 c.in-Some-strip-2.ensures.1 ∙ c.read_any_asked.ensures.bad e

pub read_layer-returns-clause-value : goal.read_layer-returns-clause-value
read_layer-returns-clause-value t c =
    IfOk-weaker c.read_atom.result _ _ (λ x e. layer_atom (nested_at c.args.nesting) c.args.left c.args.text.now c.in_default.ensures c.in_default-strip.ensures c.in_default-strip-2.ensures ∙ e)
    c.read_atom.ensures.value

pub read_layer-returns-clause-bad : goal.read_layer-returns-clause-bad
read_layer-returns-clause-bad t c = λ e. layer_atom (nested_at c.args.nesting) c.args.left c.args.text.now c.in_default.ensures c.in_default-strip.ensures c.in_default-strip-2.ensures ∙ c.read_atom.ensures.bad e

pub read_nested-returns-then-nesting-eq0-clause-bad : goal.read_nested-returns-then-nesting-eq0-clause-bad
read_nested-returns-then-nesting-eq0-clause-bad t c = λ _. nested_none c.args.nesting c.args.left c.args.text.now (omega arith)

pub read_nested-returns-then-left-eq0-clause-bad : goal.read_nested-returns-then-left-eq0-clause-bad
read_nested-returns-then-left-eq0-clause-bad t c = λ _. left_none c.args.nesting c.args.left c.args.text.now (omega arith)

pub read_nested-returns-clause-value : goal.read_nested-returns-clause-value
read_nested-returns-clause-value t c = rw (nested_step c.args.nesting c.args.left c.args.text.now (omega arith) (omega arith)) c.read_layer.ensures.value

pub read_nested-returns-clause-bad : goal.read_nested-returns-clause-bad
read_nested-returns-clause-bad t c = λ e. nested_step c.args.nesting c.args.left c.args.text.now (omega arith) (omega arith) ∙ c.read_layer.ensures.bad e

pub read_parts-returns-clause-bad : goal.read_parts-returns-clause-bad
read_parts-returns-clause-bad t c =
    let inner = nested_at c.args.nesting in
    let k = c.args.left - length c.parts.parts in
    λ _. parts_fail (some_asked inner c.args.left c.args.left c.args.text.now) (some_asked inner k c.parts.more c.parts.rest.now) c.parts.parts (parts_past inner k c.parts.more c.parts.rest.now (omega arith)) c.parts.invariant.read

pub read_parts-returns-in_err-part-clause-bad : goal.read_parts-returns-in_err-part-clause-bad
read_parts-returns-in_err-part-clause-bad t c =
    let inner = nested_at c.args.nesting in
    let k = c.args.left - length c.parts.parts in
    let p = err_from_is_err_and c.from_residual.result c.from_residual.ensures.1 in
    rw (p.1, p.2) (λ h. parts_fail (some_asked inner c.args.left c.args.left c.args.text.now) (some_asked inner k c.parts.more c.parts.rest.now) c.parts.parts (parts_none inner k c.parts.more c.parts.rest.now (c.in_err-part.ensures.bad (ap (λ (d : TextFault). Err d) (err_is c.in_err-part.field-0.0 Bad h)))) c.parts.invariant.read)

pub read_parts-returns-in_err-is_last-clause-bad : goal.read_parts-returns-in_err-is_last-clause-bad
read_parts-returns-in_err-is_last-clause-bad t c =
    let inner = nested_at c.args.nesting in
    let k = c.args.left - length c.parts.parts in
    let p = err_from_is_err_and c.from_residual-in_err-is_last.result c.from_residual-in_err-is_last.ensures.1 in
    rw (p.1, p.2) (λ h. parts_fail (some_asked inner c.args.left c.args.left c.args.text.now) (some_asked inner k c.parts.more c.parts.rest.now) c.parts.parts
    (parts_odd inner k c.parts.more c.in_ok-part.fewer c.parts.rest.now c.in_ok-part.after.now c.in_ok-part.part c.in_ok-part.ensures.value (c.in_err-is_last.ensures.bad (ap (λ (d : TextFault). Err d) (err_is c.in_err-is_last.field-0.0 Bad h)))) c.parts.invariant.read)

pub read_parts-returns-then-is_last-clause-value : goal.read_parts-returns-then-is_last-clause-value
read_parts-returns-then-is_last-clause-value t c =
    let inner = nested_at c.args.nesting in
    parts_last inner (some_asked inner c.args.left c.args.left c.args.text.now) c.args.left c.parts.more c.in_ok-part.fewer c.parts.parts c.push.new.self c.in_ok-part.part c.parts.rest.now c.in_ok-part.after.now c.in_ok-is_last.next.now (omega arith) c.in_ok-part.ensures.value
    (c.in_ok-is_last.ensures.value ∙ ap (λ (b : Bool). Some (b, c.in_ok-is_last.next.now)) c.if-is_last.true) c.in_ok-push.ensures.ok c.parts.invariant.read

pub read_parts-parts-preserved : goal.read_parts-parts-preserved
read_parts-parts-preserved t c =
    let inner = nested_at c.args.nesting in
    record {
      read = parts_on inner (some_asked inner c.args.left c.args.left c.args.text.now) c.args.left c.parts.more c.in_ok-part.fewer c.parts.parts c.push.new.self c.in_ok-part.part c.parts.rest.now c.in_ok-part.after.now c.in_ok-is_last.next.now (omega arith) c.in_ok-part.ensures.value
          (c.in_ok-is_last.ensures.value ∙ ap (λ (b : Bool). Some (b, c.in_ok-is_last.next.now)) c.if-is_last.false) c.in_ok-push.ensures.ok c.parts.invariant.read;
      few = omega (arith, ap length c.in_ok-push.ensures.ok, length-append c.parts.parts (c.in_ok-part.part ∷ []));
    }
