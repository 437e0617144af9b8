use Rattle.std.proofs.Common.{◌≡◌, ◌-◌, ◌∷◌, [], ℕ, List, Bool, length, ap, ◌∙◌, Some, Err, arith}
use Rattle.khepri_terms.specs.declared.fault.TextFault.{TextFault}
use Rattle.khepri_terms.specs.declared.fault.TextFault.TheVariants.{Bad}
use Rattle.khepri_terms.proofs.Cases.{err_is}
use Rattle.std.proofs.lemmas.List.{length-append}
use Rattle.std.proofs.lemmas.Result.{IfOk-weaker, err_from_is_err_and}
use Rattle.khepri_types.specs.declared.script_words.StatementWord.{StatementWord}
use Rattle.khepri_types.specs.Items.{some_items}
use Rattle.khepri_types.specs.ReadingScripts.{block_at, statement_arguments}
use Rattle.script_text.specs.Forms.{statement_in}
use Rattle.script_text.proofs.Nesting.{block_none, block_step, statement_none, statement_step}
use Rattle.script_text.proofs.Lists.{items_past, items_none, items_odd, items_last, items_on, items_fail}
use Rattle.script_text.proofs.statement.+reading.Goals as goal

pub read_block-returns-then-nesting-eq0-clause-bad : goal.read_block-returns-then-nesting-eq0-clause-bad
read_block-returns-then-nesting-eq0-clause-bad t c = λ _. block_none c.args.nesting c.args.close c.args.left c.args.text.now (omega arith)

pub read_block-returns-clause-value : goal.read_block-returns-clause-value
read_block-returns-clause-value t c = rw (block_step c.args.nesting c.args.close c.args.left c.args.text.now (omega arith)) c.read_items.ensures.value

pub read_block-returns-clause-bad : goal.read_block-returns-clause-bad
read_block-returns-clause-bad t c = λ e. block_step c.args.nesting c.args.close c.args.left c.args.text.now (omega arith) ∙ c.read_items.ensures.bad e

pub read_statement-returns-then-left-eq0-clause-bad : goal.read_statement-returns-then-left-eq0-clause-bad
read_statement-returns-then-left-eq0-clause-bad t c = λ _. statement_none c.args.nesting c.args.left c.args.text.now (omega arith)

pub read_statement-returns-clause-value : goal.read_statement-returns-clause-value
read_statement-returns-clause-value t c = rw (statement_step c.args.nesting c.args.left c.args.text.now (omega arith)) c.read_worded.ensures.value

pub read_statement-returns-clause-bad : goal.read_statement-returns-clause-bad
read_statement-returns-clause-bad t c = λ e. statement_step c.args.nesting c.args.left c.args.text.now (omega arith) ∙ c.read_worded.ensures.bad e

pub read_statements-returns-clause-bad : goal.read_statements-returns-clause-bad
read_statements-returns-clause-bad t c =
    let item = statement_in c.args.nesting in
    let k = c.args.left - length c.statements.block in
    λ _. items_fail (some_items c.args.close item c.args.left c.args.left c.args.text.now) (some_items c.args.close item k c.statements.more c.statements.rest.now) c.statements.block (items_past c.args.close item k c.statements.more c.statements.rest.now (omega arith)) c.statements.invariant.read

pub read_statements-returns-in_err-one-clause-bad : goal.read_statements-returns-in_err-one-clause-bad
read_statements-returns-in_err-one-clause-bad t c =
    let item = statement_in c.args.nesting in
    let k = c.args.left - length c.statements.block in
    let p = err_from_is_err_and c.from_residual.result c.from_residual.ensures.1 in
    rw (p.1, p.2) (λ h. items_fail (some_items c.args.close item c.args.left c.args.left c.args.text.now) (some_items c.args.close item k c.statements.more c.statements.rest.now) c.statements.block (items_none c.args.close item k c.statements.more c.statements.rest.now (c.in_err-one.ensures.bad (ap (λ (d : TextFault). Err d) (err_is c.in_err-one.field-0.0 Bad h)))) c.statements.invariant.read)

pub read_statements-returns-in_err-is_last-clause-bad : goal.read_statements-returns-in_err-is_last-clause-bad
read_statements-returns-in_err-is_last-clause-bad t c =
    let item = statement_in c.args.nesting in
    let k = c.args.left - length c.statements.block in
    let p = err_from_is_err_and c.from_residual-in_err-is_last.result c.from_residual-in_err-is_last.ensures.1 in
    rw (p.1, p.2) (λ h. items_fail (some_items c.args.close item c.args.left c.args.left c.args.text.now) (some_items c.args.close item k c.statements.more c.statements.rest.now) c.statements.block
    (items_odd c.args.close item k c.statements.more c.in_ok-one.fewer c.statements.rest.now c.in_ok-one.after.now c.in_ok-one.one c.in_ok-one.ensures.value (c.in_err-is_last.ensures.bad (ap (λ (d : TextFault). Err d) (err_is c.in_err-is_last.field-0.0 Bad h)))) c.statements.invariant.read)

pub read_statements-returns-then-is_last-clause-value : goal.read_statements-returns-then-is_last-clause-value
read_statements-returns-then-is_last-clause-value t c =
    let item = statement_in c.args.nesting in
    items_last c.args.close item (some_items c.args.close item c.args.left c.args.left c.args.text.now) c.args.left c.statements.more c.in_ok-one.fewer c.statements.block c.push.new.self c.in_ok-one.one c.statements.rest.now c.in_ok-one.after.now c.in_ok-is_last.next.now (omega arith) c.in_ok-one.ensures.value
    (c.in_ok-is_last.ensures.value ∙ ap (λ (b : Bool). Some (b, c.in_ok-is_last.next.now)) c.if-is_last.true) c.in_ok-push.ensures.ok c.statements.invariant.read

pub read_statements-statements-preserved : goal.read_statements-statements-preserved
read_statements-statements-preserved t c =
    let item = statement_in c.args.nesting in
    record {
      read = items_on c.args.close item (some_items c.args.close item c.args.left c.args.left c.args.text.now) c.args.left c.statements.more c.in_ok-one.fewer c.statements.block c.push.new.self c.in_ok-one.one c.statements.rest.now c.in_ok-one.after.now c.in_ok-is_last.next.now (omega arith) c.in_ok-one.ensures.value
          (c.in_ok-is_last.ensures.value ∙ ap (λ (b : Bool). Some (b, c.in_ok-is_last.next.now)) c.if-is_last.false) c.in_ok-push.ensures.ok c.statements.invariant.read;
      few = omega (arith, ap length c.in_ok-push.ensures.ok, length-append c.statements.block (c.in_ok-one.one ∷ []));
    }

of_word : (n left : ℕ) (text : List ℕ) (v w : StatementWord) → v ≡ w → statement_arguments (block_at n 125) v left text ≡ statement_arguments (block_at n 125) w left text
of_word n left text v w is = ap (λ (u : StatementWord). statement_arguments (block_at n 125) u left text) is

pub read_arguments-returns-in-Deed-clause-value : goal.read_arguments-returns-in-Deed-clause-value
unfolding statement_arguments
read_arguments-returns-in-Deed-clause-value t c = IfOk-weaker c.read_deed.result _ _ (λ x e. of_word _ _ _ _ _ c.in-Deed.is ∙ e) c.read_deed.ensures.value

pub read_arguments-returns-in-Deed-clause-bad : goal.read_arguments-returns-in-Deed-clause-bad
unfolding statement_arguments
read_arguments-returns-in-Deed-clause-bad t c = λ e. of_word _ _ _ _ _ c.in-Deed.is ∙ c.read_deed.ensures.bad e

pub read_arguments-returns-in-Let-clause-value : goal.read_arguments-returns-in-Let-clause-value
unfolding statement_arguments
read_arguments-returns-in-Let-clause-value t c = IfOk-weaker c.read_let.result _ _ (λ x e. of_word _ _ _ _ _ c.in-Let.is ∙ e) c.read_let.ensures.value

pub read_arguments-returns-in-Let-clause-bad : goal.read_arguments-returns-in-Let-clause-bad
unfolding statement_arguments
read_arguments-returns-in-Let-clause-bad t c = λ e. of_word _ _ _ _ _ c.in-Let.is ∙ c.read_let.ensures.bad e

pub read_arguments-returns-in-Put-clause-value : goal.read_arguments-returns-in-Put-clause-value
unfolding statement_arguments
read_arguments-returns-in-Put-clause-value t c = IfOk-weaker c.read_put.result _ _ (λ x e. of_word _ _ _ _ _ c.in-Put.is ∙ e) c.read_put.ensures.value

pub read_arguments-returns-in-Put-clause-bad : goal.read_arguments-returns-in-Put-clause-bad
unfolding statement_arguments
read_arguments-returns-in-Put-clause-bad t c = λ e. of_word _ _ _ _ _ c.in-Put.is ∙ c.read_put.ensures.bad e

pub read_arguments-returns-in-Hold-clause-value : goal.read_arguments-returns-in-Hold-clause-value
unfolding statement_arguments
read_arguments-returns-in-Hold-clause-value t c = IfOk-weaker c.read_hold.result _ _ (λ x e. of_word _ _ _ _ _ c.in-Hold.is ∙ e) c.read_hold.ensures.value

pub read_arguments-returns-in-Hold-clause-bad : goal.read_arguments-returns-in-Hold-clause-bad
unfolding statement_arguments
read_arguments-returns-in-Hold-clause-bad t c = λ e. of_word _ _ _ _ _ c.in-Hold.is ∙ c.read_hold.ensures.bad e

pub read_arguments-returns-in-If-clause-value : goal.read_arguments-returns-in-If-clause-value
read_arguments-returns-in-If-clause-value t c = IfOk-weaker c.read_if.result _ _ (λ x e. of_word _ _ _ _ _ c.in-If.is ∙ e) c.read_if.ensures.value

pub read_arguments-returns-in-If-clause-bad : goal.read_arguments-returns-in-If-clause-bad
read_arguments-returns-in-If-clause-bad t c = λ e. of_word _ _ _ _ _ c.in-If.is ∙ c.read_if.ensures.bad e

pub read_arguments-returns-in-Each-clause-value : goal.read_arguments-returns-in-Each-clause-value
read_arguments-returns-in-Each-clause-value t c = IfOk-weaker c.read_each.result _ _ (λ x e. of_word _ _ _ _ _ c.in-Each.is ∙ e) c.read_each.ensures.value

pub read_arguments-returns-in-Each-clause-bad : goal.read_arguments-returns-in-Each-clause-bad
read_arguments-returns-in-Each-clause-bad t c = λ e. of_word _ _ _ _ _ c.in-Each.is ∙ c.read_each.ensures.bad e
