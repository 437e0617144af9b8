use Rattle.std.proofs.Common.{◌≡◌, ◌∙◌, ℕ, List, ap, arith}
use Rattle.std.proofs.lemmas.Result.{IfOk-weaker}
use Rattle.khepri_types.specs.declared.script_words.ExprWord.{ExprWord}
use Rattle.khepri_types.specs.ReadingScripts.{arguments_at, nested_expr_at}
use Rattle.script_text.proofs.Nesting.{nested_none, left_none, nested_step}
use Rattle.script_text.proofs.expression.+reading.Goals as goal

pub read_nested-returns-then-nesting-eq0-clause-bad : goal.read_nested-returns-then-nesting-eq0-clause-bad
read_nested-returns-then-nesting-eq0-clause-bad t c = λ _. nested_none c.args.nesting c.args.left c.args.text.now (omega arith)

pub read_nested-returns-then-left-eq0-clause-bad : goal.read_nested-returns-then-left-eq0-clause-bad
read_nested-returns-then-left-eq0-clause-bad t c = λ _. left_none c.args.nesting c.args.left c.args.text.now (omega arith)

pub read_nested-returns-clause-value : goal.read_nested-returns-clause-value
read_nested-returns-clause-value t c = rw (nested_step c.args.nesting c.args.left c.args.text.now (omega arith) (omega arith)) c.read_layer.ensures.value

pub read_nested-returns-clause-bad : goal.read_nested-returns-clause-bad
read_nested-returns-clause-bad t c = λ e. nested_step c.args.nesting c.args.left c.args.text.now (omega arith) (omega arith) ∙ c.read_layer.ensures.bad e

of_word : (n left : ℕ) (text : List ℕ) (v w : ExprWord) → v ≡ w → arguments_at (nested_expr_at n) v left text ≡ arguments_at (nested_expr_at n) w left text
of_word n left text v w is = ap (λ (u : ExprWord). arguments_at (nested_expr_at n) u left text) is

pub read_arguments-returns-in-Pair-clause-value : goal.read_arguments-returns-in-Pair-clause-value
read_arguments-returns-in-Pair-clause-value t c = IfOk-weaker c.read_pair_form.result _ _ (λ x e. of_word _ _ _ _ _ c.in-Pair.is ∙ e) c.read_pair_form.ensures.value

pub read_arguments-returns-in-Pair-clause-bad : goal.read_arguments-returns-in-Pair-clause-bad
read_arguments-returns-in-Pair-clause-bad t c = λ e. of_word _ _ _ _ _ c.in-Pair.is ∙ c.read_pair_form.ensures.bad e

pub read_arguments-returns-in-One-clause-value : goal.read_arguments-returns-in-One-clause-value
read_arguments-returns-in-One-clause-value t c = IfOk-weaker c.read_one_form.result _ _ (λ x e. of_word _ _ _ _ _ c.in-One.is ∙ e) c.read_one_form.ensures.value

pub read_arguments-returns-in-One-clause-bad : goal.read_arguments-returns-in-One-clause-bad
read_arguments-returns-in-One-clause-bad t c = λ e. of_word _ _ _ _ _ c.in-One.is ∙ c.read_one_form.ensures.bad e

pub read_arguments-returns-in-Int-clause-value : goal.read_arguments-returns-in-Int-clause-value
read_arguments-returns-in-Int-clause-value t c = IfOk-weaker c.read_int_field.result _ _ (λ x e. of_word _ _ _ _ _ c.in-Int.is ∙ e) c.read_int_field.ensures.value

pub read_arguments-returns-in-Int-clause-bad : goal.read_arguments-returns-in-Int-clause-bad
read_arguments-returns-in-Int-clause-bad t c = λ e. of_word _ _ _ _ _ c.in-Int.is ∙ c.read_int_field.ensures.bad e

pub read_arguments-returns-in-Text-clause-value : goal.read_arguments-returns-in-Text-clause-value
read_arguments-returns-in-Text-clause-value t c = IfOk-weaker c.read_text_field.result _ _ (λ x e. of_word _ _ _ _ _ c.in-Text.is ∙ e) c.read_text_field.ensures.value

pub read_arguments-returns-in-Text-clause-bad : goal.read_arguments-returns-in-Text-clause-bad
read_arguments-returns-in-Text-clause-bad t c = λ e. of_word _ _ _ _ _ c.in-Text.is ∙ c.read_text_field.ensures.bad e

pub read_arguments-returns-in-With-clause-value : goal.read_arguments-returns-in-With-clause-value
read_arguments-returns-in-With-clause-value t c = IfOk-weaker c.read_with.result _ _ (λ x e. of_word _ _ _ _ _ c.in-With.is ∙ e) c.read_with.ensures.value

pub read_arguments-returns-in-With-clause-bad : goal.read_arguments-returns-in-With-clause-bad
read_arguments-returns-in-With-clause-bad t c = λ e. of_word _ _ _ _ _ c.in-With.is ∙ c.read_with.ensures.bad e

pub read_arguments-returns-in-Test-clause-value : goal.read_arguments-returns-in-Test-clause-value
read_arguments-returns-in-Test-clause-value t c = IfOk-weaker c.read_test.result _ _ (λ x e. of_word _ _ _ _ _ c.in-Test.is ∙ e) c.read_test.ensures.value

pub read_arguments-returns-in-Test-clause-bad : goal.read_arguments-returns-in-Test-clause-bad
read_arguments-returns-in-Test-clause-bad t c = λ e. of_word _ _ _ _ _ c.in-Test.is ∙ c.read_test.ensures.bad e
