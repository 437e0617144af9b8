use Rattle.std.proofs.Common.{◌≡◌, ℕ, true, false, List, drop, sym, ap, ◌∙◌, codes}
use Rattle.std.proofs.lemmas.Bool.{cond-true, cond-false}
use Rattle.std.proofs.lemmas.Result.{IfOk-weaker}
use Rattle.khepri_types.specs.Words.{begins}
use Rattle.khepri_types.specs.ReadingOut.{node_at, nodes_at, done_at, spelled_no, spelled_reply}
use Rattle.line_text.proofs.reply.read_reply.Goals as goal

node_read : (text rest : List ℕ) → begins (codes "ok ") text ≡ false → begins (codes "node ") text ≡ true → rest ≡ drop 5 text → spelled_reply text ≡ node_at rest
unfolding spelled_reply
node_read text rest n0 e is = cond-false _ _ _ n0 ∙ (cond-true _ _ _ e ∙ ap (λ (r : List ℕ). node_at r) (sym is))

nodes_read : (text rest : List ℕ) → begins (codes "ok ") text ≡ false → begins (codes "node ") text ≡ false → begins (codes "nodes ") text ≡ true → rest ≡ drop 6 text → spelled_reply text ≡ nodes_at rest
unfolding spelled_reply
nodes_read text rest n0 n1 e is = cond-false _ _ _ n0 ∙ (cond-false _ _ _ n1 ∙ (cond-true _ _ _ e ∙ ap (λ (r : List ℕ). nodes_at r) (sym is)))

done_read : (text rest : List ℕ) → begins (codes "ok ") text ≡ false → begins (codes "node ") text ≡ false → begins (codes "nodes ") text ≡ false → begins (codes "count ") text ≡ false → begins (codes "done ") text ≡ true → rest ≡ drop 5 text → spelled_reply text ≡ done_at rest
unfolding spelled_reply
done_read text rest n0 n1 n2 n3 e is = cond-false _ _ _ n0 ∙ (cond-false _ _ _ n1 ∙ (cond-false _ _ _ n2 ∙ (cond-false _ _ _ n3 ∙ (cond-true _ _ _ e ∙ ap (λ (r : List ℕ). done_at r) (sym is)))))

no_read : (text : List ℕ) → begins (codes "ok ") text ≡ false → begins (codes "node ") text ≡ false → begins (codes "nodes ") text ≡ false → begins (codes "count ") text ≡ false → begins (codes "done ") text ≡ false → spelled_reply text ≡ spelled_no text
unfolding spelled_reply
no_read text n0 n1 n2 n3 n4 = cond-false _ _ _ n0 ∙ (cond-false _ _ _ n1 ∙ (cond-false _ _ _ n2 ∙ (cond-false _ _ _ n3 ∙ (cond-false _ _ _ n4))))

pub returns-in-Some-strip-clause-value : goal.returns-in-Some-strip-clause-value
returns-in-Some-strip-clause-value c = IfOk-weaker c.read_node.result _ _ (λ x e. node_read c.args.text.now c.in-Some-strip.rest.now c.in_default.ensures c.in-Some-strip.ensures.0 c.in-Some-strip.ensures.1 ∙ e) c.read_node.ensures.value

pub returns-in-Some-strip-clause-bad : goal.returns-in-Some-strip-clause-bad
returns-in-Some-strip-clause-bad c = λ e. node_read c.args.text.now c.in-Some-strip.rest.now c.in_default.ensures c.in-Some-strip.ensures.0 c.in-Some-strip.ensures.1 ∙ c.read_node.ensures.bad e

pub returns-in-Some-strip-2-clause-value : goal.returns-in-Some-strip-2-clause-value
returns-in-Some-strip-2-clause-value c = IfOk-weaker c.read_nodes.result _ _ (λ x e. nodes_read c.args.text.now c.in-Some-strip-2.rest.now c.in_default.ensures c.in_default-strip.ensures c.in-Some-strip-2.ensures.0 c.in-Some-strip-2.ensures.1 ∙ e) c.read_nodes.ensures.value

pub returns-in-Some-strip-2-clause-bad : goal.returns-in-Some-strip-2-clause-bad
returns-in-Some-strip-2-clause-bad c = λ e. nodes_read c.args.text.now c.in-Some-strip-2.rest.now c.in_default.ensures c.in_default-strip.ensures c.in-Some-strip-2.ensures.0 c.in-Some-strip-2.ensures.1 ∙ c.read_nodes.ensures.bad e

pub returns-in-Some-strip-4-clause-value : goal.returns-in-Some-strip-4-clause-value
returns-in-Some-strip-4-clause-value c = IfOk-weaker c.read_done.result _ _ (λ x e. done_read c.args.text.now c.in-Some-strip-4.rest.now c.in_default.ensures c.in_default-strip.ensures c.in_default-strip-2.ensures c.in_default-strip-3.ensures c.in-Some-strip-4.ensures.0 c.in-Some-strip-4.ensures.1 ∙ e) c.read_done.ensures.value

pub returns-in-Some-strip-4-clause-bad : goal.returns-in-Some-strip-4-clause-bad
returns-in-Some-strip-4-clause-bad c = λ e. done_read c.args.text.now c.in-Some-strip-4.rest.now c.in_default.ensures c.in_default-strip.ensures c.in_default-strip-2.ensures c.in_default-strip-3.ensures c.in-Some-strip-4.ensures.0 c.in-Some-strip-4.ensures.1 ∙ c.read_done.ensures.bad e

pub returns-clause-value : goal.returns-clause-value
returns-clause-value c = IfOk-weaker c.read_no.result _ _ (λ x e. no_read c.args.text.now c.in_default.ensures c.in_default-strip.ensures c.in_default-strip-2.ensures c.in_default-strip-3.ensures c.in_default-strip-4.ensures ∙ e) c.read_no.ensures.value

pub returns-clause-bad : goal.returns-clause-bad
returns-clause-bad c = λ e. no_read c.args.text.now c.in_default.ensures c.in_default-strip.ensures c.in_default-strip-2.ensures c.in_default-strip-3.ensures c.in_default-strip-4.ensures ∙ c.read_no.ensures.bad e
