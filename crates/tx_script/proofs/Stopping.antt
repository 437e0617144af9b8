-- Where a part of a statement of two expressions is refused, the script ends.
use Rattle.std.proofs.Common.{◌≡◌, sym, ap, subst, ◌∙◌, refl, Err}
use Rattle.khepri_types.specs.declared.condition.Condition.{Condition}
use Rattle.khepri_types.specs.declared.script.Expr.{Expr}
use Rattle.khepri_types.specs.declared.script.Statement.{Statement, roll-Statement}
use Rattle.khepri_types.specs.declared.script.Statement.TheVariants as s
use Rattle.khepri_types.specs.declared.script.Statement.TheVariants.{rolls-Put, rolls-Hold}
use Rattle.khepri_types.specs.declared.script.Statement.TheFolds.{fold-roll-Statement}
use Rattle.khepri_types.specs.declared.script.Statement.TheOpen.{Statement-F}
use Rattle.khepri_types.specs.declared.value.Operand.{Operand}
use Rattle.khepri_types.specs.Expressions.{Evaluation, value_of}
use Rattle.khepri_types.specs.Statements.{Run, Flow, Goes, spend, and_then, begun, put, hold, on_value, layer_run, does}
use Rattle.khepri_types.specs.Values.{path, fields}
use Rattle.tx_script.specs.declared.halt.Unvalued.{Unvalued}
use Rattle.tx_script.specs.Answers.{GivesTwo, Ends}
use Rattle.tx_script.specs.Halts.{halt_of}
use Rattle.tx_script.proofs.Pairs.{two_stop}

stops : (F : Statement-F Statement) (u v : Statement) (r q : Run) (why : Unvalued) (a b : Evaluation) (next : Operand → Operand → Flow) (layer : Run → Flow) → roll-Statement F ≡ u → v ≡ u → does (roll-Statement F) ≡ (λ (k : Run). and_then (spend k) layer) → spend r ≡ Goes q
    → layer q ≡ on_value a q (λ x. on_value b q (next x)) → GivesTwo (Err why) a b → Ends (Err (halt_of why)) q (does v r)
stops F u v r q why a b next layer rolls is folded spent begins h =
    let flow : does v r ≡ on_value a q (λ x. on_value b q (next x)) = ap (λ (z : Statement). does z r) (is ∙ sym rolls) ∙ (ap (λ (f : Run → Flow). f r) folded ∙ (ap (λ (f : Flow). and_then f layer) spent ∙ begins)) in
    subst (λ (f : Flow). Ends (Err (halt_of why)) q f) (sym flow) (two_stop why a b q next h)

pub put_stops : (a b : Expr) (v : Statement) (r q : Run) (why : Unvalued) → v ≡ s.Put a b → spend r ≡ Goes q → GivesTwo (Err why) (value_of a q.registers q.scene.tree) (value_of b q.registers q.scene.tree) → Ends (Err (halt_of why)) q (does v r)
put_stops a b v r q why is spent h =
    stops (Statement-F.Put a b) (s.Put a b) v r q why (value_of a q.registers q.scene.tree) (value_of b q.registers q.scene.tree) (λ p d. put (path p) (fields d) q) (begun (Statement-F.Put a b)) (rolls-Put a b) is (fold-roll-Statement (Run → Flow) layer_run (Statement-F.Put a b)) spent refl h

pub hold_stops : (a b : Expr) (c : Condition) (v : Statement) (r q : Run) (why : Unvalued) → v ≡ s.Hold a b c → spend r ≡ Goes q → GivesTwo (Err why) (value_of a q.registers q.scene.tree) (value_of b q.registers q.scene.tree) → Ends (Err (halt_of why)) q (does v r)
hold_stops a b c v r q why is spent h =
    stops (Statement-F.Hold a b c) (s.Hold a b c) v r q why (value_of a q.registers q.scene.tree) (value_of b q.registers q.scene.tree) (λ p t. hold (path p) (record { target = path t; cond = c }) q) (begun (Statement-F.Hold a b c)) (rolls-Hold a b c) is (fold-roll-Statement (Run → Flow) layer_run (Statement-F.Hold a b c)) spent refl h
