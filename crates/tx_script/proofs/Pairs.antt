-- What refuses a part refuses the form, and ends the script.
use Rattle.std.proofs.Common.{◌≡◌, ap, ◌∙◌, Err}
use Rattle.khepri_types.specs.declared.value.Operand.{Operand}
use Rattle.khepri_types.specs.declared.value.Refusal.{Refusal}
use Rattle.khepri_types.specs.declared.value.Stop.TheVariants.{Refused}
use Rattle.khepri_types.specs.Expressions.{Evaluation, Is, Refuses, one, two}
use Rattle.khepri_types.specs.Statements.{Run, Flow, Stops, on_value}
use Rattle.tx_script.specs.declared.halt.Unvalued.{Unvalued}
use Rattle.tx_script.specs.declared.halt.Unvalued.TheVariants as unvalued
use Rattle.tx_script.specs.Answers.{Gives, GivesTwo, Ends}
use Rattle.tx_script.specs.Halts.{halt_of}

two_is_refused : (a b : Evaluation) (form : Operand → Operand → Evaluation) (why : Refusal) → one a (λ (x : Operand). b) ≡ Refuses why → two a b form ≡ Refuses why
two_is_refused (Is v) (Is w) form why e = absurd cc
two_is_refused (Is v) (Refuses r) form why e = e
two_is_refused (Refuses r) b form why e = e

two_ends : (a b : Evaluation) (r : Run) (next : Operand → Operand → Flow) (why : Refusal) → one a (λ (x : Operand). b) ≡ Refuses why → on_value a r (λ x. on_value b r (next x)) ≡ Stops r (Refused why)
two_ends (Is v) (Is w) r next why e = absurd cc
two_ends (Is v) (Refuses s) r next why e = ap (λ (x : Evaluation). on_value x r (next v)) e
two_ends (Refuses s) b r next why e = ap (λ (x : Evaluation). on_value x r (λ y. on_value b r (next y))) e

pub two_refused : (e : Unvalued) (a b : Evaluation) (form : Operand → Operand → Evaluation) → GivesTwo (Err e) a b → Gives (Err e) (two a b form)
two_refused (unvalued.Refused why) a b form h = two_is_refused a b form why h
two_refused unvalued.NoMemory a b form h = tt

pub one_stops : (e : Unvalued) (a : Evaluation) (r : Run) (next : Operand → Flow) → Gives (Err e) a → Ends (Err (halt_of e)) r (on_value a r next)
one_stops (unvalued.Refused why) a r next h = ap (λ (x : Evaluation). on_value x r next) h
one_stops unvalued.NoMemory a r next h = tt

pub two_stop : (e : Unvalued) (a b : Evaluation) (r : Run) (next : Operand → Operand → Flow) → GivesTwo (Err e) a b → Ends (Err (halt_of e)) r (on_value a r (λ x. on_value b r (next x)))
two_stop (unvalued.Refused why) a b r next h = two_ends a b r next why h
two_stop unvalued.NoMemory a b r next h = tt

-- the first part has a value, and the second is refused
pub second_refused : (e : Unvalued) (v : Operand) (a b : Evaluation) → a ≡ Is v → Gives (Err e) b → GivesTwo (Err e) a b
second_refused (unvalued.Refused why) v a b h g = ap (λ (x : Evaluation). one x (λ (y : Operand). b)) h ∙ g
second_refused unvalued.NoMemory v a b h g = tt
