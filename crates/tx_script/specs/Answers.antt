-- What the program's answers say of the definitions. Want of memory says nothing.
use Rattle.std.specs.Prelude.{◌≡◌, ⊤, true, false, ltb, Ok, Err, Result, List, [], ◌∷◌, ◌++◌, length}
use Rattle.khepri_types.specs.declared.limits.TheConstants.{MAX_WATCHES}
use Rattle.khepri_types.specs.declared.watch.Watch.{Watch}
use Rattle.khepri_types.specs.declared.value.Operand.{Operand}
use Rattle.khepri_types.specs.declared.value.Refusal.TheVariants.{Full}
use Rattle.khepri_types.specs.declared.value.Stop.TheVariants.{Refused}
use Rattle.khepri_types.specs.Expressions.{Evaluation, Is, Refuses, one}
use Rattle.khepri_types.specs.Scenes.{Scene}
use Rattle.khepri_types.specs.Statements.{Run, Flow, Goes, Stops}
use Rattle.tx_script.specs.declared.run.Machine.{Machine}
use Rattle.tx_script.specs.declared.halt.Halt.{Halt}
use Rattle.tx_script.specs.declared.halt.Halt.TheVariants.{Stop, NoMemory}
use Rattle.tx_script.specs.declared.halt.Unvalued.{Unvalued}
use Rattle.tx_script.specs.declared.halt.Unvalued.TheVariants as unvalued

-- of an expression
abbrev pub Gives : Result Operand Unvalued → Evaluation → Type 0
Gives (Ok v) evaluation = evaluation ≡ Is v
Gives (Err (unvalued.Refused why)) evaluation = evaluation ≡ Refuses why
Gives (Err unvalued.NoMemory) evaluation = ⊤

-- of two expressions, of which the first that is refused counts
abbrev pub GivesTwo : Result (Operand × Operand) Unvalued → Evaluation → Evaluation → Type 0
GivesTwo (Ok v) a b = (a ≡ Is v.0) × (b ≡ Is v.1)
GivesTwo (Err (unvalued.Refused why)) a b = one a (λ x. b) ≡ Refuses why
GivesTwo (Err unvalued.NoMemory) a b = ⊤

-- the run that the program holds
abbrev pub run_of : Machine → Scene → Run
run_of m s = record { registers = m.registers; scene = s; values = m.values; units = m.units }

-- of statements, which end in this run
abbrev pub Ends : Result (Unit {0}) Halt → Run → Flow → Type 0
Ends (Ok _) r flow = flow ≡ Goes r
Ends (Err (Stop e)) r flow = flow ≡ Stops r e
Ends (Err NoMemory) r flow = ⊤

-- of the watches of a node and one more
abbrev pub Adds : Result (List Watch) Halt → List Watch → Watch → Type 0
Adds (Ok v) old w = (ltb (length old) MAX_WATCHES ≡ true) × (v ≡ old ++ w ∷ [])
Adds (Err (Stop e)) old w = (ltb (length old) MAX_WATCHES ≡ false) × (e ≡ Refused Full)
Adds (Err NoMemory) old w = ⊤
