-- How the run of a script starts.
use Rattle.std.specs.Prelude.{◌≡◌, List, Option, false}
use Rattle.khepri_terms.specs.Terms.{NameText}
use Rattle.khepri_terms.specs.declared.rec.Field.{Field}
use Rattle.khepri_types.specs.declared.node.Node.{Node}
use Rattle.khepri_types.specs.declared.reply.Reply.{Reply}
use Rattle.khepri_types.specs.declared.script.Statement.{Statement}
use Rattle.khepri_types.specs.Exec.{State, ended, refused, run_node, run_script}
use Rattle.khepri_types.specs.Statements.{script}
use Rattle.tree_commands.specs.Replies.{is_change}
use Rattle.tree_commands.specs.declared.run.Ready.{Ready}
use Rattle.tree_commands.specs.declared.run.Ready.TheVariants as ready

-- what is to be done with these arguments and this path: a script runs, or this refuses it
abbrev pub DoesAs : (State → List Field → List NameText → Reply × State) → Ready → Type 0
DoesAs does (ready.Runs s) = (S : State) (args : List Field) (at : List NameText) → does S args at ≡ ended S (script s args at S.tree)
DoesAs does (ready.Refused r) = (is_change r ≡ false) × ((S : State) (args : List Field) (at : List NameText) → does S args at ≡ refused S r)

-- so the run of a script starts
abbrev pub StartsAs : List Statement → Ready → Type 0
StartsAs s r = DoesAs (λ S args at. run_script S args at s) r

-- so the run of a node's script starts
abbrev pub NodeStartsAs : Option Node → Ready → Type 0
NodeStartsAs o r = DoesAs (λ S args at. run_node S args at o) r
