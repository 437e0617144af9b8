-- A command that was answered in a draft.
use Rattle.std.proofs.Common.{◌≡◌, Bool, true, false, sym, ap, subst, ◌∙◌}
use Rattle.std.specs.Prelude.{if◌then◌else◌}
use Rattle.khepri_types.specs.declared.command.Command.{Command}
use Rattle.khepri_types.specs.declared.reply.Reply.{Reply}
use Rattle.khepri_types.specs.Exec.{State, applied, refused, exec_command}
use Rattle.khepri_types.specs.Tree.{Tree}
use Rattle.tree_commands.specs.Replies.{is_change, state_with, answered, IsAnswered}

-- in the state that has the draft's tree
here : (S : State) (T : Tree) (cmd : Command) (r : Reply) (U : Tree) → T ≡ S.tree → IsAnswered cmd T r U → exec_command S cmd ≡ answered S r U
here S T cmd r U is a = subst (λ (V : Tree). exec_command (state_with V S.position) cmd ≡ answered (state_with V S.position) r U) is (a S.position)

-- changed nothing, where the reply says of no change
pub answered_same : (S : State) (T : Tree) (cmd : Command) (r : Reply) (U : Tree) → T ≡ S.tree → IsAnswered cmd T r U → is_change r ≡ false → exec_command S cmd ≡ refused S r
answered_same S T cmd r U is a still = here S T cmd r U is a ∙ ap (λ (b : Bool). if b then (r, applied S U) else refused S r) still

-- made the draft's tree the next, where it says of one
pub answered_next : (S : State) (T : Tree) (cmd : Command) (r : Reply) (U V : Tree) → T ≡ S.tree → IsAnswered cmd T r U → is_change r ≡ true → V ≡ U → exec_command S cmd ≡ (r, applied S V)
answered_next S T cmd r U V is a on same =
    here S T cmd r U is a ∙ (ap (λ (b : Bool). if b then (r, applied S U) else refused S r) on ∙ ap (λ (W : Tree). (r, applied S W)) (sym same))
