-- What a draft is once it has settled.
use Rattle.std.proofs.Common.{◌≡◌, ℕ, ◌-◌, List, sym, ap, ◌∙◌}
use Rattle.std.specs.Prelude.{IsTrue}
use Rattle.std.specs.FinMap.{len}
use Rattle.khepri_terms.specs.Terms.{NameText}
use Rattle.khepri_types.specs.declared.reply.Reply.{Reply}
use Rattle.khepri_types.specs.Drop.{drop}
use Rattle.khepri_types.specs.Exec.{State, dropped, settle_within_limits}
use Rattle.khepri_types.specs.Settling.{stable, settle}
use Rattle.khepri_types.specs.Tree.{Tree}
use Rattle.khepri_types.proofs.Rounds.{settle-ends}
use Rattle.tree_commands.specs.Replies.{state_with, answered, Answers}

-- no node of it fails
pub settled_stable : (T U : Tree) → U ≡ settle T → IsTrue (stable U)
settled_stable T U is = ap stable is ∙ settle-ends T

-- to drop nodes and settle is what a deletion does
pub dropped_so : (T V : Tree) (paths : List (List NameText)) (n : ℕ) (r : Reply) (U : Tree) → V ≡ drop T paths → n ≡ len T - len V → ((S : State) → settle_within_limits S V n ≡ answered S r U) → Answers (λ S. dropped S paths) T r U
dropped_so T V paths n r U is count settled k =
    let S : State = state_with T k in
    ap (settle_within_limits S (drop T paths)) (sym (count ∙ ap (λ (W : Tree). len T - len W) is))
    ∙ (ap (λ (W : Tree). settle_within_limits S W n) (sym is) ∙ settled S)
