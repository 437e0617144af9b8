use Rattle.std.proofs.Common.{◌∙◌, sym, ap, subst}
use Rattle.std.specs.Prelude.{IsTrue}
use Rattle.khepri_types.specs.Exec.{State}
use Rattle.khepri_types.specs.Settling.{stable}
use Rattle.khepri_types.specs.Tree.{Tree}
use Rattle.worklist_laws.specs.Links.{HoldsWatches}
use Rattle.khepri_machine.proofs.Answering.{answered_same, answered_next}
use Rattle.khepri_machine.proofs.Following.{is-over}
use Rattle.khepri_machine.proofs.kept.Kept.outcome.Goals as goal

pub tree_command-requires : goal.tree_command-requires
tree_command-requires g c = record {
  settled = subst (λ (T : Tree). IsTrue (stable T)) (sym c.draft-draft.ensures.base) c.self.invariant.0;
  index = subst (λ (T : Tree). HoldsWatches T c.self.inside.watchers) (sym c.draft-draft.ensures.base) c.self.invariant.1;
}

pub returns-then-not-is_change-clause-value : goal.returns-then-not-is_change-clause-value
returns-then-not-is_change-clause-value g c =
    answered_same c.args.self.now c.draft-draft.result.tree c.args.cmd.now c.in_ok-reply.reply c.tree_command.new.draft.tree
    (c.draft-draft.ensures.tree ∙ ap (λ (S : State). S.tree) c.self.view_is) c.in_ok-reply.ensures.value (sym c.is_change.ensures ∙ c.if-not-is_change.true)

pub paths_to_link-requires : goal.paths_to_link-requires
paths_to_link-requires g c = record {
  index = subst (λ (T : Tree). HoldsWatches T c.self.inside.watchers) (sym (c.tree_command.ensures.base ∙ c.draft-draft.ensures.base)) c.self.invariant.1;
}

pub returns-clause-value : goal.returns-clause-value
returns-clause-value g c =
    answered_next c.args.self.now c.draft-draft.result.tree c.args.cmd.now c.in_ok-reply.reply c.tree_command.new.draft.tree c.into_changes.result.tree
    (c.draft-draft.ensures.tree ∙ ap (λ (S : State). S.tree) c.self.view_is) c.in_ok-reply.ensures.value (sym c.is_change.ensures ∙ c.if-not-is_change.false) c.into_changes.ensures.tree

pub returns-clause-over : goal.returns-clause-over
returns-clause-over g c =
    is-over c.args.self.now.tree c.tree_command.new.draft c.into_changes.result c.in_ok-paths.paths.items
    (c.tree_command.ensures.base ∙ (c.draft-draft.ensures.base ∙ ap (λ (S : State). S.tree) c.self.view_is)) c.into_changes.ensures.base c.into_changes.ensures.tree
    (c.in_ok-reply.ensures.settled (sym c.is_change.ensures ∙ c.if-not-is_change.false)) c.in_ok-paths.ensures
