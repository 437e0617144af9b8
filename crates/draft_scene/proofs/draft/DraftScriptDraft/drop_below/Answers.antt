use Rattle.std.proofs.Common.{◌∙◌, List, [], ◌∷◌, ap}
use Rattle.khepri_terms.specs.Terms.{NameText}
use Rattle.draft_scene.proofs.Roots.{other_than_root}
use Rattle.draft_scene.proofs.draft.DraftScriptDraft.drop_below.Goals as goal

pub drop_all-requires : goal.drop_all-requires
drop_all-requires g c = record {
  below = other_than_root c.args.path.now c.as_slice.result.now (c.as_slice.ensures.value ∙ (c.in_ok-paths.ensures.items ∙ ap (λ (p : List NameText). p ∷ []) c.in_ok-copy.ensures)) c.requires.below;
}
