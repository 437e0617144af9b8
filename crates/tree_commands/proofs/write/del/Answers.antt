use Rattle.std.proofs.Common.{◌∙◌, List, [], ◌∷◌, ap, arith}
use Rattle.khepri_terms.specs.Terms.{NameText}
use Rattle.tree_commands.proofs.Sparing.{other_than_root}
use Rattle.tree_commands.proofs.write.del.Goals as goal

pub drop_nodes-requires-clause-below : goal.drop_nodes-requires-clause-below
drop_nodes-requires-clause-below g c =
    other_than_root c.args.path.now c.as_slice.result.now (c.as_slice.ensures.value ∙ (c.in_ok-paths.ensures.items ∙ ap (λ (p : List NameText). p ∷ []) c.in_ok-copy.ensures)) (omega arith)
