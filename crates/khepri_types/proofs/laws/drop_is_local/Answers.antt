use Rattle.std.proofs.Common.{Bool, cond, ap, ◌∙◌, None}
use Rattle.std.specs.Option.{option_map}
use Rattle.std.specs.FinMap.{get, entries}
use Rattle.khepri_types.proofs.Dropping.{left_node, get-drop}
use Rattle.khepri_types.proofs.laws.drop_is_local.Goals as goal

pub returns-clause-below : goal.returns-clause-below
returns-clause-below c = λ T paths q e. get-drop T paths q ∙ ap (λ (b : Bool). cond b None (option_map (left_node (entries T) paths q) (get T q))) e

pub returns-clause-elsewhere : goal.returns-clause-elsewhere
returns-clause-elsewhere c = λ T paths q e. get-drop T paths q ∙ ap (λ (b : Bool). cond b None (option_map (left_node (entries T) paths q) (get T q))) e
