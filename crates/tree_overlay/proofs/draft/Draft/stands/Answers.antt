use Rattle.std.proofs.Common.{◌∙◌}
use Rattle.tree_overlay.proofs.Seeing.{seen-stands}
use Rattle.tree_overlay.proofs.draft.Draft.stands.Goals as goal

pub returns : goal.returns
returns c = c.is_some.ensures ∙ seen-stands c.args.self.now.tree c.args.path.now c.node.result c.node.ensures.node
