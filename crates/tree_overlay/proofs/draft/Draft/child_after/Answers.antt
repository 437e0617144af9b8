use Rattle.std.proofs.Common.{subst}
use Rattle.std.specs.Option.{option_copied}
use Rattle.tree_overlay.specs.Kept.{IsKept}
use Rattle.tree_overlay.specs.Over.{Drafted}
use Rattle.tree_overlay.proofs.draft.Draft.child_after.Goals as goal

pub child_over-requires : goal.child_over-requires
child_over-requires c = record { kept = subst (λ (d : Drafted). IsKept d.base c.args.path.now (option_copied c.seek.result)) c.self.view_is c.seek.ensures }
