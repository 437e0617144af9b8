use Rattle.std.proofs.Common.{subst}
use Rattle.tree_overlay.specs.Over.{Drafted, IsCovered}
use Rattle.tree_overlay.proofs.Overlay.{covered-over}
use Rattle.tree_overlay.proofs.draft.Draft.touched_after.Goals as goal

pub returns-clause-covered : goal.returns-clause-covered
returns-clause-covered c = subst (λ (d : Drafted). IsCovered d.base d.tree d.touched) c.self.view_is (covered-over c.self.inside.base.now c.self.inside.changed.entries)
