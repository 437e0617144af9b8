use Rattle.std.proofs.Common.{None, sym}
use Rattle.tree_overlay.proofs.Hatching.{missing_kids}
use Rattle.tree_overlay.proofs.Keeping.{kept-as, some-kids}
use Rattle.tree_overlay.proofs.kept.kids_of.Goals as goal

pub returns-in-None : goal.returns-in-None
returns-in-None c = λ B p tree kept. let k = kept-as B p c.args.nest None c.in-None.is kept in sym (missing_kids B p tree k)

pub returns-in-Some : goal.returns-in-Some
returns-in-Some c = λ B p tree kept. let k = kept-as B p c.args.nest _ c.in-Some.is kept in some-kids B p c.in-Some.nest.now c.kids.result k c.kids.ensures
