use Rattle.std.proofs.Common.{subst, Some, None}
use Rattle.khepri_types.specs.Tree.{Tree}
use Rattle.tree_overlay.specs.Kept.{IsKept}
use Rattle.tree_overlay.proofs.Keeping.{kept-found, kept-not}
use Rattle.tree_overlay.proofs.tree.Tree.seek.Goals as goal

pub returns-in-None : goal.returns-in-None
returns-in-None c = subst (λ (T : Tree). IsKept T c.args.path.now None) c.self.view_is (kept-not c.self.inside.root c.names.result.now c.args.path.now c.self.invariant.0 c.names.ensures c.in-None.ensures.stands)

pub returns-in-Some : goal.returns-in-Some
returns-in-Some c = subst (λ (T : Tree). IsKept T c.args.path.now (Some c.in-Some.nest.now)) c.self.view_is (kept-found c.self.inside.root c.in-Some.nest.now c.names.result.now c.args.path.now c.self.invariant.0 c.names.ensures c.in-Some.ensures.some)
