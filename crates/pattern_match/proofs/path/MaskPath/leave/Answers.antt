use Rattle.std.proofs.Common.{List, [], ◌-◌, length, take, subst, sym}
use Rattle.pattern_match.specs.declared.mask.Mask.{Mask}
use Rattle.pattern_match.specs.Masks.{AreMasks}
use Rattle.pattern_match.proofs.Ways.{left}
use Rattle.pattern_match.proofs.path.MaskPath.leave.Goals as goal

pub returns-clause-masks : goal.returns-clause-masks
returns-clause-masks c = λ parts T p n are.
    let kept = subst (λ (masks : List Mask). AreMasks parts T [] p (take (length masks - 1) masks)) (sym c.self.view_is) (left parts T p n c.args.self.now are) in
    subst (λ (masks : List Mask). AreMasks parts T [] p masks) (sym c.pop.ensures.rest) kept
