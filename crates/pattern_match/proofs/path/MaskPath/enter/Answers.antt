use Rattle.std.proofs.Common.{List, [], ◌∷◌, ◌++◌, ◌∙◌, sym, ap, subst}
use Rattle.pattern_match.specs.declared.mask.Mask.{Mask}
use Rattle.pattern_match.specs.Masks.{AreMasks}
use Rattle.pattern_match.proofs.Ways.{entered}
use Rattle.pattern_match.proofs.path.MaskPath.enter.Goals as goal

pub returns-clause-masks : goal.returns-clause-masks
returns-clause-masks c = λ T p n seen are.
    let next : Mask = c.step-next.result in
    let on = entered c.args.pattern.now T p n c.args.self.now next are (c.step-next.ensures T p n seen (c.top.ensures.mask c.args.pattern.now T p are)) in
    subst (λ (masks : List Mask). AreMasks c.args.pattern.now T [] (p ++ n ∷ []) masks) (sym (c.push_reserved.ensures.items ∙ ap (λ (masks : List Mask). masks ++ next ∷ []) c.self.view_is)) on
