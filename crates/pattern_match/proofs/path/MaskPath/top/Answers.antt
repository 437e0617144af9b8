use Rattle.std.proofs.Common.{◌≡◌, ◌-◌, ◌∙◌, length, slice_index_or, Some, sym, ap, subst, arith}
use Rattle.pattern_match.specs.declared.mask.Mask.{Mask}
use Rattle.pattern_match.specs.Masks.{IsMask}
use Rattle.pattern_match.proofs.Ways.{topped, place_of}
use Rattle.pattern_match.proofs.path.MaskPath.top.Goals as goal

pub returns-clause-mask : goal.returns-clause-mask
returns-clause-mask c =
    let none : Mask = record { bits = 0 } in
    let same : slice_index_or c.as_slice.result.now (c.len.result - 1) none ≡ slice_index_or c.args.self.now (length c.args.self.now - 1) none = (λ i. slice_index_or ((c.as_slice.ensures ∙ c.self.view_is) i) ((c.len.ensures.value ∙ ap length c.self.view_is) i - 1) none) in
    λ parts T p are. subst (IsMask parts T p) (sym same) (topped parts T p c.args.self.now none are)

pub returns-clause-last : goal.returns-clause-last
returns-clause-last c =
    let none : Mask = record { bits = 0 } in
    let same : slice_index_or c.as_slice.result.now (c.len.result - 1) none ≡ slice_index_or c.args.self.now (length c.args.self.now - 1) none = (λ i. slice_index_or ((c.as_slice.ensures ∙ c.self.view_is) i) ((c.len.ensures.value ∙ ap length c.self.view_is) i - 1) none) in
    place_of c.args.self.now (length c.args.self.now - 1) none (omega (arith, c.self.invariant.1, ap length c.self.view_is)) ∙ ap (λ (m : Mask). Some m) (sym same)
