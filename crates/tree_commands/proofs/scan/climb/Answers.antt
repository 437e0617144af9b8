use Rattle.std.proofs.Common.{◌≡◌, ◌-◌, ℕ, [], length, take, ap, subst, arith}
use Rattle.std.proofs.lemmas.List.{length-take}
use Rattle.pattern_match.specs.Masks.{AreMasks}
use Rattle.tree_commands.proofs.Masking.{climbed_none, climbed_more}
use Rattle.tree_commands.proofs.scan.climb.Goals as goal

pub up-init : goal.up-init
up-init c = climbed_none c.args.from c.args.to c.args.masks.now c.requires.within c.requires.len

pub up-preserved : goal.up-preserved
up-preserved c =
    let shorter : length c.leave.new.self ≡ length c.up.masks - 1 = omega (arith, ap length c.leave.ensures.rest, length-take (length c.up.masks - 1) c.up.masks) in
    climbed_more c.args.from c.args.to c.up.names (c.up.names - 1) c.args.masks.now c.up.masks c.leave.new.self (omega arith) c.up-test.true c.up.invariant shorter c.leave.ensures.masks

pub returns-clause-masks : goal.returns-clause-masks
returns-clause-masks c = λ parts T p long are.
    let there : c.up.names ≡ c.args.to = omega (arith, c.up.invariant.above) in
    subst (λ (k : ℕ). AreMasks parts T [] (take k p) c.up.masks) there (c.up.invariant.masks parts T p long are)
