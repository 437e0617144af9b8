use Rattle.std.proofs.Common.{◌≡◌, ℕ, suc, ◌+◌, List, length, drop, sym, ap, ◌∙◌, arith, Some}
use Rattle.khepri_types.specs.Views.{node_of}
use Rattle.khepri_terms.specs.declared.scalar.Scalar.{Scalar}
use Rattle.std.specs.declared.option.Option.{Option}
use Rattle.khepri_types.specs.Projecting.{sources}
use Rattle.projection_rules.specs.Sources.{before}
use Rattle.projection_rules.proofs.Taken.{missing, one_more, all_taken}
use Rattle.projection_rules.proofs.sources.sources_of.Goals as goal

pub returns-in-None : goal.returns-in-None
returns-in-None c = missing c.args.path.now (node_of c.args.node.now) c.args.origins.now c.origins.origin-index c.origin-item.result (omega (arith, c.origins-test.true)) c.origin-item.is c.origins.all.items _ (sym c.in-None.is ∙ c.in_ok-source_of.ensures) c.origins.invariant

pub origins-preserved : goal.origins-preserved
origins-preserved c =
    let next : suc c.origins.origin-index ≡ c.origins.origin-index + 1 = omega arith in
    one_more c.args.path.now (node_of c.args.node.now) c.args.origins.now c.origins.origin-index c.origin-item.result (omega (arith, c.origins-test.true)) c.origin-item.is c.origins.all.items c.push.new.self.items c.in-Some.value _ (sym c.in-Some.is ∙ c.in_ok-source_of.ensures) c.in_ok-push-in-Some.ensures.items c.origins.invariant
    ∙ ap (λ (k : ℕ). before c.push.new.self.items (sources c.args.path.now (node_of c.args.node.now) (drop k c.args.origins.now))) next

pub returns : goal.returns
returns c = all_taken c.args.path.now (node_of c.args.node.now) c.args.origins.now c.origins.origin-index c.origins.all.items (omega (arith, c.origins-test.false)) c.origins.invariant
