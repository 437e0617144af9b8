use Rattle.std.proofs.Common.{◌≡◌, ◌<◌, ◌≤◌, length, sym, ap, ◌∙◌, arith, Less, Equal, Greater}
use Rattle.khepri_terms.specs.Order.{name_cmp}
use Rattle.khepri_types.specs.declared.projection.Projection.{Projection}
use Rattle.projection_rules.proofs.Ordered.{one_passed, goes_here, above_here, has_none, adds_here, nothing_above}
use Rattle.projection_rules.proofs.projections.place.Goals as goal

pub returns-in-Less-clause-there : goal.returns-in-Less-clause-there
returns-in-Less-clause-there c =
    let n = c.args.name.now in
    let all = c.args.all.now in
    let lt : c.places.at < length all = omega (arith, c.places-test.true) in
    let less : name_cmp n c.index-all-at.result.name ≡ Less = ap (λ (J : Projection). name_cmp n J.name) c.index-all-at.is ∙ sym c.in-Less.ensures in
    has_none n all c.places.at c.places.invariant.passed (above_here n all c.places.at c.index-all-at.result lt c.index-all-at.is c.places.invariant.passed less)

pub returns-in-Less-clause-adds : goal.returns-in-Less-clause-adds
returns-in-Less-clause-adds c =
    let n = c.args.name.now in
    let all = c.args.all.now in
    let lt : c.places.at < length all = omega (arith, c.places-test.true) in
    let less : name_cmp n c.index-all-at.result.name ≡ Less = ap (λ (J : Projection). name_cmp n J.name) c.index-all-at.is ∙ sym c.in-Less.ensures in
    adds_here n all c.places.at c.places.invariant.passed (above_here n all c.places.at c.index-all-at.result lt c.index-all-at.is c.places.invariant.passed less)

pub returns-in-Equal-clause-goes : goal.returns-in-Equal-clause-goes
returns-in-Equal-clause-goes c =
    let n = c.args.name.now in
    let all = c.args.all.now in
    let lt : c.places.at < length all = omega (arith, c.places-test.true) in
    let same : name_cmp n c.index-all-at.result.name ≡ Equal = ap (λ (J : Projection). name_cmp n J.name) c.index-all-at.is ∙ sym c.in-Equal.ensures in
    goes_here n all c.places.at c.index-all-at.result lt c.index-all-at.is c.places.invariant.passed same

pub places-preserved : goal.places-preserved
places-preserved c =
    let n = c.args.name.now in
    let all = c.args.all.now in
    let lt : c.places.at < length all = omega (arith, c.places-test.true) in
    let more : name_cmp n c.index-all-at.result.name ≡ Greater = ap (λ (J : Projection). name_cmp n J.name) c.index-all-at.is ∙ sym c.in-Greater.ensures in
    record {
      within = omega (arith, lt);
      passed = one_passed n all c.places.at c.index-all-at.result lt c.index-all-at.is c.places.invariant.passed more;
    }

pub returns-clause-adds : goal.returns-clause-adds
returns-clause-adds c =
    let n = c.args.name.now in
    let all = c.args.all.now in
    let past : length all ≤ c.places.at = omega (arith, c.places-test.false) in
    adds_here n all c.places.at c.places.invariant.passed (nothing_above n all c.places.at past)
