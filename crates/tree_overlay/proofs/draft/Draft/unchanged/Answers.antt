use Rattle.std.proofs.Common.{◌≡◌, sym, ap, ◌∙◌}
use Rattle.std.specs.FinMap.{get}
use Rattle.khepri_types.specs.Sizes.{kids}
use Rattle.tree_overlay.specs.Over.{Drafted, over}
use Rattle.tree_overlay.proofs.Hatching.{count_there, count_not}
use Rattle.tree_overlay.proofs.Seeing.{seen-not, seen-same, seen-moved, unseen}
use Rattle.tree_overlay.proofs.draft.Draft.unchanged.Goals as goal

pub returns-in_default-clause-node : goal.returns-in_default-clause-node
returns-in_default-clause-node c =
    let p = c.args.path.now in
    let B = c.self.inside.base.now in
    let same : get B p ≡ get c.args.self.now.tree p = ap (λ (d : Drafted). get d.base p) c.self.view_is ∙ c.requires.same in
    seen-not c.args.self.now.tree p (sym same ∙ unseen B p c.in_default.ensures.node)

pub returns-in_default-get-clause-node : goal.returns-in_default-get-clause-node
returns-in_default-get-clause-node c =
    let s = c.self.inside in
    let p = c.args.path.now in
    let B = s.base.now in
    let T = c.args.self.now.tree in
    let same : get B p ≡ get T p = ap (λ (d : Drafted). get d.base p) c.self.view_is ∙ c.requires.same in
    let count : kids B p ≡ kids T p = count_not B (over B s.changed.entries) s.broods s.nodes p c.self.invariant.0 c.in_default-get.ensures.value ∙ ap (λ (d : Drafted). kids d.tree p) c.self.view_is in
    seen-same B T p c.in-Some.node (sym same ∙ c.in-Some.ensures.watches) same c.in-Some.ensures.node count

pub returns-clause-node : goal.returns-clause-node
returns-clause-node c =
    let s = c.self.inside in
    let p = c.args.path.now in
    let B = s.base.now in
    let T = c.args.self.now.tree in
    let same : get B p ≡ get T p = ap (λ (d : Drafted). get d.base p) c.self.view_is ∙ c.requires.same in
    let count : c.in-Some-get.brood.now.count ≡ kids T p = count_there B (over B s.changed.entries) s.broods s.nodes p c.in-Some-get.brood.now c.self.invariant.0 c.in-Some-get.ensures.value ∙ ap (λ (d : Drafted). kids d.tree p) c.self.view_is in
    seen-moved B T p c.in-Some.node c.in-Some-get.brood.now.count (sym same ∙ c.in-Some.ensures.watches) same c.in-Some.ensures.node count
