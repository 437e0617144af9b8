use Rattle.std.proofs.Common.{◌≡◌, sym, ap, ◌∙◌, None, Some}
use Rattle.std.specs.Prelude.{is_some}
use Rattle.std.specs.Option.{option_copied}
use Rattle.std.specs.FinMap.{get}
use Rattle.khepri_terms.specs.Lengths.{capped}
use Rattle.khepri_types.specs.declared.node.Node.{Node}
use Rattle.khepri_types.specs.Sizes.{node_bytes}
use Rattle.tree_overlay.specs.Over.{Drafted}
use Rattle.tree_overlay.proofs.Keeping.{kept-as, kept-base, some-node}
use Rattle.tree_overlay.proofs.Overlay.{got_change, got_base}
use Rattle.tree_overlay.proofs.Seeing.{node_same}
use Rattle.tree_overlay.proofs.draft.Draft.bytes_over.Goals as goal

pub unreachable-requires : goal.unreachable-requires
unreachable-requires c =
    let s = c.self.inside in
    let p = c.args.path.now in
    let none = kept-as s.base.now p c.args.nest None c.in_default-nest.is (kept-base _ c.args.self.now p (option_copied c.args.nest) c.self.view_is c.requires.kept) in
    absurd (cc (c.requires.stands, ap is_some (sym (ap (λ (d : Drafted). get d.tree p) c.self.view_is) ∙ (got_base s.base.now s.changed p c.in_default.ensures.value ∙ none))))

pub returns-in_default : goal.returns-in_default
returns-in_default c =
    let s = c.self.inside in
    let p = c.args.path.now in
    let kept = kept-as s.base.now p c.args.nest _ c.in-Some-nest.is (kept-base _ c.args.self.now p (option_copied c.args.nest) c.self.view_is c.requires.kept) in
    let got = sym (ap (λ (d : Drafted). get d.tree p) c.self.view_is) ∙ (got_base s.base.now s.changed p c.in_default.ensures.value ∙ some-node s.base.now p c.in-Some-nest.nest.now c.node.result.now kept c.node.ensures.node) in
    λ n at. c.bytes_of.ensures ∙ ap (λ (m : Node). capped (node_bytes (p, m))) (node_same (sym got ∙ at))

pub unreachable-requires-in_default-change : goal.unreachable-requires-in_default-change
unreachable-requires-in_default-change c =
    let s = c.self.inside in
    let p = c.args.path.now in
    absurd (cc (c.requires.stands, ap is_some (sym (ap (λ (d : Drafted). get d.tree p) c.self.view_is) ∙ (got_change s.base.now s.changed p c.in-Some.change.now c.in-Some.ensures.value ∙ c.in_default-change.is))))

pub returns : goal.returns
returns c =
    let s = c.self.inside in
    let p = c.args.path.now in
    let got = sym (ap (λ (d : Drafted). get d.tree p) c.self.view_is) ∙ (got_change s.base.now s.changed p c.in-Some.change.now c.in-Some.ensures.value ∙ c.in-Some-change.is) in
    λ n at. c.bytes_of-2.ensures ∙ ap (λ (m : Node). capped (node_bytes (p, m))) (node_same (sym got ∙ at))
