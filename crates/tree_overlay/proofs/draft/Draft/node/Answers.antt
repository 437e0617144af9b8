use Rattle.std.proofs.Common.{◌≡◌, sym, ap, ◌∙◌, Option, Some}
use Rattle.std.specs.FinMap.{get}
use Rattle.std.specs.Option.{option_copied}
use Rattle.khepri_terms.specs.Terms.{NameText}
use Rattle.khepri_types.specs.declared.node.Node.{Node}
use Rattle.khepri_types.specs.Conditions.{Seen, last_name}
use Rattle.khepri_types.proofs.Order.{path_cmp-same}
use Rattle.tree_overlay.specs.Over.{Drafted}
use Rattle.tree_overlay.proofs.Overlay.{got_change, got_base}
use Rattle.tree_overlay.proofs.Seeing.{seen-not, seen-there}
use Rattle.tree_overlay.proofs.draft.Draft.node.Goals as goal

pub unchanged-requires : goal.unchanged-requires
unchanged-requires c =
    let s = c.self.inside in
    let p = c.args.path.now in
    record { same = sym (ap (λ (d : Drafted). get d.base p) c.self.view_is) ∙ (sym (got_base s.base.now s.changed p c.in_default.ensures.value) ∙ ap (λ (d : Drafted). get d.tree p) c.self.view_is) }

pub returns-in_default-change-clause-node : goal.returns-in_default-change-clause-node
returns-in_default-change-clause-node c =
    let s = c.self.inside in
    let p = c.args.path.now in
    seen-not c.args.self.now.tree p (sym (ap (λ (d : Drafted). get d.tree p) c.self.view_is) ∙ (got_change s.base.now s.changed p c.in-Some.change.now c.in-Some.ensures.value ∙ c.in_default-change.is))

pub returns-clause-node : goal.returns-clause-node
returns-clause-node c =
    let s = c.self.inside in
    let p = c.args.path.now in
    let T = c.args.self.now.tree in
    let n : Node = c.in-Some-change.node in
    let got : get T p ≡ Some n = sym (ap (λ (d : Drafted). get d.tree p) c.self.view_is) ∙ (got_change s.base.now s.changed p c.in-Some.change.now c.in-Some.ensures.value ∙ c.in-Some-change.is) in
    let name : option_copied c.last_name.result ≡ last_name p = c.last_name.ensures ∙ ap last_name (sym (path_cmp-same p c.in-Some.own.now c.in-Some.ensures.same_key)) in
    ap (λ (t : Seen). Some t) (c.shown.ensures.seen ∙ ap (λ (o : Option NameText). record { name = o; payload = n.payload; pv = n.pv; cv = n.cv; kids = c.kids.result }) name) ∙ seen-there T p n c.kids.result got c.kids.ensures

pub returns-clause-watches : goal.returns-clause-watches
returns-clause-watches c =
    let s = c.self.inside in
    let p = c.args.path.now in
    let T = c.args.self.now.tree in
    let got : get T p ≡ Some c.in-Some-change.node = sym (ap (λ (d : Drafted). get d.tree p) c.self.view_is) ∙ (got_change s.base.now s.changed p c.in-Some.change.now c.in-Some.ensures.value ∙ c.in-Some-change.is) in
    got ∙ ap (λ (n : Node). Some n) (sym c.shown.ensures.node)
