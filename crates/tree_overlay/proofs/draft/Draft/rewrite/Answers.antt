use Rattle.std.proofs.Common.{◌≡◌, List, sym, ap, subst, ◌∙◌, Some, ◌||◌}
use Rattle.std.specs.Prelude.{IsTrue}
use Rattle.std.specs.BTreeMap.{UpdatesBy}
use Rattle.std.specs.Ordering.{is_eq}
use Rattle.std.specs.FinMap.{get, insert}
use Rattle.khepri_terms.specs.Terms.{NameText}
use Rattle.khepri_terms.specs.Order.{path_cmp}
use Rattle.khepri_types.specs.Sizes.{bytes}
use Rattle.khepri_types.specs.Tree.{stands}
use Rattle.khepri_types.proofs.Growing.{get_some}
use Rattle.tree_overlay.specs.Over.{Drafted, over, is_touched}
use Rattle.tree_overlay.proofs.Overlay.{over-put, touched-put}
use Rattle.tree_overlay.proofs.Hatching.{drafted-old}
use Rattle.tree_overlay.proofs.Shallow.{bytes-put, shallow-put}
use Rattle.tree_overlay.proofs.draft.Draft.rewrite.Goals as goal

pub invariant_of-self-2 : goal.invariant_of-self-2
invariant_of-self-2 c =
    let s = c.self.inside in
    let p = c.args.path.now in
    let up = subst (λ (k : List NameText). UpdatesBy path_cmp (path_cmp k) s.changed c.insert.new.self (Some (Some c.args.node))) c.in_ok-copy.ensures c.in_ok-insert.ensures.updates in
    let B = s.base.now in
    let T = over B s.changed.entries in
    let there : IsTrue (stands T p) = ap (λ (d : Drafted). stands d.tree p) c.self.view_is ∙ c.requires.stands in
    let w = get_some (get T p) there in
    let here : get c.args.self.now.tree p ≡ Some w.0 = sym (ap (λ (d : Drafted). get d.tree p) c.self.view_is) ∙ w.1 in
    let beside = c.bytes_beside.ensures w.0 here ∙ sym (ap (λ (d : Drafted). bytes d.tree) c.self.view_is) in (
      drafted-old B s.changed c.insert.new.self s.broods.entries p c.args.node s.nodes c.self.invariant.0 there up,
      bytes-put B s.changed c.insert.new.self p c.args.node w.0 c.bytes_beside.result c.in_ok-bytes.bytes up w.1 beside c.in_ok-bytes.ensures,
      shallow-put B s.changed c.insert.new.self p c.args.node up (c.self.invariant.2 p there) c.self.invariant.2,
    )

pub returns-clause-tree : goal.returns-clause-tree
returns-clause-tree c =
    let s = c.self.inside in
    let p = c.args.path.now in
    let up = subst (λ (k : List NameText). UpdatesBy path_cmp (path_cmp k) s.changed c.insert.new.self (Some (Some c.args.node))) c.in_ok-copy.ensures c.in_ok-insert.ensures.updates in
    over-put s.base.now s.changed c.insert.new.self p (Some c.args.node) up ∙ ap (λ (d : Drafted). insert d.tree p c.args.node) c.self.view_is

pub returns-clause-touched : goal.returns-clause-touched
returns-clause-touched c = λ q.
    let s = c.self.inside in
    let p = c.args.path.now in
    let up = subst (λ (k : List NameText). UpdatesBy path_cmp (path_cmp k) s.changed c.insert.new.self (Some (Some c.args.node))) c.in_ok-copy.ensures c.in_ok-insert.ensures.updates in
    touched-put s.changed c.insert.new.self p (Some c.args.node) up q ∙ ap (λ (d : Drafted). is_eq (path_cmp p q) || is_touched d.touched q) c.self.view_is
