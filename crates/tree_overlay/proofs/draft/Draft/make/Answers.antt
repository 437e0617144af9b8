use Rattle.std.proofs.Common.{◌≡◌, List, arith, length, take, sym, ap, subst, ◌∙◌, ◌+◌, ◌||◌, ℕ, Option, Some, None}
use Rattle.std.specs.BTreeMap.{UpdatesBy}
use Rattle.std.specs.Ordering.{is_eq}
use Rattle.std.specs.FinMap.{get, insert}
use Rattle.khepri_terms.specs.Terms.{NameText}
use Rattle.khepri_terms.specs.Order.{path_cmp}
use Rattle.khepri_types.specs.declared.node.Node.{Node}
use Rattle.khepri_types.specs.Sizes.{bytes, kids}
use Rattle.khepri_types.specs.Tree.{stands}
use Rattle.khepri_types.proofs.Fitting.{kids-le}
use Rattle.tree_overlay.specs.Over.{Drafted, IsShallow, over, is_touched}
use Rattle.tree_overlay.specs.Broods.{IsDrafted}
use Rattle.tree_overlay.proofs.Overlay.{over-put, touched-put}
use Rattle.tree_overlay.proofs.Hatching.{parts_of, marked_there, drafted-ready, drafted-new}
use Rattle.tree_overlay.proofs.Shallow.{bytes-make, before_known, shallow-put}
use Rattle.tree_overlay.proofs.draft.Draft.make.Goals as goal

pub unreachable-requires : goal.unreachable-requires
unreachable-requires c = omega (arith, c.in_default.ensures.cases, ap length c.names.ensures, c.requires.below)

pub invariant_of-self-in_err-copy : goal.invariant_of-self-in_err-copy
invariant_of-self-in_err-copy c =
    let s = c.self.inside in
    let B = s.base.now in
    let p = c.args.path.now in
    let x = c.in-Some.name.now in
    let above = c.in_ok-above.above in
    let T = over B s.changed.entries in
    let parts = parts_of p c.names.result.now c.in-Some.field-0-1.now above x _ c.names.ensures c.in-Some.ensures.cases.0 c.in-Some.ensures.cases.1 c.in_ok-above.ensures (omega (arith, c.len.ensures, c.in-Some.ensures.cases.1, ap length c.names.ensures)) in
    let none : get T p ≡ None = ap (λ (d : Drafted). get d.tree p) c.self.view_is ∙ c.requires.absent in
    let known : c.args.before ≡ kids T above = before_known c.args.self.now.tree p above c.args.before _ c.requires.before c.in_ok-above.ensures (omega (arith, c.len.ensures)) ∙ sym (ap (λ (d : Drafted). kids d.tree above) c.self.view_is) in
    (drafted-ready B T s.broods.entries c.open.new.broods.entries c.mark.new.broods.entries s.nodes c.args.before above p x parts c.self.invariant.0 none known c.open.ensures.looks c.open.ensures.counts c.in_ok-mark.ensures.looks c.mark.ensures.counts, c.self.invariant.1, c.self.invariant.2)

pub invariant_of-self-in_err-insert : goal.invariant_of-self-in_err-insert
invariant_of-self-in_err-insert c =
    let s = c.self.inside in
    let B = s.base.now in
    let p = c.args.path.now in
    let x = c.in-Some.name.now in
    let above = c.in_ok-above.above in
    let T = over B s.changed.entries in
    let parts = parts_of p c.names.result.now c.in-Some.field-0-1.now above x _ c.names.ensures c.in-Some.ensures.cases.0 c.in-Some.ensures.cases.1 c.in_ok-above.ensures (omega (arith, c.len.ensures, c.in-Some.ensures.cases.1, ap length c.names.ensures)) in
    let none : get T p ≡ None = ap (λ (d : Drafted). get d.tree p) c.self.view_is ∙ c.requires.absent in
    let known : c.args.before ≡ kids T above = before_known c.args.self.now.tree p above c.args.before _ c.requires.before c.in_ok-above.ensures (omega (arith, c.len.ensures)) ∙ sym (ap (λ (d : Drafted). kids d.tree above) c.self.view_is) in
    subst (λ (es : List (List NameText × Option Node)). IsDrafted B (over B es) c.mark.new.broods.entries s.nodes × (s.bytes ≡ bytes (over B es)) × IsShallow (over B es)) (sym c.in_err-insert.ensures.err)
    (drafted-ready B T s.broods.entries c.open.new.broods.entries c.mark.new.broods.entries s.nodes c.args.before above p x parts c.self.invariant.0 none known c.open.ensures.looks c.open.ensures.counts c.in_ok-mark.ensures.looks c.mark.ensures.counts, c.self.invariant.1, c.self.invariant.2)

pub overflow_add-before : goal.overflow_add-before
overflow_add-before c =
    let s = c.self.inside in
    let B = s.base.now in
    let p = c.args.path.now in
    let x = c.in-Some.name.now in
    let above = c.in_ok-above.above in
    let T = over B s.changed.entries in
    let parts = parts_of p c.names.result.now c.in-Some.field-0-1.now above x _ c.names.ensures c.in-Some.ensures.cases.0 c.in-Some.ensures.cases.1 c.in_ok-above.ensures (omega (arith, c.len.ensures, c.in-Some.ensures.cases.1, ap length c.names.ensures)) in
    let none : get T p ≡ None = ap (λ (d : Drafted). get d.tree p) c.self.view_is ∙ c.requires.absent in
    let known : c.args.before ≡ kids T above = before_known c.args.self.now.tree p above c.args.before _ c.requires.before c.in_ok-above.ensures (omega (arith, c.len.ensures)) ∙ sym (ap (λ (d : Drafted). kids d.tree above) c.self.view_is) in
    omega (arith, known, kids-le T above, c.self.invariant.0.counted)

pub flip-requires : goal.flip-requires
flip-requires c = record { marked = marked_there c.in_ok-above.above c.in-Some.name.now _ c.open.new.broods.entries c.mark.new.broods.entries c.in_ok-mark.ensures.looks }

pub invariant_of-self-2 : goal.invariant_of-self-2
invariant_of-self-2 c =
    let s = c.self.inside in
    let B = s.base.now in
    let p = c.args.path.now in
    let x = c.in-Some.name.now in
    let above = c.in_ok-above.above in
    let T = over B s.changed.entries in
    let parts = parts_of p c.names.result.now c.in-Some.field-0-1.now above x _ c.names.ensures c.in-Some.ensures.cases.0 c.in-Some.ensures.cases.1 c.in_ok-above.ensures (omega (arith, c.len.ensures, c.in-Some.ensures.cases.1, ap length c.names.ensures)) in
    let none : get T p ≡ None = ap (λ (d : Drafted). get d.tree p) c.self.view_is ∙ c.requires.absent in
    let known : c.args.before ≡ kids T above = before_known c.args.self.now.tree p above c.args.before _ c.requires.before c.in_ok-above.ensures (omega (arith, c.len.ensures)) ∙ sym (ap (λ (d : Drafted). kids d.tree above) c.self.view_is) in
    let up = subst (λ (k : List NameText). UpdatesBy path_cmp (path_cmp k) s.changed c.insert.new.self (Some (Some c.args.node))) c.in_ok-copy.ensures c.in_ok-insert.ensures.updates in (
      drafted-new B s.changed c.insert.new.self c.mark.new.broods.entries c.flip.new.broods.entries above x p c.args.node s.nodes (c.args.before + 1) parts
          (drafted-ready B T s.broods.entries c.open.new.broods.entries c.mark.new.broods.entries s.nodes c.args.before above p x parts c.self.invariant.0 none known c.open.ensures.looks c.open.ensures.counts c.in_ok-mark.ensures.looks c.mark.ensures.counts)
          (λ i lt. ap (λ (d : Drafted). stands d.tree (take i p)) c.self.view_is ∙ c.requires.parent i lt) none up c.flip.ensures.looks (c.flip.ensures.counts B) (ap (λ (n : ℕ). n + 1) known),
      bytes-make B s.changed c.insert.new.self p c.args.node s.bytes c.in_ok-bytes.bytes up none c.self.invariant.1 c.in_ok-bytes.ensures,
      shallow-put B s.changed c.insert.new.self p c.args.node up c.requires.short c.self.invariant.2,
    )

pub returns-clause-tree : goal.returns-clause-tree
returns-clause-tree c =
    let s = c.self.inside in
    let p = c.args.path.now in
    let up = subst (λ (k : List NameText). UpdatesBy path_cmp (path_cmp k) s.changed c.insert.new.self (Some (Some c.args.node))) c.in_ok-copy.ensures c.in_ok-insert.ensures.updates in
    over-put s.base.now s.changed c.insert.new.self p (Some c.args.node) up ∙ ap (λ (d : Drafted). insert d.tree p c.args.node) c.self.view_is

pub returns-clause-touched : goal.returns-clause-touched
returns-clause-touched c = λ q.
    let s = c.self.inside in
    let p = c.args.path.now in
    let up = subst (λ (k : List NameText). UpdatesBy path_cmp (path_cmp k) s.changed c.insert.new.self (Some (Some c.args.node))) c.in_ok-copy.ensures c.in_ok-insert.ensures.updates in
    touched-put s.changed c.insert.new.self p (Some c.args.node) up q ∙ ap (λ (d : Drafted). is_eq (path_cmp p q) || is_touched d.touched q) c.self.view_is
