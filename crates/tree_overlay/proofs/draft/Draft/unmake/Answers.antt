use Rattle.std.proofs.Common.{◌≡◌, List, arith, length, sym, ap, subst, ◌∙◌, ◌+◌, ◌-◌, ◌||◌, ◌++◌, ◌∷◌, [], Option, Some, None}
use Rattle.std.specs.Prelude.{IsTrue}
use Rattle.std.specs.BTreeMap.{UpdatesBy}
use Rattle.std.specs.Ordering.{is_eq}
use Rattle.std.specs.FinMap.{get, remove}
use Rattle.khepri_terms.specs.Terms.{NameText}
use Rattle.khepri_terms.specs.Order.{path_cmp}
use Rattle.khepri_types.specs.declared.node.Node.{Node}
use Rattle.khepri_types.specs.Sizes.{bytes, kids}
use Rattle.khepri_types.specs.Tree.{stands}
use Rattle.khepri_types.proofs.Fitting.{kids-le}
use Rattle.khepri_types.proofs.Growing.{get_some}
use Rattle.tree_overlay.specs.Over.{Drafted, IsShallow, over, is_touched}
use Rattle.tree_overlay.specs.Broods.{IsDrafted}
use Rattle.tree_overlay.proofs.Overlay.{over-put, touched-put}
use Rattle.tree_overlay.proofs.Hatching.{parts_of, marked_there, drafted-known, drafted-gone, some_kids}
use Rattle.tree_overlay.proofs.Shallow.{bytes-cut, before_known, shallow-cut}
use Rattle.tree_overlay.proofs.draft.Draft.unmake.Goals as goal

pub unreachable-requires : goal.unreachable-requires
unreachable-requires c = omega (arith, c.in_default.ensures.cases, ap length c.names.ensures, c.requires.below)

pub invariant_of-self-in_err-copy : goal.invariant_of-self-in_err-copy
invariant_of-self-in_err-copy c =
    let s = c.self.inside in
    let B = s.base.now in
    let p = c.args.path.now in
    let x = c.in-Some.name.now in
    let above = c.in_ok-above.above in
    let T = over B s.changed.entries in
    let parts = parts_of p c.names.result.now c.in-Some.field-0-1.now above x _ c.names.ensures c.in-Some.ensures.cases.0 c.in-Some.ensures.cases.1 c.in_ok-above.ensures (omega (arith, c.len.ensures, c.in-Some.ensures.cases.1, ap length c.names.ensures)) in
    let there : IsTrue (stands T p) = ap (λ (d : Drafted). stands d.tree p) c.self.view_is ∙ c.requires.stands in
    let w = get_some (get T p) there in
    let known : c.args.before ≡ kids T above = before_known c.args.self.now.tree p above c.args.before _ c.requires.before c.in_ok-above.ensures (omega (arith, c.len.ensures)) ∙ sym (ap (λ (d : Drafted). kids d.tree above) c.self.view_is) in
    (drafted-known B T s.broods.entries c.open.new.broods.entries c.mark.new.broods.entries s.nodes c.args.before above p x parts c.self.invariant.0 there known c.open.ensures.looks c.open.ensures.counts c.in_ok-mark.ensures.looks c.mark.ensures.counts, c.self.invariant.1, c.self.invariant.2)

pub invariant_of-self-in_err-insert : goal.invariant_of-self-in_err-insert
invariant_of-self-in_err-insert c =
    let s = c.self.inside in
    let B = s.base.now in
    let p = c.args.path.now in
    let x = c.in-Some.name.now in
    let above = c.in_ok-above.above in
    let T = over B s.changed.entries in
    let parts = parts_of p c.names.result.now c.in-Some.field-0-1.now above x _ c.names.ensures c.in-Some.ensures.cases.0 c.in-Some.ensures.cases.1 c.in_ok-above.ensures (omega (arith, c.len.ensures, c.in-Some.ensures.cases.1, ap length c.names.ensures)) in
    let there : IsTrue (stands T p) = ap (λ (d : Drafted). stands d.tree p) c.self.view_is ∙ c.requires.stands in
    let w = get_some (get T p) there in
    let known : c.args.before ≡ kids T above = before_known c.args.self.now.tree p above c.args.before _ c.requires.before c.in_ok-above.ensures (omega (arith, c.len.ensures)) ∙ sym (ap (λ (d : Drafted). kids d.tree above) c.self.view_is) in
    subst (λ (es : List (List NameText × Option Node)). IsDrafted B (over B es) c.mark.new.broods.entries s.nodes × (s.bytes ≡ bytes (over B es)) × IsShallow (over B es)) (sym c.in_err-insert.ensures.err)
    (drafted-known B T s.broods.entries c.open.new.broods.entries c.mark.new.broods.entries s.nodes c.args.before above p x parts c.self.invariant.0 there known c.open.ensures.looks c.open.ensures.counts c.in_ok-mark.ensures.looks c.mark.ensures.counts, c.self.invariant.1, c.self.invariant.2)

pub overflow_sub-before : goal.overflow_sub-before
overflow_sub-before c =
    let s = c.self.inside in
    let B = s.base.now in
    let p = c.args.path.now in
    let x = c.in-Some.name.now in
    let above = c.in_ok-above.above in
    let T = over B s.changed.entries in
    let parts = parts_of p c.names.result.now c.in-Some.field-0-1.now above x _ c.names.ensures c.in-Some.ensures.cases.0 c.in-Some.ensures.cases.1 c.in_ok-above.ensures (omega (arith, c.len.ensures, c.in-Some.ensures.cases.1, ap length c.names.ensures)) in
    let there : IsTrue (stands T p) = ap (λ (d : Drafted). stands d.tree p) c.self.view_is ∙ c.requires.stands in
    let w = get_some (get T p) there in
    let known : c.args.before ≡ kids T above = before_known c.args.self.now.tree p above c.args.before _ c.requires.before c.in_ok-above.ensures (omega (arith, c.len.ensures)) ∙ sym (ap (λ (d : Drafted). kids d.tree above) c.self.view_is) in
    let many = some_kids T above p x w.0 parts w.1 in
    omega (arith, known, many)

pub flip-requires : goal.flip-requires
flip-requires c = record { marked = marked_there c.in_ok-above.above c.in-Some.name.now _ c.open.new.broods.entries c.mark.new.broods.entries c.in_ok-mark.ensures.looks }

pub overflow_sub-self : goal.overflow_sub-self
overflow_sub-self c =
    let s = c.self.inside in
    let B = s.base.now in
    let p = c.args.path.now in
    let x = c.in-Some.name.now in
    let above = c.in_ok-above.above in
    let T = over B s.changed.entries in
    let parts = parts_of p c.names.result.now c.in-Some.field-0-1.now above x _ c.names.ensures c.in-Some.ensures.cases.0 c.in-Some.ensures.cases.1 c.in_ok-above.ensures (omega (arith, c.len.ensures, c.in-Some.ensures.cases.1, ap length c.names.ensures)) in
    let there : IsTrue (stands T p) = ap (λ (d : Drafted). stands d.tree p) c.self.view_is ∙ c.requires.stands in
    let w = get_some (get T p) there in
    let known : c.args.before ≡ kids T above = before_known c.args.self.now.tree p above c.args.before _ c.requires.before c.in_ok-above.ensures (omega (arith, c.len.ensures)) ∙ sym (ap (λ (d : Drafted). kids d.tree above) c.self.view_is) in
    let many = some_kids T above p x w.0 parts w.1 in
    omega (arith, many, kids-le T above, c.self.invariant.0.counted)

pub invariant_of-self-2 : goal.invariant_of-self-2
invariant_of-self-2 c =
    let s = c.self.inside in
    let B = s.base.now in
    let p = c.args.path.now in
    let x = c.in-Some.name.now in
    let above = c.in_ok-above.above in
    let T = over B s.changed.entries in
    let parts = parts_of p c.names.result.now c.in-Some.field-0-1.now above x _ c.names.ensures c.in-Some.ensures.cases.0 c.in-Some.ensures.cases.1 c.in_ok-above.ensures (omega (arith, c.len.ensures, c.in-Some.ensures.cases.1, ap length c.names.ensures)) in
    let there : IsTrue (stands T p) = ap (λ (d : Drafted). stands d.tree p) c.self.view_is ∙ c.requires.stands in
    let w = get_some (get T p) there in
    let known : c.args.before ≡ kids T above = before_known c.args.self.now.tree p above c.args.before _ c.requires.before c.in_ok-above.ensures (omega (arith, c.len.ensures)) ∙ sym (ap (λ (d : Drafted). kids d.tree above) c.self.view_is) in
    let many = some_kids T above p x w.0 parts w.1 in
    let up = subst (λ (k : List NameText). UpdatesBy path_cmp (path_cmp k) s.changed c.insert.new.self (Some None)) c.in_ok-copy.ensures c.in_ok-insert.ensures.updates in
    let d : IsDrafted B T c.mark.new.broods.entries s.nodes = drafted-known B T s.broods.entries c.open.new.broods.entries c.mark.new.broods.entries s.nodes c.args.before above p x parts c.self.invariant.0 there known c.open.ensures.looks c.open.ensures.counts c.in_ok-mark.ensures.looks c.mark.ensures.counts in
    let few = kids-le T above in
    let more : s.nodes ≡ (s.nodes - 1) + 1 = omega (arith, many, few, d.counted) in
    let here : get c.args.self.now.tree p ≡ Some w.0 = sym (ap (λ (e : Drafted). get e.tree p) c.self.view_is) ∙ w.1 in
    let beside = c.bytes_beside-bytes.ensures w.0 here ∙ sym (ap (λ (e : Drafted). bytes e.tree) c.self.view_is) in (
      drafted-gone B s.changed c.insert.new.self c.mark.new.broods.entries c.flip.new.broods.entries above x p w.0 (s.nodes - 1) (c.args.before - 1) parts
          (subst (IsDrafted B T c.mark.new.broods.entries) more d) c.requires.below (λ k. ap (λ (e : Drafted). stands e.tree (p ++ k ∷ [])) c.self.view_is ∙ c.requires.alone k) w.1 up c.flip.ensures.looks (c.flip.ensures.counts B) (omega (arith, known, many)),
      bytes-cut B s.changed c.insert.new.self p w.0 c.bytes_beside-bytes.result up w.1 beside,
      shallow-cut B s.changed c.insert.new.self p up c.self.invariant.2,
    )

pub returns-clause-tree : goal.returns-clause-tree
returns-clause-tree c =
    let s = c.self.inside in
    let p = c.args.path.now in
    let up = subst (λ (k : List NameText). UpdatesBy path_cmp (path_cmp k) s.changed c.insert.new.self (Some None)) c.in_ok-copy.ensures c.in_ok-insert.ensures.updates in
    over-put s.base.now s.changed c.insert.new.self p None up ∙ ap (λ (d : Drafted). remove d.tree p) c.self.view_is

pub returns-clause-touched : goal.returns-clause-touched
returns-clause-touched c = λ q.
    let s = c.self.inside in
    let p = c.args.path.now in
    let up = subst (λ (k : List NameText). UpdatesBy path_cmp (path_cmp k) s.changed c.insert.new.self (Some None)) c.in_ok-copy.ensures c.in_ok-insert.ensures.updates in
    touched-put s.changed c.insert.new.self p None up q ∙ ap (λ (d : Drafted). is_eq (path_cmp p q) || is_touched d.touched q) c.self.view_is
