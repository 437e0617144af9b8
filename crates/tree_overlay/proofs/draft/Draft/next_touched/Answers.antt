use Rattle.std.proofs.Common.{Bool, List, ap, subst, Some, None}
use Rattle.std.specs.Prelude.{IsTrue}
use Rattle.std.specs.Option.{option_copied}
use Rattle.khepri_terms.specs.Terms.{NameText}
use Rattle.khepri_terms.specs.Order.{path_cmp}
use Rattle.khepri_types.proofs.Order.{path_cmp_total}
use Rattle.nested_nodes.specs.Next.{IsNext}
use Rattle.nested_nodes.proofs.Keys.{first-key_some, range-key_none, range-key_some}
use Rattle.tree_overlay.specs.Over.{Drafted}
use Rattle.tree_overlay.proofs.Overlay.{touched_has}
use Rattle.tree_overlay.proofs.draft.Draft.next_touched.Goals as goal

pub returns-in-Some-first_key_value : goal.returns-in-Some-first_key_value
returns-in-Some-first_key_value c =
    let m = c.self.inside.changed in
    let x = c.in-Some-first_key_value.first.now in
    subst (λ (f : List NameText → Bool). IsNext path_cmp (λ q. IsTrue (f q)) (option_copied c.args.after) (Some x)) (λ i q. touched_has m c.args.self.now (ap (λ (d : Drafted). d.touched) c.self.view_is) q i)
    (rw c.in-None.is (first-key_some path_cmp path_cmp_total m x c.in-Some-first_key_value.field-0-1.now c.in-Some-first_key_value.ensures.value c.in-Some-first_key_value.ensures.least))

pub returns-in-Some-next : goal.returns-in-Some-next
returns-in-Some-next c =
    let m = c.self.inside.changed in
    let x = c.in-Some-next.next.now in
    subst (λ (f : List NameText → Bool). IsNext path_cmp (λ q. IsTrue (f q)) (option_copied c.args.after) (Some x)) (λ i q. touched_has m c.args.self.now (ap (λ (d : Drafted). d.touched) c.self.view_is) q i)
    (rw c.in-Some.is (range-key_some path_cmp path_cmp_total m c.in-Some.path.now c.range.result c.next.new.self (x, c.in-Some-next.field-0-1.now) (c.range.ensures.in_range tt) c.in-Some-next.ensures.steps))

pub returns-in-None-next : goal.returns-in-None-next
returns-in-None-next c =
    let m = c.self.inside.changed in
    subst (λ (f : List NameText → Bool). IsNext path_cmp (λ q. IsTrue (f q)) (option_copied c.args.after) None) (λ i q. touched_has m c.args.self.now (ap (λ (d : Drafted). d.touched) c.self.view_is) q i)
    (rw c.in-Some.is (range-key_none path_cmp m c.in-Some.path.now c.range.result (c.range.ensures.in_range tt) c.in-None-next.ensures.steps.0))
