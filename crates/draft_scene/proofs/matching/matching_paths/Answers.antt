use Rattle.std.proofs.Common.{◌≡◌, ◌<◌, ◌∙◌, List, [], ◌∷◌, ◌++◌, Option, length, map, sym, ap, subst, arith}
use Rattle.std.specs.Prelude.{is_some}
use Rattle.khepri_terms.specs.Terms.{NameText}
use Rattle.khepri_types.specs.Patterns.{matches}
use Rattle.draft_scene.specs.Scans.{ahead, AreBehind, ComesNext}
use Rattle.draft_scene.proofs.Scanning.{Entry, scan-begins, scan-more, scan-taken, scan-left, scan-ends, paths-more}
use Rattle.draft_scene.proofs.matching.matching_paths.Goals.{then-accepts+in_ok-copy+in_ok-push, else-accepts}
use Rattle.draft_scene.proofs.matching.matching_paths.Goals as goal

pub nodes-init : goal.nodes-init
nodes-init g c =
    let T = c.args.draft.now.tree in
    ([], scan-begins c.args.pattern.now T c.start-masks.result (c.start-masks.ensures T), c.new-paths.ensures.items)

pub visit-requires-clause-more : goal.visit-requires-clause-more
visit-requires-clause-more g c =
    let T = c.args.draft.now.tree in
    let i = c.nodes.invariant in
    subst (λ (o : Option (List NameText)). 0 < length (ahead T o)) (sym c.as_ref.ensures.value)
    (scan-more c.args.pattern.now T c.nodes.counter c.nodes.last c.nodes.masks i.0 i.1 (omega (arith, c.nodes-end.ensures.count)))

pub visit-requires-clause-behind : goal.visit-requires-clause-behind
visit-requires-clause-behind g c =
    subst (λ (o : Option (List NameText)). AreBehind c.args.pattern.now c.args.draft.now.tree o c.nodes.masks) (sym c.as_ref.ensures.value) c.nodes.invariant.1.behind

pub nodes-preserved : goal.nodes-preserved
nodes-preserved g c =
    let parts = c.args.pattern.now in
    let T = c.args.draft.now.tree in
    let q = c.in_ok-path.path in
    let masks = c.visit.new.masks in
    let i = c.nodes.invariant in
    let next : ComesNext T c.nodes.last q = subst (λ (o : Option (List NameText)). ComesNext T o q) c.as_ref.ensures.value c.in_ok-path.ensures.next in
    let are = c.in_ok-path.ensures.masks in
    let told : c.accepts.result ≡ matches parts T q = c.accepts.ensures T q (ap is_some next.1) (c.top.ensures.mask parts T q are) in
    elim c.if-accepts.branch [
      | then-accepts+in_ok-copy+in_ok-push w ↦ (
        i.0 ++ (q, next.0) ∷ [],
        scan-taken parts T c.nodes.counter c.nodes.last c.nodes.masks masks i.0 q next i.1 are (sym told ∙ w.if-accepts.true),
        ap (λ v. v.items) w.paths-is ∙ (w.in_ok-push.ensures.items ∙ paths-more i.0 (q, next.0) c.nodes.paths.items w.in_ok-copy.field-0 i.2 w.in_ok-copy.ensures),
      )
      | else-accepts w ↦ (
        i.0,
        scan-left parts T c.nodes.counter c.nodes.last c.nodes.masks masks i.0 q next i.1 are (sym told ∙ w.if-accepts.false),
        ap (λ v. v.items) w.paths-is ∙ i.2,
      )
    ]

pub returns : goal.returns
returns g c =
    let T = c.args.draft.now.tree in
    let i = c.nodes.invariant in
    i.2 ∙ ap (λ (es : List Entry). map (λ (e : Entry). e.0) es) (sym (scan-ends c.args.pattern.now T c.nodes.counter c.nodes.last c.nodes.masks i.0 i.1 (omega (arith, c.nodes-end.ensures.count))))
