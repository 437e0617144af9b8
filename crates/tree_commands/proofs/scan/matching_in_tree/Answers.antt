use Rattle.std.proofs.Common.{◌≡◌, ◌+◌, ◌∙◌, List, [], ◌∷◌, ◌++◌, Option, Some, map, sym, ap, subst, arith}
use Rattle.std.specs.Prelude.{is_some}
use Rattle.std.specs.FinMap.{len}
use Rattle.khepri_terms.specs.Terms.{NameText}
use Rattle.khepri_types.specs.Patterns.{matches, matching_nodes}
use Rattle.khepri_types.specs.Tree.{Tree}
use Rattle.tree_commands.specs.Scans.{path_or_root}
use Rattle.tree_commands.proofs.Gathering.{Entry, Scanned, scan-begins, scan-more, scan-taken, scan-left, scan-ends, paths-more}
use Rattle.tree_commands.proofs.Masking.{came}
use Rattle.tree_commands.proofs.scan.matching_in_tree.Goals.{then-accepts+in_ok-path+in_ok-push, else-accepts}
use Rattle.tree_commands.proofs.scan.matching_in_tree.Goals as goal

pub nodes-init : goal.nodes-init
nodes-init g c =
    let T = c.in_ok-walk.walk.tree in (
      [],
      subst (λ (o : Option (List NameText)). Scanned c.args.pattern.now T 0 o c.start-masks.result []) (sym c.in_ok-walk.ensures.begins) (scan-begins c.args.pattern.now T c.start-masks.result (c.start-masks.ensures T)),
      c.new-paths.ensures.items,
      c.in_ok-walk.ensures.tree,
      omega arith,
    )

pub visit-requires-clause-more : goal.visit-requires-clause-more
visit-requires-clause-more g c =
    let i = c.nodes.invariant in
    scan-more c.args.pattern.now c.nodes.walk.tree c.nodes.counter c.nodes.walk.last c.nodes.masks i.0 i.1 (omega (arith, c.nodes-end.ensures.count, ap len i.3))

pub visit-requires-clause-behind : goal.visit-requires-clause-behind
visit-requires-clause-behind g c = c.nodes.invariant.1.behind

pub nodes-preserved : goal.nodes-preserved
nodes-preserved g c =
    let parts = c.args.pattern.now in
    let T = c.nodes.walk.tree in
    let to = c.visit.new.walk in
    let masks = c.visit.new.masks in
    let q = path_or_root to.last in
    let i = c.nodes.invariant in
    let came' = came T c.nodes.walk.last to.last c.visit.ensures.next in
    let next = came'.1 in
    let told : c.accepts.result ≡ matches parts T q = c.accepts.ensures T q (ap is_some next.1) (c.top.ensures.mask parts T q c.visit.ensures.masks) in
    let on : (es : List Entry) → Scanned parts T (c.nodes.counter + 1) (Some q) masks es → Scanned parts to.tree (c.nodes.counter + 1) to.last masks es =
    (λ es s. subst (λ (U : Tree). Scanned parts U (c.nodes.counter + 1) to.last masks es) (sym c.visit.ensures.tree) (subst (λ (o : Option (List NameText)). Scanned parts T (c.nodes.counter + 1) o masks es) (sym came'.0) s)) in
    let same : to.tree ≡ c.args.tree.now = c.visit.ensures.tree ∙ i.3 in
    elim c.if-accepts.branch [
      | then-accepts+in_ok-path+in_ok-push w ↦
          let es : List Entry = i.0 ++ (q, next.0) ∷ [] in (
            es,
            on es (scan-taken parts T c.nodes.counter c.nodes.walk.last c.nodes.masks masks i.0 q next i.1 c.visit.ensures.masks (sym told ∙ w.if-accepts.true)),
            ap (λ v. v.items) w.paths-is ∙ (w.in_ok-push.ensures.items ∙ paths-more i.0 (q, next.0) c.nodes.paths.items w.in_ok-path.field-0 i.2 w.in_ok-path.ensures),
            same,
            omega (arith, i.4, c.visit.ensures.steps),
          )
      | else-accepts w ↦ (
        i.0,
        on i.0 (scan-left parts T c.nodes.counter c.nodes.walk.last c.nodes.masks masks i.0 q next i.1 c.visit.ensures.masks (sym told ∙ w.if-accepts.false)),
        ap (λ v. v.items) w.paths-is ∙ i.2,
        same,
        omega (arith, i.4, c.visit.ensures.steps),
      )
    ]

pub returns-clause-paths : goal.returns-clause-paths
returns-clause-paths g c =
    let i = c.nodes.invariant in
    let all = ap (matching_nodes c.args.pattern.now) (sym i.3) ∙ scan-ends c.args.pattern.now c.nodes.walk.tree c.nodes.counter c.nodes.walk.last c.nodes.masks i.0 i.1 (omega (arith, c.nodes-end.ensures.count, ap len i.3)) in
    i.2 ∙ ap (λ (es : List Entry). map (λ (e : Entry). e.0) es) (sym all)

pub returns-clause-steps : goal.returns-clause-steps
returns-clause-steps g c =
    let i = c.nodes.invariant in
    omega (arith, i.4, c.nodes-end.ensures.count, i.1.left, ap len i.3)
