use Rattle.std.proofs.Common.{◌≡◌, ◌+◌, ◌∙◌, List, [], ◌∷◌, ◌++◌, Option, Some, length, take, map, refl, sym, ap, subst, arith}
use Rattle.std.specs.Prelude.{is_some}
use Rattle.std.specs.FinMap.{len}
use Rattle.std.proofs.lemmas.List.{length-map}
use Rattle.khepri_terms.specs.Terms.{NameText}
use Rattle.khepri_types.specs.Exec.{shown_node}
use Rattle.khepri_types.specs.Patterns.{matches, matching_nodes}
use Rattle.khepri_types.specs.Tree.{Tree}
use Rattle.tree_commands.specs.declared.scan.Found.{Found}
use Rattle.tree_commands.specs.Listing.{Lists}
use Rattle.tree_commands.specs.Scans.{path_or_root}
use Rattle.tree_commands.proofs.Gathering.{Entry, Scanned, scan-begins, scan-more, scan-taken, scan-left, scan-ends, lists-none}
use Rattle.tree_commands.proofs.Masking.{came}
use Rattle.tree_commands.proofs.scan.find.Goals.{then-accepts+in_ok-add, else-accepts}
use Rattle.tree_commands.proofs.scan.find.Goals as goal

pub nodes-init : goal.nodes-init
nodes-init g c =
    let T = c.in_ok-walk.walk.tree in (
      [],
      subst (λ (o : Option (List NameText)). Scanned c.args.pattern.now T 0 o c.start-masks.result []) (sym c.in_ok-walk.ensures.begins) (scan-begins c.args.pattern.now T c.start-masks.result (c.start-masks.ensures T)),
      lists-none T c.args.limit (record { count = 0; nodes = c.new.result }) refl c.new.ensures.items,
      c.in_ok-walk.ensures.tree,
      omega arith,
    )

pub visit-node-requires-clause-more : goal.visit-node-requires-clause-more
visit-node-requires-clause-more g c =
    let i = c.nodes.invariant in
    scan-more c.args.pattern.now c.nodes.walk.tree c.nodes.counter c.nodes.walk.last c.nodes.masks i.0 i.1 (omega (arith, c.nodes-end.ensures.count, ap len i.3))

pub visit-node-requires-clause-behind : goal.visit-node-requires-clause-behind
visit-node-requires-clause-behind g c = c.nodes.invariant.1.behind

pub add-requires : goal.add-requires
add-requires g c = record { room = omega (arith, c.nodes.invariant.1.few, c.nodes.invariant.2.count) }

pub nodes-preserved : goal.nodes-preserved
nodes-preserved g c =
    let parts = c.args.pattern.now in
    let T = c.nodes.walk.tree in
    let to = c.visit-node.new.walk in
    let masks = c.visit-node.new.masks in
    let q = path_or_root to.last in
    let i = c.nodes.invariant in
    let came' = came T c.nodes.walk.last to.last c.visit-node.ensures.next in
    let next = came'.1 in
    let told : c.accepts.result ≡ matches parts T q = c.accepts.ensures T q (ap is_some next.1) (c.top.ensures.mask parts T q c.visit-node.ensures.masks) in
    let on : (es : List Entry) → Scanned parts T (c.nodes.counter + 1) (Some q) masks es → Scanned parts to.tree (c.nodes.counter + 1) to.last masks es =
    (λ es s. subst (λ (U : Tree). Scanned parts U (c.nodes.counter + 1) to.last masks es) (sym c.visit-node.ensures.tree) (subst (λ (o : Option (List NameText)). Scanned parts T (c.nodes.counter + 1) o masks es) (sym came'.0) s)) in
    let same : to.tree ≡ c.args.tree.now = c.visit-node.ensures.tree ∙ i.3 in
    elim c.if-accepts.branch [
      | then-accepts+in_ok-add w ↦
          let es : List Entry = i.0 ++ (q, next.0) ∷ [] in (
            es,
            on es (scan-taken parts T c.nodes.counter c.nodes.walk.last c.nodes.masks masks i.0 q next i.1 c.visit-node.ensures.masks (sym told ∙ w.if-accepts.true)),
            subst (λ (U : Tree). Lists U c.args.limit es c.if-accepts.found) (sym c.visit-node.ensures.tree) (subst (λ (f : Found). Lists T c.args.limit es f) (sym w.found-is) (w.in_ok-add.ensures T i.0 next.0 next.1 c.visit-node.ensures.node i.2)),
            same,
            omega (arith, i.4, c.visit-node.ensures.steps),
          )
      | else-accepts w ↦ (
        i.0,
        on i.0 (scan-left parts T c.nodes.counter c.nodes.walk.last c.nodes.masks masks i.0 q next i.1 c.visit-node.ensures.masks (sym told ∙ w.if-accepts.false)),
        subst (λ (U : Tree). Lists U c.args.limit i.0 c.if-accepts.found) (sym c.visit-node.ensures.tree) (subst (λ (f : Found). Lists T c.args.limit i.0 f) (sym w.found-is) i.2),
        same,
        omega (arith, i.4, c.visit-node.ensures.steps),
      )
    ]

pub returns-clause-count : goal.returns-clause-count
returns-clause-count g c =
    let i = c.nodes.invariant in
    let all = ap (matching_nodes c.args.pattern.now) (sym i.3) ∙ scan-ends c.args.pattern.now c.nodes.walk.tree c.nodes.counter c.nodes.walk.last c.nodes.masks i.0 i.1 (omega (arith, c.nodes-end.ensures.count, ap len i.3)) in
    i.2.count ∙ (ap length (sym all) ∙ sym (length-map (matching_nodes c.args.pattern.now c.args.tree.now) (λ (e : Entry). e.0)))

pub returns-clause-nodes : goal.returns-clause-nodes
returns-clause-nodes g c =
    let i = c.nodes.invariant in
    let all = ap (matching_nodes c.args.pattern.now) (sym i.3) ∙ scan-ends c.args.pattern.now c.nodes.walk.tree c.nodes.counter c.nodes.walk.last c.nodes.masks i.0 i.1 (omega (arith, c.nodes-end.ensures.count, ap len i.3)) in
    i.2.listed
    ∙ (ap (λ (T : Tree). map (shown_node T) (take c.args.limit i.0)) i.3
    ∙ ap (λ (es : List Entry). map (shown_node c.args.tree.now) (take c.args.limit es)) (sym all))

pub returns-clause-steps : goal.returns-clause-steps
returns-clause-steps g c =
    let i = c.nodes.invariant in
    omega (arith, i.4, c.nodes-end.ensures.count, i.1.left, ap len i.3)
