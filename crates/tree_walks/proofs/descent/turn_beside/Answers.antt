use Rattle.std.proofs.Common.{◌≡◌, ◌∙◌, ◌-◌, ◌∷◌, ◌++◌, ℕ, List, [], length, take, sym, ap, subst, arith, length-append, Some, None}
use Rattle.std.specs.Prelude.{IsTrue, is_some}
use Rattle.std.specs.FinMap.{find}
use Rattle.std.proofs.lemmas.List.{take_all, length-take}
use Rattle.khepri_terms.specs.Order.{name_cmp, path_cmp}
use Rattle.khepri_types.specs.declared.node.Node.{Node}
use Rattle.nested_nodes.specs.Nests.{IsSub}
use Rattle.nested_nodes.specs.Next.{IsNext}
use Rattle.nested_nodes.proofs.Named.{Rows}
use Rattle.tree_walks.specs.Turns.{Leads, TurnsNext, turned}
use Rattle.tree_walks.specs.declared.descent.Turn.{Turn}
use Rattle.tree_walks.proofs.Descending.{Beside, beside-end, beside-init, beside-leads, beside-next, beside-up, front_of}
use Rattle.tree_walks.proofs.descent.turn_beside.Goals as goal

pub up-init : goal.up-init
up-init c =
    let way = c.args.way.now in
    record {
      within = omega arith;
      beside = subst (λ (rest : List Turn). Beside c.args.root.now way rest) (sym (take_all (length way) way (omega arith))) (beside-init c.args.root.now way c.requires.nest c.requires.leads c.requires.leaf);
    }

pub returns-in-Some-next_kid-clause-leads : goal.returns-in-Some-next_kid-clause-leads
returns-in-Some-next_kid-clause-leads c =
    let ps = c.args.root.now in
    let way = c.args.way.now in
    let above = c.in-Some.above.now in
    let last = c.in-Some.last.now in
    let u : Turn = record { name = c.in-Some-next_kid.name; nest = c.in-Some-next_kid.nest } in
    let is : take c.up.len way ≡ above ++ last ∷ [] = sym c.split_at.ensures.front ∙ c.in-Some.ensures.cases.0 in
    let long : length above ≡ c.up.len - 1 = omega (arith, ap length is, length-take c.up.len way, length-append above (last ∷ []), c.up.invariant.within) in
    subst (λ (k : ℕ). Leads ps (turned way (k, u))) long
    (beside-leads ps way (take c.up.len way) above last u c.up.invariant.beside is (subst (λ (rs : Rows Node). IsSub (u.name.now ∷ []) rs u.nest.now) c.end_of.ensures c.in-Some-next_kid.ensures.some))

pub returns-in-Some-next_kid-clause-next : goal.returns-in-Some-next_kid-clause-next
returns-in-Some-next_kid-clause-next c =
    let ps = c.args.root.now in
    let way = c.args.way.now in
    let above = c.in-Some.above.now in
    let last = c.in-Some.last.now in
    let u : Turn = record { name = c.in-Some-next_kid.name; nest = c.in-Some-next_kid.nest } in
    let is : take c.up.len way ≡ above ++ last ∷ [] = sym c.split_at.ensures.front ∙ c.in-Some.ensures.cases.0 in
    let long : length above ≡ c.up.len - 1 = omega (arith, ap length is, length-take c.up.len way, length-append above (last ∷ []), c.up.invariant.within) in
    subst (λ (k : ℕ). TurnsNext ps way (Some (k, u))) long
    (beside-next ps way (take c.up.len way) above last u c.requires.nest c.up.invariant.beside is
    (subst (λ (rs : Rows Node). IsNext name_cmp (λ n. IsTrue (is_some (find path_cmp (n ∷ []) rs))) (Some last.name.now) (Some u.name.now)) c.end_of.ensures c.in-Some-next_kid.ensures.next))

pub up-preserved : goal.up-preserved
up-preserved c =
    let ps = c.args.root.now in
    let way = c.args.way.now in
    let above = c.in-Some.above.now in
    let last = c.in-Some.last.now in
    let is : take c.up.len way ≡ above ++ last ∷ [] = sym c.split_at.ensures.front ∙ c.in-Some.ensures.cases.0 in
    let long : length above ≡ c.up.len - 1 = omega (arith, ap length is, length-take c.up.len way, length-append above (last ∷ []), c.up.invariant.within) in
    let up = beside-up ps way (take c.up.len way) above last c.requires.nest c.up.invariant.beside is
    (subst (λ (rs : Rows Node). IsNext name_cmp (λ n. IsTrue (is_some (find path_cmp (n ∷ []) rs))) (Some last.name.now) None) c.end_of.ensures c.in_default-next_kid.ensures.next) in
    record {
      within = omega (arith, c.up.invariant.within);
      beside = subst (λ (rest : List Turn). Beside ps way rest) (sym (front_of way above up.back.0 up.back.1) ∙ ap (λ (k : ℕ). take k way) long) up;
    }

pub returns-clause-next : goal.returns-clause-next
returns-clause-next c =
    let way = c.args.way.now in
    beside-end c.args.root.now way (take c.up.len way) (omega (arith, c.up-test.false, length-take c.up.len way)) c.up.invariant.beside
