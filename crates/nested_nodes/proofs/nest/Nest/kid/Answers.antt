use Rattle.std.proofs.Common.{sym, ap, ◌∙◌, [], ◌∷◌, refl}
use Rattle.std.specs.Prelude.{is_some}
use Rattle.khepri_types.proofs.Order.{name_cmp-same}
use Rattle.nested_nodes.proofs.Named.{got_not, has_kid, sub-kid}
use Rattle.nested_nodes.proofs.Rows.{find_lookup}
use Rattle.khepri_terms.specs.Order.{name_cmp}
use Rattle.nested_nodes.proofs.nest.Nest.kid.Goals as goal

pub returns-in_default-clause-stands : goal.returns-in_default-clause-stands
returns-in_default-clause-stands c =
    let s = c.self.inside in
    let x = c.args.name.now in
    sym (ap is_some (got_not (x ∷ []) x [] s.node s.kids.entries c.args.self.now refl c.self.view_is c.self.invariant c.in_default.ensures.value))

pub returns-clause-name : goal.returns-clause-name
returns-clause-name c = sym (name_cmp-same c.args.name.now c.in-Some.own.now c.in-Some.ensures.same_key)

pub returns-clause-some : goal.returns-clause-some
returns-clause-some c =
    let s = c.self.inside in
    sub-kid c.args.name.now s.node s.kids.entries c.args.self.now c.in-Some.kid.now c.self.view_is c.self.invariant c.in-Some.ensures.value

pub returns-clause-stands : goal.returns-clause-stands
returns-clause-stands c =
    let s = c.self.inside in
    let x = c.args.name.now in
    ap is_some (c.in-Some.ensures.value ∙ sym (find_lookup name_cmp x s.kids.entries)) ∙ has_kid s.node s.kids.entries c.args.self.now c.self.view_is c.self.invariant x
