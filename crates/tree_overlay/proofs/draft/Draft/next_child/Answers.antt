use Rattle.std.proofs.Common.{◌≡◌, ◌++◌, ◌∷◌, [], List, subst, sym, ap, ◌∙◌}
use Rattle.std.specs.Option.{option_copied}
use Rattle.khepri_terms.specs.Terms.{NameText}
use Rattle.khepri_types.specs.Tree.{stands}
use Rattle.tree_overlay.specs.Kept.{IsKept}
use Rattle.tree_overlay.specs.Over.{Drafted}
use Rattle.tree_overlay.proofs.draft.Draft.next_child.Goals as goal

pub child_over-requires : goal.child_over-requires
child_over-requires c = record { kept = subst (λ (d : Drafted). IsKept d.base c.args.path.now (option_copied c.seek-nest.result)) c.self.view_is c.seek-nest.ensures }

pub bytes_over-requires-clause-stands : goal.bytes_over-requires-clause-stands
bytes_over-requires-clause-stands c = ap (stands c.args.self.now.tree) c.in_ok-child.ensures ∙ c.in-Some.ensures.0

pub bytes_over-requires-clause-kept : goal.bytes_over-requires-clause-kept
bytes_over-requires-clause-kept c =
    let base = c.self.inside.base.now in
    let o = option_copied c.kid_of-below.result in
    subst (λ (d : Drafted). IsKept d.base c.in_ok-child.child o) c.self.view_is
    (subst (λ (p : List NameText). IsKept base p o) (sym c.in_ok-child.ensures) (c.kid_of-below.ensures base c.args.path.now c.nodes-nodes.ensures.tree c.seek-nest.ensures))

pub kids_over-requires : goal.kids_over-requires
kids_over-requires c =
    let base = c.self.inside.base.now in
    let o = option_copied c.kid_of-below.result in
    record {
      kept = subst (λ (d : Drafted). IsKept d.base c.in_ok-child.child o) c.self.view_is
          (subst (λ (p : List NameText). IsKept base p o) (sym c.in_ok-child.ensures) (c.kid_of-below.ensures base c.args.path.now c.nodes-nodes.ensures.tree c.seek-nest.ensures));
    }

pub returns : goal.returns
returns c = (c.in-Some.name.now, c.in_ok-child.ensures, c.in-Some.ensures, (c.bytes_over.ensures, c.kids_over.ensures))
