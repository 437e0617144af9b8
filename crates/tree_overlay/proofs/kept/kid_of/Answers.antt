use Rattle.std.proofs.Common.{None, sym, ◌∙◌, ◌∷◌, []}
use Rattle.std.specs.FinMap.{find}
use Rattle.khepri_terms.specs.Order.{path_cmp}
use Rattle.tree_overlay.proofs.Keeping.{kept-as, none-below, not_there, some-below}
use Rattle.tree_overlay.proofs.kept.kid_of.Goals as goal

pub returns-in-None : goal.returns-in-None
returns-in-None c = λ B p tree kept. let k = kept-as B p c.args.nest None c.in-None.is kept in none-below B p c.args.name.now tree k

pub returns-in-None-kid : goal.returns-in-None-kid
returns-in-None-kid c = λ B p tree kept. let k = kept-as B p c.args.nest _ c.in-Some.is kept in sym (k.0 (c.args.name.now ∷ [])) ∙ not_there (find path_cmp (c.args.name.now ∷ []) c.in-Some.nest.now) c.in-None-kid.ensures.stands

pub returns-in-Some-kid : goal.returns-in-Some-kid
returns-in-Some-kid c = λ B p tree kept. let k = kept-as B p c.args.nest _ c.in-Some.is kept in some-below B p c.args.name.now c.in-Some.nest.now c.in-Some-kid.kid.now k c.in-Some-kid.ensures.some
