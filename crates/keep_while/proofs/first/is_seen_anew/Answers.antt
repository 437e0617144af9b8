use Rattle.std.proofs.Common.{◌∙◌, ap}
use Rattle.khepri_types.specs.Conditions.{seen_at}
use Rattle.khepri_types.specs.Tree.{Tree}
use Rattle.keep_while.proofs.Looking.{view-same, view-alike}
use Rattle.keep_while.proofs.first.is_seen_anew.Goals as goal

pub returns-in-Some-Some-clause-same : goal.returns-in-Some-Some-clause-same
returns-in-Some-Some-clause-same g c = λ h.
    let q = c.args.path.now in
    view-same c.args.draft.now.base c.args.draft.now.tree q c.in-Some-Some.old c.in-Some-Some.new (c.in-Some-Some.ensures.node ∙ ap (λ (T : Tree). seen_at T q) c.base.ensures) c.in-Some-Some.ensures'.node (c.shows_else.ensures.same h)

pub returns-in-Some-Some-clause-differs : goal.returns-in-Some-Some-clause-differs
returns-in-Some-Some-clause-differs g c = λ h same.
    let q = c.args.path.now in
    c.shows_else.ensures.differs h (view-alike c.args.draft.now.base c.args.draft.now.tree q c.in-Some-Some.old c.in-Some-Some.new (c.in-Some-Some.ensures.node ∙ ap (λ (T : Tree). seen_at T q) c.base.ensures) c.in-Some-Some.ensures'.node same)
