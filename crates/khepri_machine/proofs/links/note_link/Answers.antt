use Rattle.std.proofs.Common.{◌∙◌, ◌++◌, List, [], ◌∷◌, ap}
use Rattle.khepri_terms.specs.Terms.{NameText}
use Rattle.khepri_machine.proofs.Following.{pushed-keeps, pushed-stays}
use Rattle.khepri_machine.proofs.links.note_link.Goals as goal

pub returns-then-not-watches_or_watched-clause-stays : goal.returns-then-not-watches_or_watched-clause-stays
returns-then-not-watches_or_watched-clause-stays g c = λ q h. h

pub returns-then-not-watches_or_watched-clause-noted : goal.returns-then-not-watches_or_watched-clause-noted
returns-then-not-watches_or_watched-clause-noted g c = λ _. c.watches_or_watched.ensures c.if-not-watches_or_watched.true

pub returns-clause-stays : goal.returns-clause-stays
returns-clause-stays g c =
    let x = c.args.path.now in
    let old = c.args.paths.now.items in
    pushed-stays x old c.push.new.self.items (c.in_ok-push.ensures.items ∙ ap (λ (p : List NameText). old ++ p ∷ []) c.in_ok-copy.ensures)

pub returns-clause-noted : goal.returns-clause-noted
returns-clause-noted g c =
    let d = c.args.draft.now in
    let x = c.args.path.now in
    let old = c.args.paths.now.items in
    pushed-keeps d.base d.tree x old c.push.new.self.items (c.in_ok-push.ensures.items ∙ ap (λ (p : List NameText). old ++ p ∷ []) c.in_ok-copy.ensures)
