use Rattle.worklist_laws.specs.Links.{Links, linked, linked_to}
use Rattle.keep_while.proofs.Firsts.{links-none, links-only}
use Rattle.std.proofs.Common.{◌≡◌, ◌||◌, List, refl}
use Rattle.std.specs.Ordering.{is_eq}
use Rattle.std.proofs.lemmas.Result.{on_ok_weaker}
use Rattle.khepri_terms.specs.Terms.{NameText}
use Rattle.khepri_terms.specs.Order.{path_cmp}
use Rattle.khepri_types.specs.Views.{node_of}
use Rattle.worklist_laws.specs.Candidates.{is_in}
use Rattle.keep_while.proofs.Failures.{none-seen}
use Rattle.keep_while.proofs.Looking.{links-one, links-stay, links-other, unwatched, gone-one, at-on}
use Rattle.keep_while.proofs.first.link.Goals as goal

pub returns-in-None-clause-linked : goal.returns-in-None-clause-linked
returns-in-None-clause-linked g c =
    at-on c.note.result (λ t h. absurd (unwatched c.args.draft.now.tree c.args.path.now t (none-seen c.args.draft.now.tree c.args.path.now c.in-None.ensures.node) h))

pub returns-in-None-clause-gone : goal.returns-in-None-clause-gone
returns-in-None-clause-gone g c =
    let x = c.args.path.now in
    let old = c.args.gone.now.keys in
    let new = c.note.new.set.keys in
    on_ok_weaker c.note.result (λ (f : (q : List NameText) → is_in new q ≡ (is_eq (path_cmp x q) || is_in old q)). gone-one c.args.draft.now.tree x old new (none-seen c.args.draft.now.tree x c.in-None.ensures.node) f) c.note.ensures.adds

pub returns-in-Some-clause-linked : goal.returns-in-Some-clause-linked
returns-in-Some-clause-linked g c =
    let old : Links = c.args.written.now in
    let new : Links = c.link.new.self in
    let ws = c.in-Some.node.watches.now in
    on_ok_weaker c.link.result (λ (f : new ≡ linked old c.args.path.now ws). links-one c.args.path.now ws old new c.args.draft.now.tree (node_of c.in-Some.node) c.in-Some.ensures.watches refl c.requires.unlinked f) c.link.ensures.ok

pub returns-in-Some-clause-stays : goal.returns-in-Some-clause-stays
returns-in-Some-clause-stays g c =
    let old : Links = c.args.written.now in
    let new : Links = c.link.new.self in
    let ws = c.in-Some.node.watches.now in
    on_ok_weaker c.link.result (λ (f : new ≡ linked old c.args.path.now ws). links-stay c.args.path.now ws old new c.requires.unlinked f) c.link.ensures.ok

pub returns-in-Some-clause-others : goal.returns-in-Some-clause-others
returns-in-Some-clause-others g c =
    let old : Links = c.args.written.now in
    let new : Links = c.link.new.self in
    let ws = c.in-Some.node.watches.now in
    on_ok_weaker c.link.result (λ (f : new ≡ linked old c.args.path.now ws). links-other c.args.path.now ws old new f) c.link.ensures.ok

pub returns-in-None-clause-only : goal.returns-in-None-clause-only
returns-in-None-clause-only g c = at-on c.note.result (links-none c.args.draft.now.tree c.args.path.now (linked_to c.args.written.now))

pub returns-in-Some-clause-only : goal.returns-in-Some-clause-only
returns-in-Some-clause-only g c =
    let old : Links = c.args.written.now in
    let new : Links = c.link.new.self in
    let ws = c.in-Some.node.watches.now in
    on_ok_weaker c.link.result (λ (f : new ≡ linked old c.args.path.now ws). links-only c.args.path.now ws old new c.args.draft.now.tree (node_of c.in-Some.node) c.in-Some.ensures.watches refl c.requires.unlinked f) c.link.ensures.ok
