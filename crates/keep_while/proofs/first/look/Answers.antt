use Rattle.std.proofs.Common.{List}
use Rattle.std.specs.Prelude.{IsTrue}
use Rattle.std.proofs.lemmas.Result.{on_ok_weaker}
use Rattle.khepri_terms.specs.Terms.{NameText}
use Rattle.worklist_laws.specs.Candidates.{is_in, watches_at}
use Rattle.worklist_laws.specs.Links.{linked_to}
use Rattle.keep_while.proofs.Firsts.{anew-both}
use Rattle.keep_while.proofs.Looking.{at-on, look-record}
use Rattle.keep_while.proofs.first.look.Goals as goal

pub returns-clause-looks : goal.returns-clause-looks
returns-clause-looks g c =
    let new = linked_to c.link.new.written in
    let q = c.args.path.now in
    on_ok_weaker c.link.result (λ (f : (t : List NameText) → IsTrue (watches_at c.args.draft.now.tree q t) → IsTrue (is_in (new t) q)).
    look-record c.args.draft.now.base c.args.draft.now.tree new q c.note.new.set.keys c.note_seen.new.changed.keys c.note_moved.new.changed.keys
    c.in_ok-note.ensures.itself c.in_ok-note_seen.ensures.anew c.in_ok-note_moved.ensures.stays c.in_ok-note_moved.ensures.above f)
    c.link.ensures.linked

pub returns-clause-anew : goal.returns-clause-anew
returns-clause-anew g c =
    at-on c.link.result (anew-both c.args.draft.now.base c.args.draft.now.tree c.args.changed.now.keys c.note_seen.new.changed.keys c.note_moved.new.changed.keys c.in_ok-note_seen.ensures.only c.in_ok-note_moved.ensures.only)
