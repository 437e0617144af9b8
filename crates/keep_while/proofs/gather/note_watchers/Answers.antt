use Rattle.worklist_laws.specs.Links.{linked_to}
use Rattle.std.proofs.Common.{List, ◌++◌, subst}
use Rattle.std.proofs.lemmas.Result.{on_ok_weaker}
use Rattle.keep_while.proofs.Noting.{only-both}
use Rattle.khepri_terms.specs.Terms.{NameText}
use Rattle.worklist_laws.specs.Candidates.{IsWithin}
use Rattle.keep_while.specs.Gathering.{asked, without}
use Rattle.keep_while.proofs.Looking.{both-true}
use Rattle.keep_while.proofs.Gathering.{within-both}
use Rattle.keep_while.proofs.gather.note_watchers.Goals as goal

pub returns-clause-asks : goal.returns-clause-asks
returns-clause-asks c =
    let of = linked_to c.args.watchers.now in
    let written = linked_to c.args.written.now in
    let left = c.args.out.now.left.keys in
    let gone = c.args.out.now.gone.keys in
    let q = c.args.path.now in
    let mid = c.note_all.new.set.keys in
    let new = c.note_all-2.new.set.keys in
    let first : IsWithin (without left (of q)) mid = subst (λ (ps : List (List NameText)). IsWithin (without left ps) mid) c.of.ensures c.in_ok-note_all.ensures.these in
    both-true c.note_all-2.result (IsWithin (asked left gone of written q) new)
    (λ (stays : IsWithin mid new) (these : IsWithin (without gone c.of-2.result.now) new).
    within-both (without left (of q)) (without gone (written q)) mid new first stays (subst (λ (ps : List (List NameText)). IsWithin (without gone ps) new) c.of-2.ensures these))
    c.note_all-2.ensures.stays c.note_all-2.ensures.these

pub returns-clause-only : goal.returns-clause-only
returns-clause-only c =
    let of = linked_to c.args.watchers.now in
    let written = linked_to c.args.written.now in
    let left = c.args.out.now.left.keys in
    let gone = c.args.out.now.gone.keys in
    let q = c.args.path.now in
    let old = c.args.set.now.keys in
    let mid = c.note_all.new.set.keys in
    let new = c.note_all-2.new.set.keys in
    let first : IsWithin mid (old ++ without left (of q)) = subst (λ (ps : List (List NameText)). IsWithin mid (old ++ without left ps)) c.of.ensures c.in_ok-note_all.ensures.only in
    on_ok_weaker c.note_all-2.result (λ (f : IsWithin new (mid ++ without gone c.of-2.result.now)). only-both old mid new (without left (of q)) (without gone (written q)) first (subst (λ (ps : List (List NameText)). IsWithin new (mid ++ without gone ps)) c.of-2.ensures f)) c.note_all-2.ensures.only
