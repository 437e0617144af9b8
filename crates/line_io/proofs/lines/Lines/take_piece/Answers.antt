use Rattle.std.proofs.Common.{◌≡◌, ◌<◌, ◌≤◌, ◌++◌, ◌+◌, ◌-◌, [], ℕ, List, length, take, drop, true, false, arith, subst, sym, ap, ◌∙◌}
use Rattle.line_io.specs.Lines.{NoLf, last_line}
use Rattle.line_io.specs.Shown.{given_next, shown_lines}
use Rattle.line_io.specs.Reading.{Reading, room_of, unread_of}
use Rattle.line_io.specs.Pieces.{Came, Ended}
use Rattle.line_io.proofs.LineLemmas.{NoLf-append, NoLf-take}
use Rattle.line_io.proofs.Pieces.{piece_ended, came_within, came_past, came_nothing, takes_end, within_budget, room_less, written_over, reader_holds}
use Rattle.line_io.proofs.lines.Lines.take_piece.Goals as goal

pub returns-in-Err-clause-taken : goal.returns-in-Err-clause-taken
returns-in-Err-clause-taken g c =
    let s = c.self.inside in
    let going : s.ended ≡ false = ap (λ (r : Reading). r.ended) c.self.view_is ∙ c.requires.going in
    let unread = unread_of s.begun.items s.piece.items s.at s.end in
    let free : NoLf unread = subst (λ (r : Reading). NoLf r.unread) (sym c.self.view_is) c.requires.free in
    let kept : c.keep.new.begun.items ≡ take (s.limit + 2) unread = c.in_ok-keep.ensures.kept ∙ ap (λ (x : List ℕ). take (s.limit + 2) (s.begun.items ++ take (s.end - s.at) (drop s.at x))) c.as_slice.ensures.value in
    let out = c.take_front.new.piece in
    let same : length out ≡ length s.piece.items = c.take_front.ensures.length ∙ ap length c.deref_mut.ensures.value in
    let len : length s.piece.items ≡ s.piece.len = sym (ap length c.deref_mut.ensures.value) ∙ c.deref_mut.ensures.len in
    let whole : take s.piece.len (out ++ drop (length out) s.piece.items) ≡ out = written_over s.piece.items out s.piece.len same len in
    let left = g.S.Source.left c.args.source.now in
    let left' = g.S.Source.left c.take_front.new.source in
    let still : NoLf (c.keep.new.begun.items ++ []) = NoLf-append c.keep.new.begun.items [] (subst NoLf (sym kept) (NoLf-take (s.limit + 2) unread free)) tt in
    let came = came_nothing s.limit (room_of s.budget s.past) s.ended unread c.keep.new.begun.items out left left' going free kept c.in-Err.ensures.kept in
    (c.in-Err.ensures.cause, still, ap (λ (r : Reading). r.room) c.self.view_is, subst (λ (r : Reading). Came r (record { limit = s.limit; unread = unread_of c.keep.new.begun.items (take s.piece.len (out ++ drop (length out) s.piece.items)) 0 0; room = room_of s.budget s.past; ended = s.ended }) left left' []) c.self.view_is (subst (λ (x : List ℕ). Came (record { limit = s.limit; unread = unread; room = room_of s.budget s.past; ended = s.ended }) (record { limit = s.limit; unread = unread_of c.keep.new.begun.items x 0 0; room = room_of s.budget s.past; ended = s.ended }) left left' []) (sym whole) (came)))

pub returns-then-n-eq0-clause-taken : goal.returns-then-n-eq0-clause-taken
returns-then-n-eq0-clause-taken g c =
    let s = c.self.inside in
    let going : s.ended ≡ false = ap (λ (r : Reading). r.ended) c.self.view_is ∙ c.requires.going in
    let unread = unread_of s.begun.items s.piece.items s.at s.end in
    let free : NoLf unread = subst (λ (r : Reading). NoLf r.unread) (sym c.self.view_is) c.requires.free in
    let kept : c.keep.new.begun.items ≡ take (s.limit + 2) unread = c.in_ok-keep.ensures.kept ∙ ap (λ (x : List ℕ). take (s.limit + 2) (s.begun.items ++ take (s.end - s.at) (drop s.at x))) c.as_slice.ensures.value in
    let out = c.take_front.new.piece in
    let same : length out ≡ length s.piece.items = c.take_front.ensures.length ∙ ap length c.deref_mut.ensures.value in
    let len : length s.piece.items ≡ s.piece.len = sym (ap length c.deref_mut.ensures.value) ∙ c.deref_mut.ensures.len in
    let whole : take s.piece.len (out ++ drop (length out) s.piece.items) ≡ out = written_over s.piece.items out s.piece.len same len in
    let left = g.S.Source.left c.args.source.now in
    let left' = g.S.Source.left c.take_front.new.source in
    let line : c.replace-line.result.items ≡ take (s.limit + 2) unread = ap (λ (v : _). v.items) c.replace-line.ensures.value ∙ kept in
    let gives : given_next c.final_line.result ≡ shown_lines s.limit (last_line unread) = c.final_line.ensures unread line in
    let none : c.replace-line.new.dest.items ≡ [] = ap (λ (v : _). v.items) c.replace-line.ensures.after ∙ c.new.ensures.items in
    subst (λ (r : Reading). Ended r (record { limit = s.limit; unread = unread_of c.replace-line.new.dest.items (take s.piece.len (out ++ drop (length out) s.piece.items)) 0 0; room = room_of s.budget s.past; ended = true }) left left' c.final_line.result) c.self.view_is
    (piece_ended s.limit (room_of s.budget s.past) s.ended unread c.replace-line.new.dest.items (take s.piece.len (out ++ drop (length out) s.piece.items)) left left' c.final_line.result free none (takes_end left left' out c.in-Ok.n c.in-Ok.ensures.taken c.if-n-eq0.true) gives)

pub invariant_of-self-then-n-self : goal.invariant_of-self-then-n-self
invariant_of-self-then-n-self g c =
    let s = c.self.inside in
    let going : s.ended ≡ false = ap (λ (r : Reading). r.ended) c.self.view_is ∙ c.requires.going in
    let unread = unread_of s.begun.items s.piece.items s.at s.end in
    let free : NoLf unread = subst (λ (r : Reading). NoLf r.unread) (sym c.self.view_is) c.requires.free in
    let kept : c.keep.new.begun.items ≡ take (s.limit + 2) unread = c.in_ok-keep.ensures.kept ∙ ap (λ (x : List ℕ). take (s.limit + 2) (s.begun.items ++ take (s.end - s.at) (drop s.at x))) c.as_slice.ensures.value in
    let out = c.take_front.new.piece in
    let same : length out ≡ length s.piece.items = c.take_front.ensures.length ∙ ap length c.deref_mut.ensures.value in
    let len : length s.piece.items ≡ s.piece.len = sym (ap length c.deref_mut.ensures.value) ∙ c.deref_mut.ensures.len in
    let whole : take s.piece.len (out ++ drop (length out) s.piece.items) ≡ out = written_over s.piece.items out s.piece.len same len in
    let n = c.in-Ok.n in
    let most : n ≤ c.piece_length-most.result = c.in-Ok.ensures.within in
    let fits : n ≤ length s.piece.items = omega (arith, c.piece_length-most.ensures.whole, c.len.ensures, len) in
    reader_holds s.limit unread c.keep.new.begun.items s.piece.items out s.piece.len (n - 1) true s.ended going free kept c.self.invariant.some same len (omega arith)

pub invariant_of-self-2 : goal.invariant_of-self-2
invariant_of-self-2 g c =
    let s = c.self.inside in
    let going : s.ended ≡ false = ap (λ (r : Reading). r.ended) c.self.view_is ∙ c.requires.going in
    let unread = unread_of s.begun.items s.piece.items s.at s.end in
    let free : NoLf unread = subst (λ (r : Reading). NoLf r.unread) (sym c.self.view_is) c.requires.free in
    let kept : c.keep.new.begun.items ≡ take (s.limit + 2) unread = c.in_ok-keep.ensures.kept ∙ ap (λ (x : List ℕ). take (s.limit + 2) (s.begun.items ++ take (s.end - s.at) (drop s.at x))) c.as_slice.ensures.value in
    let out = c.take_front.new.piece in
    let same : length out ≡ length s.piece.items = c.take_front.ensures.length ∙ ap length c.deref_mut.ensures.value in
    let len : length s.piece.items ≡ s.piece.len = sym (ap length c.deref_mut.ensures.value) ∙ c.deref_mut.ensures.len in
    let whole : take s.piece.len (out ++ drop (length out) s.piece.items) ≡ out = written_over s.piece.items out s.piece.len same len in
    let n = c.in-Ok.n in
    let most : n ≤ c.piece_length-most.result = c.in-Ok.ensures.within in
    let fits : n ≤ length s.piece.items = omega (arith, c.piece_length-most.ensures.whole, c.len.ensures, len) in
    reader_holds s.limit unread c.keep.new.begun.items s.piece.items out s.piece.len n s.past s.ended going free kept c.self.invariant.some same len (omega arith)

pub returns-then-n-self-clause-taken : goal.returns-then-n-self-clause-taken
returns-then-n-self-clause-taken g c =
    let s = c.self.inside in
    let going : s.ended ≡ false = ap (λ (r : Reading). r.ended) c.self.view_is ∙ c.requires.going in
    let unread = unread_of s.begun.items s.piece.items s.at s.end in
    let free : NoLf unread = subst (λ (r : Reading). NoLf r.unread) (sym c.self.view_is) c.requires.free in
    let kept : c.keep.new.begun.items ≡ take (s.limit + 2) unread = c.in_ok-keep.ensures.kept ∙ ap (λ (x : List ℕ). take (s.limit + 2) (s.begun.items ++ take (s.end - s.at) (drop s.at x))) c.as_slice.ensures.value in
    let out = c.take_front.new.piece in
    let same : length out ≡ length s.piece.items = c.take_front.ensures.length ∙ ap length c.deref_mut.ensures.value in
    let len : length s.piece.items ≡ s.piece.len = sym (ap length c.deref_mut.ensures.value) ∙ c.deref_mut.ensures.len in
    let whole : take s.piece.len (out ++ drop (length out) s.piece.items) ≡ out = written_over s.piece.items out s.piece.len same len in
    let left = g.S.Source.left c.args.source.now in
    let left' = g.S.Source.left c.take_front.new.source in
    let room : 0 < room_of s.budget s.past = subst (λ (r : Reading). 0 < r.room) (sym c.self.view_is) c.requires.room in
    let past : s.past ≡ false = within_budget s.budget s.past room in
    let n = c.in-Ok.n in
    let most : n ≤ c.piece_length-most.result = c.in-Ok.ensures.within in
    let fits : n ≤ length s.piece.items = omega (arith, c.piece_length-most.ensures.whole, c.len.ensures, len) in
    let over : n ≡ s.budget + 1 = omega (arith, c.piece_length-most.ensures.budget) in
    let came = came_past s.limit s.budget n s.past s.ended unread c.keep.new.begun.items out left left' past going free kept c.in-Ok.ensures.taken over (omega arith) in
    (take n out, subst (λ (r : Reading). Came r (record { limit = s.limit; unread = unread_of c.keep.new.begun.items (take s.piece.len (out ++ drop (length out) s.piece.items)) 0 (n - 1); room = 0; ended = s.ended }) left left' (take n out)) c.self.view_is (subst (λ (x : List ℕ). Came (record { limit = s.limit; unread = unread; room = room_of s.budget s.past; ended = s.ended }) (record { limit = s.limit; unread = unread_of c.keep.new.begun.items x 0 (n - 1); room = 0; ended = s.ended }) left left' (take n out)) (sym whole) (came)), c.requires.room)

pub returns-clause-taken : goal.returns-clause-taken
returns-clause-taken g c =
    let s = c.self.inside in
    let going : s.ended ≡ false = ap (λ (r : Reading). r.ended) c.self.view_is ∙ c.requires.going in
    let unread = unread_of s.begun.items s.piece.items s.at s.end in
    let free : NoLf unread = subst (λ (r : Reading). NoLf r.unread) (sym c.self.view_is) c.requires.free in
    let kept : c.keep.new.begun.items ≡ take (s.limit + 2) unread = c.in_ok-keep.ensures.kept ∙ ap (λ (x : List ℕ). take (s.limit + 2) (s.begun.items ++ take (s.end - s.at) (drop s.at x))) c.as_slice.ensures.value in
    let out = c.take_front.new.piece in
    let same : length out ≡ length s.piece.items = c.take_front.ensures.length ∙ ap length c.deref_mut.ensures.value in
    let len : length s.piece.items ≡ s.piece.len = sym (ap length c.deref_mut.ensures.value) ∙ c.deref_mut.ensures.len in
    let whole : take s.piece.len (out ++ drop (length out) s.piece.items) ≡ out = written_over s.piece.items out s.piece.len same len in
    let left = g.S.Source.left c.args.source.now in
    let left' = g.S.Source.left c.take_front.new.source in
    let room : 0 < room_of s.budget s.past = subst (λ (r : Reading). 0 < r.room) (sym c.self.view_is) c.requires.room in
    let past : s.past ≡ false = within_budget s.budget s.past room in
    let n = c.in-Ok.n in
    let most : n ≤ c.piece_length-most.result = c.in-Ok.ensures.within in
    let fits : n ≤ length s.piece.items = omega (arith, c.piece_length-most.ensures.whole, c.len.ensures, len) in
    let came = came_within s.limit s.budget n s.past s.ended unread c.keep.new.begun.items out left left' past going free kept c.in-Ok.ensures.taken (omega arith) (omega arith) in
    let less : room_of (s.budget - n) s.past < room_of s.budget s.past = room_less s.budget n s.past past (omega arith) (omega arith) in
    (take n out, subst (λ (r : Reading). Came r (record { limit = s.limit; unread = unread_of c.keep.new.begun.items (take s.piece.len (out ++ drop (length out) s.piece.items)) 0 n; room = room_of (s.budget - n) s.past; ended = s.ended }) left left' (take n out)) c.self.view_is (subst (λ (x : List ℕ). Came (record { limit = s.limit; unread = unread; room = room_of s.budget s.past; ended = s.ended }) (record { limit = s.limit; unread = unread_of c.keep.new.begun.items x 0 n; room = room_of (s.budget - n) s.past; ended = s.ended }) left left' (take n out)) (sym whole) (came)), subst (λ (r : Reading). room_of (s.budget - n) s.past < r.room) c.self.view_is less)
