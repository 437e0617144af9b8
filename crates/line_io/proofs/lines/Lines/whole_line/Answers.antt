use Rattle.std.proofs.Common.{◌≡◌, ◌++◌, ◌+◌, ◌-◌, [], ◌∷◌, ℕ, List, take, drop, Some, None, subst, sym}
use Rattle.memchr.specs.Find.{IsFirstByte, is_byte}
use Rattle.line_io.specs.Lines.{NoLf, without_cr}
use Rattle.line_io.specs.Shown.{given_next, shown}
use Rattle.line_io.specs.Reading.{Reading, room_of, unread_of}
use Rattle.line_io.specs.Pieces.{FoundLine}
use Rattle.line_io.proofs.LineLemmas.{NoLf-append}
use Rattle.line_io.proofs.Reader.{no_lf, line_found}
use Rattle.line_io.proofs.lines.Lines.whole_line.Goals as goal

pub returns-in-None-clause-found : goal.returns-in-None-clause-found
returns-in-None-clause-found c =
    let s = c.self.inside in
    let rest = take (s.end - s.at) (drop s.at s.piece.items) in
    let free : NoLf rest = no_lf rest (subst (λ (x : List ℕ). IsFirstByte (is_byte 10) (take (s.end - s.at) (drop s.at x)) None) c.as_slice.ensures.value c.in-None.ensures) in
    (subst (λ (r : Reading). NoLf r.unread) c.self.view_is (NoLf-append s.begun.items rest c.self.invariant.free free), λ i. c.args.self.now)

pub returns-in_ok-next-in-Some-clause-found : goal.returns-in_ok-next-in-Some-clause-found
returns-in_ok-next-in-Some-clause-found c =
    let s = c.self.inside in
    let i = c.in-Some.i in
    let next = c.in_ok-next-in-Some.next in
    let cut : List ℕ → List ℕ = λ (x : List ℕ). take (s.end - s.at) (drop s.at x) in
    let new : List ℕ → Reading = λ (b : List ℕ). record { limit = s.limit; unread = unread_of b s.piece.items (s.at + (i + 1)) s.end; room = room_of s.budget s.past; ended = s.ended } in
    let first : IsFirstByte (is_byte 10) (cut s.piece.items) (Some i) = subst (λ (x : List ℕ). IsFirstByte (is_byte 10) (cut x) (Some i)) c.as_slice.ensures.value c.in-Some.ensures in
    let gives : given_next next ≡ shown s.limit (without_cr (s.begun.items ++ take i (cut s.piece.items))) ∷ [] = subst (λ (x : List ℕ). given_next next ≡ shown s.limit (without_cr (s.begun.items ++ take i (cut x))) ∷ []) c.as_slice.ensures.value c.in_ok-next-in-Some.ensures.line in
    let found = line_found s.limit (room_of s.budget s.past) s.ended s.begun.items s.piece.items s.at s.end i next c.self.invariant.free first gives in
    subst (λ (b : List ℕ). FoundLine c.args.self.now (new b) next) (sym c.in_ok-next-in-Some.ensures.ok) (subst (λ (r : Reading). FoundLine r (new []) next) c.self.view_is found)
