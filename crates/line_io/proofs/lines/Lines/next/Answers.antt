use Rattle.std.proofs.Common.{◌≡◌, ◌<◌, ◌++◌, ℕ, List, Option, None, Ok, false, arith, subst, sym, ◌∙◌}
use Rattle.line_io.specs.Reading.{Reading}
use Rattle.line_io.specs.Pieces.{Came, Found, FoundLine, Taken, Ended}
use Rattle.line_io.specs.declared.next.Next.{Next}
use Rattle.line_io.proofs.Calls.{over, gives_line, ends, Came-then}
use Rattle.line_io.proofs.lines.Lines.next.Goals as goal

pub returns-then-has_ended-clause-call : goal.returns-then-has_ended-clause-call
returns-then-has_ended-clause-call g c =
    let o = c.has_ended.ensures.over c.if-has_ended.true in
    over c.args.self.now (g.S.Source.left c.args.source.now) (g.S.Source.faults c.args.source.now) (g.S.Source.faults c.args.source.now) (sym c.has_ended.ensures.ended ∙ c.if-has_ended.true) o.0 o.1

pub returns-in-Some-clause-call : goal.returns-in-Some-clause-call
returns-in-Some-clause-call g c =
    let going : c.args.self.now.ended ≡ false = sym c.has_ended.ensures.ended ∙ c.if-has_ended.false in
    let came = c.pieces.invariant.came in
    let found : FoundLine c.pieces.self c.whole_line.new.self c.in-Some.next = subst (λ (o : Option Next). Found c.pieces.self o c.whole_line.new.self) c.in-Some.is c.in_ok-next.ensures.found in
    gives_line c.args.self.now c.pieces.self c.whole_line.new.self (g.S.Source.left c.args.source.now) (g.S.Source.left c.pieces.source) came.0 (g.S.Source.faults c.args.source.now) (g.S.Source.faults c.pieces.source) c.in-Some.next going came.1 found

pub returns-in-Some-2-clause-call : goal.returns-in-Some-2-clause-call
returns-in-Some-2-clause-call g c =
    let going : c.args.self.now.ended ≡ false = sym c.has_ended.ensures.ended ∙ c.if-has_ended.false in
    let came = c.pieces.invariant.came in
    let left = g.S.Source.left c.args.source.now in
    let between = g.S.Source.left c.pieces.source in
    let left' = g.S.Source.left c.take_piece.new.source in
    let before = g.S.Source.faults c.pieces.source in
    let now = g.S.Source.faults c.take_piece.new.source in
    let found : Found c.pieces.self None c.whole_line.new.self = subst (λ (o : Option Next). Found c.pieces.self o c.whole_line.new.self) c.in_default.is c.in_ok-next.ensures.found in
    let mid : Came c.args.self.now c.whole_line.new.self left between came.0 = subst (λ (r : Reading). Came c.args.self.now r left between came.0) (sym found.1) came.1 in
    let end : Ended c.whole_line.new.self c.take_piece.new.self between left' c.in-Some-2.next = subst (λ (o : Option Next). Taken c.whole_line.new.self c.take_piece.new.self between left' before now (Ok o)) c.in-Some-2.is c.in_ok-next-2.ensures.taken in
    ends c.args.self.now c.whole_line.new.self c.take_piece.new.self left between left' came.0 (g.S.Source.faults c.args.source.now) now c.in-Some-2.next going (c.is_past.ensures.within c.if-is_past.false) mid end

pub pieces-preserved : goal.pieces-preserved
pieces-preserved g c =
    let came = c.pieces.invariant.came in
    let left = g.S.Source.left c.args.source.now in
    let between = g.S.Source.left c.pieces.source in
    let left' = g.S.Source.left c.take_piece.new.source in
    let before = g.S.Source.faults c.pieces.source in
    let now = g.S.Source.faults c.take_piece.new.source in
    let found : Found c.pieces.self None c.whole_line.new.self = subst (λ (o : Option Next). Found c.pieces.self o c.whole_line.new.self) c.in_default.is c.in_ok-next.ensures.found in
    let mid : Came c.args.self.now c.whole_line.new.self left between came.0 = subst (λ (r : Reading). Came c.args.self.now r left between came.0) (sym found.1) came.1 in
    let piece : (bytes : List ℕ) × Came c.whole_line.new.self c.take_piece.new.self between left' bytes × (c.take_piece.new.self.room < c.whole_line.new.self.room) = subst (λ (o : Option Next). Taken c.whole_line.new.self c.take_piece.new.self between left' before now (Ok o)) c.in_default-2.is c.in_ok-next-2.ensures.taken in
    record {
      came = (came.0 ++ piece.0, Came-then c.args.self.now c.whole_line.new.self c.take_piece.new.self left between left' came.0 piece.0 mid piece.1);
      later = omega (arith, c.pieces.invariant.later, c.in_ok-next-2.ensures.later);
    }
