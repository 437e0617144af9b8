use Rattle.std.proofs.Common.{◌≡◌, length, arith, sym, ap, ◌∙◌, subst}
use Rattle.line_io.specs.Lines.{NoLf}
use Rattle.line_io.proofs.lines.Lines.new.Goals as goal

pub invariant_of-result : goal.invariant_of-result
invariant_of-result c =
    let len : length c.in_ok-piece.piece.items ≡ 65536 = sym c.in_ok-piece.piece.ok.0 ∙ c.in_ok-piece.ensures.len in
    record {
      place = omega arith;
      within = omega arith;
      some = omega arith;
      front = omega (arith, ap length c.new.ensures.items);
      free = subst NoLf (sym c.new.ensures.items) tt;
      over = λ e. cc;
    }
