use Rattle.std.proofs.Common.{◌≡◌, ◌-◌, suc, length, arith}
use Rattle.line_io.proofs.LineLemmas.{without_cr-cut, without_cr-same, without_cr-none}
use Rattle.line_io.proofs.cutting.cut_cr.Goals as goal

pub returns-then-len-eq0-clause-line : goal.returns-then-len-eq0-clause-line
returns-then-len-eq0-clause-line c = without_cr-none c.args.line.now (omega arith)

pub returns-then-line-len-ne13-clause-line : goal.returns-then-line-len-ne13-clause-line
returns-then-line-len-ne13-clause-line c =
    let n : length c.args.line.now ≡ suc (length c.args.line.now - 1) = omega arith in
    without_cr-same c.args.line.now (length c.args.line.now - 1) n c.if-line-len-ne13.true

pub returns-clause-line : goal.returns-clause-line
returns-clause-line c =
    let n : length c.args.line.now ≡ suc (length c.args.line.now - 1) = omega arith in
    without_cr-cut c.args.line.now (length c.args.line.now - 1) n c.if-line-len-ne13.false
