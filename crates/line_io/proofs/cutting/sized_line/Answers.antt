use Rattle.std.proofs.Common.{◌∷◌, [], List, ℕ, Option, ap, sym, arith}
use Rattle.line_io.proofs.LineLemmas.{shown-long, shown-short}
use Rattle.line_io.proofs.cutting.sized_line.Goals as goal

pub returns-then-len-limit : goal.returns-then-len-limit
returns-then-len-limit c = ap (λ (o : Option (List ℕ)). o ∷ []) (sym (shown-long c.args.limit c.args.line.items (omega arith)))

pub returns : goal.returns
returns c = ap (λ (o : Option (List ℕ)). o ∷ []) (sym (shown-short c.args.limit c.args.line.items (omega arith)))
