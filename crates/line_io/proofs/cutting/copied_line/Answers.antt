use Rattle.std.proofs.Common.{◌∷◌, ◌++◌, [], List, ℕ, Option, Some, ap, sym, ◌∙◌, arith}
use Rattle.line_io.proofs.LineLemmas.{shown-long, shown-short}
use Rattle.line_io.proofs.cutting.copied_line.Goals as goal

pub returns-then-text-limit : goal.returns-then-text-limit
returns-then-text-limit c = ap (λ (o : Option (List ℕ)). o ∷ []) (sym (shown-long c.args.limit c.args.text.now (omega arith)))

pub returns : goal.returns
returns c =
    let line = ap (λ (v : _). v.items) c.replace-line.ensures.value ∙ (c.in_ok-extend_from_slice.ensures.items ∙ ap (λ (s : List ℕ). s ++ c.args.text.now) c.clear.ensures.items) in
    ap (λ (o : Option (List ℕ)). o ∷ []) (ap (λ (x : List ℕ). Some x) line ∙ sym (shown-short c.args.limit c.args.text.now (omega arith)))
