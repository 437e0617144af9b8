use Rattle.std.proofs.Common.{◌≡◌, ◌+◌, ◌∷◌, [], List, ℕ, Option, length, take, ap, sym, ◌∙◌}
use Rattle.line_io.specs.Lines.{without_cr}
use Rattle.line_io.specs.Shown.{shown}
use Rattle.line_io.proofs.LineLemmas.{shown-without_cr, take_twice}
use Rattle.line_io.proofs.cutting.kept_line.Goals as goal

pub returns : goal.returns
returns c = λ text e.
    let line = c.args.line.items in
    let read : c.as_slice.result.now ≡ line = c.as_slice.ensures.value in
    let cut : c.truncate.new.self.items ≡ without_cr line = c.truncate.ensures.items ∙ (ap (take (length c.cut_cr-n.result.now)) (sym read) ∙ (sym c.cut_cr-n.ensures.front ∙ (c.cut_cr-n.ensures.line ∙ ap without_cr read))) in
    let same : shown c.args.limit (without_cr line) ≡ shown c.args.limit (without_cr text) = shown-without_cr c.args.limit line text (ap (take (c.args.limit + 2)) e ∙ take_twice (c.args.limit + 2) text) in
    c.sized_line.ensures ∙ ap (λ (o : Option (List ℕ)). o ∷ []) (ap (shown c.args.limit) cut ∙ same)
