use Rattle.std.proofs.Common.{◌≡◌, List, map}
use Rattle.draft_scene.proofs.Scanning.{Entry, Scanned}
use Rattle.draft_scene.proofs.matching.matching_paths.Given as goal

abbrev pub invariant-nodes : goal.invariant-nodes
invariant-nodes g l =
    (es : List Entry) × Scanned l.pattern l.draft.tree l.counter l.last l.masks es × (l.paths.items ≡ map (λ e. e.0) es)
