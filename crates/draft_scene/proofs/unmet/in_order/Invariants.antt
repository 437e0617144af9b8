use Rattle.std.proofs.Common.{◌≡◌, List, take}
use Rattle.khepri_terms.specs.Terms.{NameText}
use Rattle.worklist_laws.specs.Candidates.{is_in}
use Rattle.draft_scene.proofs.unmet.in_order.Given as goal

abbrev pub invariant-loop-path : goal.invariant-loop-path
invariant-loop-path l = (q : List NameText) → is_in l.set.keys q ≡ is_in (take l.path-index l.written) q
