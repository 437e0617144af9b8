use Rattle.std.specs.FinMap.{get}
use Rattle.khepri_types.proofs.Growing.{get_some}
use Rattle.tree_overlay.proofs.Shallow.{beside}
use Rattle.tree_overlay.proofs.draft.Draft.bytes_beside.Goals as goal

pub overflow_sub-result : goal.overflow_sub-result
overflow_sub-result c =
    let T = c.args.self.now.tree in
    let w = get_some (get T c.args.path.now) c.requires.stands in
    (beside T c.args.path.now c.args.was c.bytes.result c.requires.was c.bytes.ensures.exact c.bytes.ensures.capped w.0 w.1).0

pub returns : goal.returns
returns c = λ n at. (beside c.args.self.now.tree c.args.path.now c.args.was c.bytes.result c.requires.was c.bytes.ensures.exact c.bytes.ensures.capped n at).1
