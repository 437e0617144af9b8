use Rattle.std.proofs.Common.{◌≡◌, ℕ, ◌+◌, ◌-◌, List, length, take, refl, sym, ap, ◌∙◌, arith}
use Rattle.std.specs.FinMap.{get}
use Rattle.khepri_terms.specs.Terms.{NameText}
use Rattle.khepri_types.specs.Sizes.{kids}
use Rattle.khepri_types.specs.Tree.{raised_children, set, stands}
use Rattle.khepri_types.proofs.Growing.{get_some}
use Rattle.tree_walks.specs.Notes.{rises}
use Rattle.tree_walks.proofs.Sweeping.{same-stays}
use Rattle.tree_walks.proofs.Touching.{adds-stays, stays-on, touches-grown}
use Rattle.tree_walks.proofs.Ways.{grown_tree, told_missing, told_stands, version_made}
use Rattle.tree_walks.proofs.grow.grow.Goals as goal

pub raise-requires : goal.raise-requires
raise-requires c = record { stands = ap (stands c.args.draft.now.tree) c.in_ok-parent.ensures ∙ c.in_ok-above.ensures.standing }

pub build-requires-clause-stands : goal.build-requires-clause-stands
build-requires-clause-stands c =
    let T = c.args.draft.now.tree in
    let k = c.in_ok-above.above in
    let m = get_some (get T (take k c.args.path.now)) c.in_ok-above.ensures.standing in
    told_stands T c.raise.new.draft.tree c.args.path.now c.in_ok-parent.parent k (raised_children m.0) c.in_ok-parent.ensures (c.in_ok-before.ensures.tree m.0 (ap (get T) c.in_ok-parent.ensures ∙ m.1))

pub build-requires-clause-missing : goal.build-requires-clause-missing
build-requires-clause-missing c =
    let T = c.args.draft.now.tree in
    let k = c.in_ok-above.above in
    let m = get_some (get T (take k c.args.path.now)) c.in_ok-above.ensures.standing in
    told_missing T c.raise.new.draft.tree c.args.path.now c.in_ok-parent.parent k (raised_children m.0) c.in_ok-above.ensures.within c.in_ok-parent.ensures (c.in_ok-before.ensures.tree m.0 (ap (get T) c.in_ok-parent.ensures ∙ m.1))
    c.in_ok-above.ensures.missing

pub returns-clause-tree : goal.returns-clause-tree
returns-clause-tree c =
    let T = c.args.draft.now.tree in
    let p = c.args.path.now in
    let k = c.in_ok-above.above in
    let m = get_some (get T (take k p)) c.in_ok-above.ensures.standing in
    grown_tree T c.raise.new.draft.tree c.build.new.draft.tree p c.in_ok-parent.parent c.args.payload.now c.in_ok-payload.payload k (length p - 1 - k) m.0 c.nodes-nodes.ensures.tree (omega (arith, c.in_ok-above.ensures.within)) c.in_ok-parent.ensures m.1
    c.in_ok-above.ensures.missing (c.in_ok-before.ensures.tree m.0 (ap (get T) c.in_ok-parent.ensures ∙ m.1)) c.in_ok-payload.ensures c.in_ok-build.ensures.tree

pub returns-clause-version : goal.returns-clause-version
returns-clause-version c =
    let T = c.args.draft.now.tree in
    let p = c.args.path.now in
    let k = c.in_ok-above.above in
    let m = get_some (get T (take k p)) c.in_ok-above.ensures.standing in
    version_made T c.build.new.draft.tree p c.args.payload.now c.requires.absent
    (grown_tree T c.raise.new.draft.tree c.build.new.draft.tree p c.in_ok-parent.parent c.args.payload.now c.in_ok-payload.payload k (length p - 1 - k) m.0 c.nodes-nodes.ensures.tree (omega (arith, c.in_ok-above.ensures.within)) c.in_ok-parent.ensures m.1
    c.in_ok-above.ensures.missing (c.in_ok-before.ensures.tree m.0 (ap (get T) c.in_ok-parent.ensures ∙ m.1)) c.in_ok-payload.ensures c.in_ok-build.ensures.tree)

pub returns-clause-touches : goal.returns-clause-touches
returns-clause-touches c =
    let T = c.args.draft.now.tree in
    let p = c.args.path.now in
    let k = c.in_ok-above.above in
    let m = get_some (get T (take k p)) c.in_ok-above.ensures.standing in
    let there : get T c.in_ok-parent.parent ≡ _ = ap (get T) c.in_ok-parent.ensures ∙ m.1 in
    touches-grown T c.build.new.draft.tree p c.in_ok-parent.parent c.args.payload.now c.in_ok-payload.payload k m.0 c.args.draft.now.touched c.raise.new.draft.touched c.build.new.draft.touched c.nodes-nodes.ensures.tree c.in_ok-above.ensures.within
    c.in_ok-parent.ensures m.1 c.in_ok-above.ensures.missing (c.in_ok-before.ensures.touched m.0 there) c.in_ok-build.ensures.noted
    (grown_tree T c.raise.new.draft.tree c.build.new.draft.tree p c.in_ok-parent.parent c.args.payload.now c.in_ok-payload.payload k (length p - 1 - k) m.0 c.nodes-nodes.ensures.tree (omega (arith, c.in_ok-above.ensures.within)) c.in_ok-parent.ensures m.1
    c.in_ok-above.ensures.missing (c.in_ok-before.ensures.tree m.0 there) c.in_ok-payload.ensures c.in_ok-build.ensures.tree)

pub returns-clause-stays : goal.returns-clause-stays
returns-clause-stays c =
    let T = c.args.draft.now.tree in
    let m = get_some (get T (take c.in_ok-above.above c.args.path.now)) c.in_ok-above.ensures.standing in
    stays-on c.args.draft.now.touched c.raise.new.draft.touched c.build.new.draft.touched
    (adds-stays (rises m.0) c.in_ok-parent.parent c.args.draft.now.touched c.raise.new.draft.touched (c.in_ok-before.ensures.touched m.0 (ap (get T) c.in_ok-parent.ensures ∙ m.1))) c.build.ensures.stays

pub returns-in_err-before-clause-stays : goal.returns-in_err-before-clause-stays
returns-in_err-before-clause-stays c = same-stays c.args.draft.now.touched c.args.draft.now c.raise.new.draft (λ q h. h) c.in_err-before.ensures.kept

pub returns-in_err-build-clause-stays : goal.returns-in_err-build-clause-stays
returns-in_err-build-clause-stays c =
    let T = c.args.draft.now.tree in
    let m = get_some (get T (take c.in_ok-above.above c.args.path.now)) c.in_ok-above.ensures.standing in
    stays-on c.args.draft.now.touched c.raise.new.draft.touched c.build.new.draft.touched
    (adds-stays (rises m.0) c.in_ok-parent.parent c.args.draft.now.touched c.raise.new.draft.touched (c.in_ok-before.ensures.touched m.0 (ap (get T) c.in_ok-parent.ensures ∙ m.1))) c.build.ensures.stays

pub build-requires-clause-before : goal.build-requires-clause-before
build-requires-clause-before c =
    let front : List NameText = take c.in_ok-above.above c.args.path.now in
    c.in_ok-before.ensures.count ∙ (ap (kids c.args.draft.now.tree) c.in_ok-parent.ensures ∙ sym (c.in_ok-before.ensures.kids front))
