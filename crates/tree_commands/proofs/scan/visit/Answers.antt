use Rattle.std.proofs.Common.{◌≡◌, ◌-◌, suc, List, [], length, refl, sym, subst, arith}
use Rattle.khepri_terms.specs.Terms.{NameText}
use Rattle.khepri_types.specs.Views.{as_seen}
use Rattle.pattern_match.specs.Masks.{AreMasks}
use Rattle.tree_commands.specs.Scans.{path_or_root}
use Rattle.tree_commands.proofs.Masking.{as_many, below_came, entered_next, none_next, passes, root_came}
use Rattle.tree_commands.proofs.scan.visit.Goals as goal

pub unreachable-requires : goal.unreachable-requires
unreachable-requires g c = none_next c.args.walk.now.tree c.args.walk.now.last c.requires.more (c.in_default.ensures.ends refl)

pub returns-then-names-eq0-clause-next : goal.returns-then-names-eq0-clause-next
returns-then-names-eq0-clause-next g c = passes c.args.walk.now.tree c.args.walk.now.last c.next.new.self.last c.in-Some.ensures.next

pub returns-then-names-eq0-clause-masks : goal.returns-then-names-eq0-clause-masks
returns-then-names-eq0-clause-masks g c =
    let same = root_came c.args.walk.now.tree c.args.walk.now.last c.next.new.self.last (omega (arith, c.len-names.ensures.len)) c.in-Some.ensures.next in
    subst (λ (p : List NameText). AreMasks c.args.pattern.now c.args.walk.now.tree [] p c.args.masks.now) same c.requires.behind

pub climb-requires-clause-within : goal.climb-requires-clause-within
climb-requires-clause-within g c =
    let below = below_came c.args.walk.now.tree c.args.walk.now.last c.next.new.self.last (c.len-names.result - 1) c.len-from.ensures.tree (omega (arith, c.len-names.ensures.len)) c.in-Some.ensures.next in
    omega (arith, below.within, c.len-from.ensures.len)

pub climb-requires-clause-len : goal.climb-requires-clause-len
climb-requires-clause-len g c =
    omega (arith, as_many c.args.pattern.now c.args.walk.now.tree (path_or_root c.args.walk.now.last) c.args.masks.now c.requires.behind, c.len-from.ensures.len)

pub returns-clause-next : goal.returns-clause-next
returns-clause-next g c = passes c.args.walk.now.tree c.args.walk.now.last c.next.new.self.last c.in-Some.ensures.next

pub returns-clause-masks : goal.returns-clause-masks
returns-clause-masks g c =
    let T = c.args.walk.now.tree in
    let parts = c.args.pattern.now in
    let last = path_or_root c.args.walk.now.last in
    let long : length (path_or_root c.next.new.self.last) ≡ suc (c.len-names.result - 1) = omega (arith, c.len-names.ensures.len) in
    let below = below_came T c.args.walk.now.last c.next.new.self.last (c.len-names.result - 1) c.len-from.ensures.tree long c.in-Some.ensures.next in
    entered_next parts T last (path_or_root c.next.new.self.last) (c.len-names.result - 1) (as_seen c.in-Some.node) c.climb.new.masks c.enter.new.self long below.front c.in-Some.ensures.node
    (c.climb.ensures.masks parts T last (sym c.len-from.ensures.len) c.requires.behind)
    c.enter.ensures.masks
