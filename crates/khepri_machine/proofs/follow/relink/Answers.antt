use Rattle.std.proofs.Common.{◌≡◌, ◌∙◌, ap, arith}
use Rattle.std.proofs.lemmas.Result.{on_ok_weaker}
use Rattle.khepri_types.specs.Views.{node_of}
use Rattle.worklist_laws.specs.Links.{Links, linked}
use Rattle.keep_while.proofs.Failures.{none-seen}
use Rattle.khepri_machine.proofs.Following.{free-there, here-few, here-none, here-some, other-none, other-some}
use Rattle.khepri_machine.proofs.follow.relink.Goals as goal

pub returns-in_default-clause-here : goal.returns-in_default-clause-here
returns-in_default-clause-here g c =
    here-none c.args.tree.now c.args.watchers.now c.unlink_all.new.self c.args.path.now (none-seen c.args.tree.now c.args.path.now c.in_default.ensures.node) c.unlink_all.ensures

pub returns-in_default-clause-others : goal.returns-in_default-clause-others
returns-in_default-clause-others g c = λ q off. other-none c.args.watchers.now c.unlink_all.new.self c.args.path.now q off c.unlink_all.ensures

pub returns-then-node-eq0-clause-here : goal.returns-then-node-eq0-clause-here
returns-then-node-eq0-clause-here g c =
    here-few c.args.tree.now c.args.watchers.now c.unlink_all.new.self c.args.path.now (node_of c.in-Some.node) c.in-Some.ensures.watches (omega (arith, c.if-node-eq0.true)) c.unlink_all.ensures

pub returns-then-node-eq0-clause-others : goal.returns-then-node-eq0-clause-others
returns-then-node-eq0-clause-others g c = λ q off. other-none c.args.watchers.now c.unlink_all.new.self c.args.path.now q off c.unlink_all.ensures

pub link-requires : goal.link-requires
link-requires g c = record { free = free-there c.args.watchers.now c.unlink_all.new.self c.args.path.now c.unlink_all.ensures }

pub returns-clause-here : goal.returns-clause-here
returns-clause-here g c =
    let p = c.args.path.now in
    let ws = c.in-Some.node.watches.now in
    let mid : Links = c.unlink_all.new.self in
    let new : Links = c.link.new.self in
    on_ok_weaker c.link.result (λ (f : new ≡ linked mid p ws). here-some c.args.tree.now c.args.watchers.now new p (node_of c.in-Some.node) c.in-Some.ensures.watches (f ∙ ap (λ (L : Links). linked L p ws) c.unlink_all.ensures)) c.link.ensures.ok

pub returns-clause-others : goal.returns-clause-others
returns-clause-others g c =
    let p = c.args.path.now in
    let ws = c.in-Some.node.watches.now in
    let mid : Links = c.unlink_all.new.self in
    let new : Links = c.link.new.self in
    on_ok_weaker c.link.result (λ (f : new ≡ linked mid p ws). λ q off. other-some c.args.watchers.now new p q ws off (f ∙ ap (λ (L : Links). linked L p ws) c.unlink_all.ensures)) c.link.ensures.ok
