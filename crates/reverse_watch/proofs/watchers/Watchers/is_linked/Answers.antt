use Rattle.std.proofs.Common.{◌≡◌, sym, ap, ◌∙◌}
use Rattle.std.specs.Prelude.{is_some}
use Rattle.std.specs.FinMap.{get}
use Rattle.worklist_laws.specs.Links.{Links}
use Rattle.reverse_watch.proofs.Moves.{get-links, find_lookup}
use Rattle.reverse_watch.proofs.watchers.Watchers.is_linked.Goals as goal

pub returns : goal.returns
returns c = c.contains_key.ensures ∙ (ap is_some (sym (find_lookup c.args.node.now c.self.inside.links.entries) ∙ sym (get-links c.self.inside.links.entries c.args.node.now)) ∙ ap (λ (L : Links). is_some (get L c.args.node.now)) c.self.view_is)
