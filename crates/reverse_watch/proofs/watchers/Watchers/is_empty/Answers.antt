use Rattle.std.proofs.Common.{◌≡◌, sym, ◌∙◌}
use Rattle.reverse_watch.proofs.Moves.{none_linked, no_links}
use Rattle.reverse_watch.proofs.watchers.Watchers.is_empty.Goals as goal

pub returns : goal.returns
returns c = (λ h. sym c.self.view_is ∙ no_links c.self.inside.links.entries (c.is_empty.ensures.0 h), λ h. c.is_empty.ensures.1 (none_linked c.self.inside.links.entries (c.self.view_is ∙ h)))
