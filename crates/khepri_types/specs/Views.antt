-- What a view shows.
use Rattle.std.specs.Prelude.{Option, Some, None}
use Rattle.std.specs.Option.{option_copied}
use Rattle.khepri_types.specs.declared.node.Node.{Node}
use Rattle.khepri_types.specs.declared.view.NodeView.{NodeView}
use Rattle.khepri_types.specs.Conditions.{Seen}

-- what a condition sees of the node that a view shows
abbrev pub as_seen : NodeView → Seen
as_seen v = record { name = option_copied v.name; payload = v.payload.now; pv = v.pv; cv = v.cv; kids = v.kids }

-- what is seen by a view, or by none where no node stands
abbrev pub seen_of : Option NodeView → Option Seen
seen_of None = None
seen_of (Some v) = Some (as_seen v)

-- the node that a view shows
abbrev pub node_of : NodeView → Node
node_of v = record { payload = v.payload.now; pv = v.pv; cv = v.cv; watches = v.watches.now }
