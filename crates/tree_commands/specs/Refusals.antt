-- What refuses a command before anything is changed.
use Rattle.std.specs.Prelude.{◌||◌, if◌then◌else◌, List, Option, Some, None}
use Rattle.khepri_terms.specs.Terms.{NameText}
use Rattle.khepri_types.specs.declared.node.Payload.{Payload}
use Rattle.khepri_types.specs.declared.reply.Reply.{Reply}
use Rattle.khepri_types.specs.declared.reply.Reply.TheVariants.{NoRoot, NoDeep, NoScript}
use Rattle.khepri_types.specs.declared.watch.Watching.{Watching}
use Rattle.khepri_types.specs.Exec.{is_checked}
use Rattle.khepri_types.specs.Watching.{is_deep, gives_root_watches, has_deep_target}

-- what refuses each command that sets this payload at the path, whatever stands there
abbrev pub unwritable : List NameText → Payload → Watching → Option Reply
unwritable p x w = if gives_root_watches p w then Some NoRoot else (if is_deep p || has_deep_target w then Some NoDeep else (if is_checked x then None else Some NoScript))
