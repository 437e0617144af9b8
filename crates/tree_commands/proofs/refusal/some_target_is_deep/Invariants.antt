use Rattle.std.specs.Prelude.{◌≡◌, drop}
use Rattle.std.specs.List.{list_any}
use Rattle.khepri_types.specs.Watching.{is_deep}
use Rattle.tree_commands.proofs.refusal.some_target_is_deep.Given as goal

abbrev pub invariant-loop-watch : goal.invariant-loop-watch
invariant-loop-watch l = list_any (λ w. is_deep w.target) (drop l.watch-index l.watches) ≡ list_any (λ w. is_deep w.target) l.watches
