use Rattle.std.proofs.Common.{◌≡◌, drop, map}
use Rattle.khepri_types.specs.Conditions.{all_true}
use Rattle.khepri_types.specs.Typing.{typed}
use Rattle.tx_script.proofs.typing.+typing.Given as goal

abbrev pub invariant-all_typed-loop-one : goal.invariant-all_typed-loop-one
invariant-all_typed-loop-one l = all_true (map typed (drop l.one-index l.block)) ≡ all_true (map typed l.block)
