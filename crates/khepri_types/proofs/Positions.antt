-- Which position comes after a history.
use Rattle.std.proofs.Common.{◌≡◌, ◌+◌, List, [], ◌∷◌, length, arith}
use Rattle.khepri_types.specs.declared.out.EntryText.{EntryText}
use Rattle.khepri_types.specs.declared.out.EntryText.TheVariants as text
use Rattle.khepri_types.specs.Exec.{State, opening_state, state_of}
use Rattle.khepri_types.specs.History.{run_from}
use Rattle.khepri_types.proofs.After.{position-after}

position-run : (es : List EntryText) (S : State) → (run_from S es).position ≡ S.position + length es
position-run [] S = omega arith
position-run (text.Command c ∷ es) S = omega (arith, position-run es (state_of S (text.Command c)), position-after S c)
position-run (text.Fire s ∷ es) S = omega (arith, position-run es (state_of S (text.Fire s)))
position-run (text.Noop ∷ es) S = omega (arith, position-run es (state_of S text.Noop))

pub position-history : (es : List EntryText) → (run_from opening_state es).position ≡ length es
position-history es = let h : (run_from opening_state es).position ≡ 0 + length es = position-run es opening_state in omega (arith, h)
