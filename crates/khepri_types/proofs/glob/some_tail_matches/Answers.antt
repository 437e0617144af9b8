use Rattle.std.proofs.Common.{◌∙◌, sym, ap}
use Rattle.khepri_types.specs.Globs.{some_tail, glob_matches}
use Rattle.khepri_types.proofs.GlobLaws.{star_shorter, first_place, place_is, place_unlike, last_unlike, tail_is}
use Rattle.khepri_types.proofs.glob.some_tail_matches.Goals as goal

pub tails-smaller-in-Star : goal.tails-smaller-in-Star
tails-smaller-in-Star c = star_shorter c.tails.left.now c.tails.rest.now c.in-Star.later.now c.in-Star.after.now (c.in-Star.ensures)

pub tails-preserved-in-Star : goal.tails-preserved-in-Star
tails-preserved-in-Star c = first_place _ _ _ _ (c.in-Star.ensures) ∙ c.tails.invariant

pub returns-in-Same : goal.returns-in-Same
returns-in-Same c = sym (place_is (glob_matches c.tails.left.now) c.tails.rest.now (c.in-Same.ensures)) ∙ c.tails.invariant

pub returns-in-empty : goal.returns-in-empty
returns-in-empty c = sym (last_unlike (glob_matches c.tails.left.now) c.tails.rest.now c.in-Unlike.ensures c.in-empty.len_below) ∙ c.tails.invariant

pub tails-preserved : goal.tails-preserved
tails-preserved c = ap (some_tail (glob_matches c.tails.left.now)) (tail_is c.tails.rest.now) ∙ (place_unlike (glob_matches c.tails.left.now) c.tails.rest.now c.in-Unlike.ensures c.in-len1-up.len_at_least ∙ c.tails.invariant)
