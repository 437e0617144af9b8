use Rattle.std.proofs.Common.{◌≡◌, ◌-◌, ◌≤◌, true, take, length}
use Rattle.std.specs.List.{AllByRecursion}
use Rattle.khepri_terms.specs.Bytes.{is_plain}
use Rattle.khepri_terms.proofs.texts.plain_front.Given as goal

abbrev pub invariant-plain : goal.invariant-plain
invariant-plain l = record {
  plain : AllByRecursion (λ b. is_plain b ≡ true) (take l.len l.text);
  few : l.len ≤ l.max;
  within : l.len ≤ length l.text;
}

abbrev pub decreases-plain : goal.decreases-plain
decreases-plain l = l.max - l.len
