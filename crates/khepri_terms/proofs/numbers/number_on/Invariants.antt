use Rattle.std.proofs.Common.{◌≡◌, ◌≤◌, length}
use Rattle.khepri_terms.specs.Numbers.{number_from}
use Rattle.khepri_terms.proofs.numbers.number_on.Given as goal

abbrev pub invariant-digits : goal.invariant-digits
invariant-digits l = record {
  read : number_from l.greatest l.start l.text ≡ number_from l.greatest l.number l.rest;
  high : l.number ≤ l.greatest;
}

abbrev pub decreases-digits : goal.decreases-digits
decreases-digits l = length l.rest
