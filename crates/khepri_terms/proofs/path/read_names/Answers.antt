use Rattle.std.proofs.Common.{◌-◌, ◌≤◌, ℕ, List, length, refl, subst, arith}
use Rattle.khepri_terms.specs.Paths.{step_at, names_at}
use Rattle.khepri_terms.specs.Terms.{NameText}
use Rattle.khepri_terms.proofs.PathsLaws.{names_within}
use Rattle.khepri_terms.proofs.Reading.{many_on, many_done, many-end, many-full}
use Rattle.khepri_terms.proofs.path.read_names.Goals as goal
use Rattle.khepri_terms.proofs.path.read_names.Goals.{else-names-test, then-names-test+in-Err-Bad}

pub names-preserved : goal.names-preserved
names-preserved c = record {
  read = many_on step_at (names_at 512 c.args.text.now) 512 c.names.names.items c.push.new.self.items c.in-Ok.name c.names.rest.now c.in-Ok.after.now (omega arith) c.in-Ok.ensures.value c.in_ok-push-in-Ok.ensures.items c.names.invariant.read;
  few = omega (arith, c.in_ok-push-in-Ok.ensures.len);
}

pub returns-clause-value : goal.returns-clause-value
returns-clause-value c =
    let k = 512 - length c.names.names.items in
    elim c.names-test.branch [
      | else-names-test w ↦ many_done _ _ _ (names_at k c.names.rest.now) (many-full step_at k c.names.rest.now (omega arith)) c.names.invariant.read
      | then-names-test+in-Err-Bad w ↦ many_done _ _ _ (names_at k c.names.rest.now) (many-end step_at k c.names.rest.now ((rw w.in-Err-Bad.field-0-is at w.in-Err-Bad.ensures.bad) refl)) c.names.invariant.read
    ]

pub returns-clause-within : goal.returns-clause-within
returns-clause-within c = subst (λ (f : List NameText × List ℕ). length f.1 ≤ length c.args.text.now) (returns-clause-value c) (names_within 512 c.args.text.now)
