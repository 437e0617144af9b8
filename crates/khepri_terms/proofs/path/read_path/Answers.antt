use Rattle.std.proofs.Common.{◌≡◌, ℕ, ◌<◌, List, length, get_or, sym, ap, subst, arith, ◌∙◌, Some}
use Rattle.std.proofs.lemmas.List.{length-take}
use Rattle.khepri_terms.specs.Terms.{NameText}
use Rattle.khepri_terms.specs.Names.{IsName}
use Rattle.khepri_terms.specs.Paths.{step_text}
use Rattle.khepri_terms.proofs.Reading.{Took}
use Rattle.khepri_terms.proofs.PathsLaws.{names_take, path_is}
use Rattle.khepri_terms.proofs.path.read_path.Goals as goal

pub split_at-requires : goal.split_at-requires
split_at-requires c = omega (arith, ap length c.first_bytes-window.ensures, length-take 1024 c.args.text.now)

pub invariant_of-result : goal.invariant_of-result
invariant_of-result c = (subst (λ (f : List NameText × List ℕ). Took step_text IsName 512 c.first_bytes-window.result.now f) c.in_ok-names-in-47.ensures.value (names_take 512 c.first_bytes-window.result.now)).all

pub returns-else-len-eq0-clause-value : goal.returns-else-len-eq0-clause-value
returns-else-len-eq0-clause-value c =
    let text = c.args.text.now in
    let lt : 0 < length text = omega arith in
    let first : get_or text 0 0 ≡ 47 = omega arith in
    let some : 0 < length c.in_ok-names-in-47.names.items = omega arith in
    path_is text c.first_bytes-window.result.now c.in_ok-names-in-47.left.now c.in_ok-names-in-47.names.items lt first c.first_bytes-window.ensures c.in_ok-names-in-47.ensures.value some
    ∙ ap (λ (r : List ℕ). Some (c.in_ok-names-in-47.names.items, r)) (sym c.split_at.ensures.back)
