use Rattle.std.proofs.Common.{◌≡◌, ℕ, List, drop, sym, subst, ap, ◌∙◌, Some}
use Rattle.khepri_terms.specs.Paths.{LongestPath, path_at, path_text}
use Rattle.khepri_terms.proofs.Reading.{ends_at}
use Rattle.khepri_terms.proofs.PathsLaws.{path_takes}
use Rattle.khepri_terms.proofs.path.Path.read_at.Goals as goal

pub overflow_sub-result : goal.overflow_sub-result
overflow_sub-result c =
    let behind : drop c.args.at c.args.text.now ≡ c.split_at.result.1.now = sym c.split_at.ensures.back in
    (ends_at c.args.text.now (path_text c.in_ok-path.path) c.in_ok-path.rest.now c.args.at c.requires (behind ∙ (path_takes c.split_at.result.1.now (c.in_ok-path.path, c.in_ok-path.rest.now) c.in_ok-path.ensures.value).0)).2

pub returns-clause-end : goal.returns-clause-end
returns-clause-end c =
    let behind : drop c.args.at c.args.text.now ≡ c.split_at.result.1.now = sym c.split_at.ensures.back in
    sym (ends_at c.args.text.now (path_text c.in_ok-path.path) c.in_ok-path.rest.now c.args.at c.requires (behind ∙ (path_takes c.split_at.result.1.now (c.in_ok-path.path, c.in_ok-path.rest.now) c.in_ok-path.ensures.value).0)).1

pub returns-clause-value : goal.returns-clause-value
returns-clause-value c =
    let behind : drop c.args.at c.args.text.now ≡ c.split_at.result.1.now = sym c.split_at.ensures.back in
    let e = ends_at c.args.text.now (path_text c.in_ok-path.path) c.in_ok-path.rest.now c.args.at c.requires (behind ∙ (path_takes c.split_at.result.1.now (c.in_ok-path.path, c.in_ok-path.rest.now) c.in_ok-path.ensures.value).0) in
    ap path_at behind ∙ (c.in_ok-path.ensures.value ∙ ap (λ (r : List ℕ). Some (c.in_ok-path.path, r)) (sym e.0))

pub returns-clause-longest : goal.returns-clause-longest
returns-clause-longest c =
    let behind : drop c.args.at c.args.text.now ≡ c.split_at.result.1.now = sym c.split_at.ensures.back in
    let x = c.in_ok-path.path in
    let rest = c.in_ok-path.rest.now in
    let e = ends_at c.args.text.now (path_text x) rest c.args.at c.requires (behind ∙ (path_takes c.split_at.result.1.now (x, rest) c.in_ok-path.ensures.value).0) in
    subst (λ (r : List ℕ). LongestPath (drop c.args.at c.args.text.now) x r) (sym e.0) (subst (λ (b : List ℕ). LongestPath b x rest) (sym behind) c.in_ok-path.ensures.longest)
