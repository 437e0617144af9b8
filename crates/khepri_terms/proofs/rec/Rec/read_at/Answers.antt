use Rattle.std.proofs.Common.{◌≡◌, ℕ, List, drop, sym, subst, ap, ◌∙◌, Some}
use Rattle.khepri_terms.specs.Records.{OnlyRec, rec_at, rec_text}
use Rattle.khepri_terms.proofs.Reading.{ends_at}
use Rattle.khepri_terms.proofs.RecordsLaws.{rec_takes}
use Rattle.khepri_terms.proofs.rec.Rec.read_at.Goals as goal

pub overflow_sub-result : goal.overflow_sub-result
overflow_sub-result c =
    let behind : drop c.args.at c.args.text.now ≡ c.split_at.result.1.now = sym c.split_at.ensures.back in
    (ends_at c.args.text.now (rec_text c.in_ok-rec.rec) c.in_ok-rec.rest.now c.args.at c.requires (behind ∙ (rec_takes c.split_at.result.1.now (c.in_ok-rec.rec, c.in_ok-rec.rest.now) c.in_ok-rec.ensures.value).0)).2

pub returns-clause-end : goal.returns-clause-end
returns-clause-end c =
    let behind : drop c.args.at c.args.text.now ≡ c.split_at.result.1.now = sym c.split_at.ensures.back in
    sym (ends_at c.args.text.now (rec_text c.in_ok-rec.rec) c.in_ok-rec.rest.now c.args.at c.requires (behind ∙ (rec_takes c.split_at.result.1.now (c.in_ok-rec.rec, c.in_ok-rec.rest.now) c.in_ok-rec.ensures.value).0)).1

pub returns-clause-value : goal.returns-clause-value
returns-clause-value c =
    let behind : drop c.args.at c.args.text.now ≡ c.split_at.result.1.now = sym c.split_at.ensures.back in
    let e = ends_at c.args.text.now (rec_text c.in_ok-rec.rec) c.in_ok-rec.rest.now c.args.at c.requires (behind ∙ (rec_takes c.split_at.result.1.now (c.in_ok-rec.rec, c.in_ok-rec.rest.now) c.in_ok-rec.ensures.value).0) in
    ap rec_at behind ∙ (c.in_ok-rec.ensures.value ∙ ap (λ (r : List ℕ). Some (c.in_ok-rec.rec, r)) (sym e.0))

pub returns-clause-only : goal.returns-clause-only
returns-clause-only c =
    let behind : drop c.args.at c.args.text.now ≡ c.split_at.result.1.now = sym c.split_at.ensures.back in
    let x = c.in_ok-rec.rec in
    let rest = c.in_ok-rec.rest.now in
    let e = ends_at c.args.text.now (rec_text x) rest c.args.at c.requires (behind ∙ (rec_takes c.split_at.result.1.now (x, rest) c.in_ok-rec.ensures.value).0) in
    subst (λ (r : List ℕ). OnlyRec (drop c.args.at c.args.text.now) x r) (sym e.0) (subst (λ (b : List ℕ). OnlyRec b x rest) (sym behind) c.in_ok-rec.ensures.only)
