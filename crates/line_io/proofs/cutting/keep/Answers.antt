use Rattle.std.proofs.Common.{◌≡◌, ◌+◌, ◌-◌, ◌≤◌, arith, inl, inr, ◌∙◌, List, ℕ, ◌++◌, take, length, ◌⊎◌, cond}
use Rattle.std.specs.Result.{is_ok, OnOk}
use Rattle.std.specs.Prelude.{Result, Ok, Err}
use Rattle.std.proofs.lemmas.Result.{on_ok_weaker}
use Rattle.line_io.proofs.LineLemmas.{kept_is}
use Rattle.line_io.proofs.cutting.keep.Goals as goal
use Rattle.line_io.proofs.cutting.keep.Goals.{then-more-room, else-more-room}

-- what an `Ok` of a push says
at_ok : {T E : Type 0} (r : Result T E) (new old more : List ℕ) → new ≡ cond (is_ok r) (old ++ more) old → OnOk r (new ≡ old ++ more)
at_ok (Ok x) new old more e = e
at_ok (Err x) new old more e = tt

pub returns-clause-kept : goal.returns-clause-kept
returns-clause-kept c =
    let begun = c.args.begun.now.items in
    let more = c.args.more.now in
    let n = c.if-more-room.n in
    let which : ((n ≡ length more) × (length begun + length more ≤ c.args.limit + 2)) ⊎ ((n ≡ c.args.limit + 2 - length begun) × (c.args.limit + 2 - length begun ≤ length more)) = elim c.if-more-room.branch [
      | then-more-room w ↦ inl (omega arith, omega arith)
      | else-more-room w ↦ inr (omega arith, omega arith)
    ] in
    let e : begun ++ take n more ≡ take (c.args.limit + 2) (begun ++ more) = kept_is (c.args.limit + 2) n begun more c.requires.front which in
    on_ok_weaker c.extend_from_slice.result (λ (h : c.extend_from_slice.new.self.items ≡ begun ++ take n more). h ∙ e) (at_ok c.extend_from_slice.result c.extend_from_slice.new.self.items begun (take n more) c.extend_from_slice.ensures.items)
