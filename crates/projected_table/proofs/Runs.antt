-- Steps, one after another.
use Rattle.std.proofs.Common.{◌≡◌, List, [], ◌∷◌, ◌++◌, ◌<◌, length, get_or, drop, refl, sym, ap, ◌∙◌, arith}
use Rattle.khepri_types.specs.declared.row.RowStep.{RowStep}
use Rattle.khepri_types.specs.Tables.{TablesAt, stepped, run}

pub run-both : (xs ys : List RowStep) (now : TablesAt) → run (xs ++ ys) now ≡ run ys (run xs now)
run-both [] ys now = refl
run-both (x ∷ xs) ys now = run-both xs ys (stepped x now)

shifted : (done : List RowStep) (s : RowStep) (rest : List RowStep) → done ++ s ∷ rest ≡ (done ++ s ∷ []) ++ rest
shifted [] s rest = refl
shifted (d ∷ done) s rest = ap (λ (xs : List RowStep). d ∷ xs) (shifted done s rest)

-- one more step was published
pub one_more : (all before rest : List RowStep) (s : RowStep) (first was now : TablesAt) → before ≡ s ∷ rest → now ≡ stepped s was
    → (done : List RowStep) × (all ≡ done ++ before) × (was ≡ run done first) → (done : List RowStep) × (all ≡ done ++ rest) × (now ≡ run done first)
one_more all before rest s first was now front is (done, cut, ran) =
    (done ++ s ∷ [], cut ∙ (ap (λ (xs : List RowStep). done ++ xs) front ∙ shifted done s rest), is ∙ (ap (stepped s) ran ∙ sym (run-both done (s ∷ []) first)))

pub front_is : (xs rest : List RowStep) (s : RowStep) → 0 < length xs → s ≡ get_or xs 0 s → rest ≡ drop 1 xs → xs ≡ s ∷ rest
front_is [] rest s lt is cut = absurd (omega arith)
front_is (x ∷ xs) rest s lt is cut = λ i. sym is i ∷ sym cut i
