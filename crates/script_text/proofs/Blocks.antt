-- Turns of the loop that prints the statements of a block.
use Rattle.std.proofs.Common.{◌≡◌, ℕ, zero, suc, ◌+◌, ◌<◌, ◌≤◌, List, [], ◌∷◌, ◌++◌, length, take, refl, sym, ap, ◌∙◌, append_assoc, map, arith, slice_index_or}
use Rattle.std.proofs.lemmas.List.{append-nil, take_all}
use Rattle.khepri_terms.proofs.Printing.{front_of}
use Rattle.khepri_types.specs.declared.script.Statement.{Statement}
use Rattle.khepri_types.specs.ScriptTexts.{block_joined, statement_text}
use Rattle.script_text.specs.Joining.{semicolon}

pub block_empty : (old : List ℕ) → old ≡ old ++ block_joined []
unfolding block_joined
block_empty old = sym (append-nil old)

joined_next : (x y : Statement) (xs : List Statement) → block_joined (map statement_text (x ∷ y ∷ xs)) ≡ statement_text x ++ 59 ∷ block_joined (map statement_text (y ∷ xs))
unfolding block_joined
joined_next x y xs = refl

joined_one : (x : Statement) → block_joined (map statement_text (x ∷ [])) ≡ statement_text x
unfolding block_joined
joined_one x = refl

joined_two : (x y : Statement) → block_joined (map statement_text (x ∷ y ∷ [])) ≡ statement_text x ++ 59 ∷ statement_text y
unfolding block_joined
joined_two x y = refl

first_joined : (x : Statement) → block_joined (map statement_text (x ∷ [])) ≡ block_joined [] ++ statement_text x
unfolding block_joined
first_joined x = refl

-- one statement more
joined_on : (xs : List Statement) (i : ℕ) (d : Statement) → i < length xs → block_joined (map statement_text (take (suc i) xs)) ≡ block_joined (map statement_text (take i xs)) ++ (semicolon i ++ statement_text (slice_index_or xs i d))
joined_on [] i d l = absurd (omega arith)
joined_on (x ∷ xs) zero d l = first_joined x
joined_on (x ∷ []) (suc i) d l = absurd (omega arith)
joined_on (x ∷ y ∷ xs) (suc zero) d l = joined_two x y ∙ ap (λ (t : List ℕ). t ++ 59 ∷ statement_text y) (sym (joined_one x))
joined_on (x ∷ y ∷ xs) (suc (suc i)) d l =
    let last : List ℕ = statement_text (slice_index_or xs i d) in
    joined_next x y (take (suc i) xs)
    ∙ (ap (λ (t : List ℕ). statement_text x ++ 59 ∷ t) (joined_on (y ∷ xs) (suc i) d (omega arith))
    ∙ (sym (append_assoc (statement_text x) (59 ∷ block_joined (map statement_text (y ∷ take i xs))) (59 ∷ last))
    ∙ ap (λ (t : List ℕ). t ++ 59 ∷ last) (sym (joined_next x y (take i xs)))))

-- one turn
pub print_on : (xs : List Statement) (i : ℕ) (x : Statement) (old before with_mark new : List ℕ) → i < length xs → x ≡ slice_index_or xs i x → before ≡ old ++ block_joined (map statement_text (take i xs)) → with_mark ≡ before ++ semicolon i
    → new ≡ with_mark ++ statement_text x → new ≡ old ++ block_joined (map statement_text (take (i + 1) xs))
print_on xs i x old before with_mark new l is b w n =
    let e : suc i ≡ i + 1 = omega arith in
    let j : List ℕ = block_joined (map statement_text (take i xs)) in
    n
    ∙ (ap (λ (t : List ℕ). t ++ statement_text x) (w ∙ ap (λ (t : List ℕ). t ++ semicolon i) b)
    ∙ (append_assoc (old ++ j) (semicolon i) (statement_text x)
    ∙ (append_assoc old j (semicolon i ++ statement_text x)
    ∙ (ap (λ (v : Statement). old ++ (j ++ (semicolon i ++ statement_text v))) is
    ∙ (ap (λ (t : List ℕ). old ++ t) (sym (joined_on xs i x l))
    ∙ ap (λ (k : ℕ). old ++ block_joined (map statement_text (take k xs))) e)))))

pub mark_front : (xs : List Statement) (i : ℕ) (old before with_mark new : List ℕ) → before ≡ old ++ block_joined (map statement_text (take i xs)) → with_mark ≡ before ++ semicolon i → take (length with_mark) new ≡ with_mark → take (length old) new ≡ old
mark_front xs i old before with_mark new b w f =
    let j : List ℕ = block_joined (map statement_text (take i xs)) in
    front_of old with_mark new (j ++ semicolon i) (w ∙ (ap (λ (t : List ℕ). t ++ semicolon i) b ∙ append_assoc old j (semicolon i))) f

-- the end of the block
pub block_printed : (xs : List Statement) (i : ℕ) (old new : List ℕ) → length xs ≤ i → new ≡ old ++ block_joined (map statement_text (take i xs)) → new ≡ old ++ block_joined (map statement_text xs)
block_printed xs i old new l b = b ∙ ap (λ (ys : List Statement). old ++ block_joined (map statement_text ys)) (take_all i xs l)
