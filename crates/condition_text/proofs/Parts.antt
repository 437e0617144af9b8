-- Turns of the loops over lists of conditions.
use Rattle.std.proofs.Common.{◌≡◌, ℕ, zero, suc, ◌+◌, ◌-◌, ◌<◌, ◌≤◌, Bool, true, false, cond, List, [], ◌∷◌, ◌++◌, length, take, refl, sym, ap, ◌∙◌, append_assoc, map, arith, Option, Some, None, slice_index_or}
use Rattle.std.proofs.lemmas.List.{append-nil, length-append, take_all}
use Rattle.khepri_terms.specs.Many.{◌>>=◌}
use Rattle.khepri_terms.proofs.Printing.{front_of}
use Rattle.khepri_types.specs.declared.condition.Condition.{Condition}
use Rattle.khepri_types.specs.ConditionTexts.{joined, condition_text}
use Rattle.khepri_types.specs.ReadingConditions.{Reading, list_end_at, before, some_asked, layer_at, nested_at}
use Rattle.condition_text.specs.Joining.{comma}

-- conditions that were read before a reading that may fail
abbrev pub past : List Condition → Option (List Condition × ℕ × List ℕ) → Option (List Condition × ℕ × List ℕ)
past xs None = None
past xs (Some x) = Some (xs ++ x.0, x.1, x.2)

past_none : (xs : List Condition) (o : Option (List Condition × ℕ × List ℕ)) → o ≡ None → past xs o ≡ None
past_none xs o e = ap (past xs) e

past_before : (xs : List Condition) (x : Condition) (o : Option (List Condition × ℕ × List ℕ)) → past xs (before x o) ≡ past (xs ++ x ∷ []) o
past_before xs x None = refl
past_before xs x (Some y) = ap (λ (ys : List Condition). Some (ys, y.1, y.2)) (sym (append_assoc xs (x ∷ []) y.0))

-- one turn of the reading
turn : (inner : ℕ → List ℕ → Reading) (m n left more : ℕ) (text after rest : List ℕ) (x : Condition) (last : Bool) → m ≡ suc n → inner left text ≡ Some (x, more, after) → list_end_at after ≡ Some (last, rest)
    → some_asked inner m left text ≡ cond last (Some (x ∷ [], more, rest)) (before x (some_asked inner n more rest))
unfolding some_asked
turn inner m n left more text after rest x last s e f =
    ap (λ (k : ℕ). some_asked inner k left text) s
    ∙ (ap (λ (o : Reading). o >>= λ found. list_end_at found.2 >>= λ end. cond end.0 (Some (found.0 ∷ [], found.1, end.1)) (before found.0 (some_asked inner n found.1 end.1))) e
    ∙ ap (λ (o : Option (Bool × List ℕ)). o >>= λ end. cond end.0 (Some (x ∷ [], more, end.1)) (before x (some_asked inner n more end.1))) f)

at_zero : (inner : ℕ → List ℕ → Reading) (left : ℕ) (text : List ℕ) → some_asked inner 0 left text ≡ None
unfolding some_asked
at_zero inner left text = refl

pub parts_past : (inner : ℕ → List ℕ → Reading) (m left : ℕ) (text : List ℕ) → m ≡ 0 → some_asked inner m left text ≡ None
parts_past inner m left text e = ap (λ (k : ℕ). some_asked inner k left text) e ∙ at_zero inner left text

pub parts_none : (inner : ℕ → List ℕ → Reading) (m left : ℕ) (text : List ℕ) → inner left text ≡ None → some_asked inner m left text ≡ None
unfolding some_asked
parts_none inner zero left text e = refl
parts_none inner (suc m) left text e = ap (λ (o : Reading). o >>= λ found. list_end_at found.2 >>= λ end. cond end.0 (Some (found.0 ∷ [], found.1, end.1)) (before found.0 (some_asked inner m found.1 end.1))) e

pub parts_odd : (inner : ℕ → List ℕ → Reading) (m left more : ℕ) (text after : List ℕ) (x : Condition) → inner left text ≡ Some (x, more, after) → list_end_at after ≡ None → some_asked inner m left text ≡ None
unfolding some_asked
parts_odd inner zero left more text after x e f = refl
parts_odd inner (suc m) left more text after x e f =
    ap (λ (o : Reading). o >>= λ found. list_end_at found.2 >>= λ end. cond end.0 (Some (found.0 ∷ [], found.1, end.1)) (before found.0 (some_asked inner m found.1 end.1))) e
    ∙ ap (λ (o : Option (Bool × List ℕ)). o >>= λ end. cond end.0 (Some (x ∷ [], more, end.1)) (before x (some_asked inner m more end.1))) f

-- a turn that reads the last condition
pub parts_last : (inner : ℕ → List ℕ → Reading) (total : Option (List Condition × ℕ × List ℕ)) (most left more : ℕ) (xs ys : List Condition) (x : Condition) (text after rest : List ℕ) → length xs < most → inner left text ≡ Some (x, more, after)
    → list_end_at after ≡ Some (true, rest) → ys ≡ xs ++ x ∷ [] → total ≡ past xs (some_asked inner (most - length xs) left text) → total ≡ Some (ys, more, rest)
parts_last inner total most left more xs ys x text after rest lt e f g so_far =
    so_far
    ∙ (ap (past xs) (turn inner (most - length xs) (most - (length xs + 1)) left more text after rest x true (omega arith) e f)
    ∙ ap (λ (zs : List Condition). Some (zs, more, rest)) (sym g))

-- a turn that goes on
pub parts_on : (inner : ℕ → List ℕ → Reading) (total : Option (List Condition × ℕ × List ℕ)) (most left more : ℕ) (xs ys : List Condition) (x : Condition) (text after rest : List ℕ) → length xs < most → inner left text ≡ Some (x, more, after)
    → list_end_at after ≡ Some (false, rest) → ys ≡ xs ++ x ∷ [] → total ≡ past xs (some_asked inner (most - length xs) left text) → total ≡ past ys (some_asked inner (most - length ys) more rest)
parts_on inner total most left more xs ys x text after rest lt e f g so_far =
    let len : length (xs ++ x ∷ []) ≡ length xs + 1 = length-append xs (x ∷ []) in
    let k : most - (length xs + 1) ≡ most - length ys = ap (λ (n : ℕ). most - n) (sym (ap length g ∙ len)) in
    so_far
    ∙ (ap (past xs) (turn inner (most - length xs) (most - (length xs + 1)) left more text after rest x false (omega arith) e f)
    ∙ (past_before xs x (some_asked inner (most - (length xs + 1)) more rest)
    ∙ (ap (λ (zs : List Condition). past zs (some_asked inner (most - (length xs + 1)) more rest)) (sym g) ∙ ap (λ (n : ℕ). past ys (some_asked inner n more rest)) k)))

-- the loop ends without a list
pub parts_fail : (total found : Option (List Condition × ℕ × List ℕ)) (xs : List Condition) → found ≡ None → total ≡ past xs found → total ≡ None
parts_fail total found xs none so_far = so_far ∙ past_none xs found none

-- ---- nesting

pub nested_none : (n left : ℕ) (text : List ℕ) → n ≡ 0 → nested_at n left text ≡ None
unfolding nested_at
nested_none zero left text e = refl
nested_none (suc n) left text e = absurd (omega arith)

pub left_none : (n left : ℕ) (text : List ℕ) → left ≡ 0 → nested_at n left text ≡ None
unfolding nested_at
left_none zero left text e = refl
left_none (suc n) zero text e = refl
left_none (suc n) (suc left) text e = absurd (omega arith)

pub nested_step : (n left : ℕ) (text : List ℕ) → 0 < n → 0 < left → nested_at n left text ≡ layer_at (nested_at (n - 1)) (left - 1) text
unfolding nested_at
nested_step zero left text p q = absurd (omega arith)
nested_step (suc n) zero text p q = absurd (omega arith)
nested_step (suc n) (suc left) text p q =
    let a : n ≡ suc n - 1 = omega arith in
    let b : left ≡ suc left - 1 = omega arith in
    (λ i. layer_at (nested_at (a i)) (b i) text)

-- ---- printing

pub joined_none : (old : List ℕ) → old ≡ old ++ joined []
unfolding joined
joined_none old = sym (append-nil old)

joined_next : (x y : Condition) (xs : List Condition) → joined (map condition_text (x ∷ y ∷ xs)) ≡ condition_text x ++ 44 ∷ joined (map condition_text (y ∷ xs))
unfolding joined
joined_next x y xs = refl

joined_one : (x : Condition) → joined (map condition_text (x ∷ [])) ≡ condition_text x
unfolding joined
joined_one x = refl

joined_two : (x y : Condition) → joined (map condition_text (x ∷ y ∷ [])) ≡ condition_text x ++ 44 ∷ condition_text y
unfolding joined
joined_two x y = refl

first_joined : (x : Condition) → joined (map condition_text (x ∷ [])) ≡ joined [] ++ condition_text x
unfolding joined
first_joined x = refl

-- one condition more
joined_on : (xs : List Condition) (i : ℕ) (d : Condition) → i < length xs → joined (map condition_text (take (suc i) xs)) ≡ joined (map condition_text (take i xs)) ++ (comma i ++ condition_text (slice_index_or xs i d))
joined_on [] i d l = absurd (omega arith)
joined_on (x ∷ xs) zero d l = first_joined x
joined_on (x ∷ []) (suc i) d l = absurd (omega arith)
joined_on (x ∷ y ∷ xs) (suc zero) d l = joined_two x y ∙ ap (λ (t : List ℕ). t ++ 44 ∷ condition_text y) (sym (joined_one x))
joined_on (x ∷ y ∷ xs) (suc (suc i)) d l =
    let last : List ℕ = condition_text (slice_index_or xs i d) in
    joined_next x y (take (suc i) xs)
    ∙ (ap (λ (t : List ℕ). condition_text x ++ 44 ∷ t) (joined_on (y ∷ xs) (suc i) d (omega arith))
    ∙ (sym (append_assoc (condition_text x) (44 ∷ joined (map condition_text (y ∷ take i xs))) (44 ∷ last))
    ∙ ap (λ (t : List ℕ). t ++ 44 ∷ last) (sym (joined_next x y (take i xs)))))

-- one turn of the printing of a list
pub print_on : (xs : List Condition) (i : ℕ) (x : Condition) (old before with_comma new : List ℕ) → i < length xs → x ≡ slice_index_or xs i x → before ≡ old ++ joined (map condition_text (take i xs)) → with_comma ≡ before ++ comma i
    → new ≡ with_comma ++ condition_text x → new ≡ old ++ joined (map condition_text (take (i + 1) xs))
print_on xs i x old before with_comma new l is b w n =
    let e : suc i ≡ i + 1 = omega arith in
    let j : List ℕ = joined (map condition_text (take i xs)) in
    n
    ∙ (ap (λ (t : List ℕ). t ++ condition_text x) (w ∙ ap (λ (t : List ℕ). t ++ comma i) b)
    ∙ (append_assoc (old ++ j) (comma i) (condition_text x)
    ∙ (append_assoc old j (comma i ++ condition_text x)
    ∙ (ap (λ (v : Condition). old ++ (j ++ (comma i ++ condition_text v))) is
    ∙ (ap (λ (t : List ℕ). old ++ t) (sym (joined_on xs i x l))
    ∙ ap (λ (k : ℕ). old ++ joined (map condition_text (take k xs))) e)))))

pub comma_front : (xs : List Condition) (i : ℕ) (old before with_comma new : List ℕ) → before ≡ old ++ joined (map condition_text (take i xs)) → with_comma ≡ before ++ comma i → take (length with_comma) new ≡ with_comma → take (length old) new ≡ old
comma_front xs i old before with_comma new b w f =
    let j : List ℕ = joined (map condition_text (take i xs)) in
    front_of old with_comma new (j ++ comma i) (w ∙ (ap (λ (t : List ℕ). t ++ comma i) b ∙ append_assoc old j (comma i))) f

-- the end of a list
pub list_printed : (xs : List Condition) (i : ℕ) (old word before new : List ℕ) → length xs ≤ i → before ≡ (old ++ word) ++ joined (map condition_text (take i xs)) → new ≡ before ++ 41 ∷ [] → new ≡ old ++ (word ++ (joined (map condition_text xs) ++ 41 ∷ []))
list_printed xs i old word before new l b n =
    n
    ∙ (ap (λ (t : List ℕ). t ++ 41 ∷ []) (b ∙ ap (λ (ys : List Condition). (old ++ word) ++ joined (map condition_text ys)) (take_all i xs l))
    ∙ (append_assoc (old ++ word) (joined (map condition_text xs)) (41 ∷ []) ∙ append_assoc old word (joined (map condition_text xs) ++ 41 ∷ [])))
