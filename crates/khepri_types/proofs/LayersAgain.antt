-- A condition that is spelled is read again.
use Rattle.std.proofs.Common.{◌≡◌, ℕ, zero, suc, ◌+◌, ◌-◌, ◌<◌, ◌≤◌, Bool, true, false, cond, eqb, List, [], ◌∷◌, ◌++◌, length, refl, sym, ap, subst, ◌∙◌, append_assoc, map, sum, arith, Option, Some, None, codes}
use Rattle.std.proofs.lemmas.Bool.{eqb-true, cond-false}
use Rattle.std.proofs.lemmas.List.Sums.{sum_by-cons}
use Rattle.std.specs.List.{AllByRecursion}
use Rattle.std.specs.Fmt.{decimal}
use Rattle.khepri_terms.specs.Many.{◌>>=◌}
use Rattle.khepri_terms.specs.Records.{rec_text}
use Rattle.khepri_types.specs.declared.condition.Condition.{Condition, out-Condition, roll-Condition}
use Rattle.khepri_types.specs.declared.condition.Condition.TheVariants as c
use Rattle.khepri_types.specs.declared.condition.Condition.TheVariants.{rolls-Absent, rolls-Exists, rolls-Payload, rolls-Data, rolls-Sproc, rolls-Name, rolls-Is, rolls-Field, rolls-Pv, rolls-Cv, rolls-Kids, rolls-Not, rolls-All, rolls-Any}
use Rattle.khepri_types.specs.declared.condition.Condition.TheViews.{roll-out-Condition}
use Rattle.khepri_types.specs.declared.condition.Condition.TheFolds.{fold-roll-Condition}
use Rattle.khepri_types.specs.declared.condition.Condition.TheOpen.{Condition-F}
use Rattle.khepri_types.specs.Compares.{compare_text}
use Rattle.khepri_types.specs.Globs.{glob_text}
use Rattle.khepri_types.specs.ConditionTexts.{joined, asked_text, number_text, layer_text, condition_text, layer_size, size, IsLayer, IsNested}
use Rattle.khepri_types.specs.ReadingConditions.{after_byte, Reading, name_asked, is_asked, field_asked, number_asked, comparing, list_end_at, before, uniting, asking_at, atom_at, not_asked, some_asked, list_asked, layer_at, nested_at}
use Rattle.khepri_types.proofs.Asking.{close_again, name_asked_again, is_asked_again, field_asked_again, number_asked_again}
use Rattle.khepri_types.proofs.Layers.{sign, words, behind_is, joined_one, joined_more}

-- a condition counts itself
layer_counts : (l : Condition-F Condition) → 1 ≤ size (roll-Condition l)
unfolding layer_size
layer_counts Condition-F.Absent = let s = fold-roll-Condition ℕ layer_size Condition-F.Absent in omega (arith, s)
layer_counts Condition-F.Exists = let s = fold-roll-Condition ℕ layer_size Condition-F.Exists in omega (arith, s)
layer_counts Condition-F.Payload = let s = fold-roll-Condition ℕ layer_size Condition-F.Payload in omega (arith, s)
layer_counts Condition-F.Data = let s = fold-roll-Condition ℕ layer_size Condition-F.Data in omega (arith, s)
layer_counts Condition-F.Sproc = let s = fold-roll-Condition ℕ layer_size Condition-F.Sproc in omega (arith, s)
layer_counts (Condition-F.Name g) = let s = fold-roll-Condition ℕ layer_size (Condition-F.Name g) in omega (arith, s)
layer_counts (Condition-F.Is r) = let s = fold-roll-Condition ℕ layer_size (Condition-F.Is r) in omega (arith, s)
layer_counts (Condition-F.Field key op x) = let s = fold-roll-Condition ℕ layer_size (Condition-F.Field key op x) in omega (arith, s)
layer_counts (Condition-F.Pv op n) = let s = fold-roll-Condition ℕ layer_size (Condition-F.Pv op n) in omega (arith, s)
layer_counts (Condition-F.Cv op n) = let s = fold-roll-Condition ℕ layer_size (Condition-F.Cv op n) in omega (arith, s)
layer_counts (Condition-F.Kids op n) = let s = fold-roll-Condition ℕ layer_size (Condition-F.Kids op n) in omega (arith, s)
layer_counts (Condition-F.Not x) = let s : size (roll-Condition (Condition-F.Not x)) ≡ size x + 1 = fold-roll-Condition ℕ layer_size (Condition-F.Not x) in omega (arith, s)
layer_counts (Condition-F.All xs) = let s : size (roll-Condition (Condition-F.All xs)) ≡ sum (map size xs) + 1 = fold-roll-Condition ℕ layer_size (Condition-F.All xs) in omega (arith, s)
layer_counts (Condition-F.Any xs) = let s : size (roll-Condition (Condition-F.Any xs)) ≡ sum (map size xs) + 1 = fold-roll-Condition ℕ layer_size (Condition-F.Any xs) in omega (arith, s)

pub size_some : (x : Condition) → 1 ≤ size x
size_some x = subst (λ (y : Condition). 1 ≤ size y) (roll-out-Condition x) (layer_counts (out-Condition x))

length_le_sum : (xs : List Condition) → length xs ≤ sum (map size xs)
length_le_sum [] = omega arith
length_le_sum (x ∷ xs) = omega (arith, sum_by-cons (λ (k : ℕ). k) (size x) (map size xs), size_some x, length_le_sum xs)

abbrev pub Again : ℕ → Type 0
Again n = (x : Condition) (left : ℕ) (rest : List ℕ) → IsNested n x → size x ≤ left → nested_at n left (condition_text x ++ rest) ≡ Some (x, left - size x, rest)

-- ---- lists

end_again : (last : Bool) (rest : List ℕ) → list_end_at (sign last ∷ rest) ≡ Some (last, rest)
unfolding list_end_at
end_again true rest = refl
end_again false rest = refl

-- one turn of the reading of a list
turn : (n m left more : ℕ) (text after : List ℕ) (x : Condition) (last : Bool) → nested_at n left text ≡ Some (x, more, sign last ∷ after)
    → some_asked (nested_at n) (suc m) left text ≡ cond last (Some (x ∷ [], more, after)) (before x (some_asked (nested_at n) m more after))
unfolding some_asked
turn n m left more text after x last e =
    ap (λ (o : Reading). o >>= λ found. list_end_at found.2 >>= λ end. cond end.0 (Some (found.0 ∷ [], found.1, end.1)) (before found.0 (some_asked (nested_at n) m found.1 end.1))) e
    ∙ ap (λ (o : Option (Bool × List ℕ)). o >>= λ end. cond end.0 (Some (x ∷ [], more, end.1)) (before x (some_asked (nested_at n) m more end.1))) (end_again last after)

less : (a b d e : ℕ) → a ≡ b + d → e - b - d ≡ e - a
less a b d e f = omega (arith, f)

some_again : (n m left : ℕ) (xs : List Condition) (rest : List ℕ) → Again n → 0 < length xs → length xs ≤ m → AllByRecursion (IsNested n) xs → sum (map size xs) ≤ left
    → some_asked (nested_at n) m left (joined (map condition_text xs) ++ 41 ∷ rest) ≡ Some (xs, left - sum (map size xs), rest)
some_again n m left [] rest again lt le all fits = absurd (omega arith)
some_again n zero left (x ∷ xs) rest again lt le all fits = absurd (omega arith)
some_again n (suc m) left (x ∷ []) rest again lt le all fits =
    let s : sum (map size (x ∷ [])) ≡ size x = sum_by-cons (λ (k : ℕ). k) (size x) [] ∙ omega arith in
    let one = again x left (41 ∷ rest) all.0 (omega (arith, s, fits)) in
    ap (λ (t : List ℕ). some_asked (nested_at n) (suc m) left (t ++ 41 ∷ rest)) (joined_one (condition_text x))
    ∙ (turn n m left (left - size x) (condition_text x ++ 41 ∷ rest) rest x true one
    ∙ ap (λ (k : ℕ). Some (x ∷ [], left - k, rest)) (sym s))
some_again n (suc m) left (x ∷ y ∷ xs) rest again lt le all fits =
    let later : List ℕ = joined (map condition_text (y ∷ xs)) ++ 41 ∷ rest in
    let s : sum (map size (x ∷ y ∷ xs)) ≡ size x + sum (map size (y ∷ xs)) = sum_by-cons (λ (k : ℕ). k) (size x) (map size (y ∷ xs)) in
    let one = again x left (44 ∷ later) all.0 (omega (arith, s, fits)) in
    let others = some_again n m (left - size x) (y ∷ xs) rest again (omega arith) (omega arith) all.1 (omega (arith, s, fits)) in
    ap (λ (t : List ℕ). some_asked (nested_at n) (suc m) left (t ++ 41 ∷ rest)) (joined_more x (y ∷ xs) (omega arith))
    ∙ (ap (some_asked (nested_at n) (suc m) left) (append_assoc (condition_text x) (44 ∷ joined (map condition_text (y ∷ xs))) (41 ∷ rest))
    ∙ (turn n m left (left - size x) (condition_text x ++ 44 ∷ later) later x false one
    ∙ (ap (before x) others
    ∙ ap (λ (k : ℕ). Some (x ∷ y ∷ xs, k, rest)) (less (sum (map size (x ∷ y ∷ xs))) (size x) (sum (map size (y ∷ xs))) left s))))

close_none : (n left : ℕ) (text : List ℕ) → nested_at n left (41 ∷ text) ≡ None
unfolding nested_at layer_at atom_at asking_at
close_none zero left text = refl
close_none (suc n) zero text = refl
close_none (suc n) (suc left) text = refl

empty_none : (n left : ℕ) → nested_at n left [] ≡ None
unfolding nested_at layer_at atom_at asking_at
empty_none zero left = refl
empty_none (suc n) zero = refl
empty_none (suc n) (suc left) = refl

some_none : (n m left : ℕ) (text : List ℕ) → nested_at n left text ≡ None → some_asked (nested_at n) m left text ≡ None
unfolding some_asked
some_none n zero left text e = refl
some_none n (suc m) left text e = ap (λ (o : Reading). o >>= λ found. list_end_at found.2 >>= λ end. cond end.0 (Some (found.0 ∷ [], found.1, end.1)) (before found.0 (some_asked (nested_at n) m found.1 end.1))) e

some_is_list : (n left : ℕ) (text : List ℕ) (x : List Condition × ℕ × List ℕ) → some_asked (nested_at n) left left text ≡ Some x → list_asked (nested_at n) left text ≡ Some x
unfolding list_asked
some_is_list n left [] x e = let z = some_none n left left [] (empty_none n left) in absurd cc
some_is_list n left (b ∷ text) x e =
    let no-close : eqb b 41 ≡ false = elim (eqb b 41) as (λ v. eqb b 41 ≡ v → v ≡ false) [
      | true ↦ λ p. let z : some_asked (nested_at n) left left (b ∷ text) ≡ None = some_none n left left (b ∷ text) (ap (λ (k : ℕ). nested_at n left (k ∷ text)) (eqb-true b 41 p) ∙ close_none n left text) in absurd cc
      | false ↦ λ p. refl
    ] refl in
    cond-false _ _ _ no-close ∙ e

list_again : (n left : ℕ) (xs : List Condition) (rest : List ℕ) → Again n → AllByRecursion (IsNested n) xs → sum (map size xs) ≤ left → list_asked (nested_at n) left (joined (map condition_text xs) ++ 41 ∷ rest) ≡ Some (xs, left - sum (map size xs), rest)
unfolding list_asked joined
list_again n left [] rest again all fits = let k : left ≡ left - 0 = omega arith in ap (λ (j : ℕ). Some ([], j, rest)) k
list_again n left (x ∷ xs) rest again all fits =
    some_is_list n left (joined (map condition_text (x ∷ xs)) ++ 41 ∷ rest) (x ∷ xs, left - sum (map size (x ∷ xs)), rest)
    (some_again n left left (x ∷ xs) rest again (omega arith) (omega (arith, length_le_sum (x ∷ xs), fits)) all fits)

-- ---- any condition

abbrev found : Condition → ℕ → List ℕ → Reading
found v k rest = Some (v, k, rest)

-- an atom as it is read
settled : (k : ℕ) (rest : List ℕ) (l : Condition-F Condition) (v : Condition) → roll-Condition l ≡ v → size (roll-Condition l) ≡ 1 → found v k rest ≡ found (roll-Condition l) (suc k - size (roll-Condition l)) rest
settled k rest l v e one = let j : k ≡ suc k - size (roll-Condition l) = omega (arith, one) in (λ i. found (sym e i) (j i) rest)

spelled : (n k : ℕ) (rest t : List ℕ) (l : Condition-F Condition) → condition_text (roll-Condition l) ≡ t → layer_at (nested_at n) k (condition_text (roll-Condition l) ++ rest) ≡ layer_at (nested_at n) k (t ++ rest)
spelled n k rest t l e = ap (λ (s : List ℕ). layer_at (nested_at n) k (s ++ rest)) e

united : (k s : ℕ) (rest : List ℕ) (l : Condition-F Condition) (v : Condition) → roll-Condition l ≡ v → size (roll-Condition l) ≡ s + 1 → found v (k - s) rest ≡ found (roll-Condition l) (suc k - size (roll-Condition l)) rest
united k s rest l v e one = let j : k - s ≡ suc k - size (roll-Condition l) = omega (arith, one) in (λ i. found (sym e i) (j i) rest)

not_again : (n k : ℕ) (x : Condition) (rest : List ℕ) → Again n → IsNested n x → size x ≤ k → not_asked (nested_at n) k (condition_text x ++ 41 ∷ rest) ≡ Some (c.Not x, k - size x, rest)
unfolding not_asked
not_again n k x rest again is fits =
    ap (λ (o : Reading). o >>= λ found. after_byte 41 found.2 >>= λ rest. Some (c.Not found.0, found.1, rest)) (again x k (41 ∷ rest) is fits)
    ∙ ap (λ (o : Option (List ℕ)). o >>= λ rest. Some (c.Not x, k - size x, rest)) (close_again rest)

layer_again : (n k : ℕ) (l : Condition-F Condition) (rest : List ℕ) → Again n → IsLayer (IsNested n) l → size (roll-Condition l) ≤ suc k → layer_at (nested_at n) k (condition_text (roll-Condition l) ++ rest) ≡ Some (roll-Condition l, suc k - size (roll-Condition l), rest)
unfolding layer_at atom_at asking_at layer_text layer_size
layer_again n k Condition-F.Absent rest again is fits = spelled n k rest (codes "absent") Condition-F.Absent (fold-roll-Condition (List ℕ) layer_text Condition-F.Absent) ∙ settled k rest Condition-F.Absent c.Absent rolls-Absent (fold-roll-Condition ℕ layer_size Condition-F.Absent)
layer_again n k Condition-F.Exists rest again is fits = spelled n k rest (codes "exists") Condition-F.Exists (fold-roll-Condition (List ℕ) layer_text Condition-F.Exists) ∙ settled k rest Condition-F.Exists c.Exists rolls-Exists (fold-roll-Condition ℕ layer_size Condition-F.Exists)
layer_again n k Condition-F.Payload rest again is fits = spelled n k rest (codes "payload") Condition-F.Payload (fold-roll-Condition (List ℕ) layer_text Condition-F.Payload) ∙ settled k rest Condition-F.Payload c.Payload rolls-Payload (fold-roll-Condition ℕ layer_size Condition-F.Payload)
layer_again n k Condition-F.Data rest again is fits = spelled n k rest (codes "data") Condition-F.Data (fold-roll-Condition (List ℕ) layer_text Condition-F.Data) ∙ settled k rest Condition-F.Data c.Data rolls-Data (fold-roll-Condition ℕ layer_size Condition-F.Data)
layer_again n k Condition-F.Sproc rest again is fits = spelled n k rest (codes "sproc") Condition-F.Sproc (fold-roll-Condition (List ℕ) layer_text Condition-F.Sproc) ∙ settled k rest Condition-F.Sproc c.Sproc rolls-Sproc (fold-roll-Condition ℕ layer_size Condition-F.Sproc)
layer_again n k (Condition-F.Name g) rest again is fits =
    let l : Condition-F Condition = Condition-F.Name g in
    spelled n k rest (asked_text (codes "name") (glob_text g)) l (fold-roll-Condition (List ℕ) layer_text l)
    ∙ (ap (name_asked k) (append_assoc (glob_text g) (41 ∷ []) rest)
    ∙ (name_asked_again k g rest is ∙ settled k rest l (c.Name g) (rolls-Name g) (fold-roll-Condition ℕ layer_size l)))
layer_again n k (Condition-F.Is r) rest again is fits =
    let l : Condition-F Condition = Condition-F.Is r in
    spelled n k rest (asked_text (codes "is") (rec_text r)) l (fold-roll-Condition (List ℕ) layer_text l)
    ∙ (ap (is_asked k) (append_assoc (rec_text r) (41 ∷ []) rest)
    ∙ (is_asked_again k r rest is ∙ settled k rest l (c.Is r) (rolls-Is r) (fold-roll-Condition ℕ layer_size l)))
layer_again n k (Condition-F.Field key op x) rest again is fits =
    let l : Condition-F Condition = Condition-F.Field key op x in
    spelled n k rest (asked_text (codes "field") (words key op x)) l (fold-roll-Condition (List ℕ) layer_text l)
    ∙ (ap (field_asked k) (append_assoc (words key op x) (41 ∷ []) rest ∙ sym (behind_is key op x rest))
    ∙ (field_asked_again k key op x rest is.0 is.1 ∙ settled k rest l (c.Field key op x) (rolls-Field key op x) (fold-roll-Condition ℕ layer_size l)))
layer_again n k (Condition-F.Pv op m) rest again is fits =
    let l : Condition-F Condition = Condition-F.Pv op m in
    spelled n k rest (asked_text (codes "pv") (number_text op m)) l (fold-roll-Condition (List ℕ) layer_text l)
    ∙ (ap (λ (t : List ℕ). comparing c.Pv k (number_asked t)) (append_assoc (number_text op m) (41 ∷ []) rest ∙ append_assoc (compare_text op) (44 ∷ decimal m) (41 ∷ rest))
    ∙ (ap (comparing c.Pv k) (number_asked_again op m rest is) ∙ settled k rest l (c.Pv op m) (rolls-Pv op m) (fold-roll-Condition ℕ layer_size l)))
layer_again n k (Condition-F.Cv op m) rest again is fits =
    let l : Condition-F Condition = Condition-F.Cv op m in
    spelled n k rest (asked_text (codes "cv") (number_text op m)) l (fold-roll-Condition (List ℕ) layer_text l)
    ∙ (ap (λ (t : List ℕ). comparing c.Cv k (number_asked t)) (append_assoc (number_text op m) (41 ∷ []) rest ∙ append_assoc (compare_text op) (44 ∷ decimal m) (41 ∷ rest))
    ∙ (ap (comparing c.Cv k) (number_asked_again op m rest is) ∙ settled k rest l (c.Cv op m) (rolls-Cv op m) (fold-roll-Condition ℕ layer_size l)))
layer_again n k (Condition-F.Kids op m) rest again is fits =
    let l : Condition-F Condition = Condition-F.Kids op m in
    spelled n k rest (asked_text (codes "kids") (number_text op m)) l (fold-roll-Condition (List ℕ) layer_text l)
    ∙ (ap (λ (t : List ℕ). comparing c.Kids k (number_asked t)) (append_assoc (number_text op m) (41 ∷ []) rest ∙ append_assoc (compare_text op) (44 ∷ decimal m) (41 ∷ rest))
    ∙ (ap (comparing c.Kids k) (number_asked_again op m rest is) ∙ settled k rest l (c.Kids op m) (rolls-Kids op m) (fold-roll-Condition ℕ layer_size l)))
layer_again n k (Condition-F.Not x) rest again is fits =
    let l : Condition-F Condition = Condition-F.Not x in
    let s : size (roll-Condition l) ≡ size x + 1 = fold-roll-Condition ℕ layer_size l in
    spelled n k rest (asked_text (codes "not") (condition_text x)) l (fold-roll-Condition (List ℕ) layer_text l)
    ∙ (ap (not_asked (nested_at n) k) (append_assoc (condition_text x) (41 ∷ []) rest)
    ∙ (not_again n k x rest again is (omega (arith, s, fits))
    ∙ united k (size x) rest l (c.Not x) (rolls-Not x) s))
layer_again n k (Condition-F.All xs) rest again is fits =
    let l : Condition-F Condition = Condition-F.All xs in
    let s : size (roll-Condition l) ≡ sum (map size xs) + 1 = fold-roll-Condition ℕ layer_size l in
    spelled n k rest (asked_text (codes "all") (joined (map condition_text xs))) l (fold-roll-Condition (List ℕ) layer_text l)
    ∙ (ap (λ (t : List ℕ). uniting c.All (list_asked (nested_at n) k t)) (append_assoc (joined (map condition_text xs)) (41 ∷ []) rest)
    ∙ (ap (uniting c.All) (list_again n k xs rest again is (omega (arith, s, fits)))
    ∙ united k (sum (map size xs)) rest l (c.All xs) (rolls-All xs) s))
layer_again n k (Condition-F.Any xs) rest again is fits =
    let l : Condition-F Condition = Condition-F.Any xs in
    let s : size (roll-Condition l) ≡ sum (map size xs) + 1 = fold-roll-Condition ℕ layer_size l in
    spelled n k rest (asked_text (codes "any") (joined (map condition_text xs))) l (fold-roll-Condition (List ℕ) layer_text l)
    ∙ (ap (λ (t : List ℕ). uniting c.Any (list_asked (nested_at n) k t)) (append_assoc (joined (map condition_text xs)) (41 ∷ []) rest)
    ∙ (ap (uniting c.Any) (list_again n k xs rest again is (omega (arith, s, fits)))
    ∙ united k (sum (map size xs)) rest l (c.Any xs) (rolls-Any xs) s))

pub nested_again : (n : ℕ) → Again n
unfolding nested_at
nested_again zero x left rest is fits = absurd is
nested_again (suc n) x zero rest is fits = absurd (omega (arith, size_some x, fits))
nested_again (suc n) x (suc k) rest is fits =
    subst (λ (y : Condition). size y ≤ suc k → layer_at (nested_at n) k (condition_text y ++ rest) ≡ Some (y, suc k - size y, rest)) (roll-out-Condition x)
    (layer_again n k (out-Condition x) rest (λ y l r s f. nested_again n y l r s f) is) fits
