-- Turns of the loop over the statements of a block.
use Rattle.std.proofs.Common.{◌≡◌, ℕ, zero, suc, ◌+◌, ◌-◌, ◌<◌, Bool, true, false, cond, List, [], ◌∷◌, ◌++◌, length, refl, sym, ap, ◌∙◌, append_assoc, arith, Option, Some, None}
use Rattle.std.proofs.lemmas.List.{length-append}
use Rattle.khepri_terms.specs.Many.{◌>>=◌}
use Rattle.khepri_types.specs.Items.{Item, turn_at, first_of, some_items}

-- what a reading of a list gives
abbrev pub Listed : Type 0 → Type 0
Listed A = Option (List A × ℕ × List ℕ)

-- items that were read before a reading that may fail
abbrev pub past : {A : Type 0} → List A → Listed A → Listed A
past xs None = None
past xs (Some x) = Some (xs ++ x.0, x.1, x.2)

past_none : {A : Type 0} (xs : List A) (o : Listed A) → o ≡ None → past xs o ≡ None
past_none xs o e = ap (past xs) e

past_first : {A : Type 0} (xs : List A) (x : A) (o : Listed A) → past xs (first_of x o) ≡ past (xs ++ x ∷ []) o
past_first xs x None = refl
past_first {A = A} xs x (Some y) = ap (λ (ys : List A). Some (ys, y.1, y.2)) (sym (append_assoc xs (x ∷ []) y.0))

-- what follows an item that was read
abbrev follows : {A : Type 0} → ℕ → Item A → ℕ → A × ℕ × List ℕ → Option (Bool × List ℕ) → Listed A
follows close item n x end = end >>= λ end. cond end.0 (Some (x.0 ∷ [], x.1, end.1)) (first_of x.0 (some_items close item n x.1 end.1))

-- one turn of the reading
turn : {A : Type 0} (close : ℕ) (item : Item A) (m n left more : ℕ) (text after rest : List ℕ) (x : A) (last : Bool) → m ≡ suc n → item left text ≡ Some (x, more, after) → turn_at close after ≡ Some (last, rest)
    → some_items close item m left text ≡ cond last (Some (x ∷ [], more, rest)) (first_of x (some_items close item n more rest))
unfolding some_items
turn {A = A} close item m n left more text after rest x last s e f =
    ap (λ (k : ℕ). some_items close item k left text) s
    ∙ (ap (λ (o : Option (A × ℕ × List ℕ)). o >>= λ found. follows close item n found (turn_at close found.2)) e
    ∙ ap (λ (o : Option (Bool × List ℕ)). follows close item n (x, more, after) o) f)

at_zero : {A : Type 0} (close : ℕ) (item : Item A) (left : ℕ) (text : List ℕ) → some_items close item 0 left text ≡ None
unfolding some_items
at_zero close item left text = refl

pub items_past : {A : Type 0} (close : ℕ) (item : Item A) (m left : ℕ) (text : List ℕ) → m ≡ 0 → some_items close item m left text ≡ None
items_past close item m left text e = ap (λ (k : ℕ). some_items close item k left text) e ∙ at_zero close item left text

pub items_none : {A : Type 0} (close : ℕ) (item : Item A) (m left : ℕ) (text : List ℕ) → item left text ≡ None → some_items close item m left text ≡ None
unfolding some_items
items_none close item zero left text e = refl
items_none {A = A} close item (suc m) left text e = ap (λ (o : Option (A × ℕ × List ℕ)). o >>= λ found. follows close item m found (turn_at close found.2)) e

pub items_odd : {A : Type 0} (close : ℕ) (item : Item A) (m left more : ℕ) (text after : List ℕ) (x : A) → item left text ≡ Some (x, more, after) → turn_at close after ≡ None → some_items close item m left text ≡ None
unfolding some_items
items_odd close item zero left more text after x e f = refl
items_odd {A = A} close item (suc m) left more text after x e f =
    ap (λ (o : Option (A × ℕ × List ℕ)). o >>= λ found. follows close item m found (turn_at close found.2)) e
    ∙ ap (λ (o : Option (Bool × List ℕ)). follows close item m (x, more, after) o) f

-- a turn that reads the last item
pub items_last : {A : Type 0} (close : ℕ) (item : Item A) (total : Listed A) (most left more : ℕ) (xs ys : List A) (x : A) (text after rest : List ℕ) → length xs < most → item left text ≡ Some (x, more, after)
    → turn_at close after ≡ Some (true, rest) → ys ≡ xs ++ x ∷ [] → total ≡ past xs (some_items close item (most - length xs) left text) → total ≡ Some (ys, more, rest)
items_last {A = A} close item total most left more xs ys x text after rest lt e f g so_far =
    so_far
    ∙ (ap (past xs) (turn close item (most - length xs) (most - (length xs + 1)) left more text after rest x true (omega arith) e f)
    ∙ ap (λ (zs : List A). Some (zs, more, rest)) (sym g))

-- a turn that goes on
pub items_on : {A : Type 0} (close : ℕ) (item : Item A) (total : Listed A) (most left more : ℕ) (xs ys : List A) (x : A) (text after rest : List ℕ) → length xs < most → item left text ≡ Some (x, more, after)
    → turn_at close after ≡ Some (false, rest) → ys ≡ xs ++ x ∷ [] → total ≡ past xs (some_items close item (most - length xs) left text) → total ≡ past ys (some_items close item (most - length ys) more rest)
items_on {A = A} close item total most left more xs ys x text after rest lt e f g so_far =
    let len : length (xs ++ x ∷ []) ≡ length xs + 1 = length-append xs (x ∷ []) in
    let k : most - (length xs + 1) ≡ most - length ys = ap (λ (n : ℕ). most - n) (sym (ap length g ∙ len)) in
    so_far
    ∙ (ap (past xs) (turn close item (most - length xs) (most - (length xs + 1)) left more text after rest x false (omega arith) e f)
    ∙ (past_first xs x (some_items close item (most - (length xs + 1)) more rest)
    ∙ (ap (λ (zs : List A). past zs (some_items close item (most - (length xs + 1)) more rest)) (sym g) ∙ ap (λ (n : ℕ). past ys (some_items close item n more rest)) k)))

-- the loop ends without a list
pub items_fail : {A : Type 0} (total found : Listed A) (xs : List A) → found ≡ None → total ≡ past xs found → total ≡ None
items_fail total found xs none so_far = so_far ∙ past_none xs found none
