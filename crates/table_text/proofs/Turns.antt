-- Turns of the loop that reads a list.
use Rattle.std.proofs.Common.{◌≡◌, ℕ, zero, suc, ◌+◌, ◌-◌, ◌<◌, Bool, true, false, cond, List, [], ◌∷◌, ◌++◌, length, refl, sym, ap, ◌∙◌, append_assoc, arith, Option, Some, None}
use Rattle.std.proofs.lemmas.List.{length-append}
use Rattle.khepri_terms.specs.Many.{◌>>=◌}
use Rattle.khepri_terms.proofs.Reading.{beyond}
use Rattle.khepri_types.specs.Lists.{onto_read, sign_at, items_at}

module _ {X : Type 0} (item : List ℕ → Option (X × List ℕ)) where
  abbrev ending : ℕ → X → Bool × List ℕ → Option (List X × List ℕ)
  ending n x s = cond s.0 (Some (x ∷ [], s.1)) (onto_read x (items_at item n s.1))

  abbrev behind : ℕ → X × List ℕ → Option (List X × List ℕ)
  behind n x = sign_at x.1 >>= λ s. ending n x.0 s

  -- the step of the definition
  step : (n : ℕ) (text : List ℕ) → items_at item (suc n) text ≡ (item text >>= λ x. behind n x)
  unfolding items_at
  step n text = refl

  at_zero : (text : List ℕ) → items_at item 0 text ≡ None
  unfolding items_at
  at_zero text = refl

  turn : (m n : ℕ) (x : X) (last : Bool) (text after rest : List ℕ) → m ≡ suc n → item text ≡ Some (x, after) → sign_at after ≡ Some (last, rest)
      → items_at item m text ≡ cond last (Some (x ∷ [], rest)) (onto_read x (items_at item n rest))
  turn m n x last text after rest e found end =
      ap (λ (k : ℕ). items_at item k text) e
      ∙ (step n text
      ∙ (ap (λ (o : Option (X × List ℕ)). o >>= λ y. behind n y) found
      ∙ ap (λ (o : Option (Bool × List ℕ)). o >>= λ s. ending n x s) end))

  pub items_none : (m : ℕ) (text : List ℕ) → item text ≡ None → items_at item m text ≡ None
  items_none zero text none = at_zero text
  items_none (suc n) text none = step n text ∙ ap (λ (o : Option (X × List ℕ)). o >>= λ y. behind n y) none

  pub items_odd : (m : ℕ) (x : X) (text after : List ℕ) → item text ≡ Some (x, after) → sign_at after ≡ None → items_at item m text ≡ None
  items_odd zero x text after found none = at_zero text
  items_odd (suc n) x text after found none =
      step n text ∙ (ap (λ (o : Option (X × List ℕ)). o >>= λ y. behind n y) found ∙ ap (λ (o : Option (Bool × List ℕ)). o >>= λ s. ending n x s) none)

  pub items_past : (m : ℕ) (text : List ℕ) → m ≡ 0 → items_at item m text ≡ None
  items_past m text e = ap (λ (k : ℕ). items_at item k text) e ∙ at_zero text

  beyond_read : (xs : List X) (x : X) (o : Option (List X × List ℕ)) → beyond xs (onto_read x o) ≡ beyond (xs ++ x ∷ []) o
  beyond_read xs x None = refl
  beyond_read xs x (Some y) = ap (λ (ys : List X). Some (ys, y.1)) (sym (append_assoc xs (x ∷ []) y.0))

  -- a turn that reads the last item
  pub items_last : (total : Option (List X × List ℕ)) (most : ℕ) (xs ys : List X) (x : X) (text after rest : List ℕ) → length xs < most → item text ≡ Some (x, after) → sign_at after ≡ Some (true, rest) → ys ≡ xs ++ x ∷ []
      → total ≡ beyond xs (items_at item (most - length xs) text) → total ≡ Some (ys, rest)
  items_last total most xs ys x text after rest lt found end e so_far =
      so_far
      ∙ (ap (beyond xs) (turn (most - length xs) (most - (length xs + 1)) x true text after rest (omega arith) found end)
      ∙ ap (λ (zs : List X). Some (zs, rest)) (sym e))

  -- a turn that goes on
  pub items_on : (total : Option (List X × List ℕ)) (most : ℕ) (xs ys : List X) (x : X) (text after rest : List ℕ) → length xs < most → item text ≡ Some (x, after) → sign_at after ≡ Some (false, rest) → ys ≡ xs ++ x ∷ []
      → total ≡ beyond xs (items_at item (most - length xs) text) → total ≡ beyond ys (items_at item (most - length ys) rest)
  items_on total most xs ys x text after rest lt found end e so_far =
      let len : length (xs ++ x ∷ []) ≡ length xs + 1 = length-append xs (x ∷ []) in
      let k : most - (length xs + 1) ≡ most - length ys = ap (λ (n : ℕ). most - n) (sym (ap length e ∙ len)) in
      so_far
      ∙ (ap (beyond xs) (turn (most - length xs) (most - (length xs + 1)) x false text after rest (omega arith) found end)
      ∙ (beyond_read xs x (items_at item (most - (length xs + 1)) rest)
      ∙ (ap (λ (zs : List X). beyond zs (items_at item (most - (length xs + 1)) rest)) (sym e) ∙ ap (λ (n : ℕ). beyond ys (items_at item n rest)) k)))

  -- the loop ends without a list
  pub items_fail : (total found : Option (List X × List ℕ)) (xs : List X) → found ≡ None → total ≡ beyond xs found → total ≡ None
  items_fail total found xs none so_far = so_far ∙ ap (λ (o : Option (List X × List ℕ)). beyond xs o) none
