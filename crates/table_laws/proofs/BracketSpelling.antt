-- What is read of lists is spelled so, and what is spelled so is read, where that holds of their items.
use Rattle.std.proofs.Common.{◌≡◌, ℕ, zero, suc, ◌-◌, ◌<◌, ◌≤◌, Bool, true, false, cond, eqb, List, [], ◌∷◌, ◌++◌, length, refl, sym, ap, subst, ◌∙◌, append_assoc, arith, ⊎_elim, Option, Some, None}
use Rattle.std.specs.List.{AllByRecursion}
use Rattle.std.proofs.lemmas.Bool.{eqb-true, cond-false}
use Rattle.khepri_terms.specs.Many.{◌>>=◌, onto}
use Rattle.khepri_terms.proofs.Cases.{bind_some, if_some, guard_some, some_is, some_not_none}
use Rattle.khepri_types.specs.Lists.{items_text, list_text, onto_read, sign_at, items_at, inside_at, list_at, some_list_at}

-- the byte behind an item
unfoldable pub sign : Bool → ℕ
sign true = 93
sign false = 44

sign_takes : (text : List ℕ) (x : Bool × List ℕ) → sign_at text ≡ Some x → text ≡ sign x.0 ∷ x.1
unfolding sign_at sign
sign_takes [] x e = absurd cc
sign_takes (b ∷ text) x e = ⊎_elim
    (λ (p : (eqb b 93 ≡ true) × (Some (true, text) ≡ Some x)). subst (λ (y : Bool × List ℕ). b ∷ text ≡ sign y.0 ∷ y.1) (some_is (true, text) x p.1) (ap (λ (c : ℕ). c ∷ text) (eqb-true b 93 p.0)))
    (λ (p : (eqb b 93 ≡ false) × (cond (eqb b 44) (Some (false, text)) None ≡ Some x)).
    let q = guard_some (eqb b 44) (Some (false, text)) x p.1 in
    subst (λ (y : Bool × List ℕ). b ∷ text ≡ sign y.0 ∷ y.1) (some_is (false, text) x q.1) (ap (λ (c : ℕ). c ∷ text) (eqb-true b 44 q.0)))
    (if_some (eqb b 93) (Some (true, text)) (cond (eqb b 44) (Some (false, text)) None) x e)

sign_again : (last : Bool) (rest : List ℕ) → sign_at (sign last ∷ rest) ≡ Some (last, rest)
unfolding sign_at sign
sign_again true rest = refl
sign_again false rest = refl

module _ {X : Type 0} (text_of : X → List ℕ) (item : List ℕ → Option (X × List ℕ)) (Is : X → Type 0) where
  text-one : (x : X) → items_text text_of (x ∷ []) ≡ text_of x
  unfolding items_text
  text-one x = refl

  text-more : (x : X) (xs : List X) → 0 < length xs → items_text text_of (x ∷ xs) ≡ text_of x ++ 44 ∷ items_text text_of xs
  unfolding items_text
  text-more x [] lt = absurd (omega arith)
  text-more x (y ∷ xs) lt = refl

  -- ---- what is read is spelled so

  pub record Read (n : ℕ) (text : List ℕ) (found : List X × List ℕ) : Type 0 where
    pub parts : text ≡ items_text text_of found.0 ++ 93 ∷ found.1
    pub all : AllByRecursion Is found.0
    pub few : length found.0 ≤ n
    pub some : 0 < length found.0

  found_takes : (x : X) (o : Option (List X × List ℕ)) (found : List X × List ℕ) → onto_read x o ≡ Some found → (y : List X × List ℕ) × (o ≡ Some y) × (onto x y ≡ found)
  found_takes x None found e = absurd cc
  found_takes x (Some y) found e = (y, refl, some_is (onto x y) found e)

  one_read : (n : ℕ) (text after rest : List ℕ) (x : X) → text ≡ text_of x ++ after → after ≡ 93 ∷ rest → Is x → Read (suc n) text (x ∷ [], rest)
  one_read n text after rest x e a is =
      record { parts = e ∙ (ap (λ (t : List ℕ). text_of x ++ t) a ∙ ap (λ (t : List ℕ). t ++ 93 ∷ rest) (sym (text-one x))); all = (is, tt); few = omega arith; some = omega arith }

  more_read : (n : ℕ) (text after rest : List ℕ) (x : X) (y : List X × List ℕ) → text ≡ text_of x ++ after → after ≡ 44 ∷ rest → Is x → Read n rest y → Read (suc n) text (onto x y)
  more_read n text after rest x y e a is r =
      record {
        parts = e ∙ (ap (λ (t : List ℕ). text_of x ++ t) (a ∙ ap (λ (t : List ℕ). 44 ∷ t) r.parts)
            ∙ (sym (append_assoc (text_of x) (44 ∷ items_text text_of y.0) (93 ∷ y.1)) ∙ ap (λ (t : List ℕ). t ++ 93 ∷ y.1) (sym (text-more x y.0 r.some))));
        all = (is, r.all);
        few = omega (arith, r.few);
        some = omega arith;
      }

  module _ (takes : (text : List ℕ) (x : X × List ℕ) → item text ≡ Some x → (text ≡ text_of x.0 ++ x.1) × Is x.0) where
    pub items_take : (n : ℕ) (text : List ℕ) (found : List X × List ℕ) → items_at item n text ≡ Some found → Read n text found
    unfolding items_at sign
    items_take zero text found e = absurd cc
    items_take (suc n) text found e =
        let a = bind_some (item text) (λ x. sign_at x.1 >>= λ s. cond s.0 (Some (x.0 ∷ [], s.1)) (onto_read x.0 (items_at item n s.1))) found e in
        let x = a.0.0 in
        let b = bind_some (sign_at a.0.1) (λ s. cond s.0 (Some (x ∷ [], s.1)) (onto_read x (items_at item n s.1))) found a.2 in
        let t = takes text a.0 a.1 in
        let s = sign_takes a.0.1 b.0 b.1 in
        ⊎_elim
        (λ (p : (b.0.0 ≡ true) × (Some (x ∷ [], b.0.1) ≡ Some found)).
        subst (Read (suc n) text) (some_is (x ∷ [], b.0.1) found p.1) (one_read n text a.0.1 b.0.1 x t.0 (s ∙ ap (λ (l : Bool). sign l ∷ b.0.1) p.0) t.1))
        (λ (p : (b.0.0 ≡ false) × (onto_read x (items_at item n b.0.1) ≡ Some found)).
        let j = found_takes x (items_at item n b.0.1) found p.1 in
        subst (Read (suc n) text) j.2 (more_read n text a.0.1 b.0.1 x j.0 t.0 (s ∙ ap (λ (l : Bool). sign l ∷ b.0.1) p.0) t.1 (items_take n b.0.1 j.0 j.1)))
        (if_some b.0.0 (Some (x ∷ [], b.0.1)) (onto_read x (items_at item n b.0.1)) found b.2)

    -- what is behind a `[`
    opened : (xs : List X) (text rest : List ℕ) → text ≡ items_text text_of xs ++ 93 ∷ rest → 91 ∷ text ≡ list_text text_of xs ++ rest
    unfolding list_text
    opened xs text rest e = ap (λ (t : List ℕ). 91 ∷ t) (e ∙ sym (append_assoc (items_text text_of xs) (93 ∷ []) rest))

    inside_take : (n : ℕ) (text : List ℕ) (found : List X × List ℕ) → inside_at item n text ≡ Some found → (91 ∷ text ≡ list_text text_of found.0 ++ found.1) × AllByRecursion Is found.0 × (length found.0 ≤ n)
    unfolding inside_at items_text
    inside_take n [] found e = absurd cc
    inside_take n (b ∷ text) found e =
        ⊎_elim
        (λ (p : (eqb b 93 ≡ true) × (Some ([], text) ≡ Some found)).
        subst (λ (y : List X × List ℕ). (91 ∷ b ∷ text ≡ list_text text_of y.0 ++ y.1) × AllByRecursion Is y.0 × (length y.0 ≤ n)) (some_is ([], text) found p.1)
        (opened [] (b ∷ text) text (ap (λ (c : ℕ). c ∷ text) (eqb-true b 93 p.0)), tt, omega arith))
        (λ (p : (eqb b 93 ≡ false) × (items_at item n (b ∷ text) ≡ Some found)).
        let r = items_take n (b ∷ text) found p.1 in
        (opened found.0 (b ∷ text) found.1 r.parts, r.all, r.few))
        (if_some (eqb b 93) (Some ([], text)) (items_at item n (b ∷ text)) found e)

    pub list_takes : (n : ℕ) (text : List ℕ) (found : List X × List ℕ) → list_at item n text ≡ Some found → (text ≡ list_text text_of found.0 ++ found.1) × AllByRecursion Is found.0 × (length found.0 ≤ n)
    unfolding list_at
    list_takes n [] found e = absurd cc
    list_takes n (b ∷ text) found e =
        let g = guard_some (eqb b 91) (inside_at item n text) found e in
        let r = inside_take n text found g.1 in
        (ap (λ (c : ℕ). c ∷ text) (eqb-true b 91 g.0) ∙ r.0, r.1, r.2)

    pub some_list_takes : (n : ℕ) (text : List ℕ) (found : List X × List ℕ) → some_list_at item n text ≡ Some found → (text ≡ list_text text_of found.0 ++ found.1) × AllByRecursion Is found.0 × (length found.0 ≤ n) × (0 < length found.0)
    unfolding some_list_at
    some_list_takes n [] found e = absurd cc
    some_list_takes n (b ∷ text) found e =
        let g = guard_some (eqb b 91) (items_at item n text) found e in
        let r = items_take n text found g.1 in
        (ap (λ (c : ℕ). c ∷ text) (eqb-true b 91 g.0) ∙ opened found.0 text found.1 r.parts, r.all, r.few, r.some)

  -- ---- what is spelled so is read

  module _ (again : (x : X) (last : Bool) (rest : List ℕ) → Is x → item (text_of x ++ sign last ∷ rest) ≡ Some (x, sign last ∷ rest)) where
    step : (n m : ℕ) (x : X) (last : Bool) (rest : List ℕ) → n ≡ suc m → Is x
        → items_at item n (text_of x ++ sign last ∷ rest) ≡ cond last (Some (x ∷ [], rest)) (onto_read x (items_at item m rest))
    unfolding items_at
    step n m x last rest is-suc is =
        ap (λ (k : ℕ). items_at item k (text_of x ++ sign last ∷ rest)) is-suc
        ∙ (ap (λ (o : Option (X × List ℕ)). o >>= λ x. sign_at x.1 >>= λ s. cond s.0 (Some (x.0 ∷ [], s.1)) (onto_read x.0 (items_at item m s.1))) (again x last rest is)
        ∙ ap (λ (o : Option (Bool × List ℕ)). o >>= λ s. cond s.0 (Some (x ∷ [], s.1)) (onto_read x (items_at item m s.1))) (sign_again last rest))

    pub items_again : (xs : List X) (n : ℕ) (rest : List ℕ) → 0 < length xs → length xs ≤ n → AllByRecursion Is xs → items_at item n (items_text text_of xs ++ 93 ∷ rest) ≡ Some (xs, rest)
    unfolding sign
    items_again [] n rest lt le all = absurd (omega arith)
    items_again (x ∷ []) n rest lt le all =
        ap (λ (t : List ℕ). items_at item n (t ++ 93 ∷ rest)) (text-one x) ∙ step n (n - 1) x true rest (omega arith) all.0
    items_again (x ∷ y ∷ xs) n rest lt le all =
        let later : List ℕ = items_text text_of (y ∷ xs) ++ 93 ∷ rest in
        ap (λ (t : List ℕ). items_at item n (t ++ 93 ∷ rest)) (text-more x (y ∷ xs) (omega arith))
        ∙ (ap (items_at item n) (append_assoc (text_of x) (44 ∷ items_text text_of (y ∷ xs)) (93 ∷ rest))
        ∙ (step n (n - 1) x false later (omega arith) all.0
        ∙ ap (onto_read x) (items_again (y ∷ xs) (n - 1) rest (omega arith) (omega arith) all.1)))

    pub some_list_again : (xs : List X) (n : ℕ) (rest : List ℕ) → 0 < length xs → length xs ≤ n → AllByRecursion Is xs → some_list_at item n (list_text text_of xs ++ rest) ≡ Some (xs, rest)
    unfolding some_list_at list_text
    some_list_again xs n rest lt le all = ap (items_at item n) (append_assoc (items_text text_of xs) (93 ∷ []) rest) ∙ items_again xs n rest lt le all

    -- a text that begins with an item does not begin with `]`
    module _ (nothing : item [] ≡ None) (closed : (t : List ℕ) → item (93 ∷ t) ≡ None) where
      goes_in : (n : ℕ) (text : List ℕ) (y : X × List ℕ) → item text ≡ Some y → inside_at item n text ≡ items_at item n text
      unfolding inside_at
      goes_in n [] y e = absurd (some_not_none y (sym e ∙ nothing))
      goes_in n (b ∷ text) y e =
          let stays : eqb b 93 ≡ false = elim (eqb b 93) as (λ v. eqb b 93 ≡ v → v ≡ false) [
            | true ↦ λ p. absurd (some_not_none y (sym e ∙ (ap (λ (k : ℕ). item (k ∷ text)) (eqb-true b 93 p) ∙ closed text)))
            | false ↦ λ p. refl
          ] refl in
          cond-false _ _ _ stays

      begun : (x : X) (xs : List X) (rest : List ℕ) → Is x → (y : X × List ℕ) × (item (items_text text_of (x ∷ xs) ++ 93 ∷ rest) ≡ Some y)
      unfolding items_text sign
      begun x [] rest is = ((x, 93 ∷ rest), again x true rest is)
      begun x (y ∷ xs) rest is =
          let later : List ℕ = items_text text_of (y ∷ xs) ++ 93 ∷ rest in
          ((x, 44 ∷ later), ap item (append_assoc (text_of x) (44 ∷ items_text text_of (y ∷ xs)) (93 ∷ rest)) ∙ again x false later is)

      pub list_again : (xs : List X) (n : ℕ) (rest : List ℕ) → length xs ≤ n → AllByRecursion Is xs → list_at item n (list_text text_of xs ++ rest) ≡ Some (xs, rest)
      unfolding list_at list_text items_text inside_at
      list_again [] n rest le all = refl
      list_again (x ∷ xs) n rest le all =
          let f = begun x xs rest all.0 in
          ap (inside_at item n) (append_assoc (items_text text_of (x ∷ xs)) (93 ∷ []) rest)
          ∙ (goes_in n (items_text text_of (x ∷ xs) ++ 93 ∷ rest) f.0 f.1
          ∙ items_again (x ∷ xs) n rest (omega arith) le all)
