-- What is read part after part is spelled so, and what is spelled so is read again.
use Rattle.std.proofs.Common.{◌≡◌, ◌⊎◌, inl, inr, ⊎_elim, ℕ, zero, suc, ◌+◌, ◌<◌, ◌≤◌, Bool, true, false, cond, eqb, List, [], ◌∷◌, ◌++◌, length, refl, sym, ap, subst, ◌∙◌, append_assoc, map, sum, arith, Option, Some, None}
use Rattle.std.proofs.lemmas.Bool.{eqb-true, cond-false, cond-true}
use Rattle.std.proofs.lemmas.List.Sums.{sum_by-cons}
use Rattle.std.specs.List.{AllByRecursion}
use Rattle.khepri_terms.specs.Many.{◌>>=◌}
use Rattle.khepri_terms.proofs.Cases.{bind_some, if_some, guard_some, some_is}
use Rattle.khepri_types.specs.Items.{Item, kept, uncounted, ended, followed, made, or_read, turn_at, first_of, some_items, items_at, behind}
use Rattle.khepri_types.specs.ReadingConditions.{after_byte}
use Rattle.khepri_types.specs.ScriptTexts.{block_joined}
use Rattle.khepri_types.proofs.Word.{after_byte-takes}

-- what may stand behind anything
abbrev pub Anything : List ℕ → Type 0
Anything rest = Unit {0}

-- what was read and is spelled so
abbrev pub Was : {A : Type 0} → (A → List ℕ) → (A → ℕ) → (A → Type 0) → ℕ → List ℕ → A × ℕ × List ℕ → Type 0
Was text size Is left t x = (t ≡ text x.0 ++ x.2) × Is x.0 × (size x.0 + x.1 ≡ left)

-- a reading and a spelling that go together: what is read is spelled so, and it is read again where what follows is fine
pub record Spells {A : Type 0} (item : Item A) (text : A → List ℕ) (size : A → ℕ) (Is : A → Type 0) (Fine : List ℕ → Type 0) : Type 0 where
  pub takes : (left : ℕ) (t : List ℕ) (x : A × ℕ × List ℕ) → item left t ≡ Some x → Was text size Is left t x
  pub again : (x : A) (left more : ℕ) (rest : List ℕ) → Is x → Fine rest → size x + more ≡ left → item left (text x ++ rest) ≡ Some (x, more, rest)

-- the same of a reading that counts nothing
pub record Plainly {A : Type 0} (item : List ℕ → Option (A × List ℕ)) (text : A → List ℕ) (Is : A → Type 0) (Fine : List ℕ → Type 0) : Type 0 where
  pub takes : (t : List ℕ) (x : A × List ℕ) → item t ≡ Some x → (t ≡ text x.0 ++ x.1) × Is x.0
  pub again : (x : A) (rest : List ℕ) → Is x → Fine rest → item (text x ++ rest) ≡ Some (x, rest)

-- it counts for nothing
abbrev pub nothing : {A : Type 0} → A → ℕ
nothing x = 0

after_again : (b : ℕ) (rest : List ℕ) → eqb b b ≡ true → after_byte b (b ∷ rest) ≡ Some rest
unfolding after_byte
after_again b rest e = cond-true (eqb b b) (Some rest) None e

kept_is : {A : Type 0} (left : ℕ) (o : Option (A × List ℕ)) (x : A × ℕ × List ℕ) → kept left o ≡ Some x → (y : A × List ℕ) × (o ≡ Some y) × ((y.0, left, y.1) ≡ x)
kept_is left None x e = absurd cc
kept_is left (Some y) x e = (y, refl, some_is (y.0, left, y.1) x e)

pub uncounted_spells : {A : Type 0} (item : List ℕ → Option (A × List ℕ)) (text : A → List ℕ) (Is : A → Type 0) (Fine : List ℕ → Type 0) → Plainly item text Is Fine → Spells (uncounted item) text nothing Is Fine
uncounted_spells {A = A} item text Is Fine p = record {
  takes = λ left t x e.
      let k = kept_is left (item t) x e in
      let w = p.takes t k.0 k.1 in
      subst (Was text nothing Is left t) k.2 (w.0, w.1, omega arith);
  again = λ x left more rest is fine s.
      let m : left ≡ more = omega (arith, s) in
      ap (kept left) (p.again x rest is fine) ∙ ap (λ (n : ℕ). Some (x, n, rest)) m;
}

pub ended_spells : {A : Type 0} (b : ℕ) (item : Item A) (text : A → List ℕ) (size : A → ℕ) (Is : A → Type 0) (Fine : List ℕ → Type 0) → eqb b b ≡ true → ((rest : List ℕ) → Fine (b ∷ rest)) → Spells item text size Is Fine
    → Spells (ended b item) (λ x. text x ++ b ∷ []) size Is Anything
ended_spells {A = A} b item text size Is Fine same fine s = record {
  takes = λ left t x e.
      let a = bind_some (item left t) (λ x. after_byte b x.2 >>= λ rest. Some (x.0, x.1, rest)) x e in
      let r = bind_some (after_byte b a.0.2) (λ rest. Some (a.0.0, a.0.1, rest)) x a.2 in
      let w = s.takes left t a.0 a.1 in
      let parts : t ≡ (text a.0.0 ++ b ∷ []) ++ r.0 = w.0 ∙ (ap (λ (u : List ℕ). text a.0.0 ++ u) (after_byte-takes b a.0.2 r.0 r.1) ∙ sym (append_assoc (text a.0.0) (b ∷ []) r.0)) in
      subst (Was (λ x. text x ++ b ∷ []) size Is left t) (some_is (a.0.0, a.0.1, r.0) x r.2) (parts, w.1, w.2);
  again = λ x left more rest is any sum.
      ap (ended b item left) (append_assoc (text x) (b ∷ []) rest)
      ∙ (ap (λ (o : Option (A × ℕ × List ℕ)). o >>= λ x. after_byte b x.2 >>= λ rest. Some (x.0, x.1, rest)) (s.again x left more (b ∷ rest) is (fine rest) sum)
      ∙ ap (λ (o : Option (List ℕ)). o >>= λ rest. Some (x, more, rest)) (after_again b rest same));
}

pub followed_spells : {A B : Type 0} (first : Item A) (second : Item B) (ta : A → List ℕ) (tb : B → List ℕ) (sa : A → ℕ) (sb : B → ℕ) (Ia : A → Type 0) (Ib : B → Type 0) (Fine : List ℕ → Type 0)
    → Spells first ta sa Ia Anything → Spells second tb sb Ib Fine → Spells (followed first second) (λ x. ta x.0 ++ tb x.1) (λ x. sa x.0 + sb x.1) (λ x. Ia x.0 × Ib x.1) Fine
followed_spells {A = A} {B = B} first second ta tb sa sb Ia Ib Fine f s = record {
  takes = λ left t x e.
      let a = bind_some (first left t) (λ x. second x.1 x.2 >>= λ y. Some ((x.0, y.0), y.1, y.2)) x e in
      let b = bind_some (second a.0.1 a.0.2) (λ y. Some ((a.0.0, y.0), y.1, y.2)) x a.2 in
      let u = f.takes left t a.0 a.1 in
      let v = s.takes a.0.1 a.0.2 b.0 b.1 in
      let parts : t ≡ (ta a.0.0 ++ tb b.0.0) ++ b.0.2 = u.0 ∙ (ap (λ (r : List ℕ). ta a.0.0 ++ r) v.0 ∙ sym (append_assoc (ta a.0.0) (tb b.0.0) b.0.2)) in
      subst (Was (λ x. ta x.0 ++ tb x.1) (λ x. sa x.0 + sb x.1) (λ x. Ia x.0 × Ib x.1) left t) (some_is ((a.0.0, b.0.0), b.0.1, b.0.2) x b.2) (parts, (u.1, v.1), omega (arith, u.2, v.2));
  again = λ x left more rest is fine sum.
      ap (followed first second left) (append_assoc (ta x.0) (tb x.1) rest)
      ∙ (ap (λ (o : Option (A × ℕ × List ℕ)). o >>= λ x. second x.1 x.2 >>= λ y. Some ((x.0, y.0), y.1, y.2)) (f.again x.0 left (sb x.1 + more) (tb x.1 ++ rest) is.0 tt (omega (arith, sum)))
      ∙ ap (λ (o : Option (B × ℕ × List ℕ)). o >>= λ y. Some ((x.0, y.0), y.1, y.2)) (s.again x.1 (sb x.1 + more) more rest is.1 fine refl));
}

pub behind_spells : {A : Type 0} (b : ℕ) (item : Item A) (text : A → List ℕ) (size : A → ℕ) (Is : A → Type 0) (Fine : List ℕ → Type 0) → eqb b b ≡ true → Spells item text size Is Fine
    → Spells (behind b item) (λ x. b ∷ text x) size Is Fine
behind_spells {A = A} b item text size Is Fine same s = record {
  takes = λ left t x e.
      let a = bind_some (after_byte b t) (λ u. item left u) x e in
      let w = s.takes left a.0 x a.2 in
      (after_byte-takes b t a.0 a.1 ∙ ap (λ (u : List ℕ). b ∷ u) w.0, w.1, w.2);
  again = λ x left more rest is fine sum.
      ap (λ (o : Option (List ℕ)). o >>= λ u. item left u) (after_again b (text x ++ rest) same) ∙ s.again x left more rest is fine sum;
}

pub made_is : {A B : Type 0} (make : A → B) (o : Option (A × ℕ × List ℕ)) (x : B × ℕ × List ℕ) → made make o ≡ Some x → (y : A × ℕ × List ℕ) × (o ≡ Some y) × ((make y.0, y.1, y.2) ≡ x)
made_is make None x e = absurd cc
made_is make (Some y) x e = (y, refl, some_is (make y.0, y.1, y.2) x e)

pub or_read_is : {A : Type 0} (a b : Option A) (x : A) → or_read a b ≡ Some x → (a ≡ Some x) ⊎ (b ≡ Some x)
or_read_is None b x e = inr e
or_read_is (Some y) b x e = inl e

-- ---- lists

abbrev sign : ℕ → Bool → ℕ
sign close last = cond last close 59

turn_takes : (close : ℕ) (t : List ℕ) (x : Bool × List ℕ) → turn_at close t ≡ Some x → t ≡ sign close x.0 ∷ x.1
unfolding turn_at
turn_takes close [] x e = absurd cc
turn_takes close (b ∷ t) x e =
    ⊎_elim
    (λ (p : (eqb b close ≡ true) × (Some (true, t) ≡ Some x)). subst (λ (y : Bool × List ℕ). b ∷ t ≡ sign close y.0 ∷ y.1) (some_is (true, t) x p.1) (ap (λ (n : ℕ). n ∷ t) (eqb-true b close p.0)))
    (λ (p : (eqb b close ≡ false) × (cond (eqb b 59) (Some (false, t)) None ≡ Some x)).
    let q = guard_some (eqb b 59) (Some (false, t)) x p.1 in
    subst (λ (y : Bool × List ℕ). b ∷ t ≡ sign close y.0 ∷ y.1) (some_is (false, t) x q.1) (ap (λ (n : ℕ). n ∷ t) (eqb-true b 59 q.0)))
    (if_some (eqb b close) (Some (true, t)) (cond (eqb b 59) (Some (false, t)) None) x e)

-- the bytes that close lists and join their items are told apart
pub record IsClose (close : ℕ) : Type 0 where
  pub same : eqb close close ≡ true
  pub other : eqb 59 close ≡ false

turn_again : (close : ℕ) (last : Bool) (rest : List ℕ) → IsClose close → turn_at close (sign close last ∷ rest) ≡ Some (last, rest)
unfolding turn_at
turn_again close true rest c = cond-true _ _ _ c.same
turn_again close false rest c = cond-false _ _ _ c.other

pub joined_one : (t : List ℕ) → block_joined (t ∷ []) ≡ t
unfolding block_joined
joined_one t = refl

pub joined_none : block_joined [] ≡ []
unfolding block_joined
joined_none = refl

pub joined_more : (t : List ℕ) (ts : List (List ℕ)) → 0 < length ts → block_joined (t ∷ ts) ≡ t ++ 59 ∷ block_joined ts
unfolding block_joined
joined_more t [] lt = absurd (omega arith)
joined_more t (u ∷ ts) lt = refl

first_of_is : {A : Type 0} (v : A) (o : Option (List A × ℕ × List ℕ)) (x : List A × ℕ × List ℕ) → first_of v o ≡ Some x → (y : List A × ℕ × List ℕ) × (o ≡ Some y) × ((v ∷ y.0, y.1, y.2) ≡ x)
first_of_is v None x e = absurd cc
first_of_is v (Some y) x e = (y, refl, some_is (v ∷ y.0, y.1, y.2) x e)

module _ {A : Type 0} (close : ℕ) (item : Item A) (text : A → List ℕ) (size : A → ℕ) (Is : A → Type 0) (Fine : List ℕ → Type 0) (c : IsClose close) (spells : Spells item text size Is Fine)
    (closes : (rest : List ℕ) → Fine (close ∷ rest)) (goes_on : (rest : List ℕ) → Fine (59 ∷ rest)) (counts : (x : A) → 1 ≤ size x) (none : (left : ℕ) (rest : List ℕ) → item left (close ∷ rest) ≡ None) (empty : (left : ℕ) → item left [] ≡ None) where
  -- how many parts some items have
  abbrev sizes : List A → ℕ
  sizes xs = sum (map size xs)

  abbrev listed : List A → List ℕ
  listed xs = block_joined (map text xs) ++ close ∷ []

  abbrev Were : ℕ → List ℕ → List A × ℕ × List ℕ → Type 0
  Were left t x = (t ≡ block_joined (map text x.0) ++ close ∷ x.2) × AllByRecursion Is x.0 × (sizes x.0 + x.1 ≡ left)

  one_were : (left more : ℕ) (t after rest : List ℕ) (v : A) → Was text size Is left t (v, more, after) → after ≡ close ∷ rest → Were left t (v ∷ [], more, rest)
  one_were left more t after rest v w a =
      let all : sizes (v ∷ []) ≡ size v = sum_by-cons (λ (k : ℕ). k) (size v) [] ∙ omega arith in
      (w.0 ∙ (ap (λ (s : List ℕ). text v ++ s) a ∙ ap (λ (s : List ℕ). s ++ close ∷ rest) (sym (joined_one (text v)))), (w.1, tt), omega (arith, w.2, all))

  more_were : (left more : ℕ) (t after later : List ℕ) (v : A) (y : List A × ℕ × List ℕ) → Was text size Is left t (v, more, after) → after ≡ 59 ∷ later → Were more later y → 0 < length (map text y.0) → Were left t (v ∷ y.0, y.1, y.2)
  more_were left more t after later v y w a r lt =
      let all : sizes (v ∷ y.0) ≡ size v + sizes y.0 = sum_by-cons (λ (k : ℕ). k) (size v) (map size y.0) in (
        w.0 ∙ (ap (λ (s : List ℕ). text v ++ s) (a ∙ ap (λ (s : List ℕ). 59 ∷ s) r.0)
            ∙ (sym (append_assoc (text v) (59 ∷ block_joined (map text y.0)) (close ∷ y.2)) ∙ ap (λ (s : List ℕ). s ++ close ∷ y.2) (sym (joined_more (text v) (map text y.0) lt)))),
        (w.1, r.1),
        omega (arith, all, w.2, r.2),
      )

  some_were : (m left : ℕ) (t : List ℕ) (x : List A × ℕ × List ℕ) → some_items close item m left t ≡ Some x → Were left t x × (0 < length (map text x.0))
  unfolding some_items
  some_were zero left t x e = absurd cc
  some_were (suc m) left t x e =
      let a = bind_some (item left t) (λ x. turn_at close x.2 >>= λ end. cond end.0 (Some (x.0 ∷ [], x.1, end.1)) (first_of x.0 (some_items close item m x.1 end.1))) x e in
      let v : A = a.0.0 in
      let b = bind_some (turn_at close a.0.2) (λ end. cond end.0 (Some (v ∷ [], a.0.1, end.1)) (first_of v (some_items close item m a.0.1 end.1))) x a.2 in
      let w = spells.takes left t a.0 a.1 in
      let s = turn_takes close a.0.2 b.0 b.1 in
      ⊎_elim
      (λ (p : (b.0.0 ≡ true) × (Some (v ∷ [], a.0.1, b.0.1) ≡ Some x)).
      subst (λ (y : List A × ℕ × List ℕ). Were left t y × (0 < length (map text y.0))) (some_is (v ∷ [], a.0.1, b.0.1) x p.1) (one_were left a.0.1 t a.0.2 b.0.1 v w (s ∙ ap (λ (l : Bool). sign close l ∷ b.0.1) p.0), omega arith))
      (λ (p : (b.0.0 ≡ false) × (first_of v (some_items close item m a.0.1 b.0.1) ≡ Some x)).
      let j = first_of_is v (some_items close item m a.0.1 b.0.1) x p.1 in
      let r = some_were m a.0.1 b.0.1 j.0 j.1 in
      subst (λ (y : List A × ℕ × List ℕ). Were left t y × (0 < length (map text y.0))) j.2 (more_were left a.0.1 t a.0.2 b.0.1 v j.0 w (s ∙ ap (λ (l : Bool). sign close l ∷ b.0.1) p.0) r.0 r.1, omega arith))
      (if_some b.0.0 (Some (v ∷ [], a.0.1, b.0.1)) (first_of v (some_items close item m a.0.1 b.0.1)) x b.2)

  were : (left : ℕ) (t : List ℕ) (x : List A × ℕ × List ℕ) → items_at close item left t ≡ Some x → Were left t x
  unfolding items_at block_joined
  were left [] x e = absurd cc
  were left (b ∷ t) x e =
      ⊎_elim
      (λ (p : (eqb b close ≡ true) × (Some ([], left, t) ≡ Some x)).
      subst (Were left (b ∷ t)) (some_is ([], left, t) x p.1) (ap (λ (k : ℕ). k ∷ t) (eqb-true b close p.0), tt, omega arith))
      (λ (p : (eqb b close ≡ false) × (some_items close item left left (b ∷ t) ≡ Some x)). (some_were left left (b ∷ t) x p.1).0)
      (if_some (eqb b close) (Some ([], left, t)) (some_items close item left left (b ∷ t)) x e)

  -- one turn of the reading of a list
  turn : (m left more : ℕ) (t after : List ℕ) (x : A) (last : Bool) → item left t ≡ Some (x, more, sign close last ∷ after)
      → some_items close item (suc m) left t ≡ cond last (Some (x ∷ [], more, after)) (first_of x (some_items close item m more after))
  unfolding some_items
  turn m left more t after x last e =
      ap (λ (o : Option (A × ℕ × List ℕ)). o >>= λ found. turn_at close found.2 >>= λ end. cond end.0 (Some (found.0 ∷ [], found.1, end.1)) (first_of found.0 (some_items close item m found.1 end.1))) e
      ∙ ap (λ (o : Option (Bool × List ℕ)). o >>= λ end. cond end.0 (Some (x ∷ [], more, end.1)) (first_of x (some_items close item m more end.1))) (turn_again close last after c)

  some_again : (m left more : ℕ) (xs : List A) (rest : List ℕ) → 0 < length xs → length xs ≤ m → AllByRecursion Is xs → sizes xs + more ≡ left → some_items close item m left (block_joined (map text xs) ++ close ∷ rest) ≡ Some (xs, more, rest)
  some_again m left more [] rest lt le all fits = absurd (omega arith)
  some_again zero left more (x ∷ xs) rest lt le all fits = absurd (omega arith)
  some_again (suc m) left more (x ∷ []) rest lt le all fits =
      let s : sizes (x ∷ []) ≡ size x = sum_by-cons (λ (k : ℕ). k) (size x) [] ∙ omega arith in
      let one = spells.again x left more (close ∷ rest) all.0 (closes rest) (omega (arith, s, fits)) in
      ap (λ (t : List ℕ). some_items close item (suc m) left (t ++ close ∷ rest)) (joined_one (text x))
      ∙ turn m left more (text x ++ close ∷ rest) rest x true one
  some_again (suc m) left more (x ∷ y ∷ xs) rest lt le all fits =
      let later : List ℕ = block_joined (map text (y ∷ xs)) ++ close ∷ rest in
      let s : sizes (x ∷ y ∷ xs) ≡ size x + sizes (y ∷ xs) = sum_by-cons (λ (k : ℕ). k) (size x) (map size (y ∷ xs)) in
      let one = spells.again x left (sizes (y ∷ xs) + more) (59 ∷ later) all.0 (goes_on later) (omega (arith, s, fits)) in
      let others = some_again m (sizes (y ∷ xs) + more) more (y ∷ xs) rest (omega arith) (omega arith) all.1 refl in
      ap (λ (t : List ℕ). some_items close item (suc m) left (t ++ close ∷ rest)) (joined_more (text x) (map text (y ∷ xs)) (omega arith))
      ∙ (ap (some_items close item (suc m) left) (append_assoc (text x) (59 ∷ block_joined (map text (y ∷ xs))) (close ∷ rest))
      ∙ (turn m left (sizes (y ∷ xs) + more) (text x ++ 59 ∷ later) later x false one
      ∙ ap (first_of x) others))

  some_none : (m left : ℕ) (t : List ℕ) → item left t ≡ None → some_items close item m left t ≡ None
  unfolding some_items
  some_none zero left t e = refl
  some_none (suc m) left t e = ap (λ (o : Option (A × ℕ × List ℕ)). o >>= λ found. turn_at close found.2 >>= λ end. cond end.0 (Some (found.0 ∷ [], found.1, end.1)) (first_of found.0 (some_items close item m found.1 end.1))) e

  -- some items that were read are the list
  some_is_list : (left : ℕ) (t : List ℕ) (x : List A × ℕ × List ℕ) → some_items close item left left t ≡ Some x → items_at close item left t ≡ Some x
  unfolding items_at
  some_is_list left [] x e = let n = some_none left left [] (empty left) in absurd cc
  some_is_list left (b ∷ t) x e = elim (eqb b close) as (λ v. eqb b close ≡ v → cond v (Some ([], left, t)) (some_items close item left left (b ∷ t)) ≡ Some x) [
    | true ↦ λ p. let n = some_none left left (b ∷ t) (ap (λ (k : ℕ). item left (k ∷ t)) (eqb-true b close p) ∙ none left t) in absurd cc
    | false ↦ λ p. e
  ] refl

  length_le_sizes : (xs : List A) → length xs ≤ sizes xs
  length_le_sizes [] = omega arith
  length_le_sizes (x ∷ xs) = omega (arith, sum_by-cons (λ (k : ℕ). k) (size x) (map size xs), counts x, length_le_sizes xs)

  items_again : (xs : List A) (left more : ℕ) (rest : List ℕ) → AllByRecursion Is xs → sizes xs + more ≡ left → items_at close item left (block_joined (map text xs) ++ close ∷ rest) ≡ Some (xs, more, rest)
  unfolding items_at block_joined
  items_again [] left more rest all fits = cond-true _ _ _ c.same ∙ ap (λ (n : ℕ). Some ([], n, rest)) (omega (arith, fits))
  items_again (x ∷ xs) left more rest all fits =
      some_is_list left (block_joined (map text (x ∷ xs)) ++ close ∷ rest) (x ∷ xs, more, rest)
      (some_again left left more (x ∷ xs) rest (omega arith) (omega (arith, length_le_sizes (x ∷ xs), fits)) all fits)

  pub items_spells : Spells (items_at close item) (λ xs. block_joined (map text xs) ++ close ∷ []) (λ xs. sum (map size xs)) (AllByRecursion Is) Anything
  items_spells = record {
    takes = λ left t x e. let w = were left t x e in (w.0 ∙ sym (append_assoc (block_joined (map text x.0)) (close ∷ []) x.2), w.1, w.2);
    again = λ xs left more rest is any fits. ap (items_at close item left) (append_assoc (block_joined (map text xs)) (close ∷ []) rest) ∙ items_again xs left more rest is fits;
  }
