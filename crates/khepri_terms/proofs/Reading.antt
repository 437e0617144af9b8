-- How the loops of the readers go on.
use Rattle.std.proofs.Common.{◌≡◌, ℕ, zero, suc, ◌+◌, ◌-◌, ◌<◌, ◌≤◌, List, [], ◌∷◌, ◌++◌, length, drop, refl, sym, ap, subst, ◌∙◌, append_assoc, arith, Option, Some, None}
use Rattle.std.specs.List.{flat_map, AllByRecursion}
use Rattle.std.proofs.lemmas.List.{append-nil, length-append, length-drop, drop-drop, drop_at}
use Rattle.khepri_terms.specs.Many.{many, onto, went}

-- what was read before a reading
abbrev pub ahead : {X Y : Type 0} → List X → List X × Y → List X × Y
ahead xs found = (xs ++ found.0, found.1)

pub many-more : {X : Type 0} (item : List ℕ → Option (X × List ℕ)) (m n : ℕ) (x : X) (text rest : List ℕ) → m ≡ suc n → item text ≡ Some (x, rest) → many item m text ≡ onto x (many item n rest)
unfolding many
many-more {X = X} item m n x text rest e is = ap (λ (k : ℕ). many item k text) e ∙ ap (λ (o : Option (X × List ℕ)). went o text (λ r. many item n r)) is

pub many-end : {X : Type 0} (item : List ℕ → Option (X × List ℕ)) (m : ℕ) (text : List ℕ) → item text ≡ None → many item m text ≡ ([], text)
unfolding many
many-end {X = X} item zero text is = refl
many-end {X = X} item (suc n) text is = ap (λ (o : Option (X × List ℕ)). went o text (λ r. many item n r)) is

pub many-full : {X : Type 0} (item : List ℕ → Option (X × List ℕ)) (m : ℕ) (text : List ℕ) → m ≡ 0 → many item m text ≡ ([], text)
unfolding many
many-full item m text e = ap (λ (k : ℕ). many item k text) e

-- one more turn of a loop that reads
pub many_on : {X : Type 0} (item : List ℕ → Option (X × List ℕ)) (total : List X × List ℕ) (most : ℕ) (xs ys : List X) (x : X) (text rest : List ℕ) → length xs < most → item text ≡ Some (x, rest) → ys ≡ xs ++ x ∷ []
    → total ≡ ahead xs (many item (most - length xs) text) → total ≡ ahead ys (many item (most - length ys) rest)
many_on {X = X} item total most xs ys x text rest lt is e so_far =
    let len : length (xs ++ x ∷ []) ≡ length xs + 1 = simp length-append refl in
    let k : most - (length xs + 1) ≡ most - length ys = ap (λ (n : ℕ). most - n) (sym (ap length e ∙ len)) in
    let more = many-more item (most - length xs) (most - (length xs + 1)) x text rest (omega arith) is in
    let after : List X × List ℕ = many item (most - (length xs + 1)) rest in
    so_far
    ∙ (ap (λ (f : List X × List ℕ). ahead xs f) more
    ∙ (ap (λ (zs : List X). (zs, after.1)) (sym (append_assoc xs (x ∷ []) after.0))
    ∙ (ap (λ (zs : List X). ahead zs after) (sym e) ∙ ap (λ (n : ℕ). ahead ys (many item n rest)) k)))

-- the end of a loop that reads
pub many_done : {X : Type 0} (total : List X × List ℕ) (xs : List X) (text : List ℕ) (found : List X × List ℕ) → found ≡ ([], text) → total ≡ ahead xs found → total ≡ (xs, text)
many_done {X = X} total xs text found is so_far = so_far ∙ (ap (λ (f : List X × List ℕ). ahead xs f) is ∙ ap (λ (zs : List X). (zs, text)) (append-nil xs))

-- what is read of a text: the spellings of the items, and what is after them
pub record Took {X : Type 0} (spell : X → List ℕ) (Is : X → Type 0) (n : ℕ) (text : List ℕ) (found : List X × List ℕ) : Type 0 where
  pub parts : text ≡ flat_map spell found.0 ++ found.1
  pub all : AllByRecursion Is found.0
  pub few : length found.0 ≤ n

went_takes : {X : Type 0} (spell : X → List ℕ) (Is : X → Type 0) (n : ℕ) (o : Option (X × List ℕ)) (text : List ℕ) (others : List ℕ → List X × List ℕ)
    → ((x : X × List ℕ) → o ≡ Some x → (text ≡ spell x.0 ++ x.1) × Is x.0) → ((rest : List ℕ) → Took spell Is n rest (others rest)) → Took spell Is (suc n) text (went o text others)
went_takes {X = X} spell Is n None text others first next = record { parts = refl; all = tt; few = omega arith }
went_takes {X = X} spell Is n (Some x) text others first next =
    let t = first x refl in
    let o = next x.1 in
    record {
      parts = t.0 ∙ (ap (λ (r : List ℕ). spell x.0 ++ r) o.parts ∙ sym (append_assoc (spell x.0) (flat_map spell (others x.1).0) (others x.1).1));
      all = (t.1, o.all);
      few = omega (arith, o.few);
    }

pub many_takes : {X : Type 0} (item : List ℕ → Option (X × List ℕ)) (spell : X → List ℕ) (Is : X → Type 0) → ((text : List ℕ) (x : X × List ℕ) → item text ≡ Some x → (text ≡ spell x.0 ++ x.1) × Is x.0)
    → (n : ℕ) (text : List ℕ) → Took spell Is n text (many item n text)
unfolding many
many_takes item spell Is takes zero text = record { parts = refl; all = tt; few = omega arith }
many_takes {X = X} item spell Is takes (suc n) text =
    went_takes spell Is n (item text) text (λ r. many item n r) (λ x e. takes text x e) (λ r. many_takes item spell Is takes n r)

fine_later : {X : Type 0} (spell : X → List ℕ) (Is : X → Type 0) (Fine : List ℕ → Type 0) → ((x : X) (rest : List ℕ) → Is x → Fine (spell x ++ rest))
    → (xs : List X) (rest : List ℕ) → AllByRecursion Is xs → Fine rest → Fine (flat_map spell xs ++ rest)
fine_later spell Is Fine starts [] rest all fine = fine
fine_later spell Is Fine starts (x ∷ xs) rest all fine = subst Fine (sym (append_assoc (spell x) (flat_map spell xs) rest)) (starts x (flat_map spell xs ++ rest) all.0)

-- what is spelled is read again, and then what is behind it
pub many_again : {X : Type 0} (item : List ℕ → Option (X × List ℕ)) (spell : X → List ℕ) (Is : X → Type 0) (Fine : List ℕ → Type 0)
    → ((x : X) (rest : List ℕ) → Is x → Fine rest → item (spell x ++ rest) ≡ Some (x, rest)) → ((x : X) (rest : List ℕ) → Is x → Fine (spell x ++ rest))
    → (xs : List X) (m n : ℕ) (rest : List ℕ) → AllByRecursion Is xs → m ≡ length xs + n → Fine rest → many item m (flat_map spell xs ++ rest) ≡ ahead xs (many item n rest)
many_again item spell Is Fine again starts [] m n rest all e fine = ap (λ (k : ℕ). many item k rest) (omega arith)
many_again {X = X} item spell Is Fine again starts (x ∷ xs) m n rest all e fine =
    let later : List ℕ = flat_map spell xs ++ rest in
    let one = again x later all.0 (fine_later spell Is Fine starts xs rest all.1 fine) in
    let more = many-more item m (length xs + n) x (spell x ++ later) later (omega arith) one in
    let next = many_again item spell Is Fine again starts xs (length xs + n) n rest all.1 refl fine in
    ap (many item m) (append_assoc (spell x) (flat_map spell xs) rest) ∙ (more ∙ ap (λ (f : List X × List ℕ). onto x f) next)

-- fields that were read before a reading that may fail
abbrev pub beyond : {X Y : Type 0} → List X → Option (List X × Y) → Option (List X × Y)
beyond xs None = None
beyond xs (Some found) = Some (ahead xs found)

-- the place where what was read from a place ends
pub ends_at : (text spelled rest : List ℕ) (at : ℕ) → at ≤ length text → drop at text ≡ spelled ++ rest
    → (drop (length text - length rest) text ≡ rest) × (at + length spelled ≡ length text - length rest) × (length rest ≤ length text)
ends_at text spelled rest at le e =
    let len : length text - at ≡ length spelled + length rest = sym (length-drop at text) ∙ (ap length e ∙ length-append spelled rest) in
    let k : length text - length rest ≡ at + length spelled = omega arith in
    let back : drop (at + length spelled) text ≡ rest = sym (drop-drop (length spelled) at text) ∙ (ap (drop (length spelled)) e ∙ drop_at spelled rest (length spelled) refl) in
    (ap (λ (n : ℕ). drop n text) k ∙ back, sym k, omega arith)
