-- Turns of the loops that print one item after another.
use Rattle.std.proofs.Common.{◌≡◌, ℕ, ◌+◌, ◌<◌, ◌≤◌, List, [], ◌∷◌, ◌++◌, length, take, get_or, sym, ap, ◌∙◌, append_assoc}
use Rattle.std.specs.List.{flat_map}
use Rattle.std.proofs.lemmas.List.{append-nil, take_more, take_all}
use Rattle.std.proofs.lemmas.List.Concat.{flat_map-append}

pub none_yet : {X : Type 0} (f : X → List ℕ) (old : List ℕ) → old ≡ old ++ flat_map f []
none_yet f old = sym (append-nil old)

pub one_more : {X : Type 0} (f : X → List ℕ) (xs : List X) (i : ℕ) (x : X) (old before new : List ℕ) → i < length xs → x ≡ get_or xs i x → before ≡ old ++ flat_map f (take i xs) → new ≡ before ++ f x
    → new ≡ old ++ flat_map f (take (i + 1) xs)
one_more {X = X} f xs i x old before new l is b n =
    let so_far : List ℕ = flat_map f (take i xs) in
    let y : X = get_or xs i x in
    let more : flat_map f (take (i + 1) xs) ≡ so_far ++ (f y ++ []) = ap (flat_map f) (take_more xs i x l) ∙ flat_map-append f (take i xs) (y ∷ []) in
    n
    ∙ (ap (λ (t : List ℕ). t ++ f x) b
    ∙ (append_assoc old so_far (f x)
    ∙ (ap (λ (z : X). old ++ (so_far ++ f z)) is ∙ ap (λ (t : List ℕ). old ++ t) (sym (more ∙ ap (λ (t : List ℕ). so_far ++ t) (append-nil (f y)))))))

pub all_done : {X : Type 0} (f : X → List ℕ) (xs : List X) (i : ℕ) (old new : List ℕ) → length xs ≤ i → new ≡ old ++ flat_map f (take i xs) → new ≡ old ++ flat_map f xs
all_done {X = X} f xs i old new l e = e ∙ ap (λ (ys : List X). old ++ flat_map f ys) (take_all i xs l)
