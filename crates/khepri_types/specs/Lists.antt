-- Lists between `[` and `]`, with `,` between their items.
use Rattle.std.specs.Prelude.{ℕ, zero, suc, Bool, true, false, ◌==◌, if◌then◌else◌, List, [], ◌∷◌, ◌++◌, Option, Some, None}
use Rattle.khepri_terms.specs.Many.{◌>>=◌, onto}

-- the items with `,` between them
unfoldable pub items_text : {X : Type 0} → (X → List ℕ) → List X → List ℕ
items_text text [] = []
items_text text (x ∷ []) = text x
items_text text (x ∷ y ∷ xs) = text x ++ 44 ∷ items_text text (y ∷ xs)

-- the items between `[` and `]`
unfoldable pub list_text : {X : Type 0} → (X → List ℕ) → List X → List ℕ
list_text text xs = 91 ∷ items_text text xs ++ 93 ∷ []

-- an item before the others, where these were found
abbrev pub onto_read : {X : Type 0} → X → Option (List X × List ℕ) → Option (List X × List ℕ)
onto_read x None = None
onto_read x (Some found) = Some (onto x found)

-- whether the list ends behind an item, by `]`, or goes on, by `,`; and what is after that
unfoldable pub sign_at : List ℕ → Option (Bool × List ℕ)
sign_at [] = None
sign_at (b ∷ text) = if b == 93 then Some (true, text) else (if b == 44 then Some (false, text) else None)

-- 1 to n items with `,` between them and the `]` behind them, and what is after it
unfoldable pub items_at : {X : Type 0} → (List ℕ → Option (X × List ℕ)) → ℕ → List ℕ → Option (List X × List ℕ)
items_at item zero text = None
items_at item (suc n) text = item text >>= λ x. sign_at x.1 >>= λ s. if s.0 then Some (x.0 ∷ [], s.1) else (onto_read x.0 (items_at item n s.1))

-- the items behind a `[` to the `]`
unfoldable pub inside_at : {X : Type 0} → (List ℕ → Option (X × List ℕ)) → ℕ → List ℕ → Option (List X × List ℕ)
inside_at item n [] = None
inside_at item n (b ∷ text) = if b == 93 then Some ([], text) else items_at item n (b ∷ text)

-- the list that is spelled at the front, of at most n items, and what is after it
unfoldable pub list_at : {X : Type 0} → (List ℕ → Option (X × List ℕ)) → ℕ → List ℕ → Option (List X × List ℕ)
list_at item n [] = None
list_at item n (b ∷ text) = if b == 91 then inside_at item n text else None

-- the same, but no empty list
unfoldable pub some_list_at : {X : Type 0} → (List ℕ → Option (X × List ℕ)) → ℕ → List ℕ → Option (List X × List ℕ)
some_list_at item n [] = None
some_list_at item n (b ∷ text) = if b == 91 then items_at item n text else None
