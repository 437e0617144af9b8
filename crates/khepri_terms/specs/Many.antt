-- Reading one thing after another.
use Rattle.std.specs.Prelude.{ℕ, zero, suc, List, [], ◌∷◌, Option, Some, None, option_and_then}

infixl 10 ◌>>=◌
abbrev pub ◌>>=◌ : {A B : Type 0} → Option A → (A → Option B) → Option B
o >>= f = option_and_then f o

-- an item before the others
abbrev pub onto : {X Y : Type 0} → X → List X × Y → List X × Y
onto x found = (x ∷ found.0, found.1)

-- the item that was read and the others behind it, or nothing of the text
abbrev pub went : {X : Type 0} → Option (X × List ℕ) → List ℕ → (List ℕ → List X × List ℕ) → List X × List ℕ
went None text others = ([], text)
went (Some x) text others = onto x.0 (others x.1)

-- as many items as stand at the front, at most n, and what is after them
unfoldable pub many : {X : Type 0} → (List ℕ → Option (X × List ℕ)) → ℕ → List ℕ → List X × List ℕ
many item zero text = ([], text)
many item (suc n) text = went (item text) text (λ rest. many item n rest)
