-- Reading one part after another where only so many parts may be read in all.
use Rattle.std.specs.Prelude.{ℕ, zero, suc, Bool, true, false, ◌==◌, if◌then◌else◌, List, [], ◌∷◌, Option, Some, None}
use Rattle.khepri_terms.specs.Many.{◌>>=◌}
use Rattle.khepri_types.specs.ReadingConditions.{after_byte}

-- A reading is given how many parts it may have, and gives what it read, how many more may follow, and what is after it.
abbrev pub Item : Type 0 → Type 0
Item A = ℕ → List ℕ → Option (A × ℕ × List ℕ)

abbrev pub kept : {A : Type 0} → ℕ → Option (A × List ℕ) → Option (A × ℕ × List ℕ)
kept left None = None
kept left (Some x) = Some (x.0, left, x.1)

-- what is no part itself
abbrev pub uncounted : {A : Type 0} → (List ℕ → Option (A × List ℕ)) → Item A
uncounted item left text = kept left (item text)

-- an item and this byte behind it
abbrev pub ended : {A : Type 0} → ℕ → Item A → Item A
ended b item left text = item left text >>= λ x. after_byte b x.2 >>= λ rest. Some (x.0, x.1, rest)

-- an item and another behind it
abbrev pub followed : {A B : Type 0} → Item A → Item B → Item (A × B)
followed first second left text = first left text >>= λ x. second x.1 x.2 >>= λ y. Some ((x.0, y.0), y.1, y.2)

-- what is made of what was read
abbrev pub made : {A B : Type 0} → (A → B) → Option (A × ℕ × List ℕ) → Option (B × ℕ × List ℕ)
made make None = None
made make (Some x) = Some (make x.0, x.1, x.2)

-- the first reading that reads anything
abbrev pub or_read : {A : Type 0} → Option A → Option A → Option A
or_read None other = other
or_read (Some x) other = Some x

-- ---- lists

-- whether a list ends, by this byte, or goes on, by `;`, and what is after that
unfoldable pub turn_at : ℕ → List ℕ → Option (Bool × List ℕ)
turn_at close [] = None
turn_at close (b ∷ text) = if b == close then Some (true, text) else (if b == 59 then Some (false, text) else None)

-- an item before the others
abbrev pub first_of : {A : Type 0} → A → Option (List A × ℕ × List ℕ) → Option (List A × ℕ × List ℕ)
first_of x None = None
first_of x (Some others) = Some (x ∷ others.0, others.1, others.2)

-- 1 to n items joined by `;`, and the byte behind them
unfoldable pub some_items : {A : Type 0} → ℕ → Item A → ℕ → Item (List A)
some_items close item zero left text = None
some_items close item (suc n) left text = item left text >>= λ x. turn_at close x.2 >>= λ end. if end.0 then Some (x.0 ∷ [], x.1, end.1) else first_of x.0 (some_items close item n x.1 end.1)

-- items joined by `;`, perhaps none, and the byte behind them
unfoldable pub items_at : {A : Type 0} → ℕ → Item A → Item (List A)
items_at close item left [] = None
items_at close item left (b ∷ text) = if b == close then Some ([], left, text) else some_items close item left left (b ∷ text)

-- an item behind this byte
abbrev pub behind : {A : Type 0} → ℕ → Item A → Item A
behind b item left text = after_byte b text >>= λ t. item left t
