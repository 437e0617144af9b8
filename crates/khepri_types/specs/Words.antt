-- Words at the front of a text.
use Rattle.std.specs.Prelude.{ℕ, Bool, if◌then◌else◌, List, length, take, drop, Option, Some, None, nat_eq}
use Rattle.std.specs.Cmp.Lexicographic.{pointwise}

-- a text begins with this word
abbrev pub begins : List ℕ → List ℕ → Bool
begins word text = pointwise nat_eq (take (length word) text) word

-- the whole text is this word
abbrev pub is_word : List ℕ → List ℕ → Bool
is_word word text = pointwise nat_eq text word

-- what is after this word at the front
unfoldable pub after_word : List ℕ → List ℕ → Option (List ℕ)
after_word word text = if begins word text then Some (drop (length word) text) else None
