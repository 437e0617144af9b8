-- Reading numbers that a word or nothing follows.
use Rattle.std.specs.Prelude.{ℕ, List, [], ◌∷◌, Option, Some, None, codes}
use Rattle.khepri_terms.specs.Many.{◌>>=◌}
use Rattle.khepri_terms.specs.Numbers.{number_at}
use Rattle.khepri_types.specs.declared.limits.TheConstants.{MAX_NUMBER}
use Rattle.khepri_types.specs.Words.{after_word}

-- the number at the front that this word follows, and what is after the word
unfoldable pub number_before : List ℕ → List ℕ → Option (ℕ × List ℕ)
number_before word text = do
  number ← number_at MAX_NUMBER text
  rest ← after_word word number.1
  Some (number.0, rest)

-- the three numbers at the front that a space follows each, and what is after them
unfoldable pub three_before : List ℕ → Option (ℕ × ℕ × ℕ × List ℕ)
three_before text = do
  pv ← number_before (codes " ") text
  cv ← number_before (codes " ") pv.1
  kids ← number_before (codes " ") cv.1
  Some (pv.0, cv.0, kids.0, kids.1)

-- a number that nothing follows
abbrev pub whole_number : Option (ℕ × List ℕ) → Option ℕ
whole_number None = None
whole_number (Some (n, [])) = Some n
whole_number (Some (n, b ∷ rest)) = None

-- the number that the whole text spells
unfoldable pub spelled_number : List ℕ → Option ℕ
spelled_number text = whole_number (number_at MAX_NUMBER text)
