-- How bytes are spelled.
use Rattle.std.specs.Prelude.{ℕ, ◌<◌, ◌+◌, ◌*◌, ◌-◌, Bool, ◌&&◌, ◌||◌, nat_le, ◌==◌, if◌then◌else◌, List, [], ◌∷◌, Option, Some, None}
use Rattle.std.specs.List.{flat_map, AllByRecursion}
use Rattle.percent_encoding.specs.Percent.{percent_encode_byte}
use Rattle.khepri_terms.specs.Many.{many, ◌>>=◌}

-- a letter, a digit, `-`, `_`, `.` or `~`
unfoldable pub is_plain : ℕ → Bool
is_plain b = (nat_le 97 b && nat_le b 122) || (nat_le 65 b && nat_le b 90) || (nat_le 48 b && nat_le b 57) || b == 45 || b == 95 || b == 46 || b == 126

-- a plain byte as it stands, any other as `%` and two upper-case hexadecimal digits
unfoldable pub byte_text : ℕ → List ℕ
byte_text b = if is_plain b then b ∷ [] else percent_encode_byte b

-- the bytes one after another
abbrev pub bytes_text : List ℕ → List ℕ
bytes_text bytes = flat_map byte_text bytes

-- numbers that are bytes
abbrev pub AreBytes : List ℕ → Type 0
AreBytes bytes = AllByRecursion (λ b. b < 256) bytes

-- what an upper-case hexadecimal digit counts
unfoldable pub hex_value : ℕ → Option ℕ
hex_value h = if nat_le 48 h && nat_le h 57 then Some (h - 48) else (if nat_le 65 h && nat_le h 70 then Some (h - 55) else None)

-- the byte that two digits behind a `%` spell, none where it is plain
unfoldable pub escape_at : List ℕ → Option (ℕ × List ℕ)
escape_at [] = None
escape_at (h ∷ []) = None
escape_at (h ∷ l ∷ text) = do
  high ← hex_value h
  low ← hex_value l
  if is_plain (16 * high + low) then None else Some (16 * high + low, text)

-- the byte that is spelled at the front, and what is after it
unfoldable pub byte_at : List ℕ → Option (ℕ × List ℕ)
byte_at [] = None
byte_at (b ∷ text) = if is_plain b then Some (b, text) else (if b == 37 then escape_at text else None)

-- as many bytes as are spelled at the front, at most n, and what is after them
abbrev pub bytes_at : ℕ → List ℕ → List ℕ × List ℕ
bytes_at = many byte_at
