-- How numbers are spelled: std's `decimal` and `signed_decimal`.
use Rattle.std.specs.Prelude.{ℕ, zero, suc, ◌+◌, ◌*◌, ◌-◌, ◌^◌, Bool, ◌&&◌, nat_le, ◌==◌, if◌then◌else◌, List, [], ◌∷◌, Option, Some, None, ℤ, pos, negsuc}

abbrev pub is_digit : ℕ → Bool
is_digit b = nat_le 48 b && nat_le b 57

-- the number so far and the digits at the front, none past the greatest, and what is after them
unfoldable pub number_from : ℕ → ℕ → List ℕ → Option (ℕ × List ℕ)
number_from greatest n [] = Some (n, [])
number_from greatest n (b ∷ text) = if is_digit b then (if nat_le (10 * n + (b - 48)) greatest then number_from greatest (10 * n + (b - 48)) text else None) else Some (n, b ∷ text)

-- the number that is spelled at the front, none past the greatest, and what is after it
unfoldable pub number_at : ℕ → List ℕ → Option (ℕ × List ℕ)
number_at greatest [] = None
number_at greatest (b ∷ text) = if b == 48 then Some (0, text) else (if is_digit b then number_from greatest (b - 48) text else None)

-- a number as it stands
abbrev pub risen : Option (ℕ × List ℕ) → Option (ℤ × List ℕ)
risen None = None
risen (Some (n, rest)) = Some (pos n, rest)

-- a number below zero
abbrev pub sunken : Option (ℕ × List ℕ) → Option (ℤ × List ℕ)
sunken None = None
sunken (Some (zero, rest)) = None
sunken (Some (suc n, rest)) = Some (negsuc n, rest)

-- the integer of 64 bits that is spelled at the front, and what is after it
unfoldable pub int_at : List ℕ → Option (ℤ × List ℕ)
int_at [] = None
int_at (b ∷ text) = if b == 45 then sunken (number_at (2 ^ 63) text) else risen (number_at (2 ^ 63 - 1) (b ∷ text))
