-- Where bytes lie.
use Rattle.std.specs.Prelude.{ℕ, ◌≤◌, List, take}
use Rattle.khepri_terms.specs.declared.bytes.TheConstants.{INLINE}
use Rattle.khepri_terms.specs.declared.bytes.Place.{Place}
use Rattle.khepri_terms.specs.declared.bytes.Place.TheVariants.{Inline, Heap}

-- the bytes themselves
abbrev pub bytes_of : Place → List ℕ
bytes_of (Inline bytes len) = take len bytes
bytes_of (Heap items) = items.items

-- the array has as many as are said to lie in it
abbrev pub IsWithin : Place → Type 0
IsWithin (Inline bytes len) = len ≤ INLINE
IsWithin (Heap items) = Unit {0}
