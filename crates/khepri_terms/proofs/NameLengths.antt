-- How long the spellings of names are at most.
use Rattle.std.proofs.Common.{ℕ, ◌*◌, ◌≤◌, List, [], ◌∷◌, length, true, false, ◌≡◌, refl, arith}
use Rattle.std.proofs.lemmas.List.{length-append, length-drop}
use Rattle.khepri_terms.specs.Bytes.{byte_text, bytes_text}
use Rattle.khepri_terms.specs.Names.{is_dots, name_text, IsNameBytes}
use Rattle.percent_encoding.specs.Percent.{percent_encode_byte}

byte_short : (b : ℕ) → length (byte_text b) ≤ 3
unfolding byte_text percent_encode_byte
byte_short b = grind arith

bytes_short : (bytes : List ℕ) → length (bytes_text bytes) ≤ 3 * length bytes
bytes_short [] = omega arith
bytes_short (b ∷ bytes) = omega (arith, length-append (byte_text b) (bytes_text bytes), byte_short b, bytes_short bytes)

pub name_short : (bytes : List ℕ) → IsNameBytes bytes → length (name_text bytes) ≤ 765
unfolding name_text
name_short bytes is =
    elim (is_dots bytes) as (λ v. is_dots bytes ≡ v → length (name_text bytes) ≤ 765) [
      | true ↦ λ e. rw e (omega (arith, is.high, length-drop 1 bytes))
      | false ↦ λ e. rw e (omega (arith, is.high, bytes_short bytes))
    ] refl
