-- How scalars and records are spelled.
use Rattle.std.specs.Prelude.{◌≡◌, ℕ, zero, suc, ◌-◌, ◌≤◌, ◌<◌, ◌^◌, Bool, true, false, ◌&&◌, nat_le, nat_eq, ◌==◌, if◌then◌else◌, List, [], ◌∷◌, ◌++◌, length, Option, Some, None, ℤ}
use Rattle.std.specs.Fmt.{signed_decimal}
use Rattle.std.specs.Ordering.{nat_cmp, is_lt, match_ordering}
use Rattle.std.specs.Cmp.Lexicographic.{slice_cmp, pointwise}
use Rattle.std.specs.List.{AllByRecursion}
use lib.Signed.{mag}
use Rattle.khepri_terms.specs.declared.limits.TheConstants.{MAX_TEXT, MAX_FIELDS, MAX_REC_TEXT}
use Rattle.khepri_terms.specs.declared.scalar.Scalar.{Scalar}
use Rattle.khepri_terms.specs.declared.scalar.Scalar.TheVariants.{Int, Text}
use Rattle.khepri_terms.specs.declared.rec.Field.{Field}
use Rattle.khepri_terms.specs.Many.{◌>>=◌, onto}
use Rattle.khepri_terms.specs.Bytes.{bytes_text, bytes_at, AreBytes}
use Rattle.khepri_terms.specs.Names.{name_text, name_at, IsNameBytes}
use Rattle.khepri_terms.specs.Numbers.{int_at}

-- an integer, or `'` and the bytes of a text
unfoldable pub scalar_text : Scalar → List ℕ
scalar_text (Int z) = signed_decimal z
scalar_text (Text bytes) = 39 ∷ bytes_text bytes

-- a scalar of the program: an integer of 64 bits, or bytes
abbrev pub IsValue : Scalar → Type 0
IsValue (Int z) = mag z < 2 ^ 63
IsValue (Text bytes) = AreBytes bytes

-- a scalar that has a spelling: an integer of 64 bits, or at most 4,096 bytes
abbrev pub IsScalar : Scalar → Type 0
IsScalar (Int z) = mag z < 2 ^ 63
IsScalar (Text bytes) = (length bytes ≤ MAX_TEXT) × AreBytes bytes

-- the key, `=` and the value
unfoldable pub field_text : Field → List ℕ
field_text f = name_text f.key ++ 61 ∷ scalar_text f.value

-- a field that has a spelling
pub record IsField (f : Field) : Type 0 where
  pub key : IsNameBytes f.key
  pub value : IsScalar f.value

-- fields joined by `,`
unfoldable pub fields_text : List Field → List ℕ
fields_text [] = []
fields_text (f ∷ []) = field_text f
fields_text (f ∷ g ∷ fs) = field_text f ++ 44 ∷ fields_text (g ∷ fs)

-- the fields between `{` and `}`
unfoldable pub rec_text : List Field → List ℕ
rec_text fs = 123 ∷ fields_text fs ++ 125 ∷ []

-- the keys rise strictly by their bytes
abbrev pub keys_rise : List Field → Bool
keys_rise [] = true
keys_rise (f ∷ []) = true
keys_rise (f ∷ g ∷ fs) = is_lt (slice_cmp nat_cmp f.key g.key) && keys_rise (g ∷ fs)

-- a record that has a spelling
pub record IsRec (fs : List Field) : Type 0 where
  pub fields : AllByRecursion IsField fs
  pub rises : keys_rise fs ≡ true
  pub few : length fs ≤ MAX_FIELDS
  pub short : length (rec_text fs) ≤ MAX_REC_TEXT

abbrev pub int_of : Option (ℤ × List ℕ) → Option (Scalar × List ℕ)
int_of None = None
int_of (Some x) = Some (Int x.0, x.1)

abbrev pub text_of : List ℕ × List ℕ → Scalar × List ℕ
text_of x = (Text x.0, x.1)

-- the scalar that is spelled at the front, and what is after it
unfoldable pub scalar_at : List ℕ → Option (Scalar × List ℕ)
scalar_at [] = None
scalar_at (b ∷ text) = if b == 39 then Some (text_of (bytes_at MAX_TEXT text)) else int_of (int_at (b ∷ text))

-- the scalar behind a `=`
unfoldable pub value_at : List ℕ → Option (Scalar × List ℕ)
value_at [] = None
value_at (b ∷ text) = if b == 61 then scalar_at text else None

-- the field that is spelled at the front, and what is after it
unfoldable pub field_at : List ℕ → Option (Field × List ℕ)
field_at text = do
  key ← name_at text
  value ← value_at key.1
  Some (record { key = key.0; value = value.0 }, value.1)

-- a field before the others, where these were found
abbrev pub onto_found : Field → Option (List Field × List ℕ) → Option (List Field × List ℕ)
onto_found f None = None
onto_found f (Some x) = Some (onto f x)

-- whether the record ends behind a field, by `}`, or goes on, by `,`; and what is after that
unfoldable pub end_at : List ℕ → Option (Bool × List ℕ)
end_at [] = None
end_at (b ∷ text) = if b == 125 then Some (true, text) else (if b == 44 then Some (false, text) else None)

-- 1 to n fields joined by `,` and the `}` behind them, and what is after it
unfoldable pub fields_at : ℕ → List ℕ → Option (List Field × List ℕ)
fields_at zero text = None
fields_at (suc n) text = field_at text >>= λ f. end_at f.1 >>= λ e. if e.0 then Some (f.0 ∷ [], e.1) else (onto_found f.0 (fields_at n e.1))

-- the fields behind a `{` to the `}`
unfoldable pub inner_at : List ℕ → Option (List Field × List ℕ)
inner_at [] = None
inner_at (b ∷ text) = if b == 125 then Some ([], text) else fields_at MAX_FIELDS (b ∷ text)

-- the fields from a `{` to the `}`
unfoldable pub opened_at : List ℕ → Option (List Field × List ℕ)
opened_at [] = None
opened_at (b ∷ text) = if b == 123 then inner_at text else None

-- the fields are a record, and no more than 4,096 bytes of the text were taken
unfoldable pub checked : List ℕ → List Field × List ℕ → Option (List Field × List ℕ)
checked text x = if keys_rise x.0 && nat_le (length text - length x.1) MAX_REC_TEXT then Some x else None

-- the record that is spelled at the front, and what is after it
unfoldable pub rec_at : List ℕ → Option (List Field × List ℕ)
rec_at text = opened_at text >>= λ x. checked text x

-- the value of a key
abbrev pub field_of : List ℕ → List Field → Option Scalar
field_of key [] = None
field_of key (f ∷ fs) = if pointwise nat_eq key f.key then Some f.value else field_of key fs

-- the fields with this one at its place, and at that of its key
abbrev pub with_field : Field → List Field → List Field
with_field new [] = new ∷ []
with_field new (f ∷ fs) = match_ordering (slice_cmp nat_cmp new.key f.key) (new ∷ f ∷ fs) (new ∷ fs) (f ∷ with_field new fs)

-- the limits of a record
unfoldable pub is_small : List Field → Bool
is_small fs = nat_le (length fs) MAX_FIELDS && nat_le (length (rec_text fs)) MAX_REC_TEXT

-- the text begins with the spelling of this record, and of no other
pub record OnlyRec (text : List ℕ) (fs : List Field) (rest : List ℕ) : Type 0 where
  pub parts : text ≡ rec_text fs ++ rest
  pub is : IsRec fs
  pub only : (others : List Field) (after : List ℕ) → IsRec others → text ≡ rec_text others ++ after → (others ≡ fs) × (after ≡ rest)

-- no record is spelled at the front of the text
abbrev pub BeginsNoRec : List ℕ → Type 0
BeginsNoRec text = (fs : List Field) (rest : List ℕ) → IsRec fs → text ≡ rec_text fs ++ rest → ⊥
