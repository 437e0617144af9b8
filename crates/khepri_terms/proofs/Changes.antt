-- A record with a field more is a record where it is small.
use Rattle.std.proofs.Common.{◌≡◌, ℕ, ◌+◌, ◌<◌, ◌≤◌, true, leb, List, [], ◌∷◌, length, refl, ap, ◌∙◌, arith}
use Rattle.std.proofs.lemmas.Bool.Decides.{nat_tests}
use Rattle.std.proofs.lemmas.Bool.{and_from}
use Rattle.std.proofs.lemmas.List.{length-append}
use Rattle.std.proofs.lemmas.Cmp.{nat_list_cmp_total}
use Rattle.std.specs.List.{AllByRecursion}
use Rattle.std.specs.Ordering.{nat_cmp, is_lt, match_ordering}
use Rattle.std.specs.Cmp.Lexicographic.{slice_cmp}
use Rattle.std.specs.declared.cmp.Ordering.{Ordering}
use Rattle.std.specs.declared.cmp.Ordering.TheVariants.{Less, Equal, Greater}
use Rattle.percent_encoding.specs.Percent.{percent_encode_byte}
use Rattle.khepri_terms.specs.declared.scalar.Scalar.{Scalar}
use Rattle.khepri_terms.specs.declared.scalar.Scalar.TheVariants.{Int, Text}
use Rattle.khepri_terms.specs.declared.rec.Field.{Field}
use Rattle.khepri_terms.specs.Bytes.{byte_text, bytes_text}
use Rattle.khepri_terms.specs.Names.{name_text, IsNameBytes}
use Rattle.khepri_terms.specs.Records.{scalar_text, IsValue, IsScalar, field_text, IsField, fields_text, rec_text, keys_rise, IsRec, with_field, is_small}
use Rattle.khepri_terms.proofs.Cases.{and_true}

-- how two keys stand
abbrev keys : Field → Field → Ordering
keys f g = slice_cmp nat_cmp f.key g.key

abbrev put : Ordering → Field → Field → List Field → List Field
put o new f fs = match_ordering o (new ∷ f ∷ fs) (new ∷ fs) (f ∷ with_field new fs)

front_rises : (f new g : Field) (gs : List Field) (o : Ordering) → is_lt (keys f new) ≡ true → is_lt (keys f g) ≡ true → keys_rise (put o new g gs) ≡ true → keys_rise (f ∷ put o new g gs) ≡ true
front_rises f new g gs Less fn fg r = and_from _ _ fn r
front_rises f new g gs Equal fn fg r = and_from _ _ fn r
front_rises f new g gs Greater fn fg r = and_from _ _ fg r

less_back : (f new : Field) → keys new f ≡ Greater → is_lt (keys f new) ≡ true
less_back f new e =
    let back : keys f new ≡ Less = nat_list_cmp_total.antisymm f.key new.key ∙ cc in
    ap is_lt back

put_rises : (new f : Field) (fs : List Field) (o : Ordering) → keys new f ≡ o → keys_rise (f ∷ fs) ≡ true → (keys_rise fs ≡ true → keys_rise (with_field new fs) ≡ true) → keys_rise (put o new f fs) ≡ true
put_rises new f fs Less e r next = and_from _ _ (ap is_lt e) r
put_rises new f [] Equal e r next = refl
put_rises new f (g ∷ gs) Equal e r next =
    let both = and_true (is_lt (keys f g)) (keys_rise (g ∷ gs)) r in
    and_from _ _ (ap is_lt (nat_list_cmp_total.congr new.key f.key g.key e) ∙ both.0) both.1
put_rises new f [] Greater e r next = and_from _ _ (less_back f new e) refl
put_rises new f (g ∷ gs) Greater e r next =
    let both = and_true (is_lt (keys f g)) (keys_rise (g ∷ gs)) r in
    front_rises f new g gs (keys new g) (less_back f new e) both.0 (next both.1)

with_rises : (new : Field) (fs : List Field) → keys_rise fs ≡ true → keys_rise (with_field new fs) ≡ true
with_rises new [] r = refl
with_rises new (f ∷ fs) r = put_rises new f fs (keys new f) refl r (with_rises new fs)

put_all : (P : Field → Type 0) (new f : Field) (fs : List Field) (o : Ordering) → P new → AllByRecursion P (f ∷ fs) → AllByRecursion P (with_field new fs) → AllByRecursion P (put o new f fs)
put_all P new f fs Less p all next = (p, all)
put_all P new f fs Equal p all next = (p, all.1)
put_all P new f fs Greater p all next = (all.0, next)

with_all : (P : Field → Type 0) (new : Field) (fs : List Field) → P new → AllByRecursion P fs → AllByRecursion P (with_field new fs)
with_all P new [] p all = (p, tt)
with_all P new (f ∷ fs) p all = put_all P new f fs (keys new f) p all (with_all P new fs p all.1)

-- the first field's text is a part of the fields' text
first_part : (f : Field) (fs : List Field) → (length (field_text f) ≤ length (fields_text (f ∷ fs))) × (length (fields_text fs) ≤ length (fields_text (f ∷ fs)))
unfolding fields_text
first_part f [] = (omega arith, omega arith)
first_part f (g ∷ fs) = (omega (arith, length-append (field_text f) (44 ∷ fields_text (g ∷ fs))), omega (arith, length-append (field_text f) (44 ∷ fields_text (g ∷ fs))))

put_part : (new f : Field) (fs : List Field) (o : Ordering) → length (field_text new) ≤ length (fields_text (with_field new fs)) → length (field_text new) ≤ length (fields_text (put o new f fs))
put_part new f fs Less next = (first_part new (f ∷ fs)).0
put_part new f fs Equal next = (first_part new fs).0
put_part new f fs Greater next = omega (arith, (first_part f (with_field new fs)).1)

with_part : (new : Field) (fs : List Field) → length (field_text new) ≤ length (fields_text (with_field new fs))
with_part new [] = (first_part new []).0
with_part new (f ∷ fs) = put_part new f fs (keys new f) (with_part new fs)

byte_long : (b : ℕ) → 0 < length (byte_text b)
unfolding byte_text percent_encode_byte
byte_long b = grind arith

bytes_long : (bytes : List ℕ) → length bytes ≤ length (bytes_text bytes)
bytes_long [] = omega arith
bytes_long (b ∷ bytes) = omega (arith, length-append (byte_text b) (bytes_text bytes), byte_long b, bytes_long bytes)

short_value : (s : Scalar) → IsValue s → length (scalar_text s) ≤ 4096 → IsScalar s
unfolding scalar_text
short_value (Int z) v short = v
short_value (Text bytes) v short = (omega (arith, bytes_long bytes), v)

value_part : (f : Field) → length (scalar_text f.value) ≤ length (field_text f)
unfolding field_text
value_part f = omega (arith, length-append (name_text f.key) (61 ∷ scalar_text f.value))

rec_text-len : (fs : List Field) → length (rec_text fs) ≡ length (fields_text fs) + 2
unfolding rec_text
rec_text-len fs = omega (arith, length-append (123 ∷ fields_text fs) (125 ∷ []))

small_says : (fs : List Field) → is_small fs ≡ true → (length fs ≤ 64) × (length (rec_text fs) ≤ 4096)
unfolding is_small
small_says fs h =
    let both = and_true (leb (length fs) 64) (leb (length (rec_text fs)) 4096) h in
    (grind (arith, nat_tests), grind (arith, nat_tests))

pub with_is : (new : Field) (fs : List Field) → IsRec fs → IsNameBytes new.key → IsValue new.value → is_small (with_field new fs) ≡ true → IsRec (with_field new fs)
with_is new fs is key value small =
    let says = small_says (with_field new fs) small in
    let short : length (scalar_text new.value) ≤ 4096 = omega (arith, value_part new, with_part new fs, rec_text-len (with_field new fs), says.1) in
    record {
      fields = with_all IsField new fs (record { key = key; value = short_value new.value value short }) is.fields;
      rises = with_rises new fs is.rises;
      few = says.0;
      short = says.1;
    }

pub empty_is : IsRec []
unfolding rec_text fields_text
empty_is = record { fields = tt; rises = refl; few = omega arith; short = omega arith }
