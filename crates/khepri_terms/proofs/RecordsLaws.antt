-- What is read of records is spelled so, and what is spelled so is read.
use Rattle.std.proofs.Common.{◌≡◌, ℕ, zero, suc, ◌-◌, ◌<◌, ◌≤◌, Bool, true, false, cond, eqb, leb, ◌&&◌, ⊎_elim, List, [], ◌∷◌, ◌++◌, length, ℤ, refl, sym, ap, subst, ◌∙◌, append_assoc, arith, Option, Some, None}
use Rattle.std.proofs.lemmas.Bool.Decides.{nat_tests}
use Rattle.std.proofs.lemmas.Bool.{eqb-true, cond-true, cond-false, le-leb}
use Rattle.std.proofs.lemmas.List.{append-nil, length-append}
use Rattle.std.specs.List.{AllByRecursion}
use Rattle.std.specs.Fmt.{signed_decimal}
use Rattle.khepri_terms.specs.declared.scalar.Scalar.{Scalar}
use Rattle.khepri_terms.specs.declared.scalar.Scalar.TheVariants.{Int, Text}
use Rattle.khepri_terms.specs.declared.rec.Field.{Field}
use Rattle.khepri_terms.specs.Many.{◌>>=◌, onto}
use Rattle.khepri_terms.specs.Bytes.{is_plain, bytes_text, byte_at, bytes_at}
use Rattle.khepri_terms.specs.Names.{name_text, Stops, undotted, name_at}
use Rattle.khepri_terms.specs.Numbers.{is_digit, number_at, int_at}
use Rattle.khepri_terms.specs.Records.{scalar_text, IsScalar, field_text, IsField, fields_text, rec_text, keys_rise, IsRec, int_of, text_of, scalar_at, value_at, field_at, end_at, onto_found, fields_at, inner_at, opened_at, checked, rec_at}
use Rattle.khepri_terms.proofs.Cases.{bind_some, if_some, guard_some, some_is, and_true, or_false}
use Rattle.khepri_terms.proofs.Reading.{ahead, many-end}
use Rattle.khepri_terms.proofs.BytesLaws.{bytes_takes, bytes_again}
use Rattle.khepri_terms.proofs.NamesLaws.{name_takes, name_again, stops_none, first_no_dot, name_at-other, nothing_named}
use Rattle.khepri_terms.proofs.NumbersLaws.{Halts, int_takes, int_again}
use Rattle.khepri_terms.proofs.FieldsReading.{fields_step, fields_none}

-- ---- scalars

int_of_takes : (o : Option (ℤ × List ℕ)) (x : Scalar × List ℕ) → int_of o ≡ Some x → (y : ℤ × List ℕ) × (o ≡ Some y) × ((Int y.0, y.1) ≡ x)
int_of_takes None x e = absurd cc
int_of_takes (Some y) x e = (y, refl, some_is (Int y.0, y.1) x e)

pub scalar_takes : (text : List ℕ) (x : Scalar × List ℕ) → scalar_at text ≡ Some x → (text ≡ scalar_text x.0 ++ x.1) × IsScalar x.0
unfolding scalar_at scalar_text
scalar_takes [] x e = absurd cc
scalar_takes (b ∷ text) x e =
    ⊎_elim
    (λ (p : (eqb b 39 ≡ true) × (Some (text_of (bytes_at 4096 text)) ≡ Some x)).
    let t = bytes_takes 4096 text in
    subst (λ (y : Scalar × List ℕ). (b ∷ text ≡ scalar_text y.0 ++ y.1) × IsScalar y.0) (some_is (text_of (bytes_at 4096 text)) x p.1)
    ((λ i. eqb-true b 39 p.0 i ∷ t.parts i), (t.few, t.all)))
    (λ (p : (eqb b 39 ≡ false) × (int_of (int_at (b ∷ text)) ≡ Some x)).
    let s = int_of_takes (int_at (b ∷ text)) x p.1 in
    let t = int_takes (b ∷ text) s.0 s.1 in
    subst (λ (y : Scalar × List ℕ). (b ∷ text ≡ scalar_text y.0 ++ y.1) × IsScalar y.0) s.2 t)
    (if_some (eqb b 39) (Some (text_of (bytes_at 4096 text))) (int_of (int_at (b ∷ text))) x e)

-- digits are bytes that stand for themselves
digit_plain : (b : ℕ) → is_plain b ≡ false → is_digit b ≡ false
unfolding is_plain
digit_plain b p = grind (arith, nat_tests)

stops_halt : (rest : List ℕ) → Stops rest → Halts rest
stops_halt [] s = tt
stops_halt (b ∷ rest) s = digit_plain b (or_false (is_plain b) (eqb b 37) s).0

quote_is_none : (text : List ℕ) → int_at (39 ∷ text) ≡ None
unfolding int_at number_at
quote_is_none text = refl

no_int : int_at [] ≡ None
unfolding int_at
no_int = refl

int_is_scalar : (text : List ℕ) (x : ℤ × List ℕ) → int_at text ≡ Some x → scalar_at text ≡ Some (Int x.0, x.1)
unfolding scalar_at
int_is_scalar [] x e = let n = no_int in absurd cc
int_is_scalar (b ∷ text) x e =
    let no-quote : eqb b 39 ≡ false = elim (eqb b 39) as (λ v. eqb b 39 ≡ v → v ≡ false) [
      | true ↦ λ p. let n : int_at (b ∷ text) ≡ None = ap (λ (k : ℕ). int_at (k ∷ text)) (eqb-true b 39 p) ∙ quote_is_none text in absurd cc
      | false ↦ λ p. refl
    ] refl in
    cond-false _ _ _ no-quote ∙ ap int_of e

quote_is_scalar : (text : List ℕ) → scalar_at (39 ∷ text) ≡ Some (text_of (bytes_at 4096 text))
unfolding scalar_at
quote_is_scalar text = refl

pub scalar_again : (s : Scalar) (rest : List ℕ) → IsScalar s → Stops rest → scalar_at (scalar_text s ++ rest) ≡ Some (s, rest)
unfolding scalar_text
scalar_again (Int z) rest is s = int_is_scalar (signed_decimal z ++ rest) (z, rest) (int_again z rest is (stops_halt rest s))
scalar_again (Text bytes) rest is s =
    let high : length bytes ≤ 4096 = is.0 in
    quote_is_scalar (bytes_text bytes ++ rest)
    ∙ (ap (λ (f : List ℕ × List ℕ). Some (text_of f)) (bytes_again bytes 4096 (4096 - length bytes) rest is.1 (omega arith))
    ∙ (ap (λ (f : List ℕ × List ℕ). Some (text_of (ahead bytes f))) (many-end byte_at (4096 - length bytes) rest (stops_none rest s))
    ∙ ap (λ (t : List ℕ). Some (Text t, rest)) (append-nil bytes)))

-- ---- fields

value_takes : (text : List ℕ) (x : Scalar × List ℕ) → value_at text ≡ Some x → (text ≡ 61 ∷ scalar_text x.0 ++ x.1) × IsScalar x.0
unfolding value_at
value_takes [] x e = absurd cc
value_takes (b ∷ text) x e =
    let g = guard_some (eqb b 61) (scalar_at text) x e in
    let t = scalar_takes text x g.1 in
    ((λ i. eqb-true b 61 g.0 i ∷ t.0 i), t.1)

value_again : (s : Scalar) (rest : List ℕ) → IsScalar s → Stops rest → value_at (61 ∷ (scalar_text s ++ rest)) ≡ Some (s, rest)
unfolding value_at
value_again s rest is stop = scalar_again s rest is stop

pub field_takes : (text : List ℕ) (x : Field × List ℕ) → field_at text ≡ Some x → (text ≡ field_text x.0 ++ x.1) × IsField x.0
unfolding field_at field_text
field_takes text x e =
    let a = bind_some (name_at text) (λ key. value_at key.1 >>= λ value. Some (record { key = key.0; value = value.0 }, value.1)) x e in
    let b = bind_some (value_at a.0.1) (λ value. Some (record { key = a.0.0; value = value.0 }, value.1)) x a.2 in
    let made : Field × List ℕ = (record { key = a.0.0; value = b.0.0 }, b.0.1) in
    let key = name_takes text a.0 a.1 in
    let value = value_takes a.0.1 b.0 b.1 in
    let parts : text ≡ (name_text a.0.0 ++ 61 ∷ scalar_text b.0.0) ++ b.0.1 = key.0 ∙ (ap (λ (t : List ℕ). name_text a.0.0 ++ t) value.0 ∙ sym (append_assoc (name_text a.0.0) (61 ∷ scalar_text b.0.0) b.0.1)) in
    subst (λ (y : Field × List ℕ). (text ≡ (name_text y.0.key ++ 61 ∷ scalar_text y.0.value) ++ y.1) × IsField y.0) (some_is made x b.2) (parts, record { key = key.1; value = value.1 })

equals_stops : (text : List ℕ) → Stops (61 ∷ text)
unfolding is_plain
equals_stops text = refl

pub field_again : (f : Field) (rest : List ℕ) → IsField f → Stops rest → field_at (field_text f ++ rest) ≡ Some (f, rest)
unfolding field_at field_text
field_again f rest is s =
    let later : List ℕ = 61 ∷ (scalar_text f.value ++ rest) in
    ap (λ (t : List ℕ). name_at t >>= λ key. value_at key.1 >>= λ value. Some (record { key = key.0; value = value.0 }, value.1)) (append_assoc (name_text f.key) (61 ∷ scalar_text f.value) rest)
    ∙ (ap (λ (o : Option (List ℕ × List ℕ)). o >>= λ key. value_at key.1 >>= λ value. Some (record { key = key.0; value = value.0 }, value.1)) (name_again f.key later is.key (equals_stops (scalar_text f.value ++ rest)))
    ∙ ap (λ (o : Option (Scalar × List ℕ)). o >>= λ value. Some (record { key = f.key; value = value.0 }, value.1)) (value_again f.value rest is.value s))

-- ---- records

-- the sign behind a field
abbrev sign : Bool → ℕ
sign last = cond last 125 44

end_takes : (text : List ℕ) (x : Bool × List ℕ) → end_at text ≡ Some x → text ≡ sign x.0 ∷ x.1
unfolding end_at
end_takes [] x e = absurd cc
end_takes (b ∷ text) x e =
    ⊎_elim
    (λ (p : (eqb b 125 ≡ true) × (Some (true, text) ≡ Some x)). subst (λ (y : Bool × List ℕ). b ∷ text ≡ sign y.0 ∷ y.1) (some_is (true, text) x p.1) (ap (λ (n : ℕ). n ∷ text) (eqb-true b 125 p.0)))
    (λ (p : (eqb b 125 ≡ false) × (cond (eqb b 44) (Some (false, text)) None ≡ Some x)).
    let q = guard_some (eqb b 44) (Some (false, text)) x p.1 in
    subst (λ (y : Bool × List ℕ). b ∷ text ≡ sign y.0 ∷ y.1) (some_is (false, text) x q.1) (ap (λ (n : ℕ). n ∷ text) (eqb-true b 44 q.0)))
    (if_some (eqb b 125) (Some (true, text)) (cond (eqb b 44) (Some (false, text)) None) x e)

end_again : (last : Bool) (rest : List ℕ) → end_at (sign last ∷ rest) ≡ Some (last, rest)
unfolding end_at
end_again true rest = refl
end_again false rest = refl

sign_stops : (last : Bool) (rest : List ℕ) → Stops (sign last ∷ rest)
unfolding is_plain
sign_stops true rest = refl
sign_stops false rest = refl

pub fields_text-one : (f : Field) → fields_text (f ∷ []) ≡ field_text f
unfolding fields_text
fields_text-one f = refl

pub fields_text-more : (f : Field) (fs : List Field) → 0 < length fs → fields_text (f ∷ fs) ≡ field_text f ++ 44 ∷ fields_text fs
unfolding fields_text
fields_text-more f [] lt = absurd (omega arith)
fields_text-more f (g ∷ fs) lt = refl

pub record Read (n : ℕ) (text : List ℕ) (x : List Field × List ℕ) : Type 0 where
  pub parts : text ≡ fields_text x.0 ++ 125 ∷ x.1
  pub all : AllByRecursion IsField x.0
  pub few : length x.0 ≤ n
  pub some : 0 < length x.0

found_takes : (f : Field) (o : Option (List Field × List ℕ)) (x : List Field × List ℕ) → onto_found f o ≡ Some x → (y : List Field × List ℕ) × (o ≡ Some y) × (onto f y ≡ x)
found_takes f None x e = absurd cc
found_takes f (Some y) x e = (y, refl, some_is (onto f y) x e)

one_read : (n : ℕ) (text after rest : List ℕ) (f : Field) → text ≡ field_text f ++ after → after ≡ 125 ∷ rest → IsField f → Read (suc n) text (f ∷ [], rest)
one_read n text after rest f e a is =
    record { parts = e ∙ (ap (λ (t : List ℕ). field_text f ++ t) a ∙ ap (λ (t : List ℕ). t ++ 125 ∷ rest) (sym (fields_text-one f))); all = (is, tt); few = omega arith; some = omega arith }

more_read : (n : ℕ) (text after rest : List ℕ) (f : Field) (y : List Field × List ℕ) → text ≡ field_text f ++ after → after ≡ 44 ∷ rest → IsField f → Read n rest y → Read (suc n) text (onto f y)
more_read n text after rest f y e a is r =
    record {
      parts = e ∙ (ap (λ (t : List ℕ). field_text f ++ t) (a ∙ ap (λ (t : List ℕ). 44 ∷ t) r.parts)
          ∙ (sym (append_assoc (field_text f) (44 ∷ fields_text y.0) (125 ∷ y.1)) ∙ ap (λ (t : List ℕ). t ++ 125 ∷ y.1) (sym (fields_text-more f y.0 r.some))));
      all = (is, r.all);
      few = omega (arith, r.few);
      some = omega arith;
    }

pub fields_take : (n : ℕ) (text : List ℕ) (x : List Field × List ℕ) → fields_at n text ≡ Some x → Read n text x
unfolding fields_at
fields_take zero text x e = absurd cc
fields_take (suc n) text x e =
    let a = bind_some (field_at text) (λ f. end_at f.1 >>= λ e. cond e.0 (Some (f.0 ∷ [], e.1)) (onto_found f.0 (fields_at n e.1))) x e in
    let f = a.0.0 in
    let b = bind_some (end_at a.0.1) (λ e. cond e.0 (Some (f ∷ [], e.1)) (onto_found f (fields_at n e.1))) x a.2 in
    let t = field_takes text a.0 a.1 in
    let s = end_takes a.0.1 b.0 b.1 in
    ⊎_elim
    (λ (p : (b.0.0 ≡ true) × (Some (f ∷ [], b.0.1) ≡ Some x)).
    subst (Read (suc n) text) (some_is (f ∷ [], b.0.1) x p.1) (one_read n text a.0.1 b.0.1 f t.0 (s ∙ ap (λ (l : Bool). sign l ∷ b.0.1) p.0) t.1))
    (λ (p : (b.0.0 ≡ false) × (onto_found f (fields_at n b.0.1) ≡ Some x)).
    let j = found_takes f (fields_at n b.0.1) x p.1 in
    subst (Read (suc n) text) j.2 (more_read n text a.0.1 b.0.1 f j.0 t.0 (s ∙ ap (λ (l : Bool). sign l ∷ b.0.1) p.0) t.1 (fields_take n b.0.1 j.0 j.1)))
    (if_some b.0.0 (Some (f ∷ [], b.0.1)) (onto_found f (fields_at n b.0.1)) x b.2)

pub fields_again : (fs : List Field) (n : ℕ) (rest : List ℕ) → 0 < length fs → length fs ≤ n → AllByRecursion IsField fs → fields_at n (fields_text fs ++ 125 ∷ rest) ≡ Some (fs, rest)
fields_again [] n rest lt le all = absurd (omega arith)
fields_again (f ∷ []) n rest lt le all =
    ap (λ (t : List ℕ). fields_at n (t ++ 125 ∷ rest)) (fields_text-one f)
    ∙ fields_step n (n - 1) f true (field_text f ++ 125 ∷ rest) (125 ∷ rest) rest (omega arith) (field_again f (125 ∷ rest) all.0 (sign_stops true rest)) (end_again true rest)
fields_again (f ∷ g ∷ fs) n rest lt le all =
    let later : List ℕ = fields_text (g ∷ fs) ++ 125 ∷ rest in
    ap (λ (t : List ℕ). fields_at n (t ++ 125 ∷ rest)) (fields_text-more f (g ∷ fs) (omega arith))
    ∙ (ap (fields_at n) (append_assoc (field_text f) (44 ∷ fields_text (g ∷ fs)) (125 ∷ rest))
    ∙ (fields_step n (n - 1) f false (field_text f ++ 44 ∷ later) (44 ∷ later) later (omega arith) (field_again f (44 ∷ later) all.0 (sign_stops false later)) (end_again false later)
    ∙ ap (onto_found f) (fields_again (g ∷ fs) (n - 1) rest (omega arith) (omega arith) all.1)))

-- what stands between `{` and `}`, and what is after it
pub record Inner (text : List ℕ) (x : List Field × List ℕ) : Type 0 where
  pub parts : text ≡ fields_text x.0 ++ 125 ∷ x.1
  pub all : AllByRecursion IsField x.0
  pub few : length x.0 ≤ 64

no_fields_text : fields_text [] ≡ []
unfolding fields_text
no_fields_text = refl

inner_takes : (text : List ℕ) (x : List Field × List ℕ) → inner_at text ≡ Some x → Inner text x
unfolding inner_at
inner_takes [] x e = absurd cc
inner_takes (b ∷ text) x e =
    ⊎_elim
    (λ (p : (eqb b 125 ≡ true) × (Some ([], text) ≡ Some x)).
    subst (Inner (b ∷ text)) (some_is ([], text) x p.1) (record { parts = ap (λ (n : ℕ). n ∷ text) (eqb-true b 125 p.0) ∙ ap (λ (t : List ℕ). t ++ 125 ∷ text) (sym no_fields_text); all = tt; few = omega arith }))
    (λ (p : (eqb b 125 ≡ false) × (fields_at 64 (b ∷ text) ≡ Some x)).
    let r = fields_take 64 (b ∷ text) x p.1 in
    record { parts = r.parts; all = r.all; few = r.few })
    (if_some (eqb b 125) (Some ([], text)) (fields_at 64 (b ∷ text)) x e)

-- no name begins with `}`
brace_is_none : (text : List ℕ) → byte_at (125 ∷ text) ≡ None
unfolding byte_at is_plain
brace_is_none text = refl

no_field : (text : List ℕ) → field_at (125 ∷ text) ≡ None
unfolding field_at
no_field text =
    let none : name_at (125 ∷ text) ≡ None = name_at-other (125 ∷ text) (first_no_dot 125 text refl) ∙ ap undotted (many-end byte_at 255 (125 ∷ text) (brace_is_none text)) in
    ap (λ (o : Option (List ℕ × List ℕ)). o >>= λ key. value_at key.1 >>= λ value. Some (record { key = key.0; value = value.0 }, value.1)) none

no_field_of_nothing : field_at [] ≡ None
unfolding field_at
no_field_of_nothing = ap (λ (o : Option (List ℕ × List ℕ)). o >>= λ key. value_at key.1 >>= λ value. Some (record { key = key.0; value = value.0 }, value.1)) nothing_named

nothing_inside : fields_at 64 [] ≡ None
nothing_inside = fields_none 64 [] no_field_of_nothing

fields_inside : (text : List ℕ) (x : List Field × List ℕ) → fields_at 64 text ≡ Some x → inner_at text ≡ Some x
unfolding inner_at
fields_inside [] x e = let n = nothing_inside in absurd cc
fields_inside (b ∷ text) x e =
    let no-brace : eqb b 125 ≡ false = elim (eqb b 125) as (λ v. eqb b 125 ≡ v → v ≡ false) [
      | true ↦ λ p. let n : fields_at 64 (b ∷ text) ≡ None = ap (λ (k : ℕ). fields_at 64 (k ∷ text)) (eqb-true b 125 p) ∙ fields_none 64 (125 ∷ text) (no_field text) in absurd cc
      | false ↦ λ p. refl
    ] refl in
    cond-false _ _ _ no-brace ∙ e

brace_inside : (rest : List ℕ) → inner_at (125 ∷ rest) ≡ Some ([], rest)
unfolding inner_at
brace_inside rest = refl

inner_again : (fs : List Field) (rest : List ℕ) → length fs ≤ 64 → AllByRecursion IsField fs → inner_at (fields_text fs ++ 125 ∷ rest) ≡ Some (fs, rest)
inner_again [] rest le all = ap (λ (t : List ℕ). inner_at (t ++ 125 ∷ rest)) no_fields_text ∙ brace_inside rest
inner_again (f ∷ fs) rest le all = fields_inside (fields_text (f ∷ fs) ++ 125 ∷ rest) (f ∷ fs, rest) (fields_again (f ∷ fs) 64 rest (omega arith) le all)

rec_text-is : (fs : List Field) (rest : List ℕ) → rec_text fs ++ rest ≡ 123 ∷ (fields_text fs ++ 125 ∷ rest)
unfolding rec_text
rec_text-is fs rest = append_assoc (123 ∷ fields_text fs) (125 ∷ []) rest

opened_takes : (text : List ℕ) (x : List Field × List ℕ) → opened_at text ≡ Some x → (text ≡ rec_text x.0 ++ x.1) × AllByRecursion IsField x.0 × (length x.0 ≤ 64)
unfolding opened_at
opened_takes [] x e = absurd cc
opened_takes (b ∷ text) x e =
    let g = guard_some (eqb b 123) (inner_at text) x e in
    let i = inner_takes text x g.1 in
    ((λ j. eqb-true b 123 g.0 j ∷ i.parts j) ∙ sym (rec_text-is x.0 x.1), i.all, i.few)

opened_again : (fs : List Field) (rest : List ℕ) → length fs ≤ 64 → AllByRecursion IsField fs → opened_at (rec_text fs ++ rest) ≡ Some (fs, rest)
unfolding opened_at
opened_again fs rest le all = rw (rec_text-is fs rest) (inner_again fs rest le all)

-- fields that were read are a record where their keys rise and their text is short
pub record_is : (text rest : List ℕ) (fs : List Field) → opened_at text ≡ Some (fs, rest) → keys_rise fs ≡ true → length text - length rest ≤ 4096 → IsRec fs
record_is text rest fs e rises short =
    let o = opened_takes text (fs, rest) e in
    record { fields = o.1; rises = rises; few = o.2; short = omega (arith, ap length o.0, length-append (rec_text fs) rest) }

pub rec_takes : (text : List ℕ) (x : List Field × List ℕ) → rec_at text ≡ Some x → (text ≡ rec_text x.0 ++ x.1) × IsRec x.0
unfolding rec_at checked
rec_takes text x e =
    let a = bind_some (opened_at text) (λ y. checked text y) x e in
    let y = a.0 in
    let g = guard_some (keys_rise y.0 && leb (length text - length y.1) 4096) (Some y) x a.2 in
    let both = and_true (keys_rise y.0) (leb (length text - length y.1) 4096) g.0 in
    let short : length text - length y.1 ≤ 4096 = grind (arith, nat_tests) in
    let o = opened_takes text y a.1 in
    subst (λ (z : List Field × List ℕ). (text ≡ rec_text z.0 ++ z.1) × IsRec z.0) (some_is y x g.1) (o.0, record_is text y.1 y.0 a.1 both.0 short)

pub rec_again : (fs : List Field) (rest : List ℕ) → IsRec fs → rec_at (rec_text fs ++ rest) ≡ Some (fs, rest)
unfolding rec_at checked
rec_again fs rest is =
    let text : List ℕ = rec_text fs ++ rest in
    let short : length text - length rest ≤ 4096 = omega (arith, is.short, length-append (rec_text fs) rest) in
    let fits : (keys_rise fs && leb (length text - length rest) 4096) ≡ true = ap (λ (t : Bool). t && leb (length text - length rest) 4096) is.rises ∙ le-leb _ _ short in
    ap (λ (o : Option (List Field × List ℕ)). o >>= λ y. checked text y) (opened_again fs rest is.few is.fields) ∙ cond-true _ _ _ fits
