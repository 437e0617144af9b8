-- How the loop over fields goes on.
use Rattle.std.proofs.Common.{◌≡◌, ℕ, zero, suc, ◌+◌, ◌-◌, ◌<◌, Bool, true, false, cond, List, [], ◌∷◌, ◌++◌, length, refl, sym, ap, ◌∙◌, append_assoc, arith, Option, Some, None}
use Rattle.std.proofs.lemmas.List.{length-append}
use Rattle.khepri_terms.specs.declared.rec.Field.{Field}
use Rattle.khepri_terms.specs.Many.{◌>>=◌}
use Rattle.khepri_terms.specs.Records.{field_at, end_at, onto_found, fields_at}
use Rattle.khepri_terms.proofs.Reading.{beyond}

-- the step of the definition
fields_at-suc : (n : ℕ) (text : List ℕ) → fields_at (suc n) text ≡ (field_at text >>= λ f. end_at f.1 >>= λ e. cond e.0 (Some (f.0 ∷ [], e.1)) (onto_found f.0 (fields_at n e.1)))
unfolding fields_at
fields_at-suc n text = refl

fields_at-zero : (text : List ℕ) → fields_at 0 text ≡ None
unfolding fields_at
fields_at-zero text = refl

abbrev ending : ℕ → Field → Bool × List ℕ → Option (List Field × List ℕ)
ending n f e = cond e.0 (Some (f ∷ [], e.1)) (onto_found f (fields_at n e.1))

abbrev behind : ℕ → Field × List ℕ → Option (List Field × List ℕ)
behind n f = end_at f.1 >>= λ e. ending n f.0 e

pub fields_step : (m n : ℕ) (f : Field) (last : Bool) (text after rest : List ℕ) → m ≡ suc n → field_at text ≡ Some (f, after) → end_at after ≡ Some (last, rest)
    → fields_at m text ≡ cond last (Some (f ∷ [], rest)) (onto_found f (fields_at n rest))
fields_step m n f last text after rest e field end =
    ap (λ (k : ℕ). fields_at k text) e
    ∙ (fields_at-suc n text
    ∙ (ap (λ (o : Option (Field × List ℕ)). o >>= λ x. behind n x) field
    ∙ ap (λ (o : Option (Bool × List ℕ)). o >>= λ x. ending n f x) end))

pub fields_none : (m : ℕ) (text : List ℕ) → field_at text ≡ None → fields_at m text ≡ None
fields_none zero text none = fields_at-zero text
fields_none (suc n) text none = fields_at-suc n text ∙ ap (λ (o : Option (Field × List ℕ)). o >>= λ x. behind n x) none

pub fields_odd : (m : ℕ) (f : Field) (text after : List ℕ) → field_at text ≡ Some (f, after) → end_at after ≡ None → fields_at m text ≡ None
fields_odd zero f text after field none = fields_at-zero text
fields_odd (suc n) f text after field none =
    fields_at-suc n text ∙ (ap (λ (o : Option (Field × List ℕ)). o >>= λ x. behind n x) field ∙ ap (λ (o : Option (Bool × List ℕ)). o >>= λ x. ending n f x) none)

pub fields_past : (m : ℕ) (text : List ℕ) → m ≡ 0 → fields_at m text ≡ None
fields_past m text e = ap (λ (k : ℕ). fields_at k text) e ∙ fields_at-zero text

beyond_none : {X Y : Type 0} (xs : List X) (o : Option (List X × Y)) → o ≡ None → beyond xs o ≡ None
beyond_none {X = X} {Y = Y} xs o e = ap (λ (p : Option (List X × Y)). beyond xs p) e

beyond_found : (fs : List Field) (f : Field) (o : Option (List Field × List ℕ)) → beyond fs (onto_found f o) ≡ beyond (fs ++ f ∷ []) o
beyond_found fs f None = refl
beyond_found fs f (Some x) = ap (λ (gs : List Field). Some (gs, x.1)) (sym (append_assoc fs (f ∷ []) x.0))

-- a turn of the loop that reads the last field
pub fields_last : (total : Option (List Field × List ℕ)) (fs gs : List Field) (f : Field) (text after rest : List ℕ) → length fs < 64 → field_at text ≡ Some (f, after) → end_at after ≡ Some (true, rest) → gs ≡ fs ++ f ∷ []
    → total ≡ beyond fs (fields_at (64 - length fs) text) → total ≡ Some (gs, rest)
fields_last total fs gs f text after rest lt field end e so_far =
    so_far
    ∙ (ap (beyond fs) (fields_step (64 - length fs) (64 - (length fs + 1)) f true text after rest (omega arith) field end)
    ∙ ap (λ (hs : List Field). Some (hs, rest)) (sym e))

-- a turn of the loop that goes on
pub fields_on : (total : Option (List Field × List ℕ)) (fs gs : List Field) (f : Field) (text after rest : List ℕ) → length fs < 64 → field_at text ≡ Some (f, after) → end_at after ≡ Some (false, rest) → gs ≡ fs ++ f ∷ []
    → total ≡ beyond fs (fields_at (64 - length fs) text) → total ≡ beyond gs (fields_at (64 - length gs) rest)
fields_on total fs gs f text after rest lt field end e so_far =
    let len : length (fs ++ f ∷ []) ≡ length fs + 1 = simp length-append refl in
    let k : 64 - (length fs + 1) ≡ 64 - length gs = ap (λ (n : ℕ). 64 - n) (sym (ap length e ∙ len)) in
    so_far
    ∙ (ap (beyond fs) (fields_step (64 - length fs) (64 - (length fs + 1)) f false text after rest (omega arith) field end)
    ∙ (beyond_found fs f (fields_at (64 - (length fs + 1)) rest)
    ∙ (ap (λ (hs : List Field). beyond hs (fields_at (64 - (length fs + 1)) rest)) (sym e) ∙ ap (λ (n : ℕ). beyond gs (fields_at n rest)) k)))

-- the loop ends without a record
pub fields_fail : (total found : Option (List Field × List ℕ)) (fs : List Field) → found ≡ None → total ≡ beyond fs found → total ≡ None
fields_fail total found fs none so_far = so_far ∙ beyond_none fs found none
