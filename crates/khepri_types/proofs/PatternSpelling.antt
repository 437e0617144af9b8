-- What is read of conditions and patterns is spelled so, and what is spelled so is read.
use Rattle.std.proofs.Common.{◌≡◌, ℕ, ◌+◌, ◌-◌, ◌≤◌, Bool, true, false, eqb, leb, ◌&&◌, ◌||◌, List, [], ◌∷◌, ◌++◌, length, drop, refl, sym, ap, subst, ◌∙◌, append_assoc, arith, Option, Some, None, codes}
use Rattle.std.proofs.lemmas.Bool.Decides.{nat_tests}
use Rattle.std.proofs.lemmas.Bool.{eqb-true, cond-true, cond-false, le-leb}
use Rattle.std.proofs.lemmas.List.{append-nil, length-append}
use Rattle.std.specs.List.{flat_map}
use Rattle.khepri_terms.specs.Terms.{NameText}
use Rattle.khepri_terms.specs.declared.name.Kind.TheVariants.{Text}
use Rattle.khepri_terms.specs.Many.{many, ◌>>=◌}
use Rattle.khepri_terms.specs.Bytes.{is_plain, byte_at}
use Rattle.khepri_terms.specs.Names.{comp_text, comp_at, spells, Stops, undotted, named}
use Rattle.khepri_terms.specs.Paths.{goes_on}
use Rattle.khepri_terms.proofs.Cases.{bind_some, guard_some, some_is, or_false}
use Rattle.khepri_terms.proofs.Reading.{ahead, many-end, Took, many_takes, many_again}
use Rattle.khepri_terms.proofs.NamesLaws.{comp_takes, comp_again, stops_none, first_no_dot, name_at-other}
use Rattle.khepri_types.specs.declared.limits.TheConstants.{MAX_CONDITION_PARTS, MAX_CONDITION_NESTING, MAX_PATTERN_PARTS, MAX_PATTERN_TEXT}
use Rattle.khepri_types.specs.declared.condition.Condition.{Condition}
use Rattle.khepri_types.specs.declared.pattern.PatternPart.{PatternPart}
use Rattle.khepri_types.specs.declared.pattern.PatternPart.TheVariants as part
use Rattle.khepri_types.specs.ConditionTexts.{condition_text, IsCondition}
use Rattle.khepri_types.specs.PatternTexts.{part_text, stage_text, pattern_text, IsPart, IsPattern, EndsPattern}
use Rattle.khepri_types.specs.Reading.{begins}
use Rattle.khepri_types.specs.ReadingConditions.{after_byte, Reading, nested_at, read_whole, condition_at, name_part, meets_at, part_at, stage_at, pattern_of, pattern_at}
use Rattle.khepri_types.proofs.Word.{if_read, word_takes}
use Rattle.khepri_types.proofs.Asking.{after_takes}
use Rattle.khepri_types.proofs.Layers.{nested_was}
use Rattle.khepri_types.proofs.LayersAgain.{nested_again}

-- ---- conditions

read_whole_is : (o : Reading) (x : Condition × List ℕ) → read_whole o ≡ Some x → (k : ℕ) × (o ≡ Some (x.0, k, x.1))
read_whole_is None x e = absurd cc
read_whole_is (Some (v, k, rest)) x e = let is = some_is (v, rest) x e in (k, (λ i. Some ((is i).0, k, (is i).1)))

pub condition_takes : (text : List ℕ) (x : Condition × List ℕ) → condition_at text ≡ Some x → (text ≡ condition_text x.0 ++ x.1) × IsCondition x.0
unfolding condition_at
condition_takes text x e =
    let r = read_whole_is (nested_at MAX_CONDITION_NESTING MAX_CONDITION_PARTS text) x e in
    let w = nested_was MAX_CONDITION_NESTING MAX_CONDITION_PARTS text (x.0, r.0, x.1) r.1 in
    (w.parts, record { nested = w.nested; few = omega (arith, w.took) })

pub condition_again : (v : Condition) (rest : List ℕ) → IsCondition v → condition_at (condition_text v ++ rest) ≡ Some (v, rest)
unfolding condition_at
condition_again v rest is = ap read_whole (nested_again MAX_CONDITION_NESTING v MAX_CONDITION_PARTS rest is.nested is.few)

-- ---- parts

abbrev Spelled : List ℕ → PatternPart × List ℕ → Type 0
Spelled text x = (text ≡ part_text x.0 ++ x.1) × IsPart x.0

name_part_is : (o : Option (NameText × List ℕ)) (x : PatternPart × List ℕ) → name_part o ≡ Some x → (y : NameText × List ℕ) × (o ≡ Some y) × ((part.Name y.0, y.1) ≡ x)
name_part_is None x e = absurd cc
name_part_is (Some y) x e = (y, refl, some_is (part.Name y.0, y.1) x e)

name_spelled : (text : List ℕ) (x : PatternPart × List ℕ) → name_part (comp_at text) ≡ Some x → Spelled text x
unfolding part_text
name_spelled text x e =
    let y = name_part_is (comp_at text) x e in
    subst (Spelled text) y.2 (comp_takes text y.0 y.1)

many_spelled : (text : List ℕ) (x : PatternPart × List ℕ) → begins (codes "**") text ≡ true → Some (part.Many, drop 2 text) ≡ Some x → Spelled text x
unfolding part_text
many_spelled text x h e = subst (Spelled text) (some_is (part.Many, drop 2 text) x e) (word_takes (codes "**") text h, tt)

one_spelled : (text : List ℕ) (x : PatternPart × List ℕ) → begins (codes "*") text ≡ true → Some (part.One, drop 1 text) ≡ Some x → Spelled text x
unfolding part_text
one_spelled text x h e = subst (Spelled text) (some_is (part.One, drop 1 text) x e) (word_takes (codes "*") text h, tt)

meets_spelled : (text : List ℕ) (x : PatternPart × List ℕ) → begins (codes "[") text ≡ true → meets_at (drop 1 text) ≡ Some x → Spelled text x
unfolding part_text meets_at
meets_spelled text x h e =
    let a = bind_some (condition_at (drop 1 text)) (λ found. after_byte 93 found.1 >>= λ rest. Some (part.Meets found.0, rest)) x e in
    let b = bind_some (after_byte 93 a.0.1) (λ rest. Some (part.Meets a.0.0, rest)) x a.2 in
    let t = condition_takes (drop 1 text) a.0 a.1 in
    let body : drop 1 text ≡ (condition_text a.0.0 ++ 93 ∷ []) ++ b.0 = t.0 ∙ (ap (λ (s : List ℕ). condition_text a.0.0 ++ s) (after_takes 93 a.0.1 b.0 b.1) ∙ sym (append_assoc (condition_text a.0.0) (93 ∷ []) b.0)) in
    subst (Spelled text) (some_is (part.Meets a.0.0, b.0) x b.2) (word_takes (codes "[") text h ∙ ap (λ (s : List ℕ). 91 ∷ s) body, t.1)

part_takes : (text : List ℕ) (x : PatternPart × List ℕ) → part_at text ≡ Some x → Spelled text x
unfolding part_at
part_takes text x e =
    if_read (begins (codes "**") text) _ _ x e (many_spelled text x) (λ e.
    if_read (begins (codes "*") text) _ _ x e (one_spelled text x) (λ e.
    if_read (begins (codes "[") text) _ _ x e (meets_spelled text x) (name_spelled text x)))

stage_takes : (text : List ℕ) (x : PatternPart × List ℕ) → stage_at text ≡ Some x → (text ≡ stage_text x.0 ++ x.1) × IsPart x.0
unfolding stage_at
stage_takes [] x e = absurd cc
stage_takes (b ∷ text) x e =
    let g = guard_some (eqb b 47) (part_at text) x e in
    let p = part_takes text x g.1 in
    ((λ i. eqb-true b 47 g.0 i ∷ p.0 i), p.1)

-- what may stand behind a part
abbrev Fine : List ℕ → Type 0
Fine [] = Unit {0}
Fine (b ∷ rest) = (spells b ≡ false) × (eqb b 42 ≡ false)

fine_stops : (rest : List ℕ) → Fine rest → Stops rest
fine_stops [] f = tt
fine_stops (b ∷ rest) f = f.0

-- no name begins with a byte that is none of a name's
odd_none : (b : ℕ) (text : List ℕ) → byte_at (b ∷ text) ≡ None → eqb b 37 ≡ false → eqb b 58 ≡ false → comp_at (b ∷ text) ≡ None
unfolding comp_at
odd_none b text none p q =
    cond-false _ _ _ q ∙ ap (λ (o : Option (List ℕ × List ℕ)). named Text o) (name_at-other (b ∷ text) (first_no_dot b text p) ∙ ap undotted (many-end byte_at 255 (b ∷ text) none))

star_none : (text : List ℕ) → byte_at (42 ∷ text) ≡ None
unfolding byte_at is_plain
star_none text = refl

bracket_none : (text : List ℕ) → byte_at (91 ∷ text) ≡ None
unfolding byte_at is_plain
bracket_none text = refl

no_comp : comp_at [] ≡ None
unfolding comp_at
no_comp = refl

-- a first byte that no name has
differs : (b k : ℕ) (text : List ℕ) (x : NameText × List ℕ) → comp_at (b ∷ text) ≡ Some x → comp_at (k ∷ text) ≡ None → eqb b k ≡ false
differs b k text x e none = elim (eqb b k) as (λ v. eqb b k ≡ v → v ≡ false) [
  | true ↦ λ p. let z : comp_at (b ∷ text) ≡ None = ap (λ (n : ℕ). comp_at (n ∷ text)) (eqb-true b k p) ∙ none in absurd cc
  | false ↦ λ p. refl
] refl

plain_part : (b : ℕ) (text : List ℕ) → eqb b 42 ≡ false → eqb b 91 ≡ false → part_at (b ∷ text) ≡ name_part (comp_at (b ∷ text))
unfolding part_at
plain_part b text p q =
    let two : begins (codes "**") (b ∷ text) ≡ false = two_stars text in
    cond-false _ _ _ two ∙ (cond-false _ _ _ (ap (λ (t : Bool). t && true) p) ∙ cond-false _ _ _ (ap (λ (t : Bool). t && true) q))
  where
    two_stars : (rest : List ℕ) → begins (codes "**") (b ∷ rest) ≡ false
    two_stars [] = ap (λ (t : Bool). t && false) p
    two_stars (d ∷ rest) = ap (λ (t : Bool). t && (eqb d 42 && true)) p

name_is_part : (text : List ℕ) (x : NameText × List ℕ) → comp_at text ≡ Some x → part_at text ≡ Some (part.Name x.0, x.1)
name_is_part [] x e = let n = no_comp in absurd cc
name_is_part (b ∷ text) x e =
    plain_part b text (differs b 42 text x e (odd_none 42 text (star_none text) refl refl)) (differs b 91 text x e (odd_none 91 text (bracket_none text) refl refl)) ∙ ap name_part e

one_again : (rest : List ℕ) → Fine rest → part_at (42 ∷ rest) ≡ Some (part.One, rest)
unfolding part_at
one_again [] f = refl
one_again (b ∷ rest) f = cond-false _ _ _ (ap (λ (t : Bool). t && true) f.1)

many_part_again : (rest : List ℕ) → part_at (42 ∷ 42 ∷ rest) ≡ Some (part.Many, rest)
unfolding part_at
many_part_again rest = refl

close_bracket : (rest : List ℕ) → after_byte 93 (93 ∷ rest) ≡ Some rest
unfolding after_byte
close_bracket rest = refl

meets_again : (v : Condition) (rest : List ℕ) → IsCondition v → part_at (91 ∷ ((condition_text v ++ 93 ∷ []) ++ rest)) ≡ Some (part.Meets v, rest)
unfolding part_at meets_at
meets_again v rest is =
    ap meets_at (append_assoc (condition_text v) (93 ∷ []) rest)
    ∙ (ap (λ (o : Option (Condition × List ℕ)). o >>= λ found. after_byte 93 found.1 >>= λ rest. Some (part.Meets found.0, rest)) (condition_again v (93 ∷ rest) is)
    ∙ ap (λ (o : Option (List ℕ)). o >>= λ rest. Some (part.Meets v, rest)) (close_bracket rest))

part_again : (P : PatternPart) (rest : List ℕ) → IsPart P → Fine rest → part_at (part_text P ++ rest) ≡ Some (P, rest)
unfolding part_text
part_again (part.Name n) rest is f = name_is_part (comp_text n ++ rest) (n, rest) (comp_again n rest is (fine_stops rest f))
part_again part.One rest is f = one_again rest f
part_again part.Many rest is f = many_part_again rest
part_again (part.Meets v) rest is f = meets_again v rest is

stage_again : (P : PatternPart) (rest : List ℕ) → IsPart P → Fine rest → stage_at (stage_text P ++ rest) ≡ Some (P, rest)
unfolding stage_at
stage_again P rest is f = part_again P rest is f

stage_starts : (P : PatternPart) (rest : List ℕ) → IsPart P → Fine (stage_text P ++ rest)
unfolding is_plain
stage_starts P rest is = (refl, refl)

-- ---- patterns

pattern_text-more : (P : PatternPart) (parts : List PatternPart) → pattern_text (P ∷ parts) ≡ flat_map stage_text (P ∷ parts)
unfolding pattern_text
pattern_text-more P parts = refl

of_takes : (text : List ℕ) (found x : List PatternPart × List ℕ) → Took stage_text IsPart MAX_PATTERN_PARTS text found → pattern_of text found ≡ Some x → (text ≡ pattern_text x.0 ++ x.1) × IsPattern x.0
unfolding pattern_text
of_takes text ([], rest) x t e =
    let a = bind_some (after_byte 47 text) (λ after. Some ([], after)) x e in
    subst (λ (y : List PatternPart × List ℕ). (text ≡ pattern_text y.0 ++ y.1) × IsPattern y.0) (some_is ([], a.0) x a.2) (after_takes 47 text a.0 a.1, record { all = tt; few = omega arith; short = omega arith })
of_takes text (P ∷ parts, rest) x t e =
    let g = guard_some (leb (length text - length rest) MAX_PATTERN_TEXT) (Some (P ∷ parts, rest)) x e in
    let less : length text - length rest ≤ MAX_PATTERN_TEXT = grind (arith, nat_tests) in
    let spelled : length text ≡ length (flat_map stage_text (P ∷ parts)) + length rest = ap length t.parts ∙ length-append (flat_map stage_text (P ∷ parts)) rest in
    subst (λ (y : List PatternPart × List ℕ). (text ≡ pattern_text y.0 ++ y.1) × IsPattern y.0) (some_is (P ∷ parts, rest) x g.1) (t.parts, record { all = t.all; few = t.few; short = omega (arith, spelled, less) })

pub pattern_takes : (text : List ℕ) (x : List PatternPart × List ℕ) → pattern_at text ≡ Some x → (text ≡ pattern_text x.0 ++ x.1) × IsPattern x.0
unfolding pattern_at
pattern_takes text x e = of_takes text (many stage_at MAX_PATTERN_PARTS text) x (many_takes stage_at stage_text IsPart stage_takes MAX_PATTERN_PARTS text) e

pub record Ended (b : ℕ) : Type 0 where
  pub plain : is_plain b ≡ false
  pub percent : eqb b 37 ≡ false
  pub slash : eqb b 47 ≡ false
  pub colon : eqb b 58 ≡ false
  pub star : eqb b 42 ≡ false
  pub bracket : eqb b 91 ≡ false

ended : (b : ℕ) → (goes_on b || eqb b 42 || eqb b 91) ≡ false → Ended b
ended b e =
    let s = or_false (goes_on b || eqb b 42) (eqb b 91) e in
    let t = or_false (goes_on b) (eqb b 42) s.0 in
    let p = or_false (is_plain b || eqb b 37 || eqb b 47) (eqb b 58) t.0 in
    let q = or_false (is_plain b || eqb b 37) (eqb b 47) p.0 in
    let r = or_false (is_plain b) (eqb b 37) q.0 in
    record { plain = r.0; percent = r.1; slash = q.1; colon = p.1; star = t.1; bracket = s.1 }

ends_stops : (rest : List ℕ) → EndsPattern rest → Stops rest
ends_stops [] e = tt
ends_stops (b ∷ rest) e = let d = ended b e in rw (d.plain, d.percent) refl

ends_fine : (rest : List ℕ) → EndsPattern rest → Fine rest
ends_fine [] e = tt
ends_fine (b ∷ rest) e = (ends_stops (b ∷ rest) e, (ended b e).star)

ends_stage : (rest : List ℕ) → EndsPattern rest → stage_at rest ≡ None
unfolding stage_at
ends_stage [] e = refl
ends_stage (b ∷ rest) e = cond-false _ _ _ (ended b e).slash

ends_part : (rest : List ℕ) → EndsPattern rest → part_at rest ≡ None
unfolding part_at
ends_part [] e = ap name_part no_comp
ends_part (b ∷ rest) e =
    let d = ended b e in
    plain_part b rest d.star d.bracket ∙ ap name_part (odd_none b rest (stops_none (b ∷ rest) (ends_stops (b ∷ rest) e)) d.percent d.colon)

root_again : (rest : List ℕ) → EndsPattern rest → pattern_at (47 ∷ rest) ≡ Some ([], rest)
unfolding pattern_at stage_at after_byte
root_again rest e = let none : stage_at (47 ∷ rest) ≡ None = ends_part rest e in ap (pattern_of (47 ∷ rest)) (many-end stage_at MAX_PATTERN_PARTS (47 ∷ rest) none)

parts_again : (P : PatternPart) (parts : List PatternPart) (rest : List ℕ) → IsPattern (P ∷ parts) → EndsPattern rest → pattern_at (flat_map stage_text (P ∷ parts) ++ rest) ≡ Some (P ∷ parts, rest)
unfolding pattern_at
parts_again P parts rest is e =
    let all : List PatternPart = P ∷ parts in
    let few : length all ≤ MAX_PATTERN_PARTS = is.few in
    let text : List ℕ = flat_map stage_text all ++ rest in
    let found : many stage_at MAX_PATTERN_PARTS text ≡ (all, rest) =
    many_again stage_at stage_text IsPart Fine stage_again stage_starts all MAX_PATTERN_PARTS (MAX_PATTERN_PARTS - length all) rest is.all (omega (arith, few)) (ends_fine rest e)
    ∙ (ap (λ (f : List PatternPart × List ℕ). ahead all f) (many-end stage_at (MAX_PATTERN_PARTS - length all) rest (ends_stage rest e))
    ∙ ap (λ (v : List PatternPart). (v, rest)) (append-nil all)) in
    let short : length (flat_map stage_text all) ≤ MAX_PATTERN_TEXT = subst (λ (t : List ℕ). length t ≤ MAX_PATTERN_TEXT) (pattern_text-more P parts) is.short in
    let fits : length text - length rest ≤ MAX_PATTERN_TEXT = omega (arith, short, length-append (flat_map stage_text all) rest) in
    ap (pattern_of text) found ∙ cond-true _ _ _ (le-leb (length text - length rest) MAX_PATTERN_TEXT fits)

pub pattern_again : (parts : List PatternPart) (rest : List ℕ) → IsPattern parts → EndsPattern rest → pattern_at (pattern_text parts ++ rest) ≡ Some (parts, rest)
unfolding pattern_text
pattern_again [] rest is e = root_again rest e
pattern_again (P ∷ parts) rest is e = parts_again P parts rest is e

pub stages_within : (n : ℕ) (text : List ℕ) → length (many stage_at n text).1 ≤ length text
stages_within n text =
    let t = many_takes stage_at stage_text IsPart stage_takes n text in
    omega (arith, ap length t.parts, length-append (flat_map stage_text (many stage_at n text).0) (many stage_at n text).1)
