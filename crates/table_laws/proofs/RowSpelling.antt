-- What is read of rows is spelled so, and what is spelled so is read.
use Rattle.std.proofs.Common.{◌≡◌, ℕ, ◌-◌, ◌≤◌, true, false, cond, eqb, List, [], ◌∷◌, ◌++◌, length, refl, sym, ap, subst, ◌∙◌, append_assoc, arith, Option, Some, None, codes, decimal}
use Rattle.std.proofs.lemmas.Bool.{eqb-true, cond-true}
use Rattle.std.proofs.lemmas.Bool.Decides.{nat_tests}
use Rattle.std.proofs.lemmas.List.{append-nil, length-append}
use Rattle.std.specs.Cmp.Lexicographic.{same_text}
use Rattle.std.specs.List.{flat_map, AllByRecursion}
use Rattle.std.specs.Option.{option_map}
use Rattle.khepri_terms.specs.Bytes.{is_plain}
use Rattle.khepri_terms.specs.Many.{many, ◌>>=◌}
use Rattle.khepri_terms.specs.Numbers.{number_at}
use Rattle.khepri_terms.specs.Paths.{path_text, path_at, Ends}
use Rattle.khepri_terms.specs.Terms.{NameText}
use Rattle.khepri_terms.specs.declared.scalar.Scalar.{Scalar}
use Rattle.khepri_terms.proofs.Cases.{bind_some, guard_some, some_is, some_not_none}
use Rattle.khepri_terms.proofs.NumbersLaws.{Halts, number_takes, number_again}
use Rattle.khepri_terms.proofs.PathsLaws.{path_takes, path_again}
use Rattle.khepri_terms.proofs.Reading.{ahead, Took, many_takes, many_again, many-end}
use Rattle.khepri_types.specs.declared.limits.TheConstants.{MAX_NUMBER}
use Rattle.khepri_types.specs.declared.shown_row.ShownRow.{ShownRow}
use Rattle.khepri_types.specs.ProjectionTexts.{scalars_text, row_value_at}
use Rattle.khepri_types.specs.Ranges.{IsNumber}
use Rattle.khepri_types.specs.ReadingConditions.{after_byte}
use Rattle.khepri_types.specs.RowTexts.{shown_row_text, shown_rows_text, found_text, IsShownRow, AreShownRows, IsFound, shown_row_at, counted, spelled_shown_rows, spelled_found}
use Rattle.khepri_types.specs.Words.{is_word}
use Rattle.khepri_types.proofs.Word.{after_byte-takes}
use Rattle.table_laws.proofs.ListLaws.{row_value_takes, row_value_again}

-- ---- one row

in_parts : (r : ShownRow) (rest : List ℕ) → shown_row_text r ++ rest ≡ 32 ∷ (path_text r.path ++ 32 ∷ (scalars_text r.value ++ rest))
unfolding shown_row_text
in_parts r rest = simp append_assoc refl

-- the readings, from each place on
abbrev showing : List NameText → List Scalar × List ℕ → Option (ShownRow × List ℕ)
showing path value = Some (record { path = path; value = value.0 }, value.1)

abbrev from_path : List ℕ → Option (ShownRow × List ℕ)
from_path text = path_at text >>= λ path. after_byte 32 path.1 >>= λ t. row_value_at t >>= λ value. showing path.0 value

abbrev SpellsRow : List ℕ → ShownRow × List ℕ → Type 0
SpellsRow text x = (text ≡ shown_row_text x.0 ++ x.1) × IsShownRow x.0

row_takes : (text : List ℕ) (x : ShownRow × List ℕ) → shown_row_at text ≡ Some x → SpellsRow text x
unfolding shown_row_at
row_takes text x e =
    let a = bind_some (after_byte 32 text) from_path x e in
    let p = bind_some (path_at a.0) (λ path. after_byte 32 path.1 >>= λ t. row_value_at t >>= λ value. showing path.0 value) x a.2 in
    let b = bind_some (after_byte 32 p.0.1) (λ t. row_value_at t >>= λ value. showing p.0.0 value) x p.2 in
    let v = bind_some (row_value_at b.0) (λ value. showing p.0.0 value) x b.2 in
    let r : ShownRow = record { path = p.0.0; value = v.0.0 } in
    let path = path_takes a.0 p.0 p.1 in
    let value = row_value_takes b.0 v.0 v.1 in
    let from-path : a.0 ≡ path_text p.0.0 ++ 32 ∷ (scalars_text v.0.0 ++ v.0.1) =
    path.0 ∙ ap (λ (t : List ℕ). path_text p.0.0 ++ t) (after_byte-takes 32 p.0.1 b.0 b.1 ∙ ap (λ (t : List ℕ). 32 ∷ t) value.0) in
    subst (SpellsRow text) (some_is (r, v.0.1) x v.2) (
      after_byte-takes 32 text a.0 a.1 ∙ (ap (λ (t : List ℕ). 32 ∷ t) from-path ∙ sym (in_parts r v.0.1)),
      record { path = path.1; value = value.1 },
    )

behind_space : (text : List ℕ) → shown_row_at (32 ∷ text) ≡ from_path text
unfolding shown_row_at after_byte
behind_space text = refl

space_again : (rest : List ℕ) → after_byte 32 (32 ∷ rest) ≡ Some rest
unfolding after_byte
space_again rest = refl

space_ends : (rest : List ℕ) → Ends (32 ∷ rest)
unfolding is_plain
space_ends rest = refl

row_again : (r : ShownRow) (rest : List ℕ) → IsShownRow r → shown_row_at (shown_row_text r ++ rest) ≡ Some (r, rest)
row_again r rest is =
    let later : List ℕ = scalars_text r.value ++ rest in
    ap shown_row_at (in_parts r rest)
    ∙ (behind_space (path_text r.path ++ 32 ∷ later)
    ∙ (ap (λ (o : Option (List NameText × List ℕ)). o >>= λ path. after_byte 32 path.1 >>= λ t. row_value_at t >>= λ value. showing path.0 value) (path_again r.path (32 ∷ later) is.path (space_ends later))
    ∙ (ap (λ (o : Option (List ℕ)). o >>= λ t. row_value_at t >>= λ value. showing r.path value) (space_again later)
    ∙ ap (λ (o : Option (List Scalar × List ℕ)). o >>= λ value. showing r.path value) (row_value_again r.value rest is.value))))

-- ---- all rows

abbrev SpellsRows : List ℕ → List ShownRow → Type 0
SpellsRows text rows = (text ≡ shown_rows_text rows) × AreShownRows rows

counted_is : (m n : ℕ) (text : List ℕ) (found : List ShownRow × List ℕ) (rows : List ShownRow) → IsNumber m → Took shown_row_text IsShownRow n text found → counted m found ≡ Some rows → SpellsRows (decimal m ++ text) rows
unfolding shown_rows_text
counted_is m n text (found, []) rows is took e =
    let g = guard_some (eqb m (length found)) (Some found) rows e in
    let many : m ≡ length found = eqb-true m (length found) g.0 in
    subst (SpellsRows (decimal m ++ text)) (some_is found rows g.1) (
      ap (λ (t : List ℕ). decimal m ++ t) (took.parts ∙ append-nil (flat_map shown_row_text found)) ∙ ap (λ (k : ℕ). decimal k ++ flat_map shown_row_text found) many,
      record { all = took.all; count = subst IsNumber many is },
    )
counted_is m n text (found, b ∷ rest) rows is took e = absurd cc

pub rows_takes : (text : List ℕ) (rows : List ShownRow) → spelled_shown_rows text ≡ Some rows → SpellsRows text rows
unfolding spelled_shown_rows
rows_takes text rows e =
    let a = bind_some (number_at MAX_NUMBER text) (λ n. counted n.0 (many shown_row_at (length n.1) n.1)) rows e in
    let t = number_takes MAX_NUMBER text a.0 (omega arith) (omega arith) a.1 in
    subst (λ (u : List ℕ). SpellsRows u rows) (sym t.0)
    (counted_is a.0.0 (length a.0.1) a.0.1 (many shown_row_at (length a.0.1) a.0.1) rows t.1 (many_takes shown_row_at shown_row_text IsShownRow row_takes (length a.0.1) a.0.1) a.2)

abbrev Any : List ℕ → Type 0
Any rest = Unit {0}

no_row : shown_row_at [] ≡ None
unfolding shown_row_at after_byte
no_row = refl

begun : (r : ShownRow) (rest : List ℕ) → Halts (shown_row_text r ++ rest)
unfolding shown_row_text
begun r rest = refl

halts : (rows : List ShownRow) → Halts (flat_map shown_row_text rows)
halts [] = tt
halts (r ∷ rows) = begun r (flat_map shown_row_text rows)

some_text : (r : ShownRow) → 1 ≤ length (shown_row_text r)
unfolding shown_row_text
some_text r = omega arith

long_enough : (rows : List ShownRow) → length rows ≤ length (flat_map shown_row_text rows)
long_enough [] = omega arith
long_enough (r ∷ rows) =
    let some : 1 ≤ length (shown_row_text r) = some_text r in
    let more : length rows ≤ length (flat_map shown_row_text rows) = long_enough rows in
    omega (arith, some, more, length-append (shown_row_text r) (flat_map shown_row_text rows))

all_again : (rows : List ShownRow) (m : ℕ) → length rows ≤ m → AllByRecursion IsShownRow rows → many shown_row_at m (flat_map shown_row_text rows) ≡ (rows, [])
all_again rows m few all =
    ap (many shown_row_at m) (sym (append-nil (flat_map shown_row_text rows)))
    ∙ (many_again shown_row_at shown_row_text IsShownRow Any (λ r rest is fine. row_again r rest is) (λ r rest is. tt) rows m (m - length rows) [] all (omega arith) tt
    ∙ (ap (ahead rows) (many-end shown_row_at (m - length rows) [] no_row) ∙ ap (λ (rs : List ShownRow). (rs, [])) (append-nil rows)))

same_number : (n : ℕ) → eqb n n ≡ true
same_number n = grind (arith, nat_tests)

pub rows_again : (rows : List ShownRow) → AreShownRows rows → spelled_shown_rows (shown_rows_text rows) ≡ Some rows
unfolding spelled_shown_rows shown_rows_text
rows_again rows is =
    let text : List ℕ = flat_map shown_row_text rows in
    let count : length rows ≤ MAX_NUMBER = is.count in
    ap (λ (o : Option (ℕ × List ℕ)). o >>= λ k. counted k.0 (many shown_row_at (length k.1) k.1)) (number_again MAX_NUMBER (length rows) text count (omega (arith, count)) (halts rows))
    ∙ (ap (counted (length rows)) (all_again rows (length text) (long_enough rows) is.all)
    ∙ cond-true _ _ _ (same_number (length rows)))

-- ---- what a read shows

mapped : (o : Option (List ShownRow)) (x : Option (List ShownRow)) → option_map Some o ≡ Some x → (rows : List ShownRow) × (o ≡ Some rows) × (Some rows ≡ x)
mapped None x e = absurd cc
mapped (Some rows) x e = (rows, refl, some_is (Some rows) x e)

abbrev SpellsFound : List ℕ → Option (List ShownRow) → Type 0
SpellsFound text x = (text ≡ found_text x) × IsFound x

none_found : (text : List ℕ) (x : Option (List ShownRow)) → is_word (codes "none") text ≡ true → Some None ≡ Some x → SpellsFound text x
unfolding found_text
none_found text x h e = subst (SpellsFound text) (some_is None x e) (same_text text (codes "none") (sym h), tt)

rows_found : (text : List ℕ) (x : Option (List ShownRow)) → option_map Some (spelled_shown_rows text) ≡ Some x → SpellsFound text x
unfolding found_text
rows_found text x e =
    let m = mapped (spelled_shown_rows text) x e in
    subst (SpellsFound text) m.2 (rows_takes text m.0 m.1)

pub found_takes : (text : List ℕ) (x : Option (List ShownRow)) → spelled_found text ≡ Some x → SpellsFound text x
unfolding spelled_found
found_takes text x e =
    elim (is_word (codes "none") text) as (λ v. is_word (codes "none") text ≡ v → cond v (Some None) (option_map Some (spelled_shown_rows text)) ≡ Some x → SpellsFound text x) [
      | true ↦ λ h e. none_found text x h e
      | false ↦ λ h e. rows_found text x e
    ] refl e

no_count : number_at MAX_NUMBER (codes "none") ≡ None
unfolding number_at
no_count = refl

none_no_rows : spelled_shown_rows (codes "none") ≡ None
unfolding spelled_shown_rows
none_no_rows = ap (λ (o : Option (ℕ × List ℕ)). o >>= λ k. counted k.0 (many shown_row_at (length k.1) k.1)) no_count

rows_no_none : (text : List ℕ) (rows : List ShownRow) → spelled_shown_rows text ≡ Some rows → spelled_found text ≡ Some (Some rows)
unfolding spelled_found
rows_no_none text rows e =
    elim (is_word (codes "none") text) as (λ v. is_word (codes "none") text ≡ v → cond v (Some None) (option_map Some (spelled_shown_rows text)) ≡ Some (Some rows)) [
      | true ↦ λ h. absurd (some_not_none rows (sym e ∙ (ap spelled_shown_rows (same_text text (codes "none") (sym h)) ∙ none_no_rows)))
      | false ↦ λ h. ap (λ (o : Option (List ShownRow)). option_map Some o) e
    ] refl

none_again : spelled_found (codes "none") ≡ Some None
unfolding spelled_found
none_again = refl

pub found_again : (x : Option (List ShownRow)) → IsFound x → spelled_found (found_text x) ≡ Some x
unfolding found_text
found_again None is = none_again
found_again (Some rows) is = rows_no_none (shown_rows_text rows) rows (rows_again rows is)
