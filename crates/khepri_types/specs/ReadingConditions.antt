-- Reading conditions and patterns from left to right.
use Rattle.std.specs.Prelude.{ℕ, zero, suc, ◌-◌, Bool, true, false, nat_le, ◌==◌, if◌then◌else◌, List, [], ◌∷◌, length, drop, Option, Some, None, codes}
use Rattle.khepri_terms.specs.Terms.{NameText}
use Rattle.khepri_terms.specs.Many.{many, ◌>>=◌}
use Rattle.khepri_terms.specs.declared.name.Kind.{Kind}
use Rattle.khepri_terms.specs.declared.name.Kind.TheVariants.{Atom, Text}
use Rattle.khepri_terms.specs.Names.{comp_at}
use Rattle.khepri_terms.specs.Numbers.{number_at}
use Rattle.khepri_terms.specs.Records.{scalar_at, rec_at}
use Rattle.khepri_types.specs.declared.limits.TheConstants.{MAX_NUMBER, MAX_CONDITION_PARTS, MAX_CONDITION_NESTING, MAX_PATTERN_PARTS, MAX_PATTERN_TEXT}
use Rattle.khepri_types.specs.declared.compare.Compare.{Compare}
use Rattle.khepri_types.specs.declared.compare.Compare.TheVariants.{Eq, Ne, Lt, Le, Gt, Ge}
use Rattle.khepri_types.specs.declared.condition.Condition.{Condition}
use Rattle.khepri_types.specs.declared.condition.Condition.TheVariants as c
use Rattle.khepri_types.specs.declared.pattern.PatternPart.{PatternPart}
use Rattle.khepri_types.specs.declared.pattern.PatternPart.TheVariants as part
use Rattle.khepri_types.specs.Globs.{glob_at}
use Rattle.khepri_types.specs.Words.{begins}

-- what is after this byte at the front
unfoldable pub after_byte : ℕ → List ℕ → Option (List ℕ)
after_byte b [] = None
after_byte b (a ∷ text) = if a == b then Some text else None

-- the word of a comparison at the front, and what is after it
unfoldable pub compare_at : List ℕ → Option (Compare × List ℕ)
compare_at text =
    if begins (codes "eq") text then Some (Eq, drop 2 text)
    else (if begins (codes "ne") text then Some (Ne, drop 2 text)
    else (if begins (codes "lt") text then Some (Lt, drop 2 text)
    else (if begins (codes "le") text then Some (Le, drop 2 text)
    else (if begins (codes "gt") text then Some (Gt, drop 2 text)
    else (if begins (codes "ge") text then Some (Ge, drop 2 text)
    else None)))))

-- A reading of a condition is given how many conditions it may have, and gives the condition, how many more may follow, and what
-- is after it.
abbrev pub Reading : Type 0
Reading = Option (Condition × ℕ × List ℕ)

-- behind `name(`
unfoldable pub name_asked : ℕ → List ℕ → Reading
name_asked left text = do
  glob ← glob_at text
  rest ← after_byte 41 glob.1
  Some (c.Name glob.0, left, rest)

-- behind `is(`
unfoldable pub is_asked : ℕ → List ℕ → Reading
is_asked left text = do
  fields ← rec_at text
  rest ← after_byte 41 fields.1
  Some (c.Is fields.0, left, rest)

-- a name as a key, none where it is an atom
abbrev pub as_key : NameText × List ℕ → Kind → Option (NameText × List ℕ)
as_key x Atom = None
as_key x Text = Some x

-- the key that is spelled at the front, and what is after it
unfoldable pub key_at : List ℕ → Option (NameText × List ℕ)
key_at text = do
  name ← comp_at text
  as_key name name.0.kind

-- behind `field(KEY,OP,`
unfoldable pub field_value : ℕ → NameText → Compare → List ℕ → Reading
field_value left key op text = do
  value ← scalar_at text
  rest ← after_byte 41 value.1
  Some (c.Field key op value.0, left, rest)

-- behind `field(KEY,`
unfoldable pub field_op : ℕ → NameText → List ℕ → Reading
field_op left key text = do
  op ← compare_at text
  value ← after_byte 44 op.1
  field_value left key op.0 value

-- behind `field(`
unfoldable pub field_asked : ℕ → List ℕ → Reading
field_asked left text = do
  key ← key_at text
  op ← after_byte 44 key.1
  field_op left key.0 op

-- `OP,NUM)`
unfoldable pub number_asked : List ℕ → Option (Compare × ℕ × List ℕ)
number_asked text = do
  op ← compare_at text
  digits ← after_byte 44 op.1
  number ← number_at MAX_NUMBER digits
  rest ← after_byte 41 number.1
  Some (op.0, number.0, rest)

-- a condition of a comparison and a number
abbrev pub comparing : (Compare → ℕ → Condition) → ℕ → Option (Compare × ℕ × List ℕ) → Reading
comparing make left None = None
comparing make left (Some x) = Some (make x.0 x.1, left, x.2)

-- behind `pv(`, `cv(` and `kids(`
abbrev pub pv_asked : ℕ → List ℕ → Reading
pv_asked left text = comparing c.Pv left (number_asked text)

abbrev pub cv_asked : ℕ → List ℕ → Reading
cv_asked left text = comparing c.Cv left (number_asked text)

abbrev pub kids_asked : ℕ → List ℕ → Reading
kids_asked left text = comparing c.Kids left (number_asked text)

-- one condition that asks of a node what stands in `(` and `)`
unfoldable pub asking_at : ℕ → List ℕ → Reading
asking_at left text =
    if begins (codes "name(") text then name_asked left (drop 5 text)
    else (if begins (codes "is(") text then is_asked left (drop 3 text)
    else (if begins (codes "field(") text then field_asked left (drop 6 text)
    else (if begins (codes "pv(") text then pv_asked left (drop 3 text)
    else (if begins (codes "cv(") text then cv_asked left (drop 3 text)
    else (if begins (codes "kids(") text then kids_asked left (drop 5 text)
    else None)))))

-- one condition that has none in it
unfoldable pub atom_at : ℕ → List ℕ → Reading
atom_at left text =
    if begins (codes "absent") text then Some (c.Absent, left, drop 6 text)
    else (if begins (codes "exists") text then Some (c.Exists, left, drop 6 text)
    else (if begins (codes "payload") text then Some (c.Payload, left, drop 7 text)
    else (if begins (codes "data") text then Some (c.Data, left, drop 4 text)
    else (if begins (codes "sproc") text then Some (c.Sproc, left, drop 5 text)
    else asking_at left text))))

-- whether a list of conditions ends behind one, by `)`, or goes on, by `,`; and what is after that
unfoldable pub list_end_at : List ℕ → Option (Bool × List ℕ)
list_end_at [] = None
list_end_at (b ∷ text) = if b == 41 then Some (true, text) else (if b == 44 then Some (false, text) else None)

-- a condition before the others
abbrev pub before : Condition → Option (List Condition × ℕ × List ℕ) → Option (List Condition × ℕ × List ℕ)
before c None = None
before c (Some x) = Some (c ∷ x.0, x.1, x.2)

-- a condition of conditions
abbrev pub uniting : (List Condition → Condition) → Option (List Condition × ℕ × List ℕ) → Reading
uniting make None = None
uniting make (Some x) = Some (make x.0, x.1, x.2)

-- with a reading of the conditions inside
module _ (inner : ℕ → List ℕ → Reading) where
  -- behind `not(`
  unfoldable pub not_asked : ℕ → List ℕ → Reading
  not_asked left text = do
    found ← inner left text
    rest ← after_byte 41 found.2
    Some (c.Not found.0, found.1, rest)

  -- 1 to n conditions joined by `,` and the `)` behind them
  unfoldable pub some_asked : ℕ → ℕ → List ℕ → Option (List Condition × ℕ × List ℕ)
  some_asked zero left text = None
  some_asked (suc n) left text = do
    found ← inner left text
    end ← list_end_at found.2
    if end.0 then Some (found.0 ∷ [], found.1, end.1) else before found.0 (some_asked n found.1 end.1)

  -- behind `all(` or `any(`
  unfoldable pub list_asked : ℕ → List ℕ → Option (List Condition × ℕ × List ℕ)
  list_asked left [] = None
  list_asked left (b ∷ text) = if b == 41 then Some ([], left, text) else some_asked left left (b ∷ text)

  -- behind `all(` and `any(`
  abbrev pub all_asked : ℕ → List ℕ → Reading
  all_asked left text = uniting c.All (list_asked left text)

  abbrev pub any_asked : ℕ → List ℕ → Reading
  any_asked left text = uniting c.Any (list_asked left text)

  -- one condition, of conditions or else an atom
  unfoldable pub layer_at : ℕ → List ℕ → Reading
  layer_at left text =
      if begins (codes "not(") text then not_asked left (drop 4 text)
      else (if begins (codes "all(") text then all_asked left (drop 4 text)
      else (if begins (codes "any(") text then any_asked left (drop 4 text)
      else atom_at left text))

-- the condition at the front, of at most n nested in one another and as many as are left in all
unfoldable pub nested_at : ℕ → ℕ → List ℕ → Reading
nested_at zero left text = None
nested_at (suc n) zero text = None
nested_at (suc n) (suc left) text = layer_at (nested_at n) left text

abbrev pub read_whole : Reading → Option (Condition × List ℕ)
read_whole None = None
read_whole (Some x) = Some (x.0, x.2)

-- the condition that is spelled at the front, and what is after it
unfoldable pub condition_at : List ℕ → Option (Condition × List ℕ)
condition_at text = read_whole (nested_at MAX_CONDITION_NESTING MAX_CONDITION_PARTS text)

-- a name as a part
abbrev pub name_part : Option (NameText × List ℕ) → Option (PatternPart × List ℕ)
name_part None = None
name_part (Some x) = Some (part.Name x.0, x.1)

-- behind `[`
unfoldable pub meets_at : List ℕ → Option (PatternPart × List ℕ)
meets_at text = do
  found ← condition_at text
  rest ← after_byte 93 found.1
  Some (part.Meets found.0, rest)

-- the part that is spelled at the front, and what is after it
unfoldable pub part_at : List ℕ → Option (PatternPart × List ℕ)
part_at text =
    if begins (codes "**") text then Some (part.Many, drop 2 text)
    else (if begins (codes "*") text then Some (part.One, drop 1 text)
    else (if begins (codes "[") text then meets_at (drop 1 text)
    else name_part (comp_at text)))

-- the slash and the part at the front, and what is after it
unfoldable pub stage_at : List ℕ → Option (PatternPart × List ℕ)
stage_at [] = None
stage_at (b ∷ text) = if b == 47 then part_at text else None

-- the parts that were read of a text, none past the first 1,024 bytes
abbrev pub pattern_of : List ℕ → List PatternPart × List ℕ → Option (List PatternPart × List ℕ)
pattern_of text ([], rest) = after_byte 47 text >>= λ after. Some ([], after)
pattern_of text (P ∷ parts, rest) = if nat_le (length text - length rest) MAX_PATTERN_TEXT then Some (P ∷ parts, rest) else None

-- the pattern at the front, read as far as it goes, and what is after it
unfoldable pub pattern_at : List ℕ → Option (List PatternPart × List ℕ)
pattern_at text = pattern_of text (many stage_at MAX_PATTERN_PARTS text)
