-- How projections, the commands on them and reads of tables are spelled.
use Rattle.std.specs.Prelude.{ℕ, Bool, true, false, if◌then◌else◌, List, [], ◌∷◌, ◌++◌, drop, Option, Some, None, codes}
use Rattle.khepri_terms.specs.Many.{◌>>=◌}
use Rattle.khepri_terms.specs.Names.{comp_text}
use Rattle.khepri_terms.specs.Terms.{NameText}
use Rattle.khepri_types.specs.declared.pattern.PatternPart.{PatternPart}
use Rattle.khepri_types.specs.declared.projection.Projection.{Projection}
use Rattle.khepri_types.specs.ConditionTexts.{IsKey}
use Rattle.khepri_types.specs.Exec.{Lookup}
use Rattle.khepri_types.specs.PatternTexts.{pattern_text, IsPattern}
use Rattle.khepri_types.specs.ProjectionTexts.{sources_text, scalars_text, AreKeys, AreValues, IsReadKey, keys_at, values_at, read_key_at}
use Rattle.khepri_types.specs.ReadingConditions.{after_byte, key_at, pattern_at}
use Rattle.khepri_types.specs.Words.{begins, after_word}

-- ---- spelling

-- `bag`, or `set`
unfoldable pub table_kind_text : Bool → List ℕ
table_kind_text true = codes "bag"
table_kind_text false = codes "set"

-- `NAME KIND PATTERN KEYS VALUES`
unfoldable pub projection_text : Projection → List ℕ
projection_text J = comp_text J.name ++ 32 ∷ table_kind_text J.bag ++ 32 ∷ pattern_text J.pattern ++ 32 ∷ sources_text J.keys ++ 32 ∷ sources_text J.values

-- the command that registers a projection
unfoldable pub proj_text : Projection → List ℕ
proj_text J = codes "proj " ++ projection_text J

-- the command that removes the projection of a name
unfoldable pub unproj_text : NameText → List ℕ
unproj_text n = codes "unproj " ++ comp_text n

-- the line that reads a table: `~ NAME LIST`
unfoldable pub lookup_text : Lookup → List ℕ
lookup_text q = codes "~ " ++ comp_text q.name ++ 32 ∷ scalars_text q.key

-- ---- what has a spelling

-- a projection that may be written; its name is a Text name
pub record IsProjection (J : Projection) : Type 0 where
  pub name : IsKey J.name
  pub pattern : IsPattern J.pattern
  pub keys : AreKeys J.keys
  pub values : AreValues J.values

-- a read that may be asked; it may have another number of scalars than its projection has keys
pub record IsLookup (q : Lookup) : Type 0 where
  pub name : IsKey q.name
  pub key : IsReadKey q.key

-- ---- reading

-- what was read, where nothing follows it
abbrev pub whole : {X : Type 0} → Option (X × List ℕ) → Option X
whole None = None
whole (Some (x, [])) = Some x
whole (Some (x, b ∷ rest)) = None

-- whether a bag or a set is spelled at the front, and what is after it
unfoldable pub table_kind_at : List ℕ → Option (Bool × List ℕ)
table_kind_at text =
    if begins (codes "bag") text then Some (true, drop 3 text)
    else (if begins (codes "set") text then Some (false, drop 3 text)
    else None)

-- a name as a key, and what is after the space behind it
unfoldable pub table_name_at : List ℕ → Option (NameText × List ℕ)
table_name_at text = do
  name ← key_at text
  rest ← after_byte 32 name.1
  Some (name.0, rest)

-- `KEYS VALUES` at the front, behind what names a projection, and what is after it
unfoldable pub sources_behind : NameText → Bool → List PatternPart → List ℕ → Option (Projection × List ℕ)
sources_behind name bag pattern text = do
  keys ← keys_at text
  values_text ← after_byte 32 keys.1
  values ← values_at values_text
  Some (record { name = name; bag = bag; pattern = pattern; keys = keys.0; values = values.0 }, values.1)

-- `PATTERN KEYS VALUES` at the front, behind a name and a kind, and what is after it
unfoldable pub pattern_behind : NameText → Bool → List ℕ → Option (Projection × List ℕ)
pattern_behind name bag text = do
  pattern ← pattern_at text
  sources_text ← after_byte 32 pattern.1
  sources_behind name bag pattern.0 sources_text

-- `KIND PATTERN KEYS VALUES` at the front, behind a name, and what is after it
unfoldable pub kind_behind : NameText → List ℕ → Option (Projection × List ℕ)
kind_behind name text = do
  kind ← table_kind_at text
  pattern_text ← after_byte 32 kind.1
  pattern_behind name kind.0 pattern_text

-- the projection that is spelled at the front, and what is after it
unfoldable pub projection_at : List ℕ → Option (Projection × List ℕ)
projection_at text = do
  name ← table_name_at text
  kind_behind name.0 name.1

-- the projection that the whole text registers
unfoldable pub spelled_proj : List ℕ → Option Projection
spelled_proj text = do
  projection_text ← after_word (codes "proj ") text
  whole (projection_at projection_text)

-- the name whose projection the whole text removes
unfoldable pub spelled_unproj : List ℕ → Option NameText
spelled_unproj text = do
  name_text ← after_word (codes "unproj ") text
  whole (key_at name_text)

-- the read that is spelled at the front, and what is after it
unfoldable pub lookup_at : List ℕ → Option (Lookup × List ℕ)
lookup_at text = do
  name_text ← after_word (codes "~ ") text
  name ← table_name_at name_text
  key ← read_key_at name.1
  Some (record { name = name.0; key = key.0 }, key.1)

-- the read that the whole text asks
unfoldable pub spelled_lookup : List ℕ → Option Lookup
spelled_lookup text = whole (lookup_at text)
