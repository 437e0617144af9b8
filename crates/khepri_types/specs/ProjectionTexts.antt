-- How sources of rows, keys and values are spelled, and which have a spelling.
use Rattle.std.specs.Prelude.{ℕ, ◌≤◌, ◌==◌, if◌then◌else◌, List, [], ◌∷◌, ◌++◌, length, drop, Option, Some, None, codes}
use Rattle.std.specs.Fmt.{decimal}
use Rattle.std.specs.List.{AllByRecursion}
use Rattle.khepri_terms.specs.Many.{◌>>=◌}
use Rattle.khepri_terms.specs.Names.{comp_text}
use Rattle.khepri_terms.specs.Numbers.{number_at}
use Rattle.khepri_terms.specs.Records.{scalar_text, scalar_at, IsScalar}
use Rattle.khepri_terms.specs.declared.scalar.Scalar.{Scalar}
use Rattle.khepri_types.specs.declared.limits.TheConstants.{MAX_PATH_NAMES, MAX_ROW_KEYS, MAX_ROW_VALUES}
use Rattle.khepri_types.specs.declared.projection.Origin.{Origin}
use Rattle.khepri_types.specs.declared.projection.Origin.TheVariants.{Seg, Field, Version}
use Rattle.khepri_types.specs.ConditionTexts.{IsKey}
use Rattle.khepri_types.specs.Lists.{list_text, list_at, some_list_at}
use Rattle.khepri_types.specs.ReadingConditions.{after_byte, key_at}
use Rattle.khepri_types.specs.Words.{begins}

-- `seg(i)`, `field(key)` or `pv`
unfoldable pub source_text : Origin → List ℕ
source_text (Seg i) = codes "seg(" ++ decimal i ++ 41 ∷ []
source_text (Field k) = codes "field(" ++ comp_text k ++ 41 ∷ []
source_text Version = codes "pv"

-- a source that has a spelling: a path has 1 to 32 names
abbrev pub IsSource : Origin → Type 0
IsSource (Seg i) = (1 ≤ i) × (i ≤ MAX_PATH_NAMES)
IsSource (Field k) = IsKey k
IsSource Version = Unit {0}

-- 1 to 4 sources of keys
pub record AreKeys (os : List Origin) : Type 0 where
  pub all : AllByRecursion IsSource os
  pub some : 1 ≤ length os
  pub few : length os ≤ MAX_ROW_KEYS

-- at most 8 sources of values
pub record AreValues (os : List Origin) : Type 0 where
  pub all : AllByRecursion IsSource os
  pub few : length os ≤ MAX_ROW_VALUES

abbrev pub sources_text : List Origin → List ℕ
sources_text os = list_text source_text os

-- a read key, or the value of a row
abbrev pub scalars_text : List Scalar → List ℕ
scalars_text xs = list_text scalar_text xs

-- a key that a read may ask for: 1 to 4 scalars
pub record IsReadKey (xs : List Scalar) : Type 0 where
  pub all : AllByRecursion IsScalar xs
  pub some : 1 ≤ length xs
  pub few : length xs ≤ MAX_ROW_KEYS

-- the value of a row: at most 8 scalars
pub record IsRowValue (xs : List Scalar) : Type 0 where
  pub all : AllByRecursion IsScalar xs
  pub few : length xs ≤ MAX_ROW_VALUES

-- ---- reading

-- a name of a path, counted from 1
abbrev pub seg_of : ℕ → List ℕ → Option (Origin × List ℕ)
seg_of i rest = if i == 0 then None else Some (Seg i, rest)

-- behind `seg(`
unfoldable pub seg_behind : List ℕ → Option (Origin × List ℕ)
seg_behind text = do
  number ← number_at MAX_PATH_NAMES text
  rest ← after_byte 41 number.1
  seg_of number.0 rest

-- behind `field(`
unfoldable pub field_behind : List ℕ → Option (Origin × List ℕ)
field_behind text = do
  key ← key_at text
  rest ← after_byte 41 key.1
  Some (Field key.0, rest)

-- the source that is spelled at the front, and what is after it
unfoldable pub source_at : List ℕ → Option (Origin × List ℕ)
source_at text =
    if begins (codes "seg(") text then seg_behind (drop 4 text)
    else (if begins (codes "field(") text then field_behind (drop 6 text)
    else (if begins (codes "pv") text then Some (Version, drop 2 text)
    else None))

-- KEYS, VALUES, a read key and a row's value, each at the front, and what is after it
abbrev pub keys_at : List ℕ → Option (List Origin × List ℕ)
keys_at text = some_list_at source_at MAX_ROW_KEYS text

abbrev pub values_at : List ℕ → Option (List Origin × List ℕ)
values_at text = list_at source_at MAX_ROW_VALUES text

abbrev pub read_key_at : List ℕ → Option (List Scalar × List ℕ)
read_key_at text = some_list_at scalar_at MAX_ROW_KEYS text

abbrev pub row_value_at : List ℕ → Option (List Scalar × List ℕ)
row_value_at text = list_at scalar_at MAX_ROW_VALUES text
