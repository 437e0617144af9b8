-- How the rows that a read shows are spelled.
use Rattle.std.specs.Prelude.{ℕ, ◌==◌, if◌then◌else◌, List, [], ◌∷◌, ◌++◌, length, map, Option, Some, None, codes}
use Rattle.std.specs.Fmt.{decimal}
use Rattle.std.specs.List.{flat_map, AllByRecursion}
use Rattle.std.specs.Option.{option_map}
use Rattle.khepri_terms.specs.Many.{many, ◌>>=◌}
use Rattle.khepri_terms.specs.Numbers.{number_at}
use Rattle.khepri_terms.specs.Paths.{path_text, path_at, IsPath}
use Rattle.khepri_terms.specs.Terms.{NameText}
use Rattle.khepri_terms.specs.declared.scalar.Scalar.{Scalar}
use Rattle.khepri_types.specs.declared.limits.TheConstants.{MAX_NUMBER}
use Rattle.khepri_types.specs.declared.shown_row.ShownRow.{ShownRow}
use Rattle.khepri_types.specs.ProjectionTexts.{scalars_text, IsRowValue, row_value_at}
use Rattle.khepri_types.specs.Ranges.{IsNumber}
use Rattle.khepri_types.specs.ReadingConditions.{after_byte}
use Rattle.khepri_types.specs.Words.{is_word}

-- a row of a look-up as a read shows it
abbrev pub shown_row : List NameText × List Scalar → ShownRow
shown_row e = record { path = e.0; value = e.1 }

-- the rows of a look-up as a read shows them, or none where there is no such table
abbrev pub shown_rows : Option (List (List NameText × List Scalar)) → Option (List ShownRow)
shown_rows found = option_map (map shown_row) found

-- ` PATH LIST`
unfoldable pub shown_row_text : ShownRow → List ℕ
shown_row_text r = 32 ∷ path_text r.path ++ 32 ∷ scalars_text r.value

-- how many rows there are, and the rows
unfoldable pub shown_rows_text : List ShownRow → List ℕ
shown_rows_text rows = decimal (length rows) ++ flat_map shown_row_text rows

-- the rows, or `none` where there is no such table
unfoldable pub found_text : Option (List ShownRow) → List ℕ
found_text None = codes "none"
found_text (Some rows) = shown_rows_text rows

-- a row that may be shown
pub record IsShownRow (r : ShownRow) : Type 0 where
  pub path : IsPath r.path
  pub value : IsRowValue r.value

-- rows that may be shown
pub record AreShownRows (rows : List ShownRow) : Type 0 where
  pub all : AllByRecursion IsShownRow rows
  pub count : IsNumber (length rows)

-- what a read may show
abbrev pub IsFound : Option (List ShownRow) → Type 0
IsFound None = Unit {0}
IsFound (Some rows) = AreShownRows rows

-- the row that is spelled at the front, and what is after it
unfoldable pub shown_row_at : List ℕ → Option (ShownRow × List ℕ)
shown_row_at text = do
  place ← after_byte 32 text
  path ← path_at place
  value_text ← after_byte 32 path.1
  value ← row_value_at value_text
  Some (record { path = path.0; value = value.0 }, value.1)

-- rows that nothing follows, and that are as many as was said
abbrev pub counted : ℕ → List ShownRow × List ℕ → Option (List ShownRow)
counted n (rows, []) = if n == length rows then Some rows else None
counted n (rows, b ∷ rest) = None

-- the rows that the whole text spells, behind their number
unfoldable pub spelled_shown_rows : List ℕ → Option (List ShownRow)
spelled_shown_rows text = do
  count ← number_at MAX_NUMBER text
  counted count.0 (many shown_row_at (length count.1) count.1)

-- what a read shows by the whole text
unfoldable pub spelled_found : List ℕ → Option (Option (List ShownRow))
spelled_found text = if is_word (codes "none") text then Some None else option_map Some (spelled_shown_rows text)
