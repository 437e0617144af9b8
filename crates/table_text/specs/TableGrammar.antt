-- Which texts spell which values of tables.
use Rattle.std.specs.Prelude.{◌≡◌, ℕ, List, ◌++◌, Option}
use Rattle.khepri_terms.specs.Terms.{NameText}
use Rattle.khepri_types.specs.declared.projection.Projection.{Projection}
use Rattle.khepri_types.specs.declared.shown_row.ShownRow.{ShownRow}
use Rattle.khepri_types.specs.ConditionTexts.{IsKey}
use Rattle.khepri_types.specs.Exec.{Lookup}
use Rattle.khepri_types.specs.ProjectionLines.{projection_text, proj_text, unproj_text, lookup_text, IsProjection, IsLookup}
use Rattle.khepri_types.specs.RowTexts.{found_text, IsFound}

-- the text begins with the spelling of this projection, and this is after it
abbrev pub BeginsWith : List ℕ → Projection → List ℕ → Type 0
BeginsWith text J rest = (text ≡ projection_text J ++ rest) × IsProjection J

-- no projection is spelled at the front of the text
abbrev pub BeginsNoProjection : List ℕ → Type 0
BeginsNoProjection text = (J : Projection) (rest : List ℕ) → BeginsWith text J rest → ⊥

-- the text is the command that registers this projection
abbrev pub SpellsProj : List ℕ → Projection → Type 0
SpellsProj text J = (text ≡ proj_text J) × IsProjection J

abbrev pub IsNoProj : List ℕ → Type 0
IsNoProj text = (J : Projection) → SpellsProj text J → ⊥

-- the text is the command that removes the projection of this name
abbrev pub SpellsUnproj : List ℕ → NameText → Type 0
SpellsUnproj text n = (text ≡ unproj_text n) × IsKey n

abbrev pub IsNoUnproj : List ℕ → Type 0
IsNoUnproj text = (n : NameText) → SpellsUnproj text n → ⊥

-- the text is this read
abbrev pub SpellsLookup : List ℕ → Lookup → Type 0
SpellsLookup text q = (text ≡ lookup_text q) × IsLookup q

abbrev pub IsNoLookup : List ℕ → Type 0
IsNoLookup text = (q : Lookup) → SpellsLookup text q → ⊥

-- the text says that a read shows this
abbrev pub SpellsFound : List ℕ → Option (List ShownRow) → Type 0
SpellsFound text x = (text ≡ found_text x) × IsFound x

abbrev pub IsNothingFound : List ℕ → Type 0
IsNothingFound text = (x : Option (List ShownRow)) → SpellsFound text x → ⊥
