-- A text is read exactly where it is a spelling.
use Rattle.std.proofs.Common.{◌≡◌, ℕ, List, ap, ◌∙◌, Option, Some, None}
use Rattle.khepri_terms.specs.Terms.{NameText}
use Rattle.khepri_types.specs.declared.projection.Projection.{Projection}
use Rattle.khepri_types.specs.declared.shown_row.ShownRow.{ShownRow}
use Rattle.khepri_types.specs.Exec.{Lookup}
use Rattle.khepri_types.specs.ProjectionLines.{projection_at, spelled_proj, spelled_unproj, spelled_lookup}
use Rattle.khepri_types.specs.RowTexts.{spelled_found}
use Rattle.table_laws.proofs.ProjectionSpelling.{projection_takes, projection_again, proj_takes, proj_again, unproj_takes, unproj_again, spelled_lookup-takes, spelled_lookup-again}
use Rattle.table_laws.proofs.RowSpelling.{found_takes, found_again}
use Rattle.table_text.specs.TableGrammar.{BeginsWith, BeginsNoProjection, SpellsProj, IsNoProj, SpellsUnproj, IsNoUnproj, SpellsLookup, IsNoLookup, SpellsFound, IsNothingFound}

pub projection_read : (text : List ℕ) (J : Projection) (rest : List ℕ) → projection_at text ≡ Some (J, rest) → BeginsWith text J rest
projection_read text J rest e = projection_takes text (J, rest) e

pub projection_unread : (text : List ℕ) → projection_at text ≡ None → BeginsNoProjection text
projection_unread text none J rest is = let some : projection_at text ≡ Some (J, rest) = ap projection_at is.0 ∙ projection_again J rest is.1 in absurd cc

pub proj_read : (text : List ℕ) (J : Projection) → spelled_proj text ≡ Some J → SpellsProj text J
proj_read text J e = proj_takes text J e

pub proj_unread : (text : List ℕ) → spelled_proj text ≡ None → IsNoProj text
proj_unread text none J is = let some : spelled_proj text ≡ Some J = ap spelled_proj is.0 ∙ proj_again J is.1 in absurd cc

pub unproj_read : (text : List ℕ) (n : NameText) → spelled_unproj text ≡ Some n → SpellsUnproj text n
unproj_read text n e = unproj_takes text n e

pub unproj_unread : (text : List ℕ) → spelled_unproj text ≡ None → IsNoUnproj text
unproj_unread text none n is = let some : spelled_unproj text ≡ Some n = ap spelled_unproj is.0 ∙ unproj_again n is.1 in absurd cc

pub lookup_read : (text : List ℕ) (q : Lookup) → spelled_lookup text ≡ Some q → SpellsLookup text q
lookup_read text q e = spelled_lookup-takes text q e

pub lookup_unread : (text : List ℕ) → spelled_lookup text ≡ None → IsNoLookup text
lookup_unread text none q is = let some : spelled_lookup text ≡ Some q = ap spelled_lookup is.0 ∙ spelled_lookup-again q is.1 in absurd cc

pub found_read : (text : List ℕ) (x : Option (List ShownRow)) → spelled_found text ≡ Some x → SpellsFound text x
found_read text x e = found_takes text x e

pub found_unread : (text : List ℕ) → spelled_found text ≡ None → IsNothingFound text
found_unread text none x is = let some : spelled_found text ≡ Some x = ap spelled_found is.0 ∙ found_again x is.1 in absurd cc
