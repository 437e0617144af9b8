-- What a glob does at one place of the bytes.
use Rattle.std.specs.Prelude.{◌≡◌, ℕ, true, false, List, ◌∷◌, Some}
use Rattle.khepri_types.specs.declared.glob.GlobPiece.{GlobPiece}
use Rattle.khepri_types.specs.declared.glob.GlobPiece.TheVariants as piece
use Rattle.khepri_types.specs.declared.glob.Begun.{Begun}
use Rattle.khepri_types.specs.declared.glob.Begun.TheVariants.{Star, Same, Unlike}
use Rattle.khepri_types.specs.Globs.{glob_matches}
use Rattle.khepri_types.specs.Literals.{literal_at}

-- a `*` stands before these pieces, and the pieces before it took the bytes before these; or all is decided
abbrev pub IsBegun : List GlobPiece → List ℕ → Begun → Type 0
IsBegun pieces bytes (Star later rest) = literal_at pieces bytes ≡ Some (piece.Star ∷ later.now, rest.now)
IsBegun pieces bytes Same = glob_matches pieces bytes ≡ true
IsBegun pieces bytes Unlike = glob_matches pieces bytes ≡ false
