-- The pieces of a glob before its first `*`.
use Rattle.std.specs.Prelude.{ℕ, ◌==◌, if◌then◌else◌, List, [], ◌∷◌, Option, Some, None}
use Rattle.khepri_types.specs.declared.glob.GlobPiece.{GlobPiece}
use Rattle.khepri_types.specs.declared.glob.GlobPiece.TheVariants.{Byte, Star}

-- what is left of the pieces and of the bytes once the pieces before the first `*` have taken theirs
unfoldable pub literal_at : List GlobPiece → List ℕ → Option (List GlobPiece × List ℕ)
literal_at [] bytes = Some ([], bytes)
literal_at (Star ∷ pieces) bytes = Some (Star ∷ pieces, bytes)
literal_at (Byte a ∷ pieces) [] = None
literal_at (Byte a ∷ pieces) (b ∷ bytes) = if a == b then literal_at pieces bytes else None
