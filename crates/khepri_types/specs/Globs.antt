-- Globs: which names they fit, and how they are spelled.
use Rattle.std.specs.Prelude.{ℕ, ◌<◌, ◌≤◌, Bool, true, false, ◌&&◌, ◌||◌, ◌==◌, if◌then◌else◌, List, [], ◌∷◌, ◌++◌, length, Option, Some, None}
use Rattle.std.specs.List.{flat_map, AllByRecursion}
use Rattle.khepri_terms.specs.declared.name.Kind.{Kind}
use Rattle.khepri_terms.specs.declared.name.Kind.TheVariants.{Atom, Text}
use Rattle.khepri_terms.specs.Terms.{NameText}
use Rattle.khepri_terms.specs.Many.{many}
use Rattle.khepri_terms.specs.Bytes.{byte_text, byte_at}
use Rattle.khepri_terms.specs.Names.{mark}
use Rattle.khepri_types.specs.declared.limits.TheConstants.{MAX_GLOB_PIECES}
use Rattle.khepri_types.specs.declared.glob.GlobPiece.{GlobPiece}
use Rattle.khepri_types.specs.declared.glob.GlobPiece.TheVariants.{Byte, Star}
use Rattle.khepri_types.specs.declared.glob.Glob.{Glob}

-- the bytes themselves, or what is behind some of their first ones, pass the test
unfoldable pub some_tail : (List ℕ → Bool) → List ℕ → Bool
some_tail test [] = test []
some_tail test (b ∷ bytes) = test (b ∷ bytes) || some_tail test bytes

-- the bytes begin with this one, and what is behind it passes the test
abbrev pub begins_byte : ℕ → (List ℕ → Bool) → List ℕ → Bool
begins_byte a test [] = false
begins_byte a test (b ∷ bytes) = a == b && test bytes

abbrev pub is_nil : List ℕ → Bool
is_nil [] = true
is_nil (b ∷ bytes) = false

-- the pieces are these bytes, with each `*` replaced by some bytes, perhaps none
unfoldable pub glob_matches : List GlobPiece → List ℕ → Bool
glob_matches [] bytes = is_nil bytes
glob_matches (Byte a ∷ pieces) bytes = begins_byte a (glob_matches pieces) bytes
glob_matches (Star ∷ pieces) bytes = some_tail (glob_matches pieces) bytes

abbrev pub same_kind : Kind → Kind → Bool
same_kind Atom Atom = true
same_kind Atom Text = false
same_kind Text Atom = false
same_kind Text Text = true

-- a name of the glob's kind whose bytes are the glob's
abbrev pub fits_name : Glob → NameText → Bool
fits_name g n = same_kind g.kind n.kind && glob_matches g.pieces n.bytes

-- a byte as in a text, or `*`
abbrev pub piece_text : GlobPiece → List ℕ
piece_text (Byte b) = byte_text b
piece_text Star = 42 ∷ []

-- a `:` before an atom's, and the pieces
unfoldable pub glob_text : Glob → List ℕ
glob_text g = mark g.kind ++ flat_map piece_text g.pieces

-- a piece that has a spelling
abbrev pub IsPiece : GlobPiece → Type 0
IsPiece (Byte b) = b < 256
IsPiece Star = Unit {0}

-- a glob that has a spelling
pub record IsGlob (g : Glob) : Type 0 where
  pub low : 0 < length g.pieces
  pub high : length g.pieces ≤ MAX_GLOB_PIECES
  pub pieces : AllByRecursion IsPiece g.pieces

abbrev pub byte_piece : Option (ℕ × List ℕ) → Option (GlobPiece × List ℕ)
byte_piece None = None
byte_piece (Some x) = Some (Byte x.0, x.1)

-- the piece that is spelled at the front, and what is after it
unfoldable pub piece_at : List ℕ → Option (GlobPiece × List ℕ)
piece_at [] = None
piece_at (b ∷ text) = if b == 42 then Some (Star, text) else byte_piece (byte_at (b ∷ text))

-- pieces as a glob of this kind, none where there are none
abbrev pub globbed : Kind → List GlobPiece × List ℕ → Option (Glob × List ℕ)
globbed kind ([], rest) = None
globbed kind (p ∷ pieces, rest) = Some (record { kind = kind; pieces = p ∷ pieces }, rest)

-- the longest glob that is spelled at the front, and what is after it
unfoldable pub glob_at : List ℕ → Option (Glob × List ℕ)
glob_at [] = None
glob_at (b ∷ text) = if b == 58 then globbed Atom (many piece_at MAX_GLOB_PIECES text) else globbed Text (many piece_at MAX_GLOB_PIECES (b ∷ text))
