-- What is read of globs is spelled so, and what is spelled so is read.
use Rattle.std.proofs.Common.{◌≡◌, ℕ, ◌-◌, ◌<◌, ◌≤◌, true, false, eqb, ⊎_elim, List, [], ◌∷◌, ◌++◌, length, refl, sym, ap, subst, ◌∙◌, append_assoc, arith, Option, Some, None}
use Rattle.std.proofs.lemmas.Bool.{eqb-true, cond-false}
use Rattle.std.proofs.lemmas.List.{append-nil}
use Rattle.std.specs.List.{flat_map}
use Rattle.khepri_terms.specs.declared.name.Kind.{Kind}
use Rattle.khepri_terms.specs.declared.name.Kind.TheVariants.{Atom, Text}
use Rattle.khepri_terms.specs.Many.{many}
use Rattle.khepri_terms.specs.Bytes.{is_plain, byte_text, byte_at}
use Rattle.khepri_terms.specs.Names.{mark}
use Rattle.khepri_terms.proofs.Cases.{if_some, some_is}
use Rattle.khepri_terms.proofs.Reading.{ahead, many-end, Took, many_takes, many_again}
use Rattle.khepri_terms.proofs.BytesLaws.{byte_takes, byte_again}
use Rattle.khepri_types.specs.declared.limits.TheConstants.{MAX_GLOB_PIECES}
use Rattle.khepri_types.specs.declared.glob.Glob.{Glob}
use Rattle.khepri_types.specs.declared.glob.GlobPiece.{GlobPiece}
use Rattle.khepri_types.specs.declared.glob.GlobPiece.TheVariants.{Byte, Star}
use Rattle.khepri_types.specs.Globs.{piece_text, glob_text, IsPiece, IsGlob, byte_piece, piece_at, globbed, glob_at}

byte_piece_is : (o : Option (ℕ × List ℕ)) (x : GlobPiece × List ℕ) → byte_piece o ≡ Some x → (y : ℕ × List ℕ) × (o ≡ Some y) × ((Byte y.0, y.1) ≡ x)
byte_piece_is None x e = absurd cc
byte_piece_is (Some y) x e = (y, refl, some_is (Byte y.0, y.1) x e)

piece_takes : (text : List ℕ) (x : GlobPiece × List ℕ) → piece_at text ≡ Some x → (text ≡ piece_text x.0 ++ x.1) × IsPiece x.0
unfolding piece_at
piece_takes [] x e = absurd cc
piece_takes (b ∷ text) x e =
    ⊎_elim
    (λ (p : (eqb b 42 ≡ true) × (Some (Star, text) ≡ Some x)).
    subst (λ (y : GlobPiece × List ℕ). (b ∷ text ≡ piece_text y.0 ++ y.1) × IsPiece y.0) (some_is (Star, text) x p.1) (ap (λ (n : ℕ). n ∷ text) (eqb-true b 42 p.0), tt))
    (λ (p : (eqb b 42 ≡ false) × (byte_piece (byte_at (b ∷ text)) ≡ Some x)).
    let y = byte_piece_is (byte_at (b ∷ text)) x p.1 in
    let t = byte_takes (b ∷ text) y.0 y.1 in
    subst (λ (z : GlobPiece × List ℕ). (b ∷ text ≡ piece_text z.0 ++ z.1) × IsPiece z.0) y.2 t)
    (if_some (eqb b 42) (Some (Star, text)) (byte_piece (byte_at (b ∷ text))) x e)

star_is_none : (text : List ℕ) → byte_at (42 ∷ text) ≡ None
unfolding byte_at is_plain
star_is_none text = refl

no_byte : byte_at [] ≡ None
unfolding byte_at
no_byte = refl

byte_is_piece : (text : List ℕ) (x : ℕ × List ℕ) → byte_at text ≡ Some x → piece_at text ≡ Some (Byte x.0, x.1)
unfolding piece_at
byte_is_piece [] x e = let n = no_byte in absurd cc
byte_is_piece (b ∷ text) x e =
    let no-star : eqb b 42 ≡ false = elim (eqb b 42) as (λ v. eqb b 42 ≡ v → v ≡ false) [
      | true ↦ λ p. let n : byte_at (b ∷ text) ≡ None = ap (λ (k : ℕ). byte_at (k ∷ text)) (eqb-true b 42 p) ∙ star_is_none text in absurd cc
      | false ↦ λ p. refl
    ] refl in
    cond-false _ _ _ no-star ∙ ap byte_piece e

star_is_piece : (rest : List ℕ) → piece_at (42 ∷ rest) ≡ Some (Star, rest)
unfolding piece_at
star_is_piece rest = refl

piece_again : (p : GlobPiece) (rest : List ℕ) → IsPiece p → piece_at (piece_text p ++ rest) ≡ Some (p, rest)
piece_again (Byte b) rest is = byte_is_piece (byte_text b ++ rest) (b, rest) (byte_again b rest is)
piece_again Star rest is = star_is_piece rest

globbed_takes : (kind : Kind) (text : List ℕ) (found : List GlobPiece × List ℕ) (x : Glob × List ℕ) → Took piece_text IsPiece MAX_GLOB_PIECES text found → globbed kind found ≡ Some x → (mark kind ++ text ≡ glob_text x.0 ++ x.1) × IsGlob x.0
unfolding glob_text
globbed_takes kind text ([], rest) x t e = absurd cc
globbed_takes kind text (p ∷ pieces, rest) x t e =
    let g : Glob = record { kind = kind; pieces = p ∷ pieces } in
    subst (λ (y : Glob × List ℕ). (mark kind ++ text ≡ glob_text y.0 ++ y.1) × IsGlob y.0) (some_is (g, rest) x e)
    (ap (λ (s : List ℕ). mark kind ++ s) t.parts ∙ sym (append_assoc (mark kind) (flat_map piece_text (p ∷ pieces)) rest), record { low = omega arith; high = t.few; pieces = t.all })

pub glob_takes : (text : List ℕ) (x : Glob × List ℕ) → glob_at text ≡ Some x → (text ≡ glob_text x.0 ++ x.1) × IsGlob x.0
unfolding glob_at
glob_takes [] x e = absurd cc
glob_takes (b ∷ text) x e =
    ⊎_elim
    (λ (p : (eqb b 58 ≡ true) × (globbed Atom (many piece_at MAX_GLOB_PIECES text) ≡ Some x)).
    let t = globbed_takes Atom text (many piece_at MAX_GLOB_PIECES text) x (many_takes piece_at piece_text IsPiece piece_takes MAX_GLOB_PIECES text) p.1 in
    (ap (λ (n : ℕ). n ∷ text) (eqb-true b 58 p.0) ∙ t.0, t.1))
    (λ (p : (eqb b 58 ≡ false) × (globbed Text (many piece_at MAX_GLOB_PIECES (b ∷ text)) ≡ Some x)).
    globbed_takes Text (b ∷ text) (many piece_at MAX_GLOB_PIECES (b ∷ text)) x (many_takes piece_at piece_text IsPiece piece_takes MAX_GLOB_PIECES (b ∷ text)) p.1)
    (if_some (eqb b 58) (globbed Atom (many piece_at MAX_GLOB_PIECES text)) (globbed Text (many piece_at MAX_GLOB_PIECES (b ∷ text))) x e)

colon_is_none : (text : List ℕ) → piece_at (58 ∷ text) ≡ None
unfolding piece_at byte_at is_plain
colon_is_none text = refl

no_piece : piece_at [] ≡ None
unfolding piece_at
no_piece = refl

text_is_glob : (text : List ℕ) (x : GlobPiece × List ℕ) → piece_at text ≡ Some x → glob_at text ≡ globbed Text (many piece_at MAX_GLOB_PIECES text)
unfolding glob_at
text_is_glob [] x e = let n = no_piece in absurd cc
text_is_glob (b ∷ text) x e =
    let no-colon : eqb b 58 ≡ false = elim (eqb b 58) as (λ v. eqb b 58 ≡ v → v ≡ false) [
      | true ↦ λ p. let n : piece_at (b ∷ text) ≡ None = ap (λ (k : ℕ). piece_at (k ∷ text)) (eqb-true b 58 p) ∙ colon_is_none text in absurd cc
      | false ↦ λ p. refl
    ] refl in
    cond-false _ _ _ no-colon

colon_is_glob : (text : List ℕ) → glob_at (58 ∷ text) ≡ globbed Atom (many piece_at MAX_GLOB_PIECES text)
unfolding glob_at
colon_is_glob text = refl

pieces_again : (g : Glob) (rest : List ℕ) → IsGlob g → piece_at rest ≡ None → many piece_at MAX_GLOB_PIECES (flat_map piece_text g.pieces ++ rest) ≡ (g.pieces, rest)
pieces_again g rest is none =
    let high : length g.pieces ≤ MAX_GLOB_PIECES = is.high in
    many_again piece_at piece_text IsPiece (λ _. Unit {0}) (λ p r q _. piece_again p r q) (λ _ _ _. tt) g.pieces MAX_GLOB_PIECES (MAX_GLOB_PIECES - length g.pieces) rest is.pieces (omega arith) tt
    ∙ (ap (λ (f : List GlobPiece × List ℕ). ahead g.pieces f) (many-end piece_at (MAX_GLOB_PIECES - length g.pieces) rest none)
    ∙ ap (λ (v : List GlobPiece). (v, rest)) (append-nil g.pieces))

by_kind : (kind : Kind) (pieces : List GlobPiece) (rest : List ℕ) → IsGlob (record { kind = kind; pieces = pieces }) → piece_at rest ≡ None → glob_at (glob_text (record { kind = kind; pieces = pieces }) ++ rest) ≡ Some (record { kind = kind; pieces = pieces }, rest)
unfolding glob_text
by_kind kind [] rest is none = let low : 0 < 0 = is.low in absurd (omega arith)
by_kind Atom (p ∷ pieces) rest is none =
    let g : Glob = record { kind = Atom; pieces = p ∷ pieces } in
    colon_is_glob (flat_map piece_text (p ∷ pieces) ++ rest) ∙ ap (globbed Atom) (pieces_again g rest is none)
by_kind Text (p ∷ pieces) rest is none =
    let g : Glob = record { kind = Text; pieces = p ∷ pieces } in
    let first : piece_at (flat_map piece_text (p ∷ pieces) ++ rest) ≡ Some (p, flat_map piece_text pieces ++ rest) =
    ap piece_at (append_assoc (piece_text p) (flat_map piece_text pieces) rest) ∙ piece_again p (flat_map piece_text pieces ++ rest) is.pieces.0 in
    text_is_glob (flat_map piece_text (p ∷ pieces) ++ rest) (p, flat_map piece_text pieces ++ rest) first ∙ ap (globbed Text) (pieces_again g rest is none)

closing_none : (rest : List ℕ) → piece_at (41 ∷ rest) ≡ None
unfolding piece_at byte_at is_plain
closing_none rest = refl

-- a glob before a `)`
pub glob_again : (g : Glob) (rest : List ℕ) → IsGlob g → glob_at (glob_text g ++ 41 ∷ rest) ≡ Some (g, 41 ∷ rest)
glob_again g rest is = by_kind g.kind g.pieces (41 ∷ rest) is (closing_none rest)
