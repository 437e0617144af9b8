-- Which group of words of a condition a text begins with.
use Rattle.std.proofs.Common.{◌≡◌, ℕ, true, false, List, ◌++◌, drop, refl, sym, ap, ◌∙◌, codes}
use Rattle.std.proofs.lemmas.Bool.{cond-false}
use Rattle.khepri_types.specs.Words.{begins}
use Rattle.khepri_types.specs.ReadingConditions.{Reading, atom_at, not_asked, all_asked, any_asked, layer_at}
use Rattle.khepri_types.proofs.Word.{word_takes}

-- no word is the beginning of another
at_not : (inner : ℕ → List ℕ → Reading) (left : ℕ) (rest : List ℕ) → layer_at inner left (codes "not(" ++ rest) ≡ not_asked inner left rest
unfolding layer_at
at_not inner left rest = refl

at_all : (inner : ℕ → List ℕ → Reading) (left : ℕ) (rest : List ℕ) → layer_at inner left (codes "all(" ++ rest) ≡ all_asked inner left rest
unfolding layer_at
at_all inner left rest = refl

at_any : (inner : ℕ → List ℕ → Reading) (left : ℕ) (rest : List ℕ) → layer_at inner left (codes "any(" ++ rest) ≡ any_asked inner left rest
unfolding layer_at
at_any inner left rest = refl

pub layer_not : (inner : ℕ → List ℕ → Reading) (left : ℕ) (text rest : List ℕ) → begins (codes "not(") text ≡ true → rest ≡ drop 4 text → layer_at inner left text ≡ not_asked inner left rest
layer_not inner left text rest e is = ap (layer_at inner left) (word_takes (codes "not(") text e) ∙ (at_not inner left (drop 4 text) ∙ ap (not_asked inner left) (sym is))

pub layer_all : (inner : ℕ → List ℕ → Reading) (left : ℕ) (text rest : List ℕ) → begins (codes "all(") text ≡ true → rest ≡ drop 4 text → layer_at inner left text ≡ all_asked inner left rest
layer_all inner left text rest e is = ap (layer_at inner left) (word_takes (codes "all(") text e) ∙ (at_all inner left (drop 4 text) ∙ ap (all_asked inner left) (sym is))

pub layer_any : (inner : ℕ → List ℕ → Reading) (left : ℕ) (text rest : List ℕ) → begins (codes "any(") text ≡ true → rest ≡ drop 4 text → layer_at inner left text ≡ any_asked inner left rest
layer_any inner left text rest e is = ap (layer_at inner left) (word_takes (codes "any(") text e) ∙ (at_any inner left (drop 4 text) ∙ ap (any_asked inner left) (sym is))

-- what is no condition of conditions
pub layer_atom : (inner : ℕ → List ℕ → Reading) (left : ℕ) (text : List ℕ) → begins (codes "not(") text ≡ false → begins (codes "all(") text ≡ false → begins (codes "any(") text ≡ false → layer_at inner left text ≡ atom_at left text
unfolding layer_at
layer_atom inner left text no_not no_all no_any = cond-false _ _ _ no_not ∙ (cond-false _ _ _ no_all ∙ cond-false _ _ _ no_any)
