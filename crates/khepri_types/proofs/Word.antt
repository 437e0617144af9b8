-- Words and bytes at the front of a text.
use Rattle.std.proofs.Common.{◌≡◌, ℕ, Bool, true, false, cond, eqb, List, [], ◌∷◌, ◌++◌, length, take, drop, refl, sym, ap, ◌∙◌, Option, Some}
use Rattle.std.specs.Cmp.Lexicographic.{same_text}
use Rattle.std.proofs.lemmas.Bool.{eqb-true}
use Rattle.std.proofs.lemmas.List.{take-append-drop}
use Rattle.khepri_terms.proofs.Cases.{guard_some, some_is}
use Rattle.khepri_types.specs.ReadingConditions.{after_byte}
use Rattle.khepri_types.specs.Words.{begins, after_word}

-- a reading by cases: what follows where the test holds, and what follows from the other case
pub if_read : {A P : Type 0} (t : Bool) (a b : Option A) (x : A) → cond t a b ≡ Some x → (t ≡ true → a ≡ Some x → P) → (b ≡ Some x → P) → P
if_read true a b x e held other = held refl e
if_read false a b x e held other = other e

-- a text that begins with a word
pub word_takes : (word text : List ℕ) → begins word text ≡ true → text ≡ word ++ drop (length word) text
word_takes word text e = sym (take-append-drop (length word) text) ∙ ap (λ (h : List ℕ). h ++ drop (length word) text) (same_text (take (length word) text) word (sym e))

pub after_word-takes : (word text rest : List ℕ) → after_word word text ≡ Some rest → text ≡ word ++ rest
unfolding after_word
after_word-takes word text rest e =
    let g = guard_some (begins word text) (Some (drop (length word) text)) rest e in
    word_takes word text g.0 ∙ ap (λ (t : List ℕ). word ++ t) (some_is (drop (length word) text) rest g.1)

pub after_byte-takes : (b : ℕ) (text rest : List ℕ) → after_byte b text ≡ Some rest → text ≡ b ∷ rest
unfolding after_byte
after_byte-takes b [] rest e = absurd cc
after_byte-takes b (a ∷ text) rest e =
    let g = guard_some (eqb a b) (Some text) rest e in
    λ i. eqb-true a b g.0 i ∷ some_is text rest g.1 i
