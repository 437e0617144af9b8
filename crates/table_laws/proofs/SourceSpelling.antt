-- What is read of sources, keys and values is spelled so, and what is spelled so is read.
use Rattle.std.proofs.Common.{◌≡◌, ℕ, ◌≤◌, true, false, eqb, List, [], ◌∷◌, ◌++◌, drop, refl, sym, ap, subst, ◌∙◌, append_assoc, arith, Option, Some, codes, decimal}
use Rattle.std.proofs.lemmas.Bool.{cond-false}
use Rattle.std.proofs.lemmas.Bool.Decides.{nat_tests}
use Rattle.khepri_terms.specs.Bytes.{is_plain}
use Rattle.khepri_terms.specs.Many.{◌>>=◌}
use Rattle.khepri_terms.specs.Names.{comp_text}
use Rattle.khepri_terms.specs.Numbers.{number_at}
use Rattle.khepri_terms.specs.Terms.{NameText}
use Rattle.khepri_terms.proofs.Cases.{bind_some, unless_some, some_is}
use Rattle.khepri_terms.proofs.NamesLaws.{comp_again}
use Rattle.khepri_terms.proofs.NumbersLaws.{number_takes, number_again}
use Rattle.khepri_types.specs.declared.limits.TheConstants.{MAX_PATH_NAMES}
use Rattle.khepri_types.specs.declared.projection.Origin.{Origin}
use Rattle.khepri_types.specs.declared.projection.Origin.TheVariants.{Seg, Field, Version}
use Rattle.khepri_types.specs.ConditionTexts.{IsKey}
use Rattle.khepri_types.specs.ProjectionTexts.{source_text, IsSource, seg_of, seg_behind, field_behind, source_at}
use Rattle.khepri_types.specs.ReadingConditions.{after_byte, as_key, key_at}
use Rattle.khepri_types.specs.Words.{begins}
use Rattle.khepri_types.proofs.Asking.{key_takes, close_again}
use Rattle.khepri_types.proofs.Word.{if_read, word_takes, after_byte-takes}

-- the text begins with the spelling of this source
abbrev pub Spells : List ℕ → Origin × List ℕ → Type 0
Spells text x = (text ≡ source_text x.0 ++ x.1) × IsSource x.0

behind : (word inner rest : List ℕ) → word ++ (inner ++ 41 ∷ rest) ≡ (word ++ (inner ++ 41 ∷ [])) ++ rest
behind word inner rest = sym (append_assoc word (inner ++ 41 ∷ []) rest ∙ ap (λ (t : List ℕ). word ++ t) (append_assoc inner (41 ∷ []) rest))

seg_spelled : (text : List ℕ) (x : Origin × List ℕ) → begins (codes "seg(") text ≡ true → seg_behind (drop 4 text) ≡ Some x → Spells text x
unfolding seg_behind source_text
seg_spelled text x h e =
    let n = bind_some (number_at MAX_PATH_NAMES (drop 4 text)) (λ n. after_byte 41 n.1 >>= λ rest. seg_of n.0 rest) x e in
    let r = bind_some (after_byte 41 n.0.1) (λ rest. seg_of n.0.0 rest) x n.2 in
    let g = unless_some (eqb n.0.0 0) (Some (Seg n.0.0, r.0)) x r.2 in
    let t = number_takes MAX_PATH_NAMES (drop 4 text) n.0 (omega arith) (omega arith) n.1 in
    subst (Spells text) (some_is (Seg n.0.0, r.0) x g.1) (
      word_takes (codes "seg(") text h ∙ (ap (λ (s : List ℕ). codes "seg(" ++ s) (t.0 ∙ ap (λ (s : List ℕ). decimal n.0.0 ++ s) (after_byte-takes 41 n.0.1 r.0 r.1)) ∙ behind (codes "seg(") (decimal n.0.0) r.0),
      (grind (arith, nat_tests), t.1),
    )

field_spelled : (text : List ℕ) (x : Origin × List ℕ) → begins (codes "field(") text ≡ true → field_behind (drop 6 text) ≡ Some x → Spells text x
unfolding field_behind source_text
field_spelled text x h e =
    let k = bind_some (key_at (drop 6 text)) (λ k. after_byte 41 k.1 >>= λ rest. Some (Field k.0, rest)) x e in
    let r = bind_some (after_byte 41 k.0.1) (λ rest. Some (Field k.0.0, rest)) x k.2 in
    let t = key_takes (drop 6 text) k.0 k.1 in
    subst (Spells text) (some_is (Field k.0.0, r.0) x r.2) (
      word_takes (codes "field(") text h ∙ (ap (λ (s : List ℕ). codes "field(" ++ s) (t.0 ∙ ap (λ (s : List ℕ). comp_text k.0.0 ++ s) (after_byte-takes 41 k.0.1 r.0 r.1)) ∙ behind (codes "field(") (comp_text k.0.0) r.0),
      t.1,
    )

version_spelled : (text : List ℕ) (x : Origin × List ℕ) → begins (codes "pv") text ≡ true → Some (Version, drop 2 text) ≡ Some x → Spells text x
unfolding source_text
version_spelled text x h e = subst (Spells text) (some_is (Version, drop 2 text) x e) (word_takes (codes "pv") text h, tt)

pub source_takes : (text : List ℕ) (x : Origin × List ℕ) → source_at text ≡ Some x → Spells text x
unfolding source_at
source_takes text x e =
    if_read (begins (codes "seg(") text) _ _ x e (seg_spelled text x) (λ e.
    if_read (begins (codes "field(") text) _ _ x e (field_spelled text x) (λ e.
    if_read (begins (codes "pv") text) _ _ x e (version_spelled text x) (λ e. absurd cc)))

seg_again : (i : ℕ) (rest : List ℕ) → 1 ≤ i → i ≤ MAX_PATH_NAMES → seg_behind (decimal i ++ 41 ∷ rest) ≡ Some (Seg i, rest)
unfolding seg_behind
seg_again i rest low high =
    let some : eqb i 0 ≡ false = grind (arith, nat_tests) in
    ap (λ (o : Option (ℕ × List ℕ)). o >>= λ n. after_byte 41 n.1 >>= λ rest. seg_of n.0 rest) (number_again MAX_PATH_NAMES i (41 ∷ rest) high (omega (arith, high)) refl)
    ∙ (ap (λ (o : Option (List ℕ)). o >>= λ rest. seg_of i rest) (close_again rest) ∙ cond-false _ _ _ some)

key_closes : (k : NameText) (rest : List ℕ) → IsKey k → key_at (comp_text k ++ 41 ∷ rest) ≡ Some (k, 41 ∷ rest)
unfolding key_at is_plain
key_closes k rest is =
    ap (λ (o : Option (NameText × List ℕ)). o >>= λ n. as_key n n.0.kind) (comp_again k (41 ∷ rest) is.1 refl)
    ∙ ap (as_key (k, 41 ∷ rest)) is.0

field_again : (k : NameText) (rest : List ℕ) → IsKey k → field_behind (comp_text k ++ 41 ∷ rest) ≡ Some (Field k, rest)
unfolding field_behind
field_again k rest is =
    ap (λ (o : Option (NameText × List ℕ)). o >>= λ k. after_byte 41 k.1 >>= λ rest. Some (Field k.0, rest)) (key_closes k rest is)
    ∙ ap (λ (o : Option (List ℕ)). o >>= λ rest. Some (Field k, rest)) (close_again rest)

pub source_again : (o : Origin) (rest : List ℕ) → IsSource o → source_at (source_text o ++ rest) ≡ Some (o, rest)
unfolding source_at source_text
source_again (Seg i) rest is = ap source_at (sym (behind (codes "seg(") (decimal i) rest)) ∙ seg_again i rest is.0 is.1
source_again (Field k) rest is = ap source_at (sym (behind (codes "field(") (comp_text k) rest)) ∙ field_again k rest is
source_again Version rest is = refl
