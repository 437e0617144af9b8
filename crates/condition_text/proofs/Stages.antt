-- The parts that were read as a pattern.
use Rattle.std.proofs.Common.{◌≡◌, ℕ, ◌-◌, ◌<◌, ◌≤◌, false, leb, List, [], ◌∷◌, length, ap, ◌∙◌, arith, Option, Some, None}
use Rattle.std.proofs.lemmas.Bool.Decides.{nat_tests}
use Rattle.std.proofs.lemmas.Bool.{cond-true, cond-false, le-leb}
use Rattle.khepri_terms.specs.Many.{many, ◌>>=◌}
use Rattle.khepri_types.specs.declared.pattern.PatternPart.{PatternPart}
use Rattle.khepri_types.specs.ReadingConditions.{after_byte, stage_at, pattern_of, pattern_at}

pub pattern_root : (text : List ℕ) (parts : List PatternPart) (rest after : List ℕ) → many stage_at 32 text ≡ (parts, rest) → length parts ≡ 0 → after_byte 47 text ≡ Some after → pattern_at text ≡ Some (parts, after)
unfolding pattern_at
pattern_root text [] rest after e l f = ap (pattern_of text) e ∙ ap (λ (o : Option (List ℕ)). o >>= λ after. Some ([], after)) f
pattern_root text (P ∷ parts) rest after e l f = absurd (omega (arith, l))

pub pattern_odd : (text : List ℕ) (parts : List PatternPart) (rest : List ℕ) → many stage_at 32 text ≡ (parts, rest) → length parts ≡ 0 → after_byte 47 text ≡ None → pattern_at text ≡ None
unfolding pattern_at
pattern_odd text [] rest e l f = ap (pattern_of text) e ∙ ap (λ (o : Option (List ℕ)). o >>= λ after. Some ([], after)) f
pattern_odd text (P ∷ parts) rest e l f = absurd (omega (arith, l))

pub pattern_found : (text : List ℕ) (parts : List PatternPart) (rest : List ℕ) → many stage_at 32 text ≡ (parts, rest) → 0 < length parts → length text - length rest ≤ 1024 → pattern_at text ≡ Some (parts, rest)
unfolding pattern_at
pattern_found text [] rest e l f = absurd (omega arith)
pattern_found text (P ∷ parts) rest e l f = ap (pattern_of text) e ∙ cond-true _ _ _ (le-leb (length text - length rest) 1024 f)

pub pattern_long : (text : List ℕ) (parts : List PatternPart) (rest : List ℕ) → many stage_at 32 text ≡ (parts, rest) → 0 < length parts → 1024 < length text - length rest → pattern_at text ≡ None
unfolding pattern_at
pattern_long text [] rest e l f = absurd (omega arith)
pattern_long text (P ∷ parts) rest e l f = let no : leb (length text - length rest) 1024 ≡ false = grind (arith, nat_tests) in ap (pattern_of text) e ∙ cond-false _ _ _ no
