-- How patterns are spelled, and which patterns have a spelling.
use Rattle.std.specs.Prelude.{◌≡◌, ℕ, ◌≤◌, false, ◌||◌, ◌==◌, List, [], ◌∷◌, ◌++◌, length, codes}
use Rattle.std.specs.List.{flat_map, AllByRecursion}
use Rattle.khepri_terms.specs.Names.{comp_text, IsName}
use Rattle.khepri_terms.specs.Paths.{goes_on}
use Rattle.khepri_types.specs.declared.limits.TheConstants.{MAX_PATTERN_PARTS, MAX_PATTERN_TEXT}
use Rattle.khepri_types.specs.declared.pattern.PatternPart.{PatternPart}
use Rattle.khepri_types.specs.declared.pattern.PatternPart.TheVariants as part
use Rattle.khepri_types.specs.ConditionTexts.{condition_text, IsCondition}

-- a name, `*`, `**`, or a condition between `[` and `]`
unfoldable pub part_text : PatternPart → List ℕ
part_text (part.Name n) = comp_text n
part_text part.One = codes "*"
part_text part.Many = codes "**"
part_text (part.Meets c) = 91 ∷ (condition_text c ++ 93 ∷ [])

-- a part behind its slash
abbrev pub stage_text : PatternPart → List ℕ
stage_text P = 47 ∷ part_text P

-- `/` for the pattern of the root, else each part behind a slash
unfoldable pub pattern_text : List PatternPart → List ℕ
pattern_text [] = 47 ∷ []
pattern_text (P ∷ parts) = flat_map stage_text (P ∷ parts)

-- a part that has a spelling
abbrev pub IsPart : PatternPart → Type 0
IsPart (part.Name n) = IsName n
IsPart part.One = Unit {0}
IsPart part.Many = Unit {0}
IsPart (part.Meets c) = IsCondition c

-- a pattern that has a spelling
pub record IsPattern (parts : List PatternPart) : Type 0 where
  pub all : AllByRecursion IsPart parts
  pub few : length parts ≤ MAX_PATTERN_PARTS
  pub short : length (pattern_text parts) ≤ MAX_PATTERN_TEXT

-- what follows a pattern does not go on with it
abbrev pub EndsPattern : List ℕ → Type 0
EndsPattern [] = Unit {0}
EndsPattern (b ∷ rest) = (goes_on b || b == 42 || b == 91) ≡ false
