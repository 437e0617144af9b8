-- How conditions are spelled, and which conditions have a spelling.
use Rattle.std.specs.Prelude.{◌≡◌, ℕ, zero, suc, ◌+◌, ◌≤◌, List, [], ◌∷◌, ◌++◌, codes, sum}
use Rattle.std.specs.List.{AllByRecursion}
use Rattle.std.specs.Fmt.{decimal}
use Rattle.khepri_terms.specs.declared.name.Kind.TheVariants as kinds
use Rattle.khepri_terms.specs.Terms.{NameText}
use Rattle.khepri_terms.specs.Names.{comp_text, IsName}
use Rattle.khepri_terms.specs.Records.{scalar_text, rec_text, IsScalar, IsRec}
use Rattle.khepri_types.specs.declared.limits.TheConstants.{MAX_CONDITION_PARTS, MAX_CONDITION_NESTING}
use Rattle.khepri_types.specs.declared.condition.Condition.{Condition, out-Condition}
use Rattle.khepri_types.specs.declared.condition.Condition.TheFolds.{fold-Condition}
use Rattle.khepri_types.specs.declared.condition.Condition.TheOpen.{Condition-F}
use Rattle.khepri_types.specs.declared.compare.Compare.{Compare}
use Rattle.khepri_types.specs.Compares.{compare_text}
use Rattle.khepri_types.specs.Globs.{glob_text, IsGlob}
use Rattle.khepri_types.specs.Ranges.{IsNumber}

-- texts joined by `,`
unfoldable pub joined : List (List ℕ) → List ℕ
joined [] = []
joined (t ∷ []) = t
joined (t ∷ u ∷ ts) = t ++ 44 ∷ joined (u ∷ ts)

-- a word, `(`, what it is asked of, and `)`
abbrev pub asked_text : List ℕ → List ℕ → List ℕ
asked_text word t = word ++ 40 ∷ (t ++ 41 ∷ [])

-- `OP,NUM`
abbrev pub number_text : Compare → ℕ → List ℕ
number_text op n = compare_text op ++ 44 ∷ decimal n

-- one layer of a condition, by the spelling of its parts
unfoldable pub layer_text : Condition-F (List ℕ) → List ℕ
layer_text Condition-F.Absent = codes "absent"
layer_text Condition-F.Exists = codes "exists"
layer_text Condition-F.Payload = codes "payload"
layer_text Condition-F.Data = codes "data"
layer_text Condition-F.Sproc = codes "sproc"
layer_text (Condition-F.Name g) = asked_text (codes "name") (glob_text g)
layer_text (Condition-F.Is r) = asked_text (codes "is") (rec_text r)
layer_text (Condition-F.Field key op x) = asked_text (codes "field") (comp_text key ++ 44 ∷ (compare_text op ++ 44 ∷ scalar_text x))
layer_text (Condition-F.Pv op n) = asked_text (codes "pv") (number_text op n)
layer_text (Condition-F.Cv op n) = asked_text (codes "cv") (number_text op n)
layer_text (Condition-F.Kids op n) = asked_text (codes "kids") (number_text op n)
layer_text (Condition-F.Not t) = asked_text (codes "not") t
layer_text (Condition-F.All ts) = asked_text (codes "all") (joined ts)
layer_text (Condition-F.Any ts) = asked_text (codes "any") (joined ts)

-- the spelling of a condition
abbrev pub condition_text : Condition → List ℕ
condition_text c = fold-Condition (List ℕ) layer_text c

-- how many conditions there are in one layer, by those of its parts: itself and theirs
unfoldable pub layer_size : Condition-F ℕ → ℕ
layer_size Condition-F.Absent = 1
layer_size Condition-F.Exists = 1
layer_size Condition-F.Payload = 1
layer_size Condition-F.Data = 1
layer_size Condition-F.Sproc = 1
layer_size (Condition-F.Name g) = 1
layer_size (Condition-F.Is r) = 1
layer_size (Condition-F.Field key op x) = 1
layer_size (Condition-F.Pv op n) = 1
layer_size (Condition-F.Cv op n) = 1
layer_size (Condition-F.Kids op n) = 1
layer_size (Condition-F.Not n) = n + 1
layer_size (Condition-F.All ns) = sum ns + 1
layer_size (Condition-F.Any ns) = sum ns + 1

-- how many conditions there are in all, the condition itself counted
abbrev pub size : Condition → ℕ
size c = fold-Condition ℕ layer_size c

-- a key is a Text name
abbrev pub IsKey : NameText → Type 0
IsKey key = (key.kind ≡ kinds.Text) × IsName key

-- what one layer of a condition asks has a spelling: an atom by its words, any other by its parts
abbrev pub IsLayer : (Condition → Type 0) → Condition-F Condition → Type 0
IsLayer Is Condition-F.Absent = Unit {0}
IsLayer Is Condition-F.Exists = Unit {0}
IsLayer Is Condition-F.Payload = Unit {0}
IsLayer Is Condition-F.Data = Unit {0}
IsLayer Is Condition-F.Sproc = Unit {0}
IsLayer Is (Condition-F.Name g) = IsGlob g
IsLayer Is (Condition-F.Is r) = IsRec r
IsLayer Is (Condition-F.Field key op x) = IsKey key × IsScalar x
IsLayer Is (Condition-F.Pv op n) = IsNumber n
IsLayer Is (Condition-F.Cv op n) = IsNumber n
IsLayer Is (Condition-F.Kids op n) = IsNumber n
IsLayer Is (Condition-F.Not c) = Is c
IsLayer Is (Condition-F.All cs) = AllByRecursion Is cs
IsLayer Is (Condition-F.Any cs) = AllByRecursion Is cs

-- all that is asked has a spelling, and at most n conditions stand in one another, an atom being one
abbrev pub IsNested : ℕ → Condition → Type 0
IsNested zero c = ⊥
IsNested (suc n) c = IsLayer (IsNested n) (out-Condition c)

-- a condition that has a spelling
pub record IsCondition (c : Condition) : Type 0 where
  pub nested : IsNested MAX_CONDITION_NESTING c
  pub few : size c ≤ MAX_CONDITION_PARTS
