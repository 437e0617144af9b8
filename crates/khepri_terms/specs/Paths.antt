-- How paths are spelled.
use Rattle.std.specs.Prelude.{◌≡◌, ℕ, ◌-◌, ◌≤◌, Bool, false, ◌||◌, ◌==◌, if◌then◌else◌, List, [], ◌∷◌, ◌++◌, length, take, drop, Option, Some, None}
use Rattle.std.specs.List.{flat_map, AllByRecursion}
use Rattle.khepri_terms.specs.declared.limits.TheConstants.{MAX_PATH_TEXT, MAX_SPELLED_NAMES}
use Rattle.khepri_terms.specs.Terms.{NameText}
use Rattle.khepri_terms.specs.Many.{many}
use Rattle.khepri_terms.specs.Bytes.{is_plain}
use Rattle.khepri_terms.specs.Names.{comp_text, comp_at, IsName}

-- a name behind its slash
abbrev pub step_text : NameText → List ℕ
step_text n = 47 ∷ comp_text n

-- `/` for the root, else each name behind a slash
unfoldable pub path_text : List NameText → List ℕ
path_text [] = 47 ∷ []
path_text (n ∷ ns) = flat_map step_text (n ∷ ns)

-- a path that has a spelling
pub record IsPath (path : List NameText) : Type 0 where
  pub names : AllByRecursion IsName path
  pub short : length (path_text path) ≤ MAX_PATH_TEXT

-- a byte that may go on with a path
abbrev pub goes_on : ℕ → Bool
goes_on b = is_plain b || b == 37 || b == 47 || b == 58

-- what follows a path does not go on with it
abbrev pub Ends : List ℕ → Type 0
Ends [] = Unit {0}
Ends (b ∷ rest) = goes_on b ≡ false

-- the slash and the name at the front, and what is after it
unfoldable pub step_at : List ℕ → Option (NameText × List ℕ)
step_at [] = None
step_at (b ∷ text) = if b == 47 then comp_at text else None

-- as many names as stand at the front, each behind a slash, at most n, and what is after them
abbrev pub names_at : ℕ → List ℕ → List NameText × List ℕ
names_at = many step_at

-- the names that were read of the first bytes of a text, and the text behind them
abbrev pub path_of : List ℕ → List NameText × List ℕ → List NameText × List ℕ
path_of text ([], rest) = ([], drop 1 text)
path_of text (n ∷ ns, rest) = (n ∷ ns, drop (length (take MAX_PATH_TEXT text) - length rest) text)

-- the longest path that is spelled at the front, and what is after it
unfoldable pub path_at : List ℕ → Option (List NameText × List ℕ)
path_at [] = None
path_at (b ∷ text) = if b == 47 then Some (path_of (b ∷ text) (names_at MAX_SPELLED_NAMES (take MAX_PATH_TEXT (b ∷ text)))) else None

-- the text begins with the spelling of this path, and no longer front of it spells a path
pub record LongestPath (text : List ℕ) (path : List NameText) (rest : List ℕ) : Type 0 where
  pub parts : text ≡ path_text path ++ rest
  pub is : IsPath path
  pub longest : (other : List NameText) (after : List ℕ) → IsPath other → text ≡ path_text other ++ after → length (path_text other) ≤ length (path_text path)

-- no path is spelled at the front of the text
abbrev pub BeginsNoPath : List ℕ → Type 0
BeginsNoPath text = (path : List NameText) (rest : List ℕ) → IsPath path → text ≡ path_text path ++ rest → ⊥
