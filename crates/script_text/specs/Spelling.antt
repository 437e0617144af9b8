-- Which texts begin with a script.
use Rattle.std.specs.Prelude.{◌≡◌, ℕ, List, ◌++◌}
use Rattle.khepri_types.specs.declared.script.Statement.{Statement}
use Rattle.khepri_types.specs.ScriptTexts.{script_text, IsScript}

-- the text is the spelling of this script, and this behind it
abbrev pub SpellsScript : List ℕ → List Statement → List ℕ → Type 0
SpellsScript text s rest = (text ≡ script_text s ++ rest) × IsScript s

-- the text does not begin with the spelling of any script
abbrev pub IsNoScript : List ℕ → Type 0
IsNoScript text = (s : List Statement) (rest : List ℕ) → SpellsScript text s rest → ⊥
