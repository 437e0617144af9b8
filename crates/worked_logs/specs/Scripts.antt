-- Lists of scripts.
use Rattle.std.specs.Prelude.{List, [], ◌∷◌}
use Rattle.worked_logs.specs.declared.script.Few.{Few}
use Rattle.worked_logs.specs.declared.script.Few.TheVariants.{None as FewNone, One, Two, Three}

-- a list of at most three
abbrev pub few : {A : Type 0} → Few A → List A
few FewNone = []
few (One a) = a ∷ []
few (Two a b) = a ∷ b ∷ []
few (Three a b c) = a ∷ b ∷ c ∷ []
