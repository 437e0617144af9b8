-- The nodes under a path.
use Rattle.std.specs.Prelude.{List, IsTrue}
use Rattle.khepri_terms.specs.Terms.{NameText}
use Rattle.khepri_types.specs.Paths.{is_front}
use Rattle.khepri_types.specs.Tree.{Tree, stands}

-- q stands, and is p or below it
abbrev pub IsUnder : Tree → List NameText → List NameText → Type 0
IsUnder T p q = IsTrue (stands T q) × IsTrue (is_front p q)
