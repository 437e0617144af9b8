-- Where a path is missing.
use Rattle.std.specs.Prelude.{◌≡◌, ℕ, ◌<◌, ◌≤◌, false, IsTrue, List, length, take}
use Rattle.khepri_terms.specs.Terms.{NameText}
use Rattle.khepri_types.specs.Tree.{Tree, stands}

-- p is missing, and its longest front that stands has i names
pub record IsLongestFront (T : Tree) (p : List NameText) (i : ℕ) : Type 0 where
  pub shorter : i < length p
  pub standing : (j : ℕ) → j ≤ i → IsTrue (stands T (take j p))
  pub missing : (j : ℕ) → i < j → j ≤ length p → stands T (take j p) ≡ false
