-- Conditions that don't break when nodes come, and what settling leaves where all watches have such conditions.
use Rattle.std.specs.Prelude.{ℕ, ◌≤◌, Bool, true, false, IsTrue, List, [], length, take}
use Rattle.std.specs.List.{list_all, filter}
use Rattle.std.specs.FinMap.{entries, from_sorted}
use Rattle.khepri_terms.specs.Terms.{NameText}
use Rattle.khepri_types.specs.declared.compare.Compare.{Compare}
use Rattle.khepri_types.specs.declared.compare.Compare.TheVariants.{Eq, Ne, Lt, Le, Gt, Ge}
use Rattle.khepri_types.specs.declared.condition.Condition.{Condition}
use Rattle.khepri_types.specs.declared.condition.Condition.TheFolds.{fold-Condition}
use Rattle.khepri_types.specs.declared.condition.Condition.TheOpen.{Condition-F}
use Rattle.khepri_types.specs.Conditions.{all_true}
use Rattle.khepri_types.specs.Settling.{stable}
use Rattle.khepri_types.specs.Tree.{Tree, stands}

-- a number that compares so compares so when it is greater
abbrev pub is_upward : Compare → Bool
is_upward Eq = false
is_upward Ne = false
is_upward Lt = false
is_upward Le = false
is_upward Gt = true
is_upward Ge = true

-- one layer of a condition, by what its parts are
abbrev pub layer_lasts : Condition-F Bool → Bool
layer_lasts Condition-F.Absent = false
layer_lasts Condition-F.Exists = true
layer_lasts Condition-F.Payload = true
layer_lasts Condition-F.Data = true
layer_lasts Condition-F.Sproc = true
layer_lasts (Condition-F.Name g) = true
layer_lasts (Condition-F.Is r) = true
layer_lasts (Condition-F.Field key op x) = true
layer_lasts (Condition-F.Pv op n) = true
layer_lasts (Condition-F.Cv op n) = false
layer_lasts (Condition-F.Kids op n) = is_upward op
layer_lasts (Condition-F.Not b) = false
layer_lasts (Condition-F.All bs) = all_true bs
layer_lasts (Condition-F.Any bs) = all_true bs

-- made by all and any of exists, payload, data, sproc, name, is, field, pv, kids(ge,n) and kids(gt,n)
abbrev pub is_lasting : Condition → Bool
is_lasting c = fold-Condition Bool layer_lasts c

-- all watches of the tree have lasting conditions
abbrev pub all_lasting : Tree → Bool
all_lasting T = list_all (λ e. list_all (λ w. is_lasting w.cond) e.1.watches) (entries T)

-- the tree cut to some paths: the nodes there as they are, and no other
abbrev pub cut : Tree → (List NameText → Bool) → Tree
cut T keep = from_sorted (filter (λ e. keep e.0) (entries T))

-- a set of paths of the tree that holds the root, holds with each path its fronts, and leaves no failing node when the tree is cut to it
pub record IsSupported (T : Tree) (keep : List NameText → Bool) : Type 0 where
  pub paths : (q : List NameText) → IsTrue (keep q) → IsTrue (stands T q)
  pub root : IsTrue (keep [])
  pub fronts : (q : List NameText) (i : ℕ) → i ≤ length q → IsTrue (keep q) → IsTrue (keep (take i q))
  pub steady : IsTrue (stable (cut T keep))
