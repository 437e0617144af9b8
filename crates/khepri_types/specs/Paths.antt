-- How paths lie to one another.
use Rattle.std.specs.Prelude.{Bool, true, false, ◌&&◌, List, [], ◌∷◌}
use Rattle.std.specs.List.{list_any}
use Rattle.std.specs.Ordering.{is_eq}
use Rattle.khepri_terms.specs.Terms.{NameText}
use Rattle.khepri_terms.specs.Order.{name_cmp}

-- p is a front of q
unfoldable pub is_front : List NameText → List NameText → Bool
is_front [] q = true
is_front (n ∷ p) [] = false
is_front (n ∷ p) (m ∷ q) = is_eq (name_cmp n m) && is_front p q

-- q is one name longer than p, and begins with it
unfoldable pub is_child : List NameText → List NameText → Bool
is_child [] [] = false
is_child [] (m ∷ []) = true
is_child [] (m ∷ k ∷ q) = false
is_child (n ∷ p) [] = false
is_child (n ∷ p) (m ∷ q) = is_eq (name_cmp n m) && is_child p q

-- some path of the list is a front of q
abbrev pub is_under : List (List NameText) → List NameText → Bool
is_under paths q = list_any (λ p. is_front p q) paths
