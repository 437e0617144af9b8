-- What a drop spares.
use Rattle.std.proofs.Common.{◌≡◌, ◌<◌, false, List, [], ◌∷◌, length, refl, ap, ◌∙◌, arith}
use Rattle.khepri_terms.specs.Terms.{NameText}
use Rattle.khepri_types.specs.declared.pattern.PatternPart.{PatternPart}
use Rattle.khepri_types.specs.Exec.{State, dropped, delete_all}
use Rattle.khepri_types.specs.Paths.{is_under}
use Rattle.khepri_types.specs.Patterns.{matching}
use Rattle.khepri_types.specs.Tree.{Tree}
use Rattle.khepri_types.proofs.Matching.{root_unmatched}
use Rattle.khepri_types.proofs.Standing.{not_root}

-- to drop one path other than the root spares the root
pub other_than_root : (p : List NameText) (paths : List (List NameText)) → paths ≡ p ∷ [] → 0 < length p → is_under paths [] ≡ false
other_than_root [] paths e l = absurd (omega arith)
other_than_root (n ∷ p) paths e l = ap (λ (ps : List (List NameText)). is_under ps []) e ∙ not_root n p

-- a pattern of parts doesn't match the root
pub some_unmatched : (parts : List PatternPart) (T : Tree) → 0 < length parts → is_under (matching parts T) [] ≡ false
some_unmatched [] T l = absurd (omega arith)
some_unmatched (P ∷ parts) T l = root_unmatched P parts T

pub delete_all_some : (S : State) (parts : List PatternPart) → 0 < length parts → delete_all S parts ≡ dropped S (matching parts S.tree)
delete_all_some S [] l = absurd (omega arith)
delete_all_some S (P ∷ parts) l = refl
