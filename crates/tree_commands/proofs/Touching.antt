-- Drafts in which nothing is touched.
use Rattle.std.proofs.Common.{◌≡◌, List, refl, None}
use Rattle.std.specs.FinMap.{same_map}
use Rattle.khepri_terms.specs.Terms.{NameText}
use Rattle.khepri_terms.specs.Order.{path_cmp}
use Rattle.khepri_types.specs.Tree.{Tree}
use Rattle.khepri_types.proofs.Order.{path_cmp_total, path_cmp-same}
use Rattle.tree_nodes.specs.Drafts.{is_touched, IsCovered, IsTouched}
use Rattle.tree_nodes.specs.Next.{IsNext}
use Rattle.worklist_laws.proofs.Among.{test_false}

-- are the trees under them
pub untouched : (B T : Tree) (touched : List (List NameText)) → IsCovered B T touched → IsNext path_cmp (IsTouched touched) None None → B ≡ T
untouched B T touched covered none = same_map path_cmp_total path_cmp-same B T (λ q. covered q (test_false (is_touched touched q) (λ on. none q on refl)))
