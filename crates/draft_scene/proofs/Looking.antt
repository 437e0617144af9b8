-- Paths at which a node is found.
use Rattle.std.proofs.Common.{◌≡◌, ◌≤◌, List, length, ap, Option, Some, None}
use Rattle.std.specs.Prelude.{is_some, IfSome, OnSome}
use Rattle.std.specs.FinMap.{get}
use Rattle.khepri_terms.specs.Terms.{NameText}
use Rattle.khepri_types.specs.declared.limits.TheConstants.{MAX_PATH_NAMES}
use Rattle.khepri_types.specs.declared.view.NodeView.{NodeView}
use Rattle.khepri_types.specs.Tree.{Tree}
use Rattle.khepri_types.specs.Views.{node_of}
use Rattle.tree_nodes.specs.Drafts.{IsShallow}

-- they have at most 32 names
pub short_where_found : (T : Tree) (p : List NameText) (o : Option NodeView) → IfSome o (λ v. get T p ≡ Some (node_of v)) → IsShallow T → OnSome o (length p ≤ MAX_PATH_NAMES)
short_where_found T p None found shallow = tt
short_where_found T p (Some v) found shallow = shallow p (ap is_some found)
