-- The node that was written.
use Rattle.std.proofs.Common.{◌≡◌, ℕ, List, sym, ap, ◌∙◌}
use Rattle.std.specs.Prelude.{IsTrue, is_some}
use Rattle.std.specs.FinMap.{get}
use Rattle.khepri_terms.specs.Terms.{NameText}
use Rattle.khepri_types.specs.declared.node.Payload.{Payload}
use Rattle.khepri_types.specs.declared.watch.Watching.{Watching}
use Rattle.khepri_types.specs.Exec.{pv_of}
use Rattle.khepri_types.specs.Tree.{Tree, stands, set}
use Rattle.khepri_types.specs.Watching.{watch}
use Rattle.khepri_types.proofs.Trees.{set-at_path}
use Rattle.khepri_types.proofs.Watched.{pv-set_watched}

-- it stands
pub stands_there : (T U : Tree) (p : List NameText) (x : Payload) → U ≡ set T p x → IsTrue (stands U p)
stands_there T U p x e = ap (λ (V : Tree). stands V p) e ∙ ap is_some (set-at_path T p x)

-- its watches don't change its payload version
pub version_stays : (T U V : Tree) (p : List NameText) (x : Payload) (w : Watching) (v : ℕ) → U ≡ set T p x → V ≡ watch U p w → v ≡ pv_of (get U p) → v ≡ pv_of (get V p)
version_stays T U V p x w v set_is watch_is v_is =
    v_is
    ∙ (ap (λ (Y : Tree). pv_of (get Y p)) set_is
    ∙ (ap pv_of (set-at_path T p x)
    ∙ (sym (pv-set_watched T p x w)
    ∙ ap (λ (Y : Tree). pv_of (get Y p)) (sym (watch_is ∙ ap (λ (Y : Tree). watch Y p w) set_is)))))
