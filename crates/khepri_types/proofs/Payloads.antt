-- The payloads and the watches of a tree have spellings, as long as those that commands set have.
use Rattle.std.proofs.Common.{◌≡◌, ◌↔◌, Bool, true, false, cond, List, [], ◌∷◌, refl, ap, subst, Option, Some, None}
use Rattle.std.specs.Prelude.{IsTrue}
use Rattle.std.specs.List.{AllByRecursion}
use Rattle.std.specs.FinMap.{get}
use Rattle.khepri_terms.specs.Terms.{NameText}
use Rattle.khepri_terms.proofs.Cases.{some_is}
use Rattle.khepri_terms.specs.OrderLaws.{rec_decides}
use Rattle.khepri_types.specs.declared.node.Node.{Node}
use Rattle.khepri_types.specs.declared.node.Payload.{Payload}
use Rattle.khepri_types.specs.declared.node.Payload.TheVariants.{Empty, Fields, Proc}
use Rattle.khepri_types.specs.declared.watch.Watch.{Watch}
use Rattle.khepri_types.specs.declared.watch.Watching.{Watching}
use Rattle.khepri_types.specs.declared.watch.Watching.TheVariants.{While}
use Rattle.khepri_types.specs.Tree.{Tree, same_payload, end_node, way_node, set, opening_tree}
use Rattle.khepri_types.specs.Drop.{drop}
use Rattle.khepri_types.specs.Settling.{is_met, failing, settle}
use Rattle.khepri_types.specs.Spelled.{IsPayload, IsWatch, IsWatching}
use Rattle.khepri_types.specs.Watching.{set_watched, first_unmet, unmet_of}
use Rattle.khepri_types.proofs.Each.{Each, OfOld, each-set, each-drop, each-opening}
use Rattle.khepri_types.proofs.Rounds.{settle-keeps}
use Rattle.khepri_types.proofs.Sameness.{script_decides}
use Rattle.khepri_types.proofs.Watched.{each-watch}

-- what a node has can be written
pub record IsWritable (n : Node) : Type 0 where
  pub payload : IsPayload n.payload
  pub watches : AllByRecursion IsWatch n.watches

-- each node of the tree can be written
abbrev pub AllSpelled : Tree → Type 0
AllSpelled T = Each IsWritable T

end-spelled : (x : Payload) → IsPayload x → (o : Option Node) → OfOld IsWritable o → IsWritable (end_node o x)
end-spelled x is None h = record { payload = is; watches = tt }
end-spelled x is (Some n) h = record { payload = is; watches = (h n refl).watches }

way-spelled : (o : Option Node) (below : Bool) → OfOld IsWritable o → IsWritable (way_node o below)
way-spelled None below h = record { payload = tt; watches = tt }
way-spelled (Some n) true h = h n refl
way-spelled (Some n) false h = record { payload = (h n refl).payload; watches = (h n refl).watches }

given-spelled : (w : Watching) (watches : List Watch) → IsWatching w → w ≡ While watches → AllByRecursion IsWatch watches
given-spelled w watches is e = (subst IsWatching e is).each

-- a node that is written with a payload and watches that can be
pub spelled-set_watched : (T : Tree) (p : List NameText) (x : Payload) (w : Watching) → IsPayload x → IsWatching w → AllSpelled T → AllSpelled (set_watched T p x w)
spelled-set_watched T p x w is-x is-w all = each-watch IsWritable IsWritable (set T p x) p w (record {
  kept = λ n h. h;
  free = λ n h. record { payload = h.payload; watches = tt };
  given = λ n watches e h. record { payload = h.payload; watches = given-spelled w watches is-w e };
}) (each-set IsWritable IsWritable T p x (record { elsewhere = λ n h. h; at_path = end-spelled x is-x; on_the_way = way-spelled }) all)

pub spelled-drop : (T : Tree) (paths : List (List NameText)) → AllSpelled T → AllSpelled (drop T paths)
spelled-drop T paths all = each-drop IsWritable IsWritable T paths (λ n h. record { payload = h.payload; watches = h.watches }) (λ n h. h) all

pub spelled-settle : (T : Tree) → AllSpelled T → AllSpelled (settle T)
spelled-settle T all = settle-keeps AllSpelled (record { stays = λ U e h. spelled-drop U (failing U) h }) T all

pub spelled-opening : AllSpelled opening_tree
spelled-opening = each-opening IsWritable (record { payload = tt; watches = tt })

-- ---- a watch that isn't met is a watch of the node

pub first-of : (P : Watch → Type 0) (T : Tree) (watches : List Watch) (u : Watch) → AllByRecursion P watches → first_unmet T watches ≡ Some u → P u
first-of P T [] u all e = absurd cc
first-of P T (w ∷ watches) u all e = elim (is_met T w) as (λ b. cond b (first_unmet T watches) (Some w) ≡ Some u → P u) [
  | true ↦ λ later. first-of P T watches u all.1 later
  | false ↦ λ here. subst P (some_is w u here) all.0
] e

unmet-of : (T : Tree) (p : List NameText) (o : Option Node) (u : Watch) → get T p ≡ o → AllSpelled T → unmet_of T o ≡ Some u → IsWatch u
unmet-of T p None u g all e = absurd cc
unmet-of T p (Some n) u g all e = first-of IsWatch T n.watches u (all p n g).watches e

pub unmet-spelled : (T : Tree) (p : List NameText) (u : Watch) → AllSpelled T → unmet_of T (get T p) ≡ Some u → IsWatch u
unmet-spelled T p u all e = unmet-of T p (get T p) u refl all e

-- ---- equality

-- the test of equality is right
pub payload_decides : (a b : Payload) → IsTrue (same_payload a b) ↔ (a ≡ b)
payload_decides Empty Empty = (λ e. refl, λ e. refl)
payload_decides Empty (Fields b) = (λ e. absurd cc, λ e. absurd cc)
payload_decides Empty (Proc t) = (λ e. absurd cc, λ e. absurd cc)
payload_decides (Fields a) Empty = (λ e. absurd cc, λ e. absurd cc)
payload_decides (Fields a) (Fields b) = (λ e. ap Fields ((rec_decides a b).0 e), λ e. (rec_decides a b).1 cc)
payload_decides (Fields a) (Proc t) = (λ e. absurd cc, λ e. absurd cc)
payload_decides (Proc s) Empty = (λ e. absurd cc, λ e. absurd cc)
payload_decides (Proc s) (Fields b) = (λ e. absurd cc, λ e. absurd cc)
payload_decides (Proc s) (Proc t) = (λ e. ap Proc ((script_decides s t).0 e), λ e. (script_decides s t).1 cc)
