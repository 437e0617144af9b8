-- What is seen at a path, and the node there.
use Rattle.std.proofs.Common.{◌≡◌, List, refl, sym, ap, ◌∙◌, Option, Some, None}
use Rattle.std.specs.Prelude.{is_some}
use Rattle.std.specs.FinMap.{get}
use Rattle.khepri_terms.specs.Terms.{NameText}
use Rattle.khepri_types.specs.declared.node.Node.{Node}
use Rattle.khepri_types.specs.declared.reply.Reply.TheVariants as reply
use Rattle.khepri_types.specs.declared.view.NodeView.{NodeView}
use Rattle.khepri_types.specs.Conditions.{Seen, seen_node, seen_at}
use Rattle.khepri_types.specs.Exec.{shown, shown_node}
use Rattle.khepri_types.specs.Tree.{Tree, stands}
use Rattle.khepri_types.specs.Views.{seen_of}

seen-stands : (T : Tree) (p : List NameText) (o : Option Node) → is_some (seen_node T p o) ≡ is_some o
seen-stands T p None = refl
seen-stands T p (Some n) = refl

view-seen : (v : Option NodeView) → is_some (seen_of v) ≡ is_some v
view-seen None = refl
view-seen (Some v) = refl

-- there is a view exactly where a node stands
pub view_stands : (T : Tree) (p : List NameText) (v : Option NodeView) → seen_of v ≡ seen_at T p → is_some v ≡ stands T p
unfolding seen_at
view_stands T p v e = sym (view-seen v) ∙ (ap is_some e ∙ seen-stands T p (get T p))

none-shown : (T : Tree) (p : List NameText) (o : Option Node) → None ≡ seen_node T p o → reply.NoAbsent ≡ shown T p o
none-shown T p None e = refl
none-shown T p (Some n) e = absurd cc

some-shown : (T : Tree) (p : List NameText) (o : Option Node) (s : Seen) → Some s ≡ seen_node T p o → reply.Node s.pv s.cv s.kids s.payload ≡ shown T p o
some-shown T p None s e = absurd cc
some-shown T p (Some n) s e = cc

pub unseen_shown : (T : Tree) (p : List NameText) → None ≡ seen_at T p → reply.NoAbsent ≡ shown T p (get T p)
unfolding seen_at
unseen_shown T p e = none-shown T p (get T p) e

pub seen_shown : (T : Tree) (p : List NameText) (s : Seen) → Some s ≡ seen_at T p → reply.Node s.pv s.cv s.kids s.payload ≡ shown T p (get T p)
unfolding seen_at
seen_shown T p s e = some-shown T p (get T p) s e

some-listed : (T : Tree) (p : List NameText) (n : Node) (s : Seen) → Some s ≡ seen_node T p (Some n) → record { path = p; pv = s.pv; cv = s.cv; kids = s.kids; payload = s.payload } ≡ shown_node T (p, n)
some-listed T p n s e = cc

pub seen_listed : (T : Tree) (p : List NameText) (n : Node) (s : Seen) → get T p ≡ Some n → Some s ≡ seen_at T p → record { path = p; pv = s.pv; cv = s.cv; kids = s.kids; payload = s.payload } ≡ shown_node T (p, n)
unfolding seen_at
seen_listed T p n s is e = some-listed T p n s (e ∙ ap (seen_node T p) is)
