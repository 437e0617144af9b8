-- Ways down nested nodes, and the node that comes next after the end of one.
use Rattle.std.proofs.Common.{◌≡◌, ℕ, suc, ◌≤◌, ◌+◌, Bool, true, false, List, [], ◌∷◌, ◌++◌, length, take, map, refl, sym, ap, subst, ◌∙◌, arith, append_assoc, length-append, Option, Some, None}
use Rattle.std.specs.Prelude.{IsTrue, is_some, slice_get}
use Rattle.std.specs.FinMap.{get, find, from_sorted}
use Rattle.std.proofs.lemmas.List.{take_all, length-map, length-take}
use Rattle.khepri_terms.specs.Terms.{NameText}
use Rattle.khepri_terms.specs.Order.{name_cmp, path_cmp}
use Rattle.khepri_types.specs.declared.node.Node.{Node}
use Rattle.khepri_types.specs.declared.view.NodeView.{NodeView}
use Rattle.khepri_types.specs.declared.limits.TheConstants.{MAX_PATH_NAMES}
use Rattle.khepri_types.specs.Conditions.{Seen, seen_at}
use Rattle.khepri_types.specs.Tree.{Tree, IsTree, stands}
use Rattle.nested_nodes.specs.Nests.{IsNest, IsSub, children}
use Rattle.nested_nodes.specs.Next.{IsNext}
use Rattle.nested_nodes.proofs.Named.{Rows, sub-on}
use Rattle.tree_overlay.specs.Over.{HasChild, IsShallow}
use Rattle.tree_overlay.proofs.Applying.{take_front, tree-rows, with_nil}
use Rattle.tree_overlay.proofs.Seeing.{below-get, below-seen, child-next, root-get, root-seen}
use Rattle.tree_walks.specs.declared.descent.Turn.{Turn}
use Rattle.tree_walks.specs.Turns.{IsLeaf, Leads, TurnsNext, turned, way_end, way_path}
use Rattle.tree_walks.specs.Walks.{Walked, come_to, path_or_root}
use Rattle.tree_walks.proofs.Betweens.{NoneAfter, front_joined, next_all, next_first_child, next_sibling, none_end, none_init, none_step, root_next}

abbrev Path : Type 0
Path = List NameText

abbrev pub Stands : Tree → Path → Type 0
Stands T q = IsTrue (stands T q)

-- ---- in paths

got_at : (a d : Path) (x : NameText) → slice_get (a ++ x ∷ d) (length a) ≡ Some x
got_at [] d x = refl
got_at (y ∷ a) d x = got_at a d x

one_more : (a d : Path) (x : NameText) → take (suc (length a)) (a ++ x ∷ d) ≡ a ++ x ∷ []
one_more [] d x = ap (λ (q : Path). x ∷ q) (take_front [] d)
one_more (y ∷ a) d x = ap (λ (q : Path). y ∷ q) (one_more a d x)

front_is : (at above d : Path) (x : NameText) → at ≡ above ++ x ∷ d → above ≡ take (length above) at
front_is at above d x is = sym (take_front above (x ∷ d)) ∙ ap (take (length above)) (sym is)

none_on : (T : Tree) (at above d : Path) (x : NameText) → at ≡ above ++ x ∷ d → NoneAfter T (above ++ x ∷ []) at → NoneAfter T (take (suc (length above)) at) at
none_on T at above d x is none = subst (λ (p : Path). NoneAfter T p at) (sym (one_more above d x) ∙ ap (take (suc (length above))) (sym is)) none

first : (T : Tree) (at : Path) (n : NameText) → IsTree T → IsNext name_cmp (HasChild T at) None (Some n) → IsNext path_cmp (Stands T) (Some at) (Some (at ++ n ∷ []))
first T at n tree next = next_all T (Some at) (Some (at ++ n ∷ [])) (next_first_child T [] at n tree (front_joined [] at) next)

sibling : (T : Tree) (at above d : Path) (x n : NameText) → IsTree T → at ≡ above ++ x ∷ d → NoneAfter T (above ++ x ∷ []) at → IsNext name_cmp (HasChild T above) (Some x) (Some n) → IsNext path_cmp (Stands T) (Some at) (Some (above ++ n ∷ []))
sibling T at above d x n tree is none next =
    next_all T (Some at) (Some (above ++ n ∷ []))
    (next_sibling T [] at above x n (length above) tree (front_joined [] at) (omega arith) (front_is at above d x is)
    (ap (λ (q : Path). slice_get q (length above)) is ∙ got_at above d x) (none_on T at above d x is none) next)

no_sibling : (T : Tree) (at above d : Path) (x : NameText) → IsTree T → at ≡ above ++ x ∷ d → NoneAfter T (above ++ x ∷ []) at → IsNext name_cmp (HasChild T above) (Some x) None → NoneAfter T above at
no_sibling T at above d x tree is none next =
    subst (λ (p : Path). NoneAfter T p at) (sym (front_is at above d x is))
    (none_step T at above x (length above) tree (front_is at above d x is) (ap (λ (q : Path). slice_get q (length above)) is ∙ got_at above d x) (none_on T at above d x is none) next)

no_child_after : (T : Tree) (at : Path) → IsTree T → IsNext name_cmp (HasChild T at) None None → NoneAfter T at at
no_child_after T at tree none = subst (λ (p : Path). NoneAfter T p at) (take_all (length at) at (omega arith)) (none_init T at tree none)

no_more : (T : Tree) (at : Path) → NoneAfter T [] at → IsNext path_cmp (Stands T) (Some at) None
no_more T at none = next_all T (Some at) None (none_end T [] at 0 (front_joined [] at) refl none)

-- ---- in turns

pub path-on : (a b : List Turn) → way_path (a ++ b) ≡ way_path a ++ way_path b
path-on [] b = refl
path-on (t ∷ a) b = ap (λ (q : Path). t.name.now ∷ q) (path-on a b)

leads-sub : (ps : Rows Node) (way : List Turn) → Leads ps way → IsSub (way_path way) ps (way_end ps way)
leads-sub ps [] l = record { finds = λ q. refl; kids = λ q. refl }
leads-sub ps (t ∷ way) l = sub-on (t.name.now ∷ []) (way_path way) ps t.nest.now (way_end t.nest.now way) l.0 (leads-sub t.nest.now way l.1)

leads-front : (ps : Rows Node) (a b : List Turn) → Leads ps (a ++ b) → Leads ps a
leads-front ps [] b l = tt
leads-front ps (t ∷ a) b l = (l.0, leads-front t.nest.now a b l.1)

leads-on : (ps : Rows Node) (a : List Turn) (t : Turn) → Leads ps a → IsSub (t.name.now ∷ []) (way_end ps a) t.nest.now → Leads ps (a ++ t ∷ [])
leads-on ps [] t l sub = (sub, tt)
leads-on ps (u ∷ a) t l sub = (l.0, leads-on u.nest.now a t l.1 sub)

leads-last : (ps : Rows Node) (a : List Turn) (t : Turn) → Leads ps (a ++ t ∷ []) → IsSub (t.name.now ∷ []) (way_end ps a) t.nest.now
leads-last ps [] t l = l.0
leads-last ps (u ∷ a) t l = leads-last u.nest.now a t l.1

pub end-on : (ps : Rows Node) (a : List Turn) (t : Turn) → way_end ps (a ++ t ∷ []) ≡ t.nest.now
end-on ps [] t = refl
end-on ps (u ∷ a) t = end-on u.nest.now a t

-- the children at the end of a way, as the tree has them
kids : (ps : Rows Node) (way : List Turn) (after o : Option NameText) → IsNest name_cmp ps → Leads ps way → IsNext name_cmp (λ n. IsTrue (is_some (find path_cmp (n ∷ []) (way_end ps way)))) after o
    → IsNext name_cmp (HasChild (from_sorted {R = path_cmp} ps) (way_path way)) after o
kids ps way after o nest leads next = child-next ps (way_end ps way) (way_path way) after o nest (leads-sub ps way leads) next

-- ---- the first child

pub first-leads : (ps : Rows Node) (way : List Turn) (t : Turn) → Leads ps way → IsSub (t.name.now ∷ []) (way_end ps way) t.nest.now → Leads ps (turned way (length way, t))
first-leads ps way t leads sub = subst (λ (a : List Turn). Leads ps (a ++ t ∷ [])) (sym (take_all (length way) way (omega arith))) (leads-on ps way t leads sub)

pub first-next : (ps : Rows Node) (way : List Turn) (t : Turn) → IsNest name_cmp ps → Leads ps way → IsNext name_cmp (λ n. IsTrue (is_some (find path_cmp (n ∷ []) (way_end ps way)))) None (Some t.name.now) → TurnsNext ps way (Some (length way, t))
first-next ps way t nest leads next =
    subst (λ (p : Path). IsNext path_cmp (Stands (from_sorted {R = path_cmp} ps)) (Some (way_path way)) (Some p))
    (sym (ap (λ (a : List Turn). way_path (a ++ t ∷ [])) (take_all (length way) way (omega arith)) ∙ path-on way (t ∷ [])))
    (first (from_sorted ps) (way_path way) t.name.now (tree-rows ps nest) (kids ps way None (Some t.name.now) nest leads next))

-- ---- on the way up

-- rest is the beginning of the way, and no node under its path comes after the way's
pub record Beside (ps : Rows Node) (way rest : List Turn) : Type 0 where
  pub back : (d : List Turn) × (way ≡ rest ++ d)
  pub leads : Leads ps rest
  pub none : NoneAfter (from_sorted {R = path_cmp} ps) (way_path rest) (way_path way)

pub beside-init : (ps : Rows Node) (way : List Turn) → IsNest name_cmp ps → Leads ps way → IsLeaf (way_end ps way) → Beside ps way way
beside-init ps way nest leads leaf = record {
  back = ([], sym (with_nil way));
  leads = leads;
  none = no_child_after (from_sorted ps) (way_path way) (tree-rows ps nest) (kids ps way None None nest leads (λ y h later. leaf y h));
}

-- the last turn of the rest, in the way
split : (ps : Rows Node) (way rest above : List Turn) (t : Turn) (b : Beside ps way rest) → rest ≡ above ++ t ∷ [] → way ≡ above ++ t ∷ b.back.0
split ps way rest above t b is = b.back.1 ∙ (ap (λ (a : List Turn). a ++ b.back.0) is ∙ append_assoc above (t ∷ []) b.back.0)

path_split : (ps : Rows Node) (way rest above : List Turn) (t : Turn) (b : Beside ps way rest) → rest ≡ above ++ t ∷ [] → way_path way ≡ way_path above ++ t.name.now ∷ way_path b.back.0
path_split ps way rest above t b is = ap way_path (split ps way rest above t b is) ∙ path-on above (t ∷ b.back.0)

none_rest : (ps : Rows Node) (way rest above : List Turn) (t : Turn) → Beside ps way rest → rest ≡ above ++ t ∷ [] → NoneAfter (from_sorted {R = path_cmp} ps) (way_path above ++ t.name.now ∷ []) (way_path way)
none_rest ps way rest above t b is = subst (λ (p : Path). NoneAfter (from_sorted {R = path_cmp} ps) p (way_path way)) (ap way_path is ∙ path-on above (t ∷ [])) b.none

above_leads : (ps : Rows Node) (way rest above : List Turn) (t : Turn) → Beside ps way rest → rest ≡ above ++ t ∷ [] → Leads ps above
above_leads ps way rest above t b is = leads-front ps above (t ∷ []) (subst (Leads ps) is b.leads)

pub beside-up : (ps : Rows Node) (way rest above : List Turn) (t : Turn) → IsNest name_cmp ps → Beside ps way rest → rest ≡ above ++ t ∷ []
    → IsNext name_cmp (λ n. IsTrue (is_some (find path_cmp (n ∷ []) (way_end ps above)))) (Some t.name.now) None → Beside ps way above
beside-up ps way rest above t nest b is next =
    let leads = above_leads ps way rest above t b is in
    record {
      back = (t ∷ b.back.0, split ps way rest above t b is);
      leads = leads;
      none = no_sibling (from_sorted ps) (way_path way) (way_path above) (way_path b.back.0) t.name.now (tree-rows ps nest) (path_split ps way rest above t b is) (none_rest ps way rest above t b is)
          (kids ps above (Some t.name.now) None nest leads next);
    }

pub front_of : (way above d : List Turn) → way ≡ above ++ d → take (length above) way ≡ above
front_of way above d is = ap (take (length above)) is ∙ take_front above d

pub beside-within : (ps : Rows Node) (way rest above : List Turn) (t : Turn) → Beside ps way rest → rest ≡ above ++ t ∷ [] → length above ≤ length way
beside-within ps way rest above t b is = omega (arith, ap length (split ps way rest above t b is), length-append above (t ∷ b.back.0))

pub beside-leads : (ps : Rows Node) (way rest above : List Turn) (t u : Turn) → Beside ps way rest → rest ≡ above ++ t ∷ [] → IsSub (u.name.now ∷ []) (way_end ps above) u.nest.now → Leads ps (turned way (length above, u))
beside-leads ps way rest above t u b is sub =
    subst (λ (a : List Turn). Leads ps (a ++ u ∷ [])) (sym (front_of way above (t ∷ b.back.0) (split ps way rest above t b is)))
    (leads-on ps above u (above_leads ps way rest above t b is) sub)

pub beside-next : (ps : Rows Node) (way rest above : List Turn) (t u : Turn) → IsNest name_cmp ps → Beside ps way rest → rest ≡ above ++ t ∷ []
    → IsNext name_cmp (λ n. IsTrue (is_some (find path_cmp (n ∷ []) (way_end ps above)))) (Some t.name.now) (Some u.name.now) → TurnsNext ps way (Some (length above, u))
beside-next ps way rest above t u nest b is next =
    subst (λ (p : Path). IsNext path_cmp (Stands (from_sorted {R = path_cmp} ps)) (Some (way_path way)) (Some p))
    (sym (ap (λ (a : List Turn). way_path (a ++ u ∷ [])) (front_of way above (t ∷ b.back.0) (split ps way rest above t b is)) ∙ path-on above (u ∷ [])))
    (sibling (from_sorted ps) (way_path way) (way_path above) (way_path b.back.0) t.name.now u.name.now (tree-rows ps nest) (path_split ps way rest above t b is) (none_rest ps way rest above t b is)
    (kids ps above (Some t.name.now) (Some u.name.now) nest (above_leads ps way rest above t b is) next))

nothing_left : (ps : Rows Node) (way rest : List Turn) → length rest ≡ 0 → Beside ps way rest → NoneAfter (from_sorted {R = path_cmp} ps) [] (way_path way)
nothing_left ps way [] e b = b.none
nothing_left ps way (t ∷ rest) e b = absurd (omega arith)

pub beside-end : (ps : Rows Node) (way rest : List Turn) → length rest ≡ 0 → Beside ps way rest → TurnsNext ps way None
beside-end ps way rest e b = no_more (from_sorted ps) (way_path way) (nothing_left ps way rest e b)

-- ---- the node after a turn

pub turn-got : (ps : Rows Node) (a : List Turn) (t : Turn) (n : Node) → IsNest name_cmp ps → Leads ps (a ++ t ∷ []) → find path_cmp [] t.nest.now ≡ Some n → get (from_sorted {R = path_cmp} ps) (way_path (a ++ t ∷ [])) ≡ Some n
turn-got ps a t n nest leads here =
    below-get ps (way_end ps a) t.nest.now (way_path (a ++ t ∷ [])) (way_path (a ++ t ∷ [])) (way_path a) t.name.now n nest refl (path-on a (t ∷ []))
    (leads-sub ps a (leads-front ps a (t ∷ []) leads)) (leads-last ps a t leads) here

pub turn-seen : (ps : Rows Node) (a : List Turn) (t : Turn) (n : Node) (k : ℕ) (s : Seen) → IsNest name_cmp ps → Leads ps (a ++ t ∷ []) → find path_cmp [] t.nest.now ≡ Some n → k ≡ children t.nest.now []
    → s ≡ record { name = Some t.name.now; payload = n.payload; pv = n.pv; cv = n.cv; kids = k } → Some s ≡ seen_at (from_sorted {R = path_cmp} ps) (way_path (a ++ t ∷ []))
turn-seen ps a t n k s nest leads here count seen =
    below-seen ps (way_end ps a) t.nest.now (from_sorted ps) (way_path (a ++ t ∷ [])) (way_path (a ++ t ∷ [])) (way_path a) t.name.now t.name.now n k s refl nest refl (path-on a (t ∷ [])) refl
    (leads-sub ps a (leads-front ps a (t ∷ []) leads)) (leads-last ps a t leads) here count seen

-- there is room for a turn to a node that stands
pub turn-room : (ps : Rows Node) (way : List Turn) (len : ℕ) (t : Turn) → IsShallow (from_sorted {R = path_cmp} ps) → len ≤ length way → TurnsNext ps way (Some (len, t)) → len + 1 ≤ MAX_PATH_NAMES
turn-room ps way len t shallow within next =
    let there = shallow (way_path (turned way (len, t))) next.0 in
    omega (arith, there, within, length-take len way, length-map (turned way (len, t)) (λ (u : Turn). u.name.now), length-append (take len way) (t ∷ []))

-- ---- a walk

-- what a walk over these rows shows
abbrev pub shows : Rows Node → Bool → List Turn → Walked
shows ps begun way = record { tree = from_sorted {R = path_cmp} ps; last = come_to begun (way_path way) }

no_names : (way : List Turn) → way ≡ [] → length (way_path way) ≡ 0
no_names way e = ap (λ (a : List Turn). length (way_path a)) e

pub begin-next : (ps : Rows Node) (w : Walked) (begun : Bool) (way : List Turn) → IsNest name_cmp ps → shows ps begun way ≡ w → begun ≡ false → way ≡ [] → IsNext path_cmp (Stands w.tree) w.last (Some (way_path way))
begin-next ps w begun way nest view f e =
    subst (λ (v : Walked). IsNext path_cmp (Stands v.tree) v.last (Some (way_path way))) view
    (subst (λ (b : Bool). IsNext path_cmp (Stands (from_sorted {R = path_cmp} ps)) (come_to b (way_path way)) (Some (way_path way))) (sym f)
    (subst (λ (a : List Turn). IsNext path_cmp (Stands (from_sorted {R = path_cmp} ps)) None (Some (way_path a))) (sym e) (root_next (from_sorted ps) (tree-rows ps nest))))

pub begin-seen : (ps : Rows Node) (w : Walked) (begun : Bool) (way : List Turn) (n : Node) (k : ℕ) (s : Seen) → IsNest name_cmp ps → shows ps begun way ≡ w → way ≡ [] → find path_cmp [] ps ≡ Some n → k ≡ children ps []
    → s ≡ record { name = None; payload = n.payload; pv = n.pv; cv = n.cv; kids = k } → Some s ≡ seen_at w.tree (way_path way)
begin-seen ps w begun way n k s nest view e here count seen = root-seen ps w.tree (way_path way) n k s (ap (λ (v : Walked). v.tree) view) nest (no_names way e) here count seen

pub begin-got : (ps : Rows Node) (w : Walked) (begun : Bool) (way : List Turn) (n : Node) → IsNest name_cmp ps → shows ps begun way ≡ w → way ≡ [] → find path_cmp [] ps ≡ Some n → get w.tree (way_path way) ≡ Some n
begin-got ps w begun way n nest view e here = ap (λ (v : Walked). get v.tree (way_path way)) (sym view) ∙ root-get ps (way_path way) n nest (no_names way e) here

pub go-seen : (ps : Rows Node) (w : Walked) (begun : Bool) (way old new : List Turn) (r : ℕ × Turn) (n : Node) (k : ℕ) (s : Seen) → IsNest name_cmp ps → shows ps begun old ≡ w → begun ≡ true → new ≡ turned way r → Leads ps (turned way r) → find path_cmp [] r.1.nest.now ≡ Some n
    → k ≡ children r.1.nest.now [] → s ≡ record { name = Some r.1.name.now; payload = n.payload; pv = n.pv; cv = n.cv; kids = k } → Some s ≡ seen_at w.tree (path_or_root (come_to begun (way_path new)))
go-seen ps w begun way old new r n k s nest view b e leads here count seen =
    subst (λ (c : Bool). Some s ≡ seen_at w.tree (path_or_root (come_to c (way_path new)))) (sym b)
    (subst (λ (a : List Turn). Some s ≡ seen_at w.tree (way_path a)) (sym e)
    (subst (λ (v : Walked). Some s ≡ seen_at v.tree (way_path (turned way r))) view (turn-seen ps (take r.0 way) r.1 n k s nest leads here count seen)))

pub go-got : (ps : Rows Node) (w : Walked) (begun : Bool) (way old new : List Turn) (r : ℕ × Turn) (n : Node) → IsNest name_cmp ps → shows ps begun old ≡ w → begun ≡ true → new ≡ turned way r → Leads ps (turned way r) → find path_cmp [] r.1.nest.now ≡ Some n
    → get w.tree (path_or_root (come_to begun (way_path new))) ≡ Some n
go-got ps w begun way old new r n nest view b e leads here =
    ap (λ (c : Bool). get w.tree (path_or_root (come_to c (way_path new)))) b
    ∙ (ap (λ (a : List Turn). get w.tree (way_path a)) e
    ∙ (ap (λ (v : Walked). get v.tree (way_path (turned way r))) (sym view) ∙ turn-got ps (take r.0 way) r.1 n nest leads here))
