-- What is left of a tree after some rounds: some of its nodes, changed in their child-list versions alone.
use Rattle.std.proofs.Common.{◌≡◌, ℕ, suc, ◌≤◌, Bool, true, false, cond, ◌&&◌, List, [], ◌∷◌, length, refl, sym, ap, subst, ◌∙◌, arith, Option, Some, None}
use Rattle.std.specs.Prelude.{IsTrue, is_some}
use Rattle.std.specs.Option.{option_map}
use Rattle.std.specs.FinMap.{get, entries, find, get-entries, entries_sorted, entries-from_sorted}
use Rattle.std.specs.FinMap.Entries.{where_key, is_sorted-where_key, find-where_key}
use Rattle.khepri_terms.specs.Terms.{NameText}
use Rattle.khepri_terms.specs.Order.{path_cmp}
use Rattle.khepri_types.specs.declared.node.Node.{Node}
use Rattle.khepri_types.specs.Paths.{is_child}
use Rattle.khepri_types.specs.Drop.{loses_child, drop}
use Rattle.khepri_types.specs.Sizes.{kids}
use Rattle.khepri_types.specs.Lasting.{cut}
use Rattle.khepri_types.specs.Settling.{failing, settle}
use Rattle.khepri_types.specs.Tree.{Tree, stands, raised_children}
use Rattle.khepri_types.proofs.Order.{path_cmp-same}
use Rattle.khepri_types.proofs.Dropping.{mapped, find-mapped, left_node, stays, entries-drop}
use Rattle.khepri_types.proofs.Failing.{stands-here, stands-later}
use Rattle.khepri_types.proofs.Rounds.{settle-keeps}

abbrev Entry : Type 0
Entry = List NameText × Node

-- ---- lists of entries

where_mapped : (keep : List NameText → Bool) (f : List NameText → Node → Node) (es : List Entry) → where_key path_cmp keep (mapped f es) ≡ mapped f (where_key path_cmp keep es)
where_mapped keep f [] = refl
where_mapped keep f (e ∷ es) = elim (keep e.0) as (λ b. cond b ((e.0, f e.0 e.1) ∷ where_key path_cmp keep (mapped f es)) (where_key path_cmp keep (mapped f es)) ≡ mapped f (cond b (e ∷ where_key path_cmp keep es) (where_key path_cmp keep es))) [
  | true ↦ ap (λ (xs : List Entry). (e.0, f e.0 e.1) ∷ xs) (where_mapped keep f es)
  | false ↦ where_mapped keep f es
]

where_where : (f g : List NameText → Bool) (es : List Entry) → where_key path_cmp g (where_key path_cmp f es) ≡ where_key path_cmp (λ q. f q && g q) es
where_where f g [] = refl
where_where f g (e ∷ es) = elim (f e.0) as (λ b. where_key path_cmp g (cond b (e ∷ where_key path_cmp f es) (where_key path_cmp f es)) ≡ cond (b && g e.0) (e ∷ where_key path_cmp (λ q. f q && g q) es) (where_key path_cmp (λ q. f q && g q) es)) [
  | true ↦ elim (g e.0) as (λ b. cond b (e ∷ where_key path_cmp g (where_key path_cmp f es)) (where_key path_cmp g (where_key path_cmp f es)) ≡ cond b (e ∷ where_key path_cmp (λ q. f q && g q) es) (where_key path_cmp (λ q. f q && g q) es)) [
    | true ↦ ap (λ (xs : List Entry). e ∷ xs) (where_where f g es)
    | false ↦ where_where f g es
  ]
  | false ↦ where_where f g es
]

mapped_mapped : (f g : List NameText → Node → Node) (es : List Entry) → mapped g (mapped f es) ≡ mapped (λ q n. g q (f q n)) es
mapped_mapped f g [] = refl
mapped_mapped f g (e ∷ es) = ap (λ (xs : List Entry). (e.0, g e.0 (f e.0 e.1)) ∷ xs) (mapped_mapped f g es)

where_all : (es : List Entry) → where_key path_cmp (λ q. true) es ≡ es
where_all [] = refl
where_all (e ∷ es) = ap (λ (xs : List Entry). e ∷ xs) (where_all es)

mapped_same : (es : List Entry) → mapped (λ q n. n) es ≡ es
mapped_same [] = refl
mapped_same (e ∷ es) = ap (λ (xs : List Entry). e ∷ xs) (mapped_same es)

length-mapped : (f : List NameText → Node → Node) (es : List Entry) → length (mapped f es) ≡ length es
length-mapped f [] = refl
length-mapped f (e ∷ es) = ap (λ (n : ℕ). suc n) (length-mapped f es)

-- more entries pass a test that is passed more often
more_where : (f g : List NameText → Bool) (es : List Entry) → ((q : List NameText) → IsTrue (is_some (find path_cmp q es)) → f q ≡ true → g q ≡ true)
    → length (where_key path_cmp f es) ≤ length (where_key path_cmp g es)
more_where f g [] more = omega arith
more_where f g (e ∷ es) more =
    let rest = more_where f g es (λ q h. more q (stands-later e es q h)) in
    elim (f e.0) as (λ b. f e.0 ≡ b → length (cond b (e ∷ where_key path_cmp f es) (where_key path_cmp f es)) ≤ length (where_key path_cmp g (e ∷ es))) [
      | true ↦ λ t. subst (λ (b : Bool). suc (length (where_key path_cmp f es)) ≤ length (cond b (e ∷ where_key path_cmp g es) (where_key path_cmp g es))) (sym (more e.0 (stands-here e es) t)) (omega arith)
      | false ↦ λ t. elim (g e.0) as (λ b. length (where_key path_cmp f es) ≤ length (cond b (e ∷ where_key path_cmp g es) (where_key path_cmp g es))) [ true ↦ omega arith | false ↦ omega arith ]
    ] refl

-- ---- what is left

-- U has those of T's nodes that are kept, with other child-list versions
pub record Remains (T U : Tree) : Type 0 where
  pub keep : List NameText → Bool
  pub change : List NameText → Node → Node
  pub is : entries U ≡ mapped change (where_key path_cmp keep (entries T))
  pub payload : (q : List NameText) (n : Node) → (change q n).payload ≡ n.payload
  pub pv : (q : List NameText) (n : Node) → (change q n).pv ≡ n.pv
  pub watches : (q : List NameText) (n : Node) → (change q n).watches ≡ n.watches

pub remains-all : (T : Tree) → Remains T T
remains-all T = record {
  keep = λ q. true;
  change = λ q n. n;
  is = sym (mapped_same (where_key path_cmp (λ q. true) (entries T)) ∙ where_all (entries T));
  payload = λ q n. refl;
  pv = λ q n. refl;
  watches = λ q n. refl;
}

entries-cut : (T : Tree) (keep : List NameText → Bool) → entries (cut T keep) ≡ where_key path_cmp keep (entries T)
entries-cut T keep = entries-from_sorted path_cmp (where_key path_cmp keep (entries T)) (is_sorted-where_key path_cmp keep (entries T) (entries_sorted T))

pub remains-cut : (T : Tree) (keep : List NameText → Bool) → Remains T (cut T keep)
remains-cut T keep = record {
  keep = keep;
  change = λ q n. n;
  is = entries-cut T keep ∙ sym (mapped_same (where_key path_cmp keep (entries T)));
  payload = λ q n. refl;
  pv = λ q n. refl;
  watches = λ q n. refl;
}

left-payload : (es : List Entry) (paths : List (List NameText)) (q : List NameText) (n : Node) → (left_node es paths q n).payload ≡ n.payload
left-payload es paths q n = elim (loses_child es paths q) as (λ b. (cond b (raised_children n) n).payload ≡ n.payload) [ true ↦ refl | false ↦ refl ]

left-pv : (es : List Entry) (paths : List (List NameText)) (q : List NameText) (n : Node) → (left_node es paths q n).pv ≡ n.pv
left-pv es paths q n = elim (loses_child es paths q) as (λ b. (cond b (raised_children n) n).pv ≡ n.pv) [ true ↦ refl | false ↦ refl ]

left-watches : (es : List Entry) (paths : List (List NameText)) (q : List NameText) (n : Node) → (left_node es paths q n).watches ≡ n.watches
left-watches es paths q n = elim (loses_child es paths q) as (λ b. (cond b (raised_children n) n).watches ≡ n.watches) [ true ↦ refl | false ↦ refl ]

pub remains-drop : (T U : Tree) (paths : List (List NameText)) → Remains T U → Remains T (drop U paths)
remains-drop T U paths r =
    let f = left_node (entries U) paths in
    let kept = where_key path_cmp r.keep (entries T) in
    record {
      keep = λ q. r.keep q && stays paths q;
      change = λ q n. f q (r.change q n);
      is = entries-drop U paths
          ∙ (ap (λ (es : List Entry). mapped f (where_key path_cmp (stays paths) es)) r.is
          ∙ (ap (mapped f) (where_mapped (stays paths) r.change kept)
          ∙ (mapped_mapped r.change f (where_key path_cmp (stays paths) kept)
          ∙ ap (mapped (λ q n. f q (r.change q n))) (where_where r.keep (stays paths) (entries T)))));
      payload = λ q n. left-payload (entries U) paths q (r.change q n) ∙ r.payload q n;
      pv = λ q n. left-pv (entries U) paths q (r.change q n) ∙ r.pv q n;
      watches = λ q n. left-watches (entries U) paths q (r.change q n) ∙ r.watches q n;
    }

-- what settling leaves
pub remains-settle : (T : Tree) → Remains T (settle T)
remains-settle T = settle-keeps (λ U. Remains T U) (record { stays = λ U e r. remains-drop T U (failing U) r }) T (remains-all T)

-- ---- its nodes

pub get-remains : (T U : Tree) (r : Remains T U) (q : List NameText) → get U q ≡ option_map (r.change q) (cond (r.keep q) (get T q) None)
get-remains T U r q =
    get-entries U q
    ∙ (ap (find path_cmp q) r.is
    ∙ (find-mapped r.change q (where_key path_cmp r.keep (entries T))
    ∙ (ap (option_map (r.change q)) (find-where_key path_cmp r.keep q (λ x tie. ap r.keep (sym (path_cmp-same q x tie))) (entries T))
    ∙ ap (λ (o : Option Node). option_map (r.change q) (cond (r.keep q) o None)) (sym (get-entries T q)))))

-- a node that is left, and what it was
pub record Rest (T U : Tree) (q : List NameText) (n : Node) : Type 0 where
  pub old : Node
  pub stood : get T q ≡ Some old
  pub payload : n.payload ≡ old.payload
  pub pv : n.pv ≡ old.pv
  pub watches : n.watches ≡ old.watches

rest-of : (T U : Tree) (r : Remains T U) (q : List NameText) (n : Node) (b : Bool) (o : Option Node) → get T q ≡ o → option_map (r.change q) (cond b o None) ≡ Some n → Rest T U q n
rest-of T U r q n true None g e = absurd cc
rest-of T U r q n true (Some m) g e =
    let is : n ≡ r.change q m = cc in
    record {
      old = m;
      stood = g;
      payload = ap (λ (k : Node). k.payload) is ∙ r.payload q m;
      pv = ap (λ (k : Node). k.pv) is ∙ r.pv q m;
      watches = ap (λ (k : Node). k.watches) is ∙ r.watches q m;
    }
rest-of T U r q n false o g e = absurd cc

pub rest : (T U : Tree) → Remains T U → (q : List NameText) (n : Node) → get U q ≡ Some n → Rest T U q n
rest T U r q n e = rest-of T U r q n (r.keep q) (get T q) refl (sym (get-remains T U r q) ∙ e)

-- ---- where they stand

stands-of : (c : Node → Node) (b : Bool) (o : Option Node) → is_some (option_map c (cond b o None)) ≡ (b && is_some o)
stands-of c true None = refl
stands-of c true (Some n) = refl
stands-of c false o = refl

pub stands-remains : (T U : Tree) (r : Remains T U) (q : List NameText) → stands U q ≡ (r.keep q && stands T q)
stands-remains T U r q = ap is_some (get-remains T U r q) ∙ stands-of (r.change q) (r.keep q) (get T q)

pub within-remains : (T U : Tree) → Remains T U → (q : List NameText) → IsTrue (stands U q) → IsTrue (stands T q)
within-remains T U r q h = elim (r.keep q) as (λ b. (b && stands T q) ≡ true → IsTrue (stands T q)) [ true ↦ λ t. t | false ↦ λ t. absurd cc ] (sym (stands-remains T U r q) ∙ h)

kept-remains : (T U : Tree) (r : Remains T U) (q : List NameText) → IsTrue (stands U q) → r.keep q ≡ true
kept-remains T U r q h = elim (r.keep q) as (λ b. (b && stands T q) ≡ true → b ≡ true) [ true ↦ λ t. refl | false ↦ λ t. absurd cc ] (sym (stands-remains T U r q) ∙ h)

stands-kept : (T U : Tree) (r : Remains T U) (q : List NameText) → IsTrue (stands T q) → r.keep q ≡ true → IsTrue (stands U q)
stands-kept T U r q h k = stands-remains T U r q ∙ (ap (λ (b : Bool). b && stands T q) k ∙ h)

pub stands-cut : (T : Tree) (keep : List NameText → Bool) (q : List NameText) → stands (cut T keep) q ≡ (keep q && stands T q)
unfolding remains-cut
stands-cut T keep q = stands-remains T (cut T keep) (remains-cut T keep) q

-- ---- how many children they have

kids-remains : (T U : Tree) (r : Remains T U) (p : List NameText) → kids U p ≡ length (where_key path_cmp (λ q. r.keep q && is_child p q) (entries T))
kids-remains T U r p =
    let kept = where_key path_cmp r.keep (entries T) in
    ap (λ (es : List Entry). length (where_key path_cmp (is_child p) es)) r.is
    ∙ (ap length (where_mapped (is_child p) r.change kept)
    ∙ (length-mapped r.change (where_key path_cmp (is_child p) kept)
    ∙ ap length (where_where r.keep (is_child p) (entries T))))

both_more : (a b c : Bool) → (a ≡ true → b ≡ true) → (a && c) ≡ true → (b && c) ≡ true
both_more true b c f h = ap (λ (x : Bool). x && c) (f refl) ∙ h
both_more false b c f h = absurd cc

-- where more paths stand there are no fewer children
pub kids-more : (T A B : Tree) → Remains T A → Remains T B → ((q : List NameText) → IsTrue (stands A q) → IsTrue (stands B q)) → (p : List NameText) → kids A p ≤ kids B p
kids-more T A B r s more p =
    let le = more_where (λ q. r.keep q && is_child p q) (λ q. s.keep q && is_child p q) (entries T) (λ q at.
    let there : IsTrue (stands T q) = ap is_some (get-entries T q) ∙ at in
    both_more (r.keep q) (s.keep q) (is_child p q) (λ k. kept-remains T B s q (more q (stands-kept T A r q there k)))) in
    omega (arith, kids-remains T A r p, kids-remains T B s p, le)
