-- What is below a nested node of a tree.
use Rattle.std.proofs.Common.{◌≡◌, ℕ, Bool, false, List, [], ◌∷◌, ◌++◌, length, length-append, refl, sym, ap, subst, ◌∙◌, arith, not, ◌&&◌, Bor, Option, Some, None}
use Rattle.std.specs.Prelude.{IsTrue, is_some}
use Rattle.std.specs.Option.{option_copied}
use Rattle.std.specs.FinMap.{get, find, from_sorted}
use Rattle.khepri_terms.specs.Terms.{NameText}
use Rattle.khepri_terms.specs.Order.{name_cmp, path_cmp}
use Rattle.khepri_types.specs.declared.node.Node.{Node}
use Rattle.khepri_types.specs.Sizes.{kids}
use Rattle.khepri_types.specs.Tree.{Tree, IsTree, stands}
use Rattle.nested_nodes.specs.Marks.{is_gone}
use Rattle.nested_nodes.specs.Nests.{IsNest, IsSub, children}
use Rattle.nested_nodes.specs.Next.{IsNext}
use Rattle.nested_nodes.proofs.Named.{Rows}
use Rattle.nested_nodes.proofs.Rows.{and_first}
use Rattle.tree_overlay.specs.Kept.{IsKept}
use Rattle.tree_overlay.specs.Over.{Drafted, HasChild}
use Rattle.tree_overlay.proofs.Applying.{get-rows, take_front, with_nil}
use Rattle.tree_overlay.proofs.Counting.{kids-rows}

not_some : {X : Type 0} (o : Option X) → (IsTrue (is_some o) → ⊥) → o ≡ None
not_some None h = refl
not_some (Some x) h = absurd (h refl)

pub not_there : {X : Type 0} (o : Option X) → false ≡ is_some o → o ≡ None
not_there None h = refl
not_there (Some x) h = absurd cc

pub kept-found : (ps rs : Rows Node) (names p : List NameText) → IsNest name_cmp ps → names ≡ p → IsSub names ps rs → IsKept (from_sorted {R = path_cmp} ps) p (Some rs)
kept-found ps rs names p nest same sub = (
  λ q. sub.finds q ∙ (ap (λ (r : List NameText). find path_cmp (r ++ q) ps) same ∙ sym (get-rows ps (p ++ q) nest)),
  λ q. sub.kids q ∙ (ap (λ (r : List NameText). children ps (r ++ q)) same ∙ sym (kids-rows ps (p ++ q) nest)),
)

pub kept-not : (ps : Rows Node) (names p : List NameText) → IsNest name_cmp ps → names ≡ p → false ≡ is_some (find path_cmp names ps) → IsKept (from_sorted {R = path_cmp} ps) p None
kept-not ps names p nest same none = get-rows ps p nest ∙ (ap (λ (r : List NameText). find path_cmp r ps) (sym same) ∙ not_there (find path_cmp names ps) none)

-- below a path that does not stand nothing does
above : (T : Tree) (p : List NameText) (n : NameText) → IsTree T → IsTrue (stands T (p ++ n ∷ [])) → IsTrue (stands T p)
above T p n tree there = sym (ap (stands T) (take_front p (n ∷ []))) ∙ tree.fronts (p ++ n ∷ []) (length p) (omega (arith, length-append p (n ∷ []))) there

pub none-next : (T : Tree) (p : List NameText) (after : Option NameText) → IsTree T → get T p ≡ None → IsNext name_cmp (HasChild T p) after None
none-next T p after tree none = λ n there later. absurd (cc (above T p n tree there, ap is_some none))

pub none-left : (T : Tree) (p : List NameText) (after : Option NameText) (marks : List (NameText × Bool)) → IsTree T → get T p ≡ None → IsNext name_cmp (λ n. IsTrue (stands T (p ++ n ∷ []) && not (is_gone marks n))) after None
none-left T p after marks tree none = λ n both later. absurd (cc (above T p n tree (and_first (stands T (p ++ n ∷ [])) (not (is_gone marks n)) both), ap is_some none))

pub none-below : (T : Tree) (p : List NameText) (n : NameText) → IsTree T → get T p ≡ None → get T (p ++ n ∷ []) ≡ None
none-below T p n tree none = not_some (get T (p ++ n ∷ [])) (λ there. absurd (cc (above T p n tree there, ap is_some none)))

pub some-next : (T : Tree) (p : List NameText) (rs : Rows Node) (after o : Option NameText) → IsKept T p (Some rs) → IsNext name_cmp (λ n. IsTrue (is_some (find path_cmp (n ∷ []) rs))) after o → IsNext name_cmp (HasChild T p) after o
some-next T p rs after o kept next = subst (λ (f : NameText → Bool). IsNext name_cmp (λ n. IsTrue (f n)) after o) (λ i n. is_some (kept.0 (n ∷ []) i)) next

pub some-left : (T : Tree) (p : List NameText) (rs : Rows Node) (after o : Option NameText) (marks : List (NameText × Bool)) → IsKept T p (Some rs)
    → IsNext name_cmp (λ n. IsTrue (is_some (find path_cmp (n ∷ []) rs) && not (is_gone marks n))) after o → IsNext name_cmp (λ n. IsTrue (stands T (p ++ n ∷ []) && not (is_gone marks n))) after o
some-left T p rs after o marks kept next = subst (λ (f : NameText → Bool). IsNext name_cmp (λ n. IsTrue (f n)) after o) (λ i n. is_some (kept.0 (n ∷ []) i) && not (is_gone marks n)) next

longer : (p q : List NameText) (n : NameText) → p ++ n ∷ q ≡ (p ++ n ∷ []) ++ q
longer [] q n = refl
longer (x ∷ p) q n = ap (λ (r : List NameText). x ∷ r) (longer p q n)

pub some-below : (T : Tree) (p : List NameText) (n : NameText) (rs ks : Rows Node) → IsKept T p (Some rs) → IsSub (n ∷ []) rs ks → IsKept T (p ++ n ∷ []) (Some ks)
some-below T p n rs ks kept sub = (λ q. sub.finds q ∙ (kept.0 (n ∷ q) ∙ ap (get T) (longer p q n)), λ q. sub.kids q ∙ (kept.1 (n ∷ q) ∙ ap (kids T) (longer p q n)))

pub some-kids : (T : Tree) (p : List NameText) (rs : Rows Node) (k : ℕ) → IsKept T p (Some rs) → k ≡ children rs [] → k ≡ kids T p
some-kids T p rs k kept is = is ∙ (kept.1 [] ∙ ap (kids T) (with_nil p))

-- the node itself
pub some-node : (T : Tree) (p : List NameText) (rs : Rows Node) (n : Node) → IsKept T p (Some rs) → find path_cmp [] rs ≡ Some n → get T p ≡ Some n
some-node T p rs n kept here = ap (get T) (sym (with_nil p)) ∙ (sym (kept.0 []) ∙ here)

-- what is told of a draft's tree, of the one that it borrows
pub kept-base : (d e : Drafted) (p : List NameText) (o : Option (Rows Node)) → d ≡ e → IsKept e.base p o → IsKept d.base p o
kept-base d e p o same kept = subst (λ (f : Drafted). IsKept f.base p o) (sym same) kept

-- the nested node, as a case of the code names it
pub kept-as : (T : Tree) (p : List NameText) (o r : Option (Bor (Rows Node))) → o ≡ r → IsKept T p (option_copied o) → IsKept T p (option_copied r)
kept-as T p o r is kept = subst (λ (x : Option (Bor (Rows Node))). IsKept T p (option_copied x)) is kept
