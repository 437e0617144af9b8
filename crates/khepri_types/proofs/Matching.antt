-- What a pattern matches of a tree.
use Rattle.std.proofs.Common.{◌≡◌, ℕ, zero, suc, ◌≤◌, Bool, true, false, cond, ◌&&◌, List, [], ◌∷◌, length, take, map, refl, ◌∙◌, arith, Some, Option, None, sym, ap}
use Rattle.std.specs.Prelude.{IsTrue, T as Holds}
use Rattle.std.specs.List.{filter, AllByRecursion}
use Rattle.std.specs.FinMap.{get, entries, len, find, is_sorted, get-entries, entries_sorted, len-entries}
use Rattle.std.specs.FinMap.Entries.{below_all, is_sorted-where_key, find-where_key}
use Rattle.std.proofs.lemmas.List.{length-map}
use Rattle.std.proofs.lemmas.List.Sums.{length-filter, count_by-le-length}
use Rattle.khepri_terms.specs.Terms.{NameText}
use Rattle.khepri_terms.specs.Order.{path_cmp}
use Rattle.khepri_types.specs.declared.node.Node.{Node}
use Rattle.khepri_types.specs.declared.pattern.PatternPart.{PatternPart}
use Rattle.khepri_types.specs.Paths.{is_front, is_under}
use Rattle.khepri_types.specs.Patterns.{takes, matches, matching_nodes, matching}
use Rattle.khepri_types.specs.Tree.{Tree, stands}
use Rattle.khepri_terms.proofs.Cases.{and_true}
use Rattle.khepri_types.proofs.Order.{path_cmp-same}
use Rattle.khepri_types.proofs.Failing.{halves, find-here, find-later}
use Rattle.khepri_types.proofs.Outputs.{All-weaker}

abbrev Entry : Type 0
Entry = List NameText × Node

-- ---- the root

none_matched : (P : PatternPart) (parts : List PatternPart) (T : Tree) (es : List Entry) → is_under (map (λ e. e.0) (filter (λ e. matches (P ∷ parts) T e.0) es)) [] ≡ false
unfolding is_front matches takes
none_matched P parts T [] = refl
none_matched P parts T (([], n) ∷ es) =
    let rest = filter (λ (x : Entry). matches (P ∷ parts) T x.0) es in
    elim (stands T []) as (λ b. is_under (map (λ (x : Entry). x.0) (cond (b && false) (([], n) ∷ rest) rest)) [] ≡ false) [ true ↦ none_matched P parts T es | false ↦ none_matched P parts T es ]
none_matched P parts T ((a ∷ p, n) ∷ es) =
    let rest = filter (λ (x : Entry). matches (P ∷ parts) T x.0) es in
    elim (matches (P ∷ parts) T (a ∷ p)) as (λ b. is_under (map (λ (x : Entry). x.0) (cond b ((a ∷ p, n) ∷ rest) rest)) [] ≡ false) [ true ↦ none_matched P parts T es | false ↦ none_matched P parts T es ]

-- only the pattern of the root matches it
pub root_unmatched : (P : PatternPart) (parts : List PatternPart) (T : Tree) → is_under (matching (P ∷ parts) T) [] ≡ false
root_unmatched P parts T = none_matched P parts T (entries T)

pub never_root : (T : Tree) (P : PatternPart) (parts : List PatternPart) → matches (P ∷ parts) T [] ≡ false
unfolding matches takes
never_root T P parts = elim (stands T []) as (λ b. (b && false) ≡ false) [ true ↦ refl | false ↦ refl ]

pub root_alone : (T : Tree) (q : List NameText) → IsTrue (matches [] T q) → q ≡ []
unfolding matches takes
root_alone T [] h = refl
root_alone T (n ∷ q) h = absurd (cc (and_true (stands T (n ∷ q)) false h).1)

-- ---- how many there are

pub few_matched : (parts : List PatternPart) (T : Tree) → length (matching parts T) ≤ len T
few_matched parts T =
    let test : Entry → Bool = λ e. matches parts T e.0 in
    omega (arith, length-map (matching_nodes parts T) (λ (e : Entry). e.0), length-filter test (entries T), count_by-le-length test (entries T), len-entries T)

-- ---- which they are

pub All-filter : {X : Type 0} (P : X → Type 0) (test : X → Bool) (xs : List X) → AllByRecursion P xs → AllByRecursion P (filter test xs)
All-filter P test [] h = tt
All-filter P test (x ∷ xs) h = elim (test x) as (λ b. AllByRecursion P (cond b (x ∷ filter test xs) (filter test xs))) [ true ↦ (h.0, All-filter P test xs h.1) | false ↦ All-filter P test xs h.1 ]

pub All-take : {X : Type 0} (P : X → Type 0) (n : ℕ) (xs : List X) → AllByRecursion P xs → AllByRecursion P (take n xs)
All-take P zero [] h = tt
All-take P zero (x ∷ xs) h = tt
All-take P (suc n) [] h = tt
All-take P (suc n) (x ∷ xs) h = (h.0, All-take P n xs h.1)

pub All-map : {X Y : Type 0} (P : X → Type 0) (Q : Y → Type 0) (f : X → Y) → ((x : X) → P x → Q (f x)) → (xs : List X) → AllByRecursion P xs → AllByRecursion Q (map f xs)
All-map P Q f g [] h = tt
All-map P Q f g (x ∷ xs) h = (g x h.0, All-map P Q f g xs h.1)

each_found : (es : List Entry) → Holds (is_sorted path_cmp es) → AllByRecursion (λ x. find path_cmp x.0 es ≡ Some x.1) es
each_found [] sorted = tt
each_found (e ∷ es) sorted = (
  find-here e es,
  All-weaker (λ (x : Entry). find path_cmp x.0 es ≡ Some x.1) (λ (x : Entry). find path_cmp x.0 (e ∷ es) ≡ Some x.1) (λ x h. find-later e es sorted x.0 x.1 h) es (each_found es (halves (below_all path_cmp e.0 es) (is_sorted path_cmp es) sorted).1),
)

-- a node stands at each of the paths
pub each_stands : (T : Tree) → AllByRecursion (λ e. get T e.0 ≡ Some e.1) (entries T)
each_stands T = All-weaker (λ (e : Entry). find path_cmp e.0 (entries T) ≡ Some e.1) (λ (e : Entry). get T e.0 ≡ Some e.1) (λ e h. get-entries T e.0 ∙ h) (entries T) (each_found (entries T) (entries_sorted T))

-- what holds of each standing node holds of the first nodes that a pattern matches
pub each_matched : (P : Entry → Type 0) (T : Tree) (parts : List PatternPart) (limit : ℕ) → ((e : Entry) → get T e.0 ≡ Some e.1 → P e) → AllByRecursion P (take limit (matching_nodes parts T))
each_matched P T parts limit holds =
    All-take P limit (matching_nodes parts T) (All-filter P (λ (e : Entry). matches parts T e.0) (entries T) (All-weaker (λ (e : Entry). get T e.0 ≡ Some e.1) P holds (entries T) (each_stands T)))

-- ---- whole and in order

pub matched_stands : (T : Tree) (parts : List PatternPart) (q : List NameText) → IsTrue (matches parts T q) → IsTrue (stands T q)
unfolding matches
matched_stands T parts q h = (and_true (stands T q) (takes T [] parts q) h).0

pub matched_find : (T : Tree) (parts : List PatternPart) (q : List NameText) → find path_cmp q (matching_nodes parts T) ≡ cond (matches parts T q) (get T q) None
matched_find T parts q =
    find-where_key path_cmp (matches parts T) q (λ x tie. ap (matches parts T) (sym (path_cmp-same q x tie))) (entries T) ∙ ap (λ (o : Option Node). cond (matches parts T q) o None) (sym (get-entries T q))

held : (b : Bool) → Holds b → IsTrue b
held true h = refl
held false h = absurd h

pub matched_sorted : (T : Tree) (parts : List PatternPart) → IsTrue (is_sorted path_cmp (matching_nodes parts T))
matched_sorted T parts = held (is_sorted path_cmp (matching_nodes parts T)) (is_sorted-where_key path_cmp (matches parts T) (entries T) (entries_sorted T))
