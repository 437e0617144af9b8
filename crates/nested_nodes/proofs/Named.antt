-- The rows of a node, by the names of its children.
use Rattle.std.proofs.Common.{◌≡◌, ℕ, ◌+◌, Bool, true, false, cond, List, [], ◌∷◌, ◌++◌, length, map, refl, sym, ap, subst, ◌∙◌, arith, Option, Some, None, Less, Equal, Greater, ◌&&◌}
use Rattle.std.specs.Prelude.{IsTrue, is_some}
use Rattle.std.specs.List.{AllByRecursion, count_by}
use Rattle.std.specs.List.Sorted.{IsStrictlySortedBy}
use Rattle.std.specs.Map.{lookup, keys_of, remove_entry}
use Rattle.std.specs.BTreeMap.{BTreeMap, is_at, insert_entry, UpdatesBy, WritesThrough}
use Rattle.std.specs.Option.{option_and_then, option_map_or}
use Rattle.std.specs.Ordering.{is_eq}
use Rattle.std.specs.FinMap.{find, is_sorted}
use Rattle.std.specs.FinMap.Entries.{below_all}
use Rattle.std.proofs.lemmas.List.Sums.{sum_by-cons, sum_by-append}
use Rattle.khepri_terms.specs.Terms.{NameText}
use Rattle.khepri_terms.specs.Order.{name_cmp, path_cmp}
use Rattle.khepri_types.specs.Paths.{is_child, is_front}
use Rattle.khepri_types.proofs.Order.{name_cmp_total, name_cmp-same}
use Rattle.nested_nodes.specs.Nests.{onto, spread, whole, is_root, IsNest, AreNests, IsSub, Puts, Cuts, children}
use Rattle.nested_nodes.proofs.Rows.{find_lookup, find-tied_below, sorted_strict, and_first, and_second}
use Rattle.nested_nodes.proofs.Spreads.{find-whole, whole_nest, nest_found}
use Rattle.nested_nodes.proofs.Writes.{each-set, each-insert, each-remove, puts-whole}

same_root : (y : NameText) (q : List NameText) → is_child [] (y ∷ q) ≡ is_root q
unfolding is_child
same_root y [] = refl
same_root y (k ∷ q) = refl

abbrev pub Rows : Type 0 → Type 0
Rows X = List (List NameText × X)

abbrev pub Kids : Type 0 → Type 0
Kids X = List (NameText × Rows X)

joined : (a b c : List NameText) → a ++ (b ++ c) ≡ (a ++ b) ++ c
joined [] b c = refl
joined (x ∷ a) b c = ap (λ (d : List NameText). x ∷ d) (joined a b c)

module _ {X : Type 0} where
  pub nest_is : (v : X) (es : Kids X) (ps : Rows X) → whole v es ≡ ps → AreNests name_cmp es → IsNest name_cmp ps
  nest_is v es ps is all = subst (IsNest name_cmp) is (whole_nest name_cmp name_cmp_total v es all)

  -- what stands below a name
  pub got : (path : List NameText) (x : NameText) (rest : List NameText) (v : X) (es : Kids X) (ps : Rows X) → path ≡ x ∷ rest → whole v es ≡ ps → AreNests name_cmp es → find path_cmp path ps ≡ option_and_then (find path_cmp rest) (lookup (is_at (name_cmp x)) es)
  got path x rest v es ps named is all =
      (λ i. find path_cmp (named i) (sym is i))
      ∙ (find-whole name_cmp name_cmp_total v x rest es all.sorted ∙ ap (option_and_then (find path_cmp rest)) (find_lookup name_cmp x es))

  -- where the child stands
  pub got_there : (path : List NameText) (x : NameText) (rest : List NameText) (v : X) (es : Kids X) (ps g : Rows X) → path ≡ x ∷ rest → whole v es ≡ ps → AreNests name_cmp es → Some g ≡ lookup (is_at (name_cmp x)) es → find path_cmp path ps ≡ find path_cmp rest g
  got_there path x rest v es ps g named is all there = got path x rest v es ps named is all ∙ ap (option_and_then (find path_cmp rest)) (sym there)

  -- where no child of the name stands
  pub got_not : (path : List NameText) (x : NameText) (rest : List NameText) (v : X) (es : Kids X) (ps : Rows X) → path ≡ x ∷ rest → whole v es ≡ ps → AreNests name_cmp es → None ≡ lookup (is_at (name_cmp x)) es → find path_cmp path ps ≡ None
  got_not path x rest v es ps named is all none = got path x rest v es ps named is all ∙ ap (option_and_then (find path_cmp rest)) (sym none)

  -- ---- the number of children

  children-onto : (x : NameText) (p : List NameText) (y : NameText) (ps : Rows X) → children (map (onto y) ps) (x ∷ p) ≡ cond (is_eq (name_cmp x y)) (children ps p) 0
  unfolding is_child
  children-onto x p y [] = elim (is_eq (name_cmp x y)) as (λ b. ◌≡◌ {A = ℕ} 0 (cond b 0 0)) [ true ↦ refl | false ↦ refl ]
  children-onto x p y (e ∷ ps) =
      let rest = children-onto x p y ps in
      let more = sum_by-cons (λ (e : List NameText × X). cond (is_child p e.0) 1 0) e ps in
      sum_by-cons (λ (e : List NameText × X). cond (is_child (x ∷ p) e.0) 1 0) (onto y e) (map (onto y) ps)
      ∙ (ap (λ (n : ℕ). cond (is_eq (name_cmp x y) && is_child p e.0) 1 0 + n) rest
      ∙ elim (is_eq (name_cmp x y)) as (λ b. cond (b && is_child p e.0) 1 0 + cond b (children ps p) 0 ≡ cond b (children (e ∷ ps) p) 0) [ true ↦ sym more | false ↦ refl ])

  roots-onto : (y : NameText) (ps : Rows X) → children (map (onto y) ps) [] ≡ count_by (λ (e : List NameText × X). is_root e.0) ps
  unfolding is_child
  roots-onto y [] = refl
  roots-onto y (e ∷ ps) =
      sum_by-cons (λ (e : List NameText × X). cond (is_child [] e.0) 1 0) (onto y e) (map (onto y) ps)
      ∙ (ap (λ (n : ℕ). cond (is_child [] (y ∷ e.0)) 1 0 + n) (roots-onto y ps)
      ∙ (ap (λ (b : Bool). cond b 1 0 + count_by (λ (e : List NameText × X). is_root e.0) ps) (same_root y e.0)
      ∙ sym (sum_by-cons (λ (e : List NameText × X). cond (is_root e.0) 1 0) e ps)))

  roots-spread : (es : Kids X) → AllByRecursion (λ (e : NameText × Rows X). IsNest name_cmp e.1) es → children (spread es) [] ≡ length es
  roots-spread [] all = refl
  roots-spread (e ∷ es) all = omega (arith, sum_by-append (λ (e : List NameText × X). cond (is_child [] e.0) 1 0) (map (onto e.0) e.1) (spread es), roots-onto e.0 e.1, all.0.once, roots-spread es all.1)

  -- a node has as many children as its map has entries
  pub kids_are : (v : X) (es : Kids X) (ps : Rows X) → whole v es ≡ ps → AreNests name_cmp es → children ps [] ≡ length es
  unfolding is_child
  kids_are v es ps is all =
      ap (λ (qs : Rows X). children qs []) (sym is)
      ∙ omega (arith, sum_by-cons (λ (e : List NameText × X). cond (is_child [] e.0) 1 0) ([], v) (spread es), roots-spread es all.each)

  children-spread : (x : NameText) (p : List NameText) (es : Kids X) → IsTrue (is_sorted name_cmp es) → children (spread es) (x ∷ p) ≡ option_map_or (λ (g : Rows X). children g p) (find name_cmp x es) 0
  children-spread x p [] h = refl
  children-spread x p (e ∷ es) h =
      let rest = children-spread x p es (and_second (below_all name_cmp e.0 es) (is_sorted name_cmp es) h) in
      let parts = sum_by-append (λ (e : List NameText × X). cond (is_child (x ∷ p) e.0) 1 0) (map (onto e.0) e.1) (spread es) in
      let here = children-onto x p e.0 e.1 in
      parts
      ∙ (ap (λ (n : ℕ). n + children (spread es) (x ∷ p)) here
      ∙ elim (name_cmp x e.0) as (λ r. name_cmp x e.0 ≡ r → cond (is_eq r) (children e.1 p) 0 + children (spread es) (x ∷ p) ≡ option_map_or (λ (g : Rows X). children g p) (cond (is_eq r) (Some e.1) (find name_cmp x es)) 0) [
        | Less ↦ λ t. omega arith ∙ rest
        | Equal ↦ λ t.
            let none : children (spread es) (x ∷ p) ≡ 0 = rest ∙ ap (λ (o : Option (Rows X)). option_map_or (λ (g : Rows X). children g p) o 0) (find-tied_below name_cmp name_cmp_total x e.0 es t (and_first (below_all name_cmp e.0 es) (is_sorted name_cmp es) h)) in
            omega (arith, none)
        | Greater ↦ λ t. omega arith ∙ rest
      ] refl)

  -- ---- going down

  pub sub-whole : (v : X) (es : Kids X) (ps : Rows X) → IsSub [] ps ps
  sub-whole v es ps = record { finds = λ q. refl; kids = λ q. refl }

  pub sub-down : (path : List NameText) (x : NameText) (rest : List NameText) (v : X) (es : Kids X) (ps g r : Rows X) → path ≡ x ∷ rest → whole v es ≡ ps → AreNests name_cmp es → Some g ≡ lookup (is_at (name_cmp x)) es → IsSub rest g r → IsSub path ps r
  unfolding is_child
  sub-down path x rest v es ps g r named is all there sub = record {
    finds = λ q. sub.finds q ∙ sym (got_there (path ++ q) x (rest ++ q) v es ps g (ap (λ (p : List NameText). p ++ q) named) is all there);
    kids = λ q.
        sub.kids q
        ∙ sym ((λ i. children (sym is i) (named i ++ q))
        ∙ (omega (arith, sum_by-cons (λ (e : List NameText × X). cond (is_child (x ∷ (rest ++ q)) e.0) 1 0) ([], v) (spread es)) ∙ (children-spread x (rest ++ q) es all.sorted
        ∙ ap (λ (o : Option (Rows X)). option_map_or (λ (k : Rows X). children k (rest ++ q)) o 0) (find_lookup name_cmp x es ∙ sym there))));
  }

  -- what is below what is below
  pub sub-on : (p q : List NameText) (ps rs ts : Rows X) → IsSub p ps rs → IsSub q rs ts → IsSub (p ++ q) ps ts
  sub-on p q ps rs ts above below = record {
    finds = λ r. below.finds r ∙ (above.finds (q ++ r) ∙ ap (λ (k : List NameText). find path_cmp k ps) (joined p q r));
    kids = λ r. below.kids r ∙ (above.kids (q ++ r) ∙ ap (children ps) (joined p q r));
  }

  -- a child
  pub sub-kid : (x : NameText) (v : X) (es : Kids X) (ps g : Rows X) → whole v es ≡ ps → AreNests name_cmp es → Some g ≡ lookup (is_at (name_cmp x)) es → IsSub (x ∷ []) ps g
  sub-kid x v es ps g is all there = sub-down (x ∷ []) x [] v es ps g g refl is all there (sub-whole v es g)

  -- ---- writes

  sorted_now : (m : BTreeMap NameText (Rows X)) → IsStrictlySortedBy name_cmp (keys_of m.entries) → IsTrue (is_sorted name_cmp m.entries)
  sorted_now m h = sorted_strict name_cmp m.entries h

  pub written-nests : (x : NameText) (m n : BTreeMap NameText (Rows X)) (w : Rows X) → AreNests name_cmp m.entries → IsNest name_cmp w → WritesThrough name_cmp (name_cmp x) m w n → AreNests name_cmp n.entries
  written-nests x m n w all nest wrote = record {
    sorted = sorted_now n wrote.4;
    each = subst (λ (es : Kids X). AllByRecursion (λ (e : NameText × Rows X). IsNest name_cmp e.1) es) (sym wrote.0) (each-set (IsNest name_cmp) (is_at (name_cmp x)) m.entries w all.each nest);
  }

  pub kid_nest : (x : NameText) (g : Rows X) (es : Kids X) → AreNests name_cmp es → Some g ≡ lookup (is_at (name_cmp x)) es → IsNest name_cmp g
  kid_nest x g es all there = nest_found name_cmp x g es all.each (find_lookup name_cmp x es ∙ sym there)

  -- what a map finds after a write
  now_finds : (x : NameText) (m n : BTreeMap NameText (Rows X)) (w : Option (Rows X)) → UpdatesBy name_cmp (name_cmp x) m n w → (y : NameText) → find name_cmp y n.entries ≡ cond (is_eq (name_cmp x y)) w (find name_cmp y m.entries)
  now_finds x m n w updates y = find_lookup name_cmp y n.entries ∙ (updates.0 y ∙ ap (cond (is_eq (name_cmp x y)) w) (sym (find_lookup name_cmp y m.entries)))

  -- another node below the name
  pub gave : (path : List NameText) (x : NameText) (rest : List NameText) (v : X) (u : X) (m n : BTreeMap NameText (Rows X)) (ps g w : Rows X) → path ≡ x ∷ rest → whole v m.entries ≡ ps → AreNests name_cmp m.entries → Some g ≡ lookup (is_at (name_cmp x)) m.entries
      → IsNest name_cmp w → WritesThrough name_cmp (name_cmp x) m w n → Puts name_cmp rest u g w → Puts name_cmp path u ps (whole v n.entries)
  gave path x rest v u m n ps g w named is all there nest wrote inner =
      let there' : find name_cmp x m.entries ≡ Some g = find_lookup name_cmp x m.entries ∙ sym there in
      subst (λ (p : List NameText). Puts name_cmp p u ps (whole v n.entries)) (sym named)
      (subst (λ (qs : Rows X). Puts name_cmp (x ∷ rest) u qs (whole v n.entries)) is
      (puts-whole name_cmp name_cmp_total v x rest u m.entries n.entries w all.sorted (written-nests x m n w all nest wrote).sorted
      (now_finds x m n (Some w) (wrote.3 (ap is_some (sym there))))
      (λ r. inner r ∙ ap (λ (o : Option (Rows X)). cond (is_eq (path_cmp rest r)) (Some u) (option_and_then (find path_cmp r) o)) (sym there'))))

  -- a new child
  pub came-nests : (x : NameText) (m n : BTreeMap NameText (Rows X)) (w : Rows X) → AreNests name_cmp m.entries → IsNest name_cmp w → n.entries ≡ insert_entry name_cmp m.entries x w → IsStrictlySortedBy name_cmp (keys_of n.entries) → AreNests name_cmp n.entries
  came-nests x m n w all nest now sorted = record {
    sorted = sorted_now n sorted;
    each = subst (λ (es : Kids X). AllByRecursion (λ (e : NameText × Rows X). IsNest name_cmp e.1) es) (sym now) (each-insert (IsNest name_cmp) name_cmp m.entries x w all.each nest);
  }

  leaf_nest : (u : X) → IsNest name_cmp (([], u) ∷ [])
  leaf_nest u = whole_nest name_cmp name_cmp_total u [] (record { sorted = refl; each = tt })

  pub leaf_is_nest : (w : Rows X) → (u : X) × (w ≡ ([], u) ∷ []) → IsNest name_cmp w
  leaf_is_nest w l = subst (IsNest name_cmp) (sym l.1) (leaf_nest l.0)

  pub came : (path : List NameText) (x : NameText) (v : X) (u : X) (m n : BTreeMap NameText (Rows X)) (ps w : Rows X) → path ≡ x ∷ [] → whole v m.entries ≡ ps → AreNests name_cmp m.entries → AreNests name_cmp n.entries → find path_cmp path ps ≡ None
      → w ≡ ([], u) ∷ [] → UpdatesBy name_cmp (name_cmp x) m n (Some w) → Puts name_cmp path u ps (whole v n.entries)
  came path x v u m n ps w named is all now absent leaf updates =
      subst (λ (p : List NameText). Puts name_cmp p u ps (whole v n.entries)) (sym named)
      (subst (λ (qs : Rows X). Puts name_cmp (x ∷ []) u qs (whole v n.entries)) is
      (puts-whole name_cmp name_cmp_total v x [] u m.entries n.entries w all.sorted now.sorted (now_finds x m n (Some w) updates) inner))
    where
      missing : find name_cmp x m.entries ≡ None
      missing = elim (find name_cmp x m.entries) as (λ o. find name_cmp x m.entries ≡ o → o ≡ None) [
        | None ↦ λ h. refl
        | Some g ↦ λ h. absurd (cc ((kid_nest x g m.entries all (sym h ∙ find_lookup name_cmp x m.entries)).root, ap is_some (sym (got_there path x [] v m.entries ps g named is all (sym h ∙ find_lookup name_cmp x m.entries)) ∙ absent)))
      ] refl

      inner : (r : List NameText) → find path_cmp r w ≡ cond (is_eq (path_cmp [] r)) (Some u) (option_and_then (find path_cmp r) (find name_cmp x m.entries))
      inner [] = ap (find path_cmp []) leaf
      inner (k ∷ r) = ap (find path_cmp (k ∷ r)) leaf ∙ ap (option_and_then (find path_cmp (k ∷ r))) (sym missing)

  -- a child of the name stands
  pub has_kid : (v : X) (es : Kids X) (ps : Rows X) → whole v es ≡ ps → AreNests name_cmp es → (n : NameText) → is_some (find name_cmp n es) ≡ is_some (find path_cmp (n ∷ []) ps)
  has_kid v es ps is all n = elim (find name_cmp n es) as (λ o. find name_cmp n es ≡ o → is_some o ≡ is_some (find path_cmp (n ∷ []) ps)) [
    | None ↦ λ h. sym (ap is_some (got_not (n ∷ []) n [] v es ps refl is all (sym h ∙ find_lookup name_cmp n es)))
    | Some g ↦ λ h. sym (ap is_some (got_there (n ∷ []) n [] v es ps g refl is all (sym h ∙ find_lookup name_cmp n es)) ∙ (kid_nest n g es all (sym h ∙ find_lookup name_cmp n es)).root)
  ] refl

  -- ---- what goes

  -- a child went, or what is below it
  pub cuts-whole : (v : X) (x : NameText) (p : List NameText) (es fs : Kids X) (w : Option (Rows X)) → IsTrue (is_sorted name_cmp es) → IsTrue (is_sorted name_cmp fs)
      → ((y : NameText) → find name_cmp y fs ≡ cond (is_eq (name_cmp x y)) w (find name_cmp y es))
      → ((r : List NameText) → option_and_then (find path_cmp r) w ≡ cond (is_front p r) None (option_and_then (find path_cmp r) (find name_cmp x es)))
      → Cuts (x ∷ p) (whole v es) (whole v fs)
  unfolding is_front
  cuts-whole v x p es fs w g h now inner [] = refl
  cuts-whole v x p es fs w g h now inner (y ∷ q) =
      let before = find-whole name_cmp name_cmp_total v y q es g in
      let after = find-whole name_cmp name_cmp_total v y q fs h ∙ ap (option_and_then (find path_cmp q)) (now y) in
      after
      ∙ (elim (name_cmp x y) as (λ r. name_cmp x y ≡ r → option_and_then (find path_cmp q) (cond (is_eq r) w (find name_cmp y es)) ≡ cond (is_eq r && is_front p q) None (option_and_then (find path_cmp q) (find name_cmp y es))) [
        | Less ↦ λ t. refl
        | Equal ↦ λ t. inner q ∙ ap (λ (k : NameText). cond (is_front p q) None (option_and_then (find path_cmp q) (find name_cmp k es))) (name_cmp-same x y t)
        | Greater ↦ λ t. refl
      ] refl
      ∙ ap (cond (is_eq (name_cmp x y) && is_front p q) None) (sym before))

  pub cut_below : (path : List NameText) (k : NameText) (x : NameText) (rest : List NameText) (v : X) (m n : BTreeMap NameText (Rows X)) (ps g w : Rows X) → path ≡ x ∷ rest → whole v m.entries ≡ ps → AreNests name_cmp m.entries → Some g ≡ lookup (is_at (name_cmp x)) m.entries
      → IsNest name_cmp w → WritesThrough name_cmp (name_cmp x) m w n → Cuts (rest ++ k ∷ []) g w → Cuts (path ++ k ∷ []) ps (whole v n.entries)
  cut_below path k x rest v m n ps g w named is all there nest wrote inner =
      let there' : find name_cmp x m.entries ≡ Some g = find_lookup name_cmp x m.entries ∙ sym there in
      subst (λ (p : List NameText). Cuts (p ++ k ∷ []) ps (whole v n.entries)) (sym named)
      (subst (λ (qs : Rows X). Cuts (x ∷ (rest ++ k ∷ [])) qs (whole v n.entries)) is
      (cuts-whole v x (rest ++ k ∷ []) m.entries n.entries (Some w) all.sorted (written-nests x m n w all nest wrote).sorted
      (now_finds x m n (Some w) (wrote.3 (ap is_some (sym there))))
      (λ r. inner r ∙ ap (λ (o : Option (Rows X)). cond (is_front (rest ++ k ∷ []) r) None (option_and_then (find path_cmp r) o)) (sym there'))))

  pub cut_nests : (k : NameText) (m n : BTreeMap NameText (Rows X)) → AreNests name_cmp m.entries → n.entries ≡ remove_entry (is_at (name_cmp k)) m.entries → IsStrictlySortedBy name_cmp (keys_of n.entries) → AreNests name_cmp n.entries
  cut_nests k m n all now sorted = record {
    sorted = sorted_now n sorted;
    each = subst (λ (es : Kids X). AllByRecursion (λ (e : NameText × Rows X). IsNest name_cmp e.1) es) (sym now) (each-remove (IsNest name_cmp) (is_at (name_cmp k)) m.entries all.each);
  }

  pub cut_here : (path : List NameText) (k : NameText) (v : X) (m n : BTreeMap NameText (Rows X)) (ps : Rows X) → path ≡ [] → whole v m.entries ≡ ps → AreNests name_cmp m.entries → AreNests name_cmp n.entries
      → UpdatesBy name_cmp (name_cmp k) m n None → Cuts (path ++ k ∷ []) ps (whole v n.entries)
  unfolding is_front
  cut_here path k v m n ps named is all now updates =
      subst (λ (p : List NameText). Cuts (p ++ k ∷ []) ps (whole v n.entries)) (sym named)
      (subst (λ (qs : Rows X). Cuts (k ∷ []) qs (whole v n.entries)) is
      (cuts-whole v k [] m.entries n.entries None all.sorted now.sorted (now_finds k m n None updates) (λ r. refl)))

  -- no child of the name stands, so nothing goes
  pub cut_nothing : (path : List NameText) (k : NameText) (x : NameText) (rest : List NameText) (v : X) (es : Kids X) (ps : Rows X) → path ≡ x ∷ rest → whole v es ≡ ps → AreNests name_cmp es → None ≡ lookup (is_at (name_cmp x)) es → Cuts (path ++ k ∷ []) ps (whole v es)
  unfolding is_front
  cut_nothing path k x rest v es ps named is all none =
      subst (λ (p : List NameText). Cuts (p ++ k ∷ []) ps (whole v es)) (sym named)
      (subst (λ (qs : Rows X). Cuts (x ∷ (rest ++ k ∷ [])) qs (whole v es)) is
      (cuts-whole v x (rest ++ k ∷ []) es es None all.sorted all.sorted
      (λ y. elim (name_cmp x y) as (λ r. name_cmp x y ≡ r → find name_cmp y es ≡ cond (is_eq r) None (find name_cmp y es)) [
        | Less ↦ λ t. refl
        | Equal ↦ λ t. ap (λ (m : NameText). find name_cmp m es) (sym (name_cmp-same x y t)) ∙ (find_lookup name_cmp x es ∙ sym none)
        | Greater ↦ λ t. refl
      ] refl)
      (λ r. elim (is_front (rest ++ k ∷ []) r) as (λ b. None ≡ cond b None (option_and_then (find path_cmp r) (find name_cmp x es))) [
        | true ↦ refl
        | false ↦ sym (ap (option_and_then (find path_cmp r)) (find_lookup name_cmp x es ∙ sym none))
      ])))
