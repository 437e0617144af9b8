-- What a sweep has taken out so far.
use Rattle.std.proofs.Common.{◌≡◌, ℕ, suc, ◌+◌, ◌-◌, ◌<◌, ◌≤◌, Bool, true, false, cond, not, List, [], ◌∷◌, ◌++◌, length, take, refl, sym, ap, subst, ◌∙◌, arith, length-append, Option, Some, None, Less, Equal, Greater, ◌&&◌, ◌||◌}
use Rattle.std.specs.Prelude.{IsTrue, is_some, slice_get}
use Rattle.std.specs.Ordering.{is_eq, is_lt, eq_by_cmp, ordering_reverse}
use Rattle.std.specs.Cmp.{tied_itself, eq_by_cmp_equiv}
use Rattle.std.specs.FinMap.{get, remove, get-remove}
use Rattle.std.proofs.lemmas.Bool.{false≢true}
use Rattle.std.proofs.lemmas.List.{length-take-le}
use Rattle.khepri_terms.specs.Terms.{NameText}
use Rattle.khepri_terms.specs.Order.{name_cmp, path_cmp}
use Rattle.khepri_types.specs.declared.node.Node.{Node}
use Rattle.khepri_types.specs.Paths.{is_child, is_front}
use Rattle.khepri_types.specs.Sizes.{kids}
use Rattle.khepri_types.specs.Tree.{Tree, IsTree, stands}
use Rattle.khepri_types.proofs.Order.{name_cmp_total, name_cmp-same, path_cmp_total, path_cmp-same}
use Rattle.khepri_types.proofs.Trees.{tie_is}
use Rattle.khepri_types.proofs.Fronts.{front_itself, front_long, one_parent}
use Rattle.khepri_types.proofs.Growing.{get_some}
use Rattle.nested_nodes.specs.Next.{follows, IsNext}
use Rattle.tree_overlay.specs.declared.draft.Measure.{Measure}
use Rattle.tree_overlay.specs.Measures.{HasBytes, HasSiblings, IsNextChild}
use Rattle.tree_overlay.specs.Over.{Drafted, HasChild, IsShallow, StaysTouched, is_touched}
use Rattle.tree_overlay.proofs.Applying.{gone_below, take_front}
use Rattle.tree_overlay.proofs.Counting.{kids-gone}
use Rattle.tree_overlay.proofs.Hatching.{child_of, no_kids, some_kids, stands-gone}

abbrev Path : Type 0
Path = List NameText

-- from the old draft to this one only nodes under the root went, and each was touched
pub record Sweeping (root : Path) (old now : Drafted) : Type 0 where
  pub base : now.base ≡ old.base
  pub less : (q : Path) (n : Node) → get now.tree q ≡ Some n → get old.tree q ≡ Some n
  pub part : (q : Path) → is_front root q ≡ false → get now.tree q ≡ get old.tree q
  pub noted : (q : Path) → is_touched now.touched q ≡ ((stands old.tree q && not (stands now.tree q)) || is_touched old.touched q)

none_went : (s t : Bool) → t ≡ ((s && not s) || t)
none_went true t = refl
none_went false t = refl

sweeping-init : (root : Path) (old : Drafted) → Sweeping root old old
sweeping-init root old = record { base = refl; less = λ q n e. e; part = λ q off. refl; noted = λ q. none_went (stands old.tree q) (is_touched old.touched q) }

same_tie : (p q : Path) → is_eq (path_cmp p q) ≡ eq_by_cmp path_cmp q p
same_tie p q = (eq_by_cmp_equiv path_cmp_total).symm p q

-- the root itself goes
sweeping-gone : (root : Path) (old now new : Drafted) → Sweeping root old now → IsTrue (stands now.tree root) → new.base ≡ now.base → new.tree ≡ remove now.tree root
    → ((q : Path) → is_touched new.touched q ≡ (is_eq (path_cmp root q) || is_touched now.touched q)) → Sweeping root old new
sweeping-gone root old now new s top base gone touched =
    let w = get_some (get now.tree root) top in
    let got : (q : Path) → get new.tree q ≡ cond (eq_by_cmp path_cmp q root) None (get now.tree q) = λ q. ap (λ (T : Tree). get T q) gone ∙ get-remove path_cmp_total now.tree root q in
    record {
      base = base ∙ s.base;
      less = λ q n e. elim (eq_by_cmp path_cmp q root) as (λ b. cond b None (get now.tree q) ≡ Some n → get old.tree q ≡ Some n) [ true ↦ λ g. absurd cc | false ↦ λ g. s.less q n g ] (sym (got q) ∙ e);
      part = λ q off. got q ∙ (elim (eq_by_cmp path_cmp q root) as (λ b. eq_by_cmp path_cmp q root ≡ b → cond b None (get now.tree q) ≡ get now.tree q) [
        | true ↦ λ t. absurd (false≢true (sym off ∙ (ap (is_front root) (path_cmp-same q root (tie_is _ t)) ∙ front_itself root)))
        | false ↦ λ t. refl
      ] refl ∙ s.part q off);
      noted = λ q. touched q ∙ ((λ i. same_tie root q i || s.noted q i) ∙ (elim (eq_by_cmp path_cmp q root) as (λ b. eq_by_cmp path_cmp q root ≡ b → (b || ((stands old.tree q && not (stands now.tree q)) || is_touched old.touched q)) ≡ ((stands old.tree q && not (cond b false (stands now.tree q))) || is_touched old.touched q)) [
        | true ↦ λ t.
            let was : stands old.tree q ≡ true = ap (stands old.tree) (path_cmp-same q root (tie_is _ t)) ∙ ap is_some (s.less root w.0 w.1) in
            sym (ap (λ (b : Bool). (b && true) || is_touched old.touched q) was)
        | false ↦ λ t. refl
      ] refl ∙ sym (ap (λ (b : Bool). (stands old.tree q && not b) || is_touched old.touched q) (ap (λ (T : Tree). stands T q) gone ∙ stands-gone now.tree root q))));
    }

-- the root went, and so all below it
swept-tree : (root : Path) (old now : Drafted) → Sweeping root old now → IsTree now.tree → get now.tree root ≡ None → (q : Path) → get now.tree q ≡ cond (is_front root q) None (get old.tree q)
swept-tree root old now s tree none q = elim (is_front root q) as (λ b. is_front root q ≡ b → get now.tree q ≡ cond b None (get old.tree q)) [
  | true ↦ λ t. gone_below now.tree root q tree none t
  | false ↦ λ t. s.part q t
] refl

swept-touched : (root : Path) (old now : Drafted) → Sweeping root old now → IsTree now.tree → get now.tree root ≡ None → (q : Path) → is_touched now.touched q ≡ ((is_front root q && stands old.tree q) || is_touched old.touched q)
swept-touched root old now s tree none q = s.noted q ∙ elim (is_front root q) as (λ b. is_front root q ≡ b → ((stands old.tree q && not (stands now.tree q)) || is_touched old.touched q) ≡ ((b && stands old.tree q) || is_touched old.touched q)) [
  | true ↦ λ t. ap (λ (b : Bool). (stands old.tree q && not b) || is_touched old.touched q) (ap is_some (gone_below now.tree root q tree none t)) ∙ ap (λ (b : Bool). b || is_touched old.touched q) (and_yes (stands old.tree q))
  | false ↦ λ t. ap (λ (b : Bool). (stands old.tree q && not b) || is_touched old.touched q) (ap is_some (s.part q t)) ∙ sym (none_went (stands old.tree q) (is_touched old.touched q))
] refl
  where
    and_yes : (b : Bool) → (b && true) ≡ b
    and_yes true = refl
    and_yes false = refl

-- ---- what was touched stays so

or_second : (a b : Bool) → b ≡ true → (a || b) ≡ true
or_second true b h = refl
or_second false b h = h

sweeping-stays : (root : Path) (old now : Drafted) → Sweeping root old now → StaysTouched old.touched now.touched
sweeping-stays root old now s q h = s.noted q ∙ or_second (stands old.tree q && not (stands now.tree q)) (is_touched old.touched q) h

pub same-stays : (old : List (List NameText)) (mid new : Drafted) → StaysTouched old mid.touched → new ≡ mid → StaysTouched old new.touched
same-stays old mid new stays same q h = ap (λ (d : Drafted). is_touched d.touched q) same ∙ stays q h

-- ---- the children go, one after another

-- below the path those children went that do not come after the last one; so many are left
pub record Clearing (p : Path) (last : Option NameText) (left : ℕ) (old now : Drafted) : Type 0 where
  pub sweeping : Sweeping p old now
  pub here : get now.tree p ≡ get old.tree p
  pub counts : (q : Path) → is_front p q ≡ false → kids now.tree q ≡ kids old.tree q
  pub rest : left ≡ kids now.tree p
  pub after : (m : NameText) → HasChild now.tree p m → IsTrue (follows name_cmp last m)

pub clearing-init : (p : Path) (left : ℕ) (old : Drafted) → left ≡ kids old.tree p → Clearing p None left old old
clearing-init p left old is = record { sweeping = sweeping-init p old; here = refl; counts = λ q off. refl; rest = is; after = λ m h. refl }

pub clearing-stays : (p : Path) (last : Option NameText) (left : ℕ) (old now : Drafted) → Clearing p last left old now → StaysTouched old.touched now.touched
clearing-stays p last left old now s = sweeping-stays p old now s.sweeping

-- what begins with a longer path begins with the shorter one
front_more : (p r q : Path) → is_front (p ++ r) q ≡ true → is_front p q ≡ true
unfolding is_front
front_more [] r q h = refl
front_more (x ∷ p) r [] h = h
front_more (x ∷ p) r (y ∷ q) h = elim (is_eq (name_cmp x y)) as (λ b. (b && is_front (p ++ r) q) ≡ true → (b && is_front p q) ≡ true) [
  | true ↦ λ g. front_more p r q g
  | false ↦ λ g. g
] h

is_false : (b : Bool) → (b ≡ true → ⊥) → b ≡ false
is_false true h = absurd (h refl)
is_false false h = refl

not_longer : (p : Path) (m : NameText) → is_front (p ++ m ∷ []) p ≡ false
not_longer p m = is_false (is_front (p ++ m ∷ []) p) (λ t. absurd (omega (arith, front_long (p ++ m ∷ []) p t, length-append p (m ∷ []))))

off_below : (p child q : Path) (m : NameText) → child ≡ p ++ m ∷ [] → is_front p q ≡ false → is_front child q ≡ false
off_below p child q m is off = is_false (is_front child q) (λ t. false≢true (sym off ∙ front_more p (m ∷ []) q (ap (λ (c : Path). is_front c q) (sym is) ∙ t)))

noted-step : (f o t : Bool) (x : Option Node) → (is_some x ≡ true → o ≡ true) → ((f && is_some x) || ((o && not (is_some x)) || t)) ≡ ((o && not (is_some (cond f None x))) || t)
noted-step true o t None some = refl
noted-step true true t (Some n) some = refl
noted-step true false t (Some n) some = absurd (false≢true (some refl))
noted-step false o t x some = refl

-- of two names the one that is not less and not the other comes after it
comes_after : (m n : NameText) → (name_cmp n m ≡ Less → ⊥) → (m ≡ n → ⊥) → is_lt (name_cmp m n) ≡ true
comes_after m n not_less apart = elim (name_cmp m n) as (λ o. name_cmp m n ≡ o → is_lt o ≡ true) [
  | Less ↦ λ t. refl
  | Equal ↦ λ t. absurd (apart (name_cmp-same m n t))
  | Greater ↦ λ t. absurd (not_less (name_cmp_total.antisymm n m ∙ ap ordering_reverse t))
] refl

pub clearing-step : (p child : Path) (m : NameText) (last : Option NameText) (left : ℕ) (old now new : Drafted) → Clearing p last left old now → child ≡ p ++ m ∷ [] → IsNext name_cmp (HasChild now.tree p) last (Some m) → new.base ≡ now.base
    → ((q : Path) → get new.tree q ≡ cond (is_front child q) None (get now.tree q)) → ((q : Path) → is_touched new.touched q ≡ ((is_front child q && stands now.tree q) || is_touched now.touched q))
    → ((q : Path) → is_front child q ≡ false → kids new.tree q + cond (is_child q child) 1 0 ≡ kids now.tree q) → Clearing p (Some m) (left - 1) old new
clearing-step p child m last left old now new s is next base swept touched fewer =
    let other : is_front child p ≡ false = ap (λ (c : Path). is_front c p) is ∙ not_longer p m in
    let mine : is_child p child ≡ true = ap (is_child p) is ∙ child_of p m in
    record {
      sweeping = record {
        base = base ∙ s.sweeping.base;
        less = λ q n e. elim (is_front child q) as (λ b. cond b None (get now.tree q) ≡ Some n → get old.tree q ≡ Some n) [ true ↦ λ g. absurd cc | false ↦ λ g. s.sweeping.less q n g ] (sym (swept q) ∙ e);
        part = λ q off. swept q ∙ (ap (λ (b : Bool). cond b None (get now.tree q)) (off_below p child q m is off) ∙ s.sweeping.part q off);
        noted = λ q. touched q
            ∙ (ap (λ (b : Bool). (is_front child q && stands now.tree q) || b) (s.sweeping.noted q)
            ∙ (noted-step (is_front child q) (stands old.tree q) (is_touched old.touched q) (get now.tree q) (λ t. let w = get_some (get now.tree q) t in ap is_some (s.sweeping.less q w.0 w.1))
            ∙ sym (ap (λ (o : Option Node). (stands old.tree q && not (is_some o)) || is_touched old.touched q) (swept q))));
      };
      here = swept p ∙ (ap (λ (b : Bool). cond b None (get now.tree p)) other ∙ s.here);
      counts = λ q off.
          let none : is_child q child ≡ false = is_false (is_child q child) (λ t. false≢true (sym off ∙ (ap (is_front p) (one_parent q p child t mine) ∙ front_itself p))) in
          let flag : cond (is_child q child) 1 0 ≡ 0 = ap {B = ℕ} (λ (b : Bool). cond b 1 0) none in
          omega (arith, fewer q (off_below p child q m is off), flag, s.counts q off);
      rest = let flag : cond (is_child p child) 1 0 ≡ 1 = ap {B = ℕ} (λ (b : Bool). cond b 1 0) mine in omega (arith, fewer p other, flag, s.rest);
      after = λ n h.
          let there : is_some (cond (is_front child (p ++ n ∷ [])) None (get now.tree (p ++ n ∷ []))) ≡ true = ap is_some (sym (swept (p ++ n ∷ []))) ∙ h in
          let stays : is_front child (p ++ n ∷ []) ≡ false = is_false (is_front child (p ++ n ∷ [])) (λ t. false≢true (ap (λ (b : Bool). is_some (cond b None (get now.tree (p ++ n ∷ [])))) (sym t) ∙ there)) in
          let was : IsTrue (stands now.tree (p ++ n ∷ [])) = sym (ap (λ (b : Bool). is_some (cond b None (get now.tree (p ++ n ∷ [])))) stays) ∙ there in
          comes_after m n (λ less. next.2 n was (s.after n was) less) (λ same. false≢true (sym stays ∙ (ap (λ (c : Path). is_front c (p ++ n ∷ [])) (is ∙ ap (λ (k : NameText). p ++ k ∷ []) same) ∙ front_itself (p ++ n ∷ []))));
    }

-- where children are left, one comes next
pub clearing-next : (p : Path) (last : Option NameText) (left : ℕ) (old now : Drafted) → Clearing p last left old now → IsTree now.tree → 0 < left → IsNext name_cmp (HasChild now.tree p) last None → ⊥
clearing-next p last left old now s tree some none = absurd (omega (arith, some, s.rest, no_kids now.tree p (λ m h. none m h (s.after m h))))

-- where none is left, the path has no child
pub clearing-alone : (p : Path) (last : Option NameText) (left : ℕ) (old now : Drafted) → Clearing p last left old now → left ≡ 0 → (m : NameText) → stands now.tree (p ++ m ∷ []) ≡ false
clearing-alone p last left old now s none m = is_false (stands now.tree (p ++ m ∷ [])) (λ t. let w = get_some (get now.tree (p ++ m ∷ [])) t in absurd (omega (arith, none, s.rest, some_kids now.tree p (p ++ m ∷ []) m w.0 refl w.1)))

-- ---- then the path itself

pub cleared-stands : (p : Path) (last : Option NameText) (left : ℕ) (old now : Drafted) → Clearing p last left old now → IsTrue (stands old.tree p) → IsTrue (stands now.tree p)
cleared-stands p last left old now s there = ap is_some s.here ∙ there

pub cleared-bytes : (p : Path) (last : Option NameText) (left was : ℕ) (old now : Drafted) → Clearing p last left old now → HasBytes old.tree p was → HasBytes now.tree p was
cleared-bytes p last left was old now s has n at = has n (sym s.here ∙ at)

not_above : (p : Path) → 0 < length p → is_front p (take (length p - 1) p) ≡ false
not_above p long = is_false (is_front p (take (length p - 1) p)) (λ t. absurd (omega (arith, long, front_long p (take (length p - 1) p) t, taken p))) where
  taken : (p : Path) → length (take (length p - 1) p) ≡ length p - 1
  taken p = length-take-le (length p - 1) p (omega arith)

pub cleared-siblings : (p : Path) (last : Option NameText) (left before : ℕ) (old now : Drafted) → 0 < length p → Clearing p last left old now → HasSiblings old.tree p before → HasSiblings now.tree p before
cleared-siblings p last left before old now long s has = has ∙ sym (s.counts (take (length p - 1) p) (not_above p long))

gone_here : (T U : Tree) (p : Path) → U ≡ remove T p → get U p ≡ None
gone_here T U p gone = ap (λ (V : Tree). get V p) gone ∙ (get-remove path_cmp_total T p p ∙ ap (λ (b : Bool). cond b None (get T p)) (ap is_eq (tied_itself path_cmp_total p)))

pub gone-tree : (p : Path) (last : Option NameText) (left : ℕ) (old now new : Drafted) → Clearing p last left old now → IsTree new.tree → IsTrue (stands old.tree p) → new.base ≡ now.base → new.tree ≡ remove now.tree p
    → ((q : Path) → is_touched new.touched q ≡ (is_eq (path_cmp p q) || is_touched now.touched q)) → (q : Path) → get new.tree q ≡ cond (is_front p q) None (get old.tree q)
gone-tree p last left old now new s tree there base gone touched =
    swept-tree p old new (sweeping-gone p old now new s.sweeping (cleared-stands p last left old now s there) base gone touched) tree (gone_here now.tree new.tree p gone)

pub gone-touched : (p : Path) (last : Option NameText) (left : ℕ) (old now new : Drafted) → Clearing p last left old now → IsTree new.tree → IsTrue (stands old.tree p) → new.base ≡ now.base → new.tree ≡ remove now.tree p
    → ((q : Path) → is_touched new.touched q ≡ (is_eq (path_cmp p q) || is_touched now.touched q)) → (q : Path) → is_touched new.touched q ≡ ((is_front p q && stands old.tree q) || is_touched old.touched q)
gone-touched p last left old now new s tree there base gone touched =
    swept-touched p old new (sweeping-gone p old now new s.sweeping (cleared-stands p last left old now s there) base gone touched) tree (gone_here now.tree new.tree p gone)

pub gone-kids : (p : Path) (last : Option NameText) (left : ℕ) (old now new : Drafted) → Clearing p last left old now → IsTrue (stands old.tree p) → new.tree ≡ remove now.tree p
    → (q : Path) → is_front p q ≡ false → kids new.tree q + cond (is_child q p) 1 0 ≡ kids old.tree q
gone-kids p last left old now new s there gone q off =
    let w = get_some (get now.tree p) (cleared-stands p last left old now s there) in
    let less = kids-gone now.tree p w.0 q w.1 in
    omega (arith, ap (λ (T : Tree). kids T q) gone, less, s.counts q off)

pub gone-stays : (p : Path) (last : Option NameText) (left : ℕ) (old now new : Drafted) → Clearing p last left old now → ((q : Path) → is_touched new.touched q ≡ (is_eq (path_cmp p q) || is_touched now.touched q)) → StaysTouched old.touched new.touched
gone-stays p last left old now new s more q h = more q ∙ or_second (is_eq (path_cmp p q)) (is_touched now.touched q) (clearing-stays p last left old now s q h)

-- ---- a child that is found

-- the child that comes next, where one does
pub next_is : (T : Tree) (p : Path) (a after : Option NameText) (o : Option (Path × Measure)) (x : Path × Measure) → a ≡ after → IsNextChild T p a o → o ≡ Some x → IsNextChild T p after (Some x)
next_is T p a after o x same next is = subst (λ (b : Option NameText). IsNextChild T p b (Some x)) same (subst (λ (r : Option (Path × Measure)). IsNextChild T p a r) is next)

pub next_not : (T : Tree) (p : Path) (a after : Option NameText) (o : Option (Path × Measure)) → a ≡ after → IsNextChild T p a o → o ≡ None → IsNext name_cmp (HasChild T p) after None
next_not T p a after o same next is = subst (λ (b : Option NameText). IsNext name_cmp (HasChild T p) b None) same (subst (λ (r : Option (Path × Measure)). IsNextChild T p a r) is next)

last_get : (p : Path) (m : NameText) → slice_get (p ++ m ∷ []) (length p) ≡ Some m
last_get [] m = refl
last_get (x ∷ p) m = last_get p m

-- the last name of the child
pub name_is : (p child : Path) (m k : NameText) (i : ℕ) → child ≡ p ++ m ∷ [] → i ≡ length p → slice_get child i ≡ Some k → k ≡ m
name_is p child m k i is at got =
    let here : Some k ≡ Some m = sym got ∙ ((λ j. slice_get (is j) (at j)) ∙ last_get p m) in
    cc

pub child_siblings : (T : Tree) (p child : Path) (m : NameText) (left : ℕ) → child ≡ p ++ m ∷ [] → left ≡ kids T p → HasSiblings T child left
child_siblings T p child m left is count =
    count ∙ ap (kids T) (sym ((λ i. take (length (is i) - 1) (is i)) ∙ (ap (λ (k : ℕ). take k (p ++ m ∷ [])) {x = length (p ++ m ∷ []) - 1} {y = length p} (omega (arith, length-append p (m ∷ []))) ∙ take_front p (m ∷ []))))

pub child_long : (p child : Path) (m : NameText) → child ≡ p ++ m ∷ [] → length child ≡ suc (length p)
child_long p child m is = omega (arith, ap length is, length-append p (m ∷ []))

pub child_shallow : (T : Tree) (p child : Path) (m : NameText) → child ≡ p ++ m ∷ [] → IsShallow T → HasChild T p m → length child ≤ 32
child_shallow T p child m is shallow h = shallow child (ap (stands T) is ∙ h)
