-- What is found in lists of entries in order, whatever the keys are.
use Rattle.std.proofs.Common.{◌≡◌, arith, Bool, true, false, cond, List, [], ◌∷◌, ◌++◌, length, refl, sym, ap, ◌∙◌, Option, Some, None, Less, Equal, Greater, ◌&&◌}
use Rattle.std.specs.Prelude.{IsTrue, IfSome, OnOk, Ok, Err}
use Rattle.std.specs.declared.result.Result.{Result}
use Rattle.std.specs.List.{AllByRecursion}
use Rattle.std.specs.List.Sorted.{IsStrictlySortedBy}
use Rattle.std.specs.Map.{lookup, keys_of}
use Rattle.std.specs.BTreeMap.{is_at}
use Rattle.std.specs.Option.{option_map, option_or}
use Rattle.std.specs.Ordering.{is_eq, is_lt, eq_by_cmp}
use Rattle.std.specs.declared.cmp.Ordering.{Ordering}
use Rattle.std.specs.Cmp.{IsTotalOrder}
use Rattle.std.specs.FinMap.{find, is_sorted}
use Rattle.std.specs.FinMap.Entries.{below_all}

pub and_both : (a b : Bool) → a ≡ true → b ≡ true → (a && b) ≡ true
and_both true b g h = h
and_both false b g h = absurd cc

pub and_first : (a b : Bool) → (a && b) ≡ true → a ≡ true
and_first true b h = refl
and_first false b h = h

pub and_second : (a b : Bool) → (a && b) ≡ true → b ≡ true
and_second true b h = h
and_second false b h = absurd cc

pub lt_less : (o : Ordering) → is_lt o ≡ true → o ≡ Less
lt_less Less h = refl
lt_less Equal h = absurd cc
lt_less Greater h = absurd cc

pub or_none : {X : Type 0} (a : Option X) → option_or a None ≡ a
or_none None = refl
or_none (Some x) = refl

module _ {K X : Type 0} (R : K → K → Ordering) where
  -- what a map looks up is what a finite map finds
  pub find_lookup : (q : K) (es : List (K × X)) → find R q es ≡ lookup (is_at (R q)) es
  find_lookup q [] = refl
  find_lookup q (e ∷ es) = ap (cond (is_eq (R q e.0)) (Some e.1)) (find_lookup q es)

  pub find-both : (q : K) (xs ys : List (K × X)) → find R q (xs ++ ys) ≡ option_or (find R q xs) (find R q ys)
  find-both q [] ys = refl
  find-both q (x ∷ xs) ys = elim (eq_by_cmp R q x.0) as (λ b. cond b (Some x.1) (find R q (xs ++ ys)) ≡ option_or (cond b (Some x.1) (find R q xs)) (find R q ys)) [
    | true ↦ refl
    | false ↦ find-both q xs ys
  ]

  pub below-both : (q : K) (xs ys : List (K × X)) → IsTrue (below_all R q xs) → IsTrue (below_all R q ys) → IsTrue (below_all R q (xs ++ ys))
  below-both q [] ys g h = h
  below-both q (x ∷ xs) ys g h = and_both (is_lt (R q x.0)) (below_all R q (xs ++ ys)) (and_first (is_lt (R q x.0)) (below_all R q xs) g) (below-both q xs ys (and_second (is_lt (R q x.0)) (below_all R q xs) g) h)

  pub sorted-both : (xs ys : List (K × X)) → IsTrue (is_sorted R xs) → IsTrue (is_sorted R ys) → AllByRecursion (λ (e : K × X). IsTrue (below_all R e.0 ys)) xs → IsTrue (is_sorted R (xs ++ ys))
  sorted-both [] ys g h all = h
  sorted-both (x ∷ xs) ys g h all =
      and_both (below_all R x.0 (xs ++ ys)) (is_sorted R (xs ++ ys))
      (below-both x.0 xs ys (and_first (below_all R x.0 xs) (is_sorted R xs) g) all.0)
      (sorted-both xs ys (and_second (below_all R x.0 xs) (is_sorted R xs) g) h all.1)

  -- a key that ties with one below all is not found
  pub find-tied_below : IsTotalOrder R → (x y : K) (es : List (K × X)) → R x y ≡ Equal → IsTrue (below_all R y es) → find R x es ≡ None
  find-tied_below o x y [] tie h = refl
  find-tied_below o x y (e ∷ es) tie h =
      ap (λ (r : Ordering). cond (is_eq r) (Some e.1) (find R x es)) (o.congr x y e.0 tie ∙ lt_less (R y e.0) (and_first (is_lt (R y e.0)) (below_all R y es) h))
      ∙ find-tied_below o x y es tie (and_second (is_lt (R y e.0)) (below_all R y es) h)

  -- a key below one that is below all is not found
  pub find-below : IsTotalOrder R → (x y : K) (es : List (K × X)) → R x y ≡ Less → IsTrue (below_all R y es) → find R x es ≡ None
  find-below o x y [] less h = refl
  find-below o x y (e ∷ es) less h =
      ap (λ (r : Ordering). cond (is_eq r) (Some e.1) (find R x es)) (o.trans x y e.0 less (lt_less (R y e.0) (and_first (is_lt (R y e.0)) (below_all R y es) h)))
      ∙ find-below o x y es less (and_second (is_lt (R y e.0)) (below_all R y es) h)

  below_strict : (x : K) (es : List (K × X)) → AllByRecursion (λ (y : K). R x y ≡ Less) (keys_of es) → IsTrue (below_all R x es)
  below_strict x [] h = refl
  below_strict x (e ∷ es) h = and_both (is_lt (R x e.0)) (below_all R x es) (ap is_lt h.0) (below_strict x es h.1)

  -- the keys of a map rise
  pub sorted_strict : (es : List (K × X)) → IsStrictlySortedBy R (keys_of es) → IsTrue (is_sorted R es)
  unfolding IsStrictlySortedBy
  sorted_strict [] h = refl
  sorted_strict (e ∷ es) h = and_both (below_all R e.0 es) (is_sorted R es) (below_strict e.0 es h.0) (sorted_strict es h.1)

-- copies of entries, one after another, which mean the same by f
module _ {K X Y : Type 0} (R : K → K → Ordering) (f : X → Y) where
  -- what is left, and then the copies, are all there was
  abbrev pub Copied : List (K × X) → List (K × X) → List (K × X) → Type 0
  Copied rest copy all = (y : K) → option_or (option_map f (find R y rest)) (option_map f (find R y copy)) ≡ option_map f (find R y all)

  pub none_copied : (rest copy all : List (K × X)) → rest ≡ all → copy ≡ [] → Copied rest copy all
  none_copied rest copy all whole none y =
      (λ i. option_or (option_map f (find R y (whole i))) (option_map f (find R y (none i)))) ∙ or_none (option_map f (find R y all))

  pub one_copied : IsTotalOrder R → (k : K) (v w : X) (left rest copy new all : List (K × X)) → left ≡ (k, v) ∷ rest → IsTrue (is_sorted R left) → f w ≡ f v
      → ((y : K) → find R y new ≡ cond (eq_by_cmp R y k) (Some w) (find R y copy)) → Copied left copy all → Copied rest new all
  one_copied o k v w left rest copy new all front sorted same now before y =
      ap (λ (x : Option X). option_or (option_map f (find R y rest)) (option_map f x)) (now y)
      ∙ (elim (R y k) as (λ r. R y k ≡ r → option_or (option_map f (find R y rest)) (option_map f (cond (is_eq r) (Some w) (find R y copy))) ≡ option_or (option_map f (cond (is_eq r) (Some v) (find R y rest))) (option_map f (find R y copy))) [
        | Less ↦ λ t. refl
        | Equal ↦ λ t.
            ap (λ (x : Option X). option_or (option_map f x) (Some (f w))) (find-tied_below R o y k rest t (and_first (below_all R k rest) (is_sorted R rest) (sym (ap (is_sorted R) front) ∙ sorted)))
            ∙ ap Some same
        | Greater ↦ λ t. refl
      ] refl
      ∙ (ap (λ (es : List (K × X)). option_or (option_map f (find R y es)) (option_map f (find R y copy))) (sym front) ∙ before y))

  pub all_copied : (rest copy all : List (K × X)) → rest ≡ [] → Copied rest copy all → (y : K) → option_map f (find R y copy) ≡ option_map f (find R y all)
  all_copied rest copy all none before y = ap (λ (es : List (K × X)). option_or (option_map f (find R y es)) (option_map f (find R y copy))) (sym none) ∙ before y

-- what is behind the first of entries in order
pub sorted_rest : {K X : Type 0} (R : K → K → Ordering) (e : K × X) (left rest : List (K × X)) → left ≡ e ∷ rest → IsTrue (is_sorted R left) → IsTrue (is_sorted R rest)
sorted_rest R e left rest front sorted = and_second (below_all R e.0 rest) (is_sorted R rest) (sym (ap (is_sorted R) front) ∙ sorted)

pub some-weaker : {A : Type 0} (o : Option A) (P Q : A → Type 0) → ((x : A) → P x → Q x) → IfSome o P → IfSome o Q
some-weaker None P Q f h = tt
some-weaker (Some x) P Q f h = f x h

pub ok-weaker : {A E : Type 0} (r : Result A E) (P Q : Type 0) → (P → Q) → OnOk r P → OnOk r Q
ok-weaker (Ok x) P Q f h = f h
ok-weaker (Err x) P Q f h = tt

pub no_length : {A : Type 0} (xs : List A) → length xs ≡ 0 → xs ≡ []
no_length [] e = refl
no_length (x ∷ xs) e = absurd (omega arith)
