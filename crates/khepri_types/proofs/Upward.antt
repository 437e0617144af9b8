-- A lasting condition that holds goes on to hold where more stands.
use Rattle.std.proofs.Common.{◌≡◌, ℕ, ◌<◌, ◌≤◌, Bool, true, false, ◌&&◌, ◌||◌, List, [], ◌∷◌, map, subst, arith, refl, sym, ap, ◌∙◌, Option, Some, None}
use Rattle.std.specs.Ordering.{nat_cmp}
use Rattle.std.specs.Cmp.{ranked}
use Rattle.std.specs.declared.cmp.Ordering.TheVariants.{Less, Equal, Greater}
use Rattle.khepri_terms.proofs.Cases.{and_true}
use Rattle.khepri_types.specs.declared.compare.Compare.{Compare}
use Rattle.khepri_types.specs.declared.compare.Compare.TheVariants.{Eq, Ne, Lt, Le, Gt, Ge}
use Rattle.khepri_types.specs.declared.condition.Condition.{Condition}
use Rattle.khepri_types.specs.declared.condition.Condition.TheOpen.{Condition-F}
use Rattle.khepri_types.specs.declared.condition.Condition.TheFolds.{fold-roll-Condition, ind-Condition, map-Condition}
use Rattle.khepri_types.specs.declared.condition.Condition.TheViews.{roll-Condition}
use Rattle.khepri_types.specs.Compares.{compares}
use Rattle.khepri_types.specs.Conditions.{Seen, standing, is_payload, is_data, is_script, is_named, is_equal, has_field, compares_number, all_true, any_true, layer_holds, holds}
use Rattle.khepri_types.specs.Lasting.{is_upward, layer_lasts, is_lasting}

-- t shows what s shows, with no fewer children, and perhaps another child-list version
pub record Above (s t : Seen) : Type 0 where
  pub name : s.name ≡ t.name
  pub payload : s.payload ≡ t.payload
  pub pv : s.pv ≡ t.pv
  pub kids : s.kids ≤ t.kids

-- what is seen where a node stands is seen there still
abbrev pub IsBelow : Option Seen → Option Seen → Type 0
IsBelow None b = Unit {0}
IsBelow (Some s) None = ⊥
IsBelow (Some s) (Some t) = Above s t

-- once a lasting condition holds, it holds above
abbrev pub Lasts : Condition → Type 0
Lasts c = is_lasting c ≡ true → (a b : Option Seen) → IsBelow a b → holds c a ≡ true → holds c b ≡ true

-- ---- atoms

stands_up : (test : Seen → Bool) (a b : Option Seen) → IsBelow a b → ((s t : Seen) → Above s t → test s ≡ true → test t ≡ true) → standing test a ≡ true → standing test b ≡ true
stands_up test None b below up h = absurd cc
stands_up test (Some s) None below up h = absurd below
stands_up test (Some s) (Some t) below up h = up s t below h

-- a greater number is above what the other is above
greater_up : (s t n : ℕ) → s ≤ t → compares Gt (nat_cmp s n) ≡ true → compares Gt (nat_cmp t n) ≡ true
greater_up s t n le h = elim (nat_cmp s n) as (λ r. r ≡ nat_cmp s n → compares Gt r ≡ true → compares Gt (nat_cmp t n) ≡ true) [
  | Less ↦ λ e is. absurd cc
  | Equal ↦ λ e is. absurd cc
  | Greater ↦ λ e is.
      let low : n < s = ranked s n Greater e in
      elim (nat_cmp t n) as (λ r. r ≡ nat_cmp t n → compares Gt r ≡ true) [
        | Less ↦ λ f. let more : t < n = ranked t n Less f in absurd (omega arith)
        | Equal ↦ λ f. let same : t ≡ n = ranked t n Equal f in absurd (omega arith)
        | Greater ↦ λ f. refl
      ] refl
] refl h

least_up : (s t n : ℕ) → s ≤ t → compares Ge (nat_cmp s n) ≡ true → compares Ge (nat_cmp t n) ≡ true
least_up s t n le h =
    let from : n ≤ s → compares Ge (nat_cmp t n) ≡ true = λ low. elim (nat_cmp t n) as (λ r. r ≡ nat_cmp t n → compares Ge r ≡ true) [
      | Less ↦ λ f. let more : t < n = ranked t n Less f in absurd (omega arith)
      | Equal ↦ λ f. refl
      | Greater ↦ λ f. refl
    ] refl in
    elim (nat_cmp s n) as (λ r. r ≡ nat_cmp s n → compares Ge r ≡ true → compares Ge (nat_cmp t n) ≡ true) [
      | Less ↦ λ e is. absurd cc
      | Equal ↦ λ e is. let same : s ≡ n = ranked s n Equal e in from (omega arith)
      | Greater ↦ λ e is. let more : n < s = ranked s n Greater e in from (omega arith)
    ] refl h

number_up : (op : Compare) (s t n : ℕ) → is_upward op ≡ true → s ≤ t → compares_number op n s ≡ true → compares_number op n t ≡ true
number_up Eq s t n up le h = absurd cc
number_up Ne s t n up le h = absurd cc
number_up Lt s t n up le h = absurd cc
number_up Le s t n up le h = absurd cc
number_up Gt s t n up le h = greater_up s t n le h
number_up Ge s t n up le h = least_up s t n le h

-- ---- parts

abbrev Each : Type 0
Each = (c : Condition) × Lasts c

all_up : (ps : List Each) (a b : Option Seen) → IsBelow a b → all_true (map is_lasting (map (λ (p : Each). p.0) ps)) ≡ true
    → all_true (map (λ (c : Condition). holds c a) (map (λ (p : Each). p.0) ps)) ≡ true → all_true (map (λ (c : Condition). holds c b) (map (λ (p : Each). p.0) ps)) ≡ true
all_up [] a b below lasts h = refl
all_up (p ∷ ps) a b below lasts h =
    let l = and_true (is_lasting p.0) (all_true (map is_lasting (map (λ (q : Each). q.0) ps))) lasts in
    let t = and_true (holds p.0 a) (all_true (map (λ (c : Condition). holds c a) (map (λ (q : Each). q.0) ps))) h in
    λ i. p.1 l.0 a b below t.0 i && all_up ps a b below l.1 t.1 i

either_up : (a b c d : Bool) → (a ≡ true → b ≡ true) → (c ≡ true → d ≡ true) → (a || c) ≡ true → (b || d) ≡ true
either_up true b c d f g h = ap (λ (x : Bool). x || d) (f refl)
either_up false true c d f g h = refl
either_up false false c d f g h = g h

any_up : (ps : List Each) (a b : Option Seen) → IsBelow a b → all_true (map is_lasting (map (λ (p : Each). p.0) ps)) ≡ true
    → any_true (map (λ (c : Condition). holds c a) (map (λ (p : Each). p.0) ps)) ≡ true → any_true (map (λ (c : Condition). holds c b) (map (λ (p : Each). p.0) ps)) ≡ true
any_up [] a b below lasts h = absurd cc
any_up (p ∷ ps) a b below lasts h =
    let l = and_true (is_lasting p.0) (all_true (map is_lasting (map (λ (q : Each). q.0) ps))) lasts in
    either_up (holds p.0 a) (holds p.0 b) (any_true (map (λ (c : Condition). holds c a) (map (λ (q : Each). q.0) ps))) (any_true (map (λ (c : Condition). holds c b) (map (λ (q : Each). q.0) ps))) (p.1 l.0 a b below) (any_up ps a b below l.1) h

-- ---- conditions

abbrev bare : Condition-F Each → Condition-F Condition
bare y = map-Condition Each Condition (λ e. e.0) y

layer_up : (y : Condition-F Each) (a b : Option Seen) → IsBelow a b → layer_lasts (map-Condition Condition Bool is_lasting (bare y)) ≡ true
    → layer_holds a (map-Condition Condition Bool (λ c. holds c a) (bare y)) ≡ true → layer_holds b (map-Condition Condition Bool (λ c. holds c b) (bare y)) ≡ true
layer_up Condition-F.Absent a b below lasts h = absurd cc
layer_up Condition-F.Exists a b below lasts h = stands_up (λ s. true) a b below (λ s t up is. refl) h
layer_up Condition-F.Payload a b below lasts h = stands_up (λ s. is_payload s.payload) a b below (λ s t up is. ap is_payload (sym up.payload) ∙ is) h
layer_up Condition-F.Data a b below lasts h = stands_up (λ s. is_data s.payload) a b below (λ s t up is. ap is_data (sym up.payload) ∙ is) h
layer_up Condition-F.Sproc a b below lasts h = stands_up (λ s. is_script s.payload) a b below (λ s t up is. ap is_script (sym up.payload) ∙ is) h
layer_up (Condition-F.Name g) a b below lasts h = stands_up (λ s. is_named g s.name) a b below (λ s t up is. ap (is_named g) (sym up.name) ∙ is) h
layer_up (Condition-F.Is r) a b below lasts h = stands_up (λ s. is_equal r s.payload) a b below (λ s t up is. ap (is_equal r) (sym up.payload) ∙ is) h
layer_up (Condition-F.Field key op x) a b below lasts h = stands_up (λ s. has_field key.bytes op x s.payload) a b below (λ s t up is. ap (has_field key.bytes op x) (sym up.payload) ∙ is) h
layer_up (Condition-F.Pv op n) a b below lasts h = stands_up (λ s. compares_number op n s.pv) a b below (λ s t up is. ap (compares_number op n) (sym up.pv) ∙ is) h
layer_up (Condition-F.Cv op n) a b below lasts h = absurd cc
layer_up (Condition-F.Kids op n) a b below lasts h = stands_up (λ s. compares_number op n s.kids) a b below (λ s t up is. number_up op s.kids t.kids n lasts up.kids is) h
layer_up (Condition-F.Not p) a b below lasts h = absurd cc
layer_up (Condition-F.All ps) a b below lasts h = all_up ps a b below lasts h
layer_up (Condition-F.Any ps) a b below lasts h = any_up ps a b below lasts h

rolled : (y : Condition-F Each) → Lasts (roll-Condition (bare y))
rolled y lasts a b below h =
    fold-roll-Condition Bool (layer_holds b) (bare y)
    ∙ layer_up y a b below (sym (fold-roll-Condition Bool layer_lasts (bare y)) ∙ lasts) (sym (fold-roll-Condition Bool (layer_holds a) (bare y)) ∙ h)

pub all_last : (c : Condition) → Lasts c
all_last = ind-Condition Lasts (λ x y is. subst (λ (z : Condition-F Condition). Lasts (roll-Condition z)) is (rolled y))
