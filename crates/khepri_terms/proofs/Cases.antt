-- What a reading that found something says of its steps.
use Rattle.std.proofs.Common.{◌≡◌, Bool, true, false, cond, ◌&&◌, ◌||◌, ◌⊎◌, inl, inr, refl, Option, Some, None, Result, Err}
use Rattle.khepri_terms.specs.Many.{◌>>=◌}

pub bind_some : {A B : Type 0} (o : Option A) (f : A → Option B) (y : B) → (o >>= f) ≡ Some y → (x : A) × (o ≡ Some x) × (f x ≡ Some y)
bind_some (Some x) f y e = (x, refl, e)
bind_some None f y e = absurd cc

pub if_some : {A : Type 0} (t : Bool) (a b : Option A) (x : A) → cond t a b ≡ Some x → ((t ≡ true) × (a ≡ Some x)) ⊎ ((t ≡ false) × (b ≡ Some x))
if_some true a b x e = inl (refl, e)
if_some false a b x e = inr (refl, e)

-- only where the test holds
pub guard_some : {A : Type 0} (t : Bool) (a : Option A) (x : A) → cond t a None ≡ Some x → (t ≡ true) × (a ≡ Some x)
guard_some true a x e = (refl, e)
guard_some false a x e = absurd cc

-- only where it does not
pub unless_some : {A : Type 0} (t : Bool) (a : Option A) (x : A) → cond t None a ≡ Some x → (t ≡ false) × (a ≡ Some x)
unless_some true a x e = absurd cc
unless_some false a x e = (refl, e)

pub some_is : {A : Type 0} (x y : A) → Some x ≡ Some y → x ≡ y
some_is x y e = cc

pub and_true : (a b : Bool) → (a && b) ≡ true → (a ≡ true) × (b ≡ true)
and_true true b e = (refl, e)
and_true false b e = absurd cc

pub or_false : (a b : Bool) → (a || b) ≡ false → (a ≡ false) × (b ≡ false)
or_false true b e = absurd cc
or_false false b e = (refl, e)

-- a failure as a result of some type
abbrev pub failed : (T : Type 0) {E : Type 0} → E → Result T E
failed T e = Err e

pub err_is : {T E : Type 0} (d e : E) → failed T d ≡ failed T e → d ≡ e
err_is d e h = cc

pub some_not_none : {A : Type 0} (x : A) → Some x ≡ None → ⊥
some_not_none x e = cc
