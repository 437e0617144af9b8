-- Facts of each of several output lines.
use Rattle.std.proofs.Common.{◌≡◌, ◌⊎◌, inl, inr, ℕ, ◌+◌, ◌<◌, ◌≤◌, List, [], ◌∷◌, ◌++◌, length, refl, ap, arith, Some, slice_get}
use Rattle.std.specs.List.{AllByRecursion}
use Rattle.khepri_types.specs.declared.out.EntryText.{EntryText}
use Rattle.khepri_types.specs.declared.out.OutLine.{OutLine}
use Rattle.khepri_types.specs.declared.out.OutLine.TheVariants as out
use Rattle.khepri_types.specs.Exec.{State, state_of}
use Rattle.khepri_types.specs.History.{history, run_from}
use Rattle.khepri_types.specs.Legal.{named, entered, settled, Nowhere, AtEach}

pub All-append : {X : Type 0} (P : X → Type 0) (xs ys : List X) → AllByRecursion P xs → AllByRecursion P ys → AllByRecursion P (xs ++ ys)
All-append P [] ys h g = g
All-append P (x ∷ xs) ys h g = (h.0, All-append P xs ys h.1 g)

pub All-weaker : {X : Type 0} (P Q : X → Type 0) → ((x : X) → P x → Q x) → (xs : List X) → AllByRecursion P xs → AllByRecursion Q xs
All-weaker P Q w [] h = tt
All-weaker P Q w (x ∷ xs) h = (w x h.0, All-weaker P Q w xs h.1)

-- what holds of each holds of one
pub All-at : {X : Type 0} (P : X → Type 0) (xs : List X) (y : X) (ys : List X) → AllByRecursion P (xs ++ y ∷ ys) → P y
All-at P [] y ys h = h.0
All-at P (x ∷ xs) y ys h = All-at P xs y ys h.1

-- what holds of each whatever stands around it
pub AtEach-all : (P : OutLine → Type 0) (before lines : List OutLine) → AtEach (λ b x a. P x) before lines → AllByRecursion P lines
AtEach-all P before [] h = tt
AtEach-all P before (x ∷ lines) h = (h.0, AtEach-all P (before ++ x ∷ []) lines h.1)

-- ---- which input line a line names

pub entered-is : (x : OutLine) → (entered x ≡ 0) ⊎ (entered x ≡ named x)
entered-is (out.Entry n l t) = inr refl
entered-is x = inl refl

pub settled-named : (x : OutLine) → settled x ≤ named x
settled-named (out.Entry n l t) = omega arith
settled-named (out.Lost l) = omega arith
settled-named (out.Read l n rows) = omega arith
settled-named (out.Refused l r) = omega arith
settled-named x = omega arith

entered_low : (l : ℕ) (x : OutLine) → named x < l → entered x ≡ l → ⊥
entered_low l x lt e = elim (entered-is x) as (λ _. ⊥) [ inl z ↦ omega arith | inr is ↦ omega arith ]

entered_high : (l : ℕ) (x : OutLine) → 0 < l → l < named x → entered x ≡ l → ⊥
entered_high l x pos lt e = elim (entered-is x) as (λ _. ⊥) [ inl z ↦ omega arith | inr is ↦ omega arith ]

settled_low : (l : ℕ) (x : OutLine) → named x < l → settled x ≡ l → ⊥
settled_low l x lt e = omega (arith, settled-named x)

abbrev pub NamesBelow : ℕ → OutLine → Type 0
NamesBelow l x = named x < l

abbrev pub NamesFrom : ℕ → OutLine → Type 0
NamesFrom l x = l ≤ named x

-- no line with an earlier name enters or settles l
pub entered-before : (l : ℕ) (lines : List OutLine) → AllByRecursion (NamesBelow l) lines → Nowhere entered l lines
entered-before l lines h = All-weaker (NamesBelow l) (λ x. entered x ≡ l → ⊥) (entered_low l) lines h

pub settled-before : (l : ℕ) (lines : List OutLine) → AllByRecursion (NamesBelow l) lines → Nowhere settled l lines
settled-before l lines h = All-weaker (NamesBelow l) (λ x. settled x ≡ l → ⊥) (settled_low l) lines h

-- nor one with a later
pub entered-after : (l : ℕ) (lines : List OutLine) → 0 < l → AllByRecursion (NamesFrom (l + 1)) lines → Nowhere entered l lines
entered-after l lines pos h = All-weaker (NamesFrom (l + 1)) (λ x. entered x ≡ l → ⊥) (λ x le. entered_high l x pos (omega arith)) lines h

-- ---- the history

pub history-append : (a b : List OutLine) → history (a ++ b) ≡ history a ++ history b
history-append [] b = refl
history-append (out.Entry n l t ∷ a) b = ap (λ (es : List EntryText). t ∷ es) (history-append a b)
history-append (x ∷ a) b = history-append a b

pub run_from-append : (es fs : List EntryText) (S : State) → run_from S (es ++ fs) ≡ run_from (run_from S es) fs
run_from-append [] fs S = refl
run_from-append (e ∷ es) fs S = run_from-append es fs (state_of S e)

-- the element behind a list
pub slice_get-behind : {X : Type 0} (xs : List X) (y : X) (ys : List X) → slice_get (xs ++ y ∷ ys) (length xs) ≡ Some y
slice_get-behind [] y ys = refl
slice_get-behind (x ∷ xs) y ys = slice_get-behind xs y ys
