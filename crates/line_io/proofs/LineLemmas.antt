-- How lines are cut from bytes.
use Rattle.std.proofs.Common.{◌≡◌, ℕ, zero, suc, ◌+◌, ◌-◌, ◌<◌, ◌≤◌, Bool, true, false, cond, eqb, List, [], ◌∷◌, ◌++◌, length, get_or, take, refl, sym, ap, ◌∙◌, append_assoc, arith, inl, inr, ◌⊎◌, eq-eqb, Option, Some, None}
use Rattle.std.proofs.lemmas.List.{append-nil, take_all, length-take, take-append-le}
use Rattle.std.proofs.Math.Seq.{take-append-add}
use Rattle.std.proofs.lemmas.Bool.{cases_lt, eqb-true, lt-ltb, le-ltb}
use Rattle.line_io.specs.Lines.{NoLf, lines, lines_from, without_cr, last_line}
use Rattle.line_io.specs.Shown.{shown, shown_lines}

-- ---- no LF

pub NoLf-append : (a b : List ℕ) → NoLf a → NoLf b → NoLf (a ++ b)
NoLf-append [] b h k = k
NoLf-append (x ∷ a) b h k = (h.0, NoLf-append a b h.1 k)

pub NoLf-front : (a b : List ℕ) → NoLf (a ++ b) → NoLf a
NoLf-front [] b h = tt
NoLf-front (x ∷ a) b h = (h.0, NoLf-front a b h.1)

pub NoLf-back : (a b : List ℕ) → NoLf (a ++ b) → NoLf b
NoLf-back [] b h = h
NoLf-back (x ∷ a) b h = NoLf-back a b h.1

pub NoLf-take : (n : ℕ) (a : List ℕ) → NoLf a → NoLf (take n a)
NoLf-take zero a h = tt
NoLf-take (suc n) [] h = tt
NoLf-take (suc n) (x ∷ a) h = (h.0, NoLf-take n a h.1)

-- ---- lines

-- bytes without LF go onto the first line
pub lines_from-more : (last : List ℕ → List (List ℕ)) (begun a rest : List ℕ) → NoLf a → lines_from last begun (a ++ rest) ≡ lines_from last (begun ++ a) rest
unfolding lines_from
lines_from-more last begun [] rest h = ap (λ (x : List ℕ). lines_from last x rest) (sym (append-nil begun))
lines_from-more last begun (b ∷ a) rest h = rw h.0 (lines_from-more last (begun ++ b ∷ []) a rest h.1 ∙ ap (λ (x : List ℕ). lines_from last x rest) (append_assoc begun (b ∷ []) a))

ends : (last : List ℕ → List (List ℕ)) (x rest : List ℕ) → lines_from last x (10 ∷ rest) ≡ without_cr x ∷ lines_from last [] rest
unfolding lines_from
ends last x rest = refl

-- an LF ends it
pub lines_from-line : (last : List ℕ → List (List ℕ)) (begun a rest : List ℕ) → NoLf a → lines_from last begun (a ++ 10 ∷ rest) ≡ without_cr (begun ++ a) ∷ lines_from last [] rest
lines_from-line last begun a rest h = lines_from-more last begun a (10 ∷ rest) h ∙ ends last (begun ++ a) rest

-- nothing follows
pub lines_from-end : (last : List ℕ → List (List ℕ)) (x : List ℕ) → lines_from last x [] ≡ last x
unfolding lines_from
lines_from-end last x = refl

-- bytes without LF alone
pub lines_from-alone : (last : List ℕ → List (List ℕ)) (a : List ℕ) → NoLf a → lines_from last [] a ≡ last a
lines_from-alone last a h = ap (λ (x : List ℕ). lines_from last [] x) (sym (append-nil a)) ∙ (lines_from-more last [] a [] h ∙ lines_from-end last a)

-- a line that has begun does not vanish
begun-stays : (x : ℕ) (begun rest : List ℕ) → lines_from last_line (x ∷ begun) rest ≡ [] → ⊥
unfolding lines_from
begun-stays x begun [] = λ e. cc
begun-stays x begun (b ∷ rest) =
    elim (eqb b 10) as (λ (v : Bool). cond v (without_cr (x ∷ begun) ∷ lines_from last_line [] rest) (lines_from last_line ((x ∷ begun) ++ b ∷ []) rest) ≡ [] → ⊥) [
      | true ↦ λ e. cc
      | false ↦ begun-stays x (begun ++ b ∷ []) rest
    ]

-- where there is no line there are no bytes
pub lines-none : (bytes : List ℕ) → lines bytes ≡ [] → bytes ≡ []
unfolding lines_from
lines-none [] = λ e. refl
lines-none (b ∷ rest) =
    elim (eqb b 10) as (λ (v : Bool). cond v (without_cr [] ∷ lines_from last_line [] rest) (lines_from last_line (b ∷ []) rest) ≡ [] → b ∷ rest ≡ []) [
      | true ↦ λ e. cc
      | false ↦ λ e. absurd (begun-stays b [] rest e)
    ]

pub shown_lines-none : (limit : ℕ) (ls : List (List ℕ)) → shown_lines limit ls ≡ [] → ls ≡ []
shown_lines-none limit [] e = refl
shown_lines-none limit (l ∷ ls) e = cc

-- ---- a CR at the end

pub without_cr-long : (a : List ℕ) → length a ≤ length (without_cr a) + 1
unfolding without_cr
without_cr-long [] = omega arith
without_cr-long (x ∷ []) = elim (eqb x 13) as (λ v. length (x ∷ []) ≤ length (cond v [] (x ∷ [])) + 1) [ true ↦ omega arith | false ↦ omega arith ]
without_cr-long (x ∷ y ∷ a) = omega (arith, without_cr-long (y ∷ a))

without_cr-one : (x : ℕ) → eqb x 13 ≡ true → without_cr (x ∷ []) ≡ []
unfolding without_cr
without_cr-one x e = rw e refl

without_cr-keeps : (x : ℕ) → eqb x 13 ≡ false → without_cr (x ∷ []) ≡ x ∷ []
unfolding without_cr
without_cr-keeps x e = rw e refl

pub without_cr-cut : (a : List ℕ) (n : ℕ) → length a ≡ suc n → get_or a n 0 ≡ 13 → take n a ≡ without_cr a
unfolding without_cr
without_cr-cut [] n l e = absurd (omega arith)
without_cr-cut (x ∷ []) zero l e = sym (without_cr-one x (eq-eqb x 13 e))
without_cr-cut (x ∷ []) (suc n) l e = absurd (omega arith)
without_cr-cut (x ∷ y ∷ a) zero l e = absurd (omega arith)
without_cr-cut (x ∷ y ∷ a) (suc n) l e = ap (λ (t : List ℕ). x ∷ t) (without_cr-cut (y ∷ a) n (omega arith) e)

pub without_cr-same : (a : List ℕ) (n : ℕ) → length a ≡ suc n → (get_or a n 0 ≡ 13 → ⊥) → a ≡ without_cr a
unfolding without_cr
without_cr-same [] n l h = refl
without_cr-same (x ∷ []) zero l h =
    elim (eqb x 13) as (λ v. eqb x 13 ≡ v → x ∷ [] ≡ without_cr (x ∷ [])) [
      | true ↦ λ e. absurd (h (eqb-true _ _ e))
      | false ↦ λ e. sym (without_cr-keeps x e)
    ] refl
without_cr-same (x ∷ []) (suc n) l h = absurd (omega arith)
without_cr-same (x ∷ y ∷ a) zero l h = absurd (omega arith)
without_cr-same (x ∷ y ∷ a) (suc n) l h = ap (λ (t : List ℕ). x ∷ t) (without_cr-same (y ∷ a) n (omega arith) h)

pub without_cr-none : (a : List ℕ) → length a ≡ 0 → a ≡ without_cr a
unfolding without_cr
without_cr-none [] l = refl
without_cr-none (x ∷ a) l = absurd (omega arith)

-- ---- what is given of a line

pub shown-long : (limit : ℕ) (line : List ℕ) → limit < length line → shown limit line ≡ None
unfolding shown
shown-long limit line lt = rw (lt-ltb limit (length line) lt) refl

pub shown-short : (limit : ℕ) (line : List ℕ) → length line ≤ limit → shown limit line ≡ Some line
unfolding shown
shown-short limit line le = rw (le-ltb limit (length line) le) refl

-- ---- the front of a line that is kept

-- bytes with the same front are the same, or go past it
pub same_or_long : (m : ℕ) (a b : List ℕ) → take m a ≡ take m b → (a ≡ b) ⊎ ((m ≤ length a) × (m ≤ length b))
same_or_long m a b e =
    elim (cases_lt (length a) m) [
      | inl lt ↦
          let fits : length b ≤ m = omega (arith, length-take m a, length-take m b, ap length e) in
          inl (sym (take_all m a (omega arith)) ∙ (e ∙ take_all m b fits))
      | inr le ↦ inr (le, omega (arith, length-take m a, length-take m b, ap length e))
    ]

pub same_front-more : (m : ℕ) (a b c : List ℕ) → take m a ≡ take m b → take m (a ++ c) ≡ take m (b ++ c)
same_front-more m a b c e =
    elim (same_or_long m a b e) [
      | inl same ↦ ap (λ (x : List ℕ). take m (x ++ c)) same
      | inr long ↦ take-append-le m a c long.0 ∙ (e ∙ sym (take-append-le m b c long.1))
    ]

pub take_twice : (m : ℕ) (a : List ℕ) → take m (take m a) ≡ take m a
take_twice m a = take_all m (take m a) (omega (arith, length-take m a))

-- a front of two bytes more than the limit decides
pub shown-same_front : (limit : ℕ) (a b : List ℕ) → take (limit + 2) a ≡ take (limit + 2) b → shown limit a ≡ shown limit b
shown-same_front limit a b e =
    elim (same_or_long (limit + 2) a b e) [
      | inl same ↦ ap (shown limit) same
      | inr long ↦ shown-long limit a (omega arith) ∙ sym (shown-long limit b (omega arith))
    ]

pub shown-without_cr : (limit : ℕ) (a b : List ℕ) → take (limit + 2) a ≡ take (limit + 2) b → shown limit (without_cr a) ≡ shown limit (without_cr b)
shown-without_cr limit a b e =
    elim (same_or_long (limit + 2) a b e) [
      | inl same ↦ ap (λ (x : List ℕ). shown limit (without_cr x)) same
      | inr long ↦ shown-long limit (without_cr a) (omega (arith, without_cr-long a)) ∙ sym (shown-long limit (without_cr b) (omega (arith, without_cr-long b)))
    ]

last_line-some : (a : List ℕ) → 0 < length a → last_line a ≡ a ∷ []
last_line-some [] lt = absurd (omega arith)
last_line-some (x ∷ a) lt = refl

pub shown-some : (limit : ℕ) (a : List ℕ) → 0 < length a → shown limit a ∷ [] ≡ shown_lines limit (last_line a)
shown-some limit a lt = sym (ap (shown_lines limit) (last_line-some a lt))

pub shown-last_line : (limit : ℕ) (a b : List ℕ) → take (limit + 2) a ≡ take (limit + 2) b → shown_lines limit (last_line a) ≡ shown_lines limit (last_line b)
shown-last_line limit a b e =
    elim (same_or_long (limit + 2) a b e) [
      | inl same ↦ ap (λ (x : List ℕ). shown_lines limit (last_line x)) same
      | inr long ↦ sym (shown-some limit a (omega arith)) ∙ (ap (λ (o : Option (List ℕ)). o ∷ []) (shown-same_front limit a b e) ∙ shown-some limit b (omega arith))
    ]

-- what is made of the bytes after the last LF is given alike where their fronts are
abbrev pub EndsAlike : ℕ → (List ℕ → List (List ℕ)) → Type 0
EndsAlike limit last = (a b : List ℕ) → take (limit + 2) a ≡ take (limit + 2) b → shown_lines limit (last a) ≡ shown_lines limit (last b)

-- bytes that begin with the same front of a line give the same, whatever follows
pub same_front : (limit : ℕ) (last : List ℕ → List (List ℕ)) → EndsAlike limit last → (rest a b : List ℕ) → take (limit + 2) a ≡ take (limit + 2) b
    → shown_lines limit (lines_from last a rest) ≡ shown_lines limit (lines_from last b rest)
unfolding lines_from
same_front limit last alike [] a b e = alike a b e
same_front limit last alike (x ∷ rest) a b e =
    elim (eqb x 10) as (λ (v : Bool). shown_lines limit (cond v (without_cr a ∷ lines_from last [] rest) (lines_from last (a ++ x ∷ []) rest)) ≡ shown_lines limit (cond v (without_cr b ∷ lines_from last [] rest) (lines_from last (b ++ x ∷ []) rest))) [
      | true ↦ ap (λ (o : Option (List ℕ)). o ∷ shown_lines limit (lines_from last [] rest)) (shown-without_cr limit a b e)
      | false ↦ same_front limit last alike rest (a ++ x ∷ []) (b ++ x ∷ []) (same_front-more (limit + 2) a b (x ∷ []) e)
    ]

-- ---- more of a line is kept

take-append_over : (m : ℕ) (a b : List ℕ) → length a ≤ m → take m (a ++ b) ≡ a ++ take (m - length a) b
take-append_over m a b le = let e : m ≡ length a + (m - length a) = omega arith in ap (λ (k : ℕ). take k (a ++ b)) e ∙ take-append-add a b (m - length a)

-- as many bytes as there is room for, or all of them
pub kept_is : (m n : ℕ) (a b : List ℕ) → length a ≤ m → ((n ≡ length b) × (length a + length b ≤ m)) ⊎ ((n ≡ m - length a) × (m - length a ≤ length b)) → a ++ take n b ≡ take m (a ++ b)
kept_is m n a b le (inl h) = sym (take-append_over m a b le ∙ ap (λ (x : List ℕ). a ++ x) (take_all (m - length a) b (omega arith) ∙ sym (take_all n b (omega arith))))
kept_is m n a b le (inr h) = ap (λ (k : ℕ). a ++ take k b) h.0 ∙ sym (take-append_over m a b le)
