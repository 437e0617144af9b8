-- What is written, line by line.
use Rattle.std.proofs.Common.{◌≡◌, ℕ, ◌+◌, ◌≤◌, Bool, true, false, cond, ltb, List, [], ◌∷◌, ◌++◌, length, refl, sym, ap, ◌∙◌, append_assoc, arith, inl, inr, Option, Some, None}
use Rattle.std.proofs.lemmas.Bool.{cases_lt, lt-ltb, le-ltb}
use Rattle.std.proofs.lemmas.List.{append-nil}
use Rattle.std.proofs.lemmas.Grind.{flat_map-append}
use Rattle.line_io.specs.Shown.{shown, shown_lines}
use Rattle.khepri_types.specs.declared.limits.TheConstants.{MAX_LINE_BYTES}
use Rattle.khepri_types.specs.declared.command.Line.{Line}
use Rattle.khepri_types.specs.declared.command.Line.TheVariants as line
use Rattle.khepri_types.specs.declared.out.OutLine.{OutLine}
use Rattle.khepri_types.specs.declared.out.OutLine.TheVariants as out
use Rattle.khepri_types.specs.declared.out.Reason.TheVariants.{NoNode}
use Rattle.khepri_types.specs.Exec.{State, opening_state}
use Rattle.khepri_types.specs.Reading.{line_at}
use Rattle.khepri_types.specs.Calm.{answer_command, answer_line, answer, answers, calm, with_lf, text_of}
use Rattle.khepri_types.proofs.After.{position-after}
use Rattle.session_core.specs.Told.{answer_given, told, after, told_text}
use Rattle.session_core.specs.Session.{calm_text}

-- ---- lines as they are given

-- a line has the same answer as what the reader gives of it
pub answer_same : (l : ℕ) (S : State) (bytes : List ℕ) → answer l S bytes ≡ answer_given l S (shown MAX_LINE_BYTES bytes)
unfolding answer shown
answer_same l S bytes =
    elim (cases_lt MAX_LINE_BYTES (length bytes)) [
      | inl lt ↦ rw (lt-ltb MAX_LINE_BYTES (length bytes) lt) refl
      | inr le ↦ rw (le-ltb MAX_LINE_BYTES (length bytes) le) refl
    ]

pub answers_same : (l : ℕ) (S : State) (input : List (List ℕ)) → answers l S input ≡ told l S (shown_lines MAX_LINE_BYTES input)
unfolding answers
answers_same l S [] = refl
answers_same l S (bytes ∷ input) =
    ap (λ (a : List OutLine × State). a.0 ++ answers (l + 1) a.1 input) (answer_same l S bytes) ∙ ap (λ (x : List OutLine). (answer_given l S (shown MAX_LINE_BYTES bytes)).0 ++ x) (answers_same (l + 1) (answer_given l S (shown MAX_LINE_BYTES bytes)).1 input)

-- the text of a calm session is told by what the reader gives
pub calm_told : (input : List (List ℕ)) → calm_text input ≡ told_text (shown_lines MAX_LINE_BYTES input)
unfolding calm told_text
calm_told input = ap (λ (x : List OutLine). text_of (out.Leads 1 1 ∷ x)) (answers_same 1 opening_state input)

-- ---- more lines

pub told-append : (l : ℕ) (S : State) (xs ys : List (Option (List ℕ))) → told l S (xs ++ ys) ≡ told l S xs ++ told (l + length xs) (after l S xs) ys
told-append l S [] ys = ap (λ (k : ℕ). told k S ys) (omega arith)
told-append l S (x ∷ xs) ys =
    let e : (l + 1) + length xs ≡ l + length (x ∷ xs) = omega arith in
    ap (λ (t : List OutLine). (answer_given l S x).0 ++ t) (told-append (l + 1) (answer_given l S x).1 xs ys ∙ ap (λ (k : ℕ). told (l + 1) (answer_given l S x).1 xs ++ told k (after (l + 1) (answer_given l S x).1 xs) ys) e)
    ∙ sym (append_assoc (answer_given l S x).0 (told (l + 1) (answer_given l S x).1 xs) (told (l + length (x ∷ xs)) (after (l + 1) (answer_given l S x).1 xs) ys))

pub after-append : (l : ℕ) (S : State) (xs ys : List (Option (List ℕ))) → after l S (xs ++ ys) ≡ after (l + length xs) (after l S xs) ys
after-append l S [] ys = ap (λ (k : ℕ). after k S ys) (omega arith)
after-append l S (x ∷ xs) ys =
    let e : (l + 1) + length xs ≡ l + length (x ∷ xs) = omega arith in
    after-append (l + 1) (answer_given l S x).1 xs ys ∙ ap (λ (k : ℕ). after k (after (l + 1) (answer_given l S x).1 xs) ys) e

-- what is written of these lines and then of those
pub told_text-more : (l : ℕ) (xs ys : List (Option (List ℕ))) → l ≡ length xs + 1 → told_text (xs ++ ys) ≡ told_text xs ++ text_of (told l (after 1 opening_state xs) ys)
unfolding told_text
told_text-more l xs ys e =
    let n : 1 + length xs ≡ l = omega arith in
    ap (λ (x : List OutLine). text_of (out.Leads 1 1 ∷ x)) (told-append 1 opening_state xs ys ∙ ap (λ (k : ℕ). told 1 opening_state xs ++ told k (after 1 opening_state xs) ys) n)
    ∙ flat_map-append with_lf (out.Leads 1 1 ∷ told 1 opening_state xs) (told l (after 1 opening_state xs) ys)

pub after-more : (l : ℕ) (xs ys : List (Option (List ℕ))) → l ≡ length xs + 1 → after 1 opening_state (xs ++ ys) ≡ after l (after 1 opening_state xs) ys
after-more l xs ys e =
    let n : 1 + length xs ≡ l = omega arith in
    after-append 1 opening_state xs ys ∙ ap (λ (k : ℕ). after k (after 1 opening_state xs) ys) n

-- what is written before any line is given
pub told_text-none : told_text [] ≡ with_lf (out.Leads 1 1)
unfolding told_text
told_text-none = append-nil (with_lf (out.Leads 1 1))

-- ---- positions

position_line : (l : ℕ) (S : State) (x : Option Line) → (answer_line l S x).1.position ≤ S.position + 1
position_line l S None = omega arith
position_line l S (Some (line.Command k c)) =
    elim (ltb 1 k) as (λ (v : Bool). (cond v (out.Refused l NoNode ∷ [], S) (answer_command l S c)).1.position ≤ S.position + 1) [ true ↦ omega arith | false ↦ omega (arith, position-after S c) ]

position_given : (l : ℕ) (S : State) (x : Option (List ℕ)) → (answer_given l S x).1.position ≤ S.position + 1
position_given l S None = omega arith
position_given l S (Some bytes) = position_line l S (line_at bytes)

-- each line adds at most one entry
pub position_after : (l : ℕ) (S : State) (xs : List (Option (List ℕ))) → (after l S xs).position ≤ S.position + length xs
position_after l S [] = omega arith
position_after l S (x ∷ xs) = omega (arith, position_after (l + 1) (answer_given l S x).1 xs, position_given l S x)
