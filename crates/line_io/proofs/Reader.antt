-- What a reader of lines gives, and what it goes on from.
use Rattle.std.proofs.Common.{◌≡◌, ℕ, suc, ◌+◌, ◌-◌, ◌<◌, Bool, true, false, eqb, List, [], ◌∷◌, ◌++◌, length, get_or, take, drop, refl, sym, ap, subst, ◌∙◌, append_assoc, drop-cons, add-one, arith, Option, Some, None}
use Rattle.std.proofs.lemmas.List.{length-append, length-take, get_or-take, take-append-drop, drop-take, drop-drop}
use Rattle.std.proofs.lemmas.Bool.{eqb-true}
use Rattle.line_io.specs.Lines.{NoLf, lines_from, without_cr, last_line, no_line}
use Rattle.line_io.specs.Shown.{shown, shown_lines, given_next}
use Rattle.line_io.specs.Reading.{unread_of}
use Rattle.line_io.specs.Ahead.{Continues, GoesOn}
use Rattle.line_io.specs.Pieces.{FoundLine}
use Rattle.line_io.specs.declared.next.Next.{Next}
use Rattle.memchr.specs.Find.{IsFirstByte, is_byte}
use Rattle.line_io.proofs.LineLemmas.{NoLf-append, NoLf-take, lines_from-more, lines_from-line, EndsAlike, same_front, shown-last_line, take_twice}

-- ---- going on

Continues-line : (last : List ℕ → List (List ℕ)) (limit : ℕ) (begun front after : List ℕ) → NoLf begun → NoLf front
    → Continues last limit (begun ++ (front ++ 10 ∷ after)) (shown limit (without_cr (begun ++ front)) ∷ []) after
Continues-line last limit begun front after b f = λ rest.
    let split : (begun ++ (front ++ 10 ∷ after)) ++ rest ≡ (begun ++ front) ++ 10 ∷ (after ++ rest) = simp append_assoc in
    ap (λ (x : List ℕ). shown_lines limit (lines_from last [] x)) split ∙ ap (shown_lines limit) (lines_from-line last [] (begun ++ front) (after ++ rest) (NoLf-append begun front b f))

-- a line that an LF ended is given
pub goes-line : (limit : ℕ) (begun front after : List ℕ) → NoLf begun → NoLf front → GoesOn limit (begun ++ (front ++ 10 ∷ after)) (shown limit (without_cr (begun ++ front)) ∷ []) after
goes-line limit begun front after b f = record {
  all = Continues-line last_line limit begun front after b f;
  whole = Continues-line no_line limit begun front after b f;
}

Continues-kept : (last : List ℕ → List (List ℕ)) (limit : ℕ) (text : List ℕ) → EndsAlike limit last → NoLf text → Continues last limit text [] (take (limit + 2) text)
Continues-kept last limit text alike free = λ rest.
    let kept = take (limit + 2) text in
    ap (shown_lines limit) (lines_from-more last [] text rest free) ∙ (same_front limit last alike rest text kept (sym (take_twice (limit + 2) text)) ∙ sym (ap (shown_lines limit) (lines_from-more last [] kept rest (NoLf-take (limit + 2) text free))))

-- of a line that has begun the front is enough
pub goes-kept : (limit : ℕ) (text : List ℕ) → NoLf text → GoesOn limit text [] (take (limit + 2) text)
goes-kept limit text free = record {
  all = Continues-kept last_line limit text (shown-last_line limit) free;
  whole = Continues-kept no_line limit text (λ a b e. refl) free;
}

Continues-more : (last : List ℕ → List (List ℕ)) (limit : ℕ) (a : List ℕ) (gave : List (Option (List ℕ))) (b c : List ℕ) → Continues last limit a gave b → Continues last limit (a ++ c) gave (b ++ c)
Continues-more last limit a gave b c h = λ rest.
    ap (λ (x : List ℕ). shown_lines limit (lines_from last [] x)) (append_assoc a c rest) ∙ (h (c ++ rest) ∙ ap (λ (x : List ℕ). gave ++ shown_lines limit (lines_from last [] x)) (sym (append_assoc b c rest)))

-- more bytes come
pub goes-more : (limit : ℕ) (a : List ℕ) (gave : List (Option (List ℕ))) (b c : List ℕ) → GoesOn limit a gave b → GoesOn limit (a ++ c) gave (b ++ c)
goes-more limit a gave b c h = record { all = Continues-more last_line limit a gave b c h.all; whole = Continues-more no_line limit a gave b c h.whole }

Continues-then : (last : List ℕ → List (List ℕ)) (limit : ℕ) (a : List ℕ) (gave : List (Option (List ℕ))) (b : List ℕ) (more : List (Option (List ℕ))) (c : List ℕ)
    → Continues last limit a gave b → Continues last limit b more c → Continues last limit a (gave ++ more) c
Continues-then last limit a gave b more c p q = λ rest.
    p rest ∙ (ap (λ (x : List (Option (List ℕ))). gave ++ x) (q rest) ∙ sym (append_assoc gave more (shown_lines limit (lines_from last [] (c ++ rest)))))

-- these lines are given and then those
pub goes-then : (limit : ℕ) (a : List ℕ) (gave : List (Option (List ℕ))) (b : List ℕ) (more : List (Option (List ℕ))) (c : List ℕ) → GoesOn limit a gave b → GoesOn limit b more c → GoesOn limit a (gave ++ more) c
goes-then limit a gave b more c p q = record { all = Continues-then last_line limit a gave b more c p.all q.all; whole = Continues-then no_line limit a gave b more c p.whole q.whole }

-- nothing is given yet
pub goes-same : (limit : ℕ) (a : List ℕ) → GoesOn limit a [] a
goes-same limit a = record { all = λ rest. refl; whole = λ rest. refl }

-- ---- the first LF

not_true : (b : Bool) → (b ≡ true → ⊥) → b ≡ false
not_true true h = absurd (h refl)
not_true false h = refl

NoLf-from_reads : (a : List ℕ) → ((k : ℕ) → k < length a → eqb (get_or a k 0) 10 ≡ false) → NoLf a
NoLf-from_reads [] h = tt
NoLf-from_reads (b ∷ a) h = (h 0 (omega arith), NoLf-from_reads a (λ k lt. h (suc k) (omega arith)))

before : (hay : List ℕ) (i : ℕ) → IsFirstByte (is_byte 10) hay (Some i) → (k : ℕ) → k < length (take i hay) → eqb (get_or (take i hay) k 0) 10 ≡ false
before hay i h k l =
    let below : k < i = omega (arith, length-take i hay) in
    let e : get_or (take i hay) k 0 ≡ get_or hay k 0 = get_or-take i hay k 0 below in
    ap (λ (b : ℕ). eqb b 10) e ∙ not_true (eqb (get_or hay k 0) 10) (h.0.before k (omega arith) below)

split_at_lf : (hay : List ℕ) (i : ℕ) → get_or hay i 0 ≡ 10 → i < length hay → hay ≡ take i hay ++ 10 ∷ drop (i + 1) hay
split_at_lf hay i e lt =
    let cell : drop i hay ≡ 10 ∷ drop (i + 1) hay = drop-cons hay i 0 lt ∙ (ap (λ (b : ℕ). b ∷ drop (suc i) hay) e ∙ ap (λ (m : ℕ). 10 ∷ drop m hay) (sym (add-one i))) in
    sym (take-append-drop i hay) ∙ ap (λ (x : List ℕ). take i hay ++ x) cell

-- what memchr says of the first LF
pub first_lf : (hay : List ℕ) (i : ℕ) → IsFirstByte (is_byte 10) hay (Some i) → NoLf (take i hay) × (hay ≡ take i hay ++ 10 ∷ drop (i + 1) hay) × (i < length hay)
first_lf hay i h = (NoLf-from_reads (take i hay) (before hay i h), split_at_lf hay i (eqb-true _ _ h.1) h.0.high, h.0.high)

pub no_lf : (hay : List ℕ) → IsFirstByte (is_byte 10) hay None → NoLf hay
no_lf hay h = NoLf-from_reads hay (λ k l. not_true _ (h k (omega arith) l))

-- ---- a whole line is given

-- what is behind a line in the piece
behind : (piece : List ℕ) (at end i : ℕ) → i < length (take (end - at) (drop at piece)) → drop (i + 1) (take (end - at) (drop at piece)) ≡ take (end - (at + (i + 1))) (drop (at + (i + 1)) piece)
behind piece at end i lt =
    let e : end - at ≡ (i + 1) + (end - (at + (i + 1))) = omega (arith, length-take (end - at) (drop at piece)) in
    ap (λ (n : ℕ). drop (i + 1) (take n (drop at piece))) e ∙ (drop-take (i + 1) (end - (at + (i + 1))) (drop at piece) ∙ ap (take (end - (at + (i + 1)))) (drop-drop (i + 1) at piece))

pub line_found : (limit room : ℕ) (ended : Bool) (begun piece : List ℕ) (at end i : ℕ) (next : Next) → NoLf begun → IsFirstByte (is_byte 10) (take (end - at) (drop at piece)) (Some i)
    → given_next next ≡ shown limit (without_cr (begun ++ take i (take (end - at) (drop at piece)))) ∷ []
    → FoundLine (record { limit = limit; unread = unread_of begun piece at end; room = room; ended = ended }) (record { limit = limit; unread = unread_of [] piece (at + (i + 1)) end; room = room; ended = ended }) next
line_found limit room ended begun piece at end i next b found gives =
    let rest = take (end - at) (drop at piece) in
    let f = first_lf rest i found in
    let after = take (end - (at + (i + 1))) (drop (at + (i + 1)) piece) in
    let split : rest ≡ take i rest ++ 10 ∷ after = f.1 ∙ ap (λ (x : List ℕ). take i rest ++ 10 ∷ x) (behind piece at end i f.2) in
    let goes : GoesOn limit (begun ++ (take i rest ++ 10 ∷ after)) (shown limit (without_cr (begun ++ take i rest)) ∷ []) after = goes-line limit begun (take i rest) after b f.0 in
    let same : GoesOn limit (begun ++ rest) (shown limit (without_cr (begun ++ take i rest)) ∷ []) after = subst (λ (x : List ℕ). GoesOn limit (begun ++ x) (shown limit (without_cr (begun ++ take i rest)) ∷ []) after) (sym split) goes in
    record {
      stays = refl;
      goes = subst (λ (x : List (Option (List ℕ))). GoesOn limit (begun ++ rest) x after) (sym gives) same;
      one = ap length gives;
      fewer = omega (arith, ap length split, length-append (take i rest) (10 ∷ after), length-append begun rest);
    }
