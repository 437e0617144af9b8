-- One call of a reader of lines, piece by piece.
use Rattle.std.proofs.Common.{◌≡◌, inl, inr, ℕ, zero, suc, ◌+◌, ◌-◌, ◌<◌, ◌≤◌, Bool, true, false, List, [], ◌∷◌, ◌++◌, length, take, refl, sym, ap, subst, ◌∙◌, append_assoc, arith, Option, Some, None, Ok, Err}
use Rattle.std.proofs.lemmas.List.{append-nil, length-append}
use Rattle.line_io.specs.Lines.{NoLf, lines, last_line, whole_lines}
use Rattle.line_io.specs.Shown.{shown_lines, given_next}
use Rattle.line_io.specs.Streams.{Rose}
use Rattle.line_io.specs.Reading.{Reading}
use Rattle.line_io.specs.Ahead.{GoesOn, Reads, bytes_before, TakesAll, Step, HasEnd, HasCause, Call, NextTaken}
use Rattle.line_io.specs.Pieces.{Found, FoundLine, Came, Ended, Taken}
use Rattle.line_io.specs.declared.next.Next.{Next}
use Rattle.line_io.specs.declared.next.Next.TheVariants.{Line, TooLong, End}
use Rattle.line_io.specs.declared.next.LineFault.{LineFault}
use Rattle.line_io.specs.declared.next.LineFault.TheVariants.{ReadFault, InputLong, NoMemory}
use Rattle.line_io.proofs.LineLemmas.{lines_from-end, lines-none, shown_lines-none}
use Rattle.line_io.proofs.Reader.{goes-same, goes-more, goes-then}
use Rattle.line_io.proofs.Pieces.{take-nil, takes_none}

-- a front of two lists is one of the first and one of the second
pub take_both : (k : ℕ) (xs ys : List ℕ) → take k (xs ++ ys) ≡ take k xs ++ take (k - length xs) ys
take_both k [] ys = ap (λ (n : ℕ). take n ys) (omega arith) ∙ sym (ap (λ (z : List ℕ). z ++ take (k - 0) ys) (take-nil k))
take_both zero (x ∷ xs) ys = let none : 0 - length (x ∷ xs) ≡ 0 = omega arith in sym (ap (λ (n : ℕ). take n ys) none)
take_both (suc k) (x ∷ xs) ys = let less : k - length xs ≡ suc k - length (x ∷ xs) = omega arith in ap (λ (z : List ℕ). x ∷ z) (take_both k xs ys ∙ ap (λ (n : ℕ). take k xs ++ take n ys) less)

-- these bytes are taken and then those
pub TakesAll-then : (left mid left' : Option (List ℕ)) (xs ys : List ℕ) (ended : Bool) → TakesAll left mid xs false → TakesAll mid left' ys ended → TakesAll left left' (xs ++ ys) ended
TakesAll-then None mid left' xs ys ended p q = subst (λ (m : Option (List ℕ)). TakesAll m left' ys ended) p q
TakesAll-then (Some left) mid left' xs ys ended p q =
    let r : TakesAll (Some p.0) left' ys ended = subst (λ (m : Option (List ℕ)). TakesAll m left' ys ended) p.1 q in
    (r.0, r.1, p.2 ∙ (ap (λ (z : List ℕ). xs ++ z) r.2 ∙ sym (append_assoc xs ys r.0)), r.3)

-- nothing has come yet
pub Came-start : (old : Reading) (left : Option (List ℕ)) → old.ended ≡ false → Came old old left left []
Came-start old left going =
    let none : old.unread ++ take (old.room - 1) [] ≡ old.unread = ap (λ (z : List ℕ). old.unread ++ z) (take-nil (old.room - 1)) ∙ append-nil old.unread in
    record {
      taken = takes_none left left refl;
      limit = refl;
      going = going;
      spent = omega arith;
      goes = subst (λ (z : List ℕ). GoesOn old.limit z [] old.unread) (sym none) (goes-same old.limit old.unread);
      fewer = omega arith;
    }

-- of what came in two turns
bytes_before-then : (old mid : Reading) (xs ys : List ℕ) → length xs + mid.room ≡ old.room → bytes_before old (xs ++ ys) ≡ bytes_before old xs ++ take (mid.room - 1) ys
bytes_before-then old mid xs ys spent =
    let left : old.room - 1 - length xs ≡ mid.room - 1 = omega arith in
    ap (λ (z : List ℕ). old.unread ++ z) (take_both (old.room - 1) xs ys ∙ ap (λ (n : ℕ). take (old.room - 1) xs ++ take n ys) left) ∙ sym (append_assoc old.unread (take (old.room - 1) xs) (take (mid.room - 1) ys))

-- a reader that has gone on gives what it would have given
goes_on : (old mid : Reading) (left left' : Option (List ℕ)) (xs ys : List ℕ) (gave : List (Option (List ℕ))) (unread : List ℕ)
    → Came old mid left left' xs → GoesOn mid.limit (bytes_before mid ys) gave unread → GoesOn old.limit (bytes_before old (xs ++ ys)) gave unread
goes_on old mid left left' xs ys gave unread came goes =
    let more : GoesOn old.limit (bytes_before old xs ++ take (mid.room - 1) ys) [] (bytes_before mid ys) = goes-more old.limit (bytes_before old xs) [] mid.unread (take (mid.room - 1) ys) came.goes in
    let then : GoesOn old.limit (bytes_before mid ys) gave unread = subst (λ (n : ℕ). GoesOn n (bytes_before mid ys) gave unread) came.limit goes in
    subst (λ (z : List ℕ). GoesOn old.limit z gave unread) (sym (bytes_before-then old mid xs ys came.spent)) (goes-then old.limit (bytes_before old xs ++ take (mid.room - 1) ys) [] (bytes_before mid ys) gave unread more then)

-- one more piece has come
pub Came-then : (old mid new : Reading) (left between left' : Option (List ℕ)) (xs ys : List ℕ) → Came old mid left between xs → Came mid new between left' ys → Came old new left left' (xs ++ ys)
Came-then old mid new left between left' xs ys p q = record {
  taken = TakesAll-then left between left' xs ys false p.taken q.taken;
  limit = q.limit ∙ p.limit;
  going = q.going;
  spent = omega (arith, p.spent, q.spent, length-append xs ys);
  goes = goes_on old mid left between xs ys [] new.unread p q.goes;
  fewer = omega (arith, p.fewer, q.fewer);
}

-- ---- what a call ends with

false_not_true : (b : Bool) → b ≡ false → b ≡ true → ⊥
false_not_true b f t = let e : false ≡ true = sym f ∙ t in cc

-- it gives nothing
pub stops : (old new : Reading) (left left' : Option (List ℕ)) (bytes : List ℕ) → old.ended ≡ false → Came old new left left' bytes → Step old new left left' [] bytes
stops old new left left' bytes going came = record {
  taken = λ e. subst (TakesAll left left' bytes) (sym came.going) came.taken;
  over = λ t. absurd (false_not_true old.ended going t);
  limit = came.limit;
  spent = came.spent;
  reads = subst (Reads old.limit (bytes_before old bytes) [] new.unread) (sym came.going) came.goes;
  fewer = omega (arith, came.fewer);
}

-- the end was met in an earlier call
pub over : (old : Reading) (left : Option (List ℕ)) (before now : ℕ) → old.ended ≡ true → old.unread ≡ [] → 0 < old.room → Call old old left left before now (Ok End)
over old left before now ended none room =
    let nothing : bytes_before old [] ≡ [] = ap (λ (z : List ℕ). z ++ take (old.room - 1) []) none ∙ take-nil (old.room - 1) in
    let all : shown_lines old.limit (lines (bytes_before old [])) ≡ [] = ap (λ (z : List ℕ). shown_lines old.limit (lines z)) nothing ∙ ap (shown_lines old.limit) (lines_from-end last_line []) in
    record {
      bytes = [];
      step = record {
        taken = λ e. absurd (false_not_true old.ended e ended);
        over = λ e. (refl, refl, refl, refl);
        limit = refl;
        spent = omega arith;
        reads = subst (Reads old.limit (bytes_before old []) [] old.unread) (sym ended) (all, none);
        fewer = omega arith;
      };
      cause = (ended, room, nothing);
    }

gave_some : (limit : ℕ) (bytes : List ℕ) (gave : List (Option (List ℕ))) (unread : List ℕ) → GoesOn limit bytes gave unread → length gave ≡ 1 → whole_lines bytes ≡ [] → ⊥
gave_some limit bytes gave unread goes one none =
    let e : shown_lines limit (whole_lines (bytes ++ [])) ≡ gave ++ shown_lines limit (whole_lines (unread ++ [])) = goes.whole [] in
    let z : shown_lines limit (whole_lines (bytes ++ [])) ≡ [] = ap (λ (x : List ℕ). shown_lines limit (whole_lines x)) (append-nil bytes) ∙ ap (shown_lines limit) none in
    let some : length (gave ++ shown_lines limit (whole_lines (unread ++ []))) ≡ 0 = ap length (sym e ∙ z) in
    absurd (omega (arith, length-append gave (shown_lines limit (whole_lines (unread ++ [])))))

line_cause : (next : Next) (bytes : List ℕ) (new : Reading) (before now : ℕ) → length (given_next next) ≡ 1 → HasEnd bytes new → HasCause (Ok next) bytes new before now
line_cause (Line v) bytes new before now one h = h
line_cause TooLong bytes new before now one h = h
line_cause End bytes new before now one h = absurd (omega arith)

-- it gives a line that an LF ended
pub gives_line : (old mid new : Reading) (left left' : Option (List ℕ)) (bytes : List ℕ) (before now : ℕ) (next : Next)
    → old.ended ≡ false → Came old mid left left' bytes → FoundLine mid new next → Call old new left left' before now (Ok next)
gives_line old mid new left left' bytes before now next going came found =
    let still : new.ended ≡ false = ap (λ (r : Reading). r.ended) found.stays ∙ came.going in
    let room : new.room ≡ mid.room = ap (λ (r : Reading). r.room) found.stays in
    let limit : new.limit ≡ mid.limit = ap (λ (r : Reading). r.limit) found.stays in
    let then : GoesOn old.limit mid.unread (given_next next) new.unread = subst (λ (n : ℕ). GoesOn n mid.unread (given_next next) new.unread) came.limit found.goes in
    let goes : GoesOn old.limit (bytes_before old bytes) (given_next next) new.unread = goes-then old.limit (bytes_before old bytes) [] mid.unread (given_next next) new.unread came.goes then in
    record {
      bytes = bytes;
      step = record {
        taken = λ e. subst (TakesAll left left' bytes) (sym still) came.taken;
        over = λ t. absurd (false_not_true old.ended going t);
        limit = limit ∙ came.limit;
        spent = omega (arith, came.spent, room);
        reads = subst (Reads old.limit (bytes_before old bytes) (given_next next) new.unread) (sym still) goes;
        fewer = omega (arith, found.one, found.fewer, came.fewer, room);
      };
      cause = line_cause next (bytes_before old bytes) new before now found.one (inl (gave_some old.limit (bytes_before old bytes) (given_next next) new.unread goes found.one));
    }

-- it gives one without the source
gives_taken : (old new : Reading) (next : Next) → old.ended ≡ false → FoundLine old new next → NextTaken old (Some next) new
gives_taken old new next going found = (found.one, λ left n. gives_line old old new left left [] n n next going (Came-start old left going) found)

pub takes_next : (old new : Reading) (found : Option Next) → old.ended ≡ false → Found old found new → NextTaken old found new
takes_next old new None going found = found
takes_next old new (Some next) going found = gives_taken old new next going found

-- the budget was passed
pub passes : (old new : Reading) (left left' : Option (List ℕ)) (bytes : List ℕ) (before now : ℕ) → old.ended ≡ false → Came old new left left' bytes → NoLf new.unread → new.room ≡ 0
    → Call old new left left' before now (Err InputLong)
passes old new left left' bytes before now going came free room = record { bytes = bytes; step = stops old new left left' bytes going came; cause = (came.going, room, free) }

-- there is no memory
pub lacks : (old new : Reading) (left left' : Option (List ℕ)) (bytes : List ℕ) (before now : ℕ) → old.ended ≡ false → Came old new left left' bytes → Call old new left left' before now (Err NoMemory)
lacks old new left left' bytes before now going came = record { bytes = bytes; step = stops old new left left' bytes going came; cause = came.going }

-- the source failed, or there is no memory for a piece
pub fails : (old mid new : Reading) (left between left' : Option (List ℕ)) (bytes : List ℕ) (first before now : ℕ) (fault : LineFault)
    → old.ended ≡ false → 0 < mid.room → first ≤ before → Came old mid left between bytes → Taken mid new between left' before now (Err fault) → Call old new left left' first now (Err fault)
fails old mid new left between left' bytes first before now ReadFault going room earlier came t =
    let whole : Came old new left left' (bytes ++ []) = Came-then old mid new left between left' bytes [] came t.3 in
    let rose : Rose first now = elim t.0 [ inl lt ↦ inl (omega arith) | inr le ↦ inr le ] in
    record { bytes = bytes ++ []; step = stops old new left left' (bytes ++ []) going whole; cause = (rose, whole.going, omega (arith, t.2), t.1) }
fails old mid new left between left' bytes first before now InputLong going room earlier came t = absurd t
fails old mid new left between left' bytes first before now NoMemory going room earlier came t = lacks old new left left' (bytes ++ []) first now going (Came-then old mid new left between left' bytes [] came t)

-- ---- the last line

one_at_most : (next : Next) → length (given_next next) ≤ 1
one_at_most (Line v) = omega arith
one_at_most TooLong = omega arith
one_at_most End = omega arith

not_none : (limit : ℕ) (bytes : List ℕ) (s : Option (List ℕ)) → shown_lines limit (lines bytes) ≡ s ∷ [] → bytes ≡ [] → ⊥
not_none limit bytes s all none =
    let e : s ∷ [] ≡ [] = sym all ∙ (ap (λ (z : List ℕ). shown_lines limit (lines z)) none ∙ ap (shown_lines limit) (lines_from-end last_line [])) in
    cc

end_cause : (next : Next) (limit : ℕ) (bytes : List ℕ) (new : Reading) (before now : ℕ) → new.ended ≡ true → 0 < new.room → shown_lines limit (lines bytes) ≡ given_next next → HasCause (Ok next) bytes new before now
end_cause (Line v) limit bytes new before now ended room all = inr (ended, room, λ none. not_none limit bytes (Some v.items) all none)
end_cause TooLong limit bytes new before now ended room all = inr (ended, room, λ none. not_none limit bytes None all none)
end_cause End limit bytes new before now ended room all = (ended, room, lines-none bytes (shown_lines-none limit (lines bytes) all))

-- a line has bytes
last_fewer : (limit : ℕ) (unread : List ℕ) (next : Next) → given_next next ≡ shown_lines limit (lines unread) → length (given_next next) ≤ length unread
last_fewer limit [] next e = omega (arith, ap length (e ∙ ap (shown_lines limit) (lines_from-end last_line [])))
last_fewer limit (x ∷ unread) next e = omega (arith, one_at_most next)

-- it gives the last line, or has none to give
pub ends : (old mid new : Reading) (left between left' : Option (List ℕ)) (bytes : List ℕ) (before now : ℕ) (next : Next)
    → old.ended ≡ false → 0 < mid.room → Came old mid left between bytes → Ended mid new between left' next → Call old new left left' before now (Ok next)
ends old mid new left between left' bytes before now next going room came end =
    let ended : new.ended ≡ true = ap (λ (r : Reading). r.ended) end.stays in
    let none : new.unread ≡ [] = ap (λ (r : Reading). r.unread) end.stays in
    let same : new.room ≡ mid.room = ap (λ (r : Reading). r.room) end.stays in
    let limit : new.limit ≡ mid.limit = ap (λ (r : Reading). r.limit) end.stays in
    let bare : bytes ++ [] ≡ bytes = append-nil bytes in
    let goes : shown_lines old.limit (lines (bytes_before old bytes ++ [])) ≡ shown_lines old.limit (lines (mid.unread ++ [])) = came.goes.all [] in
    let all : shown_lines old.limit (lines (bytes_before old (bytes ++ []))) ≡ given_next next =
    ap (λ (z : List ℕ). shown_lines old.limit (lines (bytes_before old z))) bare ∙ (sym (ap (λ (z : List ℕ). shown_lines old.limit (lines z)) (append-nil (bytes_before old bytes)))
    ∙ (goes ∙ (ap (λ (z : List ℕ). shown_lines old.limit (lines z)) (append-nil mid.unread) ∙ (ap (λ (n : ℕ). shown_lines n (lines mid.unread)) (sym came.limit) ∙ sym end.last)))) in
    record {
      bytes = bytes ++ [];
      step = record {
        taken = λ e. subst (TakesAll left left' (bytes ++ [])) (sym ended) (TakesAll-then left between left' bytes [] true came.taken end.taken);
        over = λ t. absurd (false_not_true old.ended going t);
        limit = limit ∙ came.limit;
        spent = omega (arith, came.spent, same, length-append bytes []);
        reads = subst (Reads old.limit (bytes_before old (bytes ++ [])) (given_next next) new.unread) (sym ended) (all, none);
        fewer = omega (arith, last_fewer mid.limit mid.unread next end.last, ap length none, came.fewer, same);
      };
      cause = end_cause next old.limit (bytes_before old (bytes ++ [])) new before now ended (omega (arith, same)) all;
    }
