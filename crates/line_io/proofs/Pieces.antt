-- A piece that comes from a source.
use Rattle.std.proofs.Common.{◌≡◌, ℕ, zero, suc, ◌+◌, ◌-◌, ◌<◌, ◌≤◌, Bool, true, false, List, [], ◌++◌, length, take, drop, refl, sym, ap, subst, ◌∙◌, arith, Option, Some, None}
use Rattle.std.proofs.lemmas.List.{length-append, length-take, take-append-drop, take_all, take_at, take-take}
use Rattle.line_io.specs.Lines.{NoLf, last_line}
use Rattle.line_io.specs.Shown.{shown_lines, given_next}
use Rattle.line_io.specs.Streams.{Takes}
use Rattle.line_io.specs.Reading.{IsReader, unread_of, room_of}
use Rattle.line_io.specs.Ahead.{GoesOn, TakesAll}
use Rattle.line_io.specs.Pieces.{Came, Ended}
use Rattle.line_io.specs.declared.next.Next.{Next}
use Rattle.line_io.proofs.LineLemmas.{NoLf-take, lines_from-alone}
use Rattle.line_io.proofs.Reader.{goes-kept, goes-more}

abbrev no_bytes : List ℕ
no_bytes = []

drop-nil : (n : ℕ) → drop n no_bytes ≡ no_bytes
drop-nil zero = refl
drop-nil (suc n) = refl

pub take-nil : (n : ℕ) → take n no_bytes ≡ no_bytes
take-nil zero = refl
take-nil (suc n) = refl

-- ---- what a take says of what is left

pub takes_some : (left left' : Option (List ℕ)) (out : List ℕ) (n : ℕ) → Takes left left' out n → TakesAll left left' (take n out) false
takes_some None left' out n t = t
takes_some (Some left) left' out n t = (drop n left, t.0, sym (ap (λ (x : List ℕ). x ++ drop n left) t.1 ∙ take-append-drop n left), λ e. cc)

pub takes_end : (left left' : Option (List ℕ)) (out : List ℕ) (n : ℕ) → Takes left left' out n → n ≡ 0 → TakesAll left left' [] true
takes_end None left' out n t z = t
takes_end (Some left) left' out n t z =
    let nothing : left ≡ [] = t.3 z in
    let rest : drop n left ≡ [] = ap (drop n) nothing ∙ drop-nil n in
    (drop n left, t.0, nothing ∙ sym rest, λ e. rest)

pub takes_none : (left left' : Option (List ℕ)) → left' ≡ left → TakesAll left left' [] false
takes_none None left' e = e
takes_none (Some left) left' e = (left, e, refl, λ t. cc)

-- ---- a piece comes

pub piece_came : (limit before room : ℕ) (ended : Bool) (unread kept piece bytes : List ℕ) (end : ℕ) (left left' : Option (List ℕ))
    → ended ≡ false → NoLf unread → kept ≡ take (limit + 2) unread → TakesAll left left' bytes false → length bytes + room ≡ before → take (before - 1) bytes ≡ take (end - 0) piece
    → Came (record { limit = limit; unread = unread; room = before; ended = ended }) (record { limit = limit; unread = unread_of kept piece 0 end; room = room; ended = ended }) left left' bytes
piece_came limit before room ended unread kept piece bytes end left left' going free k takes spent within =
    let goes : GoesOn limit (unread ++ take (before - 1) bytes) [] (take (limit + 2) unread ++ take (before - 1) bytes) = goes-more limit unread [] (take (limit + 2) unread) (take (before - 1) bytes) (goes-kept limit unread free) in
    let same : take (limit + 2) unread ++ take (before - 1) bytes ≡ kept ++ take (end - 0) piece = ap (λ (x : List ℕ). x ++ take (before - 1) bytes) (sym k) ∙ ap (λ (x : List ℕ). kept ++ x) within in
    record {
      taken = takes;
      limit = refl;
      going = going;
      spent = spent;
      goes = subst (λ (x : List ℕ). GoesOn limit (unread ++ take (before - 1) bytes) [] x) same goes;
      fewer = omega (arith, ap length same, length-append (take (limit + 2) unread) (take (before - 1) bytes), length-take (limit + 2) unread, length-take (before - 1) bytes);
    }

-- the end is met
pub piece_ended : (limit room : ℕ) (ended : Bool) (unread begun piece : List ℕ) (left left' : Option (List ℕ)) (next : Next)
    → NoLf unread → begun ≡ [] → TakesAll left left' [] true → given_next next ≡ shown_lines limit (last_line unread)
    → Ended (record { limit = limit; unread = unread; room = room; ended = ended }) (record { limit = limit; unread = unread_of begun piece 0 0; room = room; ended = true }) left left' next
piece_ended limit room ended unread begun piece left left' next free none takes gives = record {
  taken = takes;
  stays = ap (λ (x : List ℕ). record { limit = limit; unread = x ++ []; room = room; ended = true }) none;
  last = gives ∙ sym (ap (shown_lines limit) (lines_from-alone last_line unread free));
}

-- ---- the budget

pub within_budget : (budget : ℕ) (past : Bool) → 0 < room_of budget past → past ≡ false
within_budget budget true lt = absurd (omega arith)
within_budget budget false lt = refl

-- ---- the piece after a take

-- all of the bytes were written over
pub written_over : (old new : List ℕ) (len : ℕ) → length new ≡ length old → length old ≡ len → take len (new ++ drop (length new) old) ≡ new
written_over old new len same is = take_at new (drop (length new) old) len (same ∙ is)

-- all that came is within the budget
pub came_within : (limit budget n : ℕ) (past ended : Bool) (unread kept out : List ℕ) (left left' : Option (List ℕ))
    → past ≡ false → ended ≡ false → NoLf unread → kept ≡ take (limit + 2) unread → Takes left left' out n → n ≤ budget → n ≤ length out
    → Came (record { limit = limit; unread = unread; room = room_of budget past; ended = ended }) (record { limit = limit; unread = unread_of kept out 0 n; room = room_of (budget - n) past; ended = ended }) left left' (take n out)
came_within limit budget n true ended unread kept out left left' p going free k takes fits len = cc
came_within limit budget n false ended unread kept out left left' p going free k takes fits len =
    let within : take (budget + 1 - 1) (take n out) ≡ take (n - 0) out = take_all (budget + 1 - 1) (take n out) (omega (arith, length-take n out)) ∙ ap (λ (k : ℕ). take k out) (omega arith) in
    piece_came limit (budget + 1) (budget - n + 1) ended unread kept out (take n out) n left left' going free k (takes_some left left' out n takes) (omega (arith, length-take n out)) within

-- the byte after the budget came too
pub came_past : (limit budget n : ℕ) (past ended : Bool) (unread kept out : List ℕ) (left left' : Option (List ℕ))
    → past ≡ false → ended ≡ false → NoLf unread → kept ≡ take (limit + 2) unread → Takes left left' out n → n ≡ budget + 1 → n ≤ length out
    → Came (record { limit = limit; unread = unread; room = room_of budget past; ended = ended }) (record { limit = limit; unread = unread_of kept out 0 (n - 1); room = 0; ended = ended }) left left' (take n out)
came_past limit budget n true ended unread kept out left left' p going free k takes past len = cc
came_past limit budget n false ended unread kept out left left' p going free k takes past len =
    let within : take (budget + 1 - 1) (take n out) ≡ take (n - 1 - 0) out = take-take (budget + 1 - 1) n out (omega arith) ∙ ap (λ (k : ℕ). take k out) (omega arith) in
    piece_came limit (budget + 1) 0 ended unread kept out (take n out) (n - 1) left left' going free k (takes_some left left' out n takes) (omega (arith, length-take n out)) within

-- the source failed
pub came_nothing : (limit room : ℕ) (ended : Bool) (unread kept out : List ℕ) (left left' : Option (List ℕ))
    → ended ≡ false → NoLf unread → kept ≡ take (limit + 2) unread → left' ≡ left
    → Came (record { limit = limit; unread = unread; room = room; ended = ended }) (record { limit = limit; unread = unread_of kept out 0 0; room = room; ended = ended }) left left' []
came_nothing limit room ended unread kept out left left' going free k stays =
    piece_came limit room room ended unread kept out [] 0 left left' going free k (takes_none left left' stays) (omega arith) (take-nil (room - 1))

pub reader_holds : (limit : ℕ) (unread begun old new : List ℕ) (len end : ℕ) (past ended : Bool) → ended ≡ false → NoLf unread → begun ≡ take (limit + 2) unread
    → 0 < length old → length new ≡ length old → length old ≡ len → end ≤ length old → IsReader limit begun (take len (new ++ drop (length new) old)) 0 end past ended
reader_holds limit unread begun old new len end past ended going free k some same is fits =
    let piece : take len (new ++ drop (length new) old) ≡ new = written_over old new len same is in
    record {
      place = omega arith;
      within = omega (arith, ap length piece);
      some = omega (arith, ap length piece);
      front = omega (arith, ap length k, length-take (limit + 2) unread);
      free = subst NoLf (sym k) (NoLf-take (limit + 2) unread free);
      over = λ e. cc;
    }

pub room_less : (budget n : ℕ) (past : Bool) → past ≡ false → 0 < n → n ≤ budget → room_of (budget - n) past < room_of budget past
room_less budget n true p some fits = cc
room_less budget n false p some fits = omega arith
