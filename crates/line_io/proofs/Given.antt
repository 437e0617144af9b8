-- What a reader of lines has given, call by call, and at each of its ends.
use Rattle.std.proofs.Common.{◌≡◌, inl, inr, ℕ, ◌+◌, ◌-◌, ◌<◌, ◌≤◌, Bool, true, false, List, [], ◌++◌, length, take, refl, sym, ap, subst, ◌∙◌, arith, Option, Some, None, Result}
use Rattle.std.proofs.lemmas.List.{append-nil, length-append, take_all, take-append-le}
use Rattle.std.proofs.lemmas.Bool.{cases_lt}
use Rattle.line_io.specs.Lines.{NoLf, lines, no_line, whole_lines}
use Rattle.line_io.specs.Shown.{shown, shown_lines, given}
use Rattle.line_io.specs.Reading.{Reading}
use Rattle.line_io.specs.Ahead.{GoesOn, Reads, bytes_before, TakesAll, Step, Call}
use Rattle.line_io.specs.Progress.{Progress}
use Rattle.line_io.specs.declared.next.Next.{Next}
use Rattle.line_io.specs.declared.next.LineFault.{LineFault}
use Rattle.line_io.proofs.LineLemmas.{lines_from-alone, shown-long, shown-short}
use Rattle.line_io.proofs.Reader.{goes-more, goes-then, goes-same}
use Rattle.line_io.proofs.Pieces.{take-nil, takes_none}
use Rattle.line_io.proofs.Calls.{take_both, TakesAll-then}

-- ---- call by call

-- a new reader
pub Progress-start : (limit budget : ℕ) (left : Option (List ℕ)) → Progress limit budget left left [] (record { limit = limit; unread = []; room = budget + 1; ended = false })
Progress-start limit budget left = record {
  taken = [];
  source = takes_none left left refl;
  limit_is = refl;
  spent = omega arith;
  reads = subst (λ (z : List ℕ). GoesOn limit z [] []) (sym (take-nil budget)) (goes-same limit []);
  fewer = omega arith;
}

reads_then : (limit : ℕ) (bytes more : List ℕ) (gave new : List (Option (List ℕ))) (mid unread : List ℕ) (ended : Bool)
    → GoesOn limit bytes gave mid → Reads limit (mid ++ more) new unread ended → Reads limit (bytes ++ more) (gave ++ new) unread ended
reads_then limit bytes more gave new mid unread false p q = goes-then limit (bytes ++ more) gave (mid ++ more) new unread (goes-more limit bytes gave mid more p) q
reads_then limit bytes more gave new mid unread true p q = (p.all more ∙ ap (λ (z : List (Option (List ℕ))). gave ++ z) q.0, q.1)

-- a reader that has not met the end goes on
goes_further : (limit budget : ℕ) (first left left' : Option (List ℕ)) (gave more : List (Option (List ℕ))) (old new : Reading) (bytes : List ℕ)
    → old.ended ≡ false → Progress limit budget first left gave old → Step old new left left' more bytes → Progress limit budget first left' (gave ++ more) new
goes_further limit budget first left left' gave more old new bytes going p s =
    let rest : budget - length p.taken ≡ old.room - 1 = omega (arith, p.spent) in
    let split : take budget (p.taken ++ bytes) ≡ take budget p.taken ++ take (old.room - 1) bytes = take_both budget p.taken bytes ∙ ap (λ (n : ℕ). take budget p.taken ++ take n bytes) rest in
    let before : GoesOn limit (take budget p.taken) gave old.unread = subst (Reads limit (take budget p.taken) gave old.unread) going p.reads in
    let now : Reads limit (bytes_before old bytes) more new.unread new.ended = subst (λ (n : ℕ). Reads n (bytes_before old bytes) more new.unread new.ended) p.limit_is s.reads in
    let both : Reads limit (take budget p.taken ++ take (old.room - 1) bytes) (gave ++ more) new.unread new.ended = reads_then limit (take budget p.taken) (take (old.room - 1) bytes) gave more old.unread new.unread new.ended before now in
    record {
      taken = p.taken ++ bytes;
      source = TakesAll-then first left left' p.taken bytes new.ended (subst (TakesAll first left p.taken) going p.source) (s.taken going);
      limit_is = s.limit ∙ p.limit_is;
      spent = omega (arith, p.spent, s.spent, length-append p.taken bytes);
      reads = subst (λ (z : List ℕ). Reads limit z (gave ++ more) new.unread new.ended) (sym split) both;
      fewer = omega (arith, p.fewer, s.fewer, length-append gave more);
    }

-- one call more
pub Progress-then : (limit budget : ℕ) (first left left' : Option (List ℕ)) (gave more : List (Option (List ℕ))) (old new : Reading) (bytes : List ℕ)
    → Progress limit budget first left gave old → Step old new left left' more bytes → Progress limit budget first left' (gave ++ more) new
Progress-then limit budget first left left' gave more old new bytes p s =
    elim old.ended as (λ (v : Bool). old.ended ≡ v → Progress limit budget first left' (gave ++ more) new) [
      | true ↦ λ met.
          let still = s.over met in
          let none : gave ++ more ≡ gave = ap (λ (z : List (Option (List ℕ))). gave ++ z) still.1 ∙ append-nil gave in
          subst (λ (g : List (Option (List ℕ))). Progress limit budget first left' g new) (sym none)
          (subst (λ (r : Reading). Progress limit budget first left' gave r) (sym still.2) (subst (λ (l : Option (List ℕ)). Progress limit budget first l gave old) (sym still.3) p))
      | false ↦ λ going. goes_further limit budget first left left' gave more old new bytes going p s
    ] refl

pub Progress-call : (limit budget : ℕ) (first left left' : Option (List ℕ)) (gave : List (Option (List ℕ))) (old new : Reading) (before now : ℕ) (result : Result Next LineFault)
    → Progress limit budget first left gave old → Call old new left left' before now result → Progress limit budget first left' (gave ++ given result) new
Progress-call limit budget first left left' gave old new before now result p call = Progress-then limit budget first left left' gave (given result) old new call.bytes p call.step

-- no more lines were given than the budget has bytes
pub gave_within : (limit budget : ℕ) (first left : Option (List ℕ)) (gave : List (Option (List ℕ))) (r : Reading) → Progress limit budget first left gave r → length gave ≤ budget
gave_within limit budget first left gave r p = omega (arith, p.fewer)

-- ---- what was given at each end

-- no more bytes came than the budget has
within_budget : (limit budget : ℕ) (first left : Option (List ℕ)) (gave : List (Option (List ℕ))) (r : Reading) (p : Progress limit budget first left gave r) → 0 < r.room → take budget p.taken ≡ p.taken
within_budget limit budget first left gave r p room = take_all budget p.taken (omega (arith, p.spent))

-- at the end these are the lines of the bytes taken
pub gave_all : (limit budget : ℕ) (first left : Option (List ℕ)) (gave : List (Option (List ℕ))) (r : Reading) (p : Progress limit budget first left gave r) → r.ended ≡ true → 0 < r.room → gave ≡ shown_lines limit (lines p.taken)
gave_all limit budget first left gave r p met room =
    let all : Reads limit (take budget p.taken) gave r.unread true = subst (Reads limit (take budget p.taken) gave r.unread) met p.reads in
    sym all.0 ∙ ap (λ (z : List ℕ). shown_lines limit (lines z)) (within_budget limit budget first left gave r p room)

-- and the bytes taken are all of the input
pub took_all : (limit budget : ℕ) (input : List ℕ) (left : Option (List ℕ)) (gave : List (Option (List ℕ))) (r : Reading) (p : Progress limit budget (Some input) left gave r) → r.ended ≡ true → p.taken ≡ input
took_all limit budget input left gave r p met = sym (p.source.2 ∙ (ap (λ (z : List ℕ). p.taken ++ z) (p.source.3 met) ∙ append-nil p.taken))

pub gave_input : (limit budget : ℕ) (input : List ℕ) (left : Option (List ℕ)) (gave : List (Option (List ℕ))) (r : Reading) → Progress limit budget (Some input) left gave r → r.ended ≡ true → 0 < r.room → gave ≡ shown_lines limit (lines input)
gave_input limit budget input left gave r p met room = gave_all limit budget (Some input) left gave r p met room ∙ ap (λ (z : List ℕ). shown_lines limit (lines z)) (took_all limit budget input left gave r p met)

-- where no LF is unread these are the whole lines of the bytes taken within the budget
gave_whole_within : (limit budget : ℕ) (first left : Option (List ℕ)) (gave : List (Option (List ℕ))) (r : Reading) (p : Progress limit budget first left gave r) → r.ended ≡ false → NoLf r.unread
    → gave ≡ shown_lines limit (whole_lines (take budget p.taken))
gave_whole_within limit budget first left gave r p going free =
    let goes : GoesOn limit (take budget p.taken) gave r.unread = subst (Reads limit (take budget p.taken) gave r.unread) going p.reads in
    let none : gave ++ shown_lines limit (whole_lines (r.unread ++ [])) ≡ gave = ap (λ (z : List ℕ). gave ++ shown_lines limit (whole_lines z)) (append-nil r.unread) ∙ (ap (λ (z : List (List ℕ)). gave ++ shown_lines limit z) (lines_from-alone no_line r.unread free) ∙ append-nil gave) in
    sym (ap (λ (z : List ℕ). shown_lines limit (whole_lines z)) (sym (append-nil (take budget p.taken))) ∙ (goes.whole [] ∙ none))

-- at a fault of the source these are the lines of the bytes taken that an LF ended
pub gave_whole : (limit budget : ℕ) (first left : Option (List ℕ)) (gave : List (Option (List ℕ))) (r : Reading) (p : Progress limit budget first left gave r) → r.ended ≡ false → 0 < r.room → NoLf r.unread
    → gave ≡ shown_lines limit (whole_lines p.taken)
gave_whole limit budget first left gave r p going room free =
    gave_whole_within limit budget first left gave r p going free ∙ ap (λ (z : List ℕ). shown_lines limit (whole_lines z)) (within_budget limit budget first left gave r p room)

-- where the budget was passed its bytes are the first of the input
pub took_budget : (limit budget : ℕ) (input : List ℕ) (left : Option (List ℕ)) (gave : List (Option (List ℕ))) (r : Reading) (p : Progress limit budget (Some input) left gave r) → r.room ≡ 0
    → (take budget p.taken ≡ take budget input) × (budget < length input)
took_budget limit budget input left gave r p passed =
    let all : length p.taken ≡ budget + 1 = omega (arith, p.spent) in
    let front : take budget input ≡ take budget p.taken = ap (take budget) p.source.2 ∙ take-append-le budget p.taken p.source.0 (omega arith) in
    (sym front, omega (arith, ap length p.source.2, length-append p.taken p.source.0))

-- where the budget was passed these are the lines that an LF within it ended
pub gave_budget : (limit budget : ℕ) (input : List ℕ) (left : Option (List ℕ)) (gave : List (Option (List ℕ))) (r : Reading) → Progress limit budget (Some input) left gave r → r.ended ≡ false → r.room ≡ 0 → NoLf r.unread
    → gave ≡ shown_lines limit (whole_lines (take budget input))
gave_budget limit budget input left gave r p going passed free =
    gave_whole_within limit budget (Some input) left gave r p going free ∙ ap (λ (z : List ℕ). shown_lines limit (whole_lines z)) (took_budget limit budget input left gave r p passed).0

-- ---- what is given of a line

-- the line that is given is the line itself, and no longer than the limit
pub shown-line : (limit : ℕ) (line given : List ℕ) → shown limit line ≡ Some given → (line ≡ given) × (length given ≤ limit)
shown-line limit line given e =
    elim (cases_lt limit (length line)) [
      | inl lt ↦ let z : None ≡ Some given = sym (shown-long limit line lt) ∙ e in absurd cc
      | inr le ↦
          let s : Some line ≡ Some given = sym (shown-short limit line le) ∙ e in
          let same : line ≡ given = cc in
          (same, omega (arith, ap length same))
    ]

-- a line that is not given is longer than the limit
pub shown-none : (limit : ℕ) (line : List ℕ) → shown limit line ≡ None → limit < length line
shown-none limit line e =
    elim (cases_lt limit (length line)) [
      | inl lt ↦ lt
      | inr le ↦ let z : Some line ≡ None = sym (shown-short limit line le) ∙ e in absurd cc
    ]
