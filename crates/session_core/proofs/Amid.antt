-- A session amid its input, and how it ends.
use Rattle.std.proofs.Common.{◌≡◌, ◌≢◌, ℕ, zero, suc, ◌+◌, ◌-◌, ◌<◌, ◌≤◌, ◌^◌, Bool, true, false, List, [], ◌∷◌, ◌++◌, length, take, drop, refl, sym, ap, subst, ◌∙◌, append_assoc, arith, inl, inr, Option, Some, None, Ok, Err}
use Rattle.std.proofs.lemmas.Bool.{cases_lt}
use Rattle.std.proofs.lemmas.List.{append-nil, length-append, length-map, length-take, take_all, take_at, take-append-drop, take-append-le}
use Rattle.line_io.specs.Lines.{NoLf, lines, whole_lines, no_line}
use Rattle.line_io.specs.Shown.{shown, shown_lines, given_next}
use Rattle.line_io.specs.Reading.{Reading}
use Rattle.line_io.specs.Ahead.{Reads, TakesAll, Call}
use Rattle.line_io.specs.Streams.{Rose, Appends, AppendsPart}
use Rattle.line_io.proofs.Appending.{Appends-none, Appends-then, Rose-wider}
use Rattle.line_io.proofs.LineLemmas.{lines_from-alone}
use Rattle.line_io.specs.declared.next.Next.{Next}
use Rattle.line_io.specs.declared.next.Next.TheVariants.{Line, TooLong, End}
use Rattle.line_io.specs.declared.next.LineFault.TheVariants.{ReadFault, InputLong, NoMemory}
use Rattle.khepri_types.specs.declared.limits.TheConstants.{MAX_LINE_BYTES, MAX_INPUT_BYTES}
use Rattle.khepri_types.specs.Exec.{State, opening_state}
use Rattle.khepri_types.specs.History.{empty_opening}
use Rattle.khepri_types.specs.Legal.{Legal}
use Rattle.khepri_types.specs.Calm.{calm, text_of}
use Rattle.khepri_types.proofs.Legality.{calm-legal}
use Rattle.khepri_types.proofs.Staying.{stays-stable}
use Rattle.session_core.specs.Told.{told, after, told_text}
use Rattle.session_core.specs.Turns.{Given, Turn, Parted}
use Rattle.session_core.specs.Session.{Session, Took, IsAtEnd, IsFrontOf, IsBrokenOff, Says, calm_text}
use Rattle.session_core.specs.declared.status.Status.{Status}
use Rattle.session_core.specs.declared.status.Status.TheVariants as status
use Rattle.session_core.proofs.Telling.{calm_told, told_text-more, after-more, position_after}
use Rattle.session_core.proofs.Taking.{SoFar, IsFirst, IsWithin, progress-none, progress-more, few_lines}

-- ---- taking and writing

took_of : (left left' : Option (List ℕ)) (bytes : List ℕ) (e : Bool) → TakesAll left left' bytes e → Took left left' bytes
took_of None left' bytes e t = t
took_of (Some l) left' bytes e t = (t.0, t.1, t.2)

at_end : (left left' : Option (List ℕ)) (bytes : List ℕ) → TakesAll left left' bytes true → IsAtEnd left'
at_end None left' bytes t = subst IsAtEnd (sym t) tt
at_end (Some l) left' bytes t = subst IsAtEnd (sym t.1) (t.3 refl)

-- what was told of the first lines is a front of what is written for all
front_first : (gave : List (Option (List ℕ))) (bytes : List ℕ) → IsFirst MAX_LINE_BYTES gave bytes → IsFrontOf (told_text gave) (calm_text (lines bytes))
front_first gave bytes f =
    let more = text_of (told (length gave + 1) (after 1 opening_state gave) f.0) in
    (more, calm_told (lines bytes) ∙ (ap told_text f.1 ∙ told_text-more (length gave + 1) gave f.0 refl))

front-then : (a b whole : List ℕ) (n : ℕ) → IsFrontOf (a ++ b) whole → IsFrontOf (a ++ take n b) whole
front-then a b whole n f =
    let e : b ≡ take n b ++ drop n b = sym (take-append-drop n b) in
    (drop n b ++ f.0, f.1 ∙ (ap (λ (x : List ℕ). (a ++ x) ++ f.0) e ∙ (ap (λ (x : List ℕ). x ++ f.0) (sym (append_assoc a (take n b) (drop n b))) ∙ append_assoc (a ++ take n b) (drop n b) f.0)))

-- ---- amid the input

-- the lines given so far have their answers, of which the last are gathered, and the machine is in the state after them
pub record Amid (left held left' held' : Option (List ℕ)) (r : Reading) (l : ℕ) (S : State) (out : List ℕ) : Type 0 where
  pub bytes : List ℕ
  pub gave : List (Option (List ℕ))
  pub progress : SoFar MAX_LINE_BYTES MAX_INPUT_BYTES left left' r bytes gave
  pub line : l ≡ length gave + 1
  pub state : S ≡ after 1 opening_state gave
  pub written : List ℕ
  pub wrote : Appends held held' written
  pub answers : told_text gave ≡ written ++ out

-- before the first line
pub amid-none : (left held : Option (List ℕ)) (r : Reading) (S : State) (out : List ℕ) → r ≡ record { limit = MAX_LINE_BYTES; unread = []; room = MAX_INPUT_BYTES + 1; ended = false } → S ≡ opening_state
    → out ≡ told_text [] → Amid left held left held r 1 S out
amid-none left held r S out er es eo =
    record {
      bytes = [];
      gave = [];
      progress = progress-none MAX_LINE_BYTES MAX_INPUT_BYTES left r er;
      line = refl;
      state = es;
      written = [];
      wrote = Appends-none held;
      answers = sym eo;
    }

-- a line was given, and is the next to be answered
pub record Due (left held left' held' : Option (List ℕ)) (r : Reading) (l : ℕ) (S : State) (out : List ℕ) (next : Next) : Type 0 where
  pub bytes : List ℕ
  pub gave : List (Option (List ℕ))
  pub progress : SoFar MAX_LINE_BYTES MAX_INPUT_BYTES left left' r bytes (gave ++ given_next next)
  pub line : l ≡ length gave + 1
  pub state : S ≡ after 1 opening_state gave
  pub written : List ℕ
  pub wrote : Appends held held' written
  pub answers : told_text gave ≡ written ++ out
  pub one : length (given_next next) ≡ 1

one_given : (next : Next) → next ≢ End → length (given_next next) ≡ 1
one_given (Line v) ne = refl
one_given TooLong ne = refl
one_given End ne = absurd (ne refl)

pub due : (left held left1 held1 left2 held2 : Option (List ℕ)) (r1 r2 : Reading) (l : ℕ) (S : State) (out1 out2 : List ℕ) (n m : ℕ) (next : Next)
    → Amid left held left1 held1 r1 l S out1 → Given r1 r2 left1 left2 n m held1 held2 out1 out2 next → next ≢ End → Due left held left2 held2 r2 l S out2 next
due left held left1 held1 left2 held2 r1 r2 l S out1 out2 n m next a g ne =
    record {
      bytes = a.bytes ++ g.call.bytes;
      gave = a.gave;
      progress = progress-more MAX_LINE_BYTES MAX_INPUT_BYTES left left1 left2 r1 r2 a.bytes a.gave n m (Ok next) a.progress g.call;
      line = a.line;
      state = a.state;
      written = a.written ++ g.front;
      wrote = Appends-then held held1 held2 a.written g.front a.wrote g.wrote;
      answers = a.answers ∙ (ap (λ (x : List ℕ). a.written ++ x) g.rest ∙ sym (append_assoc a.written g.front out2));
      one = one_given next ne;
    }

-- there is room for one more entry, and for one more line
pub due_room : (left held left1 held1 : Option (List ℕ)) (r : Reading) (l : ℕ) (S : State) (out : List ℕ) (next : Next) → Due left held left1 held1 r l S out next → (S.position < 2 ^ 40) × (l < 2 ^ 41)
due_room left held left1 held1 r l S out next a =
    let p : S.position ≤ length a.gave = omega (arith, ap (λ (T : State). T.position) a.state, position_after 1 opening_state a.gave) in
    (omega (arith, a.progress.fewer, length-append a.gave (given_next next), a.one), omega (arith, a.progress.fewer, length-append a.gave (given_next next), a.one, a.line))

-- it was answered
pub answered : (left held left1 held1 : Option (List ℕ)) (r : Reading) (l : ℕ) (S1 S2 : State) (out1 out2 : List ℕ) (next : Next)
    → Due left held left1 held1 r l S1 out1 next → out2 ≡ out1 ++ text_of (told l S1 (given_next next)) → S2 ≡ after l S1 (given_next next) → Amid left held left1 held1 r (l + 1) S2 out2
answered left held left1 held1 r l S1 S2 out1 out2 next a et es =
    let text = text_of (told l S1 (given_next next)) in
    let more : told_text (a.gave ++ given_next next) ≡ told_text a.gave ++ text = told_text-more l a.gave (given_next next) a.line ∙ ap (λ (x : List ℕ). told_text a.gave ++ x) (ap (λ (T : State). text_of (told l T (given_next next))) (sym a.state)) in
    record {
      bytes = a.bytes;
      gave = a.gave ++ given_next next;
      progress = a.progress;
      line = omega (arith, length-append a.gave (given_next next), a.line, a.one);
      state = es ∙ (ap (λ (T : State). after l T (given_next next)) a.state ∙ sym (after-more l a.gave (given_next next) a.line));
      written = a.written;
      wrote = a.wrote;
      answers = more ∙ (ap (λ (x : List ℕ). x ++ text) a.answers ∙ (append_assoc a.written out1 text ∙ ap (λ (x : List ℕ). a.written ++ x) (sym et)));
    }

-- all that is gathered was put out
put_out : (held held1 held2 : Option (List ℕ)) (told written out : List ℕ) → Appends held held1 written → told ≡ written ++ out → Appends held1 held2 out → Appends held held2 told
put_out held held1 held2 told written out w e more = subst (λ (x : List ℕ). Appends held held2 x) (sym e) (Appends-then held held1 held2 written out w more)

-- ---- the first lines

length_take-le : (n : ℕ) (xs : List ℕ) → length (take n xs) ≤ n
length_take-le zero xs = omega arith
length_take-le (suc n) [] = omega arith
length_take-le (suc n) (x ∷ xs) = omega (arith, length_take-le n xs)

shown-take : (limit n : ℕ) (xs : List (List ℕ)) → shown_lines limit (take n xs) ≡ take n (shown_lines limit xs)
shown-take limit zero xs = refl
shown-take limit (suc n) [] = refl
shown-take limit (suc n) (x ∷ xs) = ap (λ (y : List (Option (List ℕ))). shown limit x ∷ y) (shown-take limit n xs)

take-front : (xs ys : List (Option (List ℕ))) → take (length xs) (xs ++ ys) ≡ xs
take-front [] ys = refl
take-front (x ∷ xs) ys = ap (λ (y : List (Option (List ℕ))). x ∷ y) (take-front xs ys)

-- what is written for as many of the lines as were given
calm_first : (gave : List (Option (List ℕ))) (bytes : List ℕ) → IsFirst MAX_LINE_BYTES gave bytes → calm_text (take (length gave) (lines bytes)) ≡ told_text gave
calm_first gave bytes f =
    calm_told (take (length gave) (lines bytes)) ∙ ap told_text (shown-take MAX_LINE_BYTES (length gave) (lines bytes) ∙ (ap (λ (x : List (Option (List ℕ))). take (length gave) x) f.1 ∙ take-front gave f.0))

among_lines : (gave : List (Option (List ℕ))) (bytes : List ℕ) → IsFirst MAX_LINE_BYTES gave bytes → length gave ≤ length (lines bytes)
among_lines gave bytes f = omega (arith, sym (length-map (lines bytes) (shown MAX_LINE_BYTES)), ap length f.1, length-append gave f.0)

within_lines : (budget room : ℕ) (bytes : List ℕ) (gave : List (Option (List ℕ))) → IsWithin budget room bytes gave → length bytes + room ≡ budget + 1 → length bytes ≡ budget + 1 → length gave ≤ length (whole_lines (take budget bytes))
within_lines budget room bytes gave (inl some) spent over = absurd (omega (arith, some, spent, over))
within_lines budget room bytes gave (inr few) spent over = few

-- ---- the ends

-- what is written for the lines of so many bytes is legal
legal_of : (bytes : List ℕ) → length bytes ≤ MAX_INPUT_BYTES + 1 → Legal empty_opening (lines bytes) (calm (lines bytes))
legal_of bytes most = calm-legal (lines bytes) (omega (arith, few_lines bytes, most))

most_of : (limit budget : ℕ) (left left' : Option (List ℕ)) (r : Reading) (bytes : List ℕ) (gave : List (Option (List ℕ))) → SoFar limit budget left left' r bytes gave → length bytes ≤ budget + 1
most_of limit budget left left' r bytes gave p = omega (arith, p.spent)

first-shorter : (limit : ℕ) (gave more : List (Option (List ℕ))) (bytes : List ℕ) → IsFirst limit (gave ++ more) bytes → IsFirst limit gave bytes
first-shorter limit gave more bytes f = (more ++ f.0, f.1 ∙ append_assoc gave more f.0)

-- where all that was written is what was told of lines given
ends : (s : Status) (left held left' held' : Option (List ℕ)) (r : Reading) (bytes : List ℕ) (gave more : List (Option (List ℕ)))
    → SoFar MAX_LINE_BYTES MAX_INPUT_BYTES left left' r bytes (gave ++ more) → Appends held held' (told_text gave) → Says s left' bytes (told_text gave) → Session s left left' held held'
ends s left held left' held' r bytes gave more p w says =
    record {
      bytes = bytes;
      written = told_text gave;
      took = took_of left left' bytes r.ended p.took;
      wrote = w;
      legal = legal_of bytes (most_of MAX_LINE_BYTES MAX_INPUT_BYTES left left' r bytes (gave ++ more) p);
      stable = stays-stable (calm (lines bytes));
      front = front_first gave bytes (first-shorter MAX_LINE_BYTES gave more bytes p.first);
      most = most_of MAX_LINE_BYTES MAX_INPUT_BYTES left left' r bytes (gave ++ more) p;
      says = says;
    }

-- the input has come to its end
pub on_end : (left held left1 held1 left2 held2 : Option (List ℕ)) (r1 r2 : Reading) (l : ℕ) (S : State) (out1 out2 : List ℕ) (n m : ℕ) (next : Next)
    → Amid left held left1 held1 r1 l S out1 → Given r1 r2 left1 left2 n m held1 held2 out1 out2 next → next ≡ End → Session status.Ended left left2 held held2
on_end left held left1 held1 left2 held2 r1 r2 l S out1 out2 n m next a given_is is =
    let g : Given r1 r2 left1 left2 n m held1 held2 out1 out2 End = subst (λ (x : Next). Given r1 r2 left1 left2 n m held1 held2 out1 out2 x) is given_is in
    let c = g.call in
    let bytes = a.bytes ++ c.bytes in
    let p : SoFar MAX_LINE_BYTES MAX_INPUT_BYTES left left2 r2 bytes (a.gave ++ []) = progress-more MAX_LINE_BYTES MAX_INPUT_BYTES left left1 left2 r1 r2 a.bytes a.gave n m (Ok End) a.progress c in
    let within : length bytes ≤ MAX_INPUT_BYTES = omega (arith, p.spent, c.cause.1) in
    let reads : Reads MAX_LINE_BYTES (take MAX_INPUT_BYTES bytes) (a.gave ++ []) r2.unread true = subst (λ (v : Bool). Reads MAX_LINE_BYTES (take MAX_INPUT_BYTES bytes) (a.gave ++ []) r2.unread v) c.cause.0 p.reads in
    let all : shown_lines MAX_LINE_BYTES (lines bytes) ≡ a.gave = ap (λ (x : List ℕ). shown_lines MAX_LINE_BYTES (lines x)) (sym (take_all MAX_INPUT_BYTES bytes within)) ∙ (reads.0 ∙ append-nil a.gave) in
    let front : out1 ≡ g.front = g.rest ∙ (ap (λ (x : List ℕ). g.front ++ x) (g.all refl) ∙ append-nil g.front) in
    let wrote : Appends held1 held2 out1 = subst (λ (x : List ℕ). Appends held1 held2 x) (sym front) g.wrote in
    ends status.Ended left held left2 held2 r2 bytes a.gave [] p (put_out held held1 held2 (told_text a.gave) a.written out1 a.wrote a.answers wrote) (
    record {
      at_end = at_end left left2 bytes (subst (λ (v : Bool). TakesAll left left2 bytes v) c.cause.0 p.took);
      within = within;
      answered = sym (calm_told (lines bytes) ∙ ap told_text all);
    }
    )

-- what an LF ended was given
whole_given : (budget : ℕ) (left left' : Option (List ℕ)) (r : Reading) (bytes : List ℕ) (gave : List (Option (List ℕ))) → SoFar MAX_LINE_BYTES budget left left' r bytes (gave ++ []) → r.ended ≡ false → NoLf r.unread
    → told_text gave ≡ calm_text (whole_lines (take budget bytes))
whole_given budget left left' r bytes gave p e free =
    let T = take budget bytes in
    let reads : Reads MAX_LINE_BYTES T (gave ++ []) r.unread false = subst (λ (v : Bool). Reads MAX_LINE_BYTES T (gave ++ []) r.unread v) e p.reads in
    let none : whole_lines (r.unread ++ []) ≡ [] = ap whole_lines (append-nil r.unread) ∙ lines_from-alone no_line r.unread free in
    let all : shown_lines MAX_LINE_BYTES (whole_lines T) ≡ gave = ap (λ (x : List ℕ). shown_lines MAX_LINE_BYTES (whole_lines x)) (sym (append-nil T)) ∙ (reads.whole []
    ∙ (ap (λ (x : List (List ℕ)). (gave ++ []) ++ shown_lines MAX_LINE_BYTES x) none ∙ (append-nil (gave ++ []) ∙ append-nil gave))) in
    sym (calm_told (whole_lines T) ∙ ap told_text all)

-- the source failed
on_source_fault : (left held left1 held1 left2 held2 : Option (List ℕ)) (r1 r2 : Reading) (l : ℕ) (S : State) (out : List ℕ) (n m : ℕ)
    → Amid left held left1 held1 r1 l S out → Appends held1 held2 out → Call r1 r2 left1 left2 n m (Err ReadFault) → Session status.SourceFault left left2 held held2
on_source_fault left held left1 held1 left2 held2 r1 r2 l S out n m a w c =
    let bytes = a.bytes ++ c.bytes in
    let p : SoFar MAX_LINE_BYTES MAX_INPUT_BYTES left left2 r2 bytes (a.gave ++ []) = progress-more MAX_LINE_BYTES MAX_INPUT_BYTES left left1 left2 r1 r2 a.bytes a.gave n m (Err ReadFault) a.progress c in
    let within : length bytes ≤ MAX_INPUT_BYTES = omega (arith, p.spent, c.cause.2) in
    let whole : told_text a.gave ≡ calm_text (whole_lines (take MAX_INPUT_BYTES bytes)) = whole_given MAX_INPUT_BYTES left left2 r2 bytes a.gave p c.cause.1 c.cause.3 in
    ends status.SourceFault left held left2 held2 r2 bytes a.gave [] p (put_out held held1 held2 (told_text a.gave) a.written out a.wrote a.answers w) (
    record { within = within; answered = whole ∙ ap (λ (x : List ℕ). calm_text (whole_lines x)) (take_all MAX_INPUT_BYTES bytes within) }
    )

-- the input is too long
on_input_long : (left held left1 held1 left2 held2 : Option (List ℕ)) (r1 r2 : Reading) (l : ℕ) (S : State) (out : List ℕ) (n m : ℕ)
    → Amid left held left1 held1 r1 l S out → Appends held1 held2 out → Call r1 r2 left1 left2 n m (Err InputLong) → Session status.InputLong left left2 held held2
on_input_long left held left1 held1 left2 held2 r1 r2 l S out n m a w c =
    let bytes = a.bytes ++ c.bytes in
    let p : SoFar MAX_LINE_BYTES MAX_INPUT_BYTES left left2 r2 bytes (a.gave ++ []) = progress-more MAX_LINE_BYTES MAX_INPUT_BYTES left left1 left2 r1 r2 a.bytes a.gave n m (Err InputLong) a.progress c in
    ends status.InputLong left held left2 held2 r2 bytes a.gave [] p (put_out held held1 held2 (told_text a.gave) a.written out a.wrote a.answers w) (
    record { over = omega (arith, p.spent, c.cause.1); answered = whole_given MAX_INPUT_BYTES left left2 r2 bytes a.gave p c.cause.0 c.cause.2 }
    )

-- there was no memory to read on
on_no_memory : (left held left1 held1 left2 held2 : Option (List ℕ)) (r1 r2 : Reading) (l : ℕ) (S : State) (out : List ℕ) (n m : ℕ)
    → Amid left held left1 held1 r1 l S out → Appends held1 held2 out → Call r1 r2 left1 left2 n m (Err NoMemory) → Session status.NoMemory left left2 held held2
on_no_memory left held left1 held1 left2 held2 r1 r2 l S out n m a w c =
    ends status.NoMemory left held left2 held2 r2 (a.bytes ++ c.bytes) a.gave [] (progress-more MAX_LINE_BYTES MAX_INPUT_BYTES left left1 left2 r1 r2 a.bytes a.gave n m (Err NoMemory) a.progress c)
    (put_out held held1 held2 (told_text a.gave) a.written out a.wrote a.answers w) tt

-- ---- not all is put out

-- of two fronts the shorter is a front of the longer
shorter_front : (a b whole : List ℕ) → IsFrontOf a whole → IsFrontOf b whole → length a ≤ length b → IsFrontOf a b
shorter_front a b whole f g le =
    let is_a : take (length a) whole ≡ a = ap (take (length a)) f.1 ∙ take_at a f.0 (length a) refl in
    let of_b : take (length a) whole ≡ take (length a) b = ap (take (length a)) g.1 ∙ take-append-le (length a) b g.0 le in
    (drop (length a) b, sym (take-append-drop (length a) b) ∙ ap (λ (x : List ℕ). x ++ drop (length a) b) (sym of_b ∙ is_a))

-- what is written of the first of some lines is a front of what is written of all
front_told : (k : ℕ) (gave : List (Option (List ℕ))) → IsFrontOf (told_text (take k gave)) (told_text gave)
front_told k gave = (
  text_of (told (length (take k gave) + 1) (after 1 opening_state (take k gave)) (drop k gave)),
  ap told_text (sym (take-append-drop k gave)) ∙ told_text-more (length (take k gave) + 1) (take k gave) (drop k gave) refl,
)

-- the answer to which of some lines is cut off
record CutAt (gave : List (Option (List ℕ))) (written : List ℕ) : Type 0 where
  m : ℕ
  among : m ≤ length gave
  before : 0 < m → IsFrontOf (told_text (take (m - 1) gave)) written
  cut : length written < length (told_text (take m gave))

less_one : (k : ℕ) → suc k - 1 ≡ k
less_one k = omega arith

cut_at : (gave : List (Option (List ℕ))) (written : List ℕ) (k : ℕ) → k ≤ length gave → IsFrontOf written (told_text gave) → length written < length (told_text (take k gave)) → CutAt gave written
cut_at gave written zero le f lt = record { m = 0; among = le; before = λ some. absurd (omega (arith, some)); cut = lt }
cut_at gave written (suc k) le f lt =
    elim (cases_lt (length written) (length (told_text (take k gave)))) [
      | inl less ↦ cut_at gave written k (omega (arith, le)) f less
      | inr more ↦ record {
        m = suc k;
        among = le;
        before = λ some. subst (λ (j : ℕ). IsFrontOf (told_text (take j gave)) written) (sym (less_one k)) (shorter_front (told_text (take k gave)) written (told_text gave) (front_told k gave) f more);
        cut = lt;
      }
    ]

-- what is written for the first of the lines given
calm_at : (k : ℕ) (gave more : List (Option (List ℕ))) (bytes : List ℕ) → k ≤ length gave → IsFirst MAX_LINE_BYTES (gave ++ more) bytes → calm_text (take k (lines bytes)) ≡ told_text (take k gave)
calm_at k gave more bytes le f =
    let split : gave ++ more ≡ take k gave ++ (drop k gave ++ more) = ap (λ (x : List (Option (List ℕ))). x ++ more) (sym (take-append-drop k gave)) ∙ append_assoc (take k gave) (drop k gave) more in
    let g : IsFirst MAX_LINE_BYTES (take k gave ++ (drop k gave ++ more)) bytes = subst (λ (x : List (Option (List ℕ))). IsFirst MAX_LINE_BYTES x bytes) split f in
    let len : length (take k gave) ≡ k = omega (arith, length-take k gave, le) in
    ap (λ (j : ℕ). calm_text (take j (lines bytes))) (sym len) ∙ calm_first (take k gave) bytes (first-shorter MAX_LINE_BYTES (take k gave) (drop k gave ++ more) bytes g)

-- an answer to one of the lines given is cut off
broken_off : (gave more : List (Option (List ℕ))) (bytes written out : List ℕ) (left left' : Option (List ℕ)) (r : Reading) (n : ℕ) → n < length out → told_text gave ≡ written ++ out
    → SoFar MAX_LINE_BYTES MAX_INPUT_BYTES left left' r bytes (gave ++ more) → IsBrokenOff bytes (written ++ take n out)
broken_off gave more bytes written out left left' r n lt all p =
    let front : IsFrontOf (written ++ take n out) (told_text gave) = front-then written out (told_text gave) n ([], all ∙ sym (append-nil (written ++ out))) in
    let less : length (written ++ take n out) < length (told_text gave) = omega (arith, ap length all, length-append written out, length-append written (take n out), length_take-le n out, lt) in
    let whole : told_text (take (length gave) gave) ≡ told_text gave = ap told_text (take_all (length gave) gave (omega arith)) in
    let c = cut_at gave (written ++ take n out) (length gave) (omega arith) front (omega (arith, less, ap length whole)) in
    let few : length gave ≤ length (gave ++ more) = omega (arith, length-append gave more) in
    record {
      m = c.m;
      among = omega (arith, c.among, few, among_lines (gave ++ more) bytes p.first);
      before = λ some. subst (λ (x : List ℕ). IsFrontOf x (written ++ take n out)) (sym (calm_at (c.m - 1) gave more bytes (omega (arith, c.among)) p.first)) (c.before some);
      cut = omega (arith, c.cut, ap length (calm_at c.m gave more bytes c.among p.first));
      within = λ over. omega (arith, c.among, few, within_lines MAX_INPUT_BYTES r.room bytes (gave ++ more) p.within p.spent over);
    }

-- the sink failed within an answer
on_sink_fault : (left held left1 held1 held2 : Option (List ℕ)) (r : Reading) (bytes : List ℕ) (gave more : List (Option (List ℕ))) (written out : List ℕ) → SoFar MAX_LINE_BYTES MAX_INPUT_BYTES left left1 r bytes (gave ++ more)
    → Appends held held1 written → told_text gave ≡ written ++ out → AppendsPart held1 held2 out → Session status.SinkFault left left1 held held2
on_sink_fault left held left1 held1 held2 r bytes gave more written out p wrote all w =
    record {
      bytes = bytes;
      written = written ++ take w.0 out;
      took = took_of left left1 bytes r.ended p.took;
      wrote = Appends-then held held1 held2 written (take w.0 out) wrote w.2;
      legal = legal_of bytes (most_of MAX_LINE_BYTES MAX_INPUT_BYTES left left1 r bytes (gave ++ more) p);
      stable = stays-stable (calm (lines bytes));
      front = front-then written out (calm_text (lines bytes)) w.0 (subst (λ (x : List ℕ). IsFrontOf x (calm_text (lines bytes))) all (front_first gave bytes (first-shorter MAX_LINE_BYTES gave more bytes p.first)));
      most = most_of MAX_LINE_BYTES MAX_INPUT_BYTES left left1 r bytes (gave ++ more) p;
      says = broken_off gave more bytes written out left left1 r w.0 w.1 all p;
    }

-- ---- the turns that give no line

-- a turn gave no line
pub on_stop : (left held left1 held1 left2 held2 : Option (List ℕ)) (r1 r2 : Reading) (l : ℕ) (S : State) (out1 out2 : List ℕ) (n m j k : ℕ) (s : Status)
    → Amid left held left1 held1 r1 l S out1 → Turn r1 r2 left1 left2 n m held1 held2 j k out1 out2 (Err s) → Session s left left2 held held2
on_stop left held left1 held1 left2 held2 r1 r2 l S out1 out2 n m j k status.Ended a t = absurd t
on_stop left held left1 held1 left2 held2 r1 r2 l S out1 out2 n m j k status.Usage a t = absurd t
on_stop left held left1 held1 left2 held2 r1 r2 l S out1 out2 n m j k status.SourceFault a t = on_source_fault left held left1 held1 left2 held2 r1 r2 l S out1 n m a t.wrote t.asked
on_stop left held left1 held1 left2 held2 r1 r2 l S out1 out2 n m j k status.SinkFault a t =
    subst (λ (x : Option (List ℕ)). Session status.SinkFault left x held held2) (sym t.source)
    (on_sink_fault left held left1 held1 held2 r1 a.bytes a.gave [] a.written out1 (subst (λ (x : List (Option (List ℕ))). SoFar MAX_LINE_BYTES MAX_INPUT_BYTES left left1 r1 a.bytes x) (sym (append-nil a.gave)) a.progress) a.wrote a.answers t.broke.wrote)
on_stop left held left1 held1 left2 held2 r1 r2 l S out1 out2 n m j k status.NoMemory a t = on_no_memory left held left1 held1 left2 held2 r1 r2 l S out1 n m a t.wrote t.asked
on_stop left held left1 held1 left2 held2 r1 r2 l S out1 out2 n m j k status.AuditBad a t = absurd t
on_stop left held left1 held1 left2 held2 r1 r2 l S out1 out2 n m j k status.InputLong a t = on_input_long left held left1 held1 left2 held2 r1 r2 l S out1 n m a t.wrote t.asked
on_stop left held left1 held1 left2 held2 r1 r2 l S out1 out2 n m j k status.ListenFault a t = absurd t

-- ... as its source failed
pub stop_source : (r1 r2 : Reading) (left1 left2 held1 held2 : Option (List ℕ)) (out1 out2 : List ℕ) (first n m j k : ℕ) (s : Status)
    → first ≤ n → Turn r1 r2 left1 left2 n m held1 held2 j k out1 out2 (Err s) → s ≡ status.SourceFault → Rose first m
stop_source r1 r2 left1 left2 held1 held2 out1 out2 first n m j k s le t e =
    let f : Turn r1 r2 left1 left2 n m held1 held2 j k out1 out2 (Err status.SourceFault) = subst (λ (x : Status). Turn r1 r2 left1 left2 n m held1 held2 j k out1 out2 (Err x)) e t in
    Rose-wider first n m m le f.asked.cause.0 (omega arith)

-- ... as its sink failed
pub stop_sink : (r1 r2 : Reading) (left1 left2 held1 held2 : Option (List ℕ)) (out1 out2 : List ℕ) (first n m j k : ℕ) (s : Status)
    → first ≤ j → Turn r1 r2 left1 left2 n m held1 held2 j k out1 out2 (Err s) → s ≡ status.SinkFault → Rose first k
stop_sink r1 r2 left1 left2 held1 held2 out1 out2 first n m j k s le t e =
    let f : Turn r1 r2 left1 left2 n m held1 held2 j k out1 out2 (Err status.SinkFault) = subst (λ (x : Status). Turn r1 r2 left1 left2 n m held1 held2 j k out1 out2 (Err x)) e t in
    Rose-wider first j k k le f.broke.cause (omega arith)

-- there was no memory for an answer
parted : (left held left1 held1 held2 : Option (List ℕ)) (r : Reading) (l : ℕ) (S : State) (out : List ℕ) (next : Next) (j k : ℕ) (s : Status) → Due left held left1 held1 r l S out next → Parted held1 held2 j k out s
    → Session s left left1 held held2
parted left held left1 held1 held2 r l S out next j k status.Ended a t = absurd t
parted left held left1 held1 held2 r l S out next j k status.Usage a t = absurd t
parted left held left1 held1 held2 r l S out next j k status.SourceFault a t = absurd t
parted left held left1 held1 held2 r l S out next j k status.SinkFault a t = on_sink_fault left held left1 held1 held2 r a.bytes a.gave (given_next next) a.written out a.progress a.wrote a.answers t.wrote
parted left held left1 held1 held2 r l S out next j k status.NoMemory a t =
    ends status.NoMemory left held left1 held2 r a.bytes a.gave (given_next next) a.progress (put_out held held1 held2 (told_text a.gave) a.written out a.wrote a.answers t) tt
parted left held left1 held1 held2 r l S out next j k status.AuditBad a t = absurd t
parted left held left1 held1 held2 r l S out next j k status.InputLong a t = absurd t
parted left held left1 held1 held2 r l S out next j k status.ListenFault a t = absurd t

pub on_part : (left held left1 held1 held2 : Option (List ℕ)) (r : Reading) (l : ℕ) (S : State) (out bytes : List ℕ) (next : Next) (j k : ℕ) (s : Status)
    → Due left held left1 held1 r l S out next → bytes ≡ out → Parted held1 held2 j k bytes s → Session s left left1 held held2
on_part left held left1 held1 held2 r l S out bytes next j k s a is t = parted left held left1 held1 held2 r l S out next j k s a (subst (λ (x : List ℕ). Parted held1 held2 j k x s) is t)

pub part_source : (held1 held2 : Option (List ℕ)) (j k : ℕ) (out : List ℕ) (s : Status) {P : Type 0} → Parted held1 held2 j k out s → s ≡ status.SourceFault → P
part_source held1 held2 j k out s t e = absurd (subst (λ (x : Status). Parted held1 held2 j k out x) e t)

pub part_sink : (held1 held2 : Option (List ℕ)) (first j k : ℕ) (out : List ℕ) (s : Status) → first ≤ j → Parted held1 held2 j k out s → s ≡ status.SinkFault → Rose first k
part_sink held1 held2 first j k out s le t e =
    let f : Parted held1 held2 j k out status.SinkFault = subst (λ (x : Status). Parted held1 held2 j k out x) e t in
    Rose-wider first j k k le f.cause (omega arith)

-- ---- before the first line

-- nothing was taken, and a front of the first line was written
pub unopened : (s : Status) (left held held' : Option (List ℕ)) (n : ℕ) → Says s left [] (take n (told_text [])) → Appends held held' (take n (told_text [])) → Session s left left held held'
unopened s left held held' n says w =
    let p : SoFar MAX_LINE_BYTES MAX_INPUT_BYTES left left (record { limit = MAX_LINE_BYTES; unread = []; room = MAX_INPUT_BYTES + 1; ended = false }) [] [] = progress-none MAX_LINE_BYTES MAX_INPUT_BYTES left _ refl in
    record {
      bytes = [];
      written = take n (told_text []);
      took = took_of left left [] false p.took;
      wrote = w;
      legal = legal_of [] (omega arith);
      stable = stays-stable (calm (lines []));
      front = front-then [] (told_text []) (calm_text (lines [])) n (front_first [] [] p.first);
      most = omega arith;
      says = says;
    }
