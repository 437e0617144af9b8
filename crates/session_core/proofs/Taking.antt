-- What a session has taken and been given.
use Rattle.std.proofs.Common.{◌≡◌, ◌≢◌, ℕ, ◌+◌, ◌-◌, ◌<◌, ◌≤◌, Bool, true, false, cond, eqb, List, [], ◌∷◌, ◌++◌, length, take, drop, refl, sym, ap, subst, ◌∙◌, append_assoc, arith, inl, inr, ◌⊎◌, Option, Result, Ok, Err}
use Rattle.std.proofs.lemmas.List.{append-nil, length-append, take-append-drop, nil_from_length, drop_all}
use Rattle.std.proofs.lemmas.List.{map-append, length-map}
use Rattle.line_io.specs.Lines.{lines, whole_lines, lines_from, last_line, no_line, without_cr}
use Rattle.line_io.specs.Shown.{shown, shown_lines, given}
use Rattle.line_io.specs.Reading.{Reading, bytes_ahead}
use Rattle.line_io.specs.Ahead.{GoesOn, Reads, TakesAll, HasCause, Call}
use Rattle.line_io.proofs.Reader.{goes-more, goes-then, goes-same}
use Rattle.line_io.proofs.Pieces.{take-nil, takes_none}
use Rattle.line_io.proofs.Calls.{take_both, TakesAll-then}
use Rattle.line_io.specs.declared.next.Next.{Next}
use Rattle.line_io.specs.declared.next.Next.TheVariants.{Line, TooLong, End}
use Rattle.line_io.specs.declared.next.LineFault.{LineFault}
use Rattle.line_io.specs.declared.next.LineFault.TheVariants.{ReadFault, InputLong, NoMemory}

-- ---- lines of bytes and of what follows

-- the bytes after the last LF
abbrev tail_from : List ℕ → List ℕ → List ℕ
tail_from begun [] = begun
tail_from begun (b ∷ rest) = cond (eqb b 10) (tail_from [] rest) (tail_from (begun ++ b ∷ []) rest)

lines_split : (last : List ℕ → List (List ℕ)) (begun bytes after : List ℕ) → lines_from last begun (bytes ++ after) ≡ lines_from no_line begun bytes ++ lines_from last (tail_from begun bytes) after
unfolding lines_from
lines_split last begun [] after = refl
lines_split last begun (b ∷ bytes) after =
    elim (eqb b 10) as (λ (v : Bool). cond v (without_cr begun ∷ lines_from last [] (bytes ++ after)) (lines_from last (begun ++ b ∷ []) (bytes ++ after))
    ≡ cond v (without_cr begun ∷ lines_from no_line [] bytes) (lines_from no_line (begun ++ b ∷ []) bytes) ++ lines_from last (cond v (tail_from [] bytes) (tail_from (begun ++ b ∷ []) bytes)) after) [
      | true ↦ ap (λ (x : List (List ℕ)). without_cr begun ∷ x) (lines_split last [] bytes after)
      | false ↦ lines_split last (begun ++ b ∷ []) bytes after
    ]

-- no more lines than bytes
few_lines_from : (begun bytes : List ℕ) → length (lines_from last_line begun bytes) ≤ length begun + length bytes
unfolding lines_from
few_lines_from [] [] = omega arith
few_lines_from (b ∷ begun) [] = omega arith
few_lines_from begun (b ∷ bytes) =
    elim (eqb b 10) as (λ (v : Bool). length (cond v (without_cr begun ∷ lines_from last_line [] bytes) (lines_from last_line (begun ++ b ∷ []) bytes)) ≤ length begun + length (b ∷ bytes)) [
      | true ↦ omega (arith, few_lines_from [] bytes)
      | false ↦ omega (arith, few_lines_from (begun ++ b ∷ []) bytes, length-append begun (b ∷ []))
    ]

pub few_lines : (bytes : List ℕ) → length (lines bytes) ≤ length bytes
few_lines bytes = omega (arith, few_lines_from [] bytes)

-- what is within the budget of the bytes taken, after more came
within-more : (budget room : ℕ) (a b : List ℕ) → length a + room ≡ budget + 1 → take budget (a ++ b) ≡ take budget a ++ take (room - 1) b
within-more budget room a b e = let k : budget - length a ≡ room - 1 = omega arith in take_both budget a b ∙ ap (λ (n : ℕ). take budget a ++ take n b) k

-- ---- reading

reads-more : (limit : ℕ) (bytes unread more unread' : List ℕ) (gave gave' : List (Option (List ℕ))) (e : Bool)
    → GoesOn limit bytes gave unread → Reads limit (unread ++ more) gave' unread' e → Reads limit (bytes ++ more) (gave ++ gave') unread' e
reads-more limit bytes unread more unread' gave gave' false g r = goes-then limit (bytes ++ more) gave (unread ++ more) gave' unread' (goes-more limit bytes gave unread more g) r
reads-more limit bytes unread more unread' gave gave' true g r = (g.all more ∙ ap (λ (x : List (Option (List ℕ))). gave ++ x) r.0, r.1)

-- ---- the lines given are the first ones

-- the lines given are a front of the lines of these bytes
abbrev pub IsFirst : ℕ → List (Option (List ℕ)) → List ℕ → Type 0
IsFirst limit gave bytes = (rest : List (Option (List ℕ))) × (shown_lines limit (lines bytes) ≡ gave ++ rest)

-- at the end of the input all bytes were within the budget, or the one line given ended with an LF
abbrev EndsWell : List ℕ → List (Option (List ℕ)) → Reading → Type 0
EndsWell bytes gave r = (0 < r.room) ⊎ ((whole_lines bytes ≢ []) × (length gave ≡ 1))

ends_well : (result : Result Next LineFault) (bytes : List ℕ) (r : Reading) (n m : ℕ) → HasCause result bytes r n m → r.ended ≡ true → EndsWell bytes (given result) r
ends_well (Ok (Line v)) bytes r n m h e = elim h [ inl w ↦ inr (w, refl) | inr f ↦ inl f.1 ]
ends_well (Ok TooLong) bytes r n m h e = elim h [ inl w ↦ inr (w, refl) | inr f ↦ inl f.1 ]
ends_well (Ok End) bytes r n m h e = inl h.1
ends_well (Err ReadFault) bytes r n m h e = absurd cc
ends_well (Err InputLong) bytes r n m h e = absurd cc
ends_well (Err NoMemory) bytes r n m h e = absurd cc

-- where one line is all, and an LF ended a line, it ended that one
one_whole : (a b : List (List ℕ)) → a ≢ [] → length (a ++ b) ≡ 1 → b ≡ []
one_whole [] b h e = absurd (h refl)
one_whole (x ∷ a) b h e = nil_from_length b (omega (arith, length-append (x ∷ a) b))

whole_first : (limit : ℕ) (bytes after : List ℕ) (gave : List (Option (List ℕ))) → whole_lines bytes ≢ [] → length gave ≡ 1 → shown_lines limit (lines bytes) ≡ gave → IsFirst limit gave (bytes ++ after)
whole_first limit bytes after gave h one e =
    let w = whole_lines bytes in
    let t = lines_from last_line (tail_from [] bytes) [] in
    let s : lines bytes ≡ w ++ t = ap lines (sym (append-nil bytes)) ∙ lines_split last_line [] bytes [] in
    let n : length (w ++ t) ≡ 1 = omega (arith, ap length s, ap length e, length-map (lines bytes) (shown limit)) in
    let none : t ≡ [] = one_whole w t h n in
    let whole : lines bytes ≡ w = s ∙ (ap (λ (x : List (List ℕ)). w ++ x) none ∙ append-nil w) in
    let more = lines_from last_line (tail_from [] bytes) after in
    (shown_lines limit more, ap (shown_lines limit) (lines_split last_line [] bytes after) ∙ (map-append (shown limit) w more ∙ ap (λ (x : List (Option (List ℕ))). x ++ shown_lines limit more) (ap (shown_lines limit) (sym whole) ∙ e)))

first-next : (limit : ℕ) (bytes after : List ℕ) (gave : List (Option (List ℕ))) (r : Reading) (e : Bool) → r.ended ≡ e → Reads limit bytes gave r.unread e → (e ≡ true → EndsWell bytes gave r) → (0 < r.room → after ≡ []) → IsFirst limit gave (bytes ++ after)
first-next limit bytes after gave r false i reads well none = (shown_lines limit (lines (r.unread ++ after)), reads.all after)
first-next limit bytes after gave r true i reads well none =
    elim (well refl) [
      | inl room ↦ ([], ap (λ (x : List ℕ). shown_lines limit (lines x)) (ap (λ (x : List ℕ). bytes ++ x) (none room) ∙ append-nil bytes) ∙ (reads.0 ∙ sym (append-nil gave)))
      | inr w ↦ whole_first limit bytes after gave w.0 w.1 reads.0
    ]

-- ---- the lines given are among those that an LF ended within the budget

-- bytes can still be taken, or so many lines ended with an LF within the budget
abbrev pub IsWithin : ℕ → ℕ → List ℕ → List (Option (List ℕ)) → Type 0
IsWithin budget room bytes gave = (0 < room) ⊎ (length gave ≤ length (whole_lines (take budget bytes)))

some_line : (a : List (List ℕ)) → a ≢ [] → 1 ≤ length a
some_line [] h = absurd (h refl)
some_line (x ∷ a) h = omega arith

-- of these bytes so many lines were given, and then those of what was unread
whole_count : (limit : ℕ) (bytes more : List ℕ) (gave : List (Option (List ℕ))) (unread : List ℕ) → GoesOn limit bytes gave unread → length (whole_lines (bytes ++ more)) ≡ length gave + length (whole_lines (unread ++ more))
whole_count limit bytes more gave unread g =
    sym (length-map (whole_lines (bytes ++ more)) (shown limit)) ∙ (ap length (g.whole more) ∙ (length-append gave (shown_lines limit (whole_lines (unread ++ more))) ∙ ap (λ (n : ℕ). length gave + n) (length-map (whole_lines (unread ++ more)) (shown limit))))

within-next : (limit : ℕ) (T x : List ℕ) (unread : List ℕ) (gave gave' : List (Option (List ℕ))) (r : Reading) (e : Bool) → r.ended ≡ e → GoesOn limit T gave unread → Reads limit (unread ++ x) gave' r.unread e → (e ≡ true → EndsWell (unread ++ x) gave' r)
    → (0 < r.room) ⊎ (length (gave ++ gave') ≤ length (whole_lines (T ++ x)))
within-next limit T x unread gave gave' r false i goes reads well =
    let n : length (whole_lines ((unread ++ x) ++ [])) ≡ length gave' + length (whole_lines (r.unread ++ [])) = whole_count limit (unread ++ x) [] gave' r.unread reads in
    let m : length (whole_lines (unread ++ x)) ≡ length (whole_lines ((unread ++ x) ++ [])) = ap (λ (y : List ℕ). length (whole_lines y)) (sym (append-nil (unread ++ x))) in
    inr (omega (arith, whole_count limit T x gave unread goes, n, m, length-append gave gave'))
within-next limit T x unread gave gave' r true i goes reads well =
    elim (well refl) [
      | inl room ↦ inl room
      | inr w ↦ inr (omega (arith, whole_count limit T x gave unread goes, some_line (whole_lines (unread ++ x)) w.0, w.1, length-append gave gave'))
    ]

-- ---- a session's reading

-- these bytes were taken and these lines were given
pub record SoFar (limit budget : ℕ) (left left' : Option (List ℕ)) (r : Reading) (bytes : List ℕ) (gave : List (Option (List ℕ))) : Type 0 where
  pub took : TakesAll left left' bytes r.ended
  pub limit_is : r.limit ≡ limit
  pub spent : length bytes + r.room ≡ budget + 1
  pub reads : Reads limit (take budget bytes) gave r.unread r.ended
  pub first : IsFirst limit gave bytes
  pub fewer : length gave + bytes_ahead r ≤ budget
  pub within : IsWithin budget r.room bytes gave

pub progress-none : (limit budget : ℕ) (left : Option (List ℕ)) (r : Reading) → r ≡ record { limit = limit; unread = []; room = budget + 1; ended = false } → SoFar limit budget left left r [] []
progress-none limit budget left r e =
    subst (λ (q : Reading). SoFar limit budget left left q [] []) (sym e) (
    record {
      took = takes_none left left refl;
      limit_is = refl;
      spent = omega arith;
      reads = subst (λ (x : List ℕ). GoesOn limit x [] []) (sym (take-nil budget)) (goes-same limit []);
      first = (shown_lines limit (lines []), refl);
      fewer = omega arith;
      within = inl (omega arith);
    }
    )

progress-on : (limit budget : ℕ) (left left1 left2 : Option (List ℕ)) (r1 r2 : Reading) (bytes : List ℕ) (gave : List (Option (List ℕ))) (n m : ℕ) (result : Result Next LineFault)
    → r1.ended ≡ false → SoFar limit budget left left1 r1 bytes gave → (c : Call r1 r2 left1 left2 n m result) → SoFar limit budget left left2 r2 (bytes ++ c.bytes) (gave ++ given result)
progress-on limit budget left left1 left2 r1 r2 bytes gave n m result e p c =
    let b = c.bytes in
    let s = c.step in
    let x = take (r1.room - 1) b in
    let T = take budget bytes in
    let spent : length (bytes ++ b) + r2.room ≡ budget + 1 = omega (arith, length-append bytes b, s.spent, p.spent) in
    let within : take budget (bytes ++ b) ≡ T ++ x = within-more budget r1.room bytes b p.spent in
    let goes : GoesOn limit T gave r1.unread = subst (λ (v : Bool). Reads limit T gave r1.unread v) e p.reads in
    let reads : Reads limit (r1.unread ++ x) (given result) r2.unread r2.ended = subst (λ (k : ℕ). Reads k (r1.unread ++ x) (given result) r2.unread r2.ended) p.limit_is s.reads in
    let after = drop budget (bytes ++ b) in
    let whole : T ++ (x ++ after) ≡ bytes ++ b = sym (append_assoc T x after) ∙ (ap (λ (y : List ℕ). y ++ after) (sym within) ∙ take-append-drop budget (bytes ++ b)) in
    let f : IsFirst limit (given result) ((r1.unread ++ x) ++ after) = first-next limit (r1.unread ++ x) after (given result) r2 r2.ended refl reads (λ t. ends_well result (r1.unread ++ x) r2 n m c.cause t) (λ room. drop_all budget (bytes ++ b) (omega arith)) in
    record {
      took = TakesAll-then left left1 left2 bytes b r2.ended (subst (λ (v : Bool). TakesAll left left1 bytes v) e p.took) (s.taken e);
      limit_is = s.limit ∙ p.limit_is;
      spent = spent;
      reads = subst (λ (y : List ℕ). Reads limit y (gave ++ given result) r2.unread r2.ended) (sym within) (reads-more limit T r1.unread x r2.unread gave (given result) r2.ended goes reads);
      first = (
        f.0,
        ap (λ (y : List ℕ). shown_lines limit (lines y)) (sym whole) ∙ (goes.all (x ++ after) ∙ (ap (λ (y : List ℕ). gave ++ shown_lines limit (lines y)) (sym (append_assoc r1.unread x after)) ∙ (ap (λ (y : List (Option (List ℕ))). gave ++ y) f.1 ∙ sym (append_assoc gave (given result) f.0)))),
      );
      fewer = omega (arith, length-append gave (given result), s.fewer, p.fewer);
      within = subst (λ (y : List ℕ). (0 < r2.room) ⊎ (length (gave ++ given result) ≤ length (whole_lines y))) (sym within) (within-next limit T x r1.unread gave (given result) r2 r2.ended refl goes reads (λ t. ends_well result (r1.unread ++ x) r2 n m c.cause t));
    }

progress-over : (limit budget : ℕ) (left left1 left2 : Option (List ℕ)) (r1 r2 : Reading) (bytes b : List ℕ) (gave g : List (Option (List ℕ)))
    → SoFar limit budget left left1 r1 bytes gave → b ≡ [] → g ≡ [] → r2 ≡ r1 → left2 ≡ left1 → SoFar limit budget left left2 r2 (bytes ++ b) (gave ++ g)
progress-over limit budget left left1 left2 r1 r2 bytes b gave g p eb eg er el =
    subst (λ (x : List ℕ). SoFar limit budget left left2 r2 x (gave ++ g)) (sym (append-nil bytes) ∙ ap (λ (x : List ℕ). bytes ++ x) (sym eb))
    (subst (λ (x : List (Option (List ℕ))). SoFar limit budget left left2 r2 bytes x) (sym (append-nil gave) ∙ ap (λ (x : List (Option (List ℕ))). gave ++ x) (sym eg))
    (subst (λ (x : Reading). SoFar limit budget left left2 x bytes gave) (sym er)
    (subst (λ (x : Option (List ℕ)). SoFar limit budget left x r1 bytes gave) (sym el) p)))

-- one call more
pub progress-more : (limit budget : ℕ) (left left1 left2 : Option (List ℕ)) (r1 r2 : Reading) (bytes : List ℕ) (gave : List (Option (List ℕ))) (n m : ℕ) (result : Result Next LineFault)
    → SoFar limit budget left left1 r1 bytes gave → (c : Call r1 r2 left1 left2 n m result) → SoFar limit budget left left2 r2 (bytes ++ c.bytes) (gave ++ given result)
progress-more limit budget left left1 left2 r1 r2 bytes gave n m result p c =
    elim r1.ended as (λ (v : Bool). r1.ended ≡ v → SoFar limit budget left left2 r2 (bytes ++ c.bytes) (gave ++ given result)) [
      | true ↦ λ e. let o = c.step.over e in progress-over limit budget left left1 left2 r1 r2 bytes c.bytes gave (given result) p o.0 o.1 o.2 o.3
      | false ↦ λ e. progress-on limit budget left left1 left2 r1 r2 bytes gave n m result e p c
    ] refl
