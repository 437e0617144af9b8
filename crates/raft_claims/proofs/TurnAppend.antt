-- An append that is heard, of a node that ends its event and of one that stops in it.
use Rattle.std.proofs.Common.{◌≡◌, ◌≢◌, ℕ, suc, ◌+◌, ◌-◌, ◌<◌, ◌≤◌, min, max, Bool, true, false, cond, nat_lt, ◌||◌, ◌&&◌, ltb, leb, ◌==◌, All, List, [], ◌∷◌, length, take, drop, Option, Some, None, refl, sym, ap, ◌∙◌, subst, arith, ◌⊎◌, inl, inr, ⊎_elim, length-drop, length-take, length-take-le, take-take, take_all, get_or-drop}
use Rattle.std.proofs.Math.Seq.{take-nil}
use Rattle.std.proofs.lemmas.Bool.{cases_lt, eqb-true, leb-true, ltb-true, ltb-false, and_parts}
use Rattle.std.proofs.lemmas.List.{take-append-le}
use Rattle.std.proofs.lemmas.List.Elements.{All-nil, All-cons}
use Rattle.raft_types.specs.declared.entry.LogEntry.{LogEntry}
use Rattle.raft_types.specs.declared.item.Item.{Item}
use Rattle.raft_types.specs.declared.message.Message.{Message}
use Rattle.raft_types.specs.declared.message.Body.TheVariants.{AppendReply}
use Rattle.raft_types.specs.declared.state.Role.{Role}
use Rattle.raft_types.specs.declared.state.Role.TheVariants.{Follower, Candidate, Leader}
use Rattle.raft_types.specs.Log.{LogParts, nothing, term_at, last_index, log_term, compacted}
use Rattle.raft_types.specs.Items.{stored, number, log_after}
use Rattle.raft_types.specs.Core.{CoreParts, Out, is_candidate, message_to}
use Rattle.raft_types.specs.Append.{is_term, passes, skip, appended, fresh_items, follows, accepts, hears_append}
use Rattle.raft_types.proofs.Appends.{skip_within, skip_past}
use Rattle.raft_spine.specs.Start.{Start}
use Rattle.raft_spine.specs.Spine.{Spine}
use Rattle.raft_spine.specs.Moves.{last_term, Move, CanAll, moved_all, actor}
use Rattle.raft_spine.specs.Decided.{Decided}
use Rattle.raft_spine.proofs.Sound.{Sound}
use Rattle.raft_spine.proofs.Fronts.{agree_down, agree_long}
use Rattle.raft_spine.proofs.Grow.{moves_grow, decided_stays}
use Rattle.raft_claims.specs.Claims.{Piece, AppendClaim, Claim}
use Rattle.raft_claims.specs.Tied.{whole_log, Tied, StoreTied, Turned}
use Rattle.raft_claims.proofs.Whole.{compact, compact_is, last_of_front}
use Rattle.raft_claims.proofs.Append.{number_take, stored_number}
use Rattle.raft_claims.proofs.HearAppend.{Hears, after_same, append_moves, kept_by_moves}
use Rattle.raft_claims.proofs.Compact.{fresh_whole}
use Rattle.raft_claims.proofs.Compacting.{number_compact}
use Rattle.raft_claims.proofs.Turns.{turn_still, turned_as}
use Rattle.raft_claims.proofs.Stores.{tied_stops}

-- what the test above the base says of the whole log
pub term_there : (b : Start) (whole : List LogEntry) (base pi n x : ℕ) → b.base ≤ base → base ≤ b.base + length whole → pi ≡ b.base + n
    → log_term (compact b whole base) pi ≡ Some x → (n ≤ length whole) × (last_term b (take n whole) ≡ x)
term_there b whole base pi n x lo hi e q = at_base (pi == base) refl q
  where
    inside : (z : Bool) → (ltb base pi && leb pi (last_index (compact b whole base))) ≡ z → cond z (Some (term_at (drop (base - b.base) whole) (pi - (base + 1)))) None ≡ Some x → (n ≤ length whole) × (last_term b (take n whole) ≡ x)
    inside true f r =
        let t = and_parts (ltb base pi) (leb pi (last_index (compact b whole base))) f in
        let t0 = ltb-true base pi t.0 in
        let t1 = leb-true pi (last_index (compact b whole base)) t.1 in
        let ld = length-drop (base - b.base) whole in
        let w : n ≤ length whole = omega arith in
        let v : term_at (drop (base - b.base) whole) (pi - (base + 1)) ≡ x = cc in
        let i : n ≡ suc (n - 1) = omega arith in
        let p : base - b.base + (pi - (base + 1)) ≡ n - 1 = omega arith in (
          w,
          ap (λ (y : ℕ). last_term b (take y whole)) i ∙ (last_of_front b (n - 1) whole (omega arith)
              ∙ (ap (term_at whole) (sym p) ∙ (sym (ap (λ (y : LogEntry). y.term) (get_or-drop (base - b.base) whole (pi - (base + 1)) nothing)) ∙ v))),
        )
    inside false f r = absurd (cc)

    at_base : (z : Bool) → (pi == base) ≡ z → cond z (Some (last_term b (take (base - b.base) whole))) (cond (ltb base pi && leb pi (last_index (compact b whole base))) (Some (term_at (drop (base - b.base) whole) (pi - (base + 1)))) None) ≡ Some x → (n ≤ length whole) × (last_term b (take n whole) ≡ x)
    at_base true f r =
        let y = eqb-true pi base f in
        let v : last_term b (take (base - b.base) whole) ≡ x = cc in
        let i : n ≡ base - b.base = omega arith in
        (omega arith, ap (λ (y2 : ℕ). last_term b (take y2 whole)) i ∙ v)
    at_base false f r = inside (ltb base pi && leb pi (last_index (compact b whole base))) refl r

-- the step's test is what the spine needs
test_is : (b : Start) (whole : List LogEntry) (base commit pi pt n : ℕ) → b.base ≤ base → base ≤ commit → base ≤ b.base + length whole → pi ≡ b.base + n
    → passes (compact b whole base) pi pt ≡ true → (n ≤ commit - b.base) ⊎ ((n ≤ length whole) × (last_term b (take n whole) ≡ pt))
test_is b whole base commit pi pt n lo up hi e t = below (leb pi base) refl t
  where
    above : (o : Option ℕ) → log_term (compact b whole base) pi ≡ o → is_term o pt ≡ true → (n ≤ commit - b.base) ⊎ ((n ≤ length whole) × (last_term b (take n whole) ≡ pt))
    above None f r = absurd (cc)
    above (Some x) f r = let y = term_there b whole base pi n x lo hi e f in inr (y.0, y.1 ∙ eqb-true x pt r)

    below : (z : Bool) → leb pi base ≡ z → (z || is_term (log_term (compact b whole base) pi) pt) ≡ true → (n ≤ commit - b.base) ⊎ ((n ≤ length whole) × (last_term b (take n whole) ≡ pt))
    below true f r = let y = leb-true pi base f in inl (omega arith)
    below false f r = above (log_term (compact b whole base) pi) refl r

-- what the node writes, reading its log from the base up, is what it would write over the whole log
fresh_is_whole : (b : Start) (whole : List LogEntry) (c : CoreParts) → c.log ≡ compact b whole c.log.base → b.base ≤ c.log.base → c.log.base ≤ c.commit
    → c.commit ≤ b.base + length whole → (pi n : ℕ) (es : List LogEntry) → pi ≡ b.base + n → fresh_items c pi es ≡ appended b.base (c.commit - b.base) whole n es
fresh_is_whole b whole c is a1 a2 a3 pi n es e =
    let base = c.log.base in
    let g = base - b.base in
    let low : base ≡ b.base + g = omega arith in
    let down : base - pi ≡ g - n = omega arith in
    let place : pi + (base - pi) - base ≡ n + (g - n) - g = omega arith in
    let above : c.commit - base ≡ c.commit - b.base - g = omega arith in
    let all : g + (c.commit - b.base - g) ≡ c.commit - b.base = omega arith in
    ap (λ (l : LogParts). appended base (c.commit - base) l.entries (pi + (base - pi) - base) (drop (base - pi) es)) is
    ∙ (ap (λ (x : ℕ). appended base (c.commit - base) (drop g whole) (pi + (base - pi) - base) (drop x es)) down
    ∙ (ap (λ (x : ℕ). appended base (c.commit - base) (drop g whole) x (drop (g - n) es)) place
    ∙ (ap (λ (x : ℕ). appended base x (drop g whole) (n + (g - n) - g) (drop (g - n) es)) above
    ∙ (ap (λ (x : ℕ). appended x (c.commit - b.base - g) (drop g whole) (n + (g - n) - g) (drop (g - n) es)) low
    ∙ (fresh_whole b.base g (c.commit - b.base - g) n whole es (omega arith)
    ∙ ap (λ (x : ℕ). appended b.base x whole n es) all)))))

-- entries that are numbered from past the base on go into a log as into the whole one
pub numbered_log : (b : Start) (whole : List LogEntry) (l : LogParts) → l ≡ compacted (whole_log b whole) l.base → b.base ≤ l.base → l.base ≤ b.base + length whole
    → (i : ℕ) (xs : List LogEntry) → (0 < length xs → (l.base < i) × (i ≤ b.base + length whole + 1))
    → log_after l (number i xs) ≡ compacted (whole_log b (stored b.base whole (number i xs))) l.base
numbered_log b whole l is lo hi i [] g = is
numbered_log b whole l is lo hi i (x ∷ xs) g =
    let y = g (omega arith) in
    ap (λ (m : LogParts). log_after m (number i (x ∷ xs))) is ∙ number_compact (whole_log b whole) l.base lo hi i (x ∷ xs) y.0 y.1

accepts_log : (c : CoreParts) (i : ℕ) (xs : List LogEntry) (m : ℕ) → (accepts c (number i xs) m).log ≡ log_after c.log (number i xs)
accepts_log c i [] m = refl
accepts_log c i (x ∷ xs) m = refl

-- entries that are numbered from a place on leave the front below it
pub numbered_front : (start place m : ℕ) (l ys : List LogEntry) → (0 < length ys → m ≤ place) → place ≤ length l
    → take m (stored start l (number (start + suc place) ys)) ≡ take m l
numbered_front start place m l [] g w = refl
numbered_front start place m l (y ∷ ys) g w =
    let p = g (omega arith) in
    let k = length-take-le place l w in
    ap (take m) (stored_number start place l y ys w) ∙ (take-append-le m (take place l) (y ∷ ys) (omega arith) ∙ take-take m place l p)

pub follow_role : (r : Role) → (r ≡ Leader → ⊥) → cond (is_candidate r) Follower r ≡ Follower
follow_role Follower n = refl
follow_role Candidate n = refl
follow_role Leader n = absurd (n refl)

-- a node that doesn't lead follows another one
pub follows_tied : (b : Start) (len : List LogEntry → ℕ) (s : Spine) (c : CoreParts) (whole : List LogEntry) → Tied b len s c whole → (from : ℕ) → (c.role ≡ Leader → ⊥)
    → Tied b len s (follows c from) whole
follows_tied b len s c whole ok from n = record {
  is_node = ok.is_node;
  term = ok.term;
  vote = ok.vote;
  log = ok.log;
  stands_for = ok.stands_for;
  size = ok.size;
  based = ok.based;
  known = ok.known;
  short = ok.short;
  decided = ok.decided;
  standing = λ z. absurd (let q : Follower ≡ Candidate = sym (follow_role c.role n) ∙ z in cc);
  leading = λ z. absurd (let q : Follower ≡ Leader = sym (follow_role c.role n) ∙ z in cc);
}

-- a stop in which these entries were written, as moves of the node
abbrev pub Halts : Start → (List LogEntry → ℕ) → Spine → CoreParts → List LogEntry → List Item → Type 0
Halts b len s c whole items = (ms : List Move) × All (λ (m : Move). actor m ≡ c.id) ms × CanAll b s ms
    × StoreTied b len (moved_all ms s) c.id c.term c.vote (log_after c.log items) c.snapshot_len (stored b.base whole items)
    × (take (c.log.base - b.base) (stored b.base whole items) ≡ take (c.log.base - b.base) whole)

-- the test passed
module _ (b : Start) (low : b.base_term ≤ b.term) (len : List LogEntry → ℕ) (s : Spine) (h : Sound b s) (c : CoreParts) (whole : List LogEntry) (ok : Tied b len s c whole)
    (from t pi pt : ℕ) (es : List LogEntry) (mc : ℕ) (claim : AppendClaim b s from t pi pt es mc) (same : t ≡ c.term)
    (pass : passes c.log pi pt ≡ true) where
  here : s.term c.id ≡ t
  here = ok.term ∙ sym same

  log_is : c.log ≡ compact b whole c.log.base
  log_is = let o = ok.based in let o2 = ok.known in let o3 = ok.short in ok.stands_for ∙ compact_is b whole c.log.base o (omega arith)

  passed : (claim.n ≤ c.commit - b.base) ⊎ ((claim.n ≤ length whole) × (last_term b (take claim.n whole) ≡ pt))
  passed =
      let o = ok.based in let o2 = ok.known in let o3 = ok.short in
      test_is b whole c.log.base c.commit pi pt claim.n o o2 (omega arith) claim.index (subst (λ (l : LogParts). passes l pi pt ≡ true) log_is pass)

  hears : Hears b s c.id claim.n (c.commit - b.base) es
  hears =
      let o1 = ok.based in let o3 = ok.known in let o4 = ok.short in
      let long = ap length ok.log in
      record {
        led = subst (λ (u : ℕ). s.leader u ≢ 0) (sym here) claim.led;
        piece = subst (λ (u : ℕ). Piece (s.leader_log u) claim.n es) (sym here) claim.piece;
        decided = subst (λ (l : List LogEntry). Decided b s (s.term c.id) (take (c.commit - b.base) l)) (sym ok.log) (subst (λ (u : ℕ). Decided b s u (take (c.commit - b.base) whole)) (sym ok.term) ok.decided);
        short = omega arith;
        passes = ⊎_elim (λ (x : claim.n ≤ c.commit - b.base). inl x)
            (λ (y : (claim.n ≤ length whole) × (last_term b (take claim.n whole) ≡ pt)). let y0 = y.0 in
            inr (omega arith, ap (λ (l : List LogEntry). last_term b (take claim.n l)) ok.log ∙ (y.1 ∙ (claim.prev ∙ ap (λ (u : ℕ). last_term b (take claim.n (s.leader_log u))) (sym here)))))
            passed;
      }

  fresh_are : fresh_items c pi es ≡ appended b.base (c.commit - b.base) whole claim.n es
  fresh_are = fresh_is_whole b whole c log_is ok.based ok.known ok.short pi claim.n es claim.index

  inside : claim.n + skip (c.commit - b.base) whole claim.n es ≤ length whole
  inside =
      let o1 = ok.based in let o3 = ok.known in let o4 = ok.short in
      let w : claim.n ≤ length whole = ⊎_elim (λ (x : claim.n ≤ c.commit - b.base). let z : claim.n ≤ length whole = omega arith in z)
      (λ (y : (claim.n ≤ length whole) × (last_term b (take claim.n whole) ≡ pt)). y.0) passed in
      skip_within (c.commit - b.base) whole claim.n es (omega arith) w

  past : (j : ℕ) → 0 < length (take j (drop (skip (c.commit - b.base) whole claim.n es) es)) → c.commit - b.base ≤ claim.n + skip (c.commit - b.base) whole claim.n es
  past j some =
      let l = length-take j (drop (skip (c.commit - b.base) whole claim.n es) es) in
      let d = length-drop (skip (c.commit - b.base) whole claim.n es) es in
      skip_past (c.commit - b.base) whole claim.n es (omega arith)

  -- after any number of the items the part up to the commit is as before
  keeps : (j m : ℕ) → m ≤ c.commit - b.base → take m (stored b.base whole (take j (appended b.base (c.commit - b.base) whole claim.n es))) ≡ take m whole
  keeps j m w =
      ap (λ (xs : List Item). take m (stored b.base whole xs)) (number_take j (b.base + suc (claim.n + skip (c.commit - b.base) whole claim.n es)) (drop (skip (c.commit - b.base) whole claim.n es) es))
      ∙ numbered_front b.base (claim.n + skip (c.commit - b.base) whole claim.n es) m whole (take j (drop (skip (c.commit - b.base) whole claim.n es) es))
      (λ (some : 0 < length (take j (drop (skip (c.commit - b.base) whole claim.n es) es))). let p = past j some in omega arith) inside

  -- and the log stands for the whole one
  stands_then : (j : ℕ) → log_after c.log (take j (appended b.base (c.commit - b.base) whole claim.n es))
      ≡ compacted (whole_log b (stored b.base whole (take j (appended b.base (c.commit - b.base) whole claim.n es)))) c.log.base
  stands_then j =
      let o1 = ok.based in let o3 = ok.known in let o4 = ok.short in let w = inside in
      let e = number_take j (b.base + suc (claim.n + skip (c.commit - b.base) whole claim.n es)) (drop (skip (c.commit - b.base) whole claim.n es) es) in
      ap (log_after c.log) e
      ∙ (numbered_log b whole c.log ok.stands_for o1 (omega arith) (b.base + suc (claim.n + skip (c.commit - b.base) whole claim.n es)) (take j (drop (skip (c.commit - b.base) whole claim.n es) es))
      (λ (some : 0 < length (take j (drop (skip (c.commit - b.base) whole claim.n es) es))). let p = past j some in (omega arith, omega arith))
      ∙ ap (λ (xs : List Item). compacted (whole_log b (stored b.base whole xs)) c.log.base) (sym e))

  -- where the node stops after j of the items, its store is tied
  pub stop_append : (j : ℕ) → Halts b len s c whole (take j (fresh_items c pi es))
  stop_append j =
      let o1 = ok.based in let o3 = ok.known in let o4 = ok.short in
      let items = appended b.base (c.commit - b.base) whole claim.n es in
      let l' = stored b.base whole (take j items) in
      let mv = kept_by_moves b s h c.id claim.n (c.commit - b.base) es hears b.base j in
      let s' = moved_all mv.0 s in
      let g = moves_grow b low s h mv.0 mv.1 in
      let k = keeps j (c.commit - b.base) (omega arith) in
      let long : c.commit - b.base ≤ length l' = agree_long (c.commit - b.base) l' whole (omega arith) k in
      let front : take (c.log.base - b.base) l' ≡ take (c.log.base - b.base) whole = keeps j (c.log.base - b.base) (omega arith) in
      let log' : s'.log c.id ≡ l' = mv.2 ∙ ap (λ (l : List LogEntry). stored b.base l (take j (appended b.base (c.commit - b.base) l claim.n es))) ok.log in
      let store : StoreTied b len s' c.id c.term c.vote (log_after c.log (take j items)) c.snapshot_len l' =
      (subst (λ (l : LogParts). StoreTied b len s' c.id c.term c.vote l c.snapshot_len l') (sym (stands_then j))
      (record {
        is_node = ok.is_node;
        term = ap (λ (f : ℕ → ℕ). f c.id) mv.3 ∙ ok.term;
        vote = ap (λ (f : ℕ → ℕ → ℕ). f c.id c.term) mv.4 ∙ ok.vote;
        log = log';
        stands_for = refl;
        size = ok.size ∙ ap len (sym front);
        based = o1;
        short = omega arith;
        decided = subst (λ (l : List LogEntry). Decided b s' c.term l) (sym front)
            (decided_stays b s s' g c.term c.term (take (c.log.base - b.base) whole) (omega arith) (tied_stops b len s c whole ok).decided);
      })) in
      subst (λ (xs : List Item). Halts b len s c whole (take j xs)) (sym fresh_are) (mv.0, mv.5, mv.1, store, front)

  -- where it ends its event, it is tied, and what it answers is true
  accepted : c.role ≡ Follower → Turned b len s c whole
      (record {
        core = accepts c (appended b.base (c.commit - b.base) whole claim.n es) (min mc (pi + length es));
        items = appended b.base (c.commit - b.base) whole claim.n es;
        messages = message_to c from (AppendReply c.term true (pi + length es)) ∷ [];
      }) (stored b.base whole (appended b.base (c.commit - b.base) whole claim.n es))
  accepted role =
      let o1 = ok.based in let o3 = ok.known in let o4 = ok.short in
      let items = appended b.base (c.commit - b.base) whole claim.n es in
      let l' = stored b.base whole items in
      let commit' = max c.commit (min mc (pi + length es)) in
      let mv = append_moves b s h c.id claim.n (c.commit - b.base) es hears b.base in
      let s' = moved_all mv.0 s in
      let g = moves_grow b low s h mv.0 mv.1 in
      let all : take (length items) items ≡ items = take_all (length items) items (omega arith) in
      let keep : (m : ℕ) → m ≤ c.commit - b.base → take m l' ≡ take m whole =
      (λ (m : ℕ) (w : m ≤ c.commit - b.base). ap (λ (xs : List Item). take m (stored b.base whole xs)) (sym all) ∙ keeps (length items) m w) in
      let log' : s'.log c.id ≡ l' = mv.2 ∙ ap (λ (l : List LogEntry). stored b.base l (appended b.base (c.commit - b.base) l claim.n es)) ok.log in
      let share : take (claim.n + length es) l' ≡ take (claim.n + length es) (s.leader_log (s.term c.id)) =
      ap (λ (l : List LogEntry). take (claim.n + length es) (stored b.base l (appended b.base (c.commit - b.base) l claim.n es))) (sym ok.log)
      ∙ after_same b s h c.id claim.n (c.commit - b.base) es hears b.base in
      let ci = claim.index in
      let w = hears.piece.within in
      let long1 : claim.n + length es ≤ length l' = agree_long (claim.n + length es) l' (s.leader_log (s.term c.id)) w share in
      let long2 : c.commit - b.base ≤ length l' = agree_long (c.commit - b.base) l' whole (omega arith) (keep (c.commit - b.base) (omega arith)) in
      let decided : Decided b s c.term (take (commit' - b.base) l') = ⊎_elim
      (λ (x : c.commit < min mc (pi + length es)).
      let q : take (commit' - b.base) l' ≡ take (commit' - b.base) (s.leader_log (s.term c.id)) = agree_down (commit' - b.base) (claim.n + length es) l' (s.leader_log (s.term c.id)) (omega arith) share in
      let d : Decided b s t (take (commit' - b.base) (s.leader_log t)) = claim.commit (commit' - b.base) (omega arith) (omega arith) in
      let d2 : Decided b s (s.term c.id) (take (commit' - b.base) (s.leader_log (s.term c.id))) = subst (λ (u : ℕ). Decided b s u (take (commit' - b.base) (s.leader_log u))) (sym here) d in
      subst (λ (u : ℕ). Decided b s u (take (commit' - b.base) l')) ok.term (subst (λ (l : List LogEntry). Decided b s (s.term c.id) l) (sym q) d2))
      (λ (y : min mc (pi + length es) ≤ c.commit).
      let e : commit' ≡ c.commit = omega arith in
      let q : take (commit' - b.base) l' ≡ take (c.commit - b.base) whole = ap (λ (x : ℕ). take (x - b.base) l') e ∙ keep (c.commit - b.base) (omega arith) in
      subst (λ (l : List LogEntry). Decided b s c.term l) (sym q) ok.decided)
      (cases_lt c.commit (min mc (pi + length es))) in
      let front = keep (c.log.base - b.base) (omega arith) in
      let stands : (accepts c items (min mc (pi + length es))).log ≡ compacted (whole_log b l') c.log.base =
      accepts_log c (b.base + suc (claim.n + skip (c.commit - b.base) whole claim.n es)) (drop (skip (c.commit - b.base) whole claim.n es) es) (min mc (pi + length es))
      ∙ (ap (log_after c.log) (sym all) ∙ (stands_then (length items) ∙ ap (λ (xs : List Item). compacted (whole_log b (stored b.base whole xs)) c.log.base) all)) in
      let shared : claim.n + length es ≤ s'.shared c.id c.term = subst (λ (u : ℕ). claim.n + length es ≤ s'.shared c.id u) ok.term mv.3 in
      let led : s.leader c.term ≢ 0 = subst (λ (u : ℕ). s.leader u ≢ 0) same claim.led in
      record {
        moves = mv.0;
        mine = mv.6;
        can = mv.1;
        tied = record {
          is_node = ok.is_node;
          term = ap (λ (f : ℕ → ℕ). f c.id) mv.4 ∙ ok.term;
          vote = ap (λ (f : ℕ → ℕ → ℕ). f c.id c.term) mv.5 ∙ ok.vote;
          log = log';
          stands_for = stands;
          size = ok.size ∙ ap len (sym front);
          based = o1;
          known = omega arith;
          short = omega arith;
          decided = decided_stays b s s' g c.term c.term (take (commit' - b.base) l') (omega arith) decided;
          standing = λ r. absurd (let z : Follower ≡ Candidate = sym role ∙ r in cc);
          leading = λ r. absurd (let z : Follower ≡ Leader = sym role ∙ r in cc);
        };
        said = All-cons (λ (x : Message). (x.from ≡ c.id) × Claim b len s' x.from x.to x.body) (message_to c from (AppendReply c.term true (pi + length es))) []
            (refl, λ y. ((λ z. led (sym (g.leader c.term led) ∙ z)), omega arith)) (All-nil (λ (x : Message). (x.from ≡ c.id) × Claim b len s' x.from x.to x.body));
        front = front;
      }

  pub turn_accepts : c.role ≡ Follower → Turned b len s c whole
      (record {
        core = accepts c (fresh_items c pi es) (min mc (pi + length es));
        items = fresh_items c pi es;
        messages = message_to c from (AppendReply c.term true (pi + length es)) ∷ [];
      }) (stored b.base whole (fresh_items c pi es))
  turn_accepts role = subst (λ (xs : List Item). Turned b len s c whole
      (record { core = accepts c xs (min mc (pi + length es)); items = xs; messages = message_to c from (AppendReply c.term true (pi + length es)) ∷ [] }) (stored b.base whole xs))
      (sym fresh_are) (accepted role)

-- what an append makes of a node: refused by its term, taken, and refused by the test
abbrev lower : CoreParts → ℕ → Out
lower c from = record { core = c; items = []; messages = message_to c from (AppendReply c.term false 0) ∷ [] }

abbrev taken : CoreParts → ℕ → ℕ → List LogEntry → ℕ → Out
taken c from pi es mc = record {
  core = accepts (follows c from) (fresh_items (follows c from) pi es) (min mc (pi + length es));
  items = fresh_items (follows c from) pi es;
  messages = message_to c from (AppendReply c.term true (pi + length es)) ∷ [];
}

abbrev refused : CoreParts → ℕ → ℕ → Out
refused c from pi = record { core = follows c from; items = []; messages = message_to c from (AppendReply c.term false (min (last_index c.log) (pi - 1))) ∷ [] }

module _ (b : Start) (low : b.base_term ≤ b.term) (len : List LogEntry → ℕ) (s : Spine) (h : Sound b s) (c : CoreParts) (whole : List LogEntry) (ok : Tied b len s c whole)
    (from t pi pt : ℕ) (es : List LogEntry) (mc : ℕ) (claim : AppendClaim b s from t pi pt es mc) (up : t ≤ c.term) (other : from ≢ c.id) where
  says_no : (i : ℕ) → All (λ (x : Message). (x.from ≡ c.id) × Claim b len s x.from x.to x.body) (message_to c from (AppendReply c.term false i) ∷ [])
  says_no i = All-cons (λ (x : Message). (x.from ≡ c.id) × Claim b len s x.from x.to x.body) (message_to c from (AppendReply c.term false i)) []
      (refl, λ z. absurd (let q : false ≡ true = z in cc)) (All-nil (λ (x : Message). (x.from ≡ c.id) × Claim b len s x.from x.to x.body))

  no_leader : t ≡ c.term → c.role ≡ Leader → ⊥
  no_leader e r = other (sym claim.leader ∙ (ap s.leader e ∙ (ok.leading r).leads))

  tested : t ≡ c.term → (g : Bool) → passes c.log pi pt ≡ g → Turned b len s c whole (cond g (taken c from pi es mc) (refused c from pi)) (stored b.base whole (cond g (taken c from pi es mc) (refused c from pi)).items)
  tested e true p =
      let n = no_leader e in
      turned_as b len s c (follows c from) whole refl refl (taken c from pi es mc) (stored b.base whole (fresh_items (follows c from) pi es))
      (turn_accepts b low len s h (follows c from) whole (follows_tied b len s c whole ok from n) from t pi pt es mc claim e p (follow_role c.role n))
  tested e false p =
      turned_as b len s c (follows c from) whole refl refl (refused c from pi) whole
      (turn_still b len s (follows c from) whole (follows_tied b len s c whole ok from (no_leader e)) (refused c from pi) refl (says_no (min (last_index c.log) (pi - 1))))

  -- an append of a term that the node came to
  pub turn_append : Turned b len s c whole (hears_append c from t pi pt es mc) (stored b.base whole (hears_append c from t pi pt es mc).items)
  turn_append = answer (nat_lt t c.term) refl
    where
      answer : (g : Bool) → nat_lt t c.term ≡ g → Turned b len s c whole (cond g (lower c from) (cond (passes c.log pi pt) (taken c from pi es mc) (refused c from pi)))
          (stored b.base whole (cond g (lower c from) (cond (passes c.log pi pt) (taken c from pi es mc) (refused c from pi))).items)
      answer true e = turn_still b len s c whole ok (lower c from) refl (says_no 0)
      answer false e = let g = ltb-false t c.term e in tested (let q : t ≡ c.term = omega (arith, g, up) in q) (passes c.log pi pt) refl

  -- where the node stops in it, after j of the items
  pub stop_hears_append : (j : ℕ) → Halts b len s c whole (take j (hears_append c from t pi pt es mc).items)
  stop_hears_append j = answer (nat_lt t c.term) refl
    where
      nothing : Halts b len s c whole (take j [])
      nothing = subst (λ (xs : List Item). Halts b len s c whole xs) (sym (take-nil j)) ([], All-nil (λ (m : Move). actor m ≡ c.id), tt, tied_stops b len s c whole ok, refl)

      chosen : t ≡ c.term → (g : Bool) → passes c.log pi pt ≡ g → Halts b len s c whole (take j (cond g (taken c from pi es mc) (refused c from pi)).items)
      chosen e true p = stop_append b low len s h (follows c from) whole (follows_tied b len s c whole ok from (no_leader e)) from t pi pt es mc claim e p j
      chosen e false p = nothing

      answer : (g : Bool) → nat_lt t c.term ≡ g → Halts b len s c whole (take j (cond g (lower c from) (cond (passes c.log pi pt) (taken c from pi es mc) (refused c from pi))).items)
      answer true e = nothing
      answer false e = let g = ltb-false t c.term e in chosen (let q : t ≡ c.term = omega (arith, g, up) in q) (passes c.log pi pt) refl
