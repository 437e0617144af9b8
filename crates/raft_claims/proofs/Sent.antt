-- What a leader sends is true.
use Rattle.std.proofs.Common.{◌≡◌, ◌≢◌, ℕ, suc, ◌+◌, ◌-◌, ◌<◌, ◌≤◌, Bool, true, false, cond, nat_le, All, List, length, take, drop, get_or, Some, refl, sym, ap, ◌∙◌, subst, arith, ⊎_elim, take-take, length-take, length-drop, get_or-drop, drop-drop}
use Rattle.std.proofs.lemmas.Bool.{cases_eq, leb-false}
use Rattle.std.proofs.lemmas.List.{take_min}
use Rattle.std.proofs.lemmas.List.Elements.{All-map}
use Rattle.raft_types.specs.declared.limits.TheConstants.{MAX_BATCH}
use Rattle.raft_types.specs.declared.entry.LogEntry.{LogEntry}
use Rattle.raft_types.specs.declared.message.Message.{Message}
use Rattle.raft_types.specs.declared.state.Role.TheVariants.{Leader}
use Rattle.raft_types.specs.Log.{LogParts, nothing, term_at, log_term, or_zero, batch}
use Rattle.raft_types.specs.Core.{CoreParts, next_of, peers}
use Rattle.raft_types.specs.Send.{chunk_from, append_from, sent_to, to_all}
use Rattle.raft_types.specs.Step.{beats}
use Rattle.raft_spine.specs.Start.{Start}
use Rattle.raft_spine.specs.Spine.{Spine}
use Rattle.raft_spine.specs.Moves.{last_term}
use Rattle.raft_spine.specs.Decided.{Decided}
use Rattle.raft_spine.proofs.Sound.{Sound}
use Rattle.raft_spine.proofs.Grow.{decided_front}
use Rattle.raft_claims.specs.Claims.{Piece, AppendClaim, ChunkClaim, Claim}
use Rattle.raft_claims.specs.Tied.{Tied, Turned}
use Rattle.raft_claims.proofs.Whole.{compact, compact_is, last_of_front}
use Rattle.raft_claims.proofs.Stores.{tied_stops}
use Rattle.raft_claims.proofs.Turns.{turn_still}

-- some entries from a place on are a piece
pub piece_of : (most n : ℕ) (l : List LogEntry) → n ≤ length l → Piece l n (take most (drop n l))
piece_of most n l h =
    let a = length-take most (drop n l) in
    let d = length-drop n l in
    record {
      within = omega (arith, a, d);
      is = ap (λ (k : ℕ). take k (drop n l)) a ∙ take_min most (drop n l);
    }

-- the term at an index of a compacted log is the last of the front up to it
at_base : (b : Start) (l : List LogEntry) (base k : ℕ) → k ≡ base → log_term (compact b l base) k ≡ Some (last_term b (take (base - b.base) l))
at_base b l base k h = grind arith

above_base : (b : Start) (l : List LogEntry) (base k : ℕ) → base < k → k ≤ base + length (drop (base - b.base) l)
    → log_term (compact b l base) k ≡ Some (term_at (drop (base - b.base) l) (k - (base + 1)))
above_base b l base k h w = grind arith

pub compact_term : (b : Start) (l : List LogEntry) (base n k : ℕ) → b.base ≤ base → base ≤ k → k ≡ b.base + n → n ≤ length l
    → log_term (compact b l base) k ≡ Some (last_term b (take n l))
compact_term b l base n k lo hi e w = ⊎_elim
    (λ (q : k ≡ base). let m : base - b.base ≡ n = omega arith in at_base b l base k q ∙ ap (λ (x : ℕ). Some (last_term b (take x l))) m)
    (λ (q : k ≢ base).
    let d = length-drop (base - b.base) l in
    let i : suc (n - 1) ≡ n = omega arith in
    let p : base - b.base + (k - (base + 1)) ≡ n - 1 = omega arith in
    let t : term_at (drop (base - b.base) l) (k - (base + 1)) ≡ last_term b (take n l) =
    ap (λ (z : LogEntry). z.term) (get_or-drop (base - b.base) l (k - (base + 1)) nothing)
    ∙ (ap (term_at l) p ∙ (sym (last_of_front b (n - 1) l (omega arith)) ∙ ap (λ (x : ℕ). last_term b (take x l)) i)) in
    above_base b l base k (omega arith) (omega arith) ∙ ap (λ (x : ℕ). Some x) t)
    (cases_eq k base)

module _ (b : Start) (len : List LogEntry → ℕ) (s : Spine) (h : Sound b s) (c : CoreParts) (whole : List LogEntry) (ok : Tied b len s c whole) (role : c.role ≡ Leader) where
  pub leader_whole : s.leader_log c.term ≡ whole
  leader_whole = ap s.leader_log (sym ok.term) ∙ (sym (h.own_log c.id ok.is_node (ap s.leader ok.term ∙ (ok.leading role).leads)) ∙ ok.log)

  pub log_is : c.log ≡ compact b whole c.log.base
  log_is = let o = ok.based in let o2 = ok.known in let o3 = ok.short in ok.stands_for ∙ compact_is b whole c.log.base o (omega arith)

  -- a piece of the snapshot
  pub chunk_claim : ChunkClaim b len s c.id c.term c.log.base c.log.base_term c.snapshot_len
  chunk_claim =
      let o = ok.based in let o2 = ok.known in let o3 = ok.short in
      let n = c.log.base - b.base in
      let x = ok.leading role in
      let w = leader_whole in
      record {
        led = λ z. ok.is_node (sym x.leads ∙ z);
        leader = x.leads;
        n = n;
        index = omega arith;
        long = (let e = ap length w in omega (arith, e));
        last = ap (λ (l : LogParts). l.base_term) log_is ∙ ap (λ (l : List LogEntry). last_term b (take n l)) (sym w);
        decided = subst (λ (l : List LogEntry). Decided b s c.term (take n l)) (sym w) (tied_stops b len s c whole ok).decided;
        size = ok.size ∙ ap (λ (l : List LogEntry). len (take n l)) (sym w);
      }

  -- entries from an index on
  pub append_claim : (i : ℕ) → c.log.base < i → i ≤ b.base + length whole + 1
      → AppendClaim b s c.id c.term (i - 1) (or_zero (log_term c.log (i - 1))) (batch c.log i MAX_BATCH) c.commit
  append_claim i lo hi =
      let o = ok.based in let o2 = ok.known in let o3 = ok.short in
      let g = c.log.base - b.base in
      let n = i - 1 - b.base in
      let x = ok.leading role in
      let w = leader_whole in
      let p : g + (i - (c.log.base + 1)) ≡ n = omega arith in
      let es : batch c.log i MAX_BATCH ≡ take MAX_BATCH (drop n whole) =
      ap (λ (l : LogParts). take MAX_BATCH (drop (i - (c.log.base + 1)) l.entries)) log_is
      ∙ ap (take MAX_BATCH) (drop-drop (i - (c.log.base + 1)) g whole ∙ ap (λ (k : ℕ). drop k whole) p) in
      record {
        led = λ z. ok.is_node (sym x.leads ∙ z);
        leader = x.leads;
        n = n;
        index = omega arith;
        piece = subst (λ (l : List LogEntry). Piece l n (batch c.log i MAX_BATCH)) (sym w)
            (subst (λ (r : List LogEntry). Piece whole n r) (sym es) (piece_of MAX_BATCH n whole (omega arith)));
        prev = ap (λ (l : LogParts). or_zero (log_term l (i - 1))) log_is
            ∙ (ap or_zero (compact_term b whole c.log.base n (i - 1) o (omega arith) (omega arith) (omega arith))
            ∙ ap (λ (l : List LogEntry). last_term b (take n l)) (sym w));
        commit = λ k le short. subst (λ (l : List LogEntry). Decided b s c.term (take k l)) (sym w)
            (subst (λ (q : List LogEntry). Decided b s c.term q) (take-take k (c.commit - b.base) whole (omega arith))
            (decided_front b s c.term k (take (c.commit - b.base) whole) ok.decided));
      }

  pub sent_claim : (j : ℕ) → Claim b len s c.id j (sent_to c j).body
  sent_claim j = answer (nat_le (next_of c j) c.log.base) refl
    where
      answer : (g : Bool) → nat_le (next_of c j) c.log.base ≡ g → Claim b len s c.id j (cond g (chunk_from c 0) (append_from c (next_of c j)))
      answer true e = chunk_claim
      answer false e = append_claim (next_of c j) (leb-false (next_of c j) c.log.base e) ((ok.leading role).nexts j)

  pub sent_claims : All (λ (x : Message). (x.from ≡ c.id) × Claim b len s x.from x.to x.body) (to_all c)
  sent_claims = All-map (λ (x : Message). (x.from ≡ c.id) × Claim b len s x.from x.to x.body) (sent_to c) (peers c) (λ k d l. (refl, sent_claim (get_or (peers c) k d)))

  pub turn_beat : Turned b len s c whole (beats c) whole
  turn_beat = turn_still b len s c whole ok (beats c) refl sent_claims
