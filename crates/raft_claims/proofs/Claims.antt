-- Claims stay true.
use Rattle.std.proofs.Common.{◌≡◌, ◌≢◌, ℕ, ◌+◌, ◌≤◌, List, length, take, drop, sym, ap, ◌∙◌, subst, arith, inl, inr, ⊎_elim}
use Rattle.std.proofs.lemmas.List.{drop-take}
use Rattle.raft_types.specs.declared.entry.LogEntry.{LogEntry}
use Rattle.raft_types.specs.declared.message.Body.{Body}
use Rattle.raft_types.specs.declared.message.Body.TheVariants.{Vote, VoteReply, Append, AppendReply, Chunk, ChunkReply}
use Rattle.raft_spine.specs.Start.{Start}
use Rattle.raft_spine.specs.Spine.{Spine}
use Rattle.raft_spine.specs.Moves.{last_term}
use Rattle.raft_spine.specs.Decided.{Decided}
use Rattle.raft_spine.specs.Laws.{Grows}
use Rattle.raft_claims.specs.Claims.{Piece, AppendClaim, ChunkClaim, HeldClaim, Claim}
use Rattle.raft_spine.proofs.Fronts.{agree_long}
use Rattle.raft_spine.proofs.Grow.{front_stays, decided_stays}

-- a piece of a front is a piece
pub piece_stays : (m k : List LogEntry) (p : ℕ) (es : List LogEntry) → take (p + length es) k ≡ take (p + length es) m → Piece m p es → Piece k p es
piece_stays m k p es e pc = record {
  within = agree_long (p + length es) k m pc.within e;
  is = sym (drop-take p (length es) k) ∙ (ap (drop p) e ∙ (drop-take p (length es) m ∙ pc.is));
}

pub append_stays : (b : Start) (s s' : Spine) → Grows s s' → (from t pi pt : ℕ) (es : List LogEntry) (mc : ℕ) → AppendClaim b s from t pi pt es mc → AppendClaim b s' from t pi pt es mc
append_stays b s s' g from t pi pt es mc c =
    let w = c.piece.within in
    let front : (n : ℕ) → n ≤ length (s.leader_log t) → take n (s'.leader_log t) ≡ take n (s.leader_log t) = λ (n : ℕ) (h : n ≤ length (s.leader_log t)). front_stays s s' g t n c.led h in
    record {
      led = λ z. c.led (sym (g.leader t c.led) ∙ z);
      leader = g.leader t c.led ∙ c.leader;
      n = c.n;
      index = c.index;
      piece = piece_stays (s.leader_log t) (s'.leader_log t) c.n es (front (c.n + length es) w) c.piece;
      prev = c.prev ∙ ap (last_term b) (sym (front c.n (omega arith)));
      commit = λ k le short. subst (λ (l : List LogEntry). Decided b s' t l) (sym (front k (omega arith))) (decided_stays b s s' g t t (take k (s.leader_log t)) (omega arith) (c.commit k le short));
    }

pub chunk_stays : (b : Start) (len : List LogEntry → ℕ) (s s' : Spine) → Grows s s' → (from t i bt total : ℕ) → ChunkClaim b len s from t i bt total → ChunkClaim b len s' from t i bt total
chunk_stays b len s s' g from t i bt total c =
    let front = front_stays s s' g t c.n c.led c.long in
    record {
      led = λ z. c.led (sym (g.leader t c.led) ∙ z);
      leader = g.leader t c.led ∙ c.leader;
      n = c.n;
      index = c.index;
      long = agree_long c.n (s'.leader_log t) (s.leader_log t) c.long front;
      last = c.last ∙ ap (last_term b) (sym front);
      decided = subst (λ (l : List LogEntry). Decided b s' t l) (sym front) (decided_stays b s s' g t t (take c.n (s.leader_log t)) (omega arith) c.decided);
      size = c.size ∙ ap len (sym front);
    }

pub held_stays : (b : Start) (len : List LogEntry → ℕ) (s s' : Spine) → Grows s s' → (from t i off : ℕ) → HeldClaim b len s from t i off → HeldClaim b len s' from t i off
held_stays b len s s' g from t i off c =
    let front = front_stays s s' g t c.n c.led c.long in
    record {
      led = λ z. c.led (sym (g.leader t c.led) ∙ z);
      n = c.n;
      index = c.index;
      long = agree_long c.n (s'.leader_log t) (s.leader_log t) c.long front;
      whole = λ le. let a = g.shared from t in let w = c.whole (subst (λ (l : List LogEntry). len l ≤ off) front le) in omega arith;
    }

pub claim_stays : (b : Start) (len : List LogEntry → ℕ) (s s' : Spine) → Grows s s' → (from to : ℕ) (m : Body) → to ≢ 0 → Claim b len s from to m → Claim b len s' from to m
claim_stays b len s s' g from to (Vote t li lt) nz c = record { log = c.log; stood = g.stood from t c.log c.stood; index = c.index; last = c.last }
claim_stays b len s s' g from to (VoteReply t r) nz c = λ e. g.voted from t (λ z. nz (sym (c e) ∙ z)) ∙ c e
claim_stays b len s s' g from to (Append t pi pt es mc) nz c = append_stays b s s' g from t pi pt es mc c
claim_stays b len s s' g from to (AppendReply t ok i) nz c = λ e. let x = c e in let a = g.shared from t in let x1 = x.1 in ((λ z. x.0 (sym (g.leader t x.0) ∙ z)), omega arith)
claim_stays b len s s' g from to (Chunk t i bt off total bytes) nz c = chunk_stays b len s s' g from t i bt total c
claim_stays b len s s' g from to (ChunkReply t i off) nz c = ⊎_elim (λ (z : off ≡ 0). inl z) (λ (x : HeldClaim b len s from t i off). inr (held_stays b len s s' g from t i off x)) c
