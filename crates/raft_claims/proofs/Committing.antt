-- What a leader commits is decided.
use Rattle.std.proofs.Common.{◌≡◌, ℕ, zero, suc, ◌+◌, ◌-◌, ◌<◌, ◌≤◌, Bool, true, false, cond, ◌==◌, List, [], length, take, refl, sym, ap, ◌∙◌, subst, arith, inr, length-take}
use Rattle.std.proofs.lemmas.Bool.{eqb-true, and_parts}
use Rattle.std.proofs.lemmas.List.Elements.{All-nil}
use Rattle.raft_types.specs.declared.entry.LogEntry.{LogEntry}
use Rattle.raft_types.specs.declared.state.Role.TheVariants.{Candidate, Leader}
use Rattle.raft_types.specs.Log.{LogParts, term_at, last_index, log_term, or_zero}
use Rattle.raft_types.specs.Quorum.{ids}
use Rattle.raft_types.specs.Core.{CoreParts, is_majority}
use Rattle.raft_types.specs.Commit.{holds, may_commit, commit_from, committed}
use Rattle.raft_types.specs.Send.{to_all}
use Rattle.raft_types.proofs.Commits.{commit_range}
use Rattle.raft_spine.specs.Logs.{IsOfTerm, IsFront}
use Rattle.raft_spine.specs.Start.{Start}
use Rattle.raft_spine.specs.Spine.{Spine}
use Rattle.raft_spine.specs.Moves.{Move, last_term, actor}
use Rattle.raft_spine.specs.Decided.{Decided}
use Rattle.raft_spine.proofs.Sound.{Sound}
use Rattle.raft_spine.proofs.Fronts.{whole as all_front, front_front}
use Rattle.raft_claims.specs.Tied.{Tied, Turned}
use Rattle.raft_claims.proofs.Whole.{last_of_front}
use Rattle.raft_claims.proofs.Holders.{holders_are}
use Rattle.raft_claims.proofs.Stores.{tied_last}
use Rattle.raft_claims.proofs.Sent.{compact_term, log_is, leader_whole, sent_claims}

module _ (b : Start) (len : List LogEntry → ℕ) (s : Spine) (h : Sound b s) (c : CoreParts) (whole : List LogEntry) (ok : Tied b len s c whole) (role : c.role ≡ Leader)
    (nodes : b.members ≡ ids c.nodes) where
  decided_at : (k i : ℕ) → k ≡ b.base + suc i → c.commit < k → i < length whole → may_commit c k ≡ true → Decided b s c.term (take (k - b.base) whole)
  decided_at k i e lo w g =
      let o = ok.based in let o2 = ok.known in
      let x = ok.leading role in
      let lw = leader_whole b len s h c whole ok role in
      let g0 = and_parts (or_zero (log_term c.log k) == c.term) (is_majority c (holds c k)) g in
      let t0 : or_zero (log_term c.log k) ≡ c.term = eqb-true (or_zero (log_term c.log k)) c.term g0.0 in
      let t1 : or_zero (log_term c.log k) ≡ last_term b (take (suc i) whole) =
      ap (λ (l : LogParts). or_zero (log_term l k)) (log_is b len s h c whole ok role) ∙ ap or_zero (compact_term b whole c.log.base (suc i) k o (omega arith) e w) in
      let t2 : term_at whole i ≡ c.term = sym (last_of_front b i whole w) ∙ (sym t1 ∙ t0) in
      let own0 : IsOfTerm whole c.term i = record { below = w; term = t2 } in
      let own = subst (λ (l : List LogEntry). IsOfTerm l c.term i) (sym lw) own0 in
      let m : is_majority c (holds c (b.base + suc i)) ≡ true = subst (λ (n : ℕ). is_majority c (holds c n) ≡ true) e g0.1 in
      let seen = holders_are b c s c.term i (λ z. ok.is_node (sym x.leads ∙ z)) own nodes x.matches (let q = x.own in omega (arith, q)) m in
      let p : k - b.base ≡ suc i = omega arith in
      let f : IsFront whole (s.leader_log c.term) = subst (λ (l : List LogEntry). IsFront whole l) (sym lw) (all_front whole) in
      let d : Decided b s c.term (take (suc i) whole) = record {
        how = inr (record {
          term = c.term;
          place = i;
          up_to = omega arith;
          committed = seen;
          short = (let z = length-take (suc i) whole in omega (arith, z));
          front = front_front (suc i) whole (s.leader_log c.term) f;
        });
      } in
      subst (λ (n : ℕ). Decided b s c.term (take n whole)) (sym p) d

  pub commit_decided : (n : ℕ) → c.commit + n ≤ b.base + length whole → Decided b s c.term (take (commit_from c n - b.base) whole)
  commit_decided zero w = ok.decided
  commit_decided (suc n) w = chosen (commit_decided n (omega arith)) (may_commit c (c.commit + suc n)) refl
    where
      chosen : Decided b s c.term (take (commit_from c n - b.base) whole) → (g : Bool) → may_commit c (c.commit + suc n) ≡ g
          → Decided b s c.term (take (cond g (c.commit + suc n) (commit_from c n) - b.base) whole)
      chosen r true e = let o = ok.based in let o2 = ok.known in decided_at (c.commit + suc n) (c.commit + n - b.base) (omega arith) (omega arith) (omega arith) e
      chosen r false e = r

  pub committed_tied : Tied b len s (committed c) whole
  committed_tied =
      let o2 = ok.known in let o3 = ok.short in
      let l = tied_last b len s c whole ok in
      let r = commit_range c (last_index c.log - c.commit) in
      let r0 = r.0 in let r1 = r.1 in
      record {
        is_node = ok.is_node;
        term = ok.term;
        vote = ok.vote;
        log = ok.log;
        stands_for = ok.stands_for;
        size = ok.size;
        based = ok.based;
        known = omega (arith, r0);
        short = omega (arith, r1, l);
        decided = commit_decided (last_index c.log - c.commit) (omega (arith, l));
        standing = λ z. absurd (let q : Leader ≡ Candidate = sym role ∙ z in cc);
        leading = λ z. let x = ok.leading z in record { leads = x.leads; own = x.own; matches = x.matches; nexts = x.nexts };
      }

  -- a leader commits what it may and sends to every peer
  pub turn_committed : Turned b len s c whole (record { core = committed c; items = []; messages = to_all (committed c) }) whole
  turn_committed = record {
    moves = [];
    mine = All-nil (λ (m : Move). actor m ≡ c.id);
    can = tt;
    tied = committed_tied;
    said = sent_claims b len s h (committed c) whole committed_tied role;
    front = refl;
  }
