-- A reply to a vote.
use Rattle.std.proofs.Common.{◌≡◌, ℕ, zero, suc, ◌-◌, ◌≤◌, Bool, true, false, cond, ◌&&◌, ◌==◌, List, [], ◌∷◌, get_or, set, refl, sym, ap, ◌∙◌, arith, ◌⊎◌, inl, inr, ⊎_elim}
use Rattle.std.proofs.lemmas.Bool.{eqb-true, and_parts}
use Rattle.raft_types.specs.declared.entry.LogEntry.{LogEntry}
use Rattle.raft_types.specs.declared.state.Role.{Role}
use Rattle.raft_types.specs.declared.state.Role.TheVariants.{Follower, Candidate, Leader}
use Rattle.raft_types.specs.Items.{stored}
use Rattle.raft_types.specs.Quorum.{ids}
use Rattle.raft_types.specs.Core.{CoreParts, is_candidate, is_majority, voted_for, quiet}
use Rattle.raft_types.specs.Election.{with_vote_of, leads, hears_vote_reply}
use Rattle.raft_spine.specs.Start.{Start}
use Rattle.raft_spine.specs.Spine.{Spine}
use Rattle.raft_spine.proofs.Sound.{Sound}
use Rattle.raft_claims.specs.Tied.{Tied, Turned}
use Rattle.raft_claims.proofs.Turns.{turn_quiet, turned_as}
use Rattle.raft_claims.proofs.TurnLeads.{turn_leads}

set_vote : (xs : List Bool) (i k : ℕ) → get_or (set xs i true) k false ≡ true → (k ≡ i) ⊎ (get_or xs k false ≡ true)
set_vote [] i k e = inr e
set_vote (x ∷ xs) zero zero e = inl refl
set_vote (x ∷ xs) zero (suc k) e = inr e
set_vote (x ∷ xs) (suc i) zero e = inr e
set_vote (x ∷ xs) (suc i) (suc k) e = ⊎_elim (λ (q : k ≡ i). inl (ap suc q)) (λ (q : get_or xs k false ≡ true). inr q) (set_vote xs i k e)

candidate_role : (r : Role) → is_candidate r ≡ true → r ≡ Candidate
candidate_role Follower e = absurd (let q : false ≡ true = e in cc)
candidate_role Candidate e = refl
candidate_role Leader e = absurd (let q : false ≡ true = e in cc)

module _ (b : Start) (len : List LogEntry → ℕ) (s : Spine) (c : CoreParts) (whole : List LogEntry) (ok : Tied b len s c whole)
    (from t : ℕ) (granted : Bool) (node : 1 ≤ from) (claim : granted ≡ true → s.voted from t ≡ c.id) where
  -- the vote is counted
  pub counted_tied : (is_candidate c.role && ((t == c.term) && granted)) ≡ true → Tied b len s (with_vote_of c from) whole
  counted_tied g =
      let g0 = and_parts (is_candidate c.role) ((t == c.term) && granted) g in
      let g1 = and_parts (t == c.term) granted g0.1 in
      let role : c.role ≡ Candidate = candidate_role c.role g0.0 in
      let v : s.voted from c.term ≡ c.id = ap (s.voted from) (sym (eqb-true t c.term g1.0)) ∙ claim g1.1 in
      record {
        is_node = ok.is_node;
        term = ok.term;
        vote = ok.vote;
        log = ok.log;
        stands_for = ok.stands_for;
        size = ok.size;
        based = ok.based;
        known = ok.known;
        short = ok.short;
        decided = ok.decided;
        standing = λ r. let x = ok.standing r in record {
          late = x.late;
          not_yet = x.not_yet;
          votes = λ j n e. ⊎_elim
              (λ (q : j - 1 ≡ from - 1). let same : j ≡ from = omega arith in ap (λ (y : ℕ). s.voted y c.term) same ∙ v)
              (λ (q : get_or c.votes (j - 1) false ≡ true). x.votes j n q)
              (set_vote c.votes (from - 1) (j - 1) e);
        };
        leading = λ r. absurd (let q : Candidate ≡ Leader = sym role ∙ r in cc);
      }

  still : Tied b len s (with_vote_of c from) whole → Turned b len s c whole (quiet (with_vote_of c from)) whole
  still d = let q = turn_quiet b len s (with_vote_of c from) whole d in record { moves = q.moves; mine = q.mine; can = q.can; tied = q.tied; said = q.said; front = q.front }

  -- the reply is counted where it counts, and with a majority the node leads
  pub turn_vote_reply : b.base_term ≤ b.term → Sound b s → b.members ≡ ids c.nodes → Turned b len s c whole (hears_vote_reply c from t granted) (stored b.base whole (hears_vote_reply c from t granted).items)
  turn_vote_reply low h nodes = answer (is_candidate c.role && ((t == c.term) && granted)) refl (is_majority (with_vote_of c from) (voted_for (with_vote_of c from))) refl
    where
      answer : (g : Bool) → (is_candidate c.role && ((t == c.term) && granted)) ≡ g → (m : Bool) → is_majority (with_vote_of c from) (voted_for (with_vote_of c from)) ≡ m
          → Turned b len s c whole (cond g (cond m (leads (with_vote_of c from)) (quiet (with_vote_of c from))) (quiet c))
          (stored b.base whole (cond g (cond m (leads (with_vote_of c from)) (quiet (with_vote_of c from))) (quiet c)).items)
      answer false e m f = turn_quiet b len s c whole ok
      answer true e true f = turned_as b len s c (with_vote_of c from) whole refl refl (leads (with_vote_of c from)) (stored b.base whole (leads (with_vote_of c from)).items)
          (turn_leads b low len s h (with_vote_of c from) whole (counted_tied e) nodes (candidate_role c.role (and_parts (is_candidate c.role) ((t == c.term) && granted) e).0) f)
      answer true e false f = turned_as b len s c (with_vote_of c from) whole refl refl (quiet (with_vote_of c from)) whole (turn_quiet b len s (with_vote_of c from) whole (counted_tied e))
