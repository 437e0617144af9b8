-- A timeout.
use Rattle.std.proofs.Common.{◌≡◌, ℕ, zero, suc, ◌-◌, ◌≤◌, Bool, true, false, cond, ◌||◌, ◌==◌, All, List, [], ◌∷◌, take, map, get_or, set, replicate, Some, refl, sym, ap, ◌∙◌, arith}
use Rattle.std.proofs.lemmas.List.Elements.{All-nil, All-cons, All-map}
use Rattle.raft_types.specs.declared.limits.TheConstants.{MAX_TERM}
use Rattle.raft_types.specs.declared.entry.LogEntry.{LogEntry}
use Rattle.raft_types.specs.declared.message.Message.{Message}
use Rattle.raft_types.specs.declared.state.Role.TheVariants.{Candidate, Leader}
use Rattle.raft_types.specs.Log.{last_index, log_last_term}
use Rattle.raft_types.specs.Items.{stored}
use Rattle.raft_types.specs.Quorum.{ids}
use Rattle.raft_types.specs.Core.{CoreParts, is_leader, is_majority, voted_for, peers, quiet}
use Rattle.raft_types.specs.Election.{stands, ask, leads, times_out}
use Rattle.raft_spine.specs.Start.{Start}
use Rattle.raft_spine.specs.Spine.{Spine}
use Rattle.raft_spine.specs.Moves.{Rises, Stands, Move, Raise, Stand, moved_all, actor}
use Rattle.raft_spine.specs.Laws.{Grows}
use Rattle.raft_spine.proofs.Sound.{Sound}
use Rattle.raft_spine.proofs.At.{at_same, at2_same}
use Rattle.raft_spine.proofs.Raise.{not_elected, raise_sound}
use Rattle.raft_spine.proofs.Run.{moves_sound}
use Rattle.raft_spine.proofs.Grow.{move_grows, grows_both, decided_stays}
use Rattle.raft_claims.specs.Claims.{AskClaim, Claim}
use Rattle.raft_claims.specs.Tied.{Tied, Turned}
use Rattle.raft_claims.proofs.Whole.{compact_is, compact_last, compact_last_term}
use Rattle.raft_claims.proofs.Turns.{turn_quiet, turned_then}
use Rattle.raft_claims.proofs.TurnLeads.{turn_leads}

no_votes : (n k : ℕ) → get_or (replicate n false) k false ≡ true → ⊥
no_votes zero k e = absurd (let q : false ≡ true = e in cc)
no_votes (suc n) zero e = absurd (let q : false ≡ true = e in cc)
no_votes (suc n) (suc k) e = no_votes n k e

-- the only vote is at the place that was set
only_vote : (n i k : ℕ) → get_or (set (replicate n false) i true) k false ≡ true → k ≡ i
only_vote zero i k e = absurd (no_votes zero k e)
only_vote (suc n) zero zero e = refl
only_vote (suc n) zero (suc k) e = absurd (no_votes n k e)
only_vote (suc n) (suc i) zero e = absurd (let q : false ≡ true = e in cc)
only_vote (suc n) (suc i) (suc k) e = ap suc (only_vote n i k e)

-- the spine where the node came to the next term, and where it stands in it
abbrev come : Spine → CoreParts → Spine
come s c = moved_all (Raise c.id (suc c.term) ∷ []) s

abbrev pub stood_up : Spine → CoreParts → Spine
stood_up s c = moved_all (Raise c.id (suc c.term) ∷ Stand c.id ∷ []) s

module _ (b : Start) (len : List LogEntry → ℕ) (s : Spine) (h : Sound b s) (c : CoreParts) (whole : List LogEntry) (ok : Tied b len s c whole) (low : b.term ≤ s.term c.id) where
  pub rises : Rises s c.id (suc c.term)
  rises = let e = ok.term in record { above = omega arith }

  now : (come s c).term c.id ≡ suc c.term
  now = at_same s.term c.id (suc c.term)

  pub may_stand : Stands b (come s c) c.id
  may_stand = let e = ok.term in let n = now in record {
    is_node = ok.is_node;
    late = omega arith;
    no_vote = h.voted_past c.id ((come s c).term c.id) (omega arith);
  }

  both : Grows s (stood_up s c)
  both = grows_both s (come s c) (stood_up s c)
      (move_grows b s h (Raise c.id (suc c.term)) rises)
      (move_grows b (come s c) (raise_sound b s h c.id (suc c.term) rises.above) (Stand c.id) may_stand)

  own_vote : (stood_up s c).voted c.id (suc c.term) ≡ c.id
  own_vote = ap ((stood_up s c).voted c.id) (sym now) ∙ at2_same s.voted c.id ((come s c).term c.id) c.id

  one_vote : (j : ℕ) → 1 ≤ j → voted_for (stands c) j ≡ true → (stood_up s c).voted j (suc c.term) ≡ c.id
  one_vote j n e =
      let q = only_vote c.nodes (c.id - 1) (j - 1) e in
      let z = ok.is_node in
      let same : j ≡ c.id = omega arith in
      ap (λ (x : ℕ). (stood_up s c).voted x (suc c.term)) same ∙ own_vote

  pub stood_tied : Tied b len (stood_up s c) (stands c) whole
  stood_tied = record {
    is_node = ok.is_node;
    term = now;
    vote = own_vote;
    log = ok.log;
    stands_for = ok.stands_for;
    size = ok.size;
    based = ok.based;
    known = ok.known;
    short = ok.short;
    decided = decided_stays b s (stood_up s c) both c.term (suc c.term) (take (c.commit - b.base) whole) (omega arith) ok.decided;
    standing = λ r. record {
      late = (let e = ok.term in omega arith);
      not_yet = not_elected b s h c.id (suc c.term) rises.above ok.is_node;
      votes = one_vote;
    };
    leading = λ r. absurd (let q : Candidate ≡ Leader = r in cc);
  }

  asks : AskClaim b (stood_up s c) c.id (suc c.term) (last_index c.log) (log_last_term c.log)
  asks =
      let order = ok.based in let o2 = ok.known in let o3 = ok.short in
      let is = ok.stands_for ∙ compact_is b whole c.log.base order (omega arith) in
      record {
        log = whole;
        stood = ap ((stood_up s c).stood c.id) (sym now) ∙ (at2_same s.stood c.id ((come s c).term c.id) (Some (s.log c.id)) ∙ ap (λ (l : List LogEntry). Some l) ok.log);
        index = ap last_index is ∙ compact_last b whole c.log.base order (omega arith);
        last = ap log_last_term is ∙ compact_last_term b whole c.log.base order (omega arith);
      }

  -- the node stands for election, and sends messages that are true then
  stand_turn : (ms : List Message) → All (λ (x : Message). (x.from ≡ c.id) × Claim b len (stood_up s c) x.from x.to x.body) ms
      → Turned b len s c whole (record { core = stands c; items = []; messages = ms }) whole
  stand_turn ms said = record {
    moves = Raise c.id (suc c.term) ∷ Stand c.id ∷ [];
    mine = All-cons (λ (m : Move). actor m ≡ c.id) (Raise c.id (suc c.term)) (Stand c.id ∷ []) refl
        (All-cons (λ (m : Move). actor m ≡ c.id) (Stand c.id) [] refl (All-nil (λ (m : Move). actor m ≡ c.id)));
    can = (rises, (may_stand, tt));
    tied = stood_tied;
    said = said;
    front = refl;
  }

  -- a timeout; with one node its own vote is a majority, and it leads at once
  pub turn_timeout : b.base_term ≤ b.term → b.members ≡ ids c.nodes → Turned b len s c whole (times_out c) (stored b.base whole (times_out c).items)
  unfolding stand_turn
  turn_timeout base nodes = answer (is_leader c.role || (c.term == MAX_TERM)) (is_majority (stands c) (voted_for (stands c))) refl
    where
      leads_alone : is_majority (stands c) (voted_for (stands c)) ≡ true → Turned b len s c whole (leads (stands c)) (stored b.base whole (leads (stands c)).items)
      leads_alone most = turned_then b len s c whole (stands c) whole
          (stand_turn [] (All-nil (λ (x : Message). (x.from ≡ c.id) × Claim b len (stood_up s c) x.from x.to x.body))) refl (omega arith) (leads (stands c)) (stored b.base whole (leads (stands c)).items)
          (turn_leads b base len (stood_up s c) (moves_sound b base s h (Raise c.id (suc c.term) ∷ Stand c.id ∷ []) (rises, (may_stand, tt))) (stands c) whole stood_tied nodes refl most)

      answer : (g m : Bool) → is_majority (stands c) (voted_for (stands c)) ≡ m → Turned b len s c whole
          (cond g (quiet c) (cond m (leads (stands c)) (record { core = stands c; items = []; messages = map (ask (stands c)) (peers (stands c)) })))
          (stored b.base whole (cond g (quiet c) (cond m (leads (stands c)) (record { core = stands c; items = []; messages = map (ask (stands c)) (peers (stands c)) }))).items)
      answer true m e = turn_quiet b len s c whole ok
      answer false true e = leads_alone e
      answer false false e = stand_turn (map (ask (stands c)) (peers (stands c)))
          (All-map (λ (x : Message). (x.from ≡ c.id) × Claim b len (stood_up s c) x.from x.to x.body) (ask (stands c)) (peers (stands c)) (λ k d l. (refl, asks)))
