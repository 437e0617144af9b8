-- A candidate with the votes of a majority comes to lead.
use Rattle.std.proofs.Common.{◌≡◌, ◌≢◌, ℕ, zero, suc, ◌+◌, ◌-◌, ◌≤◌, true, ◌==◌, List, [], ◌∷◌, length, take, get_or, replicate, refl, sym, ap, ◌∙◌, subst, arith, ⊎_elim}
use Rattle.std.proofs.lemmas.Bool.{cases_eq}
use Rattle.std.proofs.lemmas.List.Elements.{All-nil, All-cons}
use Rattle.raft_types.specs.declared.entry.LogEntry.{LogEntry}
use Rattle.raft_types.specs.declared.message.Message.{Message}
use Rattle.raft_types.specs.declared.state.Role.TheVariants.{Candidate, Leader}
use Rattle.raft_types.specs.Log.{last_index}
use Rattle.raft_types.specs.Quorum.{ids}
use Rattle.raft_types.specs.Core.{CoreParts, is_majority, voted_for, quiet}
use Rattle.raft_types.specs.Election.{elected}
use Rattle.raft_spine.specs.Quorum.{IsQuorum}
use Rattle.raft_spine.specs.Start.{Start}
use Rattle.raft_spine.specs.Spine.{Spine}
use Rattle.raft_spine.specs.Moves.{Leads, Agrees, Move, Lead, Agree, moved_all, actor}
use Rattle.raft_spine.specs.Laws.{Grows}
use Rattle.raft_spine.proofs.Sound.{Sound}
use Rattle.raft_spine.proofs.At.{at_same, at2_same}
use Rattle.raft_spine.proofs.Lead.{free_term, lead_sound}
use Rattle.raft_spine.proofs.Grow.{move_grows, grows_both, decided_stays}
use Rattle.raft_claims.specs.Claims.{Claim}
use Rattle.raft_claims.specs.Tied.{Tied, Turned}
use Rattle.raft_claims.proofs.Whole.{compact_is, compact_last}
use Rattle.raft_claims.proofs.Holders.{votes_are}

at_most : (n i v : ℕ) → get_or (replicate n v) i 0 ≤ v
at_most zero i v = omega arith
at_most (suc n) zero v = omega arith
at_most (suc n) (suc i) v = at_most n i v

-- the spine where the node leads, and where it counts itself too
abbrev lead_up : Spine → CoreParts → Spine
lead_up s c = moved_all (Lead c.id ∷ []) s

abbrev pub led_up : Spine → CoreParts → List LogEntry → Spine
led_up s c whole = moved_all (Lead c.id ∷ Agree c.id (length whole) ∷ []) s

module _ (b : Start) (len : List LogEntry → ℕ) (s : Spine) (h : Sound b s) (c : CoreParts) (whole : List LogEntry) (ok : Tied b len s c whole)
    (nodes : b.members ≡ ids c.nodes) (role : c.role ≡ Candidate) (most : is_majority c (voted_for c) ≡ true) where
  may_lead : Leads b s c.id
  may_lead = let x = ok.standing role in record {
    is_node = ok.is_node;
    late = (let e = ok.term in let l = x.late in omega arith);
    not_yet = λ z. x.not_yet (ap s.leader (sym ok.term) ∙ z);
    votes = subst (λ (t : ℕ). IsQuorum b.members (λ j. s.voted j t == c.id)) (sym ok.term)
        (subst (λ (ms : List ℕ). IsQuorum ms (λ j. s.voted j c.term == c.id)) (sym nodes) (votes_are c s c.term x.votes most));
  }

  not_shared : s.shared c.id (s.term c.id) ≡ 0
  not_shared = ⊎_elim
      (λ (e : s.shared c.id (s.term c.id) ≡ 0). e)
      (λ (d : s.shared c.id (s.term c.id) ≢ 0). absurd ((h.shares c.id (s.term c.id) (omega arith)).led (free_term b s h c.id may_lead)))
      (cases_eq (s.shared c.id (s.term c.id)) 0)

  now : (lead_up s c).leader (s.term c.id) ≡ c.id
  now = at_same s.leader (s.term c.id) c.id

  its : (lead_up s c).leader_log (s.term c.id) ≡ whole
  its = at_same s.leader_log (s.term c.id) (s.log c.id) ∙ ok.log

  may_agree : Agrees (lead_up s c) c.id (length whole)
  may_agree = record {
    led = λ z. ok.is_node (sym now ∙ z);
    within = (let e = ap length its in omega (arith, e));
    same = ap (take (length whole)) (ok.log ∙ sym its);
    more = (let e = not_shared in omega (arith, e));
  }

  both : Grows s (led_up s c whole)
  both = grows_both s (lead_up s c) (led_up s c whole)
      (move_grows b s h (Lead c.id) may_lead)
      (move_grows b (lead_up s c) (lead_sound b s h c.id may_lead) (Agree c.id (length whole)) may_agree)

  last_is : last_index c.log ≡ b.base + length whole
  last_is =
      let order = ok.based in let o2 = ok.known in let o3 = ok.short in
      ap last_index (ok.stands_for ∙ compact_is b whole c.log.base order (omega arith)) ∙ compact_last b whole c.log.base order (omega arith)

  pub elected_tied : Tied b len (led_up s c whole) (elected c) whole
  elected_tied = record {
    is_node = ok.is_node;
    term = ok.term;
    vote = ok.vote;
    log = ok.log;
    stands_for = ok.stands_for;
    size = ok.size;
    based = ok.based;
    known = ok.known;
    short = ok.short;
    decided = decided_stays b s (led_up s c whole) both c.term c.term (take (c.commit - b.base) whole) (omega arith) ok.decided;
    standing = λ r. absurd (let q : Leader ≡ Candidate = r in cc);
    leading = λ r. record {
      leads = ap (led_up s c whole).leader (sym ok.term) ∙ now;
      own = ap ((led_up s c whole).shared c.id) (sym ok.term) ∙ at2_same s.shared c.id (s.term c.id) (length whole);
      matches = λ j n. let e = at_most c.nodes (j - 1) 0 in omega (arith, e);
      nexts = λ j. let e = at_most c.nodes (j - 1) (suc (last_index c.log)) in let l = last_is in omega (arith, e, l);
    };
  }

  pub turn_elected : Turned b len s c whole (quiet (elected c)) whole
  turn_elected = record {
    moves = Lead c.id ∷ Agree c.id (length whole) ∷ [];
    mine = All-cons (λ (m : Move). actor m ≡ c.id) (Lead c.id) (Agree c.id (length whole) ∷ []) refl
        (All-cons (λ (m : Move). actor m ≡ c.id) (Agree c.id (length whole)) [] refl (All-nil (λ (m : Move). actor m ≡ c.id)));
    can = (may_lead, (may_agree, tt));
    tied = elected_tied;
    said = All-nil (λ (x : Message). (x.from ≡ c.id) × Claim b len (led_up s c whole) x.from x.to x.body);
    front = refl;
  }
