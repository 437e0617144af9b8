-- A leader's own entry.
use Rattle.std.proofs.Common.{◌≡◌, ℕ, suc, ◌+◌, ◌-◌, ◌≤◌, List, [], ◌∷◌, ◌++◌, length, take, drop, refl, sym, ap, ◌∙◌, subst, arith, length-append, take_all}
use Rattle.std.proofs.lemmas.List.{take-append-le, drop-append-le}
use Rattle.std.proofs.lemmas.List.Elements.{All-nil, All-cons}
use Rattle.raft_types.specs.declared.entry.LogEntry.{LogEntry}
use Rattle.raft_types.specs.declared.state.Role.TheVariants.{Candidate, Leader}
use Rattle.raft_types.specs.declared.message.Message.{Message}
use Rattle.raft_types.specs.Log.{LogParts, last_index, compacted}
use Rattle.raft_types.specs.Items.{stored}
use Rattle.raft_types.specs.Quorum.{ids}
use Rattle.raft_types.specs.Core.{CoreParts, quiet}
use Rattle.raft_types.specs.Commit.{own_item, with_entry, committed, appends}
use Rattle.raft_spine.specs.Start.{Start}
use Rattle.raft_spine.specs.Spine.{Spine}
use Rattle.raft_spine.specs.Moves.{Puts, Agrees, Move, Put, Agree, push, last_term, moved_all, actor}
use Rattle.raft_spine.specs.Laws.{Grows}
use Rattle.raft_spine.specs.Decided.{Decided}
use Rattle.raft_spine.proofs.Sound.{Sound}
use Rattle.raft_spine.proofs.At.{at_same, at2_same}
use Rattle.raft_spine.proofs.Put.{put_sound}
use Rattle.raft_spine.proofs.Agree.{agree_sound}
use Rattle.raft_spine.proofs.Grow.{move_grows, grows_both, decided_stays}
use Rattle.raft_claims.specs.Tied.{whole_log, Tied, Turned}
use Rattle.raft_claims.specs.Claims.{Claim}
use Rattle.raft_claims.proofs.Whole.{compact_is, log_at}
use Rattle.raft_claims.proofs.Stores.{tied_last}
use Rattle.raft_claims.proofs.Sent.{log_is, sent_claims}
use Rattle.raft_claims.proofs.Committing.{committed_tied}

abbrev put_up : Spine → CoreParts → List ℕ → Spine
put_up s c e = moved_all (Put c.id e ∷ []) s

-- the spine where the leader has the entry and counts itself for it
abbrev pub own_up : Spine → CoreParts → List LogEntry → List ℕ → Spine
own_up s c whole e = moved_all (Put c.id e ∷ Agree c.id (length (push whole c.term e)) ∷ []) s

module _ (b : Start) (len : List LogEntry → ℕ) (s : Spine) (h : Sound b s) (c : CoreParts) (whole : List LogEntry) (ok : Tied b len s c whole) (role : c.role ≡ Leader) (e : List ℕ) where
  may_put : Puts s c.id
  may_put = record { is_node = ok.is_node; leads = ap s.leader ok.term ∙ (ok.leading role).leads }

  pushed : push (s.log c.id) (s.term c.id) e ≡ push whole c.term e
  pushed = ap (λ (l : List LogEntry). push l (s.term c.id) e) ok.log ∙ ap (λ (t : ℕ). push whole t e) ok.term

  new_log : (put_up s c e).log c.id ≡ push whole c.term e
  new_log = at_same s.log c.id (push (s.log c.id) (s.term c.id) e) ∙ pushed

  its_log : (put_up s c e).leader_log (s.term c.id) ≡ push whole c.term e
  its_log = at_same s.leader_log (s.term c.id) (push (s.log c.id) (s.term c.id) e) ∙ pushed

  longer : length (push whole c.term e) ≡ length whole + 1
  longer = length-append whole (record { term = c.term; entry = e } ∷ [])

  may_agree : Agrees (put_up s c e) c.id (length (push whole c.term e))
  may_agree = record {
    led = λ z. ok.is_node (sym may_put.leads ∙ z);
    within = (let q = ap length its_log in omega (arith, q));
    same = ap (take (length (push whole c.term e))) (new_log ∙ sym its_log);
    more = (let q = ap (s.shared c.id) ok.term ∙ (ok.leading role).own in let l = longer in omega (arith, q, l));
  }

  both : Grows s (own_up s c whole e)
  both = grows_both s (put_up s c e) (own_up s c whole e)
      (move_grows b s h (Put c.id e) may_put)
      (move_grows b (put_up s c e) (put_sound b s h c.id e may_put) (Agree c.id (length (push whole c.term e))) may_agree)

  front_stays : (n : ℕ) → n ≤ length whole → take n (push whole c.term e) ≡ take n whole
  front_stays n le = take-append-le n whole (record { term = c.term; entry = e } ∷ []) le

  stands_now : (with_entry c e).log ≡ compacted (whole_log b (push whole c.term e)) c.log.base
  stands_now =
      let o = ok.based in let o2 = ok.known in let o3 = ok.short in let l = longer in
      let g = c.log.base - b.base in
      let x : List LogEntry = record { term = c.term; entry = e } ∷ [] in
      ap (λ (m : LogParts). log_at c.log.base m.base_term (m.entries ++ x)) (log_is b len s h c whole ok role)
      ∙ (ap (λ (m : List LogEntry). log_at c.log.base (last_term b m) (drop g whole ++ x)) (sym (front_stays g (omega arith)))
      ∙ (ap (λ (m : List LogEntry). log_at c.log.base (last_term b (take g (push whole c.term e))) m) (sym (drop-append-le g whole x (omega arith)))
      ∙ sym (compact_is b (push whole c.term e) c.log.base o (omega (arith, l)))))

  pub own_tied : Tied b len (own_up s c whole e) (with_entry c e) (push whole c.term e)
  own_tied =
      let o = ok.based in let o2 = ok.known in let o3 = ok.short in let l = longer in
      record {
        is_node = ok.is_node;
        term = ok.term;
        vote = ok.vote;
        log = new_log;
        stands_for = stands_now;
        size = ok.size ∙ ap len (sym (front_stays (c.log.base - b.base) (omega arith)));
        based = ok.based;
        known = ok.known;
        short = omega (arith, l);
        decided = subst (λ (p : List LogEntry). Decided b (own_up s c whole e) c.term p) (sym (front_stays (c.commit - b.base) (omega arith)))
            (decided_stays b s (own_up s c whole e) both c.term c.term (take (c.commit - b.base) whole) (omega arith) ok.decided);
        standing = λ z. absurd (let q : Leader ≡ Candidate = sym role ∙ z in cc);
        leading = λ z. let x = ok.leading role in record {
          leads = x.leads;
          own = ap ((own_up s c whole e).shared c.id) (sym ok.term) ∙ at2_same s.shared c.id (s.term c.id) (length (push whole c.term e));
          matches = λ j n. let a = x.matches j n in let y = both.shared j c.term in omega (arith, a, y);
          nexts = λ j. let a = x.nexts j in omega (arith, a, l);
        };
      }

  pub turn_put : Turned b len s c whole (quiet (with_entry c e)) (push whole c.term e)
  turn_put =
      let o = ok.based in let o2 = ok.known in let o3 = ok.short in
      record {
        moves = Put c.id e ∷ Agree c.id (length (push whole c.term e)) ∷ [];
        mine = All-cons (λ (m : Move). actor m ≡ c.id) (Put c.id e) (Agree c.id (length (push whole c.term e)) ∷ []) refl
            (All-cons (λ (m : Move). actor m ≡ c.id) (Agree c.id (length (push whole c.term e))) [] refl (All-nil (λ (m : Move). actor m ≡ c.id)));
        can = (may_put, (may_agree, tt));
        tied = own_tied;
        said = All-nil (λ (x : Message). (x.from ≡ c.id) × Claim b len (own_up s c whole e) x.from x.to x.body);
        front = front_stays (c.log.base - b.base) (omega arith);
      }

  -- which is what the entry as an item makes of the whole log
  pub own_after : stored b.base whole (own_item c e ∷ []) ≡ push whole c.term e
  own_after =
      let l = tied_last b len s c whole ok in
      let i : suc (last_index c.log) - (b.base + 1) ≡ length whole = omega (arith, l) in
      ap (λ (n : ℕ). take n whole ++ record { term = c.term; entry = e } ∷ []) i ∙ ap (λ (x : List LogEntry). x ++ record { term = c.term; entry = e } ∷ []) (take_all (length whole) whole (omega arith))

  own_sound : Sound b (own_up s c whole e)
  own_sound = agree_sound b (put_up s c e) (put_sound b s h c.id e may_put) c.id (length (push whole c.term e)) may_agree

  -- the leader appends the entry, commits what it may and sends to every peer
  pub turn_own : b.members ≡ ids c.nodes → Turned b len s c whole (appends c e) (push whole c.term e)
  turn_own nodes =
      let o = ok.based in let o2 = ok.known in let o3 = ok.short in
      let d = committed_tied b len (own_up s c whole e) own_sound (with_entry c e) (push whole c.term e) own_tied role nodes in
      record {
        moves = Put c.id e ∷ Agree c.id (length (push whole c.term e)) ∷ [];
        mine = All-cons (λ (m : Move). actor m ≡ c.id) (Put c.id e) (Agree c.id (length (push whole c.term e)) ∷ []) refl
            (All-cons (λ (m : Move). actor m ≡ c.id) (Agree c.id (length (push whole c.term e))) [] refl (All-nil (λ (m : Move). actor m ≡ c.id)));
        can = (may_put, (may_agree, tt));
        tied = d;
        said = sent_claims b len (own_up s c whole e) own_sound (committed (with_entry c e)) (push whole c.term e) d role;
        front = front_stays (c.log.base - b.base) (omega arith);
      }
