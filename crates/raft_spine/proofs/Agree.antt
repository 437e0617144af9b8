-- Agree: a node that is seen to share entries with its term's leader keeps the spine sound.
use Rattle.std.proofs.Common.{◌≡◌, ◌≢◌, ℕ, suc, ◌<◌, ◌≤◌, List, length, take, Some, sym, ap, ◌∙◌, subst, arith, ◌⊎◌, inl, inr, ⊎_elim}
use Rattle.raft_types.specs.declared.entry.LogEntry.{LogEntry}
use Rattle.raft_spine.specs.Logs.{IsOfTerm, SameFirst}
use Rattle.raft_spine.specs.Start.{Start}
use Rattle.raft_spine.specs.Spine.{Spine, at2}
use Rattle.raft_spine.specs.Moves.{Agrees, agree}
use Rattle.raft_spine.proofs.Sound.{Safe, Shares, Sound}
use Rattle.raft_spine.proofs.Fronts.{agree_down}
use Rattle.raft_spine.proofs.At.{at2_other, at2_here, place}
use Rattle.raft_spine.proofs.Dead.{safe_stays}

-- what nodes were seen to share after the move
abbrev shares_now : Spine → ℕ → ℕ → ℕ → ℕ → ℕ
shares_now s k n = at2 s.shared k (s.term k) n

module _ (b : Start) (s : Spine) (h : Sound b s) (k n : ℕ) (a : Agrees s k n) where
  only_own_term : (u j : ℕ) → (shares_now s k n j u ≡ s.shared j u) ⊎ (s.term j ≤ u)
  only_own_term u j = ⊎_elim
      (λ (p : (j ≡ k) × (u ≡ s.term k)). inr (let x = ap s.term p.0 in let y = p.1 in omega arith))
      (λ (p : (j ≢ k) ⊎ (u ≢ s.term k)). inl (at2_other s.shared k (s.term k) n j u p))
      (place j u k (s.term k))

  agree_safe : (u i : ℕ) (m l : List LogEntry) → Safe b s.shared s.term u i m l → Safe b (shares_now s k n) s.term u i m l
  agree_safe u i m l x = safe_stays b s.shared (shares_now s k n) s.term s.term u i m l (λ j. omega arith) (only_own_term u) x

  agree_shares : (j u : ℕ) → 0 < shares_now s k n j u → Shares s.leader s.leader_log s.term (shares_now s k n) j u
  agree_shares j u g = ⊎_elim
      (λ (p : (j ≡ k) × (u ≡ s.term k)). let e = at2_here s.shared k (s.term k) n j u p in let y = p.1 in let x = ap s.term p.0 in record {
        led = subst (λ (v : ℕ). s.leader v ≢ 0) (sym p.1) a.led;
        within = subst (λ (z : ℕ). z ≤ length (s.leader_log u)) (sym e) (subst (λ (v : ℕ). n ≤ length (s.leader_log v)) (sym p.1) a.within);
        past = omega arith;
      })
      (λ (p : (j ≢ k) ⊎ (u ≢ s.term k)).
      let e = at2_other s.shared k (s.term k) n j u p in
      let o = h.shares j u (omega arith) in
      record { led = o.led; within = (let w = o.within in omega arith); past = o.past })
      (place j u k (s.term k))

  -- the node has what it is seen to share, since its log is the same so far
  agree_held : (j u i : ℕ) → IsOfTerm (s.leader_log u) u i → i < shares_now s k n j u
      → Safe b (shares_now s k n) s.term u i (s.leader_log u) (s.log j)
  agree_held j u i o g = ⊎_elim
      (λ (p : (j ≡ k) × (u ≡ s.term k)). let e = at2_here s.shared k (s.term k) n j u p in
      let q : SameFirst n (s.log j) (s.leader_log u) = ap (λ (x : ℕ). take n (s.log x)) p.0 ∙ (a.same ∙ ap (λ (x : ℕ). take n (s.leader_log x)) (sym p.1)) in
      inl (agree_down (suc i) n (s.log j) (s.leader_log u) (omega arith) q))
      (λ (p : (j ≢ k) ⊎ (u ≢ s.term k)).
      let e = at2_other s.shared k (s.term k) n j u p in
      agree_safe u i (s.leader_log u) (s.log j) (h.holder_has j u i o (omega arith)))
      (place j u k (s.term k))

  -- a node that comes to share more did not vote in a later term yet
  agree_voted : (j u v i : ℕ) (l : List LogEntry) → u < v → s.voted j v ≢ 0 → s.stood (s.voted j v) v ≡ Some l
      → IsOfTerm (s.leader_log u) u i → i < shares_now s k n j u → Safe b (shares_now s k n) s.term u i (s.leader_log u) l
  agree_voted j u v i l lt nv st o g = ⊎_elim
      (λ (p : (j ≡ k) × (u ≡ s.term k)). absurd (nv (h.voted_past j v (let x = ap s.term p.0 in let y = p.1 in omega arith))))
      (λ (p : (j ≢ k) ⊎ (u ≢ s.term k)).
      let e = at2_other s.shared k (s.term k) n j u p in
      agree_safe u i (s.leader_log u) l (h.voted_has j u v i l lt nv st o (omega arith)))
      (place j u k (s.term k))

  pub agree_sound : Sound b (agree k n s)
  agree_sound = record {
    voted_past = h.voted_past;
    voted_stood = h.voted_stood;
    candidates = h.candidates;
    candidate_log = h.candidate_log;
    elected = h.elected;
    own_log = h.own_log;
    logs = h.logs;
    leader_logs = h.leader_logs;
    stood_logs = h.stood_logs;
    shares = agree_shares;
    holder_has = agree_held;
    later_has = λ u v i lt x y o. agree_safe u i (s.leader_log u) (s.leader_log v) (h.later_has u v i lt x y o);
    voted_has = agree_voted;
  }
