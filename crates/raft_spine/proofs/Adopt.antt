-- Adopt: a node that takes its term's leader's entries keeps the spine sound.
use Rattle.std.proofs.Common.{◌≡◌, ◌≢◌, ℕ, suc, ◌<◌, ◌≤◌, List, length, take, Some, sym, ap, ◌∙◌, subst, arith, ◌⊎◌, inl, inr, ⊎_elim, take-take, length-take-le}
use Rattle.std.proofs.lemmas.Bool.{cases_lt, cases_eq}
use Rattle.raft_types.specs.declared.entry.LogEntry.{LogEntry}
use Rattle.raft_spine.specs.Logs.{IsOfTerm, SameFirst}
use Rattle.raft_types.specs.Log.{term_at}
use Rattle.raft_spine.specs.Start.{Start}
use Rattle.raft_spine.specs.Spine.{Spine, at}
use Rattle.raft_spine.specs.Moves.{Adopts, adopt}
use Rattle.raft_spine.proofs.Sound.{Dead, Has, Rooted, Sound}
use Rattle.raft_spine.proofs.Fronts.{agree_down, agree_term}
use Rattle.raft_spine.proofs.At.{at_same, at_other}

-- a front of a rooted log is rooted, where it has the first log
rooted_take : (b : Start) (leader : ℕ → ℕ) (leader_log : ℕ → List LogEntry) (bound n : ℕ) (l : List LogEntry) → length b.log ≤ n
    → n ≤ length l → Rooted b leader leader_log bound l → Rooted b leader leader_log bound (take n l)
rooted_take b leader leader_log bound n l f w r =
    let long : length (take n l) ≡ n = length-take-le n l w in
    let same_term : (i : ℕ) → i < length (take n l) → term_at (take n l) i ≡ term_at l i = λ (i : ℕ) (h : i < length (take n l)).
    agree_term n i (take n l) l (omega arith) (take-take n n l (omega arith)) in
    record {
      known = λ i h. subst (λ (u : ℕ). (u ≤ b.term) ⊎ (leader u ≢ 0)) (sym (same_term i h)) (r.known i (omega arith));
      same = λ i h. take-take (suc i) n l (omega arith) ∙ (r.same i (omega arith) ∙ ap (λ (u : ℕ). take (suc i) (leader_log u)) (sym (same_term i h)));
      rising = λ i k le h. let x = same_term i (omega arith) in let y = same_term k h in let z = r.rising i k le (omega arith) in omega arith;
      bounded = λ i h. let x = same_term i h in let z = r.bounded i (omega arith) in omega arith;
      begun = take-take (length b.log) n l f ∙ r.begun;
    }

-- the node's log after the move
abbrev new_log : Spine → ℕ → ℕ → List LogEntry
new_log s k n = take n (s.leader_log (s.term k))

module _ (b : Start) (s : Spine) (h : Sound b s) (k n : ℕ) (a : Adopts s k n) where
  own_here : (j : ℕ) → j ≡ k → at s.log k (new_log s k n) j ≡ new_log s k n
  own_here j e = ap (at s.log k (new_log s k n)) e ∙ at_same s.log k (new_log s k n)

  own_other : (j : ℕ) → j ≢ k → at s.log k (new_log s k n) j ≡ s.log j
  own_other j d = at_other s.log k (new_log s k n) j d

  -- the difference lies past the first log, which all logs begin with
  past_first : length b.log < n
  past_first = ⊎_elim (λ (x : length b.log < n). x)
      (λ (y : n ≤ length b.log).
      let both = (h.logs k).begun ∙ sym ((h.leader_logs (s.term k) a.led).begun) in
      absurd (a.differs (agree_down n (length b.log) (s.log k) (s.leader_log (s.term k)) y both)))
      (cases_lt (length b.log) n)

  -- what the node has of an earlier leader's own entries its term's leader has too, so the difference lies past it; or that is dead
  new_log_has : (u i : ℕ) → IsOfTerm (s.leader_log u) u i → i < s.shared k u → Has b s u i (new_log s k n)
  new_log_has u i o g =
      let m = s.leader_log (s.term k) in
      let sh = h.shares k u (omega arith) in
      let leader : Has b s u i m = ⊎_elim (λ (lt : u < s.term k). h.later_has u (s.term k) i lt sh.led a.led o)
      (λ (ge : s.term k ≤ u). let past = sh.past in let e : s.term k ≡ u = omega arith in inl (ap (λ (v : ℕ). take (suc i) (s.leader_log v)) e))
      (cases_lt u (s.term k)) in
      ⊎_elim
      (λ (mine : SameFirst (suc i) (s.log k) (s.leader_log u)).
      ⊎_elim
      (λ (his : SameFirst (suc i) m (s.leader_log u)).
      let within : i < n = ⊎_elim
      (λ (x : i < n). x)
      (λ (y : n ≤ i). absurd (a.differs (agree_down n (suc i) (s.log k) m (omega arith) (mine ∙ sym his))))
      (cases_lt i n) in
      inl (take-take (suc i) n m within ∙ his))
      (λ (d : Dead b s.shared s.term u i). inr d)
      leader)
      (λ (d : Dead b s.shared s.term u i). inr d)
      (h.holder_has k u i o g)

  adopt_candidate_log : (j : ℕ) (l : List LogEntry) → s.stood j (s.term j) ≡ Some l → s.leader (s.term j) ≡ 0 → at s.log k (new_log s k n) j ≡ l
  adopt_candidate_log j l st free = ⊎_elim
      (λ (e : j ≡ k). absurd (a.led (ap (λ (x : ℕ). s.leader (s.term x)) (sym e) ∙ free)))
      (λ (d : j ≢ k). own_other j d ∙ h.candidate_log j l st free)
      (cases_eq j k)

  -- a leader never adopts, since its log is its own
  adopt_own_log : (j : ℕ) → j ≢ 0 → s.leader (s.term j) ≡ j → at s.log k (new_log s k n) j ≡ s.leader_log (s.term j)
  adopt_own_log j nz leads = ⊎_elim
      (λ (e : j ≡ k). absurd (a.differs (ap (take n) (subst (λ (x : ℕ). s.log x ≡ s.leader_log (s.term x)) e (h.own_log j nz leads)))))
      (λ (d : j ≢ k). own_other j d ∙ h.own_log j nz leads)
      (cases_eq j k)

  adopt_logs : (j : ℕ) → Rooted b s.leader s.leader_log (s.term j) (at s.log k (new_log s k n) j)
  adopt_logs j = ⊎_elim
      (λ (e : j ≡ k). subst (λ (l : List LogEntry). Rooted b s.leader s.leader_log (s.term j) l) (sym (own_here j e))
      (subst (λ (x : ℕ). Rooted b s.leader s.leader_log (s.term x) (new_log s k n)) (sym e)
      (let pf = past_first in rooted_take b s.leader s.leader_log (s.term k) n (s.leader_log (s.term k)) (omega arith) a.within (h.leader_logs (s.term k) a.led))))
      (λ (d : j ≢ k). subst (λ (l : List LogEntry). Rooted b s.leader s.leader_log (s.term j) l) (sym (own_other j d)) (h.logs j))
      (cases_eq j k)

  adopt_held : (j u i : ℕ) → IsOfTerm (s.leader_log u) u i → i < s.shared j u → Has b s u i (at s.log k (new_log s k n) j)
  adopt_held j u i o g = ⊎_elim
      (λ (e : j ≡ k). subst (λ (l : List LogEntry). Has b s u i l) (sym (own_here j e)) (new_log_has u i o (subst (λ (x : ℕ). i < s.shared x u) e g)))
      (λ (d : j ≢ k). subst (λ (l : List LogEntry). Has b s u i l) (sym (own_other j d)) (h.holder_has j u i o g))
      (cases_eq j k)

  pub adopt_sound : Sound b (adopt k n s)
  adopt_sound = record {
    voted_past = h.voted_past;
    voted_stood = h.voted_stood;
    candidates = h.candidates;
    candidate_log = adopt_candidate_log;
    elected = h.elected;
    own_log = adopt_own_log;
    logs = adopt_logs;
    leader_logs = h.leader_logs;
    stood_logs = h.stood_logs;
    shares = h.shares;
    holder_has = adopt_held;
    later_has = h.later_has;
    voted_has = h.voted_has;
  }
