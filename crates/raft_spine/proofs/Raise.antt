-- Raise: a node that comes to a greater term keeps the spine sound.
use Rattle.std.proofs.Common.{◌≡◌, ◌≢◌, ℕ, ◌<◌, ◌≤◌, List, Some, refl, sym, ap, ◌∙◌, arith, inl, ⊎_elim}
use Rattle.std.proofs.lemmas.Bool.{cases_eq}
use Rattle.raft_types.specs.declared.entry.LogEntry.{LogEntry}
use Rattle.raft_spine.specs.Start.{Start}
use Rattle.raft_spine.specs.Spine.{Spine, at}
use Rattle.raft_spine.specs.Moves.{raise}
use Rattle.raft_spine.proofs.Sound.{Safe, Rooted, Sound}
use Rattle.raft_spine.proofs.At.{at_same, at_other}
use Rattle.raft_spine.proofs.Votes.{elected_stood}
use Rattle.raft_spine.proofs.Dead.{safe_stays}

rooted_up : (b : Start) (leader : ℕ → ℕ) (leader_log : ℕ → List LogEntry) (bound bound' : ℕ) (l : List LogEntry) → bound ≤ bound'
    → Rooted b leader leader_log bound l → Rooted b leader leader_log bound' l
rooted_up b leader leader_log bound bound' l le r = record {
  known = r.known;
  same = r.same;
  rising = r.rising;
  bounded = λ i h. let z = r.bounded i h in omega arith;
  begun = r.begun;
}

module _ (b : Start) (s : Spine) (h : Sound b s) (k t : ℕ) (up : s.term k < t) where
  -- no term falls
  pub term_up : (j : ℕ) → s.term j ≤ at s.term k t j
  term_up j = ⊎_elim
      (λ (e : j ≡ k). let x = ap (at s.term k t) e ∙ at_same s.term k t in let y = ap s.term e in omega arith)
      (λ (d : j ≢ k). let x = at_other s.term k t j d in omega arith)
      (cases_eq j k)

  raise_safe : (u i : ℕ) (m l : List LogEntry) → Safe b s.shared s.term u i m l → Safe b s.shared (at s.term k t) u i m l
  raise_safe u i m l x = safe_stays b s.shared s.shared s.term (at s.term k t) u i m l term_up (λ j. inl refl) x

  -- the node did not stand in the term to which it comes
  pub not_stood : (l : List LogEntry) → s.stood k t ≡ Some l → ⊥
  not_stood l e = let c = h.candidates k t l e in c.is_node (sym c.own_vote ∙ h.voted_past k t up)

  -- nor was it elected in it
  pub not_elected : k ≢ 0 → s.leader t ≡ k → ⊥
  not_elected nz e =
      let el = h.elected t (λ z. nz (sym e ∙ z)) in
      let o = elected_stood b s h (s.leader t) t (λ z. nz (sym e ∙ z)) el.late el.votes in
      not_stood o.0 (ap (λ (x : ℕ). s.stood x t) (sym e) ∙ o.1)

  raise_candidate_log : (j : ℕ) (l : List LogEntry) → s.stood j (at s.term k t j) ≡ Some l → s.leader (at s.term k t j) ≡ 0 → s.log j ≡ l
  raise_candidate_log j l st free = ⊎_elim
      (λ (e : j ≡ k).
      let now : t ≡ at s.term k t j = sym (at_same s.term k t) ∙ ap (at s.term k t) (sym e) in
      absurd (not_stood l (ap (λ (x : ℕ). s.stood x t) (sym e) ∙ (ap (s.stood j) now ∙ st))))
      (λ (d : j ≢ k). let e = at_other s.term k t j d in h.candidate_log j l (ap (s.stood j) (sym e) ∙ st) (ap s.leader (sym e) ∙ free))
      (cases_eq j k)

  raise_own_log : (j : ℕ) → j ≢ 0 → s.leader (at s.term k t j) ≡ j → s.log j ≡ s.leader_log (at s.term k t j)
  raise_own_log j nz led = ⊎_elim
      (λ (e : j ≡ k). absurd (not_elected (λ z. nz (e ∙ z)) (ap s.leader (sym (at_same s.term k t) ∙ ap (at s.term k t) (sym e)) ∙ (led ∙ e))))
      (λ (d : j ≢ k). let e = at_other s.term k t j d in h.own_log j nz (ap s.leader (sym e) ∙ led) ∙ ap s.leader_log (sym e))
      (cases_eq j k)

  pub raise_sound : Sound b (raise k t s)
  raise_sound = record {
    voted_past = λ j u lt. h.voted_past j u (let x = term_up j in omega arith);
    voted_stood = h.voted_stood;
    candidates = h.candidates;
    candidate_log = raise_candidate_log;
    elected = h.elected;
    own_log = raise_own_log;
    logs = λ j. rooted_up b s.leader s.leader_log (s.term j) (at s.term k t j) (s.log j) (term_up j) (h.logs j);
    leader_logs = h.leader_logs;
    stood_logs = h.stood_logs;
    shares = λ j u a. let o = h.shares j u a in record { led = o.led; within = o.within; past = (let x = term_up j in let y = o.past in omega arith) };
    holder_has = λ j u i o a. raise_safe u i (s.leader_log u) (s.log j) (h.holder_has j u i o a);
    later_has = λ u v i lt a c o. raise_safe u i (s.leader_log u) (s.leader_log v) (h.later_has u v i lt a c o);
    voted_has = λ j u v i l lt nv st o a. raise_safe u i (s.leader_log u) l (h.voted_has j u v i l lt nv st o a);
  }
