-- Stand: a node that stands for election keeps the spine sound.
use Rattle.std.proofs.Common.{◌≡◌, ◌≢◌, ℕ, ◌<◌, List, Some, sym, ap, ◌∙◌, subst, ◌⊎◌, inl, inr, ⊎_elim}
use Rattle.std.proofs.lemmas.Bool.{cases_eq}
use Rattle.raft_types.specs.declared.entry.LogEntry.{LogEntry}
use Rattle.raft_spine.specs.Logs.{IsOfTerm}
use Rattle.raft_spine.specs.Start.{Start}
use Rattle.raft_spine.specs.Spine.{Spine, at2}
use Rattle.raft_spine.specs.Moves.{Stands, stand}
use Rattle.raft_spine.proofs.Sound.{Candidate, Has, Rooted, Sound}
use Rattle.raft_spine.proofs.At.{at2_other, at2_here, place}
use Rattle.raft_spine.proofs.Votes.{voted_elected, voted_candidate, voted_not_past}

-- the votes after the move
abbrev votes_now : Spine → ℕ → ℕ → ℕ → ℕ
votes_now s k = at2 s.voted k (s.term k) k

module _ (b : Start) (s : Spine) (h : Sound b s) (k : ℕ) (g : Stands b s k) where
  -- the node did not stand in its term before
  pub not_stood : (l : List LogEntry) → s.stood k (s.term k) ≡ Some l → ⊥
  not_stood l e = let c = h.candidates k (s.term k) l e in c.is_node (sym c.own_vote ∙ g.no_vote)

  -- so nobody voted for it in that term
  no_votes : (x : ℕ) → s.voted x (s.term k) ≡ k → ⊥
  no_votes x e =
      let o = h.voted_stood x (s.term k) g.late (λ (z : s.voted x (s.term k) ≡ 0). g.is_node (sym e ∙ z)) in
      not_stood o.0 (ap (λ (y : ℕ). s.stood y (s.term k)) (sym e) ∙ o.1)

  -- with what log someone stood after the move
  stood_now : (x u : ℕ) (l : List LogEntry) → at2 s.stood k (s.term k) (Some (s.log k)) x u ≡ Some l
      → ((x ≡ k) × (u ≡ s.term k) × (s.log k ≡ l)) ⊎ (s.stood x u ≡ Some l)
  stood_now x u l e = ⊎_elim
      (λ (p : (x ≡ k) × (u ≡ s.term k)).
      let f : Some (s.log k) ≡ Some l = sym (at2_here s.stood k (s.term k) (Some (s.log k)) x u p) ∙ e in
      let q : s.log k ≡ l = cc in
      inl (p.0, p.1, q))
      (λ (p : (x ≢ k) ⊎ (u ≢ s.term k)). inr (sym (at2_other s.stood k (s.term k) (Some (s.log k)) x u p) ∙ e))
      (place x u k (s.term k))

  -- whoever got another vote is not the node in its term
  not_mine : (x u : ℕ) → (x ≢ k) ⊎ (u ≢ s.term k) → (votes_now s k x u ≢ k) ⊎ (u ≢ s.term k)
  not_mine x u p = ⊎_elim
      (λ (q : u ≡ s.term k). inl (λ (z : votes_now s k x u ≡ k). no_votes x (ap (s.voted x) (sym q) ∙ (sym (at2_other s.voted k (s.term k) k x u p) ∙ z))))
      (λ (d : u ≢ s.term k). inr d)
      (cases_eq u (s.term k))

  stand_voted_stood : (x u : ℕ) → b.term < u → votes_now s k x u ≢ 0
      → (l : List LogEntry) × (at2 s.stood k (s.term k) (Some (s.log k)) (votes_now s k x u) u ≡ Some l)
  stand_voted_stood x u late nv = ⊎_elim
      (λ (p : (x ≡ k) × (u ≡ s.term k)). (s.log k, at2_here s.stood k (s.term k) (Some (s.log k)) (votes_now s k x u) u (at2_here s.voted k (s.term k) k x u p, p.1)))
      (λ (p : (x ≢ k) ⊎ (u ≢ s.term k)).
      let e = at2_other s.voted k (s.term k) k x u p in
      let o = h.voted_stood x u late (λ (z : s.voted x u ≡ 0). nv (e ∙ z)) in
      (o.0, at2_other s.stood k (s.term k) (Some (s.log k)) (votes_now s k x u) u (not_mine x u p) ∙ (ap (λ (y : ℕ). s.stood y u) e ∙ o.1)))
      (place x u k (s.term k))

  stand_candidates : (x u : ℕ) (l : List LogEntry) → at2 s.stood k (s.term k) (Some (s.log k)) x u ≡ Some l → Candidate b (votes_now s k) x u
  stand_candidates x u l e = ⊎_elim
      (λ (p : (x ≡ k) × (u ≡ s.term k) × (s.log k ≡ l)). record {
        is_node = λ z. g.is_node (sym p.0 ∙ z);
        late = subst (λ (v : ℕ). b.term < v) (sym p.1) g.late;
        own_vote = at2_here s.voted k (s.term k) k x u (p.0, p.1) ∙ sym p.0;
      })
      (λ (o : s.stood x u ≡ Some l). voted_candidate s k k g.no_vote b x u (h.candidates x u l o))
      (stood_now x u l e)

  stand_candidate_log : (x : ℕ) (l : List LogEntry) → at2 s.stood k (s.term k) (Some (s.log k)) x (s.term x) ≡ Some l
      → s.leader (s.term x) ≡ 0 → s.log x ≡ l
  stand_candidate_log x l e free = ⊎_elim
      (λ (p : (x ≡ k) × (s.term x ≡ s.term k) × (s.log k ≡ l)). ap s.log p.0 ∙ p.2)
      (λ (o : s.stood x (s.term x) ≡ Some l). h.candidate_log x l o free)
      (stood_now x (s.term x) l e)

  stand_stood_logs : (x u : ℕ) (l : List LogEntry) → at2 s.stood k (s.term k) (Some (s.log k)) x u ≡ Some l → Rooted b s.leader s.leader_log u l
  stand_stood_logs x u l e = ⊎_elim
      (λ (p : (x ≡ k) × (u ≡ s.term k) × (s.log k ≡ l)).
      subst (λ (m : List LogEntry). Rooted b s.leader s.leader_log u m) p.2 (subst (λ (v : ℕ). Rooted b s.leader s.leader_log v (s.log k)) (sym p.1) (h.logs k)))
      (λ (o : s.stood x u ≡ Some l). h.stood_logs x u l o)
      (stood_now x u l e)

  -- the node votes for its own log, which has what it has
  stand_voted_has : (x u v i : ℕ) (l : List LogEntry) → u < v → votes_now s k x v ≢ 0
      → at2 s.stood k (s.term k) (Some (s.log k)) (votes_now s k x v) v ≡ Some l → IsOfTerm (s.leader_log u) u i → i < s.shared x u
      → Has b s u i l
  stand_voted_has x u v i l lt nv st o a = ⊎_elim
      (λ (p : (x ≡ k) × (v ≡ s.term k)).
      let e = at2_here s.voted k (s.term k) k x v p in
      let f : Some (s.log k) ≡ Some l = sym (at2_here s.stood k (s.term k) (Some (s.log k)) (votes_now s k x v) v (e, p.1)) ∙ st in
      let q : s.log k ≡ l = cc in
      subst (λ (m : List LogEntry). Has b s u i m) (ap s.log p.0 ∙ q) (h.holder_has x u i o a))
      (λ (p : (x ≢ k) ⊎ (v ≢ s.term k)).
      let e = at2_other s.voted k (s.term k) k x v p in
      let f = at2_other s.stood k (s.term k) (Some (s.log k)) (votes_now s k x v) v (not_mine x v p) in
      h.voted_has x u v i l lt (λ (z : s.voted x v ≡ 0). nv (e ∙ z)) (ap (λ (y : ℕ). s.stood y v) (sym e) ∙ (sym f ∙ st)) o a)
      (place x v k (s.term k))

  pub stand_sound : Sound b (stand k s)
  stand_sound = record {
    voted_past = voted_not_past s k k g.no_vote b h;
    voted_stood = stand_voted_stood;
    candidates = stand_candidates;
    candidate_log = stand_candidate_log;
    elected = voted_elected s k k g.no_vote b h;
    own_log = h.own_log;
    logs = h.logs;
    leader_logs = h.leader_logs;
    stood_logs = stand_stood_logs;
    shares = h.shares;
    holder_has = h.holder_has;
    later_has = h.later_has;
    voted_has = stand_voted_has;
  }
