-- Lead: an election keeps the spine sound.
use Rattle.std.proofs.Common.{◌≡◌, ◌≢◌, ℕ, suc, ◌<◌, ◌≤◌, ◌==◌, List, length, take, Some, sym, ap, ◌∙◌, subst, arith, ◌⊎◌, inl, inr, ⊎_elim}
use Rattle.std.proofs.lemmas.Bool.{cases_eq, eqb-true}
use Rattle.raft_types.specs.declared.entry.LogEntry.{LogEntry}
use Rattle.raft_spine.specs.Quorum.{IsQuorum}
use Rattle.raft_spine.specs.Logs.{IsOfTerm}
use Rattle.raft_types.specs.Log.{term_at}
use Rattle.raft_spine.specs.Start.{Start}
use Rattle.raft_spine.specs.Spine.{Spine, at}
use Rattle.raft_spine.specs.Moves.{Leads, lead}
use Rattle.raft_spine.proofs.Sound.{could, Safe, Has, Rooted, Elected, Sound}
use Rattle.raft_spine.proofs.Quorum.{two_quorums, quorum_or_not}
use Rattle.raft_spine.proofs.At.{at_same, at_other}
use Rattle.raft_spine.proofs.Votes.{voter_came, elected_stood}
use Rattle.raft_spine.proofs.Dead.{could_past}

-- two nodes that majorities voted for in one term are one
pub one_leader : (b : Start) (s : Spine) (t j k : ℕ) → IsQuorum b.members (λ x. s.voted x t == j) → IsQuorum b.members (λ x. s.voted x t == k) → j ≡ k
one_leader b s t j k p q =
    let y = two_quorums b.members (λ x. s.voted x t == j) (λ x. s.voted x t == k) p q in
    sym (eqb-true (s.voted y.0 t) j y.1) ∙ eqb-true (s.voted y.0 t) k y.2

-- node k, with log c, is to be the first leader of term t
record Fresh (b : Start) (s : Spine) (k t : ℕ) (c : List LogEntry) : Type 0 where
  pub free : s.leader t ≡ 0
  pub late : b.term < t
  pub is_node : k ≢ 0
  pub votes : IsQuorum b.members (λ j. s.voted j t == k)
  pub stood : s.stood k t ≡ Some c
  pub mine : s.log k ≡ c

-- nobody was elected yet in the term of a node that has the votes and was not
pub free_term : (b : Start) (s : Spine) → Sound b s → (k : ℕ) → Leads b s k → s.leader (s.term k) ≡ 0
free_term b s h k l = ⊎_elim (λ (e : s.leader (s.term k) ≡ 0). e)
    (λ (d : s.leader (s.term k) ≢ 0). absurd (l.not_yet (one_leader b s (s.term k) (s.leader (s.term k)) k (h.elected (s.term k) d).votes l.votes)))
    (cases_eq (s.leader (s.term k)) 0)

-- so it has the log with which it stood
fresh : (b : Start) (s : Spine) → Sound b s → (k : ℕ) → Leads b s k → Fresh b s k (s.term k) (s.log k)
fresh b s h k l =
    let free = free_term b s h k l in
    let o = elected_stood b s h k (s.term k) l.is_node l.late l.votes in
    record {
      free = free;
      late = l.late;
      is_node = l.is_node;
      votes = l.votes;
      stood = o.1 ∙ ap (λ (m : List LogEntry). Some m) (sym (h.candidate_log k o.0 o.1 free));
      mine = cc;
    }

-- the log of a node that is elected has each own entry of an earlier leader, or that is dead:
-- the majority that voted meets any majority that could share the entry
elected_has : (b : Start) (s : Spine) → Sound b s → (k t u i : ℕ) (c : List LogEntry)
    → k ≢ 0 → IsQuorum b.members (λ j. s.voted j t == k) → s.stood k t ≡ Some c → u < t → IsOfTerm (s.leader_log u) u i
    → Has b s u i c
elected_has b s h k t u i c nz q st lt own =
    ⊎_elim
    (λ (x : IsQuorum b.members (could s.shared s.term u i)).
    let y = two_quorums b.members (λ j. s.voted j t == k) (could s.shared s.term u i) q x in
    let v : s.voted y.0 t ≡ k = eqb-true (s.voted y.0 t) k y.1 in
    let nv : s.voted y.0 t ≢ 0 = λ (z : s.voted y.0 t ≡ 0). nz (sym v ∙ z) in
    let past = voter_came b s h y.0 t nv in
    h.voted_has y.0 u t i c lt nv (ap (λ (z : ℕ). s.stood z t) v ∙ st) own (could_past s.shared s.term u i y.0 (omega arith) y.2))
    (λ (x : IsQuorum b.members (could s.shared s.term u i) → ⊥). inr (record { none = x }))
    (quorum_or_not b.members (could s.shared s.term u i))

module _ (b : Start) (s : Spine) (h : Sound b s) (k t : ℕ) (c : List LogEntry) (f : Fresh b s k t c) where
  -- a term that has a leader is another one
  led_other : (u : ℕ) → s.leader u ≢ 0 → u ≢ t
  led_other u led e = led (ap s.leader e ∙ f.free)

  known_other : (u : ℕ) → (u ≤ b.term) ⊎ (s.leader u ≢ 0) → u ≢ t
  known_other u known e = ⊎_elim (λ (x : u ≤ b.term). let late = f.late in omega arith) (λ (x : s.leader u ≢ 0). led_other u x e) known

  log_here : (u : ℕ) → u ≡ t → at s.leader_log t c u ≡ c
  log_here u e = ap (at s.leader_log t c) e ∙ at_same s.leader_log t c

  log_other : (u : ℕ) → u ≢ t → at s.leader_log t c u ≡ s.leader_log u
  log_other u d = at_other s.leader_log t c u d

  leader_stays : (u : ℕ) → s.leader u ≢ 0 → at s.leader t k u ≢ 0
  leader_stays u led z = led (sym (at_other s.leader t k u (led_other u led)) ∙ z)

  -- another term that has a leader now had one before
  led_before : (u : ℕ) → u ≢ t → at s.leader t k u ≢ 0 → s.leader u ≢ 0
  led_before u d led z = led (at_other s.leader t k u d ∙ z)

  rooted_lead : (bound : ℕ) (l : List LogEntry) → Rooted b s.leader s.leader_log bound l → Rooted b (at s.leader t k) (at s.leader_log t c) bound l
  rooted_lead bound l r = record {
    known = λ i il. ⊎_elim (λ (x : term_at l i ≤ b.term). inl x) (λ (x : s.leader (term_at l i) ≢ 0). inr (leader_stays (term_at l i) x)) (r.known i il);
    same = λ i il. r.same i il ∙ ap (take (suc i)) (sym (log_other (term_at l i) (known_other (term_at l i) (r.known i il))));
    rising = r.rising;
    bounded = r.bounded;
    begun = r.begun;
  }

  lead_leader_logs : (u : ℕ) → at s.leader t k u ≢ 0 → Rooted b (at s.leader t k) (at s.leader_log t c) u (at s.leader_log t c u)
  lead_leader_logs u led = ⊎_elim
      (λ (e : u ≡ t). subst (λ (m : List LogEntry). Rooted b (at s.leader t k) (at s.leader_log t c) u m) (sym (log_here u e))
      (subst (λ (v : ℕ). Rooted b (at s.leader t k) (at s.leader_log t c) v c) (sym e) (rooted_lead t c (h.stood_logs k t c f.stood))))
      (λ (d : u ≢ t). subst (λ (m : List LogEntry). Rooted b (at s.leader t k) (at s.leader_log t c) u m) (sym (log_other u d))
      (rooted_lead u (s.leader_log u) (h.leader_logs u (led_before u d led))))
      (cases_eq u t)

  -- no entry of the elected node's log is of the new term
  not_own : (i : ℕ) → IsOfTerm c t i → ⊥
  not_own i o = known_other (term_at c i) ((h.stood_logs k t c f.stood).known i o.below) o.term

  own_before : (u i : ℕ) → u ≢ t → IsOfTerm (at s.leader_log t c u) u i → IsOfTerm (s.leader_log u) u i
  own_before u i d o = subst (λ (m : List LogEntry). IsOfTerm m u i) (log_other u d) o

  safe_after : (u i : ℕ) (l : List LogEntry) → u ≢ t → Has b s u i l → Safe b s.shared s.term u i (at s.leader_log t c u) l
  safe_after u i l d x = subst (λ (m : List LogEntry). Safe b s.shared s.term u i m l) (sym (log_other u d)) x

  lead_later_has : (u v i : ℕ) → u < v → at s.leader t k u ≢ 0 → at s.leader t k v ≢ 0 → IsOfTerm (at s.leader_log t c u) u i
      → Safe b s.shared s.term u i (at s.leader_log t c u) (at s.leader_log t c v)
  lead_later_has u v i lt lu lv o = ⊎_elim
      (λ (e : u ≡ t). absurd (not_own i (subst (λ (w : ℕ). IsOfTerm c w i) e (subst (λ (m : List LogEntry). IsOfTerm m u i) (log_here u e) o))))
      (λ (d : u ≢ t). ⊎_elim
      (λ (e : v ≡ t). safe_after u i (at s.leader_log t c v) d
      (subst (λ (m : List LogEntry). Has b s u i m) (sym (log_here v e))
      (elected_has b s h k t u i c f.is_node f.votes f.stood (omega arith) (own_before u i d o))))
      (λ (n : v ≢ t). safe_after u i (at s.leader_log t c v) d
      (subst (λ (m : List LogEntry). Has b s u i m) (sym (log_other v n))
      (h.later_has u v i lt (led_before u d lu) (led_before v n lv) (own_before u i d o))))
      (cases_eq v t))
      (cases_eq u t)

  lead_elected : (u : ℕ) → at s.leader t k u ≢ 0 → Elected b s.voted u (at s.leader t k u)
  lead_elected u led = ⊎_elim
      (λ (e : u ≡ t). subst (λ (v : ℕ). Elected b s.voted v (at s.leader t k v)) (sym e)
      (subst (λ (n : ℕ). Elected b s.voted t n) (sym (at_same s.leader t k)) (record { late = f.late; votes = f.votes })))
      (λ (d : u ≢ t). subst (λ (n : ℕ). Elected b s.voted u n) (sym (at_other s.leader t k u d)) (h.elected u (led_before u d led)))
      (cases_eq u t)

  lead_candidate_log : (j : ℕ) (l : List LogEntry) → s.stood j (s.term j) ≡ Some l → at s.leader t k (s.term j) ≡ 0 → s.log j ≡ l
  lead_candidate_log j l st free = ⊎_elim
      (λ (e : s.term j ≡ t). absurd (f.is_node (sym (at_same s.leader t k) ∙ (ap (at s.leader t k) (sym e) ∙ free))))
      (λ (d : s.term j ≢ t). h.candidate_log j l st (sym (at_other s.leader t k (s.term j) d) ∙ free))
      (cases_eq (s.term j) t)

  lead_own_log : (j : ℕ) → j ≢ 0 → at s.leader t k (s.term j) ≡ j → s.log j ≡ at s.leader_log t c (s.term j)
  lead_own_log j nz led = ⊎_elim
      (λ (e : s.term j ≡ t).
      let q : j ≡ k = sym led ∙ (ap (at s.leader t k) e ∙ at_same s.leader t k) in
      ap s.log q ∙ (f.mine ∙ sym (log_here (s.term j) e)))
      (λ (d : s.term j ≢ t). h.own_log j nz (sym (at_other s.leader t k (s.term j) d) ∙ led) ∙ sym (log_other (s.term j) d))
      (cases_eq (s.term j) t)

  shared_other : (j u : ℕ) → 0 < s.shared j u → u ≢ t
  shared_other j u a = led_other u (h.shares j u a).led

  fresh_sound : Sound b (record s { leader = at s.leader t k; leader_log = at s.leader_log t c })
  fresh_sound = record {
    voted_past = h.voted_past;
    voted_stood = h.voted_stood;
    candidates = h.candidates;
    candidate_log = lead_candidate_log;
    elected = lead_elected;
    own_log = lead_own_log;
    logs = λ j. rooted_lead (s.term j) (s.log j) (h.logs j);
    leader_logs = lead_leader_logs;
    stood_logs = λ n u l e. rooted_lead u l (h.stood_logs n u l e);
    shares = λ j u a. let o = h.shares j u a in record {
      led = leader_stays u o.led;
      within = subst (λ (m : List LogEntry). s.shared j u ≤ length m) (sym (log_other u (shared_other j u a))) o.within;
      past = o.past;
    };
    holder_has = λ j u i o a. let d = shared_other j u (omega arith) in safe_after u i (s.log j) d (h.holder_has j u i (own_before u i d o) a);
    later_has = lead_later_has;
    voted_has = λ j u v i l lt vn st o a. let d = shared_other j u (omega arith) in safe_after u i l d (h.voted_has j u v i l lt vn st (own_before u i d o) a);
  }

pub lead_sound : (b : Start) (s : Spine) → Sound b s → (k : ℕ) → Leads b s k → Sound b (lead k s)
lead_sound b s h k l = fresh_sound b s h k (s.term k) (s.log k) (fresh b s h k l)
