-- Put: a leader that adds an entry keeps the spine sound.
use Rattle.std.proofs.Common.{◌≡◌, ◌≢◌, ℕ, suc, ◌<◌, ◌≤◌, ◌==◌, List, [], ◌∷◌, length, take, Some, sym, ap, ◌∙◌, subst, arith, ◌⊎◌, inl, inr, ⊎_elim, length-append}
use Rattle.std.proofs.lemmas.Bool.{cases_lt, cases_eq, eqb-true}
use Rattle.std.proofs.lemmas.List.{take-append-le}
use Rattle.std.proofs.Math.Seq.{get_or-append_seam}
use Rattle.raft_types.specs.declared.entry.LogEntry.{LogEntry}
use Rattle.raft_spine.specs.Logs.{IsOfTerm, SameFirst}
use Rattle.raft_types.specs.Log.{nothing, term_at}
use Rattle.raft_spine.specs.Start.{Start}
use Rattle.raft_spine.specs.Spine.{Spine, at}
use Rattle.raft_spine.specs.Moves.{Puts, push, put}
use Rattle.raft_spine.proofs.Sound.{could, Dead, Safe, Has, Rooted, Sound}
use Rattle.raft_spine.proofs.Quorum.{two_quorums}
use Rattle.raft_spine.proofs.Fronts.{agree_term, agree_long, front_fits}
use Rattle.raft_spine.proofs.At.{at_same, at_other}
use Rattle.raft_spine.proofs.Votes.{voter_came}
use Rattle.raft_spine.proofs.Dead.{could_past}

push_long : (m : List LogEntry) (t : ℕ) (e : List ℕ) → length (push m t e) ≡ suc (length m)
push_long m t e = let x = length-append m (record { term = t; entry = e } ∷ []) in omega arith

push_front : (m : List LogEntry) (t : ℕ) (e : List ℕ) (n : ℕ) → n ≤ length m → SameFirst n (push m t e) m
push_front m t e n h = take-append-le n m (record { term = t; entry = e } ∷ []) h

push_old : (m : List LogEntry) (t : ℕ) (e : List ℕ) (i : ℕ) → i < length m → term_at (push m t e) i ≡ term_at m i
push_old m t e i h = agree_term (suc i) i (push m t e) m (omega arith) (push_front m t e (suc i) h)

push_new : (m : List LogEntry) (t : ℕ) (e : List ℕ) → term_at (push m t e) (length m) ≡ t
push_new m t e = ap (λ (x : LogEntry). x.term) (get_or-append_seam m (record { term = t; entry = e }) [] nothing)

-- the node's log after the move
abbrev new_log : Spine → ℕ → List ℕ → List LogEntry
new_log s k e = push (s.log k) (s.term k) e

-- the leaders' logs after the move
abbrev logs_now : Spine → ℕ → List ℕ → ℕ → List LogEntry
logs_now s k e = at s.leader_log (s.term k) (push (s.log k) (s.term k) e)

module _ (b : Start) (s : Spine) (h : Sound b s) (k : ℕ) (e : List ℕ) (p : Puts s k) where
  led : s.leader (s.term k) ≢ 0
  led z = p.is_node (sym p.leads ∙ z)

  late : b.term < s.term k
  late = (h.elected (s.term k) led).late

  mine : s.log k ≡ s.leader_log (s.term k)
  mine = h.own_log k p.is_node p.leads

  log_here : logs_now s k e (s.term k) ≡ new_log s k e
  log_here = at_same s.leader_log (s.term k) (new_log s k e)

  log_other : (u : ℕ) → u ≢ s.term k → logs_now s k e u ≡ s.leader_log u
  log_other u d = at_other s.leader_log (s.term k) (new_log s k e) u d

  own_here : (j : ℕ) → j ≡ k → at s.log k (new_log s k e) j ≡ new_log s k e
  own_here j q = ap (at s.log k (new_log s k e)) q ∙ at_same s.log k (new_log s k e)

  own_other : (j : ℕ) → j ≢ k → at s.log k (new_log s k e) j ≡ s.log j
  own_other j d = at_other s.log k (new_log s k e) j d

  -- what stood in a leader's log stands there
  pub grown : (u n : ℕ) → n ≤ length (s.leader_log u) → SameFirst n (logs_now s k e u) (s.leader_log u)
  grown u n le = ⊎_elim
      (λ (q : u ≡ s.term k).
      ap (λ (v : ℕ). take n (logs_now s k e v)) q ∙ (ap (take n) log_here ∙
      (push_front (s.log k) (s.term k) e n (subst (λ (l : List LogEntry). n ≤ length l) (ap s.leader_log q ∙ sym mine) le) ∙ ap (take n) (mine ∙ ap s.leader_log (sym q)))))
      (λ (d : u ≢ s.term k). ap (take n) (log_other u d))
      (cases_eq u (s.term k))

  longer : (u : ℕ) → length (s.leader_log u) ≤ length (logs_now s k e u)
  longer u = agree_long (length (s.leader_log u)) (logs_now s k e u) (s.leader_log u) (omega arith) (grown u (length (s.leader_log u)) (omega arith))

  put_rooted : (bound : ℕ) (l : List LogEntry) → Rooted b s.leader s.leader_log bound l → Rooted b s.leader (logs_now s k e) bound l
  put_rooted bound l r = record {
    known = r.known;
    same = λ i il. r.same i il ∙ sym (grown (term_at l i) (suc i) (agree_long (suc i) (s.leader_log (term_at l i)) l il (sym (r.same i il))));
    rising = r.rising;
    bounded = r.bounded;
    begun = r.begun;
  }

  new_log_rooted : Rooted b s.leader (logs_now s k e) (s.term k) (new_log s k e)
  new_log_rooted =
      let m = s.log k in let t = s.term k in
      let r = h.logs k in
      let long = push_long m t e in
      let split : (i : ℕ) → i < length (push m t e) → (i < length m) ⊎ (i ≡ length m) = λ (i : ℕ) (il : i < length (push m t e)).
      ⊎_elim (λ (x : i < length m). inl x) (λ (y : length m ≤ i). inr (omega arith)) (cases_lt i (length m)) in
      let new_term : (i : ℕ) → i ≡ length m → term_at (push m t e) i ≡ t = λ (i : ℕ) (q : i ≡ length m). ap (term_at (push m t e)) q ∙ push_new m t e in
      let bounded : (i : ℕ) → i < length (push m t e) → term_at (push m t e) i ≤ t = λ (i : ℕ) (il : i < length (push m t e)). ⊎_elim
      (λ (x : i < length m). let o = push_old m t e i x in let w = r.bounded i x in omega arith)
      (λ (q : i ≡ length m). let o = new_term i q in omega arith) (split i il) in
      record {
        known = λ i il. ⊎_elim
            (λ (x : i < length m). subst (λ (u : ℕ). (u ≤ b.term) ⊎ (s.leader u ≢ 0)) (sym (push_old m t e i x)) (r.known i x))
            (λ (q : i ≡ length m). inr (subst (λ (u : ℕ). s.leader u ≢ 0) (sym (new_term i q)) led)) (split i il);
        same = λ i il. ⊎_elim
            (λ (x : i < length m).
            push_front m t e (suc i) x ∙ ((put_rooted t m r).same i x ∙ ap (λ (u : ℕ). take (suc i) (logs_now s k e u)) (sym (push_old m t e i x))))
            (λ (q : i ≡ length m). ap (take (suc i)) (sym log_here) ∙ ap (λ (u : ℕ). take (suc i) (logs_now s k e u)) (sym (new_term i q))) (split i il);
        rising = λ i n le nl. ⊎_elim
            (λ (x : n < length m). let a = push_old m t e i (omega arith) in let c = push_old m t e n x in let w = r.rising i n le x in omega arith)
            (λ (q : n ≡ length m). let a = new_term n q in let w = bounded i (omega arith) in omega arith) (split n nl);
        bounded = bounded;
        begun = push_front m t e (length b.log) (front_fits b.log m r.begun) ∙ r.begun;
      }

  -- a leader's own entry after the move is an old one, or the new one
  put_own : (u i : ℕ) → IsOfTerm (logs_now s k e u) u i → IsOfTerm (s.leader_log u) u i ⊎ ((u ≡ s.term k) × (i ≡ length (s.leader_log u)))
  put_own u i o = ⊎_elim
      (λ (x : i < length (s.leader_log u)).
      inl (record { below = x; term = sym (agree_term (suc i) i (logs_now s k e u) (s.leader_log u) (omega arith) (grown u (suc i) x)) ∙ o.term }))
      (λ (y : length (s.leader_log u) ≤ i). ⊎_elim
      (λ (q : u ≡ s.term k). inr (
        q,
        (let w = o.below in
            let c = ap length (ap (logs_now s k e) q ∙ log_here) in
            let c2 = push_long (s.log k) (s.term k) e in
            let c3 = ap length (mine ∙ ap s.leader_log (sym q)) in omega arith),
      ))
      (λ (d : u ≢ s.term k). let w = o.below in let c = ap length (log_other u d) in absurd (omega arith))
      (cases_eq u (s.term k)))
      (cases_lt i (length (s.leader_log u)))

  -- what has an entry of the old log has it of the grown one
  put_safe : (u i : ℕ) (l : List LogEntry) → i < length (s.leader_log u) → Has b s u i l → Safe b s.shared s.term u i (logs_now s k e u) l
  put_safe u i l il x = ⊎_elim
      (λ (q : SameFirst (suc i) l (s.leader_log u)). inl (q ∙ sym (grown u (suc i) il)))
      (λ (d : Dead b s.shared s.term u i). inr d) x

  -- where there is a later leader the new entry is dead at once: its majority is past the term, and shares nothing new
  put_dead : (v i : ℕ) → s.term k < v → s.leader v ≢ 0 → i ≡ length (s.leader_log (s.term k)) → Dead b s.shared s.term (s.term k) i
  put_dead v i lt later q = record {
    none = λ can.
        let y = two_quorums b.members (λ j. s.voted j v == s.leader v) (could s.shared s.term (s.term k) i) (h.elected v later).votes can in
        let vote : s.voted y.0 v ≡ s.leader v = eqb-true (s.voted y.0 v) (s.leader v) y.1 in
        let past = voter_came b s h y.0 v (λ z. later (sym vote ∙ z)) in
        let has = could_past s.shared s.term (s.term k) i y.0 (omega arith) y.2 in
        let w = (h.shares y.0 (s.term k) (omega arith)).within in
        omega arith;
  }

  put_later_has : (u v i : ℕ) → u < v → s.leader u ≢ 0 → s.leader v ≢ 0 → IsOfTerm (logs_now s k e u) u i
      → Safe b s.shared s.term u i (logs_now s k e u) (logs_now s k e v)
  put_later_has u v i lt lu lv o = ⊎_elim
      (λ (old : IsOfTerm (s.leader_log u) u i). ⊎_elim
      (λ (q : SameFirst (suc i) (s.leader_log v) (s.leader_log u)).
      inl (grown v (suc i) (agree_long (suc i) (s.leader_log v) (s.leader_log u) old.below q) ∙ (q ∙ sym (grown u (suc i) old.below))))
      (λ (d : Dead b s.shared s.term u i). inr d)
      (h.later_has u v i lt lu lv old))
      (λ (new : (u ≡ s.term k) × (i ≡ length (s.leader_log u))). let n0 = new.0 in
      inr (subst (λ (x : ℕ). Dead b s.shared s.term x i) (sym new.0) (put_dead v i (omega arith) lv (new.1 ∙ ap (λ (x : ℕ). length (s.leader_log x)) new.0))))
      (put_own u i o)

  -- an entry that a node was seen to share is an old one
  put_shared : (j u i : ℕ) → IsOfTerm (logs_now s k e u) u i → i < s.shared j u → IsOfTerm (s.leader_log u) u i
  put_shared j u i o g = ⊎_elim (λ (old : IsOfTerm (s.leader_log u) u i). old)
      (λ (new : (u ≡ s.term k) × (i ≡ length (s.leader_log u))). let n1 = new.1 in let w = (h.shares j u (omega arith)).within in absurd (omega arith))
      (put_own u i o)

  -- the node's own log still has what it had
  put_mine : (u i : ℕ) → IsOfTerm (s.leader_log u) u i → Has b s u i (s.log k) → Has b s u i (new_log s k e)
  put_mine u i o x = ⊎_elim
      (λ (q : SameFirst (suc i) (s.log k) (s.leader_log u)).
      inl (push_front (s.log k) (s.term k) e (suc i) (agree_long (suc i) (s.log k) (s.leader_log u) o.below q) ∙ q))
      (λ (d : Dead b s.shared s.term u i). inr d) x

  put_candidate_log : (j : ℕ) (l : List LogEntry) → s.stood j (s.term j) ≡ Some l → s.leader (s.term j) ≡ 0 → at s.log k (new_log s k e) j ≡ l
  put_candidate_log j l st free = ⊎_elim
      (λ (q : j ≡ k). absurd (led (ap (λ (x : ℕ). s.leader (s.term x)) (sym q) ∙ free)))
      (λ (d : j ≢ k). own_other j d ∙ h.candidate_log j l st free)
      (cases_eq j k)

  put_own_log : (j : ℕ) → j ≢ 0 → s.leader (s.term j) ≡ j → at s.log k (new_log s k e) j ≡ logs_now s k e (s.term j)
  put_own_log j nz leads = ⊎_elim
      (λ (q : j ≡ k). own_here j q ∙ (sym log_here ∙ ap (λ (x : ℕ). logs_now s k e (s.term x)) (sym q)))
      (λ (d : j ≢ k).
      let other : s.term j ≢ s.term k = λ (q : s.term j ≡ s.term k). d (sym leads ∙ (ap s.leader q ∙ p.leads)) in
      own_other j d ∙ (h.own_log j nz leads ∙ sym (log_other (s.term j) other)))
      (cases_eq j k)

  put_logs : (j : ℕ) → Rooted b s.leader (logs_now s k e) (s.term j) (at s.log k (new_log s k e) j)
  put_logs j = ⊎_elim
      (λ (q : j ≡ k). subst (λ (l : List LogEntry). Rooted b s.leader (logs_now s k e) (s.term j) l) (sym (own_here j q))
      (subst (λ (x : ℕ). Rooted b s.leader (logs_now s k e) (s.term x) (new_log s k e)) (sym q) new_log_rooted))
      (λ (d : j ≢ k). subst (λ (l : List LogEntry). Rooted b s.leader (logs_now s k e) (s.term j) l) (sym (own_other j d))
      (put_rooted (s.term j) (s.log j) (h.logs j)))
      (cases_eq j k)

  put_leader_logs : (u : ℕ) → s.leader u ≢ 0 → Rooted b s.leader (logs_now s k e) u (logs_now s k e u)
  put_leader_logs u lu = ⊎_elim
      (λ (q : u ≡ s.term k). subst (λ (v : ℕ). Rooted b s.leader (logs_now s k e) v (logs_now s k e v)) (sym q)
      (subst (λ (l : List LogEntry). Rooted b s.leader (logs_now s k e) (s.term k) l) (sym log_here) new_log_rooted))
      (λ (d : u ≢ s.term k). subst (λ (l : List LogEntry). Rooted b s.leader (logs_now s k e) u l) (sym (log_other u d))
      (put_rooted u (s.leader_log u) (h.leader_logs u lu)))
      (cases_eq u (s.term k))

  put_held : (j u i : ℕ) → IsOfTerm (logs_now s k e u) u i → i < s.shared j u
      → Safe b s.shared s.term u i (logs_now s k e u) (at s.log k (new_log s k e) j)
  put_held j u i o a = let old = put_shared j u i o a in ⊎_elim
      (λ (q : j ≡ k). subst (λ (l : List LogEntry). Safe b s.shared s.term u i (logs_now s k e u) l) (sym (own_here j q))
      (put_safe u i (new_log s k e) old.below (put_mine u i old (subst (λ (x : ℕ). Has b s u i (s.log x)) q (h.holder_has j u i old a)))))
      (λ (d : j ≢ k). subst (λ (l : List LogEntry). Safe b s.shared s.term u i (logs_now s k e u) l) (sym (own_other j d))
      (put_safe u i (s.log j) old.below (h.holder_has j u i old a)))
      (cases_eq j k)

  pub put_sound : Sound b (put k e s)
  put_sound = record {
    voted_past = h.voted_past;
    voted_stood = h.voted_stood;
    candidates = h.candidates;
    candidate_log = put_candidate_log;
    elected = h.elected;
    own_log = put_own_log;
    logs = put_logs;
    leader_logs = put_leader_logs;
    stood_logs = λ n u l q. put_rooted u l (h.stood_logs n u l q);
    shares = λ j u a. let o = h.shares j u a in record { led = o.led; within = (let w = o.within in let x = longer u in omega arith); past = o.past };
    holder_has = put_held;
    later_has = put_later_has;
    voted_has = λ j u v i l lt nv st o a. let old = put_shared j u i o a in put_safe u i l old.below (h.voted_has j u v i l lt nv st old a);
  }
