-- The laws, of every sound spine.
use Rattle.std.proofs.Common.{◌≡◌, ◌≢◌, ℕ, suc, ◌<◌, ◌≤◌, leb, List, length, take, sym, ap, ◌∙◌, subst, arith, ◌⊎◌, inl, ⊎_elim}
use Rattle.std.proofs.lemmas.Bool.{cases_lt, leb-true}
use Rattle.raft_types.specs.declared.entry.LogEntry.{LogEntry}
use Rattle.raft_spine.specs.Logs.{SameFirst, IsFront}
use Rattle.raft_types.specs.Log.{term_at}
use Rattle.raft_spine.specs.Start.{Start}
use Rattle.raft_spine.specs.Spine.{Spine}
use Rattle.raft_spine.specs.Moves.{moved_all}
use Rattle.raft_spine.specs.Decided.{IsCommitted, IsCovered, Decided}
use Rattle.raft_spine.specs.Laws.{IsReached, OneLeader, LogsMatch, OneHistory, LeadersHave, ForGood}
use Rattle.raft_spine.proofs.Sound.{could, Dead, Rooted, Sound}
use Rattle.raft_spine.proofs.Quorum.{quorum_grows}
use Rattle.raft_spine.proofs.Fronts.{agree_down, whole, fronts, front_fits}
use Rattle.raft_spine.proofs.Dead.{means_could}
use Rattle.raft_spine.proofs.Lead.{one_leader}
use Rattle.raft_spine.proofs.Run.{reached_sound}
use Rattle.raft_spine.proofs.Grow.{moves_grow, decided_stays}

-- two rooted logs that agree in term at a place are the same up to it
pub rooted_match : (b : Start) (s : Spine) (u v i : ℕ) (l m : List LogEntry) → Rooted b s.leader s.leader_log u l
    → Rooted b s.leader s.leader_log v m → i < length l → i < length m → term_at l i ≡ term_at m i → SameFirst (suc i) l m
rooted_match b s u v i l m rl rm il im e = rl.same i il ∙ (ap (λ (t : ℕ). take (suc i) (s.leader_log t)) e ∙ sym (rm.same i im))

-- what is committed is not dead
not_dead : (b : Start) (s : Spine) (t i : ℕ) → IsCommitted b s t i → Dead b s.shared s.term t i → ⊥
not_dead b s t i m d = d.none (quorum_grows b.members (λ j. leb (suc i) (s.shared j t)) (could s.shared s.term t i)
    (λ j e. means_could s.shared s.term t i j (inl (leb-true (suc i) (s.shared j t) e))) m.most)

-- a leader has what was committed in its term or in an earlier one
committed_has : (b : Start) (s : Spine) → Sound b s → (t i v : ℕ) → IsCommitted b s t i → t ≤ v → s.leader v ≢ 0
    → SameFirst (suc i) (s.leader_log v) (s.leader_log t)
committed_has b s h t i v m le led = ⊎_elim
    (λ (lt : t < v). ⊎_elim
    (λ (e : SameFirst (suc i) (s.leader_log v) (s.leader_log t)). e)
    (λ (d : Dead b s.shared s.term t i). absurd (not_dead b s t i m d))
    (h.later_has t v i lt m.led led m.own))
    (λ (ge : v ≤ t). let e : v ≡ t = omega arith in ap (λ (x : ℕ). take (suc i) (s.leader_log x)) e)
    (cases_lt t v)

-- a leader's log begins with the first log
first_has : (b : Start) (s : Spine) → Sound b s → (v : ℕ) (p : List LogEntry) → IsFront p b.log → s.leader v ≢ 0 → IsFront p (s.leader_log v)
first_has b s h v p e led =
    let r = (h.leader_logs v led).begun in
    agree_down (length p) (length b.log) (s.leader_log v) b.log (front_fits p b.log e) (r ∙ sym (whole b.log)) ∙ e

-- a leader's log begins with what an entry covers that was committed in its term or in an earlier one
covered_has : (b : Start) (s : Spine) → Sound b s → (u v : ℕ) (p : List LogEntry) → (x : IsCovered b s u p) → x.term ≤ v → s.leader v ≢ 0
    → IsFront p (s.leader_log v)
covered_has b s h u v p x le led =
    agree_down (length p) (suc x.place) (s.leader_log v) (s.leader_log x.term) x.short (committed_has b s h x.term x.place v x.committed le led) ∙ x.front

-- a leader's log begins with what was decided up to its term
pub leader_has : (b : Start) (s : Spine) → Sound b s → (u v : ℕ) (p : List LogEntry) → Decided b s u p → u ≤ v → s.leader v ≢ 0
    → IsFront p (s.leader_log v)
leader_has b s h u v p d le led = ⊎_elim
    (λ (e : IsFront p b.log). first_has b s h v p e led)
    (λ (x : IsCovered b s u p).
    let y = x.up_to in
    covered_has b s h u v p x (omega arith) led)
    d.how

-- of two decided lists one is a front of the other: both are fronts of the later leader's log
pub one_history : (b : Start) (s : Spine) → Sound b s → (u v : ℕ) (p q : List LogEntry) → Decided b s u p → Decided b s v q
    → IsFront p q ⊎ IsFront q p
one_history b s h u v p q dp dq = ⊎_elim
    (λ (e : IsFront p b.log). ⊎_elim
    (λ (f : IsFront q b.log). fronts b.log p q e f)
    (λ (y : IsCovered b s v q). fronts (s.leader_log y.term) p q (first_has b s h y.term p e y.committed.led) y.front)
    dq.how)
    (λ (x : IsCovered b s u p). ⊎_elim
    (λ (f : IsFront q b.log). fronts (s.leader_log x.term) p q x.front (first_has b s h x.term q f x.committed.led))
    (λ (y : IsCovered b s v q). ⊎_elim
    (λ (lt : x.term < y.term). fronts (s.leader_log y.term) p q (covered_has b s h u y.term p x (omega arith) y.committed.led) y.front)
    (λ (ge : y.term ≤ x.term). fronts (s.leader_log x.term) p q x.front (covered_has b s h v x.term q y ge x.committed.led))
    (cases_lt x.term y.term))
    dq.how)
    dp.how

pub reached_one_leader : (b : Start) (s : Spine) → IsReached b s → OneLeader b s
reached_one_leader b s r = let h = reached_sound b s r in record { one = one_leader b s; backed = λ t led. (h.elected t led).votes }

pub reached_logs_match : (b : Start) (s : Spine) → IsReached b s → LogsMatch s
reached_logs_match b s r j k i = let h = reached_sound b s r in rooted_match b s (s.term j) (s.term k) i (s.log j) (s.log k) (h.logs j) (h.logs k)

pub reached_one_history : (b : Start) (s : Spine) → IsReached b s → OneHistory b s
reached_one_history b s r = one_history b s (reached_sound b s r)

pub reached_leaders_have : (b : Start) (s : Spine) → IsReached b s → LeadersHave b s
reached_leaders_have b s r =
    let h = reached_sound b s r in
    record {
      of_term = leader_has b s h;
      of_node = λ u k p d le nz leads.
          subst (λ (l : List LogEntry). IsFront p l) (sym (h.own_log k nz leads)) (leader_has b s h u (s.term k) p d le (λ z. nz (sym leads ∙ z)));
    }

pub reached_for_good : (b : Start) (s : Spine) → IsReached b s → ForGood b s
reached_for_good b s r =
    let h = reached_sound b s r in
    record {
      known = λ ms can. moves_grow b r.start.low s h ms can;
      decided = λ ms u v p can le d. decided_stays b s (moved_all ms s) (moves_grow b r.start.low s h ms can) u v p le d;
    }
