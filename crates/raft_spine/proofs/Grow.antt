-- What is known stays known, and what is decided stays decided.
use Rattle.std.proofs.Common.{◌≡◌, ◌≢◌, ℕ, suc, ◌≤◌, leb, List, [], ◌∷◌, length, take, Some, refl, sym, ap, ◌∙◌, subst, arith, ◌⊎◌, inl, inr, ⊎_elim, take-take, length-take}
use Rattle.std.proofs.lemmas.Bool.{leb-true, le-leb}
use Rattle.raft_types.specs.declared.entry.LogEntry.{LogEntry}
use Rattle.raft_spine.specs.Logs.{SameFirst, IsFront}
use Rattle.raft_spine.specs.Start.{Start}
use Rattle.raft_spine.specs.Spine.{Spine, begin}
use Rattle.raft_spine.specs.Moves.{Move, Raise, Stand, Grant, Lead, Put, Adopt, Agree, Can, moved, CanAll, moved_all}
use Rattle.raft_spine.specs.Decided.{IsCommitted, IsCovered, Decided}
use Rattle.raft_spine.specs.Laws.{IsReached, Grows}
use Rattle.raft_spine.proofs.Sound.{Sound}
use Rattle.raft_spine.proofs.Begin.{begin_sound}
use Rattle.raft_spine.proofs.Quorum.{quorum_grows}
use Rattle.raft_spine.proofs.Fronts.{agree_term, agree_long, whole, front_fits, front_front}
use Rattle.raft_spine.proofs.At.{at_other, at2_other, at2_here, place}
use Rattle.raft_spine.proofs.Votes.{vote_stays}
use Rattle.raft_spine.proofs.Raise.{term_up}
use Rattle.raft_spine.proofs.Stand.{not_stood}
use Rattle.raft_spine.proofs.Lead.{free_term}
use Rattle.raft_spine.proofs.Put.{grown}
use Rattle.raft_spine.proofs.Run.{move_sound}

pub grows_same : (s : Spine) → Grows s s
grows_same s = record {
  term = λ j. omega arith;
  voted = λ j t v. refl;
  stood = λ j t l e. e;
  leader = λ t l. refl;
  leader_log = λ t l. whole (s.leader_log t);
  shared = λ j t. omega arith;
}

pub move_grows : (b : Start) (s : Spine) → Sound b s → (m : Move) → Can b s m → Grows s (moved m s)
move_grows b s h (Raise k t) c = let g = grows_same s in record {
  term = term_up b s h k t c.above;
  voted = g.voted;
  stood = g.stood;
  leader = g.leader;
  leader_log = g.leader_log;
  shared = g.shared;
}
move_grows b s h (Stand k) c = let g = grows_same s in record {
  term = g.term;
  voted = vote_stays s k k c.no_vote;
  stood = λ j t l e. at2_other s.stood k (s.term k) (Some (s.log k)) j t
      (⊎_elim
      (λ (p : (j ≡ k) × (t ≡ s.term k)). absurd (not_stood b s h k c l (ap (s.stood k) (sym p.1) ∙ (ap (λ (x : ℕ). s.stood x t) (sym p.0) ∙ e))))
      (λ (p : (j ≢ k) ⊎ (t ≢ s.term k)). p)
      (place j t k (s.term k)))
      ∙ e;
  leader = g.leader;
  leader_log = g.leader_log;
  shared = g.shared;
}
move_grows b s h (Grant j k) c = let g = grows_same s in record {
  term = g.term;
  voted = vote_stays s j k c.no_vote;
  stood = g.stood;
  leader = g.leader;
  leader_log = g.leader_log;
  shared = g.shared;
}
move_grows b s h (Lead k) c =
    let g = grows_same s in
    let other : (t : ℕ) → s.leader t ≢ 0 → t ≢ s.term k = λ (t : ℕ) (l : s.leader t ≢ 0) (q : t ≡ s.term k). l (ap s.leader q ∙ free_term b s h k c) in
    record {
      term = g.term;
      voted = g.voted;
      stood = g.stood;
      leader = λ t l. at_other s.leader (s.term k) k t (other t l);
      leader_log = λ t l. ap (take (length (s.leader_log t))) (at_other s.leader_log (s.term k) (s.log k) t (other t l)) ∙ whole (s.leader_log t);
      shared = g.shared;
    }
move_grows b s h (Put k e) c = let g = grows_same s in record {
  term = g.term;
  voted = g.voted;
  stood = g.stood;
  leader = g.leader;
  leader_log = λ t l. grown b s h k e c t (length (s.leader_log t)) (omega arith) ∙ whole (s.leader_log t);
  shared = g.shared;
}
move_grows b s h (Adopt k n) c = let g = grows_same s in record {
  term = g.term;
  voted = g.voted;
  stood = g.stood;
  leader = g.leader;
  leader_log = g.leader_log;
  shared = g.shared;
}
move_grows b s h (Agree k n) c = let g = grows_same s in record {
  term = g.term;
  voted = g.voted;
  stood = g.stood;
  leader = g.leader;
  leader_log = g.leader_log;
  shared = λ j t. ⊎_elim
      (λ (p : (j ≡ k) × (t ≡ s.term k)).
      let e = at2_here s.shared k (s.term k) n j t p in
      let m = c.more in
      let q : s.shared j t ≡ s.shared k (s.term k) = ap (λ (x : ℕ). s.shared x t) p.0 ∙ ap (s.shared k) p.1 in
      omega arith)
      (λ (p : (j ≢ k) ⊎ (t ≢ s.term k)). let e = at2_other s.shared k (s.term k) n j t p in omega arith)
      (place j t k (s.term k));
}

-- a front of a leader's log stays one
pub front_stays : (s s' : Spine) → Grows s s' → (t n : ℕ) → s.leader t ≢ 0 → n ≤ length (s.leader_log t)
    → SameFirst n (s'.leader_log t) (s.leader_log t)
front_stays s s' g t n led le = sym (take-take n (length (s.leader_log t)) (s'.leader_log t) le) ∙ ap (take n) (g.leader_log t led)

pub grows_both : (s s' s'' : Spine) → Grows s s' → Grows s' s'' → Grows s s''
grows_both s s' s'' g h = record {
  term = λ j. let a = g.term j in let c = h.term j in omega arith;
  voted = λ j t v. h.voted j t (λ z. v (sym (g.voted j t v) ∙ z)) ∙ g.voted j t v;
  stood = λ j t l e. h.stood j t l (g.stood j t l e);
  leader = λ t l. h.leader t (λ z. l (sym (g.leader t l) ∙ z)) ∙ g.leader t l;
  leader_log = λ t l.
      front_stays s' s'' h t (length (s.leader_log t)) (λ z. l (sym (g.leader t l) ∙ z)) (front_fits (s.leader_log t) (s'.leader_log t) (g.leader_log t l))
      ∙ g.leader_log t l;
  shared = λ j t. let a = g.shared j t in let c = h.shared j t in omega arith;
}

pub moves_grow : (b : Start) → b.base_term ≤ b.term → (s : Spine) → Sound b s → (ms : List Move) → CanAll b s ms → Grows s (moved_all ms s)
moves_grow b low s h [] c = grows_same s
moves_grow b low s h (m ∷ ms) c = grows_both s (moved m s) (moved_all ms (moved m s))
    (move_grows b s h m c.0)
    (moves_grow b low (moved m s) (move_sound b low s h m c.0) ms c.1)

-- no node's term is below the one that all began in
pub from_start : (b : Start) (s : Spine) (j : ℕ) → IsReached b s → b.term ≤ s.term j
from_start b s j r = subst (λ (x : Spine). b.term ≤ x.term j) r.is ((moves_grow b r.start.low (begin b) (begin_sound b r.start) r.moves r.can).term j)

committed_stays : (b : Start) (s s' : Spine) → Grows s s' → (t i : ℕ) → IsCommitted b s t i → IsCommitted b s' t i
committed_stays b s s' g t i m =
    let f = front_stays s s' g t (suc i) m.led m.own.below in
    record {
      led = λ z. m.led (sym (g.leader t m.led) ∙ z);
      own = record {
        below = agree_long (suc i) (s'.leader_log t) (s.leader_log t) m.own.below f;
        term = agree_term (suc i) i (s'.leader_log t) (s.leader_log t) (omega arith) f ∙ m.own.term;
      };
      most = quorum_grows b.members (λ j. leb (suc i) (s.shared j t)) (λ j. leb (suc i) (s'.shared j t))
          (λ j e. let x = leb-true (suc i) (s.shared j t) e in let y = g.shared j t in le-leb (suc i) (s'.shared j t) (omega arith)) m.most;
    }

pub decided_stays : (b : Start) (s s' : Spine) → Grows s s' → (u v : ℕ) (p : List LogEntry) → u ≤ v → Decided b s u p → Decided b s' v p
decided_stays b s s' g u v p le d = record {
  how = ⊎_elim
      (λ (e : IsFront p b.log). inl e)
      (λ (x : IsCovered b s u p).
      let w = x.committed.own.below in let y = x.short in let z = x.up_to in
      inr (record {
        term = x.term;
        place = x.place;
        up_to = omega arith;
        committed = committed_stays b s s' g x.term x.place x.committed;
        short = x.short;
        front = front_stays s s' g x.term (length p) x.committed.led (omega arith) ∙ x.front;
      }))
      d.how;
}

-- a front of what is decided is decided
pub decided_front : (b : Start) (s : Spine) (u n : ℕ) (p : List LogEntry) → Decided b s u p → Decided b s u (take n p)
decided_front b s u n p d = record {
  how = ⊎_elim
      (λ (e : IsFront p b.log). inl (front_front n p b.log e))
      (λ (x : IsCovered b s u p).
      let y = x.short in let z = length-take n p in
      inr (record {
        term = x.term;
        place = x.place;
        up_to = x.up_to;
        committed = x.committed;
        short = omega arith;
        front = front_front n p (s.leader_log x.term) x.front;
      }))
      d.how;
}
