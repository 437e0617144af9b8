-- Moves of one node leave what the spine says of another one.
use Rattle.std.proofs.Common.{◌≡◌, ◌≢◌, ℕ, ◌≤◌, All, List, [], ◌∷◌, refl, sym, ap, ◌∙◌, ⊎_elim}
use Rattle.std.proofs.lemmas.Bool.{cases_eq}
use Rattle.std.proofs.lemmas.List.Elements.{All-head, All-tail}
use Rattle.raft_spine.specs.Start.{Start}
use Rattle.raft_spine.specs.Spine.{Spine, at}
use Rattle.raft_spine.specs.Moves.{Move, Raise, Stand, Grant, Lead, Put, Adopt, Agree, actor, Can, moved, CanAll, moved_all}
use Rattle.raft_spine.proofs.Sound.{Sound}
use Rattle.raft_spine.proofs.At.{at_same, at_other, at2_row}
use Rattle.raft_spine.proofs.Lead.{free_term}
use Rattle.raft_spine.proofs.Run.{move_sound}
use Rattle.raft_spine.proofs.Grow.{move_grows}

-- what moves of other nodes leave of node j: its term, log, votes and shares, that it does not lead a term, and the logs of the terms that it leads
pub record Leaves (s s' : Spine) (j : ℕ) : Type 0 where
  pub term : s'.term j ≡ s.term j
  pub log : s'.log j ≡ s.log j
  pub voted : (t : ℕ) → s'.voted j t ≡ s.voted j t
  pub shared : (t : ℕ) → s'.shared j t ≡ s.shared j t
  pub unled : (t : ℕ) → s.leader t ≢ j → s'.leader t ≢ j
  pub leader_log : (t : ℕ) → s.leader t ≡ j → s'.leader_log t ≡ s.leader_log t

-- one move of another node leaves node j
pub leaves : (b : Start) (s : Spine) → Sound b s → (m : Move) → Can b s m → (j : ℕ) → j ≢ 0 → j ≢ actor m → Leaves s (moved m s) j
leaves b s h (Raise k t) c j nz d = record { term = at_other s.term k t j d; log = refl; voted = λ u. refl; shared = λ u. refl; unled = λ u n. n; leader_log = λ u e. refl }
leaves b s h (Stand k) c j nz d = record { term = refl; log = refl; voted = λ u. at2_row s.voted k (s.term k) k j u d; shared = λ u. refl; unled = λ u n. n; leader_log = λ u e. refl }
leaves b s h (Grant k i) c j nz d = record { term = refl; log = refl; voted = λ u. at2_row s.voted k (s.term k) i j u d; shared = λ u. refl; unled = λ u n. n; leader_log = λ u e. refl }
leaves b s h (Lead k) c j nz d = record {
  term = refl;
  log = refl;
  voted = λ u. refl;
  shared = λ u. refl;
  unled = λ u n z. ⊎_elim
      (λ (q : u ≡ s.term k). d (sym z ∙ (ap (at s.leader (s.term k) k) q ∙ at_same s.leader (s.term k) k)))
      (λ (q : u ≢ s.term k). n (sym (at_other s.leader (s.term k) k u q) ∙ z)) (cases_eq u (s.term k));
  leader_log = λ u e. at_other s.leader_log (s.term k) (s.log k) u (λ (q : u ≡ s.term k). nz (sym e ∙ (ap s.leader q ∙ free_term b s h k c)));
}
leaves b s h (Put k x) c j nz d = record {
  term = refl;
  log = at_other s.log k _ j d;
  voted = λ u. refl;
  shared = λ u. refl;
  unled = λ u n. n;
  leader_log = λ u e. at_other s.leader_log (s.term k) _ u (λ (q : u ≡ s.term k). d (sym e ∙ (ap s.leader q ∙ c.leads)));
}
leaves b s h (Adopt k n) c j nz d = record { term = refl; log = at_other s.log k _ j d; voted = λ u. refl; shared = λ u. refl; unled = λ u n. n; leader_log = λ u e. refl }
leaves b s h (Agree k n) c j nz d = record { term = refl; log = refl; voted = λ u. refl; shared = λ u. at2_row s.shared k (s.term k) n j u d; unled = λ u n. n; leader_log = λ u e. refl }

-- so do all moves of one other node
pub leaves_all : (b : Start) → b.base_term ≤ b.term → (s : Spine) → Sound b s → (k : ℕ) (ms : List Move) → CanAll b s ms → All (λ (m : Move). actor m ≡ k) ms
    → (j : ℕ) → j ≢ 0 → j ≢ k → Leaves s (moved_all ms s) j
leaves_all b low s h k [] can mine j nz d = record { term = refl; log = refl; voted = λ t. refl; shared = λ t. refl; unled = λ t n. n; leader_log = λ t e. refl }
leaves_all b low s h k (m ∷ ms) can mine j nz d =
    let a = leaves b s h m can.0 j nz (λ z. d (z ∙ All-head (λ (m : Move). actor m ≡ k) m ms mine)) in
    let g = move_grows b s h m can.0 in
    let r = leaves_all b low (moved m s) (move_sound b low s h m can.0) k ms can.1 (All-tail (λ (m : Move). actor m ≡ k) m ms mine) j nz d in
    record {
      term = r.term ∙ a.term;
      log = r.log ∙ a.log;
      voted = λ t. r.voted t ∙ a.voted t;
      shared = λ t. r.shared t ∙ a.shared t;
      unled = λ t n. r.unled t (a.unled t n);
      leader_log = λ t e. r.leader_log t (g.leader t (λ z. nz (sym e ∙ z)) ∙ e) ∙ a.leader_log t e;
    }
