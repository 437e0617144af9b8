-- Votes: what they tell of the node voted for, and what both moves that set a vote, Stand and Grant, keep.
use Rattle.std.proofs.Common.{◌≤◌, List, ◌≡◌, ◌≢◌, ℕ, ◌==◌, Option, Some, None, sym, ap, ◌∙◌, ◌⊎◌, inl, inr, ⊎_elim, ◌<◌, arith}
use Rattle.std.proofs.lemmas.Bool.{cases_lt, cases_eq, eqb-true, eq-eqb}
use Rattle.raft_types.specs.declared.entry.LogEntry.{LogEntry}
use Rattle.raft_spine.specs.Quorum.{IsQuorum}
use Rattle.raft_spine.specs.Start.{Start}
use Rattle.raft_spine.specs.Spine.{Spine, at2}
use Rattle.raft_spine.proofs.Quorum.{two_quorums, quorum_grows}
use Rattle.raft_spine.proofs.Sound.{Candidate, Elected, Sound}
use Rattle.raft_spine.proofs.At.{at2_other, place}

pub none≢some : {A : Type 0} {x : A} {o : Option A} → o ≡ None → o ≡ Some x → ⊥
none≢some e f = cc

-- who voted in a term came to it
pub voter_came : (b : Start) (s : Spine) → Sound b s → (j t : ℕ) → s.voted j t ≢ 0 → t ≤ s.term j
voter_came b s h j t nv = ⊎_elim (λ (z : s.term j < t). absurd (nv (h.voted_past j t z))) (λ (z : t ≤ s.term j). z) (cases_lt (s.term j) t)

-- a node that a majority voted for stood
pub elected_stood : (b : Start) (s : Spine) → Sound b s → (k t : ℕ) → k ≢ 0 → b.term < t → IsQuorum b.members (λ j. s.voted j t == k)
    → (l : List LogEntry) × (s.stood k t ≡ Some l)
elected_stood b s h k t nz late q =
    let y = two_quorums b.members (λ j. s.voted j t == k) (λ j. s.voted j t == k) q q in
    let v : s.voted y.0 t ≡ k = eqb-true (s.voted y.0 t) k y.1 in
    let o = h.voted_stood y.0 t late (λ z. nz (sym v ∙ z)) in
    (o.0, ap (λ (x : ℕ). s.stood x t) (sym v) ∙ o.1)

module _ (s : Spine) (j k : ℕ) (none : s.voted j (s.term j) ≡ 0) where
  -- a vote that was given stays
  pub vote_stays : (x u : ℕ) → s.voted x u ≢ 0 → at2 s.voted j (s.term j) k x u ≡ s.voted x u
  vote_stays x u nv = at2_other s.voted j (s.term j) k x u (⊎_elim
      (λ (p : (x ≡ j) × (u ≡ s.term j)). absurd (nv (ap (λ (y : ℕ). s.voted y u) p.0 ∙ (ap (s.voted j) p.1 ∙ none))))
      (λ (p : (x ≢ j) ⊎ (u ≢ s.term j)). p)
      (place x u j (s.term j)))

  -- and so does each majority of votes for a node
  more_votes : (b : Start) (u w : ℕ) → w ≢ 0 → IsQuorum b.members (λ x. s.voted x u == w)
      → IsQuorum b.members (λ x. at2 s.voted j (s.term j) k x u == w)
  more_votes b u w nz q = quorum_grows b.members (λ x. s.voted x u == w) (λ x. at2 s.voted j (s.term j) k x u == w)
      (λ x e. let v = eqb-true (s.voted x u) w e in eq-eqb (at2 s.voted j (s.term j) k x u) w (vote_stays x u (λ z. nz (sym v ∙ z)) ∙ v))
      q

  pub voted_elected : (b : Start) → Sound b s → (u : ℕ) → s.leader u ≢ 0 → Elected b (at2 s.voted j (s.term j) k) u (s.leader u)
  voted_elected b h u led = let o = h.elected u led in record { late = o.late; votes = more_votes b u (s.leader u) led o.votes }

  -- who stood before still voted for itself
  pub voted_candidate : (b : Start) (x u : ℕ) → Candidate b s.voted x u → Candidate b (at2 s.voted j (s.term j) k) x u
  voted_candidate b x u o = record {
    is_node = o.is_node;
    late = o.late;
    own_vote = vote_stays x u (λ z. o.is_node (sym o.own_vote ∙ z)) ∙ o.own_vote;
  }

  -- no vote is given in a term that is still before the voter
  pub voted_not_past : (b : Start) → Sound b s → (x u : ℕ) → s.term x < u → at2 s.voted j (s.term j) k x u ≡ 0
  voted_not_past b h x u lt =
      at2_other s.voted j (s.term j) k x u
      (⊎_elim
      (λ (e : x ≡ j). inr (λ (q : u ≡ s.term j). let y = ap s.term e in (let r : ⊥ = omega arith in r)))
      (λ (d : x ≢ j). inl d)
      (cases_eq x j))
      ∙ h.voted_past x u lt
