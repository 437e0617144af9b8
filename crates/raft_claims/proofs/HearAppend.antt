-- An append that comes to a node of its term: whatever the test let through, and wherever the node stops, is a list of moves.
use Rattle.std.proofs.Common.{◌≡◌, ◌≢◌, ℕ, zero, suc, ◌+◌, ◌<◌, ◌≤◌, All, List, [], ◌∷◌, length, take, refl, sym, ap, ◌∙◌, subst, arith, ◌⊎◌, ⊎_elim, take_all, length-take-le}
use Rattle.std.proofs.lemmas.Bool.{cases_lt}
use Rattle.std.proofs.lemmas.List.Elements.{All-nil, All-cons}
use Rattle.raft_types.specs.declared.entry.LogEntry.{LogEntry}
use Rattle.raft_types.specs.Items.{stored}
use Rattle.raft_types.specs.Append.{appended}
use Rattle.raft_spine.specs.Start.{Start}
use Rattle.raft_spine.specs.Spine.{Spine, at}
use Rattle.raft_spine.specs.Moves.{last_term, Move, Adopt, Agree, CanAll, moved_all, actor}
use Rattle.raft_spine.specs.Decided.{Decided}
use Rattle.raft_claims.specs.Claims.{Piece}
use Rattle.raft_spine.proofs.Sound.{Sound}
use Rattle.raft_spine.proofs.Fronts.{agree_down, agree_long}
use Rattle.raft_spine.proofs.At.{at_same, at2_same}
use Rattle.raft_spine.proofs.Laws.{rooted_match, leader_has}
use Rattle.raft_claims.proofs.Whole.{last_of_front}
use Rattle.raft_claims.proofs.Append.{Meets, append_keeps, append_full}

-- node k of the spine hears an append of its own term, with n entries before it, and has decided c of its own
pub record Hears (b : Start) (s : Spine) (k n c : ℕ) (es : List LogEntry) : Type 0 where
  pub led : s.leader (s.term k) ≢ 0
  pub piece : Piece (s.leader_log (s.term k)) n es
  pub decided : Decided b s (s.term k) (take c (s.log k))
  pub short : c ≤ length (s.log k)
  -- the test: nothing is asked at or below the base, which is decided; above it the term there is the message's
  pub passes : (n ≤ c) ⊎ ((n ≤ length (s.log k)) × (last_term b (take n (s.log k)) ≡ last_term b (take n (s.leader_log (s.term k)))))

module _ (b : Start) (s : Spine) (h : Sound b s) (k n c : ℕ) (es : List LogEntry) (e : Hears b s k n c es) where
  his : List LogEntry
  his = s.leader_log (s.term k)

  pub commit_same : take c (s.log k) ≡ take c (s.leader_log (s.term k))
  commit_same =
      let q = length-take-le c (s.log k) e.short in
      sym (subst (λ (x : ℕ). take x (s.leader_log (s.term k)) ≡ take c (s.log k)) q (leader_has b s h (s.term k) (s.term k) (take c (s.log k)) e.decided (omega arith) e.led))

  meets : Meets b s.leader s.leader_log (s.term k) (s.term k) c (s.log k) (s.leader_log (s.term k))
  meets = record { mine = h.logs k; his = h.leader_logs (s.term k) e.led; commit = commit_same; short = agree_long c (s.leader_log (s.term k)) (s.log k) e.short (sym commit_same) }

  -- the test is right, also at or below the base
  before_same : take n (s.log k) ≡ take n (s.leader_log (s.term k))
  before_same = ⊎_elim
      (λ (x : n ≤ c). agree_down n c (s.log k) (s.leader_log (s.term k)) x commit_same)
      (λ (y : (n ≤ length (s.log k)) × (last_term b (take n (s.log k)) ≡ last_term b (take n (s.leader_log (s.term k))))). test n y.0 y.1 e.piece.within)
      e.passes
    where
      test : (m : ℕ) → m ≤ length (s.log k) → last_term b (take m (s.log k)) ≡ last_term b (take m (s.leader_log (s.term k))) → m + length es ≤ length (s.leader_log (s.term k)) → take m (s.log k) ≡ take m (s.leader_log (s.term k))
      test zero a q w = refl
      test (suc i) a q w = rooted_match b s (s.term k) (s.term k) i (s.log k) (s.leader_log (s.term k)) (h.logs k) (h.leader_logs (s.term k) e.led) a (omega arith)
          (sym (last_of_front b i (s.log k) a) ∙ (q ∙ last_of_front b i (s.leader_log (s.term k)) (omega arith)))

  no_moves : All (λ (m : Move). actor m ≡ k) []
  no_moves = All-nil (λ (m : Move). actor m ≡ k)

  adopts : (m : ℕ) → All (λ (x : Move). actor x ≡ k) (Adopt k m ∷ [])
  adopts m = All-cons (λ (x : Move). actor x ≡ k) (Adopt k m) [] refl no_moves

  agrees : (m : ℕ) → All (λ (x : Move). actor x ≡ k) (Agree k m ∷ [])
  agrees m = All-cons (λ (x : Move). actor x ≡ k) (Agree k m) [] refl no_moves

  -- wherever it stops, what it keeps is made by moves
  pub kept_by_moves : (start j : ℕ) → (ms : List Move) × CanAll b s ms × ((moved_all ms s).log k ≡ stored start (s.log k) (take j (appended start c (s.log k) n es)))
      × ((moved_all ms s).term ≡ s.term) × ((moved_all ms s).voted ≡ s.voted) × All (λ (m : Move). actor m ≡ k) ms
  kept_by_moves start j = ⊎_elim
      (λ (q : stored start (s.log k) (take j (appended start c (s.log k) n es)) ≡ s.log k). ([], tt, sym q, refl, refl, no_moves))
      (λ (x : (m : ℕ) × (m ≤ n + length es) × (stored start (s.log k) (take j (appended start c (s.log k) n es)) ≡ take m (s.leader_log (s.term k))) × (take m (s.log k) ≡ take m (s.leader_log (s.term k)) → ⊥)).
      let w = e.piece.within in let x1 = x.1 in
      (Adopt k x.0 ∷ [], (record { led = e.led; within = omega arith; differs = x.3 }, tt), at_same s.log k (take x.0 (s.leader_log (s.term k))) ∙ sym x.2, refl, refl, adopts x.0))
      (append_keeps b s (s.term k) (s.term k) c (s.log k) (s.leader_log (s.term k)) meets start n j es e.piece before_same)

  -- after the whole append the two share what it covers
  pub after_same : (start : ℕ) → take (n + length es) (stored start (s.log k) (appended start c (s.log k) n es)) ≡ take (n + length es) (s.leader_log (s.term k))
  after_same start = append_full b s (s.term k) (s.term k) c (s.log k) (s.leader_log (s.term k)) meets start n es e.piece before_same

  -- the whole event: at most one move Adopt, and one move Agree where more is shared than before
  pub append_moves : (start : ℕ) → (ms : List Move) × CanAll b s ms
      × ((moved_all ms s).log k ≡ stored start (s.log k) (appended start c (s.log k) n es))
      × (n + length es ≤ (moved_all ms s).shared k (s.term k))
      × ((moved_all ms s).term ≡ s.term) × ((moved_all ms s).voted ≡ s.voted) × All (λ (m : Move). actor m ≡ k) ms
  append_moves start =
      let l' = stored start (s.log k) (appended start c (s.log k) n es) in
      let w = e.piece.within in
      let all : take (length (appended start c (s.log k) n es)) (appended start c (s.log k) n es) ≡ appended start c (s.log k) n es = take_all (length (appended start c (s.log k) n es)) (appended start c (s.log k) n es) (omega arith) in
      let cases = append_keeps b s (s.term k) (s.term k) c (s.log k) (s.leader_log (s.term k)) meets start n (length (appended start c (s.log k) n es)) es e.piece before_same in
      ⊎_elim
      (λ (more : n + length es < s.shared k (s.term k)). ⊎_elim
      (λ (q : stored start (s.log k) (take (length (appended start c (s.log k) n es)) (appended start c (s.log k) n es)) ≡ s.log k).
      ([], tt, sym q ∙ ap (stored start (s.log k)) all, omega arith, refl, refl, no_moves))
      (λ (x : (m : ℕ) × (m ≤ n + length es) × (stored start (s.log k) (take (length (appended start c (s.log k) n es)) (appended start c (s.log k) n es)) ≡ take m (s.leader_log (s.term k))) × (take m (s.log k) ≡ take m (s.leader_log (s.term k)) → ⊥)).
      let x1 = x.1 in
      (Adopt k x.0 ∷ [], (record { led = e.led; within = omega arith; differs = x.3 }, tt), at_same s.log k (take x.0 (s.leader_log (s.term k))) ∙ (sym x.2 ∙ ap (stored start (s.log k)) all), omega arith, refl, refl, adopts x.0))
      cases)
      (λ (less : s.shared k (s.term k) ≤ n + length es). ⊎_elim
      (λ (q : stored start (s.log k) (take (length (appended start c (s.log k) n es)) (appended start c (s.log k) n es)) ≡ s.log k).
      let same : s.log k ≡ l' = sym q ∙ ap (stored start (s.log k)) all in
      (Agree k (n + length es) ∷ [], (record { led = e.led; within = w; more = less; same = ap (take (n + length es)) same ∙ after_same start }, tt), same, (let z = at2_same s.shared k (s.term k) (n + length es) in omega arith), refl, refl, agrees (n + length es)))
      (λ (x : (m : ℕ) × (m ≤ n + length es) × (stored start (s.log k) (take (length (appended start c (s.log k) n es)) (appended start c (s.log k) n es)) ≡ take m (s.leader_log (s.term k))) × (take m (s.log k) ≡ take m (s.leader_log (s.term k)) → ⊥)).
      let x1 = x.1 in
      let mine : at s.log k (take x.0 (s.leader_log (s.term k))) k ≡ l' = at_same s.log k (take x.0 (s.leader_log (s.term k))) ∙ (sym x.2 ∙ ap (stored start (s.log k)) all) in (
        Adopt k x.0 ∷ Agree k (n + length es) ∷ [],
        (record { led = e.led; within = omega arith; differs = x.3 }, (record { led = e.led; within = w; more = less; same = ap (take (n + length es)) mine ∙ after_same start }, tt)),
        mine,
        (let z = at2_same s.shared k (s.term k) (n + length es) in omega arith),
        refl,
        refl,
        All-cons (λ (y : Move). actor y ≡ k) (Adopt k x.0) (Agree k (n + length es) ∷ []) refl (agrees (n + length es)),
      ))
      cases)
      (cases_lt (n + length es) (s.shared k (s.term k)))
