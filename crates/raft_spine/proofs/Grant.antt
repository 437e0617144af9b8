-- Grant: a vote for a log that is at least as up to date keeps the spine sound.
use Rattle.std.proofs.Common.{◌≡◌, ◌≢◌, ℕ, suc, ◌-◌, ◌<◌, ◌≤◌, List, [], ◌∷◌, length, take, Some, refl, sym, ap, ◌∙◌, subst, arith, ◌⊎◌, inl, inr, ⊎_elim}
use Rattle.std.proofs.lemmas.Bool.{cases_lt}
use Rattle.raft_types.specs.declared.entry.LogEntry.{LogEntry}
use Rattle.raft_spine.specs.Logs.{IsOfTerm, SameFirst}
use Rattle.raft_types.specs.Log.{term_at}
use Rattle.raft_spine.specs.Start.{Start}
use Rattle.raft_spine.specs.Spine.{Spine, at2}
use Rattle.raft_spine.specs.Moves.{last_term, IsUpToDate, Grants, grant}
use Rattle.raft_spine.proofs.Sound.{Dead, Has, Rooted, Sound}
use Rattle.raft_spine.proofs.Fronts.{agree_down, agree_term, agree_long}
use Rattle.raft_spine.proofs.At.{at2_other, at2_here, place}
use Rattle.raft_spine.proofs.Votes.{voted_elected, voted_candidate, voted_not_past}

-- a log that ends in term t, and is longer than i, is the same as the leader's of that term up to entry i
same_term_has : (b : Start) (s : Spine) (t i bound : ℕ) (c : List LogEntry)
    → Rooted b s.leader s.leader_log bound c → i < length c → term_at c (length c - 1) ≡ t
    → SameFirst (suc i) c (s.leader_log t)
same_term_has b s t i bound c rc h e =
    let m = rc.same (length c - 1) (omega arith) in
    let m' = subst (λ (u : ℕ). take (suc (length c - 1)) c ≡ take (suc (length c - 1)) (s.leader_log u)) e m in
    agree_down (suc i) (suc (length c - 1)) c (s.leader_log t) (omega arith) m'

-- a log that ends in a later term u has the entry where that term's leader has it, since it goes on beyond it
later_term_has : (b : Start) (s : Spine) → Sound b s → (t i bound u : ℕ) (c : List LogEntry)
    → s.leader u ≢ 0 → IsOfTerm (s.leader_log t) t i → t < u
    → Rooted b s.leader s.leader_log bound c → 0 < length c → term_at c (length c - 1) ≡ u
    → SameFirst (suc i) (s.leader_log u) (s.leader_log t)
    → SameFirst (suc i) c (s.leader_log t)
later_term_has b s h t i bound u c led own lt rc some e a =
    let m = length c - 1 in
    let cm = subst (λ (v : ℕ). take (suc m) c ≡ take (suc m) (s.leader_log v)) e (rc.same m (omega arith)) in
    let tm : term_at (s.leader_log u) m ≡ u = sym (agree_term (suc m) m c (s.leader_log u) (omega arith) cm) ∙ e in
    let ti : term_at (s.leader_log u) i ≡ t = agree_term (suc i) i (s.leader_log u) (s.leader_log t) (omega arith) a ∙ own.term in
    let il : suc i ≤ length (s.leader_log u) = agree_long (suc i) (s.leader_log u) (s.leader_log t) own.below a in
    let below : i < m = ⊎_elim (λ (x : i < m). x) (λ (y : m ≤ i). let r = (h.leader_logs u led).rising m i y il in absurd (omega arith)) (cases_lt i m) in
    agree_down (suc i) (suc m) c (s.leader_log u) (omega arith) cm ∙ a

-- the rule of the log that is at least as up to date, for logs that are not empty
nonempty_has : (b : Start) (s : Spine) → Sound b s → (t i bound bound' : ℕ) (l c : List LogEntry)
    → s.leader t ≢ 0 → IsOfTerm (s.leader_log t) t i
    → Rooted b s.leader s.leader_log bound l → Rooted b s.leader s.leader_log bound' c
    → SameFirst (suc i) l (s.leader_log t)
    → 0 < length c
    → (term_at l (length l - 1) < term_at c (length c - 1)) ⊎ ((term_at l (length l - 1) ≡ term_at c (length c - 1)) × (length l ≤ length c))
    → Has b s t i c
nonempty_has b s h t i bound bound' l c led own rl rc e some newer =
    let il : suc i ≤ length l = agree_long (suc i) l (s.leader_log t) own.below e in
    let ti : term_at l i ≡ t = agree_term (suc i) i l (s.leader_log t) (omega arith) e ∙ own.term in
    let up = rl.rising i (length l - 1) (omega arith) (omega arith) in
    let u = term_at c (length c - 1) in
    let late = (h.elected t led).late in
    let later : t < u → Has b s t i c = λ (lt : t < u).
    ⊎_elim (λ (early : u ≤ b.term). absurd (omega arith))
    (λ (known : s.leader u ≢ 0). ⊎_elim
    (λ (a : SameFirst (suc i) (s.leader_log u) (s.leader_log t)). inl (later_term_has b s h t i bound' u c known own lt rc some refl a))
    (λ (d : Dead b s.shared s.term t i). inr d)
    (h.later_has t u i lt led known own))
    (rc.known (length c - 1) (omega arith)) in
    ⊎_elim (λ (lt : t < u). later lt)
    (λ (le : u ≤ t). ⊎_elim (λ (x : term_at l (length l - 1) < u). absurd (omega arith))
    (λ (y : (term_at l (length l - 1) ≡ u) × (length l ≤ length c)).
    let y1 = y.1 in let y0 = y.0 in
    inl (same_term_has b s t i bound' c rc (omega arith) (let q : u ≡ t = omega arith in q)))
    newer)
    (cases_lt t u)

pub last_term_is : (b : Start) (l : List LogEntry) → 0 < length l → last_term b l ≡ term_at l (length l - 1)
last_term_is b [] h = absurd (omega arith)
last_term_is b (x ∷ xs) h = ap (term_at (x ∷ xs)) (let e : length xs ≡ length (x ∷ xs) - 1 = omega arith in e)

empty_or_not : (l : List LogEntry) → (l ≡ []) ⊎ (0 < length l)
empty_or_not [] = inl refl
empty_or_not (x ∷ xs) = inr (omega arith)

-- a log that is at least as up to date as one with a leader's own entry has that entry too, or that is dead
up_to_date_has : (b : Start) (s : Spine) → Sound b s → b.base_term ≤ b.term → (t i bound bound' : ℕ) (l c : List LogEntry)
    → s.leader t ≢ 0 → IsOfTerm (s.leader_log t) t i
    → Rooted b s.leader s.leader_log bound l → Rooted b s.leader s.leader_log bound' c
    → IsUpToDate b c l → SameFirst (suc i) l (s.leader_log t)
    → Has b s t i c
up_to_date_has b s h low t i bound bound' l c led own rl rc newer e =
    let il : suc i ≤ length l = agree_long (suc i) l (s.leader_log t) own.below e in
    let ti : term_at l i ≡ t = agree_term (suc i) i l (s.leader_log t) (omega arith) e ∙ own.term in
    let up = rl.rising i (length l - 1) (omega arith) (omega arith) in
    let tl = last_term_is b l (omega arith) in
    let late = (h.elected t led).late in
    let some : 0 < length c = ⊎_elim
    (λ (q : c ≡ []). let z = ap (last_term b) q in absurd (⊎_elim
    (λ (x : last_term b l < last_term b c). (let r : ⊥ = omega arith in r))
    (λ (y : (last_term b l ≡ last_term b c) × (length l ≤ length c)). let y0 = y.0 in (let r : ⊥ = omega arith in r)) newer))
    (λ (q : 0 < length c). q) (empty_or_not c) in
    let tc = last_term_is b c some in
    nonempty_has b s h t i bound bound' l c led own rl rc e some (⊎_elim
    (λ (x : last_term b l < last_term b c). inl (omega arith))
    (λ (y : (last_term b l ≡ last_term b c) × (length l ≤ length c)). inr (sym tl ∙ (y.0 ∙ tc), y.1)) newer)

-- the votes after the move
abbrev votes_now : Spine → ℕ → ℕ → ℕ → ℕ → ℕ
votes_now s j k = at2 s.voted j (s.term j) k

module _ (b : Start) (s : Spine) (h : Sound b s) (low : b.base_term ≤ b.term) (j k : ℕ) (g : Grants b s j k) where
  grant_voted_stood : (x u : ℕ) → b.term < u → votes_now s j k x u ≢ 0 → (l : List LogEntry) × (s.stood (votes_now s j k x u) u ≡ Some l)
  grant_voted_stood x u late nv = ⊎_elim
      (λ (p : (x ≡ j) × (u ≡ s.term j)). (g.log, ap (λ (y : ℕ). s.stood y u) (at2_here s.voted j (s.term j) k x u p) ∙ (ap (s.stood k) p.1 ∙ g.stood)))
      (λ (p : (x ≢ j) ⊎ (u ≢ s.term j)).
      let e = at2_other s.voted j (s.term j) k x u p in
      let o = h.voted_stood x u late (λ (z : s.voted x u ≡ 0). nv (e ∙ z)) in
      (o.0, ap (λ (y : ℕ). s.stood y u) e ∙ o.1))
      (place x u j (s.term j))

  -- the candidate's log has what the voter was seen to share, by the rule of the log that is at least as up to date
  grant_voted_has : (x u v i : ℕ) (l : List LogEntry) → u < v → votes_now s j k x v ≢ 0 → s.stood (votes_now s j k x v) v ≡ Some l
      → IsOfTerm (s.leader_log u) u i → i < s.shared x u → Has b s u i l
  grant_voted_has x u v i l lt nv st o a = ⊎_elim
      (λ (p : (x ≡ j) × (v ≡ s.term j)).
      let e = at2_here s.voted j (s.term j) k x v p in
      let st' : s.stood k v ≡ Some l = ap (λ (y : ℕ). s.stood y v) (sym e) ∙ st in
      let st2 : s.stood k v ≡ Some g.log = ap (s.stood k) p.1 ∙ g.stood in
      let q : g.log ≡ l = cc in
      let mine : Has b s u i (s.log j) = subst (λ (y : ℕ). Has b s u i (s.log y)) p.0 (h.holder_has x u i o a) in
      let led = (h.shares x u (omega arith)).led in
      subst (λ (m : List LogEntry). Has b s u i m) q (⊎_elim
      (λ (y : SameFirst (suc i) (s.log j) (s.leader_log u)).
      up_to_date_has b s h low u i (s.term j) (s.term j) (s.log j) g.log led o (h.logs j) (h.stood_logs k (s.term j) g.log g.stood) g.up_to_date y)
      (λ (d : Dead b s.shared s.term u i). inr d) mine))
      (λ (p : (x ≢ j) ⊎ (v ≢ s.term j)).
      let e = at2_other s.voted j (s.term j) k x v p in
      h.voted_has x u v i l lt (λ (z : s.voted x v ≡ 0). nv (e ∙ z)) (ap (λ (y : ℕ). s.stood y v) (sym e) ∙ st) o a)
      (place x v j (s.term j))

  pub grant_sound : Sound b (grant j k s)
  grant_sound = record {
    voted_past = voted_not_past s j k g.no_vote b h;
    voted_stood = grant_voted_stood;
    candidates = λ x u l e. voted_candidate s j k g.no_vote b x u (h.candidates x u l e);
    candidate_log = h.candidate_log;
    elected = voted_elected s j k g.no_vote b h;
    own_log = h.own_log;
    logs = h.logs;
    leader_logs = h.leader_logs;
    stood_logs = h.stood_logs;
    shares = h.shares;
    holder_has = h.holder_has;
    later_has = h.later_has;
    voted_has = grant_voted_has;
  }
