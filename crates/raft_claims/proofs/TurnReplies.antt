-- A reply to an append, and one to the last piece of a snapshot.
use Rattle.std.proofs.Common.{◌≡◌, ◌≢◌, ℕ, zero, suc, ◌+◌, ◌-◌, ◌<◌, ◌≤◌, max, Bool, true, false, cond, nat_lt, nat_le, ◌&&◌, ◌==◌, All, List, [], ◌∷◌, length, take, get_or, set, refl, sym, ap, ◌∙◌, arith, ◌⊎◌, inl, inr, ⊎_elim}
use Rattle.std.proofs.lemmas.Bool.{eqb-true, ltb-true, ltb-false, and_parts, cases_lt}
use Rattle.std.proofs.lemmas.List.Elements.{All-nil, All-cons}
use Rattle.raft_types.specs.declared.entry.LogEntry.{LogEntry}
use Rattle.raft_types.specs.declared.message.Message.{Message}
use Rattle.raft_types.specs.declared.state.Role.{Role}
use Rattle.raft_types.specs.declared.state.Role.TheVariants.{Follower, Candidate, Leader}
use Rattle.raft_types.specs.Log.{last_index}
use Rattle.raft_types.specs.Quorum.{ids}
use Rattle.raft_types.specs.Core.{CoreParts, Out, is_leader, next_of, match_of, message_to, quiet}
use Rattle.raft_types.specs.Commit.{committed}
use Rattle.raft_types.specs.Send.{chunk_from, sent_to, to_all}
use Rattle.raft_types.specs.Append.{acked_by, refused_by, hears_append_reply}
use Rattle.raft_types.specs.Snapshot.{hears_chunk_reply}
use Rattle.raft_spine.specs.Start.{Start}
use Rattle.raft_spine.specs.Spine.{Spine}
use Rattle.raft_spine.specs.Moves.{Move, actor}
use Rattle.raft_spine.proofs.Sound.{Sound}
use Rattle.raft_claims.specs.Claims.{HeldClaim, Claim}
use Rattle.raft_claims.specs.Tied.{Tied, Turned}
use Rattle.raft_claims.proofs.Turns.{turn_still, turn_quiet}
use Rattle.raft_claims.proofs.Sent.{leader_whole, chunk_claim, sent_claim, sent_claims}
use Rattle.raft_claims.proofs.Committing.{committed_tied}

pub leader_role : (r : Role) → is_leader r ≡ true → r ≡ Leader
leader_role Follower e = absurd (let q : false ≡ true = e in cc)
leader_role Candidate e = absurd (let q : false ≡ true = e in cc)
leader_role Leader e = refl

-- a place of a list after one place was set
set_at : (xs : List ℕ) (i v k : ℕ) → ((k ≡ i) × (get_or (set xs i v) k 0 ≡ v)) ⊎ (get_or (set xs i v) k 0 ≡ get_or xs k 0)
set_at [] i v k = inr refl
set_at (x ∷ xs) zero v zero = inl (refl, refl)
set_at (x ∷ xs) zero v (suc k) = inr refl
set_at (x ∷ xs) (suc i) v zero = inr refl
set_at (x ∷ xs) (suc i) v (suc k) = ⊎_elim
    (λ (q : (k ≡ i) × (get_or (set xs i v) k 0 ≡ v)). inl (ap suc q.0, q.1))
    (λ (q : get_or (set xs i v) k 0 ≡ get_or xs k 0). inr q)
    (set_at xs i v k)

module _ (b : Start) (len : List LogEntry → ℕ) (s : Spine) (h : Sound b s) (c : CoreParts) (whole : List LogEntry) (ok : Tied b len s c whole)
    (nodes : b.members ≡ ids c.nodes) (j : ℕ) (node : 1 ≤ j) (role : c.role ≡ Leader) where
  abbrev sends : CoreParts → List Message → Out
  sends d ms = record { core = d; items = []; messages = ms }

  -- no node is counted for more than there is
  in_log : (i : ℕ) → s.shared i c.term ≤ length whole
  in_log i = ⊎_elim
      (λ (x : 0 < s.shared i c.term). let w = (h.shares i c.term x).within in let e = ap length (leader_whole b len s h c whole ok role) in omega (arith, w, e))
      (λ (x : s.shared i c.term ≤ 0). let z : s.shared i c.term ≤ length whole = omega (arith, x) in z)
      (cases_lt 0 (s.shared i c.term))

  -- node j is counted for m, and is sent next what is past n
  abbrev counted : ℕ → ℕ → CoreParts
  counted m n = record c { «match» = set c.«match» (j - 1) m; next = set c.next (j - 1) n }

  counted_tied : (m n : ℕ) → m ≤ b.base + s.shared j c.term → n ≤ b.base + length whole + 1 → Tied b len s (counted m n) whole
  counted_tied m n lo hi = record {
    is_node = ok.is_node;
    term = ok.term;
    vote = ok.vote;
    log = ok.log;
    stands_for = ok.stands_for;
    size = ok.size;
    based = ok.based;
    known = ok.known;
    short = ok.short;
    decided = ok.decided;
    standing = λ z. absurd (let q : Leader ≡ Candidate = sym role ∙ z in cc);
    leading = λ z. let x = ok.leading role in record {
      leads = x.leads;
      own = x.own;
      matches = λ i w. ⊎_elim
          (λ (q : (i - 1 ≡ j - 1) × (get_or (set c.«match» (j - 1) m) (i - 1) 0 ≡ m)).
          let same : i ≡ j = (let q0 = q.0 in omega (arith, q0, w, node)) in
          let y = ap (λ (k : ℕ). s.shared k c.term) same in let q1 = q.1 in omega (arith, q1, y, lo))
          (λ (q : get_or (set c.«match» (j - 1) m) (i - 1) 0 ≡ get_or c.«match» (i - 1) 0). let y = x.matches i w in omega (arith, q, y))
          (set_at c.«match» (j - 1) m (i - 1));
      nexts = λ i. ⊎_elim
          (λ (q : (i - 1 ≡ j - 1) × (get_or (set c.next (j - 1) n) (i - 1) 0 ≡ n)). let q1 = q.1 in omega (arith, q1, hi))
          (λ (q : get_or (set c.next (j - 1) n) (i - 1) 0 ≡ get_or c.next (i - 1) 0). let y = x.nexts i in omega (arith, q, y))
          (set_at c.next (j - 1) n (i - 1));
    };
  }

  -- a turn of the core that is counted so is one of the core
  still_counted : (d : CoreParts) (ms : List Message) → d.id ≡ c.id → d.log.base ≡ c.log.base → Tied b len s d whole
      → All (λ (x : Message). (x.from ≡ c.id) × Claim b len s x.from x.to x.body) ms → Turned b len s c whole (sends d ms) whole
  still_counted d ms i e t said = record { moves = []; mine = All-nil (λ (m : Move). actor m ≡ c.id); can = tt; tied = t; said = said; front = refl }

  pub turn_acked : (index : ℕ) → index ≤ b.base + s.shared j c.term → Turned b len s c whole (acked_by c j index) whole
  turn_acked index le =
      let x = (ok.leading role).matches j node in
      let w = in_log j in
      let m = max (match_of c j) index in
      let d = counted m (suc m) in
      let t0 : Tied b len s d whole = counted_tied m (suc m) (omega (arith, x, le)) (omega (arith, x, le, w)) in
      let e = committed d in
      let t : Tied b len s e whole = committed_tied b len s h d whole t0 role nodes in
      let all : All (λ (y : Message). (y.from ≡ c.id) × Claim b len s y.from y.to y.body) (to_all e) = sent_claims b len s h e whole t role in
      let one : All (λ (y : Message). (y.from ≡ c.id) × Claim b len s y.from y.to y.body) (sent_to e j ∷ []) =
      All-cons (λ (y : Message). (y.from ≡ c.id) × Claim b len s y.from y.to y.body) (sent_to e j) [] (refl, sent_claim b len s h e whole t role j) (All-nil (λ (y : Message). (y.from ≡ c.id) × Claim b len s y.from y.to y.body)) in
      still_counted e (cond (nat_lt c.commit e.commit) (to_all e) (cond (nat_lt (match_of c j) m && nat_le (suc m) (last_index e.log)) (sent_to e j ∷ []) [])) refl refl t
      (chosen e (nat_lt c.commit e.commit) (nat_lt (match_of c j) m && nat_le (suc m) (last_index e.log)) all one)
    where
      chosen : (e : CoreParts) (p q : Bool) → All (λ (y : Message). (y.from ≡ c.id) × Claim b len s y.from y.to y.body) (to_all e)
          → All (λ (y : Message). (y.from ≡ c.id) × Claim b len s y.from y.to y.body) (sent_to e j ∷ [])
          → All (λ (y : Message). (y.from ≡ c.id) × Claim b len s y.from y.to y.body) (cond p (to_all e) (cond q (sent_to e j ∷ []) []))
      chosen e true q all one = all
      chosen e false true all one = one
      chosen e false false all one = All-nil (λ (y : Message). (y.from ≡ c.id) × Claim b len s y.from y.to y.body)

  pub turn_refused : (index : ℕ) → Turned b len s c whole (refused_by c j index) whole
  turn_refused index = answer (nat_lt (suc index) (next_of c j)) refl
    where
      answer : (g : Bool) → nat_lt (suc index) (next_of c j) ≡ g
          → Turned b len s c whole (cond g (sends (record c { next = set c.next (j - 1) (max (suc (match_of c j)) (suc index)) }) (sent_to (record c { next = set c.next (j - 1) (max (suc (match_of c j)) (suc index)) }) j ∷ [])) (quiet c)) whole
      answer false e = turn_quiet b len s c whole ok
      answer true e =
          let lt = ltb-true (suc index) (next_of c j) e in
          let x = ok.leading role in let y = x.nexts j in let z = x.matches j node in let w = in_log j in
          let d : CoreParts = record c { next = set c.next (j - 1) (max (suc (match_of c j)) (suc index)) } in
          let t : Tied b len s d whole = record {
            is_node = ok.is_node;
            term = ok.term;
            vote = ok.vote;
            log = ok.log;
            stands_for = ok.stands_for;
            size = ok.size;
            based = ok.based;
            known = ok.known;
            short = ok.short;
            decided = ok.decided;
            standing = λ r. absurd (let q : Leader ≡ Candidate = sym role ∙ r in cc);
            leading = λ r. record {
              leads = x.leads;
              own = x.own;
              matches = x.matches;
              nexts = λ i. ⊎_elim
                  (λ (q : (i - 1 ≡ j - 1) × (get_or (set c.next (j - 1) (max (suc (match_of c j)) (suc index))) (i - 1) 0 ≡ max (suc (match_of c j)) (suc index))). let q1 = q.1 in omega (arith, q1, lt, y, z, w))
                  (λ (q : get_or (set c.next (j - 1) (max (suc (match_of c j)) (suc index))) (i - 1) 0 ≡ get_or c.next (i - 1) 0). let v = x.nexts i in omega (arith, q, v))
                  (set_at c.next (j - 1) (max (suc (match_of c j)) (suc index)) (i - 1));
            };
          } in
          still_counted d (sent_to d j ∷ []) refl refl t
          (All-cons (λ (m : Message). (m.from ≡ c.id) × Claim b len s m.from m.to m.body) (sent_to d j) [] (refl, sent_claim b len s h d whole t role j) (All-nil (λ (m : Message). (m.from ≡ c.id) × Claim b len s m.from m.to m.body)))

-- a reply to an append
pub turn_append_reply : (b : Start) (len : List LogEntry → ℕ) (s : Spine) → Sound b s → (c : CoreParts) (whole : List LogEntry) → Tied b len s c whole
    → b.members ≡ ids c.nodes → (from : ℕ) → 1 ≤ from → (t : ℕ) (taken : Bool) (index : ℕ) → (taken ≡ true → (s.leader t ≢ 0) × (index ≤ b.base + s.shared from t))
    → Turned b len s c whole (hears_append_reply c from t taken index) whole
turn_append_reply b len s h c whole ok nodes from node t taken index claim = answer (is_leader c.role && (t == c.term)) refl
  where
    chosen : (role : c.role ≡ Leader) → t ≡ c.term → (g : Bool) → taken ≡ g → Turned b len s c whole (cond g (acked_by c from index) (refused_by c from index)) whole
    chosen role e true q = let x = (claim q).1 in let y = ap (s.shared from) e in turn_acked b len s h c whole ok nodes from node role index (omega (arith, x, y))
    chosen role e false q = turn_refused b len s h c whole ok nodes from node role index

    answer : (g : Bool) → (is_leader c.role && (t == c.term)) ≡ g → Turned b len s c whole (cond g (cond taken (acked_by c from index) (refused_by c from index)) (quiet c)) whole
    answer false e = turn_quiet b len s c whole ok
    answer true e =
        let g = and_parts (is_leader c.role) (t == c.term) e in
        chosen (leader_role c.role g.0) (eqb-true t c.term g.1) taken refl

-- a reply to a chunk: where it says that all bytes are held, it is one to an append up to the base
pub turn_chunk_reply : (b : Start) (len : List LogEntry → ℕ) → ((l : List LogEntry) → 1 ≤ len l) → (s : Spine) → Sound b s → (c : CoreParts) (whole : List LogEntry) → Tied b len s c whole
    → b.members ≡ ids c.nodes → (from : ℕ) → 1 ≤ from → (t index off : ℕ) → (off ≡ 0) ⊎ HeldClaim b len s from t index off → Turned b len s c whole (hears_chunk_reply c from t index off) whole
turn_chunk_reply b len some s h c whole ok nodes from node t index off claim = answer (is_leader c.role && ((t == c.term) && (index == c.log.base))) refl
  where
    full : c.role ≡ Leader → t ≡ c.term → index ≡ c.log.base → c.snapshot_len ≤ off → HeldClaim b len s from t index off → index ≤ b.base + s.shared from c.term
    full role e i le x =
        let o = ok.based in let xi = x.index in let z = ok.size in
        let n : c.log.base - b.base ≡ x.n = omega (arith, o, xi, i) in
        let lw : take x.n (s.leader_log t) ≡ take (c.log.base - b.base) whole =
        ap (λ (u : ℕ). take x.n (s.leader_log u)) e ∙ (ap (take x.n) (leader_whole b len s h c whole ok role) ∙ ap (λ (k : ℕ). take k whole) (sym n)) in
        let q = ap len lw in
        let y = x.whole (omega (arith, q, z, le)) in
        let w = ap (s.shared from) e in
        omega (arith, y, w, xi)

    chosen : c.role ≡ Leader → t ≡ c.term → index ≡ c.log.base → (g : Bool) → nat_lt off c.snapshot_len ≡ g
        → Turned b len s c whole (cond g (record { core = c; items = []; messages = message_to c from (chunk_from c off) ∷ [] }) (acked_by c from index)) whole
    chosen role e i true f = turn_still b len s c whole ok (record { core = c; items = []; messages = message_to c from (chunk_from c off) ∷ [] }) refl
        (All-cons (λ (x : Message). (x.from ≡ c.id) × Claim b len s x.from x.to x.body) (message_to c from (chunk_from c off)) [] (refl, chunk_claim b len s h c whole ok role)
        (All-nil (λ (x : Message). (x.from ≡ c.id) × Claim b len s x.from x.to x.body)))
    chosen role e i false f =
        let le = ltb-false off c.snapshot_len f in
        turn_acked b len s h c whole ok nodes from node role index (⊎_elim
        (λ (z : off ≡ 0). let q = some (take (c.log.base - b.base) whole) in let y = ok.size in absurd (omega (arith, z, q, y, le)))
        (λ (x : HeldClaim b len s from t index off). full role e i le x)
        claim)

    answer : (g : Bool) → (is_leader c.role && ((t == c.term) && (index == c.log.base))) ≡ g
        → Turned b len s c whole (cond g (cond (nat_lt off c.snapshot_len) (record { core = c; items = []; messages = message_to c from (chunk_from c off) ∷ [] }) (acked_by c from index)) (quiet c)) whole
    answer false e = turn_quiet b len s c whole ok
    answer true e =
        let g = and_parts (is_leader c.role) ((t == c.term) && (index == c.log.base)) e in
        let g1 = and_parts (t == c.term) (index == c.log.base) g.1 in
        chosen (leader_role c.role g.0) (eqb-true t c.term g1.0) (eqb-true index c.log.base g1.1) (nat_lt off c.snapshot_len) refl
