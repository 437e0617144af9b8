-- A chunk of a snapshot, and its install.
use Rattle.std.proofs.Common.{◌≡◌, ◌≢◌, ℕ, suc, ◌+◌, ◌-◌, ◌<◌, ◌≤◌, Bool, true, false, cond, nat_lt, nat_le, ◌&&◌, ◌==◌, All, List, [], ◌∷◌, ◌++◌, length, take, drop, Option, Some, None, refl, sym, ap, ◌∙◌, subst, arith, inl, inr, ⊎_elim, length-take-le, drop-drop, append-nil}
use Rattle.std.proofs.Math.Seq.{take-append_seam, drop-append_seam}
use Rattle.std.proofs.lemmas.List.{take-append-drop}
use Rattle.std.proofs.lemmas.Bool.{cases_lt, eqb-true, eqb-false, eq-eqb, leb-true, leb-false, ltb-false, lt-ltb}
use Rattle.std.proofs.lemmas.List.Elements.{All-nil, All-cons, All-append}
use Rattle.raft_types.specs.declared.entry.LogEntry.{LogEntry}
use Rattle.raft_types.specs.declared.message.Message.{Message}
use Rattle.raft_types.specs.declared.message.Body.TheVariants.{ChunkReply}
use Rattle.raft_types.specs.declared.state.Role.TheVariants.{Follower, Candidate, Leader}
use Rattle.raft_types.specs.Log.{LogParts, term_at, log_term, compacted}
use Rattle.raft_types.specs.Items.{stored, number}
use Rattle.raft_types.specs.Core.{CoreParts, Out, message_to}
use Rattle.raft_types.specs.Append.{is_term, follows}
use Rattle.raft_types.specs.Snapshot.{stays, installed, installs, hears_chunk}
use Rattle.raft_types.proofs.Kept.{stored_past}
use Rattle.raft_types.proofs.Installs.{stays_not}
use Rattle.raft_spine.specs.Logs.{SameFirst}
use Rattle.raft_spine.specs.Start.{Start}
use Rattle.raft_spine.specs.Spine.{Spine}
use Rattle.raft_spine.specs.Moves.{last_term, Move, Adopt, Agree, actor, CanAll, moved_all}
use Rattle.raft_spine.specs.Decided.{Decided}
use Rattle.raft_spine.proofs.Sound.{Rooted, Sound}
use Rattle.raft_spine.proofs.At.{at_same, at2_same}
use Rattle.raft_spine.proofs.Fronts.{agree_down, agree_long}
use Rattle.raft_spine.proofs.Laws.{rooted_match, leader_has}
use Rattle.raft_spine.proofs.Run.{moves_sound, can_both, moved_both}
use Rattle.raft_spine.proofs.Grow.{moves_grow, grows_both, decided_stays}
use Rattle.raft_claims.specs.Claims.{ChunkClaim, HeldClaim, Claim}
use Rattle.raft_claims.specs.Tied.{whole_log, Tied, Turned}
use Rattle.raft_claims.specs.Events.{IsOfSender, whole_after}
use Rattle.raft_claims.proofs.Whole.{compact, compact_is, log_at, last_of_front}
use Rattle.raft_claims.proofs.Sent.{compact_term}
use Rattle.raft_claims.proofs.Turns.{turn_still, turned_as}
use Rattle.raft_claims.proofs.TurnAppend.{term_there, follow_role, follows_tied}

-- a node is seen to share n entries with the leader of its term
pub record Seen (b : Start) (s : Spine) (k n : ℕ) : Type 0 where
  pub moves : List Move
  pub mine : All (λ m. actor m ≡ k) moves
  pub can : CanAll b s moves
  pub term : (moved_all moves s).term ≡ s.term
  pub log : (moved_all moves s).log ≡ s.log
  pub voted : (moved_all moves s).voted ≡ s.voted
  pub leader : (moved_all moves s).leader ≡ s.leader
  pub leader_log : (moved_all moves s).leader_log ≡ s.leader_log
  pub shared : n ≤ (moved_all moves s).shared k (s.term k)

-- a node that shares the first n entries with its term's leader is seen to, by one move or none
seen_to_share : (b : Start) (s : Spine) (k n : ℕ) → s.leader (s.term k) ≢ 0 → n ≤ length (s.leader_log (s.term k)) → SameFirst n (s.log k) (s.leader_log (s.term k)) → Seen b s k n
seen_to_share b s k n led within same = ⊎_elim
    (λ (more : n < s.shared k (s.term k)). record {
      moves = [];
      mine = All-nil (λ (m : Move). actor m ≡ k);
      can = tt;
      term = refl;
      log = refl;
      voted = refl;
      leader = refl;
      leader_log = refl;
      shared = omega arith;
    })
    (λ (less : s.shared k (s.term k) ≤ n). record {
      moves = Agree k n ∷ [];
      mine = All-cons (λ (m : Move). actor m ≡ k) (Agree k n) [] refl (All-nil (λ (m : Move). actor m ≡ k));
      can = (record { led = led; within = within; same = same; more = less }, tt);
      term = refl;
      log = refl;
      voted = refl;
      leader = refl;
      leader_log = refl;
      shared = (let z = at2_same s.shared k (s.term k) n in omega arith);
    })
    (cases_lt n (s.shared k (s.term k)))

module _ (b : Start) (low : b.base_term ≤ b.term) (len : List LogEntry → ℕ) (s : Spine) (h : Sound b s) (c : CoreParts) (whole : List LogEntry) (ok : Tied b len s c whole)
    (from t index bt total : ℕ) (claim : ChunkClaim b len s from t index bt total) (same : t ≡ c.term) (role : c.role ≡ Follower) where
  here : s.term c.id ≡ t
  here = ok.term ∙ sym same

  led : s.leader (s.term c.id) ≢ 0
  led = subst (λ (u : ℕ). s.leader u ≢ 0) (sym here) claim.led

  within : claim.n ≤ length (s.leader_log (s.term c.id))
  within = subst (λ (u : ℕ). claim.n ≤ length (s.leader_log u)) (sym here) claim.long

  log_is : c.log ≡ compact b whole c.log.base
  log_is = let o = ok.based in let o2 = ok.known in let o3 = ok.short in ok.stands_for ∙ compact_is b whole c.log.base o (omega arith)

  -- the node has the leader's log up to its commit
  commit_same : take (c.commit - b.base) whole ≡ take (c.commit - b.base) (s.leader_log (s.term c.id))
  commit_same =
      let o1 = ok.based in let o2 = ok.known in let o3 = ok.short in
      let q = length-take-le (c.commit - b.base) whole (omega arith) in
      sym (subst (λ (x : ℕ). take x (s.leader_log (s.term c.id)) ≡ take (c.commit - b.base) whole) q
      (leader_has b s h c.term (s.term c.id) (take (c.commit - b.base) whole) ok.decided (let e = ok.term in omega arith) led))

  abbrev answer_of : ℕ → Message
  answer_of n = message_to c from (ChunkReply c.term index n)

  -- the node shares the chunk's entries, and says so
  held_claim : (s' : Spine) → s'.leader ≡ s.leader → s'.leader_log ≡ s.leader_log → (off : ℕ) → (len (take claim.n (s.leader_log t)) ≤ off → claim.n ≤ s'.shared c.id (s.term c.id))
      → Claim b len s' c.id from (ChunkReply c.term index off)
  held_claim s' el ell off f = inr (subst (λ (u : ℕ). HeldClaim b len s' c.id u index off) same (record {
    led = λ z. claim.led (sym (ap (λ (g : ℕ → ℕ). g t) el) ∙ z);
    n = claim.n;
    index = claim.index;
    long = subst (λ (g : ℕ → List LogEntry). claim.n ≤ length (g t)) (sym ell) claim.long;
    whole = λ le. subst (λ (u : ℕ). claim.n ≤ s'.shared c.id u) here (f (subst (λ (g : ℕ → List LogEntry). len (take claim.n (g t)) ≤ off) ell le));
  }))

  -- what is applied already is shared
  turn_applied : index ≤ c.commit → Turned b len s c whole (record { core = c; items = []; messages = answer_of total ∷ [] }) whole
  turn_applied le =
      let o1 = ok.based in let ci = claim.index in
      let front : SameFirst claim.n (s.log c.id) (s.leader_log (s.term c.id)) =
      ap (take claim.n) ok.log ∙ agree_down claim.n (c.commit - b.base) whole (s.leader_log (s.term c.id)) (omega arith) commit_same in
      let y = seen_to_share b s c.id claim.n led within front in
      let s' = moved_all y.moves s in
      let g = moves_grow b low s h y.moves y.can in
      record {
        moves = y.moves;
        mine = y.mine;
        can = y.can;
        tied = record {
          is_node = ok.is_node;
          term = ap (λ (f : ℕ → ℕ). f c.id) y.term ∙ ok.term;
          vote = ap (λ (f : ℕ → ℕ → ℕ). f c.id c.term) y.voted ∙ ok.vote;
          log = ap (λ (f : ℕ → List LogEntry). f c.id) y.log ∙ ok.log;
          stands_for = ok.stands_for;
          size = ok.size;
          based = ok.based;
          known = ok.known;
          short = ok.short;
          decided = decided_stays b s s' g c.term c.term (take (c.commit - b.base) whole) (omega arith) ok.decided;
          standing = λ z. absurd (let q : Follower ≡ Candidate = sym role ∙ z in cc);
          leading = λ z. absurd (let q : Follower ≡ Leader = sym role ∙ z in cc);
        };
        said = All-cons (λ (x : Message). (x.from ≡ c.id) × Claim b len s' x.from x.to x.body) (answer_of total) []
            (refl, held_claim s' y.leader y.leader_log total (λ l. y.shared)) (All-nil (λ (x : Message). (x.from ≡ c.id) × Claim b len s' x.from x.to x.body));
        front = refl;
      }

  -- fewer bytes than the snapshot has say nothing
  turn_part : (held : ℕ) → held < total → Turned b len s c whole (record { core = c; items = []; messages = answer_of held ∷ [] }) whole
  turn_part held few = turn_still b len s c whole ok (record { core = c; items = []; messages = answer_of held ∷ [] }) refl
      (All-cons (λ (x : Message). (x.from ≡ c.id) × Claim b len s x.from x.to x.body) (answer_of held) []
      (refl, held_claim s refl refl held (λ l. let z = claim.size in absurd (omega arith))) (All-nil (λ (x : Message). (x.from ≡ c.id) × Claim b len s x.from x.to x.body)))

  module _ (past : c.log.base < index) where
    some : 1 ≤ claim.n
    some = let o = ok.based in let ci = claim.index in omega arith

    his_long : length (take claim.n (s.leader_log t)) ≡ claim.n
    his_long = length-take-le claim.n (s.leader_log t) claim.long

    -- where the log has the entry there, it has all before it as the leader has
    test_same : is_term (log_term c.log index) bt ≡ true → take claim.n whole ≡ take claim.n (s.leader_log t)
    test_same e = found (log_term c.log index) refl e
      where
        found : (o : Option ℕ) → log_term c.log index ≡ o → is_term o bt ≡ true → take claim.n whole ≡ take claim.n (s.leader_log t)
        found None f r = absurd (cc)
        found (Some x) f r =
            let o1 = ok.based in let o2 = ok.known in let o3 = ok.short in
            let y = term_there b whole c.log.base index claim.n x o1 (omega arith) claim.index (ap (λ (l : LogParts). log_term l index) (sym log_is) ∙ f) in
            let y0 = y.0 in
            let n = some in
            let i : suc (claim.n - 1) ≡ claim.n = omega arith in
            let cl = claim.long in
            let mine : term_at whole (claim.n - 1) ≡ x = sym (last_of_front b (claim.n - 1) whole (omega arith)) ∙ (ap (λ (k : ℕ). last_term b (take k whole)) i ∙ y.1) in
            let its : term_at (s.leader_log t) (claim.n - 1) ≡ bt =
            sym (last_of_front b (claim.n - 1) (s.leader_log t) (omega arith)) ∙ (ap (λ (k : ℕ). last_term b (take k (s.leader_log t))) i ∙ sym claim.last) in
            let m = rooted_match b s (s.term c.id) t (claim.n - 1) whole (s.leader_log t) (subst (λ (l : List LogEntry). Rooted b s.leader s.leader_log (s.term c.id) l) ok.log (h.logs c.id)) (h.leader_logs t claim.led)
            (omega arith) (omega arith) (mine ∙ (eqb-true x bt r ∙ sym its)) in
            subst (λ (k : ℕ). take k whole ≡ take k (s.leader_log t)) i m

    -- where it has not, its entries up to the index are others
    test_differs : is_term (log_term c.log index) bt ≡ false → take claim.n whole ≡ take claim.n (s.leader_log t) → ⊥
    test_differs e q =
        let o1 = ok.based in let o2 = ok.known in let o3 = ok.short in let ci = claim.index in
        let long : claim.n ≤ length whole = agree_long claim.n whole (s.leader_log t) claim.long q in
        let term : log_term c.log index ≡ Some bt =
        ap (λ (l : LogParts). log_term l index) log_is ∙ (compact_term b whole c.log.base claim.n index o1 (omega arith) ci long
        ∙ ap (λ (x : ℕ). Some x) (ap (last_term b) q ∙ sym claim.last)) in
        let r : is_term (log_term c.log index) bt ≡ true = ap (λ (o : Option ℕ). is_term o bt) term ∙ eq-eqb bt bt refl in
        absurd (let z : true ≡ false = sym r ∙ e in cc)

    -- the whole log after the install is the leader's up to the index, and what stays
    after_front : take claim.n (take claim.n (s.leader_log t) ++ stays c.log index bt) ≡ take claim.n (s.leader_log t)
    after_front =
        ap (λ (n : ℕ). take n (take claim.n (s.leader_log t) ++ stays c.log index bt)) (sym his_long) ∙ take-append_seam (take claim.n (s.leader_log t)) (stays c.log index bt)

    after_rest : drop claim.n (take claim.n (s.leader_log t) ++ stays c.log index bt) ≡ stays c.log index bt
    after_rest =
        ap (λ (n : ℕ). drop n (take claim.n (s.leader_log t) ++ stays c.log index bt)) (sym his_long) ∙ drop-append_seam (take claim.n (s.leader_log t)) (stays c.log index bt)

    -- the log becomes that, by one move or none
    pub record Becomes : Type 0 where
      pub moves : List Move
      pub mine : All (λ m. actor m ≡ c.id) moves
      pub can : CanAll b s moves
      pub term : (moved_all moves s).term ≡ s.term
      pub log : (moved_all moves s).log c.id ≡ take claim.n (s.leader_log t) ++ stays c.log index bt
      pub voted : (moved_all moves s).voted ≡ s.voted
      pub leader : (moved_all moves s).leader ≡ s.leader
      pub leader_log : (moved_all moves s).leader_log ≡ s.leader_log

    becomes : Becomes
    becomes = answer (is_term (log_term c.log index) bt) refl
      where
        test : (g : Bool) → is_term (log_term c.log index) bt ≡ g → (nat_lt c.log.base index && is_term (log_term c.log index) bt) ≡ g
        test g e = ap (λ (x : Bool). x && is_term (log_term c.log index) bt) (lt-ltb c.log.base index past) ∙ e

        answer : (g : Bool) → is_term (log_term c.log index) bt ≡ g → Becomes
        answer true e =
            let o1 = ok.based in let ci = claim.index in
            let st : stays c.log index bt ≡ drop claim.n whole =
            ap (λ (x : Bool). cond x (drop (index - c.log.base) c.log.entries) []) (test true e)
            ∙ (ap (λ (l : LogParts). drop (index - c.log.base) l.entries) log_is
            ∙ (drop-drop (index - c.log.base) (c.log.base - b.base) whole ∙ ap (λ (k : ℕ). drop k whole) (let q : c.log.base - b.base + (index - c.log.base) ≡ claim.n = omega arith in q))) in
            record {
              moves = [];
              mine = All-nil (λ (m : Move). actor m ≡ c.id);
              can = tt;
              term = refl;
              log = ok.log ∙ (sym (take-append-drop claim.n whole) ∙ (ap (λ (x : List LogEntry). x ++ drop claim.n whole) (test_same e) ∙ ap (λ (x : List LogEntry). take claim.n (s.leader_log t) ++ x) (sym st)));
              voted = refl;
              leader = refl;
              leader_log = refl;
            }
        answer false e =
            let st : stays c.log index bt ≡ [] = stays_not c.log index bt (test false e) in
            record {
              moves = Adopt c.id claim.n ∷ [];
              mine = All-cons (λ (m : Move). actor m ≡ c.id) (Adopt c.id claim.n) [] refl (All-nil (λ (m : Move). actor m ≡ c.id));
              can = (
                record {
                  led = led;
                  within = within;
                  differs = λ q. test_differs e (ap (take claim.n) (sym ok.log) ∙ (q ∙ ap (λ (u : ℕ). take claim.n (s.leader_log u)) here));
                },
                tt,
              );
              term = refl;
              log = at_same s.log c.id (take claim.n (s.leader_log (s.term c.id)))
                  ∙ (ap (λ (u : ℕ). take claim.n (s.leader_log u)) here ∙ (sym (append-nil (take claim.n (s.leader_log t))) ∙ ap (λ (x : List LogEntry). take claim.n (s.leader_log t) ++ x) (sym st)));
              voted = refl;
              leader = refl;
              leader_log = refl;
            }

    -- the snapshot is installed
    turn_installs : Turned b len s c whole (installs c from index bt total) (take claim.n (s.leader_log t) ++ stays c.log index bt)
    turn_installs =
        let o1 = ok.based in let o2 = ok.known in let o3 = ok.short in let ci = claim.index in
        let l' = take claim.n (s.leader_log t) ++ stays c.log index bt in
        let a = becomes in
        let s1 = moved_all a.moves s in
        let g1 = moves_grow b low s h a.moves a.can in
        let h1 = moves_sound b low s h a.moves a.can in
        let term1 : s1.term c.id ≡ s.term c.id = ap (λ (f : ℕ → ℕ). f c.id) a.term in
        let led1 : s1.leader (s1.term c.id) ≢ 0 = (λ z. led (sym (ap (λ (f : ℕ → ℕ). f (s.term c.id)) a.leader) ∙ (ap s1.leader (sym term1) ∙ z))) in
        let its : s1.leader_log (s1.term c.id) ≡ s.leader_log t = ap s1.leader_log (term1 ∙ here) ∙ ap (λ (f : ℕ → List LogEntry). f t) a.leader_log in
        let front1 : SameFirst claim.n (s1.log c.id) (s1.leader_log (s1.term c.id)) = ap (take claim.n) a.log ∙ (after_front ∙ ap (take claim.n) (sym its)) in
        let y = seen_to_share b s1 c.id claim.n led1 (subst (λ (l : List LogEntry). claim.n ≤ length l) (sym its) claim.long) front1 in
        let s' = moved_all y.moves s1 in
        let g2 = moves_grow b low s1 h1 y.moves y.can in
        let g = grows_both s s1 s' g1 g2 in
        let long : claim.n ≤ length l' = agree_long claim.n l' (s.leader_log t) claim.long after_front in
        let place : index - b.base ≡ claim.n = omega arith in
        let fronts : take (index - b.base) l' ≡ take claim.n (s.leader_log t) = ap (λ (n : ℕ). take n l') place ∙ after_front in
        let rest : drop (index - b.base) l' ≡ stays c.log index bt = ap (λ (n : ℕ). drop n l') place ∙ after_rest in
        let stands : (installed c index bt total).log ≡ compacted (whole_log b l') index =
        sym (compact_is b l' index (omega arith) (omega arith)
        ∙ (ap (λ (x : List LogEntry). log_at index (last_term b x) (drop (index - b.base) l')) fronts
        ∙ (ap (λ (x : ℕ). log_at index x (drop (index - b.base) l')) (sym claim.last)
        ∙ ap (λ (x : List LogEntry). log_at index bt x) rest))) in
        let two : moved_all (a.moves ++ y.moves) s ≡ s' = moved_both s a.moves y.moves in
        let tied : Tied b len s' (installed c index bt total) l' = record {
          is_node = ok.is_node;
          term = ap (λ (f : ℕ → ℕ). f c.id) y.term ∙ (term1 ∙ ok.term);
          vote = ap (λ (f : ℕ → ℕ → ℕ). f c.id c.term) y.voted ∙ (ap (λ (f : ℕ → ℕ → ℕ). f c.id c.term) a.voted ∙ ok.vote);
          log = ap (λ (f : ℕ → List LogEntry). f c.id) y.log ∙ a.log;
          stands_for = stands;
          size = claim.size ∙ ap len (sym fronts);
          based = omega arith;
          known = omega arith;
          short = omega arith;
          decided = subst (λ (l : List LogEntry). Decided b s' c.term l) (sym fronts)
              (decided_stays b s s' g c.term c.term (take claim.n (s.leader_log t)) (omega arith) (subst (λ (u : ℕ). Decided b s u (take claim.n (s.leader_log t))) same claim.decided));
          standing = λ z. absurd (let q : Follower ≡ Candidate = sym role ∙ z in cc);
          leading = λ z. absurd (let q : Follower ≡ Leader = sym role ∙ z in cc);
        } in
        let shared : claim.n ≤ s'.shared c.id (s.term c.id) = subst (λ (u : ℕ). claim.n ≤ s'.shared c.id u) term1 y.shared in
        let said : All (λ (x : Message). (x.from ≡ c.id) × Claim b len s' x.from x.to x.body) (answer_of total ∷ []) =
        All-cons (λ (x : Message). (x.from ≡ c.id) × Claim b len s' x.from x.to x.body) (answer_of total) []
        (refl, held_claim s' (y.leader ∙ a.leader) (y.leader_log ∙ a.leader_log) total (λ l. shared)) (All-nil (λ (x : Message). (x.from ≡ c.id) × Claim b len s' x.from x.to x.body)) in
        record {
          moves = a.moves ++ y.moves;
          mine = All-append (λ (m : Move). actor m ≡ c.id) a.moves y.moves a.mine y.mine;
          can = can_both b s a.moves y.moves a.can y.can;
          tied = subst (λ (x : Spine). Tied b len x (installed c index bt total) l') (sym two) tied;
          said = subst (λ (x : Spine). All (λ (m : Message). (m.from ≡ c.id) × Claim b len x m.from m.to m.body) (answer_of total ∷ [])) (sym two) said;
          front = agree_down (c.log.base - b.base) claim.n l' (s.leader_log t) (omega arith) after_front
              ∙ (ap (λ (u : ℕ). take (c.log.base - b.base) (s.leader_log u)) (sym here)
              ∙ sym (agree_down (c.log.base - b.base) (c.commit - b.base) whole (s.leader_log (s.term c.id)) (omega arith) commit_same));
        }

    -- which is what the items make of the whole log
    after_items : (sender : List LogEntry) → SameFirst (index - b.base) sender (s.leader_log t)
        → whole_after b sender whole (installs c from index bt total).items ≡ take claim.n (s.leader_log t) ++ stays c.log index bt
    after_items sender q =
        let ci = claim.index in
        let place : index - b.base ≡ claim.n = omega arith in
        let f : take (index - b.base) sender ≡ take claim.n (s.leader_log t) = q ∙ ap (λ (n : ℕ). take n (s.leader_log t)) place in
        let i : suc index ≡ suc (b.base + length (take claim.n (s.leader_log t))) = (let l = his_long in omega arith) in
        ap (λ (x : List LogEntry). stored b.base x (number (suc index) (stays c.log index bt))) f
        ∙ (ap (λ (x : ℕ). stored b.base (take claim.n (s.leader_log t)) (number x (stays c.log index bt))) i
        ∙ stored_past b.base (take claim.n (s.leader_log t)) (stays c.log index bt))

-- what a chunk makes of a node: refused by its term, not needed, held, and installed
abbrev lower : CoreParts → ℕ → Out
lower c from = record { core = c; items = []; messages = message_to c from (ChunkReply c.term 0 0) ∷ [] }

abbrev answers : CoreParts → ℕ → ℕ → ℕ → Out
answers d from index n = record { core = d; items = []; messages = message_to d from (ChunkReply d.term index n) ∷ [] }

module _ (b : Start) (low : b.base_term ≤ b.term) (len : List LogEntry → ℕ) (s : Spine) (h : Sound b s) (c : CoreParts) (whole : List LogEntry) (ok : Tied b len s c whole)
    (from t index bt total : ℕ) (claim : ChunkClaim b len s from t index bt total) (up : t ≤ c.term) (other : from ≢ c.id)
    (sender : List LogEntry) (applied held : ℕ) (ask : IsOfSender b s sender t index total held) (from_base : c.log.base ≤ applied) (to_commit : applied ≤ c.commit) where
  no_leader : t ≡ c.term → c.role ≡ Leader → ⊥
  no_leader e r = other (sym claim.leader ∙ (ap s.leader e ∙ (ok.leading r).leads))

  as_follower : (o : Out) → Turned b len s (follows c from) whole o (whole_after b sender whole o.items) → Turned b len s c whole o (whole_after b sender whole o.items)
  as_follower o q = turned_as b len s c (follows c from) whole refl refl o (whole_after b sender whole o.items) q

  at_term : t ≡ c.term → Turned b len s c whole
      (cond (nat_le index applied) (answers (follows c from) from index total) (cond (held == total) (installs (follows c from) from index bt total) (answers (follows c from) from index held)))
      (whole_after b sender whole
      (cond (nat_le index applied) (answers (follows c from) from index total) (cond (held == total) (installs (follows c from) from index bt total) (answers (follows c from) from index held))).items)
  at_term e = needed (nat_le index applied) refl
    where
      ok' : Tied b len s (follows c from) whole
      ok' = follows_tied b len s c whole ok from (no_leader e)

      role' : (follows c from).role ≡ Follower
      role' = follow_role c.role (no_leader e)

      is_whole : (g : Bool) → (held == total) ≡ g → applied < index → Turned b len s c whole
          (cond g (installs (follows c from) from index bt total) (answers (follows c from) from index held))
          (whole_after b sender whole (cond g (installs (follows c from) from index bt total) (answers (follows c from) from index held)).items)
      is_whole true f lt = as_follower (installs (follows c from) from index bt total)
          (subst (λ (l : List LogEntry). Turned b len s (follows c from) whole (installs (follows c from) from index bt total) l)
          (sym (after_items b low len s h (follows c from) whole ok' from t index bt total claim e role' (omega (arith, from_base, lt)) sender ask.same))
          (turn_installs b low len s h (follows c from) whole ok' from t index bt total claim e role' (omega (arith, from_base, lt))))
      is_whole false f lt = as_follower (answers (follows c from) from index held)
          (turn_part b low len s h (follows c from) whole ok' from t index bt total claim e role' held (let n = eqb-false held total f in let w = ask.held_within in omega arith))

      needed : (g : Bool) → nat_le index applied ≡ g → Turned b len s c whole
          (cond g (answers (follows c from) from index total) (cond (held == total) (installs (follows c from) from index bt total) (answers (follows c from) from index held)))
          (whole_after b sender whole
          (cond g (answers (follows c from) from index total) (cond (held == total) (installs (follows c from) from index bt total) (answers (follows c from) from index held))).items)
      needed true f = as_follower (answers (follows c from) from index total)
          (turn_applied b low len s h (follows c from) whole ok' from t index bt total claim e role' (let w = leb-true index applied f in omega (arith, w, to_commit)))
      needed false f = is_whole (held == total) refl (leb-false index applied f)

  -- a chunk of a term that the node came to
  pub turn_chunk : Turned b len s c whole (hears_chunk c from t index bt total applied held) (whole_after b sender whole (hears_chunk c from t index bt total applied held).items)
  turn_chunk = answer (nat_lt t c.term) refl
    where
      answer : (g : Bool) → nat_lt t c.term ≡ g → Turned b len s c whole
          (cond g (lower c from)
          (cond (nat_le index applied) (answers (follows c from) from index total) (cond (held == total) (installs (follows c from) from index bt total) (answers (follows c from) from index held))))
          (whole_after b sender whole
          (cond g (lower c from)
          (cond (nat_le index applied) (answers (follows c from) from index total) (cond (held == total) (installs (follows c from) from index bt total) (answers (follows c from) from index held)))).items)
      answer true e = turn_still b len s c whole ok (lower c from) refl
          (All-cons (λ (x : Message). (x.from ≡ c.id) × Claim b len s x.from x.to x.body) (message_to c from (ChunkReply c.term 0 0)) [] (refl, inl refl)
          (All-nil (λ (x : Message). (x.from ≡ c.id) × Claim b len s x.from x.to x.body)))
      answer false e = let g = ltb-false t c.term e in at_term (let q : t ≡ c.term = omega (arith, g, up) in q)
