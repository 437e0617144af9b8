-- Every event of a node that ends it is a list of moves of the node.
use Rattle.std.proofs.Common.{◌≡◌, ◌≢◌, ℕ, suc, ◌+◌, ◌-◌, ◌≤◌, Bool, true, false, cond, nat_lt, ◌&&◌, ◌||◌, ◌==◌, List, [], ◌∷◌, length, map, set, min, max, replicate, refl, sym, ap, ◌∙◌, subst, arith}
use Rattle.std.proofs.lemmas.Bool.{ltb-false}
use Rattle.raft_types.specs.declared.limits.TheConstants.{MAX_TERM, MAX_INDEX, NOOP}
use Rattle.raft_types.specs.declared.entry.LogEntry.{LogEntry}
use Rattle.raft_types.specs.declared.event.CoreEvent.{CoreEvent}
use Rattle.raft_types.specs.declared.event.CoreEvent.TheVariants.{Timeout, Beat, Raise, Command, Fire, Heard}
use Rattle.raft_types.specs.declared.item.Item.{Item}
use Rattle.raft_types.specs.declared.item.Item.TheVariants.{Snap, Vote as VoteItem, Entry}
use Rattle.raft_types.specs.declared.message.Body.{Body}
use Rattle.raft_types.specs.declared.message.Body.TheVariants.{Vote, VoteReply, Append, AppendReply, Chunk, ChunkReply}
use Rattle.raft_types.specs.declared.state.Role.TheVariants.{Follower}
use Rattle.raft_types.specs.Log.{LogParts, last_index}
use Rattle.raft_types.specs.Items.{stored, number}
use Rattle.raft_types.specs.Quorum.{ids}
use Rattle.raft_types.specs.Body.{body_term}
use Rattle.raft_types.specs.Core.{CoreParts, Out, is_leader, is_candidate, is_majority, voted_for, match_of, next_of, peers, message_to, quiet}
use Rattle.raft_types.specs.Send.{chunk_from, sent_to, to_all}
use Rattle.raft_types.specs.Commit.{committed, appends}
use Rattle.raft_types.specs.Election.{raised, elected, leads, stands, ask, times_out, with_vote_of, hears_vote_reply}
use Rattle.raft_types.specs.Append.{passes, fresh_items, follows, accepts, hears_append, acked_by, refused_by, hears_append_reply}
use Rattle.raft_types.specs.Snapshot.{hears_chunk_reply}
use Rattle.raft_types.specs.Step.{hears, rule, starts_anew, with_vote, on}
use Rattle.raft_spine.specs.Start.{Start}
use Rattle.raft_spine.specs.Spine.{Spine}
use Rattle.raft_spine.specs.Moves.{moved_all}
use Rattle.raft_spine.specs.Laws.{Grows, IsReached}
use Rattle.raft_spine.proofs.Sound.{Sound}
use Rattle.raft_spine.proofs.Run.{moves_sound, reached_sound}
use Rattle.raft_spine.proofs.Grow.{from_start, front_stays, moves_grow}
use Rattle.raft_claims.specs.Claims.{Claim}
use Rattle.raft_claims.specs.Tied.{Tied, Turned}
use Rattle.raft_claims.specs.Events.{whole_after, AskedOf, Asked}
use Rattle.raft_claims.proofs.Claims.{claim_stays}
use Rattle.raft_claims.proofs.Turns.{turned_then}
use Rattle.raft_claims.proofs.TurnRaise.{turn_raised, turn_opens}
use Rattle.raft_claims.proofs.TurnTimeout.{turn_timeout}
use Rattle.raft_claims.proofs.TurnVote.{turn_vote}
use Rattle.raft_claims.proofs.TurnVoteReply.{turn_vote_reply}
use Rattle.raft_claims.proofs.TurnOwn.{own_after, turn_own}
use Rattle.raft_claims.proofs.Sent.{turn_beat}
use Rattle.raft_claims.proofs.TurnAppend.{turn_append}
use Rattle.raft_claims.proofs.TurnReplies.{turn_append_reply, turn_chunk_reply}
use Rattle.raft_claims.proofs.TurnChunk.{turn_chunk}

-- items that don't start the store anew are stored over the node's own log
pub plain_after : (b : Start) (sender whole : List LogEntry) (items : List Item) → starts_anew items ≡ false → whole_after b sender whole items ≡ stored b.base whole items
plain_after b sender whole [] e = refl
plain_after b sender whole (Snap i t ∷ items) e = absurd (let q : true ≡ false = e in cc)
plain_after b sender whole (VoteItem t v ∷ items) e = refl
plain_after b sender whole (Entry i t x ∷ items) e = refl

-- the vote before the items changes nothing of the log
after_vote : (b : Start) (sender whole : List LogEntry) (c d : CoreParts) (items : List Item) → whole_after b sender whole (with_vote c d items) ≡ whole_after b sender whole items
after_vote b sender whole c d [] = voted ((c.term == d.term) && (c.vote == d.vote))
  where
    voted : (g : Bool) → whole_after b sender whole (cond g [] (VoteItem d.term d.vote ∷ [])) ≡ whole
    voted true = refl
    voted false = refl
after_vote b sender whole c d (Snap i t ∷ items) = refl
after_vote b sender whole c d (VoteItem t v ∷ items) = voted ((c.term == d.term) && (c.vote == d.vote))
  where
    voted : (g : Bool) → whole_after b sender whole (cond g (VoteItem t v ∷ items) (VoteItem d.term d.vote ∷ VoteItem t v ∷ items)) ≡ stored b.base whole items
    voted true = refl
    voted false = refl
after_vote b sender whole c d (Entry i t x ∷ items) = voted ((c.term == d.term) && (c.vote == d.vote))
  where
    voted : (g : Bool) → whole_after b sender whole (cond g (Entry i t x ∷ items) (VoteItem d.term d.vote ∷ Entry i t x ∷ items)) ≡ stored b.base whole (Entry i t x ∷ items)
    voted true = refl
    voted false = refl

plain_either : (g : Bool) (x y : Out) → starts_anew x.items ≡ false → starts_anew y.items ≡ false → starts_anew (cond g x y).items ≡ false
plain_either true x y p q = p
plain_either false x y p q = q

pub plain_number : (i : ℕ) (xs : List LogEntry) → starts_anew (number i xs) ≡ false
plain_number i [] = refl
plain_number i (x ∷ xs) = refl

plain_leads : (c : CoreParts) → starts_anew (leads c).items ≡ false
plain_leads c = plain_either (nat_lt c.commit (last_index c.log) && nat_lt (last_index c.log) MAX_INDEX) (appends (elected c) (NOOP ∷ []))
    (record { core = committed (elected c); items = []; messages = to_all (committed (elected c)) }) refl refl

plain_timeout : (c : CoreParts) → starts_anew (times_out c).items ≡ false
plain_timeout c =
    let asks : Out = record { core = stands c; items = []; messages = map (ask (stands c)) (peers (stands c)) } in
    plain_either (is_leader c.role || (c.term == MAX_TERM)) (quiet c) (cond (is_majority (stands c) (voted_for (stands c))) (leads (stands c)) asks) refl
    (plain_either (is_majority (stands c) (voted_for (stands c))) (leads (stands c)) asks (plain_leads (stands c)) refl)

plain_vote_reply : (c : CoreParts) (from t : ℕ) (granted : Bool) → starts_anew (hears_vote_reply c from t granted).items ≡ false
plain_vote_reply c from t granted =
    let d = with_vote_of c from in
    plain_either (is_candidate c.role && ((t == c.term) && granted)) (cond (is_majority d (voted_for d)) (leads d) (quiet d)) (quiet c)
    (plain_either (is_majority d (voted_for d)) (leads d) (quiet d) (plain_leads d) refl) refl

pub plain_append : (c : CoreParts) (from t pi pt : ℕ) (es : List LogEntry) (mc : ℕ) → starts_anew (hears_append c from t pi pt es mc).items ≡ false
plain_append c from t pi pt es mc =
    let d = follows c from in
    let lower : Out = record { core = c; items = []; messages = message_to c from (AppendReply c.term false 0) ∷ [] } in
    let taken : Out = record { core = accepts d (fresh_items d pi es) (min mc (pi + length es)); items = fresh_items d pi es; messages = message_to d from (AppendReply d.term true (pi + length es)) ∷ [] } in
    let refused : Out = record { core = d; items = []; messages = message_to d from (AppendReply d.term false (min (last_index d.log) (pi - 1))) ∷ [] } in
    plain_either (nat_lt t c.term) lower (cond (passes d.log pi pt) taken refused) refl (plain_either (passes d.log pi pt) taken refused (plain_number _ _) refl)

none_either : (g : Bool) (x y : Out) → x.items ≡ [] → y.items ≡ [] → (cond g x y).items ≡ []
none_either true x y p q = p
none_either false x y p q = q

-- a reply writes nothing
pub append_reply_none : (c : CoreParts) (from t : ℕ) (taken : Bool) (index : ℕ) → (hears_append_reply c from t taken index).items ≡ []
append_reply_none c from t taken index =
    let d : CoreParts = record c { next = set c.next (from - 1) (max (suc (match_of c from)) (suc index)) } in
    let sends : Out = record { core = d; items = []; messages = sent_to d from ∷ [] } in
    none_either (is_leader c.role && (t == c.term)) (cond taken (acked_by c from index) (refused_by c from index)) (quiet c)
    (none_either taken (acked_by c from index) (refused_by c from index) refl (none_either (nat_lt (suc index) (next_of c from)) sends (quiet c) refl refl)) refl

pub chunk_reply_none : (c : CoreParts) (from t index off : ℕ) → (hears_chunk_reply c from t index off).items ≡ []
chunk_reply_none c from t index off =
    let sends : Out = record { core = c; items = []; messages = message_to c from (chunk_from c off) ∷ [] } in
    none_either (is_leader c.role && ((t == c.term) && (index == c.log.base))) (cond (nat_lt off c.snapshot_len) sends (acked_by c from index)) (quiet c)
    (none_either (nat_lt off c.snapshot_len) sends (acked_by c from index) refl refl) refl

-- the node in the term of a message
pub record IsUpTo (c d : CoreParts) (t : ℕ) : Type 0 where
  pub id : d.id ≡ c.id
  pub nodes : d.nodes ≡ c.nodes
  pub log : d.log ≡ c.log
  pub commit : d.commit ≡ c.commit
  pub snapshot_len : d.snapshot_len ≡ c.snapshot_len
  pub term : t ≤ d.term

pub raised_is : (c : CoreParts) (t : ℕ) → IsUpTo c (raised c t) t
raised_is c t = answer (nat_lt c.term t) refl
  where
    answer : (g : Bool) → nat_lt c.term t ≡ g → IsUpTo c (cond g (record c { term = t; vote = 0; role = Follower; leader = 0; votes = replicate c.nodes false }) c) t
    answer true e = record { id = refl; nodes = refl; log = refl; commit = refl; snapshot_len = refl; term = omega arith }
    answer false e = let g = ltb-false c.term t e in record { id = refl; nodes = refl; log = refl; commit = refl; snapshot_len = refl; term = omega (arith, g) }

module _ (b : Start) (len : List LogEntry → ℕ) (some : (l : List LogEntry) → 1 ≤ len l) (s : Spine) (r : IsReached b s) (c : CoreParts) (whole : List LogEntry) (ok : Tied b len s c whole)
    (nodes : b.members ≡ ids c.nodes) (sender : List LogEntry) where
  h : Sound b s
  h = reached_sound b s r

  -- a message that is heard in its term
  hears_turn : (d : CoreParts) (t : ℕ) → IsUpTo c d t → (first : Turned b len s c whole (quiet d) whole) → (from : ℕ) → from ≢ 0 → from ≢ c.id → (body : Body) → body_term body ≡ t
      → Claim b len s from c.id body → (applied held : ℕ) → c.log.base ≤ applied → applied ≤ c.commit → AskedOf b s sender held body
      → Turned b len (moved_all first.moves s) d whole (hears d from body applied held) (whole_after b sender whole (hears d from body applied held).items)
  hears_turn d t u first from nz other body bt claim0 applied held lo hi of = heard body bt (claim_stays b len s s1 g from c.id body ok.is_node claim0) claim0 of
    where
      s1 : Spine
      s1 = moved_all first.moves s

      g : Grows s (moved_all first.moves s)
      g = moves_grow b r.start.low s h first.moves first.can

      h1 : Sound b (moved_all first.moves s)
      h1 = moves_sound b r.start.low s h first.moves first.can

      nodes' : b.members ≡ ids d.nodes
      nodes' = nodes ∙ ap ids (sym u.nodes)

      heard : (body : Body) → body_term body ≡ t → Claim b len (moved_all first.moves s) from c.id body → Claim b len s from c.id body → AskedOf b s sender held body
          → Turned b len (moved_all first.moves s) d whole (hears d from body applied held) (whole_after b sender whole (hears d from body applied held).items)
      heard (Vote v li lt) e claim old q = turn_vote b len (moved_all first.moves s) h1 d whole first.tied from v li lt claim
      heard (VoteReply v granted) e claim old q =
          subst (λ (l : List LogEntry). Turned b len (moved_all first.moves s) d whole (hears_vote_reply d from v granted) l) (sym (plain_after b sender whole (hears_vote_reply d from v granted).items (plain_vote_reply d from v granted)))
          (turn_vote_reply b len (moved_all first.moves s) d whole first.tied from v granted (omega arith) (λ z. claim z ∙ sym u.id) r.start.low h1 nodes')
      heard (Append v pi pt es mc) e claim old q =
          subst (λ (l : List LogEntry). Turned b len (moved_all first.moves s) d whole (hears_append d from v pi pt es mc) l) (sym (plain_after b sender whole (hears_append d from v pi pt es mc).items (plain_append d from v pi pt es mc)))
          (turn_append b r.start.low len (moved_all first.moves s) h1 d whole first.tied from v pi pt es mc claim (let w = u.term in omega (arith, w, e)) (λ z. other (z ∙ u.id)))
      heard (AppendReply v taken i) e claim old q =
          subst (λ (l : List LogEntry). Turned b len (moved_all first.moves s) d whole (hears_append_reply d from v taken i) l) (sym (ap (whole_after b sender whole) (append_reply_none d from v taken i)))
          (turn_append_reply b len (moved_all first.moves s) h1 d whole first.tied nodes' from (omega arith) v taken i claim)
      heard (Chunk v i bterm off total bytes) e claim old q =
          turn_chunk b r.start.low len (moved_all first.moves s) h1 d whole first.tied from v i bterm total claim (let w = u.term in omega (arith, w, e)) (λ z. other (z ∙ u.id)) sender applied held
          (record {
            held_within = q.held_within;
            same = q.same ∙ sym (front_stays s (moved_all first.moves s) g v (i - b.base) old.led (let l = old.long in let x = old.index in omega (arith, l, x)));
          })
          (let w = ap (λ (l : LogParts). l.base) u.log in omega (arith, w, lo)) (let w = u.commit in omega (arith, w, hi))
      heard (ChunkReply v i off) e claim old q =
          subst (λ (l : List LogEntry). Turned b len (moved_all first.moves s) d whole (hears_chunk_reply d from v i off) l) (sym (ap (whole_after b sender whole) (chunk_reply_none d from v i off)))
          (turn_chunk_reply b len some (moved_all first.moves s) h1 d whole first.tied nodes' from (omega arith) v i off claim)

  rule_turn : (event : CoreEvent) → Asked b len s c sender event → Turned b len s c whole (rule c event) (whole_after b sender whole (rule c event).items)
  rule_turn Timeout a =
      subst (λ (l : List LogEntry). Turned b len s c whole (times_out c) l) (sym (plain_after b sender whole (times_out c).items (plain_timeout c)))
      (turn_timeout b len s h c whole ok (from_start b s c.id r) r.start.low nodes)
  rule_turn Beat a = turn_beat b len s h c whole ok a
  rule_turn (Raise t) a = turn_opens b len s h c whole ok a t
  rule_turn (Command e) a = subst (λ (l : List LogEntry). Turned b len s c whole (appends c e) l) (sym (own_after b len s h c whole ok a e)) (turn_own b len s h c whole ok a e nodes)
  rule_turn (Fire e) a = subst (λ (l : List LogEntry). Turned b len s c whole (appends c e) l) (sym (own_after b len s h c whole ok a e)) (turn_own b len s h c whole ok a e nodes)
  rule_turn (Heard m applied held) a =
      let t = body_term m.body in
      let d = raised c t in
      let u = raised_is c t in
      let first = turn_raised b len s h c whole ok t in
      turned_then b len s c whole d whole first u.id (let w = ap (λ (l : LogParts). l.base) u.log in omega (arith, w)) (hears d m.from m.body applied held) (whole_after b sender whole (hears d m.from m.body applied held).items)
      (hears_turn d t u first m.from a.from_node a.from_other m.body refl (subst (λ (k : ℕ). Claim b len s m.from k m.body) a.to_this a.claim) applied held a.from_base a.to_commit a.of_sender)

  -- every event
  pub event_turn : (event : CoreEvent) → Asked b len s c sender event → Turned b len s c whole (on c event) (whole_after b sender whole (on c event).items)
  event_turn event a =
      let o = rule c event in
      let q = rule_turn event a in
      subst (λ (l : List LogEntry). Turned b len s c whole (on c event) l) (sym (after_vote b sender whole c o.core o.items))
      (record { moves = q.moves; mine = q.mine; can = q.can; tied = q.tied; said = q.said; front = q.front })
