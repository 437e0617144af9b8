-- Every event of a node that stops in it is a list of moves of the node.
use Rattle.std.proofs.Common.{◌≡◌, ℕ, zero, suc, ◌+◌, ◌-◌, ◌≤◌, Bool, true, false, cond, nat_lt, nat_le, ◌&&◌, ◌||◌, ◌==◌, All, List, [], ◌∷◌, ◌++◌, length, take, map, min, replicate, refl, sym, ap, ◌∙◌, subst, arith, ◌⊎◌, inl, inr, ⊎_elim}
use Rattle.std.proofs.Math.Seq.{take-nil}
use Rattle.std.proofs.lemmas.Bool.{eq-eqb, ne_eqb, eqb-true, and_parts}
use Rattle.std.proofs.lemmas.List.Elements.{All-nil, All-cons, All-append}
use Rattle.raft_types.specs.declared.limits.TheConstants.{MAX_TERM, MAX_INDEX, NOOP}
use Rattle.raft_types.specs.declared.entry.LogEntry.{LogEntry}
use Rattle.raft_types.specs.declared.event.CoreEvent.{CoreEvent}
use Rattle.raft_types.specs.declared.event.CoreEvent.TheVariants.{Timeout, Beat, Raise, Command, Fire, Heard}
use Rattle.raft_types.specs.declared.item.Item.{Item}
use Rattle.raft_types.specs.declared.item.Item.TheVariants.{Snap, Vote as VoteItem, Entry}
use Rattle.raft_types.specs.declared.message.Body.{Body}
use Rattle.raft_types.specs.declared.message.Body.TheVariants.{Vote, VoteReply, Append, AppendReply, Chunk, ChunkReply}
use Rattle.raft_types.specs.declared.state.Role.TheVariants.{Follower}
use Rattle.raft_types.specs.Log.{LogParts, last_index}
use Rattle.raft_types.specs.Items.{stored, number, log_after, term_after, vote_after}
use Rattle.raft_types.specs.Quorum.{ids}
use Rattle.raft_types.specs.Core.{CoreParts, Out, is_leader, is_candidate, is_majority, voted_for, peers, message_to, quiet}
use Rattle.raft_types.specs.Send.{to_all}
use Rattle.raft_types.specs.Commit.{own_item, committed, appends}
use Rattle.raft_types.specs.Election.{raised, elected, leads, stands, ask, times_out, with_vote_of, hears_vote, hears_vote_reply}
use Rattle.raft_types.specs.Append.{passes, fresh_items, follows, accepts, hears_append, hears_append_reply}
use Rattle.raft_types.specs.Snapshot.{installs, hears_chunk, hears_chunk_reply}
use Rattle.raft_types.specs.Step.{rule, starts_anew, with_vote, on}
use Rattle.raft_types.proofs.Kept.{items_tell, number_term, number_vote}
use Rattle.raft_types.proofs.SameNode.{same_id}
use Rattle.raft_spine.specs.Start.{Start}
use Rattle.raft_spine.specs.Spine.{Spine}
use Rattle.raft_spine.specs.Moves.{Move, Raise as RaiseMove, Stand, actor, moved_all}
use Rattle.raft_spine.specs.Laws.{IsReached}
use Rattle.raft_spine.proofs.Sound.{Sound}
use Rattle.raft_spine.proofs.Run.{moves_sound, reached_sound, can_both, moved_both}
use Rattle.raft_spine.proofs.Grow.{from_start, moves_grow}
use Rattle.raft_claims.specs.Tied.{Tied, StoreTied, Turned}
use Rattle.raft_claims.specs.Events.{whole_after, kept, len_after, IsHeard, Asked, Stopped}
use Rattle.raft_claims.proofs.Claims.{append_stays}
use Rattle.raft_claims.proofs.Append.{number_take}
use Rattle.raft_claims.proofs.Stores.{tied_stops}
use Rattle.raft_claims.proofs.TurnRaise.{turn_raised}
use Rattle.raft_claims.proofs.TurnTimeout.{stood_up, stood_tied, rises, may_stand}
use Rattle.raft_claims.proofs.TurnAppend.{Halts, stop_hears_append}
use Rattle.raft_claims.proofs.EventTurns.{plain_number, append_reply_none, chunk_reply_none, IsUpTo, raised_is, event_turn}

-- what is kept of items of which no more than one is written, or that start the store anew, is nothing or all
record IsShort (items : List Item) : Type 0 where
  short : (length items ≤ 1) ⊎ (starts_anew items ≡ true)

kept_short : (n : ℕ) (items : List Item) → IsShort items → (kept n items ≡ []) ⊎ (kept n items ≡ items)
kept_short n items s = ⊎_elim (λ (x : length items ≤ 1). few n items x) (λ (x : starts_anew items ≡ true). anew n items x) s.short
  where
    few : (n : ℕ) (items : List Item) → length items ≤ 1 → (kept n items ≡ []) ⊎ (kept n items ≡ items)
    few zero [] h = inl refl
    few (suc n) [] h = inl (take-nil (suc n))
    few zero (Snap i t ∷ []) h = inl refl
    few (suc n) (Snap i t ∷ []) h = inr refl
    few zero (VoteItem t v ∷ []) h = inl refl
    few (suc n) (VoteItem t v ∷ []) h = inr (ap (λ (xs : List Item). VoteItem t v ∷ xs) (take-nil n))
    few zero (Entry i t e ∷ []) h = inl refl
    few (suc n) (Entry i t e ∷ []) h = inr (ap (λ (xs : List Item). Entry i t e ∷ xs) (take-nil n))
    few n (x ∷ y ∷ items) h = absurd (omega arith)

    anew : (n : ℕ) (items : List Item) → starts_anew items ≡ true → (kept n items ≡ []) ⊎ (kept n items ≡ items)
    anew zero (Snap i t ∷ items) h = inl refl
    anew (suc n) (Snap i t ∷ items) h = inr refl
    anew n [] h = absurd (let q : false ≡ true = h in cc)
    anew n (VoteItem t v ∷ items) h = absurd (let q : false ≡ true = h in cc)
    anew n (Entry i t e ∷ items) h = absurd (let q : false ≡ true = h in cc)

pub kept_plain : (n : ℕ) (items : List Item) → starts_anew items ≡ false → kept n items ≡ take n items
kept_plain zero items h = refl
kept_plain (suc n) [] h = refl
kept_plain (suc n) (Snap i t ∷ items) h = absurd (let q : true ≡ false = h in cc)
kept_plain (suc n) (VoteItem t v ∷ items) h = refl
kept_plain (suc n) (Entry i t e ∷ items) h = refl

-- items that don't start the log anew leave its base
base_stays : (l : LogParts) (items : List Item) → starts_anew items ≡ false → (log_after l items).base ≡ l.base
base_stays l [] h = refl
base_stays l (Snap i t ∷ items) h = absurd (let q : true ≡ false = h in cc)
base_stays l (VoteItem t v ∷ items) h = refl
base_stays l (Entry i t e ∷ items) h = refl

-- nothing is written
short_none : (c d : CoreParts) → IsShort (with_vote c d [])
short_none c d = answer ((c.term == d.term) && (c.vote == d.vote))
  where
    answer : (g : Bool) → IsShort (cond g [] (VoteItem d.term d.vote ∷ []))
    answer true = record { short = inl (omega arith) }
    answer false = record { short = inl (omega arith) }

-- one entry in the term and with the vote that the node had
short_own : (c d : CoreParts) (i t : ℕ) (e : List ℕ) → c.term ≡ d.term → c.vote ≡ d.vote → IsShort (with_vote c d (Entry i t e ∷ []))
short_own c d i t e p q = subst (λ (g : Bool). IsShort (cond g (Entry i t e ∷ []) (VoteItem d.term d.vote ∷ Entry i t e ∷ [])))
    (sym (ap (λ (g : Bool). g && (c.vote == d.vote)) (eq-eqb c.term d.term p) ∙ eq-eqb c.vote d.vote q)) (record { short = inl (omega arith) })

abbrev written : CoreParts → Out → List Item
written c o = with_vote c o.core o.items

short_either : (c : CoreParts) (g : Bool) (x y : Out) → IsShort (written c x) → IsShort (written c y) → IsShort (written c (cond g x y))
short_either c true x y p q = p
short_either c false x y p q = q

short_items : (c : CoreParts) (o : Out) → o.items ≡ [] → IsShort (written c o)
short_items c o e = subst (λ (xs : List Item). IsShort (with_vote c o.core xs)) (sym e) (short_none c o.core)

-- a leader that comes to lead in the term that it had writes one entry at most
short_leads : (c d : CoreParts) → c.term ≡ d.term → c.vote ≡ d.vote → IsShort (written c (leads d))
short_leads c d p q = short_either c (nat_lt d.commit (last_index d.log) && nat_lt (last_index d.log) MAX_INDEX) (appends (elected d) (NOOP ∷ []))
    (record { core = committed (elected d); items = []; messages = to_all (committed (elected d)) })
    (short_own c (appends (elected d) (NOOP ∷ [])).core (suc (last_index d.log)) d.term (NOOP ∷ []) p q) (short_none c (committed (elected d)))

short_vote_reply : (c : CoreParts) (from u t : ℕ) (granted : Bool) → IsShort (written c (hears_vote_reply (raised c u) from t granted))
short_vote_reply c from u t granted = answer (nat_lt c.term u)
  where
    answer : (g : Bool) → IsShort (written c (hears_vote_reply (cond g (record c { term = u; vote = 0; role = Follower; leader = 0; votes = replicate c.nodes false }) c) from t granted))
    answer true = short_none c (record c { term = u; vote = 0; role = Follower; leader = 0; votes = replicate c.nodes false })
    answer false =
        let d = with_vote_of c from in
        short_either c (is_candidate c.role && ((t == c.term) && granted)) (cond (is_majority d (voted_for d)) (leads d) (quiet d)) (quiet c)
        (short_either c (is_majority d (voted_for d)) (leads d) (quiet d) (short_leads c d refl refl) (short_none c d)) (short_none c c)

short_chunk : (c d : CoreParts) (from t index bt total applied held : ℕ) → IsShort (written c (hears_chunk d from t index bt total applied held))
short_chunk c d from t index bt total applied held =
    let e = follows d from in
    let lower : Out = record { core = d; items = []; messages = message_to d from (ChunkReply d.term 0 0) ∷ [] } in
    let past : Out = record { core = e; items = []; messages = message_to e from (ChunkReply e.term index total) ∷ [] } in
    let part : Out = record { core = e; items = []; messages = message_to e from (ChunkReply e.term index held) ∷ [] } in
    short_either c (nat_lt t d.term) lower (cond (nat_le index applied) past (cond (held == total) (installs e from index bt total) part)) (short_none c d)
    (short_either c (nat_le index applied) past (cond (held == total) (installs e from index bt total) part) (short_none c e)
    (short_either c (held == total) (installs e from index bt total) part (record { short = inr refl }) (short_none c e)))

-- the items of an append are entries, and its term and vote are the node's
pub record IsEntries (d : CoreParts) (o : Out) : Type 0 where
  pub index : ℕ
  pub entries : List LogEntry
  pub are : o.items ≡ number index entries
  pub term : o.core.term ≡ d.term
  pub vote : o.core.vote ≡ d.vote

entries_either : (d : CoreParts) (g : Bool) (x y : Out) → IsEntries d x → IsEntries d y → IsEntries d (cond g x y)
entries_either d true x y p q = p
entries_either d false x y p q = q

append_entries : (d : CoreParts) (from t pi pt : ℕ) (es : List LogEntry) (mc : ℕ) → IsEntries d (hears_append d from t pi pt es mc)
append_entries d from t pi pt es mc =
    let e = follows d from in
    let lower : Out = record { core = d; items = []; messages = message_to d from (AppendReply d.term false 0) ∷ [] } in
    let taken : Out = record { core = accepts e (fresh_items e pi es) (min mc (pi + length es)); items = fresh_items e pi es; messages = message_to e from (AppendReply e.term true (pi + length es)) ∷ [] } in
    let refused : Out = record { core = e; items = []; messages = message_to e from (AppendReply e.term false (min (last_index e.log) (pi - 1))) ∷ [] } in
    entries_either d (nat_lt t d.term) lower (cond (passes e.log pi pt) taken refused) (record { index = 0; entries = []; are = refl; term = refl; vote = refl })
    (entries_either d (passes e.log pi pt) taken refused (record { index = _; entries = _; are = refl; term = refl; vote = refl }) (record { index = 0; entries = []; are = refl; term = refl; vote = refl }))

entries_log : (l : LogParts) (t v i : ℕ) (xs : List LogEntry) → log_after l (VoteItem t v ∷ number i xs) ≡ log_after l (number i xs)
entries_log l t v i [] = refl
entries_log l t v i (x ∷ xs) = refl

entries_len : (before brought i : ℕ) (xs : List LogEntry) → len_after before brought (number i xs) ≡ before
entries_len before brought i [] = refl
entries_len before brought i (x ∷ xs) = refl

entries_whole : (b : Start) (sender whole : List LogEntry) (i : ℕ) (xs : List LogEntry) → whole_after b sender whole (number i xs) ≡ stored b.base whole (number i xs)
entries_whole b sender whole i [] = refl
entries_whole b sender whole i (x ∷ xs) = refl

-- what a timeout writes: no more than one item, or the vote and then a noop
record IsAlone (c : CoreParts) (items : List Item) : Type 0 where
  last : Item
  are : items ≡ VoteItem (suc c.term) c.id ∷ last ∷ []

timeout_items : (c : CoreParts) → IsShort (written c (times_out c)) ⊎ IsAlone c (written c (times_out c))
timeout_items c = answer (is_leader c.role || (c.term == MAX_TERM)) (is_majority (stands c) (voted_for (stands c))) (nat_lt c.commit (last_index c.log) && nat_lt (last_index c.log) MAX_INDEX)
  where
    later : (c.term == suc c.term) ≡ false
    later = ne_eqb c.term (suc c.term) (λ e. let r : ⊥ = omega arith in r)

    answer : (g m k : Bool)
        → IsShort (written c (cond g (quiet c) (cond m (cond k (appends (elected (stands c)) (NOOP ∷ [])) (record { core = committed (elected (stands c)); items = []; messages = to_all (committed (elected (stands c))) }))
        (record { core = stands c; items = []; messages = map (ask (stands c)) (peers (stands c)) }))))
        ⊎ IsAlone c (written c (cond g (quiet c) (cond m (cond k (appends (elected (stands c)) (NOOP ∷ [])) (record { core = committed (elected (stands c)); items = []; messages = to_all (committed (elected (stands c))) }))
        (record { core = stands c; items = []; messages = map (ask (stands c)) (peers (stands c)) }))))
    answer true m k = inl (short_none c c)
    answer false false k = inl (short_none c (stands c))
    answer false true false = inl (short_none c (committed (elected (stands c))))
    answer false true true = inr (record {
      last = own_item (elected (stands c)) (NOOP ∷ []);
      are = ap (λ (g : Bool). cond (g && (c.vote == c.id)) (own_item (elected (stands c)) (NOOP ∷ []) ∷ []) (VoteItem (suc c.term) c.id ∷ own_item (elected (stands c)) (NOOP ∷ []) ∷ [])) later;
    })

kept_alone : (c : CoreParts) (n : ℕ) (items : List Item) → IsAlone c items → (kept n items ≡ []) ⊎ ((kept n items ≡ VoteItem (suc c.term) c.id ∷ []) ⊎ (kept n items ≡ items))
kept_alone c n items a = subst (λ (xs : List Item). (kept n xs ≡ []) ⊎ ((kept n xs ≡ VoteItem (suc c.term) c.id ∷ []) ⊎ (kept n xs ≡ xs))) (sym a.are) (answer n)
  where
    answer : (n : ℕ) → (kept n (VoteItem (suc c.term) c.id ∷ a.last ∷ []) ≡ []) ⊎ ((kept n (VoteItem (suc c.term) c.id ∷ a.last ∷ []) ≡ VoteItem (suc c.term) c.id ∷ []) ⊎ (kept n (VoteItem (suc c.term) c.id ∷ a.last ∷ []) ≡ VoteItem (suc c.term) c.id ∷ a.last ∷ []))
    answer zero = inl refl
    answer (suc zero) = inr (inl refl)
    answer (suc (suc n)) = inr (inr (ap (λ (xs : List Item). VoteItem (suc c.term) c.id ∷ a.last ∷ xs) (take-nil n)))

module _ (b : Start) (len : List LogEntry → ℕ) (some : (l : List LogEntry) → 1 ≤ len l) (s : Spine) (r : IsReached b s) (c : CoreParts) (whole : List LogEntry) (ok : Tied b len s c whole)
    (nodes : b.members ≡ ids c.nodes) (sender : List LogEntry) where
  h : Sound b s
  h = reached_sound b s r

  -- with these items written the node stops
  abbrev pub Stop : Out → List Item → Type 0
  Stop o items = Stopped b len s c whole o items (whole_after b sender whole items)

  -- nothing is written
  stop_none : (o : Out) → Stopped b len s c whole o [] whole
  stop_none o = record { moves = []; mine = All-nil (λ (m : Move). actor m ≡ c.id); can = tt; store = tied_stops b len s c whole ok; front = refl }

  -- all is written
  stop_all : (event : CoreEvent) → Asked b len s c sender event → Stopped b len s c whole (on c event) (on c event).items (whole_after b sender whole (on c event).items)
  stop_all event a =
      let o = on c event in
      let q = event_turn b len some s r c whole ok nodes sender event a in
      let t = items_tell c event in
      let s' = moved_all q.moves s in
      let after = whole_after b sender whole o.items in
      let st = tied_stops b len s' o.core after q.tied in
      let base : starts_anew o.items ≡ false → o.core.log.base ≡ c.log.base = λ (e : starts_anew o.items ≡ false). sym (ap (λ (l : LogParts). l.base) t.log) ∙ base_stays c.log o.items e in
      let size : o.core.snapshot_len ≡ len_after c.snapshot_len o.core.snapshot_len o.items =
      brought (starts_anew o.items) refl o.core.snapshot_len (λ (e : starts_anew o.items ≡ false).
      st.size ∙ (ap (λ (k : ℕ). len (take (k - b.base) after)) (base e) ∙ (ap len q.front ∙ sym ok.size))) in
      record {
        moves = q.moves;
        mine = q.mine;
        can = q.can;
        front = q.front;
        store = subst (λ (n : ℕ). StoreTied b len s' c.id (term_after c.term o.items) (vote_after c.vote o.items) (log_after c.log o.items) n after) size
            (subst (λ (l : LogParts). StoreTied b len s' c.id (term_after c.term o.items) (vote_after c.vote o.items) l o.core.snapshot_len after) (sym t.log)
            (subst (λ (v : ℕ). StoreTied b len s' c.id (term_after c.term o.items) v o.core.log o.core.snapshot_len after) (sym t.vote)
            (subst (λ (v : ℕ). StoreTied b len s' c.id v o.core.vote o.core.log o.core.snapshot_len after) (sym t.term)
            (subst (λ (k : ℕ). StoreTied b len s' k o.core.term o.core.vote o.core.log o.core.snapshot_len after) (same_id c event) st))));
      }
    where
      brought : (g : Bool) → starts_anew (on c event).items ≡ g → (n : ℕ) → (starts_anew (on c event).items ≡ false → n ≡ c.snapshot_len) → n ≡ cond g n c.snapshot_len
      brought true e n f = refl
      brought false e n f = f e

  -- nothing or all is written
  stop_short : (event : CoreEvent) → Asked b len s c sender event → IsShort (on c event).items → (n : ℕ) → Stop (on c event) (kept n (on c event).items)
  stop_short event a short n = ⊎_elim
      (λ (e : kept n (on c event).items ≡ []). subst (λ (xs : List Item). Stop (on c event) xs) (sym e) (stop_none (on c event)))
      (λ (e : kept n (on c event).items ≡ (on c event).items). subst (λ (xs : List Item). Stop (on c event) xs) (sym e) (stop_all event a))
      (kept_short n (on c event).items short)

  -- the vote of a candidate alone is written
  stop_stood : (o : Out) → Stopped b len s c whole o (VoteItem (suc c.term) c.id ∷ []) whole
  stop_stood o = record {
    moves = RaiseMove c.id (suc c.term) ∷ Stand c.id ∷ [];
    mine = All-cons (λ (m : Move). actor m ≡ c.id) (RaiseMove c.id (suc c.term)) (Stand c.id ∷ []) refl
        (All-cons (λ (m : Move). actor m ≡ c.id) (Stand c.id) [] refl (All-nil (λ (m : Move). actor m ≡ c.id)));
    can = (rises b len s h c whole ok (from_start b s c.id r), (may_stand b len s h c whole ok (from_start b s c.id r), tt));
    store = tied_stops b len (stood_up s c) (stands c) whole (stood_tied b len s h c whole ok (from_start b s c.id r));
    front = refl;
  }

  stop_timeout : (n : ℕ) → Stop (on c Timeout) (kept n (on c Timeout).items)
  stop_timeout n = ⊎_elim
      (λ (x : IsShort (on c Timeout).items). stop_short Timeout tt x n)
      (λ (x : IsAlone c (on c Timeout).items). ⊎_elim
      (λ (e : kept n (on c Timeout).items ≡ []). subst (λ (xs : List Item). Stop (on c Timeout) xs) (sym e) (stop_none (on c Timeout)))
      (λ (y : (kept n (on c Timeout).items ≡ VoteItem (suc c.term) c.id ∷ []) ⊎ (kept n (on c Timeout).items ≡ (on c Timeout).items)). ⊎_elim
      (λ (e : kept n (on c Timeout).items ≡ VoteItem (suc c.term) c.id ∷ []). subst (λ (xs : List Item). Stop (on c Timeout) xs) (sym e) (stop_stood (on c Timeout)))
      (λ (e : kept n (on c Timeout).items ≡ (on c Timeout).items). subst (λ (xs : List Item). Stop (on c Timeout) xs) (sym e) (stop_all Timeout tt))
      y)
      (kept_alone c n (on c Timeout).items x))
      (timeout_items c)

  -- entries are written, and before them the vote of a term that the node came to
  stop_entries : (d : CoreParts) (t : ℕ) → IsUpTo c d t → (first : Turned b len s c whole (quiet d) whole) → (i : ℕ) (ys : List LogEntry) → Halts b len (moved_all first.moves s) d whole (number i ys)
      → (o : Out) (items : List Item) → ((items ≡ number i ys) × (d.term ≡ c.term) × (d.vote ≡ c.vote)) ⊎ (items ≡ VoteItem d.term d.vote ∷ number i ys)
      → Stopped b len s c whole o items (stored b.base whole (number i ys))
  stop_entries d t u first i ys halts o items shape =
      let s2 = moved_all halts.0 (moved_all first.moves s) in
      let two : moved_all (first.moves ++ halts.0) s ≡ s2 = moved_both s first.moves halts.0 in
      let after = stored b.base whole (number i ys) in
      let lg : log_after d.log (number i ys) ≡ log_after c.log (number i ys) = ap (λ (l : LogParts). log_after l (number i ys)) u.log in
      let at_c : StoreTied b len (moved_all (first.moves ++ halts.0) s) c.id d.term d.vote (log_after c.log (number i ys)) c.snapshot_len after =
      (subst (λ (x : Spine). StoreTied b len x c.id d.term d.vote (log_after c.log (number i ys)) c.snapshot_len after) (sym two)
      (subst (λ (n : ℕ). StoreTied b len s2 c.id d.term d.vote (log_after c.log (number i ys)) n after) u.snapshot_len
      (subst (λ (l : LogParts). StoreTied b len s2 c.id d.term d.vote l d.snapshot_len after) lg
      (subst (λ (k : ℕ). StoreTied b len s2 k d.term d.vote (log_after d.log (number i ys)) d.snapshot_len after) u.id halts.3)))) in
      let store : StoreTied b len (moved_all (first.moves ++ halts.0) s) c.id (term_after c.term items) (vote_after c.vote items) (log_after c.log items) (len_after c.snapshot_len o.core.snapshot_len items) after =
      ⊎_elim
      (λ (x : (items ≡ number i ys) × (d.term ≡ c.term) × (d.vote ≡ c.vote)).
      subst (λ (xs : List Item). StoreTied b len (moved_all (first.moves ++ halts.0) s) c.id (term_after c.term xs) (vote_after c.vote xs) (log_after c.log xs) (len_after c.snapshot_len o.core.snapshot_len xs) after) (sym x.0)
      (subst (λ (n : ℕ). StoreTied b len (moved_all (first.moves ++ halts.0) s) c.id (term_after c.term (number i ys)) (vote_after c.vote (number i ys)) (log_after c.log (number i ys)) n after) (sym (entries_len c.snapshot_len o.core.snapshot_len i ys))
      (subst (λ (v : ℕ). StoreTied b len (moved_all (first.moves ++ halts.0) s) c.id (term_after c.term (number i ys)) v (log_after c.log (number i ys)) c.snapshot_len after) (x.2 ∙ sym (number_vote c.vote i ys))
      (subst (λ (v : ℕ). StoreTied b len (moved_all (first.moves ++ halts.0) s) c.id v d.vote (log_after c.log (number i ys)) c.snapshot_len after) (x.1 ∙ sym (number_term c.term i ys)) at_c))))
      (λ (e : items ≡ VoteItem d.term d.vote ∷ number i ys).
      subst (λ (xs : List Item). StoreTied b len (moved_all (first.moves ++ halts.0) s) c.id (term_after c.term xs) (vote_after c.vote xs) (log_after c.log xs) (len_after c.snapshot_len o.core.snapshot_len xs) after) (sym e)
      (subst (λ (l : LogParts). StoreTied b len (moved_all (first.moves ++ halts.0) s) c.id (term_after d.term (number i ys)) (vote_after d.vote (number i ys)) l c.snapshot_len after) (sym (entries_log c.log d.term d.vote i ys))
      (subst (λ (v : ℕ). StoreTied b len (moved_all (first.moves ++ halts.0) s) c.id (term_after d.term (number i ys)) v (log_after c.log (number i ys)) c.snapshot_len after) (sym (number_vote d.vote i ys))
      (subst (λ (v : ℕ). StoreTied b len (moved_all (first.moves ++ halts.0) s) c.id v d.vote (log_after c.log (number i ys)) c.snapshot_len after) (sym (number_term d.term i ys)) at_c))))
      shape in
      record {
        moves = first.moves ++ halts.0;
        mine = All-append (λ (m : Move). actor m ≡ c.id) first.moves halts.0 first.mine (subst (λ (k : ℕ). All (λ (m : Move). actor m ≡ k) halts.0) u.id halts.1);
        can = can_both b s first.moves halts.0 first.can halts.2;
        store = store;
        front = subst (λ (l : LogParts). take (l.base - b.base) after ≡ take (l.base - b.base) whole) u.log halts.4;
      }

  -- the items of a rule that are entries, with the vote before them
  stop_voted : (d : CoreParts) (t : ℕ) → IsUpTo c d t → (first : Turned b len s c whole (quiet d) whole) → (o : Out) → IsEntries d o
      → ((n : ℕ) → Halts b len (moved_all first.moves s) d whole (take n o.items)) → (out : Out) (n : ℕ) → Stop out (kept n (written c o))
  stop_voted d t u first o en halts out n =
      subst (λ (xs : List Item). Stop out (kept n xs)) (sym items_are) (chosen ((c.term == o.core.term) && (c.vote == o.core.vote)) refl n)
    where
      halted : (k : ℕ) → Halts b len (moved_all first.moves s) d whole (number en.index (take k en.entries))
      halted k = subst (λ (xs : List Item). Halts b len (moved_all first.moves s) d whole xs) (ap (take k) en.are ∙ number_take k en.index en.entries) (halts k)

      voted : (i : ℕ) (xs : List LogEntry) → with_vote c o.core (number i xs) ≡ cond ((c.term == o.core.term) && (c.vote == o.core.vote)) (number i xs) (VoteItem o.core.term o.core.vote ∷ number i xs)
      voted i [] = refl
      voted i (x ∷ xs) = refl

      items_are : written c o ≡ cond ((c.term == o.core.term) && (c.vote == o.core.vote)) (number en.index en.entries) (VoteItem o.core.term o.core.vote ∷ number en.index en.entries)
      items_are = ap (with_vote c o.core) en.are ∙ voted en.index en.entries

      vote_is : VoteItem o.core.term o.core.vote ≡ VoteItem d.term d.vote
      vote_is = ap (λ (x : ℕ). VoteItem x o.core.vote) en.term ∙ ap (λ (x : ℕ). VoteItem d.term x) en.vote

      chosen : (g : Bool) → ((c.term == o.core.term) && (c.vote == o.core.vote)) ≡ g → (n : ℕ)
          → Stop out (kept n (cond g (number en.index en.entries) (VoteItem o.core.term o.core.vote ∷ number en.index en.entries)))
      chosen true e n =
          let ys = take n en.entries in
          let k : kept n (number en.index en.entries) ≡ number en.index ys = kept_plain n (number en.index en.entries) (plain_number en.index en.entries) ∙ number_take n en.index en.entries in
          let g = and_parts (c.term == o.core.term) (c.vote == o.core.vote) e in
          let g0 = eqb-true c.term o.core.term g.0 in
          let g1 = eqb-true c.vote o.core.vote g.1 in
          subst (λ (xs : List Item). Stop out xs) (sym k)
          (subst (λ (l : List LogEntry). Stopped b len s c whole out (number en.index ys) l) (sym (entries_whole b sender whole en.index ys))
          (stop_entries d t u first en.index ys (halted n) out (number en.index ys) (inl (refl, sym (g0 ∙ en.term), sym (g1 ∙ en.vote)))))
      chosen false e zero = stop_none out
      chosen false e (suc n) =
          let ys = take n en.entries in
          let k : VoteItem o.core.term o.core.vote ∷ take n (number en.index en.entries) ≡ VoteItem d.term d.vote ∷ number en.index ys =
          ap (λ (x : Item). x ∷ take n (number en.index en.entries)) vote_is ∙ ap (λ (xs : List Item). VoteItem d.term d.vote ∷ xs) (number_take n en.index en.entries) in
          subst (λ (xs : List Item). Stop out xs) (sym k)
          (stop_entries d t u first en.index ys (halted n) out (VoteItem d.term d.vote ∷ number en.index ys) (inr refl))

  stop_heard : (from to : ℕ) (body : Body) (applied held : ℕ) → IsHeard b len s c sender (record { from = from; to = to; body = body }) applied held → (n : ℕ)
      → Stop (on c (Heard (record { from = from; to = to; body = body }) applied held)) (kept n (on c (Heard (record { from = from; to = to; body = body }) applied held)).items)
  stop_heard from to (Vote v li lt) applied held a n =
      stop_short (Heard (record { from = from; to = to; body = Vote v li lt }) applied held) a (short_none c (hears_vote (raised c v) from v li lt).core) n
  stop_heard from to (VoteReply v granted) applied held a n =
      stop_short (Heard (record { from = from; to = to; body = VoteReply v granted }) applied held) a (short_vote_reply c from v v granted) n
  stop_heard from to (Append v pi pt es mc) applied held a n =
      let d = raised c v in
      let u = raised_is c v in
      let first = turn_raised b len s h c whole ok v in
      let g = moves_grow b r.start.low s h first.moves first.can in
      stop_voted d v u first (hears_append d from v pi pt es mc) (append_entries d from v pi pt es mc)
      (λ k. stop_hears_append b r.start.low len (moved_all first.moves s) (moves_sound b r.start.low s h first.moves first.can) d whole first.tied from v pi pt es mc
      (append_stays b s (moved_all first.moves s) g from v pi pt es mc a.claim) u.term (λ z. a.from_other (z ∙ u.id)) k)
      (on c (Heard (record { from = from; to = to; body = Append v pi pt es mc }) applied held)) n
  stop_heard from to (AppendReply v taken i) applied held a n =
      stop_short (Heard (record { from = from; to = to; body = AppendReply v taken i }) applied held) a
      (short_items c (hears_append_reply (raised c v) from v taken i) (append_reply_none (raised c v) from v taken i)) n
  stop_heard from to (Chunk v i bt off total bytes) applied held a n =
      stop_short (Heard (record { from = from; to = to; body = Chunk v i bt off total bytes }) applied held) a (short_chunk c (raised c v) from v i bt total applied held) n
  stop_heard from to (ChunkReply v i off) applied held a n =
      stop_short (Heard (record { from = from; to = to; body = ChunkReply v i off }) applied held) a
      (short_items c (hears_chunk_reply (raised c v) from v i off) (chunk_reply_none (raised c v) from v i off)) n

  -- every event, wherever the node stops in it
  pub event_stop : (event : CoreEvent) → Asked b len s c sender event → (n : ℕ) → Stop (on c event) (kept n (on c event).items)
  event_stop Timeout a n = stop_timeout n
  event_stop Beat a n = stop_short Beat a (short_none c c) n
  event_stop (Raise t) a n = stop_short (Raise t) a (short_none c (rule c (Raise t)).core) n
  event_stop (Command e) a n = stop_short (Command e) a (short_own c (appends c e).core (suc (last_index c.log)) c.term e refl refl) n
  event_stop (Fire e) a n = stop_short (Fire e) a (short_own c (appends c e).core (suc (last_index c.log)) c.term e refl refl) n
  event_stop (Heard m applied held) a n = stop_heard m.from m.to m.body applied held a n
