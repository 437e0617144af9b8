-- An event of one node keeps what holds of a world.
use Rattle.std.proofs.Common.{◌≡◌, ◌≢◌, ℕ, zero, suc, ◌+◌, ◌-◌, ◌<◌, ◌≤◌, max, Bool, true, false, cond, ◌&&◌, nat_lt, nat_le, All, List, [], ◌∷◌, ◌++◌, length, take, drop, get_or, refl, sym, ap, ◌∙◌, subst, arith, ◌⊎◌, inl, inr, ⊎_elim, take-add, take_all, take-take, length-take-le}
use Rattle.std.proofs.lemmas.Bool.{cases_lt, leb-true, ltb-true, le-leb, lt-ltb, and_parts}
use Rattle.std.proofs.lemmas.List.Elements.{All-head, All-tail, All-push, All-weaker}
use Rattle.raft_types.specs.declared.entry.LogEntry.{LogEntry}
use Rattle.raft_types.specs.declared.event.CoreEvent.{CoreEvent}
use Rattle.raft_types.specs.declared.item.Item.{Item}
use Rattle.raft_types.specs.declared.item.Item.TheVariants.{Snap, Vote as VoteItem, Entry}
use Rattle.raft_types.specs.declared.message.Body.{Body}
use Rattle.raft_types.specs.declared.message.Body.TheVariants.{Vote, VoteReply, Append, AppendReply, Chunk, ChunkReply}
use Rattle.raft_types.specs.declared.message.Message.{Message}
use Rattle.raft_types.specs.Log.{LogParts, compacted}
use Rattle.raft_types.specs.Items.{log_after, term_after, vote_after}
use Rattle.raft_types.specs.Core.{CoreParts, Out}
use Rattle.raft_types.specs.Step.{starts_anew, on}
use Rattle.raft_types.proofs.SameNode.{same_id, same_nodes}
use Rattle.raft_types.proofs.Kept.{items_tell}
use Rattle.raft_spine.specs.Logs.{IsFront}
use Rattle.raft_spine.specs.Start.{Start}
use Rattle.raft_spine.specs.Spine.{Spine}
use Rattle.raft_spine.specs.Moves.{moved_all}
use Rattle.raft_spine.specs.Decided.{Decided}
use Rattle.raft_spine.proofs.Sound.{Sound}
use Rattle.raft_spine.proofs.Run.{moves_sound, reached_sound}
use Rattle.raft_spine.proofs.Grow.{decided_front}
use Rattle.raft_spine.proofs.Laws.{one_history}
use Rattle.raft_claims.specs.Claims.{Claim}
use Rattle.raft_claims.specs.Tied.{whole_log, Tied, StoreTied, Turned}
use Rattle.raft_claims.specs.Events.{whole_after, kept, Stopped}
use Rattle.raft_claims.proofs.Stores.{store_starts}
use Rattle.cluster_world.specs.World.{Machine, Held, nothing_held, Node, World, nodes_of, log_of, core_of, node_at}
use Rattle.cluster_world.specs.Node.{applies, ended, halted}
use Rattle.cluster_world.specs.Events.{with_node, MAX_IN_FLIGHT, sent, grows_by}
use Rattle.cluster_world.proofs.Steps.{ChunkWithin, OwnChunk, Goes, Steps}
use Rattle.cluster_world.proofs.Roles.{LeadsHow}
use Rattle.raft_types.specs.declared.state.Role.TheVariants.{Follower, Leader}
use Rattle.cluster_world.proofs.Keeping.{HeldOf, NodeKept, ChunkOf, InFlight, HistoryKept, Kept, Onward, Within, within_put, Becomes, kept_node, onward_node, with_node_same}

-- items that don't start the log anew leave its base
base_stays : (l : LogParts) (items : List Item) → starts_anew items ≡ false → (log_after l items).base ≡ l.base
base_stays l [] h = refl
base_stays l (Snap i t ∷ items) h = absurd (let q : true ≡ false = h in cc)
base_stays l (VoteItem t v ∷ items) h = refl
base_stays l (Entry i t e ∷ items) h = refl

-- what is kept starts nothing anew, or it is all
kept_parts : (n : ℕ) (items : List Item) → (starts_anew (kept n items) ≡ false) ⊎ (kept n items ≡ items)
kept_parts zero items = inl refl
kept_parts (suc n) [] = inl refl
kept_parts (suc n) (Snap i t ∷ items) = inr refl
kept_parts (suc n) (VoteItem t v ∷ items) = inl refl
kept_parts (suc n) (Entry i t e ∷ items) = inl refl

-- applying goes on from where it stands, and no further than it is told
applies_range : (b : Start) (m : Machine) (whole : List LogEntry) (a n : ℕ) → (a ≤ applies b m whole a n) × (applies b m whole a n ≤ a + n)
applies_range b m whole a zero = (omega arith, omega arith)
applies_range b m whole a (suc n) = answer (m.takes (take (suc a - b.base) whole)) (applies_range b m whole (suc a) n)
  where
    answer : (g : Bool) → (suc a ≤ applies b m whole (suc a) n) × (applies b m whole (suc a) n ≤ suc a + n) → (a ≤ cond g (applies b m whole (suc a) n) a) × (cond g (applies b m whole (suc a) n) a ≤ a + suc n)
    answer true r = let r0 = r.0 in let r1 = r.1 in (omega (arith, r0), omega (arith, r1))
    answer false r = (omega arith, omega arith)

-- a core with these parts
abbrev with_parts : CoreParts → ℕ → ℕ → LogParts → ℕ → CoreParts
with_parts d i n l z = record d { id = i; nodes = n; log = l; snapshot_len = z }

parts_are : (d : CoreParts) (i n : ℕ) (l : LogParts) (z : ℕ) → d.id ≡ i → d.nodes ≡ n → d.log ≡ l → d.snapshot_len ≡ z → with_parts d i n l z ≡ d
parts_are d i n l z p q r t =
    ap (λ (x : ℕ). with_parts d x n l z) (sym p)
    ∙ (ap (λ (x : ℕ). with_parts d d.id x l z) (sym q)
    ∙ (ap (λ (x : LogParts). with_parts d d.id d.nodes x z) (sym r)
    ∙ ap (λ (x : ℕ). with_parts d d.id d.nodes d.log x) (sym t)))

module _ (b : Start) (m : Machine) (s : Spine) (k : ℕ) (n : Node) (ok : NodeKept b m s k n) (sender : List LogEntry) (event : CoreEvent) where
  -- the core of the node that ends the event is the step's: its log, read from the base up, stands for the whole one
  pub core_is : (held : Held) → Turned b m.len s (core_of b m k n) n.whole (on (core_of b m k n) event) (whole_after b sender n.whole (on (core_of b m k n) event).items)
      → core_of b m k (ended b m sender n held (on (core_of b m k n) event)) ≡ (on (core_of b m k n) event).core
  core_is held q =
      let d = (on (core_of b m k n) event).core in
      let after = whole_after b sender n.whole (on (core_of b m k n) event).items in
      parts_are d k (nodes_of b) (compacted (whole_log b after) d.log.base) (m.len (take (d.log.base - b.base) after))
      (same_id (core_of b m k n) event) (same_nodes (core_of b m k n) event) q.tied.stands_for q.tied.size

module _ (b : Start) (m : Machine) (s : Spine) (k : ℕ) (n : Node) (ok : NodeKept b m s k n) (sender : List LogEntry) (event : CoreEvent) (high : ℕ) where
  abbrev out : Out
  out = on (core_of b m k n) event

  abbrev ended_becomes : (held : Held) → (q : Turned b m.len s (core_of b m k n) n.whole (on (core_of b m k n) event) (whole_after b sender n.whole (on (core_of b m k n) event).items))
      → Steps k n.base high n.applied (on (core_of b m k n) event) → LeadsHow n.role n.term (on (core_of b m k n) event).core.role (on (core_of b m k n) event).core.term
      → (held.count ≡ 0) ⊎ HeldOf b m.len (moved_all q.moves s) held
      → Becomes b m s k n (ended b m sender n held (on (core_of b m k n) event))
  ended_becomes held q st how hk =
      let o = on (core_of b m k n) event in
      let after = whole_after b sender n.whole o.items in
      let before = max n.applied o.core.log.base in
      let r = applies_range b m after before (o.core.commit - before) in
      let r0 = r.0 in let r1 = r.1 in
      let kn = q.tied.known in
      let cm = st.past.commit in
      record {
        moves = q.moves;
        mine = q.mine;
        can = q.can;
        kept = record {
          tied = subst (λ (d : CoreParts). Tied b m.len (moved_all q.moves s) d after) (sym (core_is b m s k n ok sender event held q)) q.tied;
          from_base = omega (arith, r0);
          to_commit = omega (arith, r1, kn, cm);
          holds = chosen (starts_anew o.items) (moved_all q.moves s) hk;
        };
        base = st.past.base;
        front = q.front;
        how = λ e. how e;
      }
    where
      chosen : (g : Bool) (s' : Spine) → (held.count ≡ 0) ⊎ HeldOf b m.len s' held → ((cond g nothing_held held).count ≡ 0) ⊎ HeldOf b m.len s' (cond g nothing_held held)
      chosen true s' x = inl refl
      chosen false s' x = x

  -- what the node sends may be in flight
  said_flight : (held : Held) → (q : Turned b m.len s (core_of b m k n) n.whole (on (core_of b m k n) event) (whole_after b sender n.whole (on (core_of b m k n) event).items))
      → Sound b (moved_all q.moves s) → Steps k n.base high n.applied (on (core_of b m k n) event) → (w : World) → node_at b w k ≡ ended b m sender n held (on (core_of b m k n) event)
      → All (InFlight b m (moved_all q.moves s) w) (on (core_of b m k n) event).messages
  said_flight held q sound st w e i d lt = flies (get_or o.messages i d) (q.said i d lt) (st.goes i d lt)
    where
      o : Out
      o = on (core_of b m k n) event

      chunk : (body : Body) (from to : ℕ) → from ≡ k → Claim b m.len (moved_all q.moves s) from to body → OwnChunk (on (core_of b m k n) event).core body
          → ChunkOf b (moved_all q.moves s) (ended b m sender n held (on (core_of b m k n) event)) body
      chunk (Vote t li l) from to f c x = tt
      chunk (VoteReply t r) from to f c x = tt
      chunk (Append t pi pt es mc) from to f c x = tt
      chunk (AppendReply t r i) from to f c x = tt
      chunk (Chunk t i bt off total bytes) from to f c x =
          let s' = moved_all q.moves s in
          let id = same_id (core_of b m k n) event in
          let x1 = x.1 in
          let tk : s'.term k ≡ t = ap s'.term (sym id) ∙ (q.tied.term ∙ sym x.0) in
          let own = sound.own_log k (λ z. q.tied.is_node (id ∙ z)) (ap s'.leader tk ∙ (c.leader ∙ f)) in
          let log : s'.log k ≡ whole_after b sender n.whole (on (core_of b m k n) event).items = ap s'.log (sym id) ∙ q.tied.log in
          (omega (arith, x1), ap (take (i - b.base)) (sym log ∙ (own ∙ ap s'.leader_log tk)))
      chunk (ChunkReply t i off) from to f c x = tt

      flies : (x : Message) → (x.from ≡ k) × Claim b m.len (moved_all q.moves s) x.from x.to x.body → Goes (on (core_of b m k n) event).core x → InFlight b m (moved_all q.moves s) w x
      flies x y g =
          let id = same_id (core_of b m k n) event in
          let y0 = y.0 in
          let nz = q.tied.is_node in
          record {
            from_node = (let z : k ≢ 0 = λ z. nz (id ∙ z) in omega (arith, y0, z));
            to_node = g.to_node;
            other = λ z. g.to_other (sym z ∙ (y.0 ∙ sym id));
            claim = y.1;
            chunk = subst (λ (j : ℕ). ChunkOf b (moved_all q.moves s) (node_at b w j) x.body) (sym y.0)
                (subst (λ (v : Node). ChunkOf b (moved_all q.moves s) v x.body) (sym e) (chunk x.body x.from x.to y.0 y.1 g.chunk));
          }

  -- the node that stops in the event
  halted_becomes : (j : ℕ)
      → Stopped b m.len s (core_of b m k n) n.whole (on (core_of b m k n) event) (kept j (on (core_of b m k n) event).items) (whole_after b sender n.whole (kept j (on (core_of b m k n) event).items))
      → Steps k n.base high n.applied (on (core_of b m k n) event)
      → Becomes b m s k n (halted b sender n (kept j (on (core_of b m k n) event).items))
  halted_becomes j q st =
      let c = core_of b m k n in
      let items = kept j (on c event).items in
      let after = whole_after b sender n.whole items in
      let l = log_after (log_of b n) items in
      let s' = moved_all q.moves s in
      let sz = q.store.size in
      let store : StoreTied b m.len s' k (term_after n.term items) (vote_after n.vote items) (compacted (whole_log b after) l.base) (m.len (take (l.base - b.base) after)) after =
      subst (λ (x : LogParts). StoreTied b m.len s' k (term_after n.term items) (vote_after n.vote items) x (m.len (take (l.base - b.base) after)) after) q.store.stands_for
      (subst (λ (x : ℕ). StoreTied b m.len s' k (term_after n.term items) (vote_after n.vote items) l x after) q.store.size q.store) in
      record {
        moves = q.moves;
        mine = q.mine;
        can = q.can;
        kept = record {
          tied = store_starts b m.len s' k (nodes_of b) (term_after n.term items) (vote_after n.vote items) (compacted (whole_log b after) l.base) (m.len (take (l.base - b.base) after)) after store;
          from_base = omega arith;
          to_commit = omega arith;
          holds = inl refl;
        };
        base = low j (on c event).items refl;
        front = q.front;
        how = λ e. absurd (let q : Follower ≡ Leader = e in cc);
      }
    where
      low : (j : ℕ) (items : List Item) → items ≡ (on (core_of b m k n) event).items → n.base ≤ (log_after (log_of b n) (kept j items)).base
      low j items e = ⊎_elim
          (λ (x : starts_anew (kept j items) ≡ false). let z = base_stays (log_of b n) (kept j items) x in omega (arith, z))
          (λ (x : kept j items ≡ items).
          let t = (items_tell (core_of b m k n) event).log in
          let y = ap (λ (l : LogParts). l.base) (ap (log_after (log_of b n)) (x ∙ e) ∙ t) in let z = st.past.base in omega (arith, y, z))
          (kept_parts j items)

-- messages join those in flight
pub sent_all : (P : Message → Type 0) (flight xs : List Message) → All P flight → All P xs → All P (sent flight xs)
sent_all P flight [] f h = f
sent_all P flight (x ∷ xs) f h = sent_all P (cond (nat_lt (length flight) MAX_IN_FLIGHT) (flight ++ x ∷ []) flight) xs (chosen (nat_lt (length flight) MAX_IN_FLIGHT)) (All-tail P x xs h)
  where
    chosen : (g : Bool) → All P (cond g (flight ++ x ∷ []) flight)
    chosen true = All-push P flight x f (All-head P x xs h)
    chosen false = f

-- the history grows by what a node applied directly after it
history_grows : (b : Start) (m : Machine) (s : Spine) → Sound b s → (w : World) → HistoryKept b s w → (k : ℕ) (n n' : Node) → NodeKept b m s k n' → b.base ≤ n.base
    → n.base ≤ n.applied → HistoryKept b s (grows_by b n n' w)
history_grows b m s sound w h k n n' ok lo at = answer (nat_le (max n.applied n'.base) w.placed && nat_lt w.placed n'.applied) refl
  where
    answer : (g : Bool) → (nat_le (max n.applied n'.base) w.placed && nat_lt w.placed n'.applied) ≡ g
        → HistoryKept b s (cond g (record w { placed = n'.applied; history = w.history ++ take (n'.applied - w.placed) (drop (w.placed - b.base) n'.whole) }) w)
    answer false e = h
    answer true e =
        let g = and_parts (nat_le (max n.applied n'.base) w.placed) (nat_lt w.placed n'.applied) e in
        let g0 = leb-true (max n.applied n'.base) w.placed g.0 in
        let g1 = ltb-true w.placed n'.applied g.1 in
        let long : w.placed ≡ b.base + length w.history = ⊎_elim (λ (x : w.placed ≡ b.base + length w.history). x) (λ (x : w.placed < b.base). absurd (omega arith)) h.long in
        let tc = ok.to_commit in let sh = ok.tied.short in
        let p = w.placed - b.base in
        let a = n'.applied - b.base in
        let mine : Decided b s n'.term (take a n'.whole) = subst (λ (l : List LogEntry). Decided b s n'.term l) (take-take a (n'.commit - b.base) n'.whole (omega arith))
        (decided_front b s n'.term a (take (n'.commit - b.base) n'.whole) ok.tied.decided) in
        let la = length-take-le a n'.whole (omega arith) in
        let same : take p n'.whole ≡ w.history = ⊎_elim
        (λ (x : IsFront w.history (take a n'.whole)).
        let z : length w.history ≡ p = omega arith in
        sym (take-take p a n'.whole (omega arith)) ∙ (ap (λ (i : ℕ). take i (take a n'.whole)) (sym z) ∙ x))
        (λ (x : IsFront (take a n'.whole) w.history).
        let y = take_all (length (take a n'.whole)) w.history (omega (arith, la, g1, long)) in
        let z = ap length (sym y ∙ x) in absurd (omega (arith, la, g1, long, z)))
        (one_history b s sound h.bound n'.term w.history (take a n'.whole) h.decided mine) in
        let all : w.history ++ take (n'.applied - w.placed) (drop p n'.whole) ≡ take a n'.whole =
        ap (λ (l : List LogEntry). l ++ take (n'.applied - w.placed) (drop p n'.whole)) (sym same)
        ∙ (sym (take-add p (n'.applied - w.placed) n'.whole) ∙ ap (λ (i : ℕ). take i n'.whole) (let z : p + (n'.applied - w.placed) ≡ a = omega arith in z)) in
        let ll = ap length all in
        record {
          bound = n'.term;
          decided = subst (λ (l : List LogEntry). Decided b s n'.term l) (sym all) mine;
          long = inl (omega (arith, ll, la, g1, long));
        }

-- a world with more in flight, and with a history that may have grown
with_history : (b : Start) (m : Machine) (s : Spine) (w v : World) (o : Onward b m s w v) (g : Bool) (p : ℕ) (l : List LogEntry) (ms : List Message) → All (InFlight b m o.kept.spine v) ms
    → HistoryKept b o.kept.spine (cond g (record v { placed = p; history = l }) v)
    → Onward b m s w (record (cond g (record v { placed = p; history = l }) v) { flight = sent (cond g (record v { placed = p; history = l }) v).flight ms })
with_history b m s w v o true p l ms said hist = record {
  kept = record {
    spine = o.kept.spine;
    reached = o.kept.reached;
    nodes = o.kept.nodes;
    flight = sent_all (InFlight b m o.kept.spine (record v { placed = p; history = l; flight = sent v.flight ms })) v.flight ms (λ i d lt. again (get_or v.flight i d) (o.kept.flight i d lt)) (λ i d lt. again (get_or ms i d) (said i d lt));
    history = record { bound = hist.bound; decided = hist.decided; long = hist.long };
  };
  grows = o.grows;
  count = o.count;
  further = o.further;
  takes = o.takes;
}
  where
    again : (x : Message) → InFlight b m o.kept.spine v x → InFlight b m o.kept.spine (record v { placed = p; history = l; flight = sent v.flight ms }) x
    again x f = record { from_node = f.from_node; to_node = f.to_node; other = f.other; claim = f.claim; chunk = f.chunk }
with_history b m s w v o false p l ms said hist = record {
  kept = record {
    spine = o.kept.spine;
    reached = o.kept.reached;
    nodes = o.kept.nodes;
    flight = sent_all (InFlight b m o.kept.spine (record v { flight = sent v.flight ms })) v.flight ms (λ i d lt. again (get_or v.flight i d) (o.kept.flight i d lt)) (λ i d lt. again (get_or ms i d) (said i d lt));
    history = record { bound = hist.bound; decided = hist.decided; long = hist.long };
  };
  grows = o.grows;
  count = o.count;
  further = o.further;
  takes = o.takes;
}
  where
    again : (x : Message) → InFlight b m o.kept.spine v x → InFlight b m o.kept.spine (record v { flight = sent v.flight ms }) x
    again x f = record { from_node = f.from_node; to_node = f.to_node; other = f.other; claim = f.claim; chunk = f.chunk }

-- the world after a node became another one, with what it sent and applied
abbrev pub after_node : Start → ℕ → Node → Node → List Message → World → World
after_node b k n n' ms w = (let v = grows_by b n n' (with_node k n' w) in record v { flight = sent v.flight ms })

pub kept_after : (b : Start) (m : Machine) (w : World) → (h : Kept b m w) → (place : ℕ) → (inside : place < length w.nodes) → (n : Node) → b.base ≤ n.base → n.base ≤ n.applied → (n' : Node)
    → (x : Becomes b m h.spine (suc place) (node_at b w (suc place)) n') → (ms : List Message) → All (InFlight b m (moved_all x.moves h.spine) (with_node (suc place) n' w)) ms
    → Onward b m h.spine w (after_node b (suc place) n n' ms w)
kept_after b m w h place inside n lo at n' x ms said =
    let o = onward_node b m w h place inside n' x in
    let h1 = kept_node b m w h place inside n' x in
    with_history b m h.spine w (with_node (suc place) n' w) o (nat_le (max n.applied n'.base) w.placed && nat_lt w.placed n'.applied) n'.applied
    (w.history ++ take (n'.applied - w.placed) (drop (w.placed - b.base) n'.whole)) ms said
    (history_grows b m h1.spine (reached_sound b h1.spine h1.reached) (with_node (suc place) n' w) h1.history (suc place) n n' x.kept lo at)

pub both : {g k : Bool} → g ≡ true → k ≡ true → (g && k) ≡ true
both {g} {k} p q = ap (λ (x : Bool). x && k) p ∙ q

-- a core's own chunks stand for no more than its base
own_within : (d : CoreParts) (p : ℕ) → d.log.base ≤ p → (body : Body) → OwnChunk d body → ChunkWithin p body
own_within d p le (Vote t li l) x = tt
own_within d p le (VoteReply t r) x = tt
own_within d p le (Append t pi pt es mc) x = tt
own_within d p le (AppendReply t r i) x = tt
own_within d p le (Chunk t i bt off total bytes) x = let x1 = x.1 in omega (arith, x1, le)
own_within d p le (ChunkReply t i off) x = tt

within_more : (p q : ℕ) → p ≤ q → (body : Body) → ChunkWithin p body → ChunkWithin q body
within_more p q le (Vote t li l) x = tt
within_more p q le (VoteReply t r) x = tt
within_more p q le (Append t pi pt es mc) x = tt
within_more p q le (AppendReply t r i) x = tt
within_more p q le (Chunk t i bt off total bytes) x = omega (arith, x, le)
within_more p q le (ChunkReply t i off) x = tt

-- a node that had applied no more than the history's length, and got nothing past it, has the history grow with it
within_after : (b : Start) (w : World) (place : ℕ) → place < length w.nodes → (n n' : Node) (ms : List Message) → Within b w → max n.applied n'.base ≤ w.placed
    → All (λ x. ChunkWithin w.placed x.body) ms → Within b (after_node b (suc place) n n' ms w)
within_after b w place inside n n' ms x le own =
    answer (nat_le (max n.applied n'.base) w.placed && nat_lt w.placed n'.applied) refl (w.history ++ take (n'.applied - w.placed) (drop (w.placed - b.base) n'.whole))
  where
    answer : (g : Bool) → (nat_le (max n.applied n'.base) w.placed && nat_lt w.placed n'.applied) ≡ g → (l : List LogEntry)
        → Within b (record (cond g (record (with_node (suc place) n' w) { placed = n'.applied; history = l }) (with_node (suc place) n' w)) {
          flight = sent (cond g (record (with_node (suc place) n' w) { placed = n'.applied; history = l }) (with_node (suc place) n' w)).flight ms;
        })
    answer true e l =
        let lt = ltb-true w.placed n'.applied (and_parts (nat_le (max n.applied n'.base) w.placed) (nat_lt w.placed n'.applied) e).1 in
        let y = within_put b (record w { placed = n'.applied }) place n' inside
        (record {
          nodes = λ q i. let z = x.nodes q i in (let r : (node_at b w (suc q)).applied ≤ n'.applied = omega (arith, z, lt) in r);
          flight = All-weaker (λ (m : Message). ChunkWithin w.placed m.body) (λ (m : Message). ChunkWithin n'.applied m.body) (λ m c. within_more w.placed n'.applied (omega (arith, lt)) m.body c) w.flight x.flight;
        }) (omega arith) in
        record {
          nodes = y.nodes;
          flight = sent_all (λ (m : Message). ChunkWithin n'.applied m.body) w.flight ms y.flight
              (All-weaker (λ (m : Message). ChunkWithin w.placed m.body) (λ (m : Message). ChunkWithin n'.applied m.body) (λ m c. within_more w.placed n'.applied (omega (arith, lt)) m.body c) ms own);
        }
    answer false e l =
        let y = within_put b w place n' inside x (⊎_elim
        (λ (lt : w.placed < n'.applied).
        let q : (nat_le (max n.applied n'.base) w.placed && nat_lt w.placed n'.applied) ≡ true = both (le-leb (max n.applied n'.base) w.placed le) (lt-ltb w.placed n'.applied lt) in
        absurd (let z : true ≡ false = sym q ∙ e in cc))
        (λ (ge : n'.applied ≤ w.placed). ge)
        (cases_lt w.placed n'.applied)) in
        record { nodes = y.nodes; flight = sent_all (λ (m : Message). ChunkWithin w.placed m.body) w.flight ms y.flight own }

module _ (b : Start) (m : Machine) (w : World) (h : Kept b m w) (place : ℕ) (inside : place < length w.nodes) (n : Node) (is : node_at b w (suc place) ≡ n) (sender : List LogEntry) (event : CoreEvent) (high : ℕ) where
  ok_here : NodeKept b m h.spine (suc place) n
  ok_here = subst (λ (x : Node). NodeKept b m h.spine (suc place) x) is (h.nodes place inside)

  abbrev here : (n' : Node) → Becomes b m h.spine (suc place) n n' → Becomes b m h.spine (suc place) (node_at b w (suc place)) n'
  here n' x = record {
    moves = x.moves;
    mine = x.mine;
    can = x.can;
    kept = x.kept;
    base = subst (λ (y : Node). y.base ≤ n'.base) (sym is) x.base;
    front = subst (λ (y : Node). take (y.base - b.base) n'.whole ≡ take (y.base - b.base) y.whole) (sym is) x.front;
    how = subst (λ (y : Node). LeadsHow y.role y.term n'.role n'.term) (sym is) x.how;
  }

  -- where the node stops
  pub kept_stopped : (j : ℕ)
      → Stopped b m.len h.spine (core_of b m (suc place) n) n.whole (on (core_of b m (suc place) n) event) (kept j (on (core_of b m (suc place) n) event).items) (whole_after b sender n.whole (kept j (on (core_of b m (suc place) n) event).items))
      → Steps (suc place) n.base high n.applied (on (core_of b m (suc place) n) event)
      → Onward b m h.spine w (with_node (suc place) (halted b sender n (kept j (on (core_of b m (suc place) n) event).items)) w)
  kept_stopped j q st =
      onward_node b m w h place inside (halted b sender n (kept j (on (core_of b m (suc place) n) event).items))
      (here (halted b sender n (kept j (on (core_of b m (suc place) n) event).items)) (halted_becomes b m h.spine (suc place) n ok_here sender event high j q st))

  -- where it ends the event
  pub kept_ended : (held : Held) → (q : Turned b m.len h.spine (core_of b m (suc place) n) n.whole (on (core_of b m (suc place) n) event) (whole_after b sender n.whole (on (core_of b m (suc place) n) event).items))
      → Steps (suc place) n.base high n.applied (on (core_of b m (suc place) n) event)
      → LeadsHow n.role n.term (on (core_of b m (suc place) n) event).core.role (on (core_of b m (suc place) n) event).core.term → (held.count ≡ 0) ⊎ HeldOf b m.len (moved_all q.moves h.spine) held
      → Onward b m h.spine w (after_node b (suc place) n (ended b m sender n held (on (core_of b m (suc place) n) event)) (on (core_of b m (suc place) n) event).messages w)
  kept_ended held q st how hk =
      let n' = ended b m sender n held (on (core_of b m (suc place) n) event) in
      let x = ended_becomes b m h.spine (suc place) n ok_here sender event high held q st how hk in
      let y : Becomes b m h.spine (suc place) n n' = record { moves = q.moves; mine = q.mine; can = q.can; kept = x.kept; base = x.base; front = x.front; how = x.how } in
      kept_after b m w h place inside n ok_here.tied.based ok_here.from_base n' (here n' y) (on (core_of b m (suc place) n) event).messages
      (said_flight b m h.spine (suc place) n ok_here sender event high held q (moves_sound b h.reached.start.low h.spine (reached_sound b h.spine h.reached) q.moves q.can) st (with_node (suc place) n' w)
      (with_node_same b w place n' inside))

  -- what it has applied then is in the history, where the history was long enough before and what it gets is in it
  pub within_stopped : (j : ℕ) → Steps (suc place) n.base high n.applied (on (core_of b m (suc place) n) event) → Within b w → high ≤ w.placed
      → Within b (with_node (suc place) (halted b sender n (kept j (on (core_of b m (suc place) n) event).items)) w)
  within_stopped j st x le =
      within_put b w place (halted b sender n (kept j (on (core_of b m (suc place) n) event).items)) inside x
      (⊎_elim
      (λ (e : starts_anew (kept j (on (core_of b m (suc place) n) event).items) ≡ false).
      let z = base_stays (log_of b n) (kept j (on (core_of b m (suc place) n) event).items) e in let fb = ok_here.from_base in
      let ap0 : n.applied ≤ w.placed = subst (λ (y : Node). y.applied ≤ w.placed) is (x.nodes place inside) in
      omega (arith, z, fb, ap0))
      (λ (e : kept j (on (core_of b m (suc place) n) event).items ≡ (on (core_of b m (suc place) n) event).items).
      let t = (items_tell (core_of b m (suc place) n) event).log in
      let y = ap (λ (l : LogParts). l.base) (ap (log_after (log_of b n)) e ∙ t) in let z = st.past.below in
      omega (arith, y, z, le))
      (kept_parts j (on (core_of b m (suc place) n) event).items))

  pub within_ended : (held : Held) → Steps (suc place) n.base high n.applied (on (core_of b m (suc place) n) event) → Within b w → high ≤ w.placed
      → Within b (after_node b (suc place) n (ended b m sender n held (on (core_of b m (suc place) n) event)) (on (core_of b m (suc place) n) event).messages w)
  within_ended held st x le =
      let o = on (core_of b m (suc place) n) event in
      let bl = st.past.below in
      let ap0 : n.applied ≤ w.placed = subst (λ (y : Node). y.applied ≤ w.placed) is (x.nodes place inside) in
      within_after b w place inside n (ended b m sender n held o) o.messages x (omega (arith, bl, le, ap0))
      (All-weaker (Goes o.core) (λ y. ChunkWithin w.placed y.body) (λ y g. own_within o.core w.placed (omega (arith, bl, le)) y.body g.chunk) o.messages st.goes)
