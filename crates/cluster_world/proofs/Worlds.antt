-- Every event of a world keeps what holds of it.
use Rattle.std.proofs.Common.{◌≡◌, ℕ, zero, suc, ◌+◌, ◌-◌, ◌<◌, ◌≤◌, min, max, nat_lt, nat_le, ◌++◌, drop, Bool, true, false, not, cond, ◌&&◌, ◌==◌, List, [], ◌∷◌, length, take, Option, Some, None, refl, sym, ap, ◌∙◌, subst, arith, ◌⊎◌, inl, inr, ⊎_elim, take_all, length-take-le}
use Rattle.std.proofs.lemmas.Bool.{eqb-true, and_parts}
use Rattle.raft_types.specs.declared.entry.LogEntry.{LogEntry}
use Rattle.raft_types.specs.declared.limits.TheConstants.{MAX_CHUNK}
use Rattle.raft_types.specs.declared.event.CoreEvent.{CoreEvent}
use Rattle.raft_types.specs.declared.event.CoreEvent.TheVariants.{Timeout, Beat, Raise, Command, Fire, Heard}
use Rattle.raft_types.specs.declared.message.Body.{Body}
use Rattle.raft_types.specs.declared.message.Message.{Message}
use Rattle.raft_types.specs.declared.message.Body.TheVariants.{Vote, VoteReply, Append, AppendReply, Chunk, ChunkReply}
use Rattle.raft_types.specs.Log.{LogParts, compacted}
use Rattle.raft_types.specs.Step.{on}
use Rattle.raft_types.proofs.Compacts.{compacts as stands_for}
use Rattle.raft_spine.specs.Logs.{IsFront}
use Rattle.raft_spine.specs.Start.{Start}
use Rattle.raft_spine.specs.Spine.{Spine}
use Rattle.raft_spine.specs.Moves.{moved_all}
use Rattle.raft_spine.proofs.Sound.{Sound}
use Rattle.raft_spine.proofs.Run.{reached_sound}
use Rattle.raft_spine.proofs.Grow.{moves_grow}
use Rattle.raft_spine.proofs.Laws.{one_history}
use Rattle.raft_claims.specs.Claims.{ChunkClaim, Claim}
use Rattle.raft_claims.specs.Tied.{whole_log, Tied}
use Rattle.raft_claims.specs.Events.{AskedOf, Asked}
use Rattle.raft_claims.proofs.Stores.{tied_stops, store_starts}
use Rattle.raft_claims.proofs.EventTurns.{event_turn}
use Rattle.raft_claims.proofs.EventStops.{event_stop}
use Rattle.raft_claims.proofs.Lawful.{compacts_tied}
use Rattle.cluster_world.specs.World.{Machine, Held, Node, World, nodes_of, log_of, core_of, refreshed, node_at}
use Rattle.cluster_world.specs.Node.{needs, with_chunk, arrived, told_of, applied_before, ended, tidied}
use Rattle.cluster_world.specs.Events.{with_node, own_event, node_event, is_cut, arrives}
use Rattle.cluster_world.specs.Facts.{IsFit}
use Rattle.cluster_world.proofs.Steps.{ChunkWithin, Steps, heard_steps}
use Rattle.cluster_world.proofs.Origins.{KnownBody, KnownEvent}
use Rattle.cluster_world.proofs.Sourcing.{sourced_stopped, sourced_ended}
use Rattle.raft_types.specs.declared.limits.TheConstants.{NOOP}
use Rattle.cluster_world.specs.World.{Placed}
use Rattle.cluster_world.specs.Events.{sent}
use Rattle.cluster_world.proofs.Roles.{Raised, leads_how}
use Rattle.raft_types.specs.Core.{CoreParts}
use Rattle.cluster_world.proofs.Keeping.{HeldOf, NodeKept, ChunkOf, InFlight, Kept, Within, Forward, forward_same, up_inside, held_stays}
use Rattle.cluster_world.proofs.NodeEvents.{after_node, kept_ended, kept_stopped, within_ended, within_stopped}

-- the index of a chunk; 0 for any other message
abbrev chunk_index : Body → ℕ
chunk_index (Vote t li lt) = 0
chunk_index (VoteReply t r) = 0
chunk_index (Append t pi pt es mc) = 0
chunk_index (AppendReply t r i) = 0
chunk_index (Chunk t i bt off total bytes) = i
chunk_index (ChunkReply t i off) = 0

within_index : (low : ℕ) (body : Body) → ChunkWithin (max low (chunk_index body)) body
within_index low (Vote t li lt) = tt
within_index low (VoteReply t r) = tt
within_index low (Append t pi pt es mc) = tt
within_index low (AppendReply t r i) = tt
within_index low (Chunk t i bt off total bytes) = omega arith
within_index low (ChunkReply t i off) = tt

index_within : (p low : ℕ) → low ≤ p → (body : Body) → ChunkWithin p body → max low (chunk_index body) ≤ p
index_within p low le (Vote t li lt) c = omega (arith, le)
index_within p low le (VoteReply t r) c = omega (arith, le)
index_within p low le (Append t pi pt es mc) c = omega (arith, le)
index_within p low le (AppendReply t r i) c = omega (arith, le)
index_within p low le (Chunk t i bt off total bytes) c = omega (arith, le, c)
index_within p low le (ChunkReply t i off) c = omega (arith, le)

-- an event leaves what is remembered of the opening, and the fires
record Beside (w w' : World) : Type 0 where
  opened : w'.opened ≡ w.opened
  fires : w'.fires ≡ w.fires
  started : w'.all_started ≡ w.all_started

beside : (b : Start) (w : World) (place : ℕ) (n n' : Node) (ms : List Message) → Beside w (after_node b (suc place) n n' ms w)
beside b w place n n' ms = answer (nat_le (applied_before n n'.base) w.placed && nat_lt w.placed n'.applied) (w.history ++ take (n'.applied - w.placed) (drop (w.placed - b.base) n'.whole)) (λ v. sent v.flight ms)
  where
    answer : (g : Bool) (l : List LogEntry) (f : World → List Message)
        → Beside w (record (cond g (record (with_node (suc place) n' w) { placed = n'.applied; history = l }) (with_node (suc place) n' w)) { flight = f (cond g (record (with_node (suc place) n' w) { placed = n'.applied; history = l }) (with_node (suc place) n' w)) })
    answer true l f = record { opened = refl; fires = refl; started = refl }
    answer false l f = record { opened = refl; fires = refl; started = refl }

-- the opening's term is asked of followers
raised_by : (b : Start) (m : Machine) (s : Spine) (c : CoreParts) (sender : List LogEntry) (event : CoreEvent) → Asked b m.len s c sender event → Raised c event
raised_by b m s c sender Timeout a = tt
raised_by b m s c sender Beat a = tt
raised_by b m s c sender (Raise term) a = a
raised_by b m s c sender (Command entry) a = tt
raised_by b m s c sender (Fire entry) a = tt
raised_by b m s c sender (Heard message applied held) a = tt

module _ (b : Start) (m : Machine) (fit : IsFit b m) (K : Placed → Type 0) (noop : (i t : ℕ) → K (record { index = i; term = t; entry = NOOP ∷ [] })) where
  -- an event of a node, with the whole log of a sender
  pub kept_by : (w : World) → (h : Kept b m w) → (place : ℕ) → place < length w.nodes → (sender : List LogEntry) (held : Held) (event : CoreEvent)
      → Asked b m.len h.spine (core_of b m (suc place) (node_at b w (suc place))) sender event
      → (high : ℕ) → (w.all_started ≡ true → Within b w → high ≤ w.placed) → Steps (suc place) (node_at b w (suc place)).base high (node_at b w (suc place)).applied (on (core_of b m (suc place) (node_at b w (suc place))) event)
      → (held.count ≡ 0) ⊎ HeldOf b m.len h.spine held → KnownEvent K (core_of b m (suc place) (node_at b w (suc place))) event → (stop : Option ℕ) → Forward b m h.spine K w (node_event b m (suc place) sender held event stop w)
  kept_by w h place inside sender held event a high le st hk new (Some j) =
      let n = node_at b w (suc place) in
      let q = event_stop b m.len fit.sizes h.spine h.reached (core_of b m (suc place) n) n.whole (h.nodes place inside).tied fit.members sender event a j in
      record { onward = kept_stopped b m w h place inside n refl sender event high j q st; opened = refl; fires = refl; started = refl; sourced = λ x. sourced_stopped K noop b m w h place inside n refl sender event new x j q; within = λ e x. within_stopped b m w h place inside n refl sender event high j st x (le e x) }
  kept_by w h place inside sender held event a high le st hk new None =
      let n = node_at b w (suc place) in
      let q = event_turn b m.len fit.sizes h.spine h.reached (core_of b m (suc place) n) n.whole (h.nodes place inside).tied fit.members sender event a in
      let z = beside b w place n (ended b m sender n held (on (core_of b m (suc place) n) event)) (on (core_of b m (suc place) n) event).messages in
      record {
        onward = kept_ended b m w h place inside n refl sender event high held q st (leads_how (core_of b m (suc place) n) event (raised_by b m h.spine (core_of b m (suc place) n) sender event a))
            (held_stays b m.len h.spine (moved_all q.moves h.spine) (moves_grow b h.reached.start.low h.spine (reached_sound b h.spine h.reached) q.moves q.can) held hk);
        opened = z.opened;
        fires = z.fires;
        started = z.started;
        sourced = λ x. sourced_ended K noop b m w h place inside n refl sender event new x held q (let lo = (h.nodes place inside).tied.based in let up = st.past.base in (let r : b.base ≤ (on (core_of b m (suc place) n) event).core.log.base = omega (arith, lo, up) in r));
        within = λ e x. within_ended b m w h place inside n refl sender event high held st x (le e x);
      }

  -- an event of a node's own
  pub kept_own : (w : World) → (h : Kept b m w) → (place : ℕ) → place < length w.nodes → (event : CoreEvent)
      → Asked b m.len h.spine (core_of b m (suc place) (node_at b w (suc place))) [] event
      → Steps (suc place) (node_at b w (suc place)).base (node_at b w (suc place)).base (node_at b w (suc place)).applied (on (core_of b m (suc place) (node_at b w (suc place))) event)
      → KnownEvent K (core_of b m (suc place) (node_at b w (suc place))) event → (stop : Option ℕ) → Forward b m h.spine K w (own_event b m (suc place) event stop w)
  kept_own w h place inside event a st new stop = kept_by w h place inside [] (node_at b w (suc place)).held event a (node_at b w (suc place)).base
      (λ e x. let y = x.nodes place inside in let fb = (h.nodes place inside).from_base in (let r : (node_at b w (suc place)).base ≤ w.placed = omega (arith, y, fb) in r)) st (h.nodes place inside).holds new stop

-- a snapshot of which these bytes are held is the chunk's, so that they are no more than it has
module _ (b : Start) (len : List LogEntry → ℕ) (s : Spine) (sound : Sound b s) (h : Held) (ok : (h.count ≡ 0) ⊎ HeldOf b len s h) (from t i bt off total : ℕ) (c : ChunkClaim b len s from t i bt total) where
  abbrev had : ℕ
  had = cond ((h.index == i) && (h.base_term == bt)) h.count 0

  had_few : (g : Bool) → ((h.index == i) && (h.base_term == bt)) ≡ g → cond g h.count 0 ≤ total
  had_few false e = omega arith
  had_few true e = ⊎_elim
      (λ (z : h.count ≡ 0). let r : h.count ≤ total = omega arith in r)
      (λ (y : HeldOf b len s h).
      let p = take c.n (s.leader_log t) in
      let lp = length-take-le c.n (s.leader_log t) c.long in
      let ix = eqb-true h.index i (and_parts (h.index == i) (h.base_term == bt) e).0 in
      let ci = c.index in let ya = y.at in let fw = y.few in let sz = c.size in
      let long : length y.front ≡ length p = omega (arith, lp, ix, ci, ya) in
      let same : y.front ≡ p = ⊎_elim
      (λ (x : IsFront y.front p). sym x ∙ take_all (length y.front) p (omega (arith, long)))
      (λ (x : IsFront p y.front). sym (take_all (length p) y.front (omega (arith, long))) ∙ x)
      (one_history b s sound y.bound t y.front p y.decided c.decided) in
      let z = ap len same in
      let r : h.count ≤ total = omega (arith, fw, z, sz) in r)
      ok

  pub chunk_few : (with_chunk h i bt off total).count ≤ total
  chunk_few = let f = had_few ((h.index == i) && (h.base_term == bt)) refl in answer (cond ((h.index == i) && (h.base_term == bt)) h.count 0) f
    where
      answer : (x : ℕ) → x ≤ total → cond (off == x) (x + min MAX_CHUNK (total - off)) x ≤ total
      answer x f = test (off == x) refl
        where
          test : (g : Bool) → (off == x) ≡ g → cond g (x + min MAX_CHUNK (total - off)) x ≤ total
          test true e = let q = eqb-true off x e in (let r : x + min MAX_CHUNK (total - off) ≤ total = omega (arith, q, f) in r)
          test false e = f

  pub chunk_held : HeldOf b len s (with_chunk h i bt off total)
  chunk_held =
      let lp = length-take-le c.n (s.leader_log t) c.long in let ci = c.index in let f = chunk_few in let sz = c.size in
      record { bound = t; front = take c.n (s.leader_log t); decided = c.decided; at = omega (arith, lp, ci); few = omega (arith, f, sz) }

module _ (b : Start) (m : Machine) (fit : IsFit b m) (w : World) (h : Kept b m w) where
  sound : Sound b h.spine
  sound = reached_sound b h.spine h.reached

  pub arrived_holds : (k : ℕ) (n : Node) → NodeKept b m h.spine k n → (from to : ℕ) (body : Body) → Claim b m.len h.spine from to body
      → ((arrived n body).count ≡ 0) ⊎ HeldOf b m.len h.spine (arrived n body)
  arrived_holds k n ok from to (Vote t li lt) c = ok.holds
  arrived_holds k n ok from to (VoteReply t r) c = ok.holds
  arrived_holds k n ok from to (Append t pi pt es mc) c = ok.holds
  arrived_holds k n ok from to (AppendReply t r i) c = ok.holds
  arrived_holds k n ok from to (Chunk t i bt off total bytes) c = answer (needs n t i)
    where
      answer : (g : Bool) → ((cond g (with_chunk n.held i bt off total) n.held).count ≡ 0) ⊎ HeldOf b m.len h.spine (cond g (with_chunk n.held i bt off total) n.held)
      answer true = inr (chunk_held b m.len h.spine sound n.held ok.holds from t i bt off total c)
      answer false = ok.holds
  arrived_holds k n ok from to (ChunkReply t i off) c = ok.holds

  pub asked_of : (k : ℕ) (n : Node) → NodeKept b m h.spine k n → (from to : ℕ) (sender : Node) (body : Body) → Claim b m.len h.spine from to body → ChunkOf b h.spine sender body
      → AskedOf b h.spine sender.whole (told_of n body) body
  asked_of k n ok from to sender (Vote t li lt) c x = tt
  asked_of k n ok from to sender (VoteReply t r) c x = tt
  asked_of k n ok from to sender (Append t pi pt es mc) c x = tt
  asked_of k n ok from to sender (AppendReply t r i) c x = tt
  asked_of k n ok from to sender (Chunk t i bt off total bytes) c x = record { held_within = answer (needs n t i); same = x.1 }
    where
      answer : (g : Bool) → cond g (with_chunk n.held i bt off total).count 0 ≤ total
      answer true = chunk_few b m.len h.spine sound n.held ok.holds from t i bt off total c
      answer false = omega arith
  asked_of k n ok from to sender (ChunkReply t i off) c x = tt

  -- a message arrives
  pub kept_arrives : (K : Placed → Type 0) → ((i t : ℕ) → K (record { index = i; term = t; entry = NOOP ∷ [] })) → (from to : ℕ) (body : Body) → InFlight b m h.spine w (record { from = from; to = to; body = body }) → (w.all_started ≡ true → ChunkWithin w.placed body) → KnownBody K body → (stop : Option ℕ)
      → Forward b m h.spine K w (arrives b m (record { from = from; to = to; body = body }) stop w)
  kept_arrives K noop from zero body f cw new stop = absurd (let z = f.to_node in omega (arith, z))
  kept_arrives K noop from (suc place) body f cw new stop = answer ((node_at b w (suc place)).up && not (is_cut w.cuts from (suc place))) refl
    where
      n : Node
      n = node_at b w (suc place)

      answer : (g : Bool) → ((node_at b w (suc place)).up && not (is_cut w.cuts from (suc place))) ≡ g
          → Forward b m h.spine K w (cond g (node_event b m (suc place) (node_at b w from).whole (arrived (node_at b w (suc place)) body)
          (Heard (record { from = from; to = suc place; body = body }) (node_at b w (suc place)).applied (told_of (node_at b w (suc place)) body)) stop w) w)
      answer false e = forward_same b m K w h
      answer true e0 =
          let up = (and_parts (node_at b w (suc place)).up (not (is_cut w.cuts from (suc place))) e0).0 in
          let inside = up_inside b w place up in
          let ok = h.nodes place inside in
          let fn = f.from_node in
          kept_by b m fit K noop w h place inside (node_at b w from).whole (arrived (node_at b w (suc place)) body)
          (Heard (record { from = from; to = suc place; body = body }) (node_at b w (suc place)).applied (told_of (node_at b w (suc place)) body))
          (record {
            from_node = λ z. (let r : ⊥ = omega (arith, z, fn) in r);
            from_other = f.other;
            to_this = refl;
            claim = f.claim;
            from_base = ok.from_base;
            to_commit = ok.to_commit;
            of_sender = asked_of (suc place) (node_at b w (suc place)) ok from (suc place) (node_at b w from) body f.claim f.chunk;
          })
          (max (node_at b w (suc place)).base (chunk_index body))
          (λ e x. let y = x.nodes place inside in let fb = ok.from_base in index_within w.placed (node_at b w (suc place)).base (omega (arith, y, fb)) body (cw e))
          (heard_steps (suc place) (node_at b w (suc place)).base (max (node_at b w (suc place)).base (chunk_index body)) (node_at b w (suc place)).applied (core_of b m (suc place) (node_at b w (suc place))) (record { from = from; to = suc place; body = body })
          (told_of (node_at b w (suc place)) body) fn f.other ok.from_base (within_index (node_at b w (suc place)).base body) (record { same = refl; base = omega arith; below = omega arith; commit = ok.to_commit }))
          (arrived_holds (suc place) (node_at b w (suc place)) ok from (suc place) body f.claim) new stop

-- a node on its store, just started or standing still
pub refreshed_kept : (b : Start) (m : Machine) (s : Spine) (k : ℕ) (up : Bool) (n : Node) → NodeKept b m s k n → NodeKept b m s k (refreshed b up n)
refreshed_kept b m s k up n ok = record {
  tied = store_starts b m.len s k (nodes_of b) n.term n.vote (log_of b n) (m.len (take (n.base - b.base) n.whole)) n.whole (tied_stops b m.len s (core_of b m k n) n.whole ok.tied);
  from_base = omega arith;
  to_commit = omega arith;
  holds = inl refl;
}

-- a node that put a snapshot in place of items
pub tidied_kept : (b : Start) (m : Machine) (s : Spine) (k : ℕ) (n : Node) → NodeKept b m s k n → NodeKept b m s k (tidied b n)
tidied_kept b m s k n ok =
    let t = compacts_tied b m.len s n.whole (core_of b m k n) n.applied ok.tied ok.from_base ok.to_commit in
    let lo = ok.tied.based in let kn = ok.tied.known in let sh = ok.tied.short in let fb = ok.from_base in let tc = ok.to_commit in
    let log : compacted (log_of b n) n.applied ≡ log_of b (tidied b n) = (stands_for (whole_log b n.whole) n.base lo (omega arith)).again n.applied fb (omega arith) in
    record {
      tied = subst (λ (l : LogParts). Tied b m.len s (record (core_of b m k (tidied b n)) { log = l }) n.whole) log t;
      from_base = omega arith;
      to_commit = ok.to_commit;
      holds = ok.holds;
    }
