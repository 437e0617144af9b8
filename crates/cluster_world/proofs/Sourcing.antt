-- Where the entries of a world come from: an event of a node brings no entry that is not known.
use Rattle.std.proofs.Common.{◌≡◌, ℕ, suc, ◌+◌, ◌-◌, ◌<◌, ◌≤◌, max, Bool, true, false, cond, ◌&&◌, nat_lt, nat_le, All, List, [], ◌∷◌, ◌++◌, length, take, drop, get_or, refl, sym, ap, ◌∙◌, subst, arith, ◌⊎◌, ⊎_elim, length-drop, length-append, drop-drop, get_or-append-add}
use Rattle.std.proofs.lemmas.Bool.{cases_lt, leb-true, and_parts}
use Rattle.std.proofs.lemmas.List.{get_or_append_left}
use Rattle.raft_types.specs.declared.limits.TheConstants.{NOOP}
use Rattle.raft_types.specs.declared.entry.LogEntry.{LogEntry}
use Rattle.raft_types.specs.declared.event.CoreEvent.{CoreEvent}
use Rattle.raft_types.specs.declared.message.Body.{Body}
use Rattle.raft_types.specs.declared.message.Body.TheVariants.{Vote, VoteReply, Append, AppendReply, Chunk, ChunkReply}
use Rattle.raft_types.specs.declared.message.Message.{Message}
use Rattle.raft_types.specs.Log.{LogParts, nothing, last_index}
use Rattle.raft_types.specs.Core.{CoreParts}
use Rattle.raft_types.specs.Step.{on}
use Rattle.raft_spine.specs.Start.{Start}
use Rattle.raft_claims.specs.Tied.{Turned}
use Rattle.raft_claims.specs.Events.{whole_after, kept, Stopped}
use Rattle.cluster_world.specs.World.{Machine, Held, Node, Placed, World, log_of, core_of, node_at}
use Rattle.cluster_world.specs.Node.{ended, halted}
use Rattle.cluster_world.specs.Events.{with_node, sent}
use Rattle.cluster_world.specs.Facts.{entry_of}
use Rattle.cluster_world.proofs.Origins.{AllFrom, from_at, from_take, from_drop, from_get, KnownLog, KnownBody, KnownEvent, known_log, known_sent, known_stop}
use Rattle.cluster_world.proofs.Keeping.{NodeKept, Kept, Sourced, sourced_put}
use Rattle.cluster_world.proofs.NodeEvents.{core_is, sent_all, after_node}

module _ (K : Placed → Type 0) (b : Start) where
  -- entries above a base are entries above a lower one
  pub known_above : (whole : List LogEntry) (base base' : ℕ) → b.base ≤ base → base ≤ base' → AllFrom K (suc base) (drop (base - b.base) whole) → AllFrom K (suc base') (drop (base' - b.base) whole)
  known_above whole base base' lo le f =
      subst (λ (l : List LogEntry). AllFrom K (suc base') l)
      (drop-drop (base' - base) (base - b.base) whole ∙ ap (λ (i : ℕ). drop i whole) (let z : (base - b.base) + (base' - base) ≡ base' - b.base = omega (arith, lo, le) in z))
      (from_at K (suc base + (base' - base)) (suc base') (drop (base' - base) (drop (base - b.base) whole)) (omega (arith, le)) (from_drop K (base' - base) (suc base) (drop (base - b.base) whole) f))

  -- the history with what a node applied directly after it
  history_known : (w : World) (n' : Node) → Sourced K b w → KnownLog K (log_of b n') → b.base ≤ n'.base → n'.base ≤ w.placed → w.placed ≡ b.base + length w.history
      → (place : ℕ) → w.opened_at ≤ b.base + place → place < length (w.history ++ take (n'.applied - w.placed) (drop (w.placed - b.base) n'.whole))
      → K (entry_of b (w.history ++ take (n'.applied - w.placed) (drop (w.placed - b.base) n'.whole)) place)
  history_known w n' x kl lo le long place at lt = ⊎_elim
      (λ (y : place < length w.history).
      subst (λ (e : LogEntry). K (record { index = suc (b.base + place); term = e.term; entry = e.entry })) (sym (get_or_append_left w.history more nothing place y)) (x.history place at y))
      (λ (y : length w.history ≤ place).
      let la = length-append w.history more in
      let j = place - length w.history in
      let q : get_or (w.history ++ more) place nothing ≡ get_or more j nothing =
      ap (λ (i : ℕ). get_or (w.history ++ more) i nothing) (let z : place ≡ length w.history + j = omega (arith, y) in z) ∙ get_or-append-add w.history more j nothing in
      subst (λ (e : LogEntry). K (record { index = suc (b.base + place); term = e.term; entry = e.entry })) (sym q)
      (subst (λ (i : ℕ). K (record { index = i; term = (get_or more j nothing).term; entry = (get_or more j nothing).entry })) (let z : suc w.placed + j ≡ suc (b.base + place) = omega (arith, long, y) in z)
      (from_get K (suc w.placed) more j
      (from_take K (n'.applied - w.placed) (suc w.placed) (drop (w.placed - b.base) n'.whole) (known_above n'.whole n'.base w.placed lo le kl)) (omega (arith, la, lt, y)))))
      (cases_lt place (length w.history))
    where
      more : List LogEntry
      more = take (n'.applied - w.placed) (drop (w.placed - b.base) n'.whole)

  sourced_after : (w : World) (place : ℕ) → place < length w.nodes → (n n' : Node) (ms : List Message) → Sourced K b w → KnownLog K (log_of b n') → All (λ x. KnownBody K x.body) ms
      → b.base ≤ n'.base → (w.placed ≡ b.base + length w.history) ⊎ (w.placed < b.base) → Sourced K b (after_node b (suc place) n n' ms w)
  sourced_after w place inside n n' ms x kl said lo long = answer (nat_le (max n.applied n'.base) w.placed && nat_lt w.placed n'.applied) refl
    where
      y : Sourced K b (with_node (suc place) n' w)
      y = sourced_put K b w place n' inside x kl

      answer : (g : Bool) → (nat_le (max n.applied n'.base) w.placed && nat_lt w.placed n'.applied) ≡ g
          → Sourced K b (record (cond g (record (with_node (suc place) n' w) { placed = n'.applied; history = w.history ++ take (n'.applied - w.placed) (drop (w.placed - b.base) n'.whole) }) (with_node (suc place) n' w)) {
            flight = sent (cond g (record (with_node (suc place) n' w) { placed = n'.applied; history = w.history ++ take (n'.applied - w.placed) (drop (w.placed - b.base) n'.whole) }) (with_node (suc place) n' w)).flight ms;
          })
      answer false e = record { nodes = y.nodes; flight = sent_all (λ (m : Message). KnownBody K m.body) w.flight ms x.flight said; history = x.history }
      answer true e =
          let g = leb-true (max n.applied n'.base) w.placed (and_parts (nat_le (max n.applied n'.base) w.placed) (nat_lt w.placed n'.applied) e).0 in
          record {
            nodes = y.nodes;
            flight = sent_all (λ (m : Message). KnownBody K m.body) w.flight ms x.flight said;
            history = history_known w n' x kl lo (omega (arith, g)) (⊎_elim (λ (q : w.placed ≡ b.base + length w.history). q) (λ (q : w.placed < b.base). absurd (omega (arith, q, lo, g))) long);
          }

module _ (K : Placed → Type 0) (noop : (i t : ℕ) → K (record { index = i; term = t; entry = NOOP ∷ [] })) (b : Start) (m : Machine) (w : World) (h : Kept b m w) (place : ℕ) (inside : place < length w.nodes) (n : Node)
    (is : node_at b w (suc place) ≡ n) (sender : List LogEntry) (event : CoreEvent) (new : KnownEvent K (core_of b m (suc place) n) event) (x : Sourced K b w) where
  ok_node : NodeKept b m h.spine (suc place) n
  ok_node = subst (λ (y : Node). NodeKept b m h.spine (suc place) y) is (h.nodes place inside)

  log_known : KnownLog K (log_of b n)
  log_known = subst (λ (y : Node). KnownLog K (log_of b y)) is (x.nodes place inside)

  commit_in : n.commit ≤ last_index (log_of b n)
  commit_in = let t = ok_node.tied in let lo = t.based in let kn = t.known in let sh = t.short in let l = length-drop (n.base - b.base) n.whole in omega (arith, lo, kn, sh, l)

  pub sourced_stopped : (j : ℕ)
      → Stopped b m.len h.spine (core_of b m (suc place) n) n.whole (on (core_of b m (suc place) n) event) (kept j (on (core_of b m (suc place) n) event).items) (whole_after b sender n.whole (kept j (on (core_of b m (suc place) n) event).items))
      → Sourced K b (with_node (suc place) (halted b sender n (kept j (on (core_of b m (suc place) n) event).items)) w)
  sourced_stopped j q =
      sourced_put K b w place (halted b sender n (kept j (on (core_of b m (suc place) n) event).items)) inside x
      (subst (λ (l : LogParts). KnownLog K l) q.store.stands_for (known_stop K noop (core_of b m (suc place) n) event j log_known commit_in ok_node.tied.known new))

  pub sourced_ended : (held : Held) → Turned b m.len h.spine (core_of b m (suc place) n) n.whole (on (core_of b m (suc place) n) event) (whole_after b sender n.whole (on (core_of b m (suc place) n) event).items)
      → b.base ≤ (on (core_of b m (suc place) n) event).core.log.base
      → Sourced K b (after_node b (suc place) n (ended b m sender n held (on (core_of b m (suc place) n) event)) (on (core_of b m (suc place) n) event).messages w)
  sourced_ended held q lo =
      let o = on (core_of b m (suc place) n) event in
      let c = core_is b m h.spine (suc place) n ok_node sender event held q in
      sourced_after K b w place inside n (ended b m sender n held o) o.messages x
      (subst (λ (l : LogParts). KnownLog K l) (sym (ap (λ (d : CoreParts). d.log) c)) (known_log K noop (core_of b m (suc place) n) event log_known commit_in ok_node.tied.known new))
      (known_sent K noop (core_of b m (suc place) n) event log_known commit_in ok_node.tied.known new) lo h.history.long

-- what is known under one notion is so under a wider one
module _ (K K' : Placed → Type 0) (wide : (x : Placed) → K x → K' x) where
  from_weaker : (i : ℕ) (xs : List LogEntry) → AllFrom K i xs → AllFrom K' i xs
  from_weaker i [] f = tt
  from_weaker i (x ∷ xs) f = (wide (record { index = i; term = x.term; entry = x.entry }) f.0, from_weaker (suc i) xs f.1)

  body_weaker : (body : Body) → KnownBody K body → KnownBody K' body
  body_weaker (Vote t li lt) f = tt
  body_weaker (VoteReply t r) f = tt
  body_weaker (Append t pi pt es mc) f = from_weaker (suc pi) es f
  body_weaker (AppendReply t r i) f = tt
  body_weaker (Chunk t i bt off total bytes) f = tt
  body_weaker (ChunkReply t i off) f = tt

  pub sourced_weaker : (b : Start) (w : World) → Sourced K b w → Sourced K' b w
  sourced_weaker b w x = record {
    nodes = λ place inside. from_weaker (suc (log_of b (node_at b w (suc place))).base) (log_of b (node_at b w (suc place))).entries (x.nodes place inside);
    flight = λ i d lt. body_weaker (get_or w.flight i d).body (x.flight i d lt);
    history = λ place at lt. wide (entry_of b w.history place) (x.history place at lt);
  }
