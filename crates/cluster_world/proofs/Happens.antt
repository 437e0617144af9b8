-- Whatever happens, what holds of a world is kept.
use Rattle.std.proofs.Common.{◌≡◌, ℕ, zero, suc, ◌-◌, ◌<◌, ◌≤◌, Bool, true, false, cond, ◌&&◌, nat_lt, ◌==◌, All, List, [], ◌∷◌, length, take, drop, set, get_or, ◌++◌, ◌-◌, ◌≢◌, nat_le, length-drop, Option, Some, None, refl, sym, ap, ◌∙◌, subst, arith, inl, inr, ⊎_elim}
use Rattle.std.proofs.lemmas.Bool.{cases_lt, and_parts}
use Rattle.std.proofs.lemmas.List.Elements.{All-head, All-cons, All-weaker, All-append, All-take, All-drop}
use Rattle.raft_types.specs.declared.limits.TheConstants.{MAX_INDEX}
use Rattle.raft_types.specs.declared.event.CoreEvent.TheVariants.{Timeout as TimeoutEvent, Beat as BeatEvent, Command as CommandEvent, Fire as FireEvent}
use Rattle.raft_types.specs.declared.message.Message.{Message}
use Rattle.raft_types.specs.Log.{LogParts}
use Rattle.raft_types.specs.Core.{is_leader}
use Rattle.raft_spine.specs.Start.{Start}
use Rattle.raft_spine.specs.Spine.{Spine}
use Rattle.raft_claims.proofs.TurnReplies.{leader_role}
use Rattle.raft_claims.specs.Events.{Asked, kept}
use Rattle.raft_types.specs.declared.entry.LogEntry.{LogEntry}
use Rattle.raft_types.specs.declared.event.CoreEvent.{CoreEvent}
use Rattle.raft_types.specs.declared.state.Role.TheVariants.{Follower, Leader}
use Rattle.raft_types.specs.Log.{last_index}
use Rattle.raft_types.specs.Step.{on}
use Rattle.raft_spine.proofs.Grow.{grows_both}
use Rattle.cluster_world.specs.World.{Machine, Node, Placed, World, nobody, log_of, core_of, refreshed, last_of, node_at}
use Rattle.cluster_world.specs.Node.{applied_before, ended, halted, is_due, tidied, tidied_if_due}
use Rattle.cluster_world.specs.Events.{with_node, sent, own_event, may_append, next_entry, tidies, tidies_if_due, starts, fails_to_start, without, arrives, delivers}
use Rattle.cluster_world.specs.Facts.{IsFit, IsAmong}
use Rattle.cluster_world.proofs.Steps.{ChunkWithin, IsPast, Steps, own_steps, fire_steps, timeout_steps, beat_steps}
use Rattle.cluster_world.proofs.Roles.{no_follower}
use Rattle.cluster_world.proofs.Origins.{AllFrom, KnownBody, KnownEvent}
use Rattle.cluster_world.proofs.Sourcing.{known_above, sourced_weaker}
use Rattle.cluster_world.proofs.Keeping.{NodeKept, InFlight, Kept, Onward, Within, Sourced, Forward, within_put, sourced_put, onward_same, onward_node, up_inside, with_node_same}
use Rattle.cluster_world.proofs.Holding.{Took, IsKnown, noop_known, among_first, fires_more, takes_more, known_same, Holds, took_on, differs_on, holds_on, one_differs, one_longer}
use Rattle.cluster_world.proofs.Worlds.{kept_own, kept_arrives, refreshed_kept, tidied_kept}

-- a node with the same whole log and a snapshot at least as far
pub record IsAlike (b : Start) (m : Machine) (s : Spine) (k : ℕ) (n n' : Node) : Type 0 where
  pub kept : NodeKept b m s k n'
  pub base : n.base ≤ n'.base
  pub whole : n'.whole ≡ n.whole
  pub leads : n'.role ≡ Leader → (n.role ≡ Leader) × (n'.term ≡ n.term)
  pub applied : n'.applied ≤ n.applied

alike_then : (b : Start) (m : Machine) (s : Spine) (k : ℕ) (n n1 n2 : Node) → IsAlike b m s k n n1 → IsAlike b m s k n1 n2 → IsAlike b m s k n n2
alike_then b m s k n n1 n2 x y = let x1 = x.base in let y1 = y.base in record { kept = y.kept; base = omega arith; whole = y.whole ∙ x.whole; leads = λ e. let q = y.leads e in let r = x.leads q.0 in (r.0, q.1 ∙ r.1); applied = let xa = x.applied in let ya = y.applied in omega (arith, xa, ya) }

refreshed_alike : (b : Start) (m : Machine) (s : Spine) (k : ℕ) (up : Bool) (n : Node) → NodeKept b m s k n → IsAlike b m s k n (refreshed b up n)
refreshed_alike b m s k up n ok = record { kept = refreshed_kept b m s k up n ok; base = omega arith; whole = refl; leads = λ e. absurd (let q : Follower ≡ Leader = e in cc); applied = ok.from_base }

tidied_alike : (b : Start) (m : Machine) (s : Spine) (k : ℕ) (n : Node) → NodeKept b m s k n → IsAlike b m s k n (tidied b n)
tidied_alike b m s k n ok = record { kept = tidied_kept b m s k n ok; base = ok.from_base; whole = refl; leads = λ e. (e, refl); applied = omega arith }

due_alike : (b : Start) (m : Machine) (s : Spine) (k : ℕ) (n : Node) → NodeKept b m s k n → IsAlike b m s k n (tidied_if_due b n)
due_alike b m s k n ok = answer (is_due b n)
  where
    answer : (g : Bool) → IsAlike b m s k n (cond g (tidied b n) n)
    answer true = tidied_alike b m s k n ok
    answer false = record { kept = ok; base = omega arith; whole = refl; leads = λ e. (e, refl); applied = omega arith }

pub set_past : {A : Type 0} (xs : List A) (i : ℕ) (v : A) → length xs ≤ i → set xs i v ≡ xs
set_past [] i v h = refl
set_past (x ∷ xs) zero v h = absurd (omega arith)
set_past (x ∷ xs) (suc i) v h = ap (λ (ys : List _). x ∷ ys) (set_past xs i v (omega arith))

-- the same nodes and history, with other things beside them
abbrev refit_kept : (b : Start) (m : Machine) (w : World) (h : Kept b m w) (flight : List Message) → All (InFlight b m h.spine w) flight → (cuts : List (ℕ × ℕ)) (hold : Bool) (takes : List Placed)
    (opened : List LogParts) (all : Bool) (fires : List Placed) → Kept b m (record w { flight = flight; cuts = cuts; hold = hold; takes = takes; opened = opened; all_started = all; fires = fires })
refit_kept b m w h flight f cuts hold takes opened all fires = record {
  spine = h.spine;
  reached = h.reached;
  nodes = h.nodes;
  flight = λ i d lt. let y = f i d lt in record { from_node = y.from_node; to_node = y.to_node; other = y.other; claim = y.claim; chunk = y.chunk };
  history = record { bound = h.history.bound; decided = h.history.decided; long = h.history.long };
}

module _ (b : Start) (m : Machine) (s0 : Spine) (w : World) (h : Holds b m s0 w) where
  -- a node that is changed and has moved nothing
  onward_put : (k : ℕ) (n' : Node) → ((place : ℕ) → k ≡ suc place → place < length w.nodes → IsAlike b m h.kept.spine k (node_at b w k) n') → Onward b m h.kept.spine w (with_node k n' w)
  onward_put zero n' f = onward_same b m w h.kept
  onward_put (suc place) n' f = ⊎_elim
      (λ (inside : place < length w.nodes).
      let a = f place refl inside in
      onward_node b m w h.kept place inside n' (record {
        moves = [];
        mine = λ k d l. absurd (omega (arith, l));
        can = tt;
        kept = a.kept;
        base = a.base;
        front = ap (take ((node_at b w (suc place)).base - b.base)) a.whole;
        how = λ e. let y = a.leads e in inl (no_follower (node_at b w (suc place)).role y.0, y.1);
      }))
      (λ (past : length w.nodes ≤ place). subst (λ (ns : List Node). Onward b m h.kept.spine w (record w { nodes = ns })) (sym (set_past w.nodes place n' past)) (onward_same b m w h.kept))
      (cases_lt place (length w.nodes))

  within_change : (k : ℕ) (n' : Node) → ((place : ℕ) → k ≡ suc place → place < length w.nodes → IsAlike b m h.kept.spine k (node_at b w k) n') → Within b w → Within b (with_node k n' w)
  within_change zero n' f x = x
  within_change (suc place) n' f x = ⊎_elim
      (λ (inside : place < length w.nodes). let a = (f place refl inside).applied in let y = x.nodes place inside in within_put b w place n' inside x (omega (arith, a, y)))
      (λ (past : length w.nodes ≤ place). subst (λ (ns : List Node). Within b (record w { nodes = ns })) (sym (set_past w.nodes place n' past)) x)
      (cases_lt place (length w.nodes))

  sourced_change : {K : Placed → Type 0} (k : ℕ) (n' : Node) → ((place : ℕ) → k ≡ suc place → place < length w.nodes → IsAlike b m h.kept.spine k (node_at b w k) n') → Sourced K b w → Sourced K b (with_node k n' w)
  sourced_change zero n' f x = x
  sourced_change {K} (suc place) n' f x = ⊎_elim
      (λ (inside : place < length w.nodes).
      let n = node_at b w (suc place) in
      let a = f place refl inside in
      sourced_put K b w place n' inside x
      (subst (λ (l : List LogEntry). AllFrom K (suc n'.base) (drop (n'.base - b.base) l)) (sym a.whole) (known_above K b n.whole n.base n'.base (h.kept.nodes place inside).tied.based a.base (x.nodes place inside))))
      (λ (past : length w.nodes ≤ place). subst (λ (ns : List Node). Sourced K b (record w { nodes = ns })) (sym (set_past w.nodes place n' past)) x)
      (cases_lt place (length w.nodes))

  beside_put : (k : ℕ) (n' : Node) → ((with_node k n' w).opened ≡ w.opened) × ((with_node k n' w).fires ≡ w.fires)
  beside_put zero n' = (refl, refl)
  beside_put (suc place) n' = (refl, refl)

  started_put : (k : ℕ) (n' : Node) → (with_node k n' w).all_started ≡ w.all_started
  started_put zero n' = refl
  started_put (suc place) n' = refl

  pub kept_put : (k : ℕ) (n' : Node) → ((place : ℕ) → k ≡ suc place → place < length w.nodes → IsAlike b m h.kept.spine k (node_at b w k) n') → Holds b m s0 (with_node k n' w)
  kept_put k n' f = holds_on b m s0 w (with_node k n' w) h (record {
    onward = onward_put k n' f;
    opened = (beside_put k n').0;
    fires = (beside_put k n').1;
    started = started_put k n';
    within = λ e x. within_change k n' f x;
    sourced = sourced_change k n' f;
  })

  ok_at : (k place : ℕ) → k ≡ suc place → place < length w.nodes → NodeKept b m h.kept.spine k (node_at b w k)
  ok_at k place e inside = subst (λ (j : ℕ). NodeKept b m h.kept.spine j (node_at b w j)) (sym e) (h.kept.nodes place inside)

  pub kept_starts : (k : ℕ) → Holds b m s0 (starts b k w)
  kept_starts k = kept_put k (tidied_if_due b (refreshed b true (node_at b w k))) (λ place e inside.
      let ok = ok_at k place e inside in
      alike_then b m h.kept.spine k (node_at b w k) (refreshed b true (node_at b w k)) (tidied_if_due b (refreshed b true (node_at b w k))) (refreshed_alike b m h.kept.spine k true (node_at b w k) ok)
      (due_alike b m h.kept.spine k (refreshed b true (node_at b w k)) (refreshed_kept b m h.kept.spine k true (node_at b w k) ok)))

  pub kept_fails : (k : ℕ) (replaced : Bool) → Holds b m s0 (fails_to_start b k replaced w)
  kept_fails k false = kept_put k (refreshed b false (node_at b w k)) (λ place e inside. refreshed_alike b m h.kept.spine k false (node_at b w k) (ok_at k place e inside))
  kept_fails k true = kept_put k (refreshed b false (tidied_if_due b (refreshed b false (node_at b w k)))) (λ place e inside.
      let n = node_at b w k in
      let x = refreshed_alike b m h.kept.spine k false n (ok_at k place e inside) in
      let y = due_alike b m h.kept.spine k (refreshed b false n) x.kept in
      alike_then b m h.kept.spine k n (tidied_if_due b (refreshed b false n)) (refreshed b false (tidied_if_due b (refreshed b false n)))
      (alike_then b m h.kept.spine k n (refreshed b false n) (tidied_if_due b (refreshed b false n)) x y) (refreshed_alike b m h.kept.spine k false (tidied_if_due b (refreshed b false n)) y.kept))

  pub kept_stops : (k : ℕ) → Holds b m s0 (with_node k (refreshed b false (node_at b w k)) w)
  kept_stops k = kept_put k (refreshed b false (node_at b w k)) (λ place e inside. refreshed_alike b m h.kept.spine k false (node_at b w k) (ok_at k place e inside))

  pub kept_tidies : (k : ℕ) (stop : Option Bool) → Holds b m s0 (tidies b k stop w)
  kept_tidies k None = kept_put k (tidied b (node_at b w k)) (λ place e inside. tidied_alike b m h.kept.spine k (node_at b w k) (ok_at k place e inside))
  kept_tidies k (Some false) = kept_stops k
  kept_tidies k (Some true) = kept_put k (refreshed b false (tidied b (node_at b w k))) (λ place e inside.
      let x = tidied_alike b m h.kept.spine k (node_at b w k) (ok_at k place e inside) in
      alike_then b m h.kept.spine k (node_at b w k) (tidied b (node_at b w k)) (refreshed b false (tidied b (node_at b w k))) x (refreshed_alike b m h.kept.spine k false (tidied b (node_at b w k)) x.kept))

  pub kept_if_due : (k : ℕ) (stop : Option Bool) → Holds b m s0 (tidies_if_due b k stop w)
  kept_if_due k stop = answer ((node_at b w k).up && is_due b (node_at b w k))
    where
      answer : (g : Bool) → Holds b m s0 (cond g (tidies b k stop w) w)
      answer true = kept_tidies k stop
      answer false = h

  -- the same nodes and history, with some of what is in flight, and other cuts
  pub refit : (flight : List Message) → ((P : Message → Type 0) → All P w.flight → All P flight) → (cuts : List (ℕ × ℕ)) (hold : Bool) → Holds b m s0 (record w { flight = flight; cuts = cuts; hold = hold })
  refit flight g cuts hold = record {
    kept = refit_kept b m w h.kept flight (g (InFlight b m h.kept.spine w) h.kept.flight) cuts hold w.takes w.opened w.all_started w.fires;
    since = h.since;
    count = h.count;
    took = All-weaker (Took b h.kept.spine w) (Took b h.kept.spine (record w { flight = flight; cuts = cuts; hold = hold })) (λ x t. record { led = t.led; within = t.within }) w.takes h.took;
    differ = h.differ;
    longer = λ e. let x = h.longer e in record { nodes = x.nodes; flight = g (λ x. ChunkWithin w.placed x.body) x.flight };
    sourced = let x = h.sourced in record { nodes = x.nodes; flight = g (λ x. KnownBody (IsKnown w.opened w.fires w.takes) x.body) x.flight; history = x.history };
  }

  without_all : (P : Message → Type 0) (xs : List Message) (place : ℕ) → All P xs → All P (without xs place)
  without_all P xs place f = All-append P (take place xs) (drop (suc place) xs) (All-take P place xs f) (All-drop P (suc place) xs f)

  pub kept_drops : (place : ℕ) → Holds b m s0 (record w { flight = without w.flight place })
  kept_drops place = refit (without w.flight place) (λ P f. without_all P w.flight place f) w.cuts w.hold

-- a leader is one of the nodes
lead_inside : (b : Start) (w : World) (place : ℕ) → (node_at b w (suc place)).role ≡ Leader → place < length w.nodes
lead_inside b w place e = inside w.nodes place e
  where
    inside : (xs : List Node) (i : ℕ) → (get_or xs i (nobody b)).role ≡ Leader → i < length xs
    inside [] i e = absurd (let q : Follower ≡ Leader = e in cc)
    inside (x ∷ xs) zero e = omega arith
    inside (x ∷ xs) (suc i) e = let r = inside xs i e in omega (arith, r)

-- a history that grows, and what is sent, change no node
history_at : (b : Start) (v : World) (k : ℕ) (g : Bool) (p : ℕ) (l : List LogEntry) (ms : List Message)
    → node_at b (record (cond g (record v { placed = p; history = l }) v) { flight = sent (cond g (record v { placed = p; history = l }) v).flight ms }) k ≡ node_at b v k
history_at b v k true p l ms = refl
history_at b v k false p l ms = refl

module _ (b : Start) (m : Machine) (s0 : Spine) (fit : IsFit b m) where
  pub kept_delivers : (w : World) (h : Holds b m s0 w) (place : ℕ) (again : Bool) (stop : Option ℕ) (xs : List Message) → All (InFlight b m h.kept.spine w) xs
      → (w.all_started ≡ true → All (λ x. ChunkWithin w.placed x.body) xs) → All (λ x. KnownBody (IsKnown w.opened w.fires w.takes) x.body) xs → Holds b m s0 (delivers b m place again stop xs w)
  unfolding kept_drops refit
  kept_delivers w h place again stop [] f g c = h
  kept_delivers w h place true stop (x ∷ xs) f g c = holds_on b m s0 w (arrives b m x stop w) h (kept_arrives b m fit w h.kept (IsKnown w.opened w.fires w.takes) (noop_known w.opened w.fires w.takes) x.from x.to x.body (All-head (InFlight b m h.kept.spine w) x xs f) (λ q. All-head (λ (y : Message). ChunkWithin w.placed y.body) x xs (g q)) (All-head (λ (y : Message). KnownBody (IsKnown w.opened w.fires w.takes) y.body) x xs c) stop)
  kept_delivers w h place false stop (x ∷ xs) f g c =
      let y = All-head (InFlight b m h.kept.spine w) x xs f in
      let v : World = record w { flight = without w.flight place } in
      let k : Holds b m s0 v = kept_drops b m s0 w h place in
      holds_on b m s0 v (arrives b m x stop v) k (kept_arrives b m fit v k.kept (IsKnown w.opened w.fires w.takes) (noop_known w.opened w.fires w.takes) x.from x.to x.body (moved k refl y) (λ q. All-head (λ (y : Message). ChunkWithin w.placed y.body) x xs (g q)) (All-head (λ (y : Message). KnownBody (IsKnown w.opened w.fires w.takes) y.body) x xs c) stop)
    where
      moved : (k : Holds b m s0 (record w { flight = without w.flight place })) → k.kept.spine ≡ h.kept.spine → InFlight b m h.kept.spine w x → InFlight b m k.kept.spine (record w { flight = without w.flight place }) x
      moved k e y = subst (λ (s : Spine). InFlight b m s (record w { flight = without w.flight place }) x) (sym e)
          (record { from_node = y.from_node; to_node = y.to_node; other = y.other; claim = y.claim; chunk = y.chunk })

  -- an event of a node's own
  pub holds_own : (w : World) (h : Holds b m s0 w) (place : ℕ) → place < length w.nodes → (event : CoreEvent)
      → Asked b m.len h.kept.spine (core_of b m (suc place) (node_at b w (suc place))) [] event
      → Steps (suc place) (node_at b w (suc place)).base (node_at b w (suc place)).base (node_at b w (suc place)).applied (on (core_of b m (suc place) (node_at b w (suc place))) event)
      → KnownEvent (IsKnown w.opened w.fires w.takes) (core_of b m (suc place) (node_at b w (suc place))) event → (stop : Option ℕ) → Holds b m s0 (own_event b m (suc place) event stop w)
  holds_own w h place inside event a st new stop =
      holds_on b m s0 w (own_event b m (suc place) event stop w) h (kept_own b m fit (IsKnown w.opened w.fires w.takes) (noop_known w.opened w.fires w.takes) w h.kept place inside event a st new stop)

  past : (w : World) (h : Holds b m s0 w) (place : ℕ) → (inside : place < length w.nodes) → IsPast (suc place) (node_at b w (suc place)).base (node_at b w (suc place)).base (node_at b w (suc place)).applied (core_of b m (suc place) (node_at b w (suc place)))
  past w h place inside = record { same = refl; base = omega arith; below = omega arith; commit = (h.kept.nodes place inside).to_commit }

  pub kept_timeout : (w : World) (h : Holds b m s0 w) (k : ℕ) (stop : Option ℕ) → Holds b m s0 (cond (node_at b w k).up (own_event b m k TimeoutEvent stop w) w)
  kept_timeout w h zero stop = h
  kept_timeout w h (suc place) stop = answer (node_at b w (suc place)).up refl
    where
      answer : (g : Bool) → (node_at b w (suc place)).up ≡ g → Holds b m s0 (cond g (own_event b m (suc place) TimeoutEvent stop w) w)
      answer false e = h
      answer true e =
          let inside = up_inside b w place e in
          holds_own w h place inside TimeoutEvent tt
          (timeout_steps (suc place) (node_at b w (suc place)).base (node_at b w (suc place)).base (node_at b w (suc place)).applied (core_of b m (suc place) (node_at b w (suc place))) (past w h place inside)) tt stop

  pub kept_beat : (w : World) (h : Holds b m s0 w) (k : ℕ) (stop : Option ℕ) → Holds b m s0 (cond ((node_at b w k).up && is_leader (node_at b w k).role) (own_event b m k BeatEvent stop w) w)
  kept_beat w h zero stop = h
  kept_beat w h (suc place) stop = answer ((node_at b w (suc place)).up && is_leader (node_at b w (suc place)).role) refl
    where
      answer : (g : Bool) → ((node_at b w (suc place)).up && is_leader (node_at b w (suc place)).role) ≡ g → Holds b m s0 (cond g (own_event b m (suc place) BeatEvent stop w) w)
      answer false e = h
      answer true e =
          let y = and_parts (node_at b w (suc place)).up (is_leader (node_at b w (suc place)).role) e in
          let inside = up_inside b w place y.0 in
          holds_own w h place inside BeatEvent (leader_role (node_at b w (suc place)).role y.1)
          (beat_steps (suc place) (node_at b w (suc place)).base (node_at b w (suc place)).base (node_at b w (suc place)).applied (core_of b m (suc place) (node_at b w (suc place))) (past w h place inside)) tt stop

  -- an entry of a leader that has room is one of its term past all that were taken in it
  taken : (w : World) (h : Holds b m s0 w) (place : ℕ) → place < length w.nodes → (node_at b w (suc place)).role ≡ Leader → (e : List ℕ) (v : World) → Forward b m h.kept.spine (IsKnown w.opened w.fires (next_entry b (node_at b w (suc place)) e ∷ w.takes)) w v
      → ((node_at b v (suc place)).role ≡ Leader → suc (last_of b (node_at b w (suc place))) ≤ last_of b (node_at b v (suc place)))
      → Holds b m s0 (record v { takes = next_entry b (node_at b w (suc place)) e ∷ v.takes })
  taken w h place inside lead e v f long =
      let o = f.onward in
      let x = next_entry b (node_at b w (suc place)) e in
      record {
        kept = refit_kept b m v o.kept v.flight o.kept.flight v.cuts v.hold (x ∷ v.takes) v.opened v.all_started v.fires;
        since = grows_both s0 h.kept.spine o.kept.spine h.since o.grows;
        count = o.count ∙ h.count;
        took = All-cons (Took b o.kept.spine (record v { takes = x ∷ v.takes })) x v.takes
            (record { led = λ z. before (sym now ∙ z); within = λ k l te. let q = here k l te in subst (λ (j : ℕ). x.index ≤ last_of b (node_at b v j)) (sym q) (long (subst (λ (j : ℕ). (node_at b v j).role ≡ Leader) q l)) })
            (subst (λ (xs : List Placed). All (Took b o.kept.spine (record v { takes = x ∷ v.takes })) xs) (sym o.takes)
            (All-weaker (Took b h.kept.spine w) (Took b o.kept.spine (record v { takes = x ∷ v.takes }))
            (λ y t. let u = took_on b m h.kept.spine w v o y t in record { led = u.led; within = u.within }) w.takes h.took));
        longer = λ e. let y = f.within (sym f.started ∙ e) (h.longer (sym f.started ∙ e)) in record { nodes = y.nodes; flight = y.flight };
        sourced = let y = known_same b v w.opened v.opened w.fires v.fires (x ∷ w.takes) (x ∷ v.takes) f.opened f.fires (ap (λ (xs : List Placed). x ∷ xs) o.takes)
            (f.sourced (sourced_weaker (IsKnown w.opened w.fires w.takes) (IsKnown w.opened w.fires (x ∷ w.takes)) (takes_more w.opened x w.fires w.takes) b w h.sourced)) in
            record { nodes = y.nodes; flight = y.flight; history = y.history };
        differ = one_differs v x (differs_on b m s0 w v h o)
            (subst (λ (xs : List Placed). All (λ (y : Placed). y.term ≡ x.term → y.index < x.index) xs) (sym o.takes)
            (All-weaker (Took b h.kept.spine w) (λ (y : Placed). y.term ≡ x.term → y.index < x.index)
            (λ y t q. let l = t.within (suc place) lead (sym q) in (let r : y.index < suc (last_of b (node_at b w (suc place))) = omega (arith, l) in r)) w.takes h.took));
      }
    where
      leads : h.kept.spine.leader (node_at b w (suc place)).term ≡ suc place
      leads = ((h.kept.nodes place inside).tied.leading lead).leads

      before : h.kept.spine.leader (node_at b w (suc place)).term ≢ 0
      before z = let q = sym leads ∙ z in (let r : ⊥ = omega (arith, q) in r)

      now : f.onward.kept.spine.leader (node_at b w (suc place)).term ≡ h.kept.spine.leader (node_at b w (suc place)).term
      now = f.onward.grows.leader (node_at b w (suc place)).term before

      here : (k : ℕ) → (node_at b v k).role ≡ Leader → (node_at b v k).term ≡ (node_at b w (suc place)).term → k ≡ suc place
      here zero l te = absurd (let q : Follower ≡ Leader = l in cc)
      here (suc q) l te =
          let c = (f.onward.kept.nodes q (lead_inside b v q l)).tied.leading l in
          sym c.leads ∙ (ap f.onward.kept.spine.leader te ∙ (now ∙ leads))

  -- the node after its entry was appended
  after_entry : (w : World) (h : Holds b m s0 w) (place : ℕ) → place < length w.nodes → (e : List ℕ) (stop : Option ℕ)
      → (node_at b (own_event b m (suc place) (CommandEvent e) stop w) (suc place)).role ≡ Leader
      → suc (last_of b (node_at b w (suc place))) ≤ last_of b (node_at b (own_event b m (suc place) (CommandEvent e) stop w) (suc place))
  after_entry w h place inside e (Some j) l =
      let n = node_at b w (suc place) in
      let z = with_node_same b w place (halted b [] n (kept j (on (core_of b m (suc place) n) (CommandEvent e)).items)) inside in
      absurd (let q : Follower ≡ Leader = ap (λ (x : Node). x.role) (sym z) ∙ l in cc)
  after_entry w h place inside e None l =
      let n = node_at b w (suc place) in
      let o = on (core_of b m (suc place) n) (CommandEvent e) in
      let n' = ended b m [] n n.held o in
      let v : World = with_node (suc place) n' w in
      let z : node_at b (own_event b m (suc place) (CommandEvent e) None w) (suc place) ≡ n' =
      history_at b v (suc place) (nat_le (applied_before n n'.base) w.placed && nat_lt w.placed n'.applied) n'.applied (w.history ++ take (n'.applied - w.placed) (drop (w.placed - b.base) n'.whole)) o.messages
      ∙ with_node_same b w place n' inside in
      let t = (h.kept.nodes place inside).tied in
      let lo = t.based in let kn = t.known in let sh = t.short in
      let ld = length-drop (n.base - b.base) n.whole in
      let y = one_longer b [] n.whole ((n.term == o.core.term) && (n.vote == o.core.vote)) (suc (last_index (log_of b n))) n.term o.core.vote o.core.term e (omega (arith, lo, kn, sh, ld)) in
      let r : suc (last_of b n) ≤ last_of b n' = omega (arith, y) in
      subst (λ (x : Node). suc (last_of b n) ≤ last_of b x) (sym z) r

  -- a leader's next entry is among those that it joins
  own_among : (w : World) (h : Holds b m s0 w) (place : ℕ) → place < length w.nodes → (e : List ℕ) (xs : List Placed)
      → IsAmong (next_entry b (node_at b w (suc place)) e ∷ xs) (record { index = suc (last_index (log_of b (node_at b w (suc place)))); term = (node_at b w (suc place)).term; entry = e })
  own_among w h place inside e xs =
      let n = node_at b w (suc place) in
      let t = (h.kept.nodes place inside).tied in
      let lo = t.based in let kn = t.known in let sh = t.short in let ld = length-drop (n.base - b.base) n.whole in
      subst (λ (i : ℕ). IsAmong (next_entry b n e ∷ xs) (record { index = i; term = n.term; entry = e })) (let z : suc (last_of b n) ≡ suc (last_index (log_of b n)) = omega (arith, lo, kn, sh, ld) in z) (among_first (next_entry b n e) xs)

  fired : (w : World) (h : Holds b m s0 w) (v : World) (x : Placed) → Forward b m h.kept.spine (IsKnown w.opened (x ∷ w.fires) w.takes) w v → Holds b m s0 (record v { fires = x ∷ v.fires })
  fired w h v x f = let o = f.onward in record {
    kept = refit_kept b m v o.kept v.flight o.kept.flight v.cuts v.hold v.takes v.opened v.all_started (x ∷ v.fires);
    since = grows_both s0 h.kept.spine o.kept.spine h.since o.grows;
    count = o.count ∙ h.count;
    took = subst (λ (xs : List Placed). All (Took b o.kept.spine (record v { fires = x ∷ v.fires })) xs) (sym o.takes)
        (All-weaker (Took b h.kept.spine w) (Took b o.kept.spine (record v { fires = x ∷ v.fires })) (λ y t. let u = took_on b m h.kept.spine w v o y t in record { led = u.led; within = u.within }) w.takes h.took);
    differ = differs_on b m s0 w v h o;
    longer = λ e. let y = f.within (sym f.started ∙ e) (h.longer (sym f.started ∙ e)) in record { nodes = y.nodes; flight = y.flight };
    sourced = let y = known_same b v w.opened v.opened (x ∷ w.fires) (x ∷ v.fires) w.takes v.takes f.opened (ap (λ (xs : List Placed). x ∷ xs) f.fires) o.takes
        (f.sourced (sourced_weaker (IsKnown w.opened w.fires w.takes) (IsKnown w.opened (x ∷ w.fires) w.takes) (fires_more w.opened x w.fires w.takes) b w h.sourced)) in
        record { nodes = y.nodes; flight = y.flight; history = y.history };
  }

  pub kept_command : (w : World) (h : Holds b m s0 w) (place : ℕ) (e : List ℕ) (stop : Option ℕ) → may_append b (node_at b w (suc place)) ≡ true
      → Holds b m s0 (let v = own_event b m (suc place) (CommandEvent e) stop w in record v { takes = next_entry b (node_at b w (suc place)) e ∷ v.takes })
  kept_command w h place e stop q =
      let n = node_at b w (suc place) in
      let y = and_parts n.up (is_leader n.role && nat_lt (last_of b n) MAX_INDEX) q in
      let z = and_parts (is_leader n.role) (nat_lt (last_of b n) MAX_INDEX) y.1 in
      let inside = up_inside b w place y.0 in
      let lead = leader_role n.role z.0 in
      let v = own_event b m (suc place) (CommandEvent e) stop w in
      let x = next_entry b n e in
      taken w h place inside lead e v
      (kept_own b m fit (IsKnown w.opened w.fires (x ∷ w.takes)) (noop_known w.opened w.fires (x ∷ w.takes)) w h.kept place inside (CommandEvent e) lead
      (own_steps (suc place) n.base n.base n.applied (core_of b m (suc place) n) e (past w h place inside)) (inr (inr (own_among w h place inside e w.takes))) stop)
      (after_entry w h place inside e stop)

  -- a fire joins those that were appended
  pub kept_fire : (w : World) (h : Holds b m s0 w) (place : ℕ) (e : List ℕ) (stop : Option ℕ) → may_append b (node_at b w (suc place)) ≡ true
      → Holds b m s0 (let v = own_event b m (suc place) (FireEvent e) stop w in record v { fires = next_entry b (node_at b w (suc place)) e ∷ v.fires })
  kept_fire w h place e stop q =
      let n = node_at b w (suc place) in
      let y = and_parts n.up (is_leader n.role && nat_lt (last_of b n) MAX_INDEX) q in
      let z = and_parts (is_leader n.role) (nat_lt (last_of b n) MAX_INDEX) y.1 in
      let inside = up_inside b w place y.0 in
      let x = next_entry b n e in
      let v = own_event b m (suc place) (FireEvent e) stop w in
      let f : Forward b m h.kept.spine (IsKnown w.opened (x ∷ w.fires) w.takes) w v =
      kept_own b m fit (IsKnown w.opened (x ∷ w.fires) w.takes) (noop_known w.opened (x ∷ w.fires) w.takes) w h.kept place inside (FireEvent e) (leader_role n.role z.0)
      (fire_steps (suc place) n.base n.base n.applied (core_of b m (suc place) n) e (past w h place inside)) (inr (inl (own_among w h place inside e w.fires))) stop in
      fired w h v x f
