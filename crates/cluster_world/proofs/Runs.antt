-- Runs, and the facts.
use Rattle.std.proofs.Common.{◌≡◌, ◌≢◌, ℕ, zero, suc, ◌-◌, ◌<◌, Bool, true, false, cond, ◌&&◌, ◌==◌, List, [], ◌∷◌, ◌++◌, length, take, drop, get_or, replicate, refl, sym, ap, ◌∙◌, subst, arith, ◌+◌, ◌≤◌, inl, ⊎_elim, take-take, take_all, length-take-le, ◌⊎◌, inr}
use Rattle.std.proofs.lemmas.Bool.{and_parts}
use Rattle.std.proofs.lemmas.List.{length-replicate}
use Rattle.std.proofs.lemmas.List.Elements.{All-nil, All-drop}
use Rattle.raft_types.specs.declared.entry.LogEntry.{LogEntry}
use Rattle.raft_spine.specs.Logs.{IsFront}
use Rattle.raft_spine.specs.Start.{Start}
use Rattle.raft_spine.specs.Spine.{Spine, begin}
use Rattle.raft_spine.specs.Decided.{Decided}
use Rattle.raft_spine.proofs.Sound.{Rooted, Sound}
use Rattle.raft_spine.proofs.Run.{reached_sound}
use Rattle.raft_spine.proofs.Grow.{grows_same, decided_front}
use Rattle.raft_spine.proofs.Fronts.{front_fits}
use Rattle.raft_types.specs.declared.message.Message.{Message}
use Rattle.cluster_world.proofs.Steps.{ChunkWithin}
use Rattle.raft_spine.proofs.Laws.{rooted_match, leader_has, one_history as one_line}
use Rattle.raft_types.specs.Log.{LogParts, compacted}
use Rattle.raft_claims.specs.Tied.{whole_log, StoreTied}
use Rattle.raft_claims.proofs.Stores.{store_starts}
use Rattle.raft_claims.proofs.Lawful.{begins_tied}
use Rattle.cluster_world.specs.World.{Machine, Node, Placed, World, nodes_of, nobody, log_of, fresh_node, last_of, node_at, begin_world}
use Rattle.cluster_world.specs.Events.{Event, Open, StartNode, FailStart, StopNode, Timeout, Beat, Command, Fire, Deliver, Drop, Tidy, Cut, Mend, Hold, Flow, own_event, may_append, next_entry, starts, fails_to_start, mended, happens, run}
use Rattle.raft_types.specs.declared.event.CoreEvent.TheVariants.{Command as CommandEvent, Fire as FireEvent}
use Rattle.cluster_world.specs.Facts.{IsFit, Runs, NoTwoLead, WholeLogsMatch, OneHistory, LeadersHave, LeadsNow, LedOnce, HistoryIsLonger, HistoryComesFrom, WasStored, IsAmong, entry_of, WorldFacts, applied_of, committed_of}
use Rattle.cluster_world.proofs.Keeping.{NodeKept, InFlight, Kept, up_inside}
use Rattle.cluster_world.proofs.Happens.{kept_starts, kept_fails, kept_stops, kept_if_due, refit, kept_drops, kept_delivers, kept_timeout, kept_beat, kept_command, kept_fire}
use Rattle.cluster_world.proofs.Holding.{Took, IsKnown, Holds}
use Rattle.cluster_world.proofs.Origins.{KnownLog, KnownBody}
use Rattle.raft_types.specs.declared.limits.TheConstants.{NOOP}
use Rattle.cluster_world.proofs.Opens.{was_stored, kept_opens}

-- a log compacted at its base is the log
at_base : (b : Start) (l : List LogEntry) → compacted (whole_log b l) b.base ≡ whole_log b l
at_base b l = grind arith

module _ (b : Start) (m : Machine) (s0 : Spine) (fit : IsFit b m) where
  pub kept_happens : (w : World) → Holds b m s0 w → (e : Event) → Holds b m s0 (happens b m w e)
  kept_happens w h (Open openings) = kept_opens b m s0 fit openings w h
  kept_happens w h (StartNode k) = answer (node_at b w k).up
    where
      answer : (g : Bool) → Holds b m s0 (cond g w (starts b k w))
      answer true = h
      answer false = kept_starts b m s0 w h k
  kept_happens w h (FailStart k replaced) = answer (node_at b w k).up
    where
      answer : (g : Bool) → Holds b m s0 (cond g w (fails_to_start b k replaced w))
      answer true = h
      answer false = kept_fails b m s0 w h k replaced
  kept_happens w h (StopNode k) = kept_stops b m s0 w h k
  kept_happens w h (Timeout k stop) = kept_timeout b m s0 fit w h k stop
  kept_happens w h (Beat k stop) = kept_beat b m s0 fit w h k stop
  kept_happens w h (Command zero entry stop) = h
  kept_happens w h (Command (suc place) entry stop) = answer (may_append b (node_at b w (suc place))) refl
    where
      answer : (g : Bool) → may_append b (node_at b w (suc place)) ≡ g
          → Holds b m s0 (cond g (let v = own_event b m (suc place) (CommandEvent entry) stop w in record v { takes = next_entry b (node_at b w (suc place)) entry ∷ v.takes }) w)
      answer false e = h
      answer true e = kept_command b m s0 fit w h place entry stop e
  kept_happens w h (Fire zero entry stop) = h
  kept_happens w h (Fire (suc place) entry stop) = answer (may_append b (node_at b w (suc place)) && ((node_at b w (suc place)).applied == last_of b (node_at b w (suc place)))) refl
    where
      answer : (g : Bool) → (may_append b (node_at b w (suc place)) && ((node_at b w (suc place)).applied == last_of b (node_at b w (suc place)))) ≡ g
          → Holds b m s0 (cond g (let v = own_event b m (suc place) (FireEvent entry) stop w in record v { fires = next_entry b (node_at b w (suc place)) entry ∷ v.fires }) w)
      answer false e = h
      answer true e = kept_fire b m s0 fit w h place entry stop (and_parts (may_append b (node_at b w (suc place))) ((node_at b w (suc place)).applied == last_of b (node_at b w (suc place))) e).0
  kept_happens w h (Deliver place again stop) = kept_delivers b m s0 fit w h place again stop (drop place w.flight) (All-drop (InFlight b m h.kept.spine w) place w.flight h.kept.flight)
      (λ e. All-drop (λ (x : Message). ChunkWithin w.placed x.body) place w.flight (h.longer e).flight)
      (All-drop (λ (x : Message). KnownBody (IsKnown w.opened w.fires w.takes) x.body) place w.flight h.sourced.flight)
  kept_happens w h (Drop place) = kept_drops b m s0 w h place
  kept_happens w h (Tidy k stop) = kept_if_due b m s0 w h k stop
  kept_happens w h (Cut j k) = refit b m s0 w h w.flight (λ P f. f) ((j, k) ∷ w.cuts) w.hold
  kept_happens w h (Mend j k) = refit b m s0 w h w.flight (λ P f. f) (mended w.cuts j k) w.hold
  kept_happens w h Hold = refit b m s0 w h w.flight (λ P f. f) w.cuts true
  kept_happens w h Flow = refit b m s0 w h w.flight (λ P f. f) w.cuts false

  pub kept_run : (w : World) → Holds b m s0 w → (es : List Event) → Holds b m s0 (run b m w es)
  kept_run w h [] = h
  kept_run w h (e ∷ es) = kept_run (happens b m w e) (kept_happens w h e) es

module _ (b : Start) (m : Machine) (fit : IsFit b m) where
  begin_node : (k : ℕ) → k ≢ 0 → (count : ℕ) → NodeKept b m (begin b) k (fresh_node b false b.term b.vote b.log b.base count)
  begin_node k nz count = record {
    tied = store_starts b m.len (begin b) k (nodes_of b) b.term b.vote (compacted (whole_log b b.log) b.base) (m.len (take (b.base - b.base) b.log)) b.log
        (subst (λ (l : LogParts). StoreTied b m.len (begin b) k b.term b.vote l (m.len (take (b.base - b.base) b.log)) b.log) (sym (at_base b b.log))
        (subst (λ (l : List LogEntry). StoreTied b m.len (begin b) k b.term b.vote (whole_log b b.log) (m.len l) b.log)
        (ap (λ (i : ℕ). take i b.log) (let z : 0 ≡ b.base - b.base = omega arith in z)) (begins_tied b m.len k nz)));
    from_base = omega arith;
    to_commit = omega arith;
    holds = inl refl;
  }

  same_nodes : (k i : ℕ) (n d : Node) → i < length (replicate k n) → get_or (replicate k n) i d ≡ n
  same_nodes zero i n d h = absurd (let z : i < 0 = h in (let r : ⊥ = omega (arith, z) in r))
  same_nodes (suc k) zero n d h = refl
  same_nodes (suc k) (suc i) n d h = same_nodes k i n d (omega arith)

  abbrev kept_begin : (count : ℕ) → Kept b m (begin_world b count)
  kept_begin count = record {
    spine = begin b;
    reached = record { start = fit.start; moves = []; can = tt; is = refl };
    nodes = λ place inside. subst (λ (n : Node). NodeKept b m (begin b) (suc place) n)
        (sym (same_nodes (nodes_of b) place (fresh_node b false b.term b.vote b.log b.base count) (nobody b) inside)) (begin_node (suc place) (λ z. (let r : ⊥ = omega (arith, z) in r)) count);
    flight = All-nil (InFlight b m (begin b) (begin_world b count));
    history = record { bound = 0; decided = record { how = inl refl }; long = inl (omega arith) };
  }

-- a running node
running : (b : Start) (m : Machine) (w : World) (h : Kept b m w) (k : ℕ) → Runs b w k → NodeKept b m h.spine k (node_at b w k)
running b m w h zero r = absurd (let q : false ≡ true = r in cc)
running b m w h (suc place) r = h.nodes place (up_inside b w place r)

same_logs : (k i : ℕ) (l d : LogParts) → i < k → get_or (replicate k l) i d ≡ l
same_logs zero i l d h = absurd (omega (arith, h))
same_logs (suc k) zero l d h = refl
same_logs (suc k) (suc i) l d h = same_logs k i l d (omega (arith, h))

-- what holds since this world
since_now : (b : Start) (m : Machine) (s0 : Spine) (w : World) (h : Holds b m s0 w) → Holds b m h.kept.spine w
since_now b m s0 w h = record { kept = h.kept; since = grows_same h.kept.spine; count = h.count; took = h.took; differ = h.differ; longer = h.longer; sourced = h.sourced }

run_both : (b : Start) (m : Machine) (w : World) (es es2 : List Event) → run b m w (es ++ es2) ≡ run b m (run b m w es) es2
run_both b m w [] es2 = refl
run_both b m w (e ∷ es) es2 = run_both b m (happens b m w e) es es2

module _ (b : Start) (m : Machine) (fit : IsFit b m) (count : ℕ) where
  pub holds_begin : Holds b m (begin b) (begin_world b count)
  holds_begin = record {
    kept = kept_begin b m fit count;
    since = grows_same (begin b);
    count = length-replicate (nodes_of b) (fresh_node b false b.term b.vote b.log b.base count);
    took = All-nil (Took b (begin b) (begin_world b count));
    differ = λ i j d li lj ei et. absurd (omega (arith, li));
    longer = λ e. absurd (let q : false ≡ true = e in cc);
    sourced = record {
      nodes = λ place inside.
          let l = length-replicate (nodes_of b) (fresh_node b false b.term b.vote b.log b.base count) in
          let k = length-replicate (nodes_of b) (whole_log b b.log) in
          subst (λ (n : Node). KnownLog (IsKnown (replicate (nodes_of b) (whole_log b b.log)) [] []) (log_of b n))
          (sym (same_nodes b m fit (nodes_of b) place (fresh_node b false b.term b.vote b.log b.base count) (nobody b) inside))
          (subst (λ (x : LogParts). KnownLog (IsKnown (replicate (nodes_of b) (whole_log b b.log)) [] []) x) (sym (at_base b b.log))
          (was_stored (replicate (nodes_of b) (whole_log b b.log)) place (whole_log b b.log) (omega (arith, inside, l, k)) (λ d. same_logs (nodes_of b) place (whole_log b b.log) d (omega (arith, inside, l)))));
      flight = All-nil (λ (x : Message). KnownBody (IsKnown (replicate (nodes_of b) (whole_log b b.log)) [] []) x.body);
      history = λ place at lt. absurd (omega (arith, lt));
    };
  }

  pub holds_run : (es : List Event) → Holds b m (begin b) (run b m (begin_world b count) es)
  holds_run es = kept_run b m (begin b) fit (begin_world b count) holds_begin es

  -- who leads a term now and who led it before are one
  pub led_once : LedOnce b m (begin_world b count)
  led_once es es2 j k x y e =
      let w = run b m (begin_world b count) es in
      let h = holds_run es in
      let now = kept_run b m h.kept.spine fit w (since_now b m (begin b) w h) es2 in
      let v = run b m w es2 in
      let y' = subst (λ (u : World). LeadsNow b u k) (run_both b m (begin_world b count) es es2) y in
      let e' : (node_at b w j).term ≡ (node_at b v k).term = e ∙ ap (λ (u : World). (node_at b u k).term) (run_both b m (begin_world b count) es es2) in
      let a = (running b m w h.kept j x.runs).tied in
      let c = (running b m v now.kept k y'.runs).tied in
      let led = (a.leading x.role).leads in
      let nz : h.kept.spine.leader (node_at b w j).term ≢ 0 = λ z. a.is_node (sym led ∙ z) in
      sym led ∙ (sym (now.since.leader (node_at b w j).term nz) ∙ (ap now.kept.spine.leader e' ∙ (c.leading y'.role).leads))

-- where every node started at the opening, what a running node has applied is a front of the history
pub history_longer : (b : Start) (m : Machine) (s0 : Spine) (w : World) → Holds b m s0 w → OneHistory b w → HistoryIsLonger b w
history_longer b m s0 w h one e k r = ⊎_elim
    (λ (x : IsFront (applied_of b (node_at b w k)) w.history). x)
    (λ (x : IsFront w.history (applied_of b (node_at b w k))).
    let ok = running b m w h.kept k r in
    let ta = ok.to_commit in let sh = ok.tied.short in let lo = ok.tied.based in let fb = ok.from_base in
    let a = length-take-le ((node_at b w k).applied - b.base) (node_at b w k).whole (omega (arith, ta, sh)) in
    let le = applied_placed k r in
    let long : w.placed ≡ b.base + length w.history = ⊎_elim (λ (y : w.placed ≡ b.base + length w.history). y) (λ (y : w.placed < b.base). absurd (omega (arith, y, le, lo, fb))) h.kept.history.long in
    let f = front_fits w.history (applied_of b (node_at b w k)) x in
    let same : length (applied_of b (node_at b w k)) ≡ length w.history = omega (arith, f, a, le, long) in
    let is : applied_of b (node_at b w k) ≡ w.history = sym (take_all (length w.history) (applied_of b (node_at b w k)) (omega (arith, same))) ∙ x in
    take_all (length (applied_of b (node_at b w k))) w.history (omega (arith, same)) ∙ sym is)
    (one.of_history k r)
  where
    applied_placed : (k : ℕ) → Runs b w k → (node_at b w k).applied ≤ w.placed
    applied_placed zero r = absurd (let q : false ≡ true = r in cc)
    applied_placed (suc place) r = (h.longer e).nodes place (up_inside b w place r)

-- where the entries of the history come from: of those that were taken none other has the index and the term
pub history_from : (b : Start) (m : Machine) (s0 : Spine) (w : World) → Holds b m s0 w → HistoryComesFrom b w
history_from b m s0 w h place at lt = ⊎_elim
    (λ (a : WasStored w.opened (entry_of b w.history place) ⊎ ((entry_of b w.history place).entry ≡ NOOP ∷ [])). inl a)
    (λ (a : IsAmong w.fires (entry_of b w.history place) ⊎ IsAmong w.takes (entry_of b w.history place)). inr (⊎_elim
    (λ (f : IsAmong w.fires (entry_of b w.history place)). inl f)
    (λ (t : IsAmong w.takes (entry_of b w.history place)). inr (record {
      among = t;
      only = λ i d li ei et. h.differ i t.place d li t.there (ei ∙ sym (ap (λ (x : Placed). x.index) (t.is d))) (et ∙ sym (ap (λ (x : Placed). x.term) (t.is d)));
    }))
    a))
    (h.sourced.history place at lt)

-- the facts of a world
module _ (b : Start) (m : Machine) (w : World) (h : Kept b m w) where
  sound : Sound b h.spine
  sound = reached_sound b h.spine h.reached

  one_leader : NoTwoLead b w
  one_leader j k x y e =
      let a = running b m w h j x.runs in let c = running b m w h k y.runs in
      sym ((a.tied.leading x.role).leads) ∙ (ap h.spine.leader e ∙ (c.tied.leading y.role).leads)

  decided_applied : (k : ℕ) → Runs b w k → Decided b h.spine (node_at b w k).term (applied_of b (node_at b w k))
  decided_applied k r =
      let a = running b m w h k r in let n = node_at b w k in let tc = a.to_commit in
      subst (λ (l : List LogEntry). Decided b h.spine n.term l) (take-take (n.applied - b.base) (n.commit - b.base) n.whole (omega arith))
      (decided_front b h.spine n.term (n.applied - b.base) (take (n.commit - b.base) n.whole) a.tied.decided)

  history_one : OneHistory b w
  history_one = record {
    of_history = λ k r. one_line b h.spine sound (node_at b w k).term h.history.bound (applied_of b (node_at b w k)) w.history (decided_applied k r) h.history.decided;
    of_nodes = λ j k r q. one_line b h.spine sound (node_at b w j).term (node_at b w k).term (applied_of b (node_at b w j)) (applied_of b (node_at b w k)) (decided_applied j r) (decided_applied k q);
  }

  matching : WholeLogsMatch b w
  matching zero k i lt l2 e = absurd (let z : i < 0 = lt in (let r : ⊥ = omega (arith, z) in r))
  matching (suc p) zero i lt l2 e = absurd (let z : i < 0 = l2 in (let r : ⊥ = omega (arith, z) in r))
  matching (suc p) (suc q) i lt l2 e =
      let x = h.nodes p (inside p i lt) in let y = h.nodes q (inside q i l2) in
      rooted_match b h.spine (h.spine.term (suc p)) (h.spine.term (suc q)) i (node_at b w (suc p)).whole (node_at b w (suc q)).whole
      (subst (λ (l : List LogEntry). Rooted b h.spine.leader h.spine.leader_log (h.spine.term (suc p)) l) x.tied.log (sound.logs (suc p)))
      (subst (λ (l : List LogEntry). Rooted b h.spine.leader h.spine.leader_log (h.spine.term (suc q)) l) y.tied.log (sound.logs (suc q))) lt l2 e
    where
      inside : (place i : ℕ) → i < length (node_at b w (suc place)).whole → place < length w.nodes
      inside place i lt = there w.nodes place lt
        where
          there : (xs : List Node) (q : ℕ) → i < length (get_or xs q (nobody b)).whole → q < length xs
          there [] q lt = absurd (let z : i < 0 = lt in (let r : ⊥ = omega (arith, z) in r))
          there (x ∷ xs) zero lt = omega arith
          there (x ∷ xs) (suc q) lt = let r = there xs q lt in omega (arith, r)

  leaders : LeadersHave b w
  leaders j k x r le =
      let a = running b m w h j x.runs in let c = running b m w h k r in
      let led = (a.tied.leading x.role).leads in
      let nz = a.tied.is_node in
      let own = sound.own_log j nz (ap h.spine.leader a.tied.term ∙ led) in
      let its : h.spine.leader_log (node_at b w j).term ≡ (node_at b w j).whole = ap h.spine.leader_log (sym a.tied.term) ∙ (sym own ∙ a.tied.log) in
      subst (λ (l : List LogEntry). IsFront (committed_of b (node_at b w k)) l) its
      (leader_has b h.spine sound (node_at b w k).term (node_at b w j).term (committed_of b (node_at b w k)) c.tied.decided le (λ z. nz (sym led ∙ z)))

  pub facts : WorldFacts b w
  facts = record { one_leader = one_leader; logs_match = matching; one_history = history_one; leaders_have = leaders }
