-- The opening of a world.
use Rattle.std.proofs.Common.{◌≡◌, ◌≢◌, ℕ, zero, suc, ◌+◌, ◌-◌, ◌<◌, ◌≤◌, max, Bool, true, false, cond, ◌&&◌, nat_lt, nat_le, ◌==◌, All, List, [], ◌∷◌, ◌++◌, length, take, drop, get_or, map, Option, Some, None, refl, sym, ap, ◌∙◌, subst, arith, ◌⊎◌, inl, inr, ⊎_elim, length-take, length-take-le, append_assoc}
use Rattle.std.proofs.lemmas.Bool.{cases_lt, cases_eq, eqb-true, eq-eqb, le-leb, lt-ltb, and_parts}
use Rattle.std.proofs.lemmas.List.Elements.{All-nil, All-weaker}
use Rattle.raft_types.specs.declared.message.Message.{Message}
use Rattle.raft_types.specs.declared.entry.LogEntry.{LogEntry}
use Rattle.raft_types.specs.declared.event.CoreEvent.TheVariants.{Raise as RaiseEvent}
use Rattle.raft_types.specs.declared.state.Role.TheVariants.{Follower}
use Rattle.raft_types.specs.Quorum.{ids}
use Rattle.raft_types.specs.Core.{CoreParts, quiet}
use Rattle.raft_types.specs.Step.{on}
use Rattle.raft_spine.specs.Start.{Start}
use Rattle.raft_spine.specs.Decided.{Decided}
use Rattle.raft_spine.specs.Spine.{Spine}
use Rattle.raft_claims.proofs.Stores.{tied_stops}
use Rattle.cluster_world.specs.World.{Machine, Node, World, nodes_of, nobody, log_of, core_of, refreshed, node_at}
use Rattle.cluster_world.specs.Node.{applied_before, ended, is_due, tidied, tidied_if_due}
use Rattle.cluster_world.specs.Events.{Opening, with_node, own_event, tidies, tidies_if_due, starts, fails_to_start, opening_of, all_start, greatest_term, greatest_base, front_at, all_up, all_raise, closed, with_front, opens}
use Rattle.cluster_world.specs.Facts.{IsFit}
use Rattle.cluster_world.proofs.Steps.{ChunkWithin, raise_steps}
use Rattle.cluster_world.proofs.Keeping.{NodeKept, InFlight, Kept, up_inside, with_node_same, with_node_other}
use Rattle.cluster_world.proofs.Worlds.{refreshed_kept}
use Rattle.cluster_world.proofs.Holding.{Took, IsKnown, Holds}
use Rattle.cluster_world.proofs.Origins.{AllFrom, from_each, KnownLog, KnownBody}
use Rattle.raft_types.specs.Log.{LogParts, nothing, last_index, log_at}
use Rattle.cluster_world.proofs.NodeEvents.{both}
use Rattle.cluster_world.proofs.Happens.{holds_own, kept_starts, kept_fails, kept_if_due, set_past}

-- all nodes are followers
abbrev pub AllFollow : Start → World → Type 0
AllFollow b w = (k : ℕ) → (node_at b w k).role ≡ Follower

-- a node that has just started, or stands still
abbrev IsFresh : Node → Type 0
IsFresh n = (n.role ≡ Follower) × (n.applied ≡ n.base)

-- a property of all nodes stays where a node comes to have it
all_put : (b : Start) (P : Node → Type 0) (w : World) → ((k : ℕ) → P (node_at b w k)) → (k : ℕ) (n : Node) → P n → (j : ℕ) → P (node_at b (with_node k n w) j)
all_put b P w f zero n e = f
all_put b P w f (suc place) n e = λ k. ⊎_elim
    (λ (q : k ≡ suc place). subst (λ (j : ℕ). P (node_at b (with_node (suc place) n w) j)) (sym q) (⊎_elim
    (λ (inside : place < length w.nodes). subst P (sym (with_node_same b w place n inside)) e)
    (λ (past : length w.nodes ≤ place). subst (λ (ns : List Node). P (get_or ns place (nobody b))) (sym (set_past w.nodes place n past)) (f (suc place)))
    (cases_lt place (length w.nodes))))
    (λ (q : k ≢ suc place). subst P (sym (with_node_other b w place n k q)) (f k))
    (cases_eq k (suc place))

follow_put : (b : Start) (w : World) → AllFollow b w → (k : ℕ) (n : Node) → n.role ≡ Follower → AllFollow b (with_node k n w)
follow_put b w f k n e = all_put b (λ (x : Node). x.role ≡ Follower) w f k n e

-- a world that opens
record Opens (b : Start) (m : Machine) (s0 : Spine) (w : World) : Type 0 where
  kept : Holds b m s0 w
  follow : AllFollow b w

-- as the nodes start, each follows and has applied what its base stands for, and nothing is in flight
record Starting (b : Start) (m : Machine) (s0 : Spine) (w : World) : Type 0 where
  kept : Holds b m s0 w
  fresh : (k : ℕ) → IsFresh (node_at b w k)
  empty : w.flight ≡ []

due_fresh : (b : Start) (up : Bool) (n : Node) → IsFresh (tidied_if_due b (refreshed b up n))
due_fresh b up n = answer (is_due b (refreshed b up n))
  where
    answer : (g : Bool) → IsFresh (cond g (tidied b (refreshed b up n)) (refreshed b up n))
    answer true = (refl, refl)
    answer false = (refl, refl)

fails_fresh : (b : Start) (w : World) → ((k : ℕ) → IsFresh (node_at b w k)) → (k : ℕ) (replaced : Bool) (j : ℕ) → IsFresh (node_at b (fails_to_start b k replaced w) j)
fails_fresh b w f k true = all_put b IsFresh w f k (refreshed b false (tidied_if_due b (refreshed b false (node_at b w k)))) (refl, refl)
fails_fresh b w f k false = all_put b IsFresh w f k (refreshed b false (node_at b w k)) (refl, refl)

flight_put : (k : ℕ) (n : Node) (w : World) → w.flight ≡ [] → (with_node k n w).flight ≡ []
flight_put zero n w e = e
flight_put (suc place) n w e = e

fails_empty : (b : Start) (w : World) → w.flight ≡ [] → (k : ℕ) (replaced : Bool) → (fails_to_start b k replaced w).flight ≡ []
fails_empty b w e k true = flight_put k (refreshed b false (tidied_if_due b (refreshed b false (node_at b w k)))) w e
fails_empty b w e k false = flight_put k (refreshed b false (node_at b w k)) w e

all_starts : (b : Start) (m : Machine) (s0 : Spine) (openings : List Opening) (ks : List ℕ) (w : World) → Starting b m s0 w → Starting b m s0 (all_start b openings ks w)
all_starts b m s0 openings [] w o = o
all_starts b m s0 openings (k ∷ ks) w o =
    all_starts b m s0 openings ks (cond (opening_of openings k).starts (starts b k w) (fails_to_start b k (opening_of openings k).replaced w)) (answer (opening_of openings k).starts (opening_of openings k).replaced)
  where
    answer : (g r : Bool) → Starting b m s0 (cond g (starts b k w) (fails_to_start b k r w))
    answer true r = record {
      kept = kept_starts b m s0 w o.kept k;
      fresh = all_put b IsFresh w o.fresh k (tidied_if_due b (refreshed b true (node_at b w k))) (due_fresh b true (node_at b w k));
      empty = flight_put k (tidied_if_due b (refreshed b true (node_at b w k))) w o.empty;
    }
    answer false r = record { kept = kept_fails b m s0 w o.kept k r; fresh = fails_fresh b w o.fresh k r; empty = fails_empty b w o.empty k r }

if_due_follow : (b : Start) (w : World) → AllFollow b w → (k : ℕ) (stop : Option Bool) → AllFollow b (tidies_if_due b k stop w)
if_due_follow b w f k stop = answer ((node_at b w k).up && is_due b (node_at b w k)) stop
  where
    answer : (g : Bool) (stop : Option Bool) → AllFollow b (cond g (tidies b k stop w) w)
    answer false stop = f
    answer true None = follow_put b w f k (tidied b (node_at b w k)) (f k)
    answer true (Some false) = follow_put b w f k (refreshed b false (node_at b w k)) refl
    answer true (Some true) = follow_put b w f k (refreshed b false (tidied b (node_at b w k))) refl

module _ (b : Start) (m : Machine) (s0 : Spine) (fit : IsFit b m) (openings : List Opening) (term : ℕ) where
  raise_follow : (w : World) → AllFollow b w → (place : ℕ) (stop : Option ℕ) → AllFollow b (own_event b m (suc place) (RaiseEvent term) stop w)
  raise_follow w f place (Some j) = follow_put b w f (suc place) _ refl
  raise_follow w f place None =
      grown (with_node (suc place) n' w) (follow_put b w f (suc place) n' role) (nat_le (applied_before n n'.base) w.placed && nat_lt w.placed n'.applied) n'.applied (w.history ++ take (n'.applied - w.placed) (drop (w.placed - b.base) n'.whole))
    where
      n : Node
      n = node_at b w (suc place)

      n' : Node
      n' = ended b m [] (node_at b w (suc place)) (node_at b w (suc place)).held (on (core_of b m (suc place) (node_at b w (suc place))) (RaiseEvent term))

      same_role : (c : CoreParts) (g : Bool) → (quiet (cond g (record c { term = term; vote = 0; leader = 0 }) c)).core.role ≡ c.role
      same_role c true = refl
      same_role c false = refl

      role : (on (core_of b m (suc place) (node_at b w (suc place))) (RaiseEvent term)).core.role ≡ Follower
      role = same_role (core_of b m (suc place) (node_at b w (suc place))) (nat_lt (node_at b w (suc place)).term term) ∙ f (suc place)

      grown : (v : World) → AllFollow b v → (g : Bool) (p : ℕ) (l : List LogEntry) → AllFollow b (cond g (record v { placed = p; history = l }) v)
      grown v a true p l = a
      grown v a false p l = a

  all_raises : (ks : List ℕ) (w : World) → Opens b m s0 w → Opens b m s0 (all_raise b m openings term ks w)
  all_raises [] w o = o
  all_raises (zero ∷ ks) w o = all_raises ks w o
  all_raises (suc place ∷ ks) w o =
      all_raises ks (cond ((node_at b w (suc place)).up && nat_lt (node_at b w (suc place)).term term)
      (tidies_if_due b (suc place) (opening_of openings (suc place)).tidy_stop (own_event b m (suc place) (RaiseEvent term) (opening_of openings (suc place)).raise_stop w)) w)
      (answer ((node_at b w (suc place)).up && nat_lt (node_at b w (suc place)).term term) refl)
    where
      answer : (g : Bool) → ((node_at b w (suc place)).up && nat_lt (node_at b w (suc place)).term term) ≡ g
          → Opens b m s0 (cond g (tidies_if_due b (suc place) (opening_of openings (suc place)).tidy_stop (own_event b m (suc place) (RaiseEvent term) (opening_of openings (suc place)).raise_stop w)) w)
      answer false e = o
      answer true e =
          let n = node_at b w (suc place) in
          let inside = up_inside b w place (and_parts n.up (nat_lt n.term term) e).0 in
          let v = own_event b m (suc place) (RaiseEvent term) (opening_of openings (suc place)).raise_stop w in
          let k : Holds b m s0 v = holds_own b m s0 fit w o.kept place inside (RaiseEvent term) (o.follow (suc place))
          (raise_steps (suc place) n.base n.base n.applied (core_of b m (suc place) n) term (record { same = refl; base = omega arith; below = omega arith; commit = (o.kept.kept.nodes place inside).to_commit })) tt (opening_of openings (suc place)).raise_stop in
          record {
            kept = kept_if_due b m s0 v k (suc place) (opening_of openings (suc place)).tidy_stop;
            follow = if_due_follow b v (raise_follow w o.follow place (opening_of openings (suc place)).raise_stop) (suc place) (opening_of openings (suc place)).tidy_stop;
          }

-- The history of an opening.
module _ (b : Start) (m : Machine) (v : World) (h : Kept b m v) where
  record Front (base : ℕ) (l : List LogEntry) : Type 0 where
    bound : ℕ
    decided : Decided b h.spine bound l
    short : length l ≤ base - b.base

  empty_front : (base : ℕ) → Front base []
  empty_front base = record { bound = 0; decided = record { how = inl refl }; short = omega arith }

  front_of : (base : ℕ) (ks : List ℕ) → Front base (front_at b v base ks)
  front_of base [] = empty_front base
  front_of base (zero ∷ ks) = front_of base ks
  front_of base (suc place ∷ ks) = answer ((node_at b v (suc place)).up && ((node_at b v (suc place)).base == base)) refl (front_of base ks)
    where
      answer : (g : Bool) → ((node_at b v (suc place)).up && ((node_at b v (suc place)).base == base)) ≡ g → Front base (front_at b v base ks)
          → Front base (cond g (take (base - b.base) (node_at b v (suc place)).whole) (front_at b v base ks))
      answer false e r = r
      answer true e r =
          let n = node_at b v (suc place) in
          let y = and_parts n.up (n.base == base) e in
          let ok = h.nodes place (up_inside b v place y.0) in
          let st = (tied_stops b m.len h.spine (core_of b m (suc place) n) n.whole ok.tied).decided in
          let q = eqb-true n.base base y.1 in
          let l = length-take (base - b.base) n.whole in
          record { bound = n.term; decided = subst (λ (x : ℕ). Decided b h.spine n.term (take (x - b.base) n.whole)) q st; short = omega (arith, l) }

  -- some node that runs has this base
  HasBase : ℕ → List ℕ → Type 0
  HasBase base [] = ⊥
  HasBase base (k ∷ ks) = (((node_at b v k).up ≡ true) × ((node_at b v k).base ≡ base)) ⊎ HasBase base ks

  long_front : (base : ℕ) (ks : List ℕ) → HasBase base ks → (b.base ≤ base) × (length (front_at b v base ks) ≡ base - b.base)
  unfolding HasBase
  long_front base [] f = absurd f
  long_front base (zero ∷ ks) f = ⊎_elim
      (λ (x : (false ≡ true) × (b.base ≡ base)). absurd (let q : false ≡ true = x.0 in cc))
      (λ (y : HasBase base ks). long_front base ks y) f
  long_front base (suc place ∷ ks) f = answer ((node_at b v (suc place)).up && ((node_at b v (suc place)).base == base)) refl (λ y. long_front base ks y)
    where
      answer : (g : Bool) → ((node_at b v (suc place)).up && ((node_at b v (suc place)).base == base)) ≡ g → (HasBase base ks → (b.base ≤ base) × (length (front_at b v base ks) ≡ base - b.base))
          → (b.base ≤ base) × (length (cond g (take (base - b.base) (node_at b v (suc place)).whole) (front_at b v base ks)) ≡ base - b.base)
      answer true e rest =
          let n = node_at b v (suc place) in
          let y = and_parts n.up (n.base == base) e in
          let ok = h.nodes place (up_inside b v place y.0) in
          let q = eqb-true n.base base y.1 in
          let lo = ok.tied.based in let kn = ok.tied.known in let sh = ok.tied.short in
          (omega (arith, q, lo), length-take-le (base - b.base) n.whole (omega (arith, q, lo, kn, sh)))
      answer false e rest = ⊎_elim
          (λ (x : ((node_at b v (suc place)).up ≡ true) × ((node_at b v (suc place)).base ≡ base)).
          let t : ((node_at b v (suc place)).up && ((node_at b v (suc place)).base == base)) ≡ true =
          ap (λ (g : Bool). g && ((node_at b v (suc place)).base == base)) x.0 ∙ eq-eqb (node_at b v (suc place)).base base x.1 in
          absurd (let q : true ≡ false = sym t ∙ e in cc))
          (λ (y : HasBase base ks). rest y) f

  -- the greatest base is that of a node that runs, if it is not 0
  greatest_is : (ks : List ℕ) → (greatest_base b v ks ≡ 0) ⊎ HasBase (greatest_base b v ks) ks
  unfolding HasBase
  greatest_is [] = inl refl
  greatest_is (k ∷ ks) = answer (node_at b v k).up refl (greatest_is ks)
    where
      answer : (g : Bool) → (node_at b v k).up ≡ g → (greatest_base b v ks ≡ 0) ⊎ HasBase (greatest_base b v ks) ks
          → (max (cond g (node_at b v k).base 0) (greatest_base b v ks) ≡ 0)
          ⊎ ((((node_at b v k).up ≡ true) × ((node_at b v k).base ≡ max (cond g (node_at b v k).base 0) (greatest_base b v ks))) ⊎ HasBase (max (cond g (node_at b v k).base 0) (greatest_base b v ks)) ks)
      answer false e r =
          let z : greatest_base b v ks ≡ max 0 (greatest_base b v ks) = omega arith in
          ⊎_elim (λ (x : greatest_base b v ks ≡ 0). inl (sym z ∙ x)) (λ (y : HasBase (greatest_base b v ks) ks). inr (inr (subst (λ (g : ℕ). HasBase g ks) z y))) r
      answer true e r = ⊎_elim
          (λ (x : (node_at b v k).base < greatest_base b v ks).
          let z : greatest_base b v ks ≡ max (node_at b v k).base (greatest_base b v ks) = omega arith in
          ⊎_elim (λ (y : greatest_base b v ks ≡ 0). absurd (omega arith)) (λ (y : HasBase (greatest_base b v ks) ks). inr (inr (subst (λ (g : ℕ). HasBase g ks) z y))) r)
          (λ (x : greatest_base b v ks ≤ (node_at b v k).base). inr (inl (e, omega arith)))
          (cases_lt (node_at b v k).base (greatest_base b v ks))

  abbrev history_opens : (ks : List ℕ) → Kept b m (with_front b ks v)
  history_opens ks =
      let f = front_of (greatest_base b v ks) ks in
      let fs = f.short in
      record {
        spine = h.spine;
        reached = h.reached;
        nodes = h.nodes;
        flight = λ i d lt. let y = h.flight i d lt in record { from_node = y.from_node; to_node = y.to_node; other = y.other; claim = y.claim; chunk = y.chunk };
        history = record {
          bound = f.bound;
          decided = f.decided;
          long = ⊎_elim
              (λ (z : greatest_base b v ks ≡ 0). ⊎_elim (λ (x : 0 < b.base). inr (omega (arith, z, x))) (λ (x : b.base ≤ 0). inl (omega (arith, z, x, fs))) (cases_lt 0 b.base))
              (λ (y : HasBase (greatest_base b v ks) ks). let l = long_front (greatest_base b v ks) ks y in let l0 = l.0 in let l1 = l.1 in inl (omega (arith, l0, l1)))
              (greatest_is ks);
        };
      }

-- before the nodes start
get_map : {A : Type 0} (f : Node → A) (xs : List Node) (i : ℕ) (d : A) (e : Node) → i < length xs → get_or (map f xs) i d ≡ f (get_or xs i e)
get_map f [] i d e h = absurd (omega arith)
get_map f (x ∷ xs) zero d e h = refl
get_map f (x ∷ xs) (suc i) d e h = get_map f xs i d e (omega arith)

length_map : {A : Type 0} (f : Node → A) (xs : List Node) → length (map f xs) ≡ length xs
length_map f [] = refl
length_map f (x ∷ xs) = ap suc (length_map f xs)

all_fresh : (b : Start) (xs : List Node) (i : ℕ) → IsFresh (get_or (map (refreshed b false) xs) i (nobody b))
all_fresh b [] i = (refl, refl)
all_fresh b (x ∷ xs) zero = (refl, refl)
all_fresh b (x ∷ xs) (suc i) = all_fresh b xs i

-- an entry above the base of a log
stored_at : (l : LogParts) (j : ℕ) → j < length l.entries → log_at l (suc l.base + j) ≡ Some (get_or l.entries j nothing)
stored_at l j lt =
    ap (λ (g : Bool). cond g (Some (get_or l.entries (suc l.base + j - (l.base + 1)) nothing)) None) (both (lt-ltb l.base (suc l.base + j) (omega arith)) (le-leb (suc l.base + j) (last_index l) (omega (arith, lt))))
    ∙ ap (λ (i : ℕ). Some (get_or l.entries i nothing)) (let z : suc l.base + j - (l.base + 1) ≡ j = omega arith in z)

-- all that lies above the base of one of these logs was stored
pub was_stored : (opened : List LogParts) (store : ℕ) (l : LogParts) → store < length opened → ((d : LogParts) → get_or opened store d ≡ l) → AllFrom (IsKnown opened [] []) (suc l.base) l.entries
was_stored opened store l there is =
    from_each (IsKnown opened [] []) (suc l.base) l.entries
    (λ j lt. inl (inl (record { store = store; there = there; is = λ d. ap (λ (x : LogParts). log_at x (suc l.base + j)) (is d) ∙ stored_at l j lt })))

-- every node stands still
stands_still : (b : Start) (m : Machine) (s0 : Spine) (w : World) → Holds b m s0 w → Starting b m s0 (closed b w)
stands_still b m s0 w h = record {
  kept = record {
    kept = record {
      spine = h.kept.spine;
      reached = h.kept.reached;
      nodes = λ q lt. let l = length_map (refreshed b false) w.nodes in let inside : q < length w.nodes = omega (arith, l, lt) in
          subst (λ (n : Node). NodeKept b m h.kept.spine (suc q) n) (sym (get_map (refreshed b false) w.nodes q (nobody b) (nobody b) inside))
          (refreshed_kept b m h.kept.spine (suc q) false (node_at b w (suc q)) (h.kept.nodes q inside));
      flight = All-nil (InFlight b m h.kept.spine (closed b w));
      history = record { bound = 0; decided = record { how = inl refl }; long = inl (omega arith) };
    };
    since = h.since;
    count = length_map (refreshed b false) w.nodes ∙ h.count;
    took = All-nil (Took b h.kept.spine (closed b w));
    differ = λ i j d li lj ei et. absurd (omega (arith, li));
    longer = λ e. absurd (let q : false ≡ true = e in cc);
    sourced = record {
      nodes = λ q lt. let l = length_map (refreshed b false) w.nodes in let inside : q < length w.nodes = omega (arith, l, lt) in let k = length_map (log_of b) w.nodes in
          subst (λ (n : Node). KnownLog (IsKnown (map (log_of b) w.nodes) [] []) (log_of b n)) (sym (get_map (refreshed b false) w.nodes q (nobody b) (nobody b) inside))
          (was_stored (map (log_of b) w.nodes) q (log_of b (node_at b w (suc q))) (omega (arith, inside, k)) (λ d. get_map (log_of b) w.nodes q d (nobody b) inside));
      flight = All-nil (λ (x : Message). KnownBody (IsKnown (map (log_of b) w.nodes) [] []) x.body);
      history = λ place at lt. absurd (omega (arith, lt));
    };
  };
  fresh = fresh;
  empty = refl;
}
  where
    fresh : (k : ℕ) → IsFresh (node_at b (closed b w) k)
    fresh zero = (refl, refl)
    fresh (suc q) = all_fresh b w.nodes q

-- a list of nodes has each of them, with others before and after it
record Has (ks : List ℕ) (k : ℕ) : Type 0 where
  before : List ℕ
  after : List ℕ
  is : ks ≡ before ++ k ∷ after

ids_have : (n place : ℕ) → place < n → Has (ids n) (suc place)
ids_have zero place lt = absurd (omega (arith, lt))
ids_have (suc n) place lt = ⊎_elim
    (λ (x : place < n). let y = ids_have n place x in record { before = y.before; after = y.after ++ suc n ∷ []; is = ap (λ (l : List ℕ). l ++ suc n ∷ []) y.is ∙ append_assoc y.before (suc place ∷ y.after) (suc n ∷ []) })
    (λ (x : n ≤ place). record { before = ids n; after = []; is = ap (λ (k : ℕ). ids n ++ k ∷ []) (let z : suc n ≡ suc place = omega (arith, x, lt) in z) })
    (cases_lt place n)

-- where all of a list run, no base is above the greatest
base_greatest : (b : Start) (v : World) (xs ys : List ℕ) (k : ℕ) → all_up b v (xs ++ k ∷ ys) ≡ true → (node_at b v k).base ≤ greatest_base b v (xs ++ k ∷ ys)
base_greatest b v [] ys k e =
    let u = (and_parts (node_at b v k).up (all_up b v ys) e).0 in
    subst (λ (g : Bool). (node_at b v k).base ≤ max (cond g (node_at b v k).base 0) (greatest_base b v ys)) (sym u) (omega arith)
base_greatest b v (x ∷ xs) ys k e =
    let r = base_greatest b v xs ys k (and_parts (node_at b v x).up (all_up b v (xs ++ k ∷ ys)) e).1 in omega (arith, r)

-- the history of an opening
history_holds : (b : Start) (m : Machine) (s0 : Spine) (v : World) → Starting b m s0 v
    → Holds b m s0 (with_front b (ids (nodes_of b)) v)
history_holds b m s0 v o =
    let h = o.kept in
    let ks = ids (nodes_of b) in
    let u : World = with_front b ks v in
    record {
      kept = history_opens b m v h.kept ks;
      since = h.since;
      count = h.count;
      took = All-weaker (Took b h.kept.spine v) (Took b h.kept.spine u) (λ x t. record { led = t.led; within = t.within }) v.takes h.took;
      differ = h.differ;
      longer = λ e. record {
        nodes = λ place lt.
            let c = h.count in
            let y = ids_have (nodes_of b) place (omega (arith, lt, c)) in
            let z = base_greatest b v y.before y.after (suc place) (ap (all_up b v) (sym y.is) ∙ e) in
            let g = ap (greatest_base b v) y.is in
            let f = (o.fresh (suc place)).1 in
            (let r : (node_at b v (suc place)).applied ≤ greatest_base b v ks = omega (arith, z, g, f) in r);
        flight = subst (λ (xs : List Message). All (λ (x : Message). ChunkWithin (greatest_base b v ks) x.body) xs) (sym o.empty) (All-nil (λ (x : Message). ChunkWithin (greatest_base b v ks) x.body));
      };
      sourced = let x = h.sourced in record {
        nodes = x.nodes;
        flight = x.flight;
        history = λ place at lt. absurd (let f = (front_of b m v h.kept (greatest_base b v ks) ks).short in omega (arith, at, lt, f));
      };
    }

-- the opening
pub kept_opens : (b : Start) (m : Machine) (s0 : Spine) → IsFit b m → (openings : List Opening) (w : World) → Holds b m s0 w → Holds b m s0 (opens b m openings w)
kept_opens b m s0 fit openings w h =
    let all = ids (nodes_of b) in
    let v = all_start b openings all (closed b w) in
    let o : Starting b m s0 v = all_starts b m s0 openings all (closed b w) (stands_still b m s0 w h) in
    let u : World = with_front b all v in
    let p : Opens b m s0 u = record { kept = history_holds b m s0 v o; follow = λ k. (o.fresh k).0 } in
    (all_raises b m s0 fit openings (greatest_term b v all) all u p).kept
