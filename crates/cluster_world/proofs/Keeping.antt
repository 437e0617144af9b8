-- What holds of every world that events reach, and that a node's moves keep it.
use Rattle.std.proofs.Common.{◌≡◌, ◌≢◌, ℕ, zero, suc, ◌+◌, ◌-◌, ◌<◌, ◌≤◌, true, false, All, List, [], ◌∷◌, ◌++◌, length, take, get_or, set, ◌==◌, refl, sym, ap, ◌∙◌, subst, arith, ◌⊎◌, inl, inr, ⊎_elim}
use Rattle.std.specs.Prelude.{⊤}
use Rattle.std.proofs.lemmas.Bool.{cases_eq}
use Rattle.raft_types.specs.declared.entry.LogEntry.{LogEntry}
use Rattle.raft_types.specs.declared.message.Body.{Body}
use Rattle.raft_types.specs.declared.message.Body.TheVariants.{Vote, VoteReply, Append, AppendReply, Chunk, ChunkReply}
use Rattle.raft_types.specs.declared.message.Message.{Message}
use Rattle.raft_spine.specs.Logs.{SameFirst}
use Rattle.raft_spine.specs.Start.{Start}
use Rattle.raft_spine.specs.Spine.{Spine, begin}
use Rattle.raft_spine.specs.Moves.{Move, actor, CanAll, moved_all}
use Rattle.raft_spine.specs.Laws.{Grows, IsReached}
use Rattle.raft_spine.specs.Decided.{Decided}
use Rattle.raft_spine.proofs.Run.{can_both, moved_both, reached_sound}
use Rattle.raft_spine.proofs.Grow.{grows_same, front_stays, moves_grow, decided_stays}
use Rattle.raft_spine.proofs.Fronts.{agree_down, front_fits}
use Rattle.raft_spine.proofs.Others.{leaves_all}
use Rattle.raft_spine.proofs.Sound.{Sound}
use Rattle.raft_spine.proofs.Votes.{elected_stood}
use Rattle.raft_spine.specs.Quorum.{IsQuorum}
use Rattle.raft_types.specs.declared.state.Role.{Role}
use Rattle.raft_types.specs.declared.state.Role.TheVariants.{Follower, Candidate, Leader}
use Rattle.raft_claims.specs.Claims.{Claim}
use Rattle.raft_claims.specs.Tied.{Tied}
use Rattle.raft_claims.proofs.Claims.{claim_stays}
use Rattle.raft_claims.proofs.Turns.{tied_stays}
use Rattle.cluster_world.specs.World.{Machine, Held, Node, Placed, World, nobody, log_of, core_of, last_of, node_at}
use Rattle.cluster_world.specs.Events.{with_node}
use Rattle.cluster_world.specs.Facts.{entry_of}
use Rattle.cluster_world.proofs.Steps.{ChunkWithin}
use Rattle.cluster_world.proofs.Origins.{KnownLog, KnownBody}
use Rattle.cluster_world.proofs.Roles.{LeadsHow}

-- the bytes held of a snapshot are no more than it has; what it stands for is decided
pub record HeldOf (b : Start) (len : List LogEntry → ℕ) (s : Spine) (h : Held) : Type 0 where
  pub bound : ℕ
  pub front : List LogEntry
  pub decided : Decided b s bound front
  pub at : h.index ≡ b.base + length front
  pub few : h.count ≤ len front

-- a node
pub record NodeKept (b : Start) (m : Machine) (s : Spine) (k : ℕ) (n : Node) : Type 0 where
  pub tied : Tied b m.len s (core_of b m k n) n.whole
  pub from_base : n.base ≤ n.applied
  pub to_commit : n.applied ≤ n.commit
  pub holds : (n.held.count ≡ 0) ⊎ HeldOf b m.len s n.held

-- the sender of a chunk has a snapshot at least as far, and its whole log begins as that of the leader of the term
abbrev pub ChunkOf : Start → Spine → Node → Body → Type 0
ChunkOf b s n (Vote term last_index last_term) = ⊤
ChunkOf b s n (VoteReply term granted) = ⊤
ChunkOf b s n (Append term prev_index prev_term entries commit) = ⊤
ChunkOf b s n (AppendReply term ok index) = ⊤
ChunkOf b s n (Chunk term index base_term offset total bytes) = (index ≤ n.base) × SameFirst (index - b.base) n.whole (s.leader_log term)
ChunkOf b s n (ChunkReply term index offset) = ⊤

-- a message in flight
pub record InFlight (b : Start) (m : Machine) (s : Spine) (w : World) (x : Message) : Type 0 where
  pub from_node : 1 ≤ x.from
  pub to_node : 1 ≤ x.to
  pub other : x.from ≢ x.to
  pub claim : Claim b m.len s x.from x.to x.body
  pub chunk : ChunkOf b s (node_at b w x.from) x.body

-- the history is decided, and as long as its length says; where nobody started it may be said to be shorter than the base
pub record HistoryKept (b : Start) (s : Spine) (w : World) : Type 0 where
  pub bound : ℕ
  pub decided : Decided b s bound w.history
  pub long : (w.placed ≡ b.base + length w.history) ⊎ (w.placed < b.base)

pub record Kept (b : Start) (m : Machine) (w : World) : Type 0 where
  pub spine : Spine
  pub reached : IsReached b spine
  pub nodes : (place : ℕ) → place < length w.nodes → NodeKept b m spine (suc place) (node_at b w (suc place))
  pub flight : All (InFlight b m spine w) w.flight
  pub history : HistoryKept b spine w

-- the list with one place set
get_set : {A : Type 0} (xs : List A) (i k : ℕ) (v d : A) → i < length xs → k ≡ i → get_or (set xs i v) k d ≡ v
get_set [] i k v d h e = absurd (omega arith)
get_set (x ∷ xs) zero zero v d h e = refl
get_set (x ∷ xs) zero (suc k) v d h e = absurd (omega arith)
get_set (x ∷ xs) (suc i) zero v d h e = absurd (omega arith)
get_set (x ∷ xs) (suc i) (suc k) v d h e = get_set xs i k v d (omega arith) (omega arith)

get_other : {A : Type 0} (xs : List A) (i k : ℕ) (v d : A) → k ≢ i → get_or (set xs i v) k d ≡ get_or xs k d
get_other [] i k v d h = refl
get_other (x ∷ xs) zero zero v d h = absurd (h refl)
get_other (x ∷ xs) zero (suc k) v d h = refl
get_other (x ∷ xs) (suc i) zero v d h = refl
get_other (x ∷ xs) (suc i) (suc k) v d h = get_other xs i k v d (λ e. h (ap suc e))

pub length_set : {A : Type 0} (xs : List A) (i : ℕ) (v : A) → length (set xs i v) ≡ length xs
length_set [] i v = refl
length_set (x ∷ xs) zero v = refl
length_set (x ∷ xs) (suc i) v = ap suc (length_set xs i v)

pub with_node_same : (b : Start) (w : World) (place : ℕ) (n : Node) → place < length w.nodes → node_at b (with_node (suc place) n w) (suc place) ≡ n
with_node_same b w place n h = get_set w.nodes place place n (nobody b) h refl

pub with_node_other : (b : Start) (w : World) (place : ℕ) (n : Node) (k : ℕ) → k ≢ suc place → node_at b (with_node (suc place) n w) k ≡ node_at b w k
with_node_other b w place n zero d = refl
with_node_other b w place n (suc k) d = get_other w.nodes place k n (nobody b) (λ e. d (ap suc e))

-- a node that runs is one
pub up_inside : (b : Start) (w : World) (place : ℕ) → (node_at b w (suc place)).up ≡ true → place < length w.nodes
up_inside b w place e = inside w.nodes place e
  where
    inside : (xs : List Node) (i : ℕ) → (get_or xs i (nobody b)).up ≡ true → i < length xs
    inside [] i e = absurd (let q : false ≡ true = e in cc)
    inside (x ∷ xs) zero e = omega arith
    inside (x ∷ xs) (suc i) e = let r = inside xs i e in omega arith

pub held_stays : (b : Start) (len : List LogEntry → ℕ) (s s' : Spine) → Grows s s' → (h : Held) → (h.count ≡ 0) ⊎ HeldOf b len s h → (h.count ≡ 0) ⊎ HeldOf b len s' h
held_stays b len s s' g h x = ⊎_elim
    (λ (z : h.count ≡ 0). inl z)
    (λ (y : HeldOf b len s h). inr (record { bound = y.bound; front = y.front; decided = decided_stays b s s' g y.bound y.bound y.front (omega arith) y.decided; at = y.at; few = y.few }))
    x

-- a chunk in flight stays one of its sender's, while that node keeps the entries up to its base
chunk_stays : (b : Start) (len : List LogEntry → ℕ) (s s' : Spine) → Grows s s' → (from to : ℕ) (n n' : Node) (body : Body) → Claim b len s from to body → ChunkOf b s n body
    → n.base ≤ n'.base → take (n.base - b.base) n'.whole ≡ take (n.base - b.base) n.whole → ChunkOf b s' n' body
chunk_stays b len s s' g from to n n' (Vote t li lt) c o lo f = tt
chunk_stays b len s s' g from to n n' (VoteReply t r) c o lo f = tt
chunk_stays b len s s' g from to n n' (Append t pi pt es mc) c o lo f = tt
chunk_stays b len s s' g from to n n' (AppendReply t r i) c o lo f = tt
chunk_stays b len s s' g from to n n' (Chunk t i bt off total bytes) c o lo f =
    let o0 = o.0 in let ci = c.index in let cl = c.long in
    (omega arith, agree_down (i - b.base) (n.base - b.base) n'.whole n.whole (omega arith) f ∙ (o.1 ∙ sym (front_stays s s' g t (i - b.base) c.led (omega arith))))
chunk_stays b len s s' g from to n n' (ChunkReply t i off) c o lo f = tt

-- who leads after a change led the same term before, with a log no longer, or that term had no leader
abbrev pub Further : Start → Spine → Node → Node → Type 0
Further b s n n' = n'.role ≡ Leader → ((n.role ≡ Leader) × ((n.term ≡ n'.term) × (last_of b n ≤ last_of b n'))) ⊎ (s.leader n'.term ≡ 0)

pub further_same : (b : Start) (s : Spine) (n : Node) → Further b s n n
further_same b s n = λ e. inl (e, (refl, omega arith))

role_is : (r : Role) → r ≢ Follower → (r ≡ Leader) ⊎ (r ≡ Candidate)
role_is Follower d = absurd (d refl)
role_is Candidate d = inr refl
role_is Leader d = inl refl

-- a node is no leader of a term to which it has not come
not_ahead : (b : Start) (s : Spine) → Sound b s → (k t : ℕ) → k ≢ 0 → s.term k < t → s.leader t ≢ k
not_ahead b s sound k t nz lt e =
    let el = sound.elected t (λ z. nz (sym e ∙ z)) in
    let o = elected_stood b s sound k t nz el.late (subst (λ (j : ℕ). IsQuorum b.members (λ i. s.voted i t == j)) e el.votes) in
    let v = (sound.candidates k t o.0 o.1).own_vote in
    nz (sym v ∙ sound.voted_past k t lt)

-- a leader of a term had that term's log before, if it led then, or it is the term's first leader
further_by : (b : Start) (m : Machine) (s s' : Spine) → Sound b s → Sound b s' → Grows s s' → (k : ℕ) (n n' : Node) → NodeKept b m s k n → NodeKept b m s' k n'
    → LeadsHow n.role n.term n'.role n'.term → Further b s n n'
further_by b m s s' sound sound' g k n n' ok ok' how lead = ⊎_elim
    (λ (x : (n.role ≢ Follower) × (n'.term ≡ n.term)). ⊎_elim
    (λ (r : n.role ≡ Leader). inl (r, (sym x.1, longer r (sym x.1))))
    (λ (r : n.role ≡ Candidate). inr (free (λ q. (ok.tied.standing r).not_yet (ap s.leader (sym x.1) ∙ q))))
    (role_is n.role x.0))
    (λ (x : n'.term ≡ suc n.term). let tn = ok.tied.term in inr (free (not_ahead b s sound k n'.term ok.tied.is_node (omega (arith, x, tn)))))
    (how lead)
  where
    now : s'.leader n'.term ≡ k
    now = (ok'.tied.leading lead).leads

    free : s.leader n'.term ≢ k → s.leader n'.term ≡ 0
    free d = ⊎_elim (λ (z : s.leader n'.term ≡ 0). z) (λ (z : s.leader n'.term ≢ 0). absurd (d (sym (g.leader n'.term z) ∙ now))) (cases_eq (s.leader n'.term) 0)

    longer : n.role ≡ Leader → n.term ≡ n'.term → last_of b n ≤ last_of b n'
    longer r e =
        let nz = ok.tied.is_node in
        let before : s.leader n.term ≡ k = (ok.tied.leading r).leads in
        let mine : s.leader_log n.term ≡ n.whole = ap s.leader_log (sym ok.tied.term) ∙ (sym (sound.own_log k nz (ap s.leader ok.tied.term ∙ before)) ∙ ok.tied.log) in
        let mine' : s'.leader_log n'.term ≡ n'.whole = ap s'.leader_log (sym ok'.tied.term) ∙ (sym (sound'.own_log k nz (ap s'.leader ok'.tied.term ∙ now)) ∙ ok'.tied.log) in
        let f = front_fits (s.leader_log n.term) (s'.leader_log n.term) (g.leader_log n.term (λ z. nz (sym before ∙ z))) in
        let la = ap length mine in let lb = ap length (ap s'.leader_log e ∙ mine') in
        omega (arith, f, la, lb)

-- a world that an event, or a part of one, makes of another
pub record Onward (b : Start) (m : Machine) (s : Spine) (w w' : World) : Type 0 where
  pub kept : Kept b m w'
  pub grows : Grows s kept.spine
  pub count : length w'.nodes ≡ length w.nodes
  pub further : (k : ℕ) → Further b s (node_at b w k) (node_at b w' k)
  pub takes : w'.takes ≡ w.takes

-- no node has applied more than the history's length, nor is a snapshot on its way that stands for more
pub record Within (b : Start) (w : World) : Type 0 where
  pub nodes : (place : ℕ) → place < length w.nodes → (node_at b w (suc place)).applied ≤ w.placed
  pub flight : All (λ x. ChunkWithin w.placed x.body) w.flight

-- every entry of a log, of a message in flight, and of the history past what it began with is known
pub record Sourced (K : Placed → Type 0) (b : Start) (w : World) : Type 0 where
  pub nodes : (place : ℕ) → place < length w.nodes → KnownLog K (log_of b (node_at b w (suc place)))
  pub flight : All (λ x. KnownBody K x.body) w.flight
  pub history : (place : ℕ) → w.opened_at ≤ b.base + place → place < length w.history → K (entry_of b w.history place)

-- the same, and the history stays long enough, and brings nothing that is not known
pub record Forward (b : Start) (m : Machine) (s : Spine) (K : Placed → Type 0) (w w' : World) : Type 0 where
  pub onward : Onward b m s w w'
  pub opened : w'.opened ≡ w.opened
  pub fires : w'.fires ≡ w.fires
  pub started : w'.all_started ≡ w.all_started
  pub sourced : Sourced K b w → Sourced K b w'
  pub within : w.all_started ≡ true → Within b w → Within b w'

pub within_put : (b : Start) (w : World) (place : ℕ) (n' : Node) → place < length w.nodes → Within b w → n'.applied ≤ w.placed → Within b (with_node (suc place) n' w)
within_put b w place n' inside x le = record {
  nodes = λ q lt. ⊎_elim
      (λ (e : q ≡ place). subst (λ (k : ℕ). (node_at b (with_node (suc place) n' w) (suc k)).applied ≤ w.placed) (sym e)
      (subst (λ (n : Node). n.applied ≤ w.placed) (sym (with_node_same b w place n' inside)) le))
      (λ (d : q ≢ place). let l = length_set w.nodes place n' in
      subst (λ (n : Node). n.applied ≤ w.placed) (sym (with_node_other b w place n' (suc q) (λ e. d (let z : q ≡ place = omega (arith, e) in z)))) (x.nodes q (omega (arith, lt, l))))
      (cases_eq q place);
  flight = x.flight;
}

pub sourced_put : (K : Placed → Type 0) (b : Start) (w : World) (place : ℕ) (n' : Node) → place < length w.nodes → Sourced K b w → KnownLog K (log_of b n') → Sourced K b (with_node (suc place) n' w)
sourced_put K b w place n' inside x kl = record {
  nodes = λ q lt. ⊎_elim
      (λ (e : q ≡ place). subst (λ (k : ℕ). KnownLog K (log_of b (node_at b (with_node (suc place) n' w) (suc k)))) (sym e)
      (subst (λ (n : Node). KnownLog K (log_of b n)) (sym (with_node_same b w place n' inside)) kl))
      (λ (d : q ≢ place). let l = length_set w.nodes place n' in
      subst (λ (n : Node). KnownLog K (log_of b n)) (sym (with_node_other b w place n' (suc q) (λ e. d (let z : q ≡ place = omega (arith, e) in z)))) (x.nodes q (omega (arith, lt, l))))
      (cases_eq q place);
  flight = x.flight;
  history = x.history;
}

pub onward_same : (b : Start) (m : Machine) (w : World) (h : Kept b m w) → Onward b m h.spine w w
onward_same b m w h = record { kept = h; grows = grows_same h.spine; count = refl; further = λ k. further_same b h.spine (node_at b w k); takes = refl }

pub forward_same : (b : Start) (m : Machine) (K : Placed → Type 0) (w : World) (h : Kept b m w) → Forward b m h.spine K w w
forward_same b m K w h = record { onward = onward_same b m w h; opened = refl; fires = refl; started = refl; within = λ e x. x; sourced = λ x. x }

-- what becomes of a node by its own moves
pub record Becomes (b : Start) (m : Machine) (s : Spine) (k : ℕ) (n n' : Node) : Type 0 where
  pub moves : List Move
  pub mine : All (λ x. actor x ≡ k) moves
  pub can : CanAll b s moves
  pub kept : NodeKept b m (moved_all moves s) k n'
  pub base : n.base ≤ n'.base
  pub front : take (n.base - b.base) n'.whole ≡ take (n.base - b.base) n.whole
  pub how : LeadsHow n.role n.term n'.role n'.term

pub reached_more : (b : Start) (s : Spine) (ms : List Move) → IsReached b s → CanAll b s ms → IsReached b (moved_all ms s)
reached_more b s ms r c = record {
  start = r.start;
  moves = r.moves ++ ms;
  can = can_both b (begin b) r.moves ms r.can (subst (λ (x : Spine). CanAll b x ms) (sym r.is) c);
  is = moved_both (begin b) r.moves ms ∙ ap (moved_all ms) r.is;
}

module _ (b : Start) (m : Machine) (w : World) (h : Kept b m w) (place : ℕ) (inside : place < length w.nodes) (n' : Node) (x : Becomes b m h.spine (suc place) (node_at b w (suc place)) n') where
  abbrev pub then_spine : Spine
  then_spine = moved_all x.moves h.spine

  abbrev pub then_world : World
  then_world = with_node (suc place) n' w

  pub grown : Grows h.spine (moved_all x.moves h.spine)
  grown = moves_grow b h.reached.start.low h.spine (reached_sound b h.spine h.reached) x.moves x.can

  other_stays : (k : ℕ) → k ≢ suc place → NodeKept b m h.spine k (node_at b w k) → NodeKept b m (moved_all x.moves h.spine) k (node_at b w k)
  other_stays k d y =
      let low = h.reached.start.low in
      let sound = reached_sound b h.spine h.reached in
      record {
        tied = tied_stays b m.len h.spine (moved_all x.moves h.spine) grown (core_of b m k (node_at b w k)) (node_at b w k).whole
            (leaves_all b low h.spine sound (suc place) x.moves x.can x.mine k y.tied.is_node d) y.tied;
        from_base = y.from_base;
        to_commit = y.to_commit;
        holds = held_stays b m.len h.spine (moved_all x.moves h.spine) grown (node_at b w k).held y.holds;
      }

  pub nodes_then : (q : ℕ) → q < length (set w.nodes place n') → NodeKept b m (moved_all x.moves h.spine) (suc q) (node_at b (with_node (suc place) n' w) (suc q))
  nodes_then q lt = ⊎_elim
      (λ (e : q ≡ place). subst (λ (k : ℕ). NodeKept b m (moved_all x.moves h.spine) (suc k) (node_at b (with_node (suc place) n' w) (suc k))) (sym e)
      (subst (λ (n : Node). NodeKept b m (moved_all x.moves h.spine) (suc place) n) (sym (with_node_same b w place n' inside)) x.kept))
      (λ (d : q ≢ place). let l = length_set w.nodes place n' in
      subst (λ (n : Node). NodeKept b m (moved_all x.moves h.spine) (suc q) n) (sym (with_node_other b w place n' (suc q) (λ e. d (let z : q ≡ place = omega arith in z))))
      (other_stays (suc q) (λ e. d (let z : q ≡ place = omega arith in z)) (h.nodes q (omega arith))))
      (cases_eq q place)

  one_flight : (y : Message) → InFlight b m h.spine w y → InFlight b m (moved_all x.moves h.spine) (with_node (suc place) n' w) y
  one_flight y f =
      let chunk : ChunkOf b (moved_all x.moves h.spine) (node_at b (with_node (suc place) n' w) y.from) y.body = ⊎_elim
      (λ (e : y.from ≡ suc place).
      subst (λ (k : ℕ). ChunkOf b (moved_all x.moves h.spine) (node_at b (with_node (suc place) n' w) k) y.body) (sym e)
      (subst (λ (n : Node). ChunkOf b (moved_all x.moves h.spine) n y.body) (sym (with_node_same b w place n' inside))
      (chunk_stays b m.len h.spine (moved_all x.moves h.spine) grown y.from y.to (node_at b w (suc place)) n' y.body f.claim (subst (λ (k : ℕ). ChunkOf b h.spine (node_at b w k) y.body) e f.chunk) x.base x.front)))
      (λ (d : y.from ≢ suc place).
      subst (λ (n : Node). ChunkOf b (moved_all x.moves h.spine) n y.body) (sym (with_node_other b w place n' y.from d))
      (chunk_stays b m.len h.spine (moved_all x.moves h.spine) grown y.from y.to (node_at b w y.from) (node_at b w y.from) y.body f.claim f.chunk (omega arith) refl))
      (cases_eq y.from (suc place)) in
      let tn = f.to_node in
      record {
        from_node = f.from_node;
        to_node = f.to_node;
        other = f.other;
        claim = claim_stays b m.len h.spine (moved_all x.moves h.spine) grown y.from y.to y.body (λ z. (let r : ⊥ = omega arith in r)) f.claim;
        chunk = chunk;
      }

  pub flight_then : All (InFlight b m (moved_all x.moves h.spine) (with_node (suc place) n' w)) w.flight
  flight_then k d lt = one_flight (get_or w.flight k d) (h.flight k d lt)

  pub history_then : HistoryKept b (moved_all x.moves h.spine) w
  history_then = let y = h.history in record { bound = y.bound; decided = decided_stays b h.spine (moved_all x.moves h.spine) grown y.bound y.bound w.history (omega arith) y.decided; long = y.long }

  -- the world with the node changed
  abbrev pub kept_node : Kept b m (with_node (suc place) n' w)
  kept_node =
      let y = history_then in
      record {
        spine = moved_all x.moves h.spine;
        reached = reached_more b h.spine x.moves h.reached x.can;
        nodes = nodes_then;
        flight = flight_then;
        history = record { bound = y.bound; decided = y.decided; long = y.long };
      }

  pub further_there : (k : ℕ) → Further b h.spine (node_at b w k) (node_at b (with_node (suc place) n' w) k)
  further_there k = ⊎_elim
      (λ (e : k ≡ suc place).
      subst (λ (j : ℕ). Further b h.spine (node_at b w j) (node_at b (with_node (suc place) n' w) j)) (sym e)
      (subst (λ (n : Node). Further b h.spine (node_at b w (suc place)) n) (sym (with_node_same b w place n' inside))
      (further_by b m h.spine (moved_all x.moves h.spine) (reached_sound b h.spine h.reached) (reached_sound b (moved_all x.moves h.spine) (reached_more b h.spine x.moves h.reached x.can)) grown (suc place)
      (node_at b w (suc place)) n' (h.nodes place inside) x.kept x.how)))
      (λ (d : k ≢ suc place). subst (λ (n : Node). Further b h.spine (node_at b w k) n) (sym (with_node_other b w place n' k d)) (further_same b h.spine (node_at b w k)))
      (cases_eq k (suc place))

  abbrev pub onward_node : Onward b m h.spine w (with_node (suc place) n' w)
  onward_node = record { kept = kept_node; grows = grown; count = length_set w.nodes place n'; further = further_there; takes = refl }
