-- A compacted log stands for the whole one, in every event of every world that events reach.
use Rattle.std.proofs.Common.{◌≡◌, ℕ, zero, suc, false, true, List, [], refl, subst, arith}
use Rattle.raft_types.specs.declared.event.CoreEvent.{CoreEvent}
use Rattle.raft_types.specs.declared.event.CoreEvent.TheVariants.{Timeout, Beat, Raise, Command, Fire, Heard}
use Rattle.raft_types.specs.declared.message.Message.{Message}
use Rattle.raft_spine.specs.Start.{Start}
use Rattle.raft_claims.specs.Events.{Asked, IsHeard}
use Rattle.raft_claims.proofs.EventTurns.{event_turn}
use Rattle.raft_types.specs.declared.entry.LogEntry.{LogEntry}
use Rattle.cluster_world.specs.World.{Machine, Held, Node, World, core_of, node_at}
use Rattle.cluster_world.specs.Node.{arrived, told_of}
use Rattle.cluster_world.specs.Facts.{IsFit, Runs, MayHave, StandsFor, StandsForWhole}
use Rattle.cluster_world.proofs.Keeping.{NodeKept, InFlight, Kept, up_inside}
use Rattle.cluster_world.proofs.NodeEvents.{core_is}
use Rattle.cluster_world.proofs.Worlds.{asked_of}

module _ (b : Start) (m : Machine) (fit : IsFit b m) (w : World) (h : Kept b m w) where
  running : (k : ℕ) → Runs b w k → NodeKept b m h.spine k (node_at b w k)
  running zero r = absurd (let q : false ≡ true = r in cc)
  running (suc place) r = h.nodes place (up_inside b w place r)

  asked : (k : ℕ) (event : CoreEvent) → MayHave (node_at b w k) event → Asked b m.len h.spine (core_of b m k (node_at b w k)) [] event
  asked k Timeout a = tt
  asked k Beat a = a
  asked k (Raise t) a = a
  asked k (Command e) a = a
  asked k (Fire e) a = a
  asked k (Heard x applied held) a = absurd a

  by_turn : (k : ℕ) (n : Node) (ok : NodeKept b m h.spine k n) (sender : List LogEntry) (event : CoreEvent) → Asked b m.len h.spine (core_of b m k n) sender event
      → (held : Held) → StandsFor b m k sender n held event
  by_turn k n ok sender event a held =
      core_is b m h.spine k n ok sender event held (event_turn b m.len fit.sizes h.spine h.reached (core_of b m k n) n.whole ok.tied fit.members sender event a)

  heard : (x : Message) → InFlight b m h.spine w x → (r : Runs b w x.to) → IsHeard b m.len h.spine (core_of b m x.to (node_at b w x.to)) (node_at b w x.from).whole x (node_at b w x.to).applied (told_of (node_at b w x.to) x.body)
  heard x f r =
      let ok = running x.to r in
      let fn = f.from_node in
      record {
        from_node = λ z. (let q : ⊥ = omega (arith, z, fn) in q);
        from_other = f.other;
        to_this = refl;
        claim = f.claim;
        from_base = ok.from_base;
        to_commit = ok.to_commit;
        of_sender = asked_of b m fit w h x.to (node_at b w x.to) ok x.from x.to (node_at b w x.from) x.body f.claim f.chunk;
      }

  pub stands_for_whole : StandsForWhole b m w
  stands_for_whole = record {
    own = λ k event r a. by_turn k (node_at b w k) (running k r) [] event (asked k event a) (node_at b w k).held;
    arrives = λ x r i.
        let f : InFlight b m h.spine w x = subst (λ (y : Message). InFlight b m h.spine w y) (i.is x) (h.flight i.place x i.there) in
        by_turn x.to (node_at b w x.to) (running x.to r) (node_at b w x.from).whole (Heard x (node_at b w x.to).applied (told_of (node_at b w x.to) x.body)) (heard x f r)
        (arrived (node_at b w x.to) x.body);
  }
