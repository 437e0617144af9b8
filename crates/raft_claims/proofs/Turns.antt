-- Turns: one that changes nothing, two one after another, and what they leave of the other nodes.
use Rattle.std.proofs.Common.{◌≡◌, ℕ, ◌-◌, ◌≤◌, All, List, [], ◌++◌, take, refl, sym, ◌∙◌, subst, arith}
use Rattle.std.proofs.lemmas.List.Elements.{All-nil, All-append}
use Rattle.raft_types.specs.declared.entry.LogEntry.{LogEntry}
use Rattle.raft_types.specs.declared.message.Message.{Message}
use Rattle.raft_types.specs.Log.{LogParts}
use Rattle.raft_types.specs.Core.{CoreParts, Out, quiet}
use Rattle.raft_spine.specs.Start.{Start}
use Rattle.raft_spine.specs.Spine.{Spine}
use Rattle.raft_spine.specs.Moves.{Move, moved_all, actor}
use Rattle.raft_spine.specs.Laws.{Grows}
use Rattle.raft_spine.proofs.Fronts.{agree_down}
use Rattle.raft_spine.proofs.Run.{can_both, moved_both}
use Rattle.raft_spine.proofs.Grow.{decided_stays}
use Rattle.raft_claims.specs.Claims.{Claim}
use Rattle.raft_claims.specs.Tied.{Tied, StoreTied, Turned}
use Rattle.raft_spine.proofs.Others.{Leaves}

-- nothing moves, and what is sent is true already
pub turn_still : (b : Start) (len : List LogEntry → ℕ) (s : Spine) (c : CoreParts) (whole : List LogEntry) → Tied b len s c whole → (o : Out) → o.core ≡ c
    → All (λ (x : Message). (x.from ≡ c.id) × Claim b len s x.from x.to x.body) o.messages → Turned b len s c whole o whole
turn_still b len s c whole ok o e said = record {
  moves = [];
  mine = All-nil (λ (m : Move). actor m ≡ c.id);
  can = tt;
  tied = subst (λ (d : CoreParts). Tied b len s d whole) (sym e) ok;
  said = said;
  front = refl;
}

pub turn_quiet : (b : Start) (len : List LogEntry → ℕ) (s : Spine) (c : CoreParts) (whole : List LogEntry) → Tied b len s c whole → Turned b len s c whole (quiet c) whole
turn_quiet b len s c whole ok = turn_still b len s c whole ok (quiet c) refl (All-nil (λ (x : Message). (x.from ≡ c.id) × Claim b len s x.from x.to x.body))

-- a turn that sends nothing, and then another one
pub turned_then : (b : Start) (len : List LogEntry → ℕ) (s : Spine) (c : CoreParts) (whole : List LogEntry) (d : CoreParts) (mid : List LogEntry)
    → (first : Turned b len s c whole (quiet d) mid) → d.id ≡ c.id → c.log.base ≤ d.log.base
    → (o : Out) (after : List LogEntry) → Turned b len (moved_all first.moves s) d mid o after → Turned b len s c whole o after
turned_then b len s c whole d mid first i le o after second =
    let two : moved_all (first.moves ++ second.moves) s ≡ moved_all second.moves (moved_all first.moves s) = moved_both s first.moves second.moves in
    record {
      moves = first.moves ++ second.moves;
      mine = All-append (λ (m : Move). actor m ≡ c.id) first.moves second.moves first.mine
          (subst (λ (k : ℕ). All (λ (m : Move). actor m ≡ k) second.moves) i second.mine);
      can = can_both b s first.moves second.moves first.can second.can;
      tied = subst (λ (x : Spine). Tied b len x o.core after) (sym two) second.tied;
      said = subst (λ (x : Spine). All (λ (m : Message). (m.from ≡ c.id) × Claim b len x m.from m.to m.body) o.messages) (sym two)
          (subst (λ (k : ℕ). All (λ (m : Message). (m.from ≡ k) × Claim b len (moved_all second.moves (moved_all first.moves s)) m.from m.to m.body) o.messages) i second.said);
      front = agree_down (c.log.base - b.base) (d.log.base - b.base) after mid (omega arith) second.front ∙ first.front;
    }

-- a turn of a core that differs from another one in nothing that a turn begins with is a turn of that one too
pub turned_as : (b : Start) (len : List LogEntry → ℕ) (s : Spine) (c d : CoreParts) (whole : List LogEntry) → d.id ≡ c.id → d.log.base ≡ c.log.base → (o : Out) (after : List LogEntry)
    → Turned b len s d whole o after → Turned b len s c whole o after
turned_as b len s c d whole i e o after q = record {
  moves = q.moves;
  mine = subst (λ (k : ℕ). All (λ (m : Move). actor m ≡ k) q.moves) i q.mine;
  can = q.can;
  tied = q.tied;
  said = subst (λ (k : ℕ). All (λ (x : Message). (x.from ≡ k) × Claim b len (moved_all q.moves s) x.from x.to x.body) o.messages) i q.said;
  front = subst (λ (k : ℕ). take (k - b.base) after ≡ take (k - b.base) whole) e q.front;
}

-- a node that the moves of others leave stays tied, while it runs
pub tied_stays : (b : Start) (len : List LogEntry → ℕ) (s s' : Spine) → Grows s s' → (c : CoreParts) (whole : List LogEntry) → Leaves s s' c.id
    → Tied b len s c whole → Tied b len s' c whole
tied_stays b len s s' g c whole v ok = record {
  is_node = ok.is_node;
  term = v.term ∙ ok.term;
  vote = v.voted c.term ∙ ok.vote;
  log = v.log ∙ ok.log;
  stands_for = ok.stands_for;
  size = ok.size;
  based = ok.based;
  known = ok.known;
  short = ok.short;
  decided = decided_stays b s s' g c.term c.term (take (c.commit - b.base) whole) (omega arith) ok.decided;
  standing = λ r. let x = ok.standing r in record {
    late = x.late;
    not_yet = v.unled c.term x.not_yet;
    votes = λ j n e. let q = x.votes j n e in g.voted j c.term (λ z. ok.is_node (sym q ∙ z)) ∙ q;
  };
  leading = λ r. let x = ok.leading r in record {
    leads = g.leader c.term (λ z. ok.is_node (sym x.leads ∙ z)) ∙ x.leads;
    own = v.shared c.term ∙ x.own;
    matches = λ j n. let a = x.matches j n in let y = g.shared j c.term in omega arith;
    nexts = x.nexts;
  };
}

-- and while it stands still
pub store_stays : (b : Start) (len : List LogEntry → ℕ) (s s' : Spine) → Grows s s' → (k t v : ℕ) (l : LogParts) (n : ℕ) (whole : List LogEntry) → Leaves s s' k
    → StoreTied b len s k t v l n whole → StoreTied b len s' k t v l n whole
store_stays b len s s' g k t v l n whole y ok = record {
  is_node = ok.is_node;
  term = y.term ∙ ok.term;
  vote = y.voted t ∙ ok.vote;
  log = y.log ∙ ok.log;
  stands_for = ok.stands_for;
  size = ok.size;
  based = ok.based;
  short = ok.short;
  decided = decided_stays b s s' g t t (take (l.base - b.base) whole) (omega arith) ok.decided;
}
