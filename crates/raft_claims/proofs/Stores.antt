-- What a node keeps where it stops, and with what it starts again.
use Rattle.std.proofs.Common.{◌≡◌, ℕ, ◌+◌, ◌-◌, List, length, take, ap, ◌∙◌, subst, arith, take-take}
use Rattle.raft_types.specs.declared.entry.LogEntry.{LogEntry}
use Rattle.raft_types.specs.declared.state.Role.TheVariants.{Follower, Candidate, Leader}
use Rattle.raft_types.specs.Log.{LogParts, last_index}
use Rattle.raft_types.specs.Core.{CoreParts, new_core}
use Rattle.raft_spine.specs.Start.{Start}
use Rattle.raft_spine.specs.Spine.{Spine}
use Rattle.raft_spine.specs.Decided.{Decided}
use Rattle.raft_spine.proofs.Grow.{decided_front}
use Rattle.raft_claims.specs.Tied.{Tied, StoreTied}
use Rattle.raft_claims.proofs.Whole.{compact_is, compact_last}

-- a node that stops leaves its store
pub tied_stops : (b : Start) (len : List LogEntry → ℕ) (s : Spine) (c : CoreParts) (whole : List LogEntry) → Tied b len s c whole
    → StoreTied b len s c.id c.term c.vote c.log c.snapshot_len whole
tied_stops b len s c whole h =
    let k = h.known in let g = h.based in let w = h.short in
    record {
      is_node = h.is_node;
      term = h.term;
      vote = h.vote;
      log = h.log;
      stands_for = h.stands_for;
      size = h.size;
      based = h.based;
      short = omega arith;
      decided = subst (λ (p : List LogEntry). Decided b s c.term p)
          (take-take (c.log.base - b.base) (c.commit - b.base) whole (omega arith))
          (decided_front b s c.term (c.log.base - b.base) (take (c.commit - b.base) whole) h.decided);
    }

-- a node starts with its store
pub store_starts : (b : Start) (len : List LogEntry → ℕ) (s : Spine) (k nodes t v : ℕ) (l : LogParts) (n : ℕ) (whole : List LogEntry)
    → StoreTied b len s k t v l n whole → Tied b len s (new_core k nodes t v l n) whole
store_starts b len s k nodes t v l n whole h = record {
  is_node = h.is_node;
  term = h.term;
  vote = h.vote;
  log = h.log;
  stands_for = h.stands_for;
  size = h.size;
  based = h.based;
  known = omega arith;
  short = h.short;
  decided = h.decided;
  standing = λ r. absurd (let q : Follower ≡ Candidate = r in cc);
  leading = λ r. absurd (let q : Follower ≡ Leader = r in cc);
}

-- a core's log ends where the whole one does
pub tied_last : (b : Start) (len : List LogEntry → ℕ) (s : Spine) (c : CoreParts) (whole : List LogEntry) → Tied b len s c whole → last_index c.log ≡ b.base + length whole
tied_last b len s c whole ok =
    let o = ok.based in let o2 = ok.known in let o3 = ok.short in
    ap last_index (ok.stands_for ∙ compact_is b whole c.log.base o (omega arith)) ∙ compact_last b whole c.log.base o (omega arith)
