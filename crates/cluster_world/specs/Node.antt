-- What becomes of one node: in an event that it ends, where it stops in one, and as it puts a snapshot in place of items.
use Rattle.std.specs.Prelude.{ℕ, zero, suc, ◌+◌, ◌-◌, min, max, Bool, true, false, ◌&&◌, nat_lt, nat_le, ◌==◌, if◌then◌else◌, List, length, take}
use Rattle.raft_types.specs.declared.limits.TheConstants.{MAX_CHUNK}
use Rattle.raft_types.specs.declared.entry.LogEntry.{LogEntry}
use Rattle.raft_types.specs.declared.item.Item.{Item}
use Rattle.raft_types.specs.declared.message.Body.{Body}
use Rattle.raft_types.specs.declared.message.Body.TheVariants.{Vote, VoteReply, Append, AppendReply, Chunk, ChunkReply}
use Rattle.raft_types.specs.Items.{log_after, term_after, vote_after}
use Rattle.raft_types.specs.Core.{Out}
use Rattle.raft_types.specs.Step.{starts_anew}
use Rattle.raft_spine.specs.Start.{Start}
use Rattle.raft_claims.specs.Events.{whole_after}
use Rattle.cluster_world.specs.World.{Machine, Held, nothing_held, Node, log_of, fresh_node, last_of}

-- a chunk of a snapshot that the node needs: of no lower term, and past what is applied
abbrev pub needs : Node → ℕ → ℕ → Bool
needs n term index = nat_le n.term term && nat_lt n.applied index

-- the bytes held with a chunk: those held of this very snapshot, and those of the chunk where they go on from there; a chunk
-- has all bytes from its offset on, but no more than 65,536
abbrev pub with_chunk : Held → ℕ → ℕ → ℕ → ℕ → Held
with_chunk h index base_term offset total =
    let had = (if (h.index == index) && (h.base_term == base_term) then h.count else 0) in
    record { index = index; base_term = base_term; count = (if offset == had then had + min MAX_CHUNK (total - offset) else had) }

-- the bytes held after a message arrived
abbrev pub arrived : Node → Body → Held
arrived n (Vote term last_index last_term) = n.held
arrived n (VoteReply term granted) = n.held
arrived n (Append term prev_index prev_term entries commit) = n.held
arrived n (AppendReply term ok index) = n.held
arrived n (Chunk term index base_term offset total bytes) = (if needs n term index then with_chunk n.held index base_term offset total else n.held)
arrived n (ChunkReply term index offset) = n.held

-- how many of them the core is told of
abbrev pub told_of : Node → Body → ℕ
told_of n (Vote term last_index last_term) = 0
told_of n (VoteReply term granted) = 0
told_of n (Append term prev_index prev_term entries commit) = 0
told_of n (AppendReply term ok index) = 0
told_of n (Chunk term index base_term offset total bytes) = (if needs n term index then (with_chunk n.held index base_term offset total).count else 0)
told_of n (ChunkReply term index offset) = 0

-- applying in order the entries above an index, n of them at most: up to the first that the machine can't take
abbrev pub applies : Start → Machine → List LogEntry → ℕ → ℕ → ℕ
applies b m whole applied zero = applied
applies b m whole applied (suc n) = (if m.takes (take (suc applied - b.base) whole) then applies b m whole (suc applied) n else applied)

-- the items of a store after more of them, which may start it anew
abbrev pub count_after : ℕ → List Item → ℕ
count_after count items = (if starts_anew items then length items else count + length items)

-- up to where the machine is after an event, before the entries that are committed now are applied: a snapshot that was
-- installed is applied as a whole
abbrev pub applied_before : Node → ℕ → ℕ
applied_before n base = max n.applied base

-- a node that ends an event: what comes out of its step, its items written, and what is committed applied
abbrev pub ended : Start → Machine → List LogEntry → Node → Held → Out → Node
ended b m sender n held o =
    let whole = whole_after b sender n.whole o.items in
    let before = applied_before n o.core.log.base in
    record {
      term = o.core.term;
      vote = o.core.vote;
      whole = whole;
      base = o.core.log.base;
      count = count_after n.count o.items;
      up = true;
      role = o.core.role;
      leader = o.core.leader;
      commit = o.core.commit;
      applied = applies b m whole before (o.core.commit - before);
      votes = o.core.votes;
      next = o.core.next;
      «match» = o.core.«match»;
      held = (if starts_anew o.items then nothing_held else held);
    }

-- a node that stops in an event: these items are in its store
abbrev pub halted : Start → List LogEntry → Node → List Item → Node
halted b sender n items =
    fresh_node b false (term_after n.term items) (vote_after n.vote items) (whole_after b sender n.whole items)
    (log_after (log_of b n) items).base (count_after n.count items)

-- a store of this many items, beside one for each entry that is not applied, is put in order; this project's own
abbrev pub TIDY_ITEMS : ℕ
TIDY_ITEMS = 1024

-- the store has so many items that a snapshot takes their place
abbrev pub is_due : Start → Node → Bool
is_due b n = nat_le (TIDY_ITEMS + (last_of b n - n.applied)) n.count

-- the node whose store is a snapshot of what is applied, the term and vote, and the entries above
abbrev pub tidied : Start → Node → Node
tidied b n = record n { base = n.applied; count = 2 + (last_of b n - n.applied) }

-- the same, where it is due
abbrev pub tidied_if_due : Start → Node → Node
tidied_if_due b n = (if is_due b n then tidied b n else n)
