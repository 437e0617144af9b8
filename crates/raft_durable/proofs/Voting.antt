-- How term and vote change in a step.
use Rattle.std.proofs.Common.{◌≡◌, ℕ, suc, ◌+◌, ◌-◌, ◌<◌, ◌≤◌, ◌⊎◌, inl, inr, ⊎_elim, min, max, Bool, true, false, cond, nat_lt, nat_le, ◌&&◌, ◌||◌, ◌==◌, List, [], ◌∷◌, length, map, set, refl, arith, Option}
use Rattle.std.specs.Prelude.{replicate}
use Rattle.raft_types.specs.declared.entry.LogEntry.{LogEntry}
use Rattle.raft_types.specs.declared.event.CoreEvent.{CoreEvent}
use Rattle.raft_types.specs.declared.event.CoreEvent.TheVariants.{Timeout, Beat, Raise, Command, Fire, Heard}
use Rattle.raft_types.specs.declared.item.Item.{Item}
use Rattle.raft_types.specs.declared.item.Item.TheVariants.{Snap, Vote as VoteItem, Entry}
use Rattle.raft_types.specs.declared.limits.TheConstants.{MAX_TERM, MAX_INDEX, MAX_NODES, NOOP}
use Rattle.raft_types.specs.declared.message.Body.{Body}
use Rattle.raft_types.specs.declared.message.Body.TheVariants.{Vote, VoteReply, Append, AppendReply, Chunk, ChunkReply}
use Rattle.raft_types.specs.declared.message.Message.{Message}
use Rattle.raft_types.specs.declared.state.Role.TheVariants.{Follower}
use Rattle.raft_types.specs.Log.{last_index}
use Rattle.raft_types.specs.Items.{number}
use Rattle.raft_types.specs.Body.{body_term}
use Rattle.raft_types.specs.Core.{CoreParts, Out, is_leader, is_candidate, is_majority, voted_for, peers, message_to, quiet, next_of, match_of}
use Rattle.raft_types.specs.Send.{sent_to, to_all, chunk_from}
use Rattle.raft_types.specs.Commit.{committed, appends}
use Rattle.raft_types.specs.Election.{elected, leads, elects, stands, ask, times_out, with_vote_of, is_newer, may_grant}
use Rattle.raft_types.specs.Append.{follows, passes, accepts, fresh_items, acked_by, refused_by}
use Rattle.raft_types.specs.Snapshot.{installs}
use Rattle.raft_types.specs.Step.{hears, rule, with_vote, on}
use Rattle.raft_types.specs.Fits.{CoreFits, EventFits}
use Rattle.raft_durable.specs.Stores.{rises}
use Rattle.raft_durable.specs.Steps.{VoteRises, kept_of}

-- the term rises, or both stay, or a vote is given where there was none
abbrev Rises : CoreParts → CoreParts → Type 0
Rises c d = (c.term < d.term) ⊎ ((c.term ≡ d.term) × ((c.vote ≡ d.vote) ⊎ ((c.vote ≡ 0) × (1 ≤ d.vote))))

-- and a vote stays one for a node
abbrev Moves : CoreParts → CoreParts → Type 0
Moves c d = Rises c d × (c.vote ≤ MAX_NODES → d.vote ≤ MAX_NODES)

-- a rule writes no vote of its own but behind a snapshot
abbrev writes_vote : List Item → Bool
writes_vote [] = false
writes_vote (Snap index term ∷ items) = false
writes_vote (VoteItem term vote ∷ items) = true
writes_vote (Entry index term entry ∷ items) = false

record Moved (c : CoreParts) (o : Out) : Type 0 where
  moves : Moves c o.core
  plain : writes_vote o.items ≡ false

stays : (c : CoreParts) → Moves c c
stays c = (inr (refl, inl refl), λ v. v)

either : (c : CoreParts) (b : Bool) (x y : Out) → Moved c x → Moved c y → Moved c (cond b x y)
either c true x y h k = h
either c false x y h k = k

-- nothing is written
still : (a d : CoreParts) (ms : List Message) → Moves a d → Moved a (record { core = d; items = []; messages = ms })
still a d ms h = record { moves = h; plain = refl }

leading : (a c : CoreParts) → Moves a c → Moved a (leads c)
leading a c h =
    let d = elected c in
    let e = committed d in
    either a (nat_lt d.commit (last_index d.log) && nat_lt (last_index d.log) MAX_INDEX) (appends d (NOOP ∷ [])) (record { core = e; items = []; messages = to_all e })
    (record { moves = h; plain = refl }) (still a e (to_all e) h)

electing : (a c : CoreParts) (o : Out) → Moves a c → Moved a o → Moved a (elects c o)
electing a c o h k = either a (is_majority c (voted_for c)) (leads c) o (leading a c h) k

timing_out : (c : CoreParts) → c.id ≤ MAX_NODES → Moved c (times_out c)
timing_out c k =
    let d = stands c in
    let up : Moves c d = (inl (omega arith), λ v. k) in
    let o : Out = record { core = d; items = []; messages = map (ask d) (peers d) } in
    either c (is_leader c.role || (c.term == MAX_TERM)) (quiet c) (elects d o) (still c c [] (stays c)) (electing c d o up (still c d o.messages up))

plain_number : (i : ℕ) (xs : List LogEntry) → writes_vote (number i xs) ≡ false
plain_number i [] = refl
plain_number i (x ∷ xs) = refl

-- a vote is granted where there was none, or to the same node again
granted_to : (vote from : ℕ) (p a b q : Bool) → (vote == 0) ≡ a → (vote == from) ≡ b → (p && ((a || b) && q)) ≡ true → (vote ≡ from) ⊎ (vote ≡ 0)
granted_to vote from p a true q e f h = inl (grind (arith, f))
granted_to vote from p true false q e f h = inr (grind (arith, e))
granted_to vote from true false false q e f h = absurd (grind (arith, h))
granted_to vote from false false false q e f h = absurd (grind (arith, h))

granting : (c : CoreParts) (from : ℕ) (b : Bool) → 1 ≤ from → from ≤ MAX_NODES → (b ≡ true → (c.vote ≡ from) ⊎ (c.vote ≡ 0)) → Moves c (cond b (record c { vote = from }) c)
granting c from true n k h = (⊎_elim (λ (e : c.vote ≡ from). inr (refl, inl e)) (λ (e : c.vote ≡ 0). inr (refl, inr (e, n))) (h refl), λ v. k)
granting c from false n k h = stays c

heard : (c : CoreParts) (from : ℕ) (body : Body) (applied held : ℕ) → 1 ≤ from → from ≤ MAX_NODES → Moved c (hears c from body applied held)
heard c from (Vote term index last_term) applied held n k =
    let b = may_grant c from term index last_term in
    still c (cond b (record c { vote = from }) c) (message_to c from (VoteReply c.term b) ∷ [])
    (granting c from b n k (granted_to c.vote from (term == c.term) (c.vote == 0) (c.vote == from) (is_newer c index last_term) refl refl))
heard c from (VoteReply term granted) applied held n k =
    let d = with_vote_of c from in
    either c (is_candidate c.role && ((term == c.term) && granted)) (elects d (quiet d)) (quiet c) (electing c d (quiet d) (stays c) (still c d [] (stays c))) (still c c [] (stays c))
heard c from (Append term prev_index prev_term entries commit) applied held n k =
    let d = follows c from in
    let items = fresh_items d prev_index entries in
    let reached = min commit (prev_index + length entries) in
    let low : Out = record { core = c; items = []; messages = message_to c from (AppendReply c.term false 0) ∷ [] } in
    let taken : Out = record { core = accepts d items reached; items = items; messages = message_to d from (AppendReply d.term true (prev_index + length entries)) ∷ [] } in
    let refused : Out = record { core = d; items = []; messages = message_to d from (AppendReply d.term false (min (last_index d.log) (prev_index - 1))) ∷ [] } in
    either c (nat_lt term c.term) low (cond (passes d.log prev_index prev_term) taken refused) (still c c low.messages (stays c))
    (either c (passes d.log prev_index prev_term) taken refused (record { moves = stays c; plain = plain_number _ _ }) (still c d refused.messages (stays c)))
heard c from (AppendReply term ok index) applied held n k =
    either c (is_leader c.role && (term == c.term)) (cond ok (acked_by c from index) (refused_by c from index)) (quiet c)
    (either c ok (acked_by c from index) (refused_by c from index) (acked c from index) (refusing c from index)) (still c c [] (stays c))
  where
    acked : (c : CoreParts) (j index : ℕ) → Moved c (acked_by c j index)
    acked c j index = record { moves = stays c; plain = refl }

    refusing : (c : CoreParts) (j index : ℕ) → Moved c (refused_by c j index)
    refusing c j index =
        let d : CoreParts = record c { next = set c.next (j - 1) (max (suc (match_of c j)) (suc index)) } in
        either c (nat_lt (suc index) (next_of c j)) (record { core = d; items = []; messages = sent_to d j ∷ [] }) (quiet c) (still c d (sent_to d j ∷ []) (stays c)) (still c c [] (stays c))
heard c from (Chunk term index base_term offset total bytes) applied held n k =
    let d = follows c from in
    let low : Out = record { core = c; items = []; messages = message_to c from (ChunkReply c.term 0 0) ∷ [] } in
    let past : Out = record { core = d; items = []; messages = message_to d from (ChunkReply d.term index total) ∷ [] } in
    let part : Out = record { core = d; items = []; messages = message_to d from (ChunkReply d.term index held) ∷ [] } in
    let whole = installs d from index base_term total in
    either c (nat_lt term c.term) low (cond (nat_le index applied) past (cond (held == total) whole part)) (still c c low.messages (stays c))
    (either c (nat_le index applied) past (cond (held == total) whole part) (still c d past.messages (stays c))
    (either c (held == total) whole part (record { moves = stays c; plain = refl }) (still c d part.messages (stays c))))
heard c from (ChunkReply term index offset) applied held n k =
    let more : Out = record { core = c; items = []; messages = message_to c from (chunk_from c offset) ∷ [] } in
    either c (is_leader c.role && ((term == c.term) && (index == c.log.base))) (cond (nat_lt offset c.snapshot_len) more (acked_by c from index)) (quiet c)
    (either c (nat_lt offset c.snapshot_len) more (acked_by c from index) (still c c more.messages (stays c)) (record { moves = stays c; plain = refl })) (still c c [] (stays c))

-- from a node of a lower term
from_lower : (c d e : CoreParts) → c.term < d.term → d.vote ≤ MAX_NODES → Moves d e → Moves c e
from_lower c d e h k m = (
  inl (⊎_elim (λ (x : d.term < e.term). (let r : c.term < e.term = omega (arith, h, x) in r))
      (λ (x : (d.term ≡ e.term) × ((d.vote ≡ e.vote) ⊎ ((d.vote ≡ 0) × (1 ≤ e.vote)))). (let y = x.0 in let r : c.term < e.term = omega (arith, h, y) in r)) m.0),
  λ v. m.1 k,
)

less : (a b : ℕ) → nat_lt a b ≡ true → a < b
less a b h = grind arith

opening : (c : CoreParts) (term : ℕ) (b : Bool) → nat_lt c.term term ≡ b → Moves c (cond b (record c { term = term; vote = 0; leader = 0 }) c)
opening c term true e = (inl (less c.term term e), λ v. omega arith)
opening c term false e = stays c

moved : (c : CoreParts) (event : CoreEvent) → CoreFits c → EventFits c event → Moved c (rule c event)
moved c Timeout fits f = timing_out c (let a = fits.is_known in let b = fits.few in omega (arith, a, b))
moved c Beat fits f = still c c (to_all c) (stays c)
moved c (Raise term) fits f = still c (cond (nat_lt c.term term) (record c { term = term; vote = 0; leader = 0 }) c) [] (opening c term (nat_lt c.term term) refl)
moved c (Command entry) fits f = record { moves = stays c; plain = refl }
moved c (Fire entry) fits f = record { moves = stays c; plain = refl }
moved c (Heard message applied held) fits f = lifted (nat_lt c.term (body_term message.body)) refl
  where
    known : message.from ≤ MAX_NODES
    known = let a = f.from_known in let b = fits.few in omega (arith, a, b)

    lifted : (b : Bool) → nat_lt c.term (body_term message.body) ≡ b → Moved c (hears (cond b (record c { term = body_term message.body; vote = 0; role = Follower; leader = 0; votes = replicate c.nodes false }) c) message.from message.body applied held)
    lifted true e =
        let d : CoreParts = record c { term = body_term message.body; vote = 0; role = Follower; leader = 0; votes = replicate c.nodes false } in
        let h = heard d message.from message.body applied held f.from_node known in
        record { moves = from_lower c d (hears d message.from message.body applied held).core (less c.term (body_term message.body) e) (omega arith) h.moves; plain = h.plain }
    lifted false e = heard c message.from message.body applied held f.from_node known

-- what changed rises
rising : (c d : CoreParts) (now : Option (List ℕ)) → Rises c d → ((c.term == d.term) && (c.vote == d.vote)) ≡ false → rises (kept_of c now) d.term d.vote ≡ true
rising c d now m e =
    ⊎_elim (λ (x : c.term < d.term). (let r : rises (kept_of c now) d.term d.vote ≡ true = grind arith in r))
    (λ (x : (c.term ≡ d.term) × ((c.vote ≡ d.vote) ⊎ ((c.vote ≡ 0) × (1 ≤ d.vote)))).
    (let t = x.0 in
    ⊎_elim (λ (y : c.vote ≡ d.vote). (let r : rises (kept_of c now) d.term d.vote ≡ true = absurd (grind (arith, t, y, e)) in r))
    (λ (y : (c.vote ≡ 0) × (1 ≤ d.vote)). (let z = y.0 in let w = y.1 in let r : rises (kept_of c now) d.term d.vote ≡ true = grind (arith, t, z, w) in r)) x.1)) m

with_rise : (c d : CoreParts) (now : Option (List ℕ)) (items : List Item) → Moves c d → writes_vote items ≡ false → VoteRises (kept_of c now) (with_vote c d items)
with_rise c d now [] m p = chosen ((c.term == d.term) && (c.vote == d.vote)) refl
  where
    chosen : (b : Bool) → ((c.term == d.term) && (c.vote == d.vote)) ≡ b → VoteRises (kept_of c now) (cond b [] (VoteItem d.term d.vote ∷ []))
    chosen true e = tt
    chosen false e = rising c d now m.0 e
with_rise c d now (Snap index term ∷ items) m p = tt
with_rise c d now (VoteItem term vote ∷ items) m p = absurd (grind (arith, p))
with_rise c d now (Entry index term entry ∷ items) m p = chosen ((c.term == d.term) && (c.vote == d.vote)) refl
  where
    chosen : (b : Bool) → ((c.term == d.term) && (c.vote == d.vote)) ≡ b → VoteRises (kept_of c now) (cond b (Entry index term entry ∷ items) (VoteItem d.term d.vote ∷ Entry index term entry ∷ items))
    chosen true e = tt
    chosen false e = rising c d now m.0 e

-- a vote that a step writes rises
pub vote_rises : (c : CoreParts) (event : CoreEvent) (now : Option (List ℕ)) → CoreFits c → EventFits c event → VoteRises (kept_of c now) (on c event).items
vote_rises c event now fits f = let m = moved c event fits f in with_rise c (rule c event).core now (rule c event).items m.moves m.plain

-- and is for a node
pub vote_known : (c : CoreParts) (event : CoreEvent) → CoreFits c → EventFits c event → c.vote ≤ MAX_NODES → (on c event).core.vote ≤ MAX_NODES
vote_known c event fits f = (moved c event fits f).moves.1
