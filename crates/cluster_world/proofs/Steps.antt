-- What a step does to base and commit, and to whom it sends.
use Rattle.std.proofs.Common.{◌≡◌, ◌≢◌, ℕ, suc, ◌+◌, ◌-◌, ◌≤◌, min, max, Bool, true, false, cond, nat_lt, nat_le, ◌&&◌, ◌||◌, ◌==◌, All, List, [], ◌∷◌, map, set, length, replicate, refl, ◌∙◌, arith}
use Rattle.std.specs.Prelude.{⊤}
use Rattle.std.proofs.lemmas.Bool.{leb-false}
use Rattle.std.proofs.lemmas.List.Elements.{All-nil, All-cons}
use Rattle.raft_types.specs.declared.limits.TheConstants.{MAX_TERM, MAX_INDEX, NOOP}
use Rattle.raft_types.specs.declared.entry.LogEntry.{LogEntry}
use Rattle.raft_types.specs.declared.event.CoreEvent.TheVariants.{Timeout, Beat, Raise, Command, Fire, Heard}
use Rattle.raft_types.specs.declared.item.Item.{Item}
use Rattle.raft_types.specs.declared.message.Body.{Body}
use Rattle.raft_types.specs.declared.message.Body.TheVariants.{Vote, VoteReply, Append, AppendReply, Chunk, ChunkReply}
use Rattle.raft_types.specs.declared.message.Message.{Message}
use Rattle.raft_types.specs.declared.state.Role.TheVariants.{Follower}
use Rattle.raft_types.specs.Log.{last_index}
use Rattle.raft_types.specs.Body.{body_term}
use Rattle.raft_types.specs.Core.{CoreParts, Out, is_leader, is_candidate, is_majority, voted_for, next_of, match_of, peers, message_to, quiet}
use Rattle.raft_types.specs.Send.{chunk_from, append_from, sent_to, to_all}
use Rattle.raft_types.specs.Commit.{with_entry, committed, appends}
use Rattle.raft_types.specs.Election.{raised, elected, leads, elects, stands, ask, times_out, may_grant, hears_vote, with_vote_of, hears_vote_reply}
use Rattle.raft_types.specs.Append.{follows, passes, accepts, fresh_items, hears_append, acked_by, refused_by, hears_append_reply}
use Rattle.raft_types.specs.Snapshot.{installed, installs, hears_chunk, hears_chunk_reply}
use Rattle.raft_types.specs.Step.{hears, opens_in, on}
use Rattle.raft_types.proofs.Commits.{commit_range}
use Rattle.raft_types.proofs.Sends.{all_sent}

-- a chunk is of the core's own snapshot, and in its term
abbrev pub OwnChunk : CoreParts → Body → Type 0
OwnChunk d (Vote term last_index last_term) = ⊤
OwnChunk d (VoteReply term granted) = ⊤
OwnChunk d (Append term prev_index prev_term entries commit) = ⊤
OwnChunk d (AppendReply term ok index) = ⊤
OwnChunk d (Chunk term index base_term offset total bytes) = (term ≡ d.term) × (index ≡ d.log.base)
OwnChunk d (ChunkReply term index offset) = ⊤

-- a message goes to another node
pub record Goes (d : CoreParts) (x : Message) : Type 0 where
  pub to_node : 1 ≤ x.to
  pub to_other : x.to ≢ d.id
  pub chunk : OwnChunk d x.body

-- a chunk is of a snapshot up to this index at most
abbrev pub ChunkWithin : ℕ → Body → Type 0
ChunkWithin high (Vote term last_index last_term) = ⊤
ChunkWithin high (VoteReply term granted) = ⊤
ChunkWithin high (Append term prev_index prev_term entries commit) = ⊤
ChunkWithin high (AppendReply term ok index) = ⊤
ChunkWithin high (Chunk term index base_term offset total bytes) = index ≤ high
ChunkWithin high (ChunkReply term index offset) = ⊤

-- a core of node k, whose base is no lower than one index and no higher than another, and which has committed what is applied
pub record IsPast (k low high applied : ℕ) (d : CoreParts) : Type 0 where
  pub same : d.id ≡ k
  pub base : low ≤ d.log.base
  pub below : d.log.base ≤ high
  pub commit : applied ≤ d.commit

-- what comes out of a step
pub record Steps (k low high applied : ℕ) (o : Out) : Type 0 where
  pub past : IsPast k low high applied o.core
  pub goes : All (Goes o.core) o.messages

module _ (k low high applied : ℕ) where
  abbrev P : CoreParts → Type 0
  P d = IsPast k low high applied d

  abbrev S : Out → Type 0
  S o = Steps k low high applied o

  either : (g : Bool) (x y : Out) → (g ≡ true → Steps k low high applied x) → (g ≡ false → Steps k low high applied y) → Steps k low high applied (cond g x y)
  either true x y p q = p refl
  either false x y p q = q refl

  writes : (d : CoreParts) (items : List Item) → P d → S (record { core = d; items = items; messages = [] })
  writes d items p = record { past = p; goes = All-nil (Goes d) }

  one : (d : CoreParts) (items : List Item) (x : Message) → P d → Goes d x → S (record { core = d; items = items; messages = x ∷ [] })
  one d items x p g = record { past = p; goes = All-cons (Goes d) x [] g (All-nil (Goes d)) }

  to_one : (d : CoreParts) (j : ℕ) → 1 ≤ j → j ≢ d.id → Goes d (sent_to d j)
  to_one d j n o = record { to_node = n; to_other = o; chunk = chosen (nat_le (next_of d j) d.log.base) }
    where
      chosen : (g : Bool) → OwnChunk d (cond g (chunk_from d 0) (append_from d (next_of d j)))
      chosen true = (refl, refl)
      chosen false = tt

  to_peers : (d : CoreParts) → All (Goes d) (to_all d)
  to_peers d = all_sent (Goes d) (sent_to d) d.id d.nodes (λ j p. to_one d j p.node p.other)

  commits : (c : CoreParts) → P c → P (committed c)
  commits c p = let r = (commit_range c (last_index c.log - c.commit)).0 in let w = p.commit in record { same = p.same; base = p.base; below = p.below; commit = omega (arith, r, w) }

  commits_all : (c : CoreParts) → P c → S (record { core = committed c; items = []; messages = to_all (committed c) })
  commits_all c p = record { past = commits c p; goes = to_peers (committed c) }

  own : (c : CoreParts) (e : List ℕ) → P c → S (appends c e)
  own c e p =
      let q : IsPast k low high applied (with_entry c e) = record { same = p.same; base = p.base; below = p.below; commit = p.commit } in
      record { past = commits (with_entry c e) q; goes = to_peers (committed (with_entry c e)) }

  leading : (c : CoreParts) → P c → S (leads c)
  leading c p =
      let d = elected c in
      let q : IsPast k low high applied (elected c) = record { same = p.same; base = p.base; below = p.below; commit = p.commit } in
      either (nat_lt d.commit (last_index d.log) && nat_lt (last_index d.log) MAX_INDEX) (appends d (NOOP ∷ [])) (record { core = committed d; items = []; messages = to_all (committed d) })
      (λ z. own d (NOOP ∷ []) q) (λ z. commits_all d q)

  electing : (c : CoreParts) (o : Out) → P c → S o → S (elects c o)
  electing c o p s = either (is_majority c (voted_for c)) (leads c) o (λ z. leading c p) (λ z. s)

  timing_out : (c : CoreParts) → P c → S (times_out c)
  timing_out c p =
      let d = stands c in
      let q : IsPast k low high applied (stands c) = record { same = p.same; base = p.base; below = p.below; commit = p.commit } in
      let asks : Out = record { core = d; items = []; messages = map (ask d) (peers d) } in
      either (is_leader c.role || (c.term == MAX_TERM)) (quiet c) (elects d asks) (λ z. writes c [] p)
      (λ z. electing d asks q (record { past = q; goes = all_sent (Goes d) (ask d) d.id d.nodes (λ j y. record { to_node = y.node; to_other = y.other; chunk = tt }) }))

  module _ (from : ℕ) (node : 1 ≤ from) (other : from ≢ k) where
    back : (d : CoreParts) → P d → from ≢ d.id
    back d p e = other (e ∙ p.same)

    following : (c : CoreParts) → P c → P (follows c from)
    following c p = record { same = p.same; base = p.base; below = p.below; commit = p.commit }

    voting : (c : CoreParts) (t li lt : ℕ) → P c → S (hears_vote c from t li lt)
    voting c t li lt p = answer (may_grant c from t li lt)
      where
        answer : (g : Bool) → S (record { core = cond g (record c { vote = from }) c; items = []; messages = message_to c from (VoteReply c.term g) ∷ [] })
        answer true = one (record c { vote = from }) [] (message_to c from (VoteReply c.term true)) (record { same = p.same; base = p.base; below = p.below; commit = p.commit })
            (record { to_node = node; to_other = back c p; chunk = tt })
        answer false = one c [] (message_to c from (VoteReply c.term false)) p (record { to_node = node; to_other = back c p; chunk = tt })

    voted : (c : CoreParts) (t : ℕ) (granted : Bool) → P c → S (hears_vote_reply c from t granted)
    voted c t granted p =
        let d = with_vote_of c from in
        let q : IsPast k low high applied (with_vote_of c from) = record { same = p.same; base = p.base; below = p.below; commit = p.commit } in
        either (is_candidate c.role && ((t == c.term) && granted)) (elects d (quiet d)) (quiet c) (λ z. electing d (quiet d) q (writes d [] q)) (λ z. writes c [] p)

    appending : (c : CoreParts) (t pi pt : ℕ) (es : List LogEntry) (mc : ℕ) → P c → S (hears_append c from t pi pt es mc)
    appending c t pi pt es mc p =
        let d = follows c from in
        let n = p.commit in
        let items = fresh_items d pi es in
        let lower : Out = record { core = c; items = []; messages = message_to c from (AppendReply c.term false 0) ∷ [] } in
        let taken : Out = record { core = accepts d items (min mc (pi + length es)); items = items; messages = message_to d from (AppendReply d.term true (pi + length es)) ∷ [] } in
        let refused : Out = record { core = d; items = []; messages = message_to d from (AppendReply d.term false (min (last_index d.log) (pi - 1))) ∷ [] } in
        either (nat_lt t c.term) lower (cond (passes d.log pi pt) taken refused)
        (λ z. one c [] (message_to c from (AppendReply c.term false 0)) p (record { to_node = node; to_other = back c p; chunk = tt }))
        (λ z. either (passes d.log pi pt) taken refused
        (λ y. one (accepts d items (min mc (pi + length es))) items (message_to d from (AppendReply d.term true (pi + length es))) (record { same = p.same; base = p.base; below = p.below; commit = omega (arith, n) })
        (record { to_node = node; to_other = back c p; chunk = tt }))
        (λ y. one d [] (message_to d from (AppendReply d.term false (min (last_index d.log) (pi - 1)))) (following c p) (record { to_node = node; to_other = back c p; chunk = tt })))

    acked : (c : CoreParts) (index : ℕ) → P c → S (acked_by c from index)
    acked c index p =
        let m = max (match_of c from) index in
        let d : CoreParts = record c { «match» = set c.«match» (from - 1) m; next = set c.next (from - 1) (suc m) } in
        let q : IsPast k low high applied (committed d) = commits d (record { same = p.same; base = p.base; below = p.below; commit = p.commit }) in
        record { past = q; goes = chosen (committed d) q (nat_lt c.commit (committed d).commit) (nat_lt (match_of c from) m && nat_le (suc m) (last_index d.log)) }
      where
        chosen : (e : CoreParts) → P e → (g f : Bool) → All (Goes e) (cond g (to_all e) (cond f (sent_to e from ∷ []) []))
        chosen e q true f = to_peers e
        chosen e q false true = All-cons (Goes e) (sent_to e from) [] (to_one e from node (back e q)) (All-nil (Goes e))
        chosen e q false false = All-nil (Goes e)

    refused : (c : CoreParts) (index : ℕ) → P c → S (refused_by c from index)
    refused c index p =
        let d : CoreParts = record c { next = set c.next (from - 1) (max (suc (match_of c from)) (suc index)) } in
        let q : IsPast k low high applied d = record { same = p.same; base = p.base; below = p.below; commit = p.commit } in
        either (nat_lt (suc index) (next_of c from)) (record { core = d; items = []; messages = sent_to d from ∷ [] }) (quiet c)
        (λ z. one d [] (sent_to d from) q (to_one d from node (back d q))) (λ z. writes c [] p)

    replied : (c : CoreParts) (t : ℕ) (taken : Bool) (index : ℕ) → P c → S (hears_append_reply c from t taken index)
    replied c t taken index p =
        either (is_leader c.role && (t == c.term)) (cond taken (acked_by c from index) (refused_by c from index)) (quiet c)
        (λ z. either taken (acked_by c from index) (refused_by c from index) (λ y. acked c index p) (λ y. refused c index p)) (λ z. writes c [] p)

    chunk_replied : (c : CoreParts) (t index off : ℕ) → P c → S (hears_chunk_reply c from t index off)
    chunk_replied c t index off p =
        let sends : Out = record { core = c; items = []; messages = message_to c from (chunk_from c off) ∷ [] } in
        either (is_leader c.role && ((t == c.term) && (index == c.log.base))) (cond (nat_lt off c.snapshot_len) sends (acked_by c from index)) (quiet c)
        (λ z. either (nat_lt off c.snapshot_len) sends (acked_by c from index)
        (λ y. one c [] (message_to c from (chunk_from c off)) p (record { to_node = node; to_other = back c p; chunk = (refl, refl) })) (λ y. acked c index p)) (λ z. writes c [] p)

    chunked : (c : CoreParts) (t index bt total held : ℕ) → low ≤ applied → index ≤ high → P c → S (hears_chunk c from t index bt total applied held)
    chunked c t index bt total held le fits p =
        let d = follows c from in
        let lower : Out = record { core = c; items = []; messages = message_to c from (ChunkReply c.term 0 0) ∷ [] } in
        let past : Out = record { core = d; items = []; messages = message_to d from (ChunkReply d.term index total) ∷ [] } in
        let part : Out = record { core = d; items = []; messages = message_to d from (ChunkReply d.term index held) ∷ [] } in
        either (nat_lt t c.term) lower (cond (nat_le index applied) past (cond (held == total) (installs d from index bt total) part))
        (λ z. one c [] (message_to c from (ChunkReply c.term 0 0)) p (record { to_node = node; to_other = back c p; chunk = tt }))
        (λ z. either (nat_le index applied) past (cond (held == total) (installs d from index bt total) part)
        (λ y. one d [] (message_to d from (ChunkReply d.term index total)) (following c p) (record { to_node = node; to_other = back c p; chunk = tt }))
        (λ y. let w = leb-false index applied y in either (held == total) (installs d from index bt total) part
        (λ x. one (installed d index bt total) (installs d from index bt total).items (message_to d from (ChunkReply d.term index total)) (record { same = p.same; base = omega (arith, w, le); below = fits; commit = omega (arith, w) })
        (record { to_node = node; to_other = back c p; chunk = tt }))
        (λ x. one d [] (message_to d from (ChunkReply d.term index held)) (following c p) (record { to_node = node; to_other = back c p; chunk = tt }))))

    heard : (c : CoreParts) (body : Body) (held : ℕ) → low ≤ applied → ChunkWithin high body → P c → S (hears c from body applied held)
    heard c (Vote t li lt) held le f p = voting c t li lt p
    heard c (VoteReply t granted) held le f p = voted c t granted p
    heard c (Append t pi pt es mc) held le f p = appending c t pi pt es mc p
    heard c (AppendReply t taken index) held le f p = replied c t taken index p
    heard c (Chunk t index bt off total bytes) held le f p = chunked c t index bt total held le f p
    heard c (ChunkReply t index off) held le f p = chunk_replied c t index off p

  raising : (c : CoreParts) (t : ℕ) → P c → P (raised c t)
  raising c t p = answer (nat_lt c.term t)
    where
      answer : (g : Bool) → P (cond g (record c { term = t; vote = 0; role = Follower; leader = 0; votes = replicate c.nodes false }) c)
      answer true = record { same = p.same; base = p.base; below = p.below; commit = p.commit }
      answer false = p

  opening : (c : CoreParts) (t : ℕ) → P c → S (opens_in c t)
  opening c t p = answer (nat_lt c.term t)
    where
      answer : (g : Bool) → S (quiet (cond g (record c { term = t; vote = 0; leader = 0 }) c))
      answer true = writes (record c { term = t; vote = 0; leader = 0 }) [] (record { same = p.same; base = p.base; below = p.below; commit = p.commit })
      answer false = writes c [] p

  -- an event of a node's own
  pub own_steps : (c : CoreParts) (e : List ℕ) → P c → Steps k low high applied (on c (Command e))
  own_steps c e p = let q = own c e p in record { past = q.past; goes = q.goes }

  pub fire_steps : (c : CoreParts) (e : List ℕ) → P c → Steps k low high applied (on c (Fire e))
  fire_steps c e p = let q = own c e p in record { past = q.past; goes = q.goes }

  pub timeout_steps : (c : CoreParts) → P c → Steps k low high applied (on c Timeout)
  timeout_steps c p = let q = timing_out c p in record { past = q.past; goes = q.goes }

  pub beat_steps : (c : CoreParts) → P c → Steps k low high applied (on c Beat)
  beat_steps c p = record { past = p; goes = to_peers c }

  pub raise_steps : (c : CoreParts) (t : ℕ) → P c → Steps k low high applied (on c (Raise t))
  raise_steps c t p = let q = opening c t p in record { past = q.past; goes = q.goes }

  pub heard_steps : (c : CoreParts) (x : Message) (held : ℕ) → 1 ≤ x.from → x.from ≢ k → low ≤ applied → ChunkWithin high x.body → P c → Steps k low high applied (on c (Heard x applied held))
  heard_steps c x held n o le f p = let q = heard x.from n o (raised c (body_term x.body)) x.body held le f (raising c (body_term x.body) p) in record { past = q.past; goes = q.goes }
