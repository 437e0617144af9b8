-- Where the entries of a step come from: all that its core has, writes and sends was in the log before, came with the message,
-- is the event's own, or is a noop.
use Rattle.std.proofs.Common.{◌≡◌, ℕ, zero, suc, ◌+◌, ◌-◌, ◌<◌, ◌≤◌, min, max, Bool, true, false, cond, nat_lt, nat_le, ◌&&◌, ◌||◌, ◌==◌, All, List, [], ◌∷◌, ◌++◌, map, set, get_or, length, take, drop, replicate, refl, sym, ap, subst, arith, length-append, length-take-le}
use Rattle.std.specs.Prelude.{⊤}
use Rattle.std.proofs.lemmas.Bool.{leb-false, ltb-true}
use Rattle.std.proofs.lemmas.List.Elements.{All-nil, All-cons}
use Rattle.raft_types.specs.declared.limits.TheConstants.{MAX_TERM, MAX_INDEX, MAX_BATCH, NOOP}
use Rattle.raft_types.specs.declared.entry.LogEntry.{LogEntry}
use Rattle.raft_types.specs.declared.event.CoreEvent.{CoreEvent}
use Rattle.raft_types.specs.declared.event.CoreEvent.TheVariants.{Timeout, Beat, Raise, Command, Fire, Heard}
use Rattle.raft_types.specs.declared.item.Item.{Item}
use Rattle.raft_types.specs.declared.item.Item.TheVariants.{Snap, Vote as VoteItem, Entry}
use Rattle.raft_types.specs.declared.message.Body.{Body}
use Rattle.raft_types.specs.declared.message.Body.TheVariants.{Vote, VoteReply, Append, AppendReply, Chunk, ChunkReply}
use Rattle.raft_types.specs.declared.message.Message.{Message}
use Rattle.raft_types.specs.declared.state.Role.TheVariants.{Follower}
use Rattle.raft_types.specs.Log.{LogParts, nothing, last_index, log_term}
use Rattle.raft_types.specs.Body.{body_term}
use Rattle.raft_types.specs.Items.{stored, number, log_after}
use Rattle.raft_types.specs.Core.{CoreParts, Out, is_leader, is_candidate, is_majority, voted_for, next_of, match_of, peers, message_to, quiet}
use Rattle.raft_types.specs.Send.{chunk_from, append_from, sent_to, to_all}
use Rattle.raft_types.specs.Commit.{with_entry, committed, appends}
use Rattle.raft_types.specs.Election.{elected, leads, elects, stands, ask, times_out, may_grant, with_vote_of}
use Rattle.raft_types.specs.Append.{is_term, skip, follows, passes, accepts, fresh_items, acked_by, refused_by}
use Rattle.raft_types.specs.Snapshot.{stays, installed, installs}
use Rattle.raft_types.specs.Step.{hears, starts_anew, with_vote, rule, on}
use Rattle.raft_types.proofs.Appends.{skip_within, passes_near}
use Rattle.raft_types.proofs.Kept.{items_tell}
use Rattle.raft_types.proofs.Sends.{all_sent}
use Rattle.raft_claims.specs.Events.{kept}
use Rattle.cluster_world.specs.World.{Placed}

module _ (K : Placed → Type 0) where
  -- entries, the first at this index, each of which is known there
  abbrev pub AllFrom : ℕ → List LogEntry → Type 0
  AllFrom i [] = ⊤
  AllFrom i (x ∷ xs) = K (record { index = i; term = x.term; entry = x.entry }) × AllFrom (suc i) xs

  pub from_at : (i i' : ℕ) (xs : List LogEntry) → i ≡ i' → AllFrom i xs → AllFrom i' xs
  from_at i i' xs e f = subst (λ (j : ℕ). AllFrom j xs) e f

  pub from_take : (n i : ℕ) (xs : List LogEntry) → AllFrom i xs → AllFrom i (take n xs)
  from_take zero i xs f = tt
  from_take (suc n) i [] f = tt
  from_take (suc n) i (x ∷ xs) f = (f.0, from_take n (suc i) xs f.1)

  pub from_drop : (n i : ℕ) (xs : List LogEntry) → AllFrom i xs → AllFrom (i + n) (drop n xs)
  from_drop zero i xs f = from_at i (i + 0) xs (omega arith) f
  from_drop (suc n) i [] f = tt
  from_drop (suc n) i (x ∷ xs) f = from_at (suc i + n) (i + suc n) (drop n xs) (omega arith) (from_drop n (suc i) xs f.1)

  pub from_append : (i : ℕ) (xs ys : List LogEntry) → AllFrom i xs → AllFrom (i + length xs) ys → AllFrom i (xs ++ ys)
  from_append i [] ys f g = from_at (i + 0) i ys (omega arith) g
  from_append i (x ∷ xs) ys f g = (f.0, from_append (suc i) xs ys f.1 (from_at (i + suc (length xs)) (suc i + length xs) ys (omega arith) g))

  pub from_get : (i : ℕ) (xs : List LogEntry) (j : ℕ) → AllFrom i xs → j < length xs → K (record { index = i + j; term = (get_or xs j nothing).term; entry = (get_or xs j nothing).entry })
  from_get i [] j f lt = absurd (omega (arith, lt))
  from_get i (x ∷ xs) zero f lt = subst (λ (k : ℕ). K (record { index = k; term = x.term; entry = x.entry })) (let z : i ≡ i + 0 = omega arith in z) f.0
  from_get i (x ∷ xs) (suc j) f lt =
      subst (λ (k : ℕ). K (record { index = k; term = (get_or xs j nothing).term; entry = (get_or xs j nothing).entry })) (let z : suc i + j ≡ i + suc j = omega arith in z) (from_get (suc i) xs j f.1 (omega (arith, lt)))

  pub from_each : (i : ℕ) (xs : List LogEntry) → ((j : ℕ) → j < length xs → K (record { index = i + j; term = (get_or xs j nothing).term; entry = (get_or xs j nothing).entry })) → AllFrom i xs
  from_each i [] f = tt
  from_each i (x ∷ xs) f = (
    subst (λ (k : ℕ). K (record { index = k; term = x.term; entry = x.entry })) (let z : i + 0 ≡ i = omega arith in z) (f 0 (omega arith)),
    from_each (suc i) xs (λ j lt. subst (λ (k : ℕ). K (record { index = k; term = (get_or xs j nothing).term; entry = (get_or xs j nothing).entry })) (let z : i + suc j ≡ suc i + j = omega arith in z) (f (suc j) (omega (arith, lt)))),
  )

  abbrev pub KnownLog : LogParts → Type 0
  KnownLog l = AllFrom (suc l.base) l.entries

  -- the entries that a message brings
  abbrev pub KnownBody : Body → Type 0
  KnownBody (Vote term last_index last_term) = ⊤
  KnownBody (VoteReply term granted) = ⊤
  KnownBody (Append term prev_index prev_term entries commit) = AllFrom (suc prev_index) entries
  KnownBody (AppendReply term ok index) = ⊤
  KnownBody (Chunk term index base_term offset total bytes) = ⊤
  KnownBody (ChunkReply term index offset) = ⊤

  -- the entry that an event brings
  abbrev pub KnownEvent : CoreParts → CoreEvent → Type 0
  KnownEvent c Timeout = ⊤
  KnownEvent c Beat = ⊤
  KnownEvent c (Raise term) = ⊤
  KnownEvent c (Command entry) = K (record { index = suc (last_index c.log); term = c.term; entry = entry })
  KnownEvent c (Fire entry) = K (record { index = suc (last_index c.log); term = c.term; entry = entry })
  KnownEvent c (Heard message applied held) = KnownBody message.body

  -- items that leave known entries above a base, each of them
  abbrev ItemsFrom : ℕ → List LogEntry → List Item → Type 0
  ItemsFrom base es [] = ⊤
  ItemsFrom base es (Snap index term ∷ items) = ItemsFrom base es items
  ItemsFrom base es (VoteItem term vote ∷ items) = ItemsFrom base es items
  ItemsFrom base es (Entry index term entry ∷ items) =
      AllFrom (suc base) (take (index - (base + 1)) es ++ record { term = term; entry = entry } ∷ []) × ItemsFrom base (take (index - (base + 1)) es ++ record { term = term; entry = entry } ∷ []) items

  first_items : (n base : ℕ) (es : List LogEntry) (items : List Item) → AllFrom (suc base) es → ItemsFrom base es items → AllFrom (suc base) (stored base es (take n items))
  first_items zero base es items f g = f
  first_items (suc n) base es [] f g = f
  first_items (suc n) base es (Snap i t ∷ items) f g = first_items n base es items f g
  first_items (suc n) base es (VoteItem t v ∷ items) f g = first_items n base es items f g
  first_items (suc n) base es (Entry i t e ∷ items) f g = first_items n base (take (i - (base + 1)) es ++ record { term = t; entry = e } ∷ []) items g.0 g.1

  all_items : (base : ℕ) (es : List LogEntry) (items : List Item) → AllFrom (suc base) es → ItemsFrom base es items → AllFrom (suc base) (stored base es items)
  all_items base es [] f g = f
  all_items base es (Snap i t ∷ items) f g = all_items base es items f g
  all_items base es (VoteItem t v ∷ items) f g = all_items base es items f g
  all_items base es (Entry i t e ∷ items) f g = all_items base (take (i - (base + 1)) es ++ record { term = t; entry = e } ∷ []) items g.0 g.1

  one_more : (base : ℕ) (es : List LogEntry) (i t : ℕ) (e : List ℕ) → AllFrom (suc base) es → base < i → i ≤ suc base + length es → K (record { index = i; term = t; entry = e })
      → AllFrom (suc base) (take (i - (base + 1)) es ++ record { term = t; entry = e } ∷ [])
  one_more base es i t e f lo hi k =
      let l = length-take-le (i - (base + 1)) es (omega (arith, lo, hi)) in
      from_append (suc base) (take (i - (base + 1)) es) (record { term = t; entry = e } ∷ []) (from_take (i - (base + 1)) (suc base) es f)
      (subst (λ (j : ℕ). K (record { index = j; term = t; entry = e })) (let z : i ≡ suc base + length (take (i - (base + 1)) es) = omega (arith, l, lo) in z) k, tt)

  numbered : (base : ℕ) (es : List LogEntry) (i : ℕ) (xs : List LogEntry) → AllFrom (suc base) es → AllFrom i xs → base < i → i ≤ suc base + length es → ItemsFrom base es (number i xs)
  numbered base es i [] f g lo hi = tt
  numbered base es i (x ∷ xs) f g lo hi =
      let f' = one_more base es i x.term x.entry f lo hi g.0 in
      let l = length-take-le (i - (base + 1)) es (omega (arith, lo, hi)) in
      let m = length-append (take (i - (base + 1)) es) (record { term = x.term; entry = x.entry } ∷ []) in
      (f', numbered base (take (i - (base + 1)) es ++ record { term = x.term; entry = x.entry } ∷ []) (suc i) xs f' g.1 (omega (arith, lo)) (omega (arith, l, m, lo)))

  -- what comes out of a rule is known
  record Knows (c : CoreParts) (o : Out) : Type 0 where
    log : KnownLog o.core.log
    items : starts_anew o.items ≡ false → ItemsFrom c.log.base c.log.entries o.items
    sent : All (λ x. KnownBody x.body) o.messages

  module _ (noop : (i t : ℕ) → K (record { index = i; term = t; entry = NOOP ∷ [] })) where
    sends : (c : CoreParts) → KnownLog c.log → (j : ℕ) → KnownBody (sent_to c j).body
    sends c k j = chosen (nat_le (next_of c j) c.log.base) refl
      where
        chosen : (g : Bool) → nat_le (next_of c j) c.log.base ≡ g → KnownBody (cond g (chunk_from c 0) (append_from c (next_of c j)))
        chosen true e = tt
        chosen false e =
            let lt = leb-false (next_of c j) c.log.base e in
            from_take MAX_BATCH (suc (next_of c j - 1)) (drop (next_of c j - (c.log.base + 1)) c.log.entries)
            (from_at (suc c.log.base + (next_of c j - (c.log.base + 1))) (suc (next_of c j - 1)) (drop (next_of c j - (c.log.base + 1)) c.log.entries) (omega (arith, lt))
            (from_drop (next_of c j - (c.log.base + 1)) (suc c.log.base) c.log.entries k))

    to_peers : (c : CoreParts) → KnownLog c.log → All (λ x. KnownBody x.body) (to_all c)
    to_peers c k = all_sent (λ (x : Message). KnownBody x.body) (sent_to c) c.id c.nodes (λ j p. sends c k j)

    one : (x : Message) → KnownBody x.body → All (λ y. KnownBody y.body) (x ∷ [])
    one x k = All-cons (λ (y : Message). KnownBody y.body) x [] k (All-nil (λ (y : Message). KnownBody y.body))

    still : (c : CoreParts) → KnownLog c.log → Knows c (quiet c)
    still c k = record { log = k; items = λ e. tt; sent = All-nil (λ (y : Message). KnownBody y.body) }

    either : (c : CoreParts) (g : Bool) (x y : Out) → (g ≡ true → Knows c x) → (g ≡ false → Knows c y) → Knows c (cond g x y)
    either c true x y p q = p refl
    either c false x y p q = q refl

    own : (c : CoreParts) (e : List ℕ) → KnownLog c.log → K (record { index = suc (last_index c.log); term = c.term; entry = e }) → Knows c (appends c e)
    own c e k new =
        let f = from_append (suc c.log.base) c.log.entries (record { term = c.term; entry = e } ∷ []) k (from_at (suc (last_index c.log)) (suc c.log.base + length c.log.entries) (record { term = c.term; entry = e } ∷ []) (omega arith) (new, tt)) in
        record {
          log = f;
          items = λ z. (one_more c.log.base c.log.entries (suc (last_index c.log)) c.term e k (omega arith) (omega arith) new, tt);
          sent = to_peers (committed (with_entry c e)) f;
        }

    leading : (c : CoreParts) → KnownLog c.log → Knows c (leads c)
    leading c k =
        let d = elected c in
        either c (nat_lt d.commit (last_index d.log) && nat_lt (last_index d.log) MAX_INDEX) (appends d (NOOP ∷ [])) (record { core = committed d; items = []; messages = to_all (committed d) })
        (λ z. let q = own d (NOOP ∷ []) k (noop (suc (last_index d.log)) d.term) in record { log = q.log; items = q.items; sent = q.sent })
        (λ z. record { log = k; items = λ e. tt; sent = to_peers (committed d) k })

    electing : (c : CoreParts) (o : Out) → KnownLog c.log → Knows c o → Knows c (elects c o)
    electing c o k s = either c (is_majority c (voted_for c)) (leads c) o (λ z. leading c k) (λ z. s)

    timing_out : (c : CoreParts) → KnownLog c.log → Knows c (times_out c)
    timing_out c k =
        let d = stands c in
        let asks : Out = record { core = d; items = []; messages = map (ask d) (peers d) } in
        either c (is_leader c.role || (c.term == MAX_TERM)) (quiet c) (elects d asks) (λ z. still c k)
        (λ z. let q = electing d asks k (record { log = k; items = λ e. tt; sent = all_sent (λ (x : Message). KnownBody x.body) (ask d) d.id d.nodes (λ j y. tt) }) in record { log = q.log; items = q.items; sent = q.sent })

    -- entries that passed the test
    taking : (c : CoreParts) (from pi pt : ℕ) (es : List LogEntry) (reached : ℕ) → KnownLog c.log → c.commit ≤ last_index c.log → c.log.base ≤ c.commit → passes c.log pi pt ≡ true → AllFrom (suc pi) es
        → Knows c (record { core = accepts c (fresh_items c pi es) reached; items = fresh_items c pi es; messages = message_to c from (AppendReply c.term true (pi + length es)) ∷ [] })
    taking c from pi pt es reached k short lo test new =
        let near = passes_near c.log pi pt test in
        let down = c.log.base - pi in
        let place = pi + down - c.log.base in
        let s = skip (c.commit - c.log.base) c.log.entries place (drop down es) in
        let within = skip_within (c.commit - c.log.base) c.log.entries place (drop down es) (omega (arith, short, lo)) (omega (arith, near)) in
        let rest = from_drop s (suc pi + down) (drop down es) (from_drop down (suc pi) es new) in
        let f = numbered c.log.base c.log.entries (c.log.base + suc (place + s)) (drop s (drop down es)) k
        (from_at (suc pi + down + s) (c.log.base + suc (place + s)) (drop s (drop down es)) (omega arith) rest) (omega arith) (omega (arith, within)) in
        record { log = all_items c.log.base c.log.entries (fresh_items c pi es) k f; items = λ z. f; sent = one (message_to c from (AppendReply c.term true (pi + length es))) tt }

    acked : (c : CoreParts) (j index : ℕ) → KnownLog c.log → Knows c (acked_by c j index)
    acked c j index k =
        let m = max (match_of c j) index in
        let d : CoreParts = record c { «match» = set c.«match» (j - 1) m; next = set c.next (j - 1) (suc m) } in
        record { log = k; items = λ z. tt; sent = chosen (committed d) k (nat_lt c.commit (committed d).commit) (nat_lt (match_of c j) m && nat_le (suc m) (last_index d.log)) }
      where
        chosen : (e : CoreParts) → KnownLog e.log → (g f : Bool) → All (λ x. KnownBody x.body) (cond g (to_all e) (cond f (sent_to e j ∷ []) []))
        chosen e q true f = to_peers e q
        chosen e q false true = one (sent_to e j) (sends e q j)
        chosen e q false false = All-nil (λ (y : Message). KnownBody y.body)

    refused : (c : CoreParts) (j index : ℕ) → KnownLog c.log → Knows c (refused_by c j index)
    refused c j index k =
        let d : CoreParts = record c { next = set c.next (j - 1) (max (suc (match_of c j)) (suc index)) } in
        either c (nat_lt (suc index) (next_of c j)) (record { core = d; items = []; messages = sent_to d j ∷ [] }) (quiet c)
        (λ z. record { log = k; items = λ e. tt; sent = one (sent_to d j) (sends d k j) }) (λ z. still c k)

    staying : (l : LogParts) (i t : ℕ) → KnownLog l → AllFrom (suc i) (stays l i t)
    staying l i t k = chosen (nat_lt l.base i) (is_term (log_term l i) t) refl
      where
        chosen : (g f : Bool) → nat_lt l.base i ≡ g → AllFrom (suc i) (cond (g && f) (drop (i - l.base) l.entries) [])
        chosen true true e = let lt = ltb-true l.base i e in from_at (suc l.base + (i - l.base)) (suc i) (drop (i - l.base) l.entries) (omega (arith, lt)) (from_drop (i - l.base) (suc l.base) l.entries k)
        chosen true false e = tt
        chosen false f e = tt

    heard : (c : CoreParts) (from : ℕ) (body : Body) (applied held : ℕ) → KnownLog c.log → c.commit ≤ last_index c.log → c.log.base ≤ c.commit → KnownBody body → Knows c (hears c from body applied held)
    heard c from (Vote term li lt) applied held k short lo new = answer (may_grant c from term li lt)
      where
        answer : (g : Bool) → Knows c (record { core = cond g (record c { vote = from }) c; items = []; messages = message_to c from (VoteReply c.term g) ∷ [] })
        answer true = record { log = k; items = λ e. tt; sent = one (message_to c from (VoteReply c.term true)) tt }
        answer false = record { log = k; items = λ e. tt; sent = one (message_to c from (VoteReply c.term false)) tt }
    heard c from (VoteReply term granted) applied held k short lo new =
        let d = with_vote_of c from in
        either c (is_candidate c.role && ((term == c.term) && granted)) (elects d (quiet d)) (quiet c)
        (λ e. let q = electing d (quiet d) k (still d k) in record { log = q.log; items = q.items; sent = q.sent }) (λ e. still c k)
    heard c from (Append term pi pt es mc) applied held k short lo new =
        let d = follows c from in
        let items = fresh_items d pi es in
        let low : Out = record { core = c; items = []; messages = message_to c from (AppendReply c.term false 0) ∷ [] } in
        let taken : Out = record { core = accepts d items (min mc (pi + length es)); items = items; messages = message_to d from (AppendReply d.term true (pi + length es)) ∷ [] } in
        let refusal : Out = record { core = d; items = []; messages = message_to d from (AppendReply d.term false (min (last_index d.log) (pi - 1))) ∷ [] } in
        either c (nat_lt term c.term) low (cond (passes d.log pi pt) taken refusal) (λ e. record { log = k; items = λ z. tt; sent = one (message_to c from (AppendReply c.term false 0)) tt })
        (λ e. either c (passes d.log pi pt) taken refusal
        (λ t. let q = taking d from pi pt es (min mc (pi + length es)) k short lo t new in record { log = q.log; items = q.items; sent = q.sent })
        (λ t. record { log = k; items = λ z. tt; sent = one (message_to d from (AppendReply d.term false (min (last_index d.log) (pi - 1)))) tt }))
    heard c from (AppendReply term ok index) applied held k short lo new =
        either c (is_leader c.role && (term == c.term)) (cond ok (acked_by c from index) (refused_by c from index)) (quiet c)
        (λ e. either c ok (acked_by c from index) (refused_by c from index) (λ f. acked c from index k) (λ f. refused c from index k)) (λ e. still c k)
    heard c from (Chunk term index bt off total bytes) applied held k short lo new =
        let d = follows c from in
        let low : Out = record { core = c; items = []; messages = message_to c from (ChunkReply c.term 0 0) ∷ [] } in
        let past : Out = record { core = d; items = []; messages = message_to d from (ChunkReply d.term index total) ∷ [] } in
        let part : Out = record { core = d; items = []; messages = message_to d from (ChunkReply d.term index held) ∷ [] } in
        let whole = installs d from index bt total in
        either c (nat_lt term c.term) low (cond (nat_le index applied) past (cond (held == total) whole part)) (λ e. record { log = k; items = λ z. tt; sent = one (message_to c from (ChunkReply c.term 0 0)) tt })
        (λ e. either c (nat_le index applied) past (cond (held == total) whole part) (λ f. record { log = k; items = λ z. tt; sent = one (message_to d from (ChunkReply d.term index total)) tt })
        (λ f. either c (held == total) whole part
        (λ h. record { log = staying c.log index bt k; items = λ z. absurd (let q : true ≡ false = z in cc); sent = one (message_to (installed d index bt total) from (ChunkReply d.term index total)) tt })
        (λ h. record { log = k; items = λ z. tt; sent = one (message_to d from (ChunkReply d.term index held)) tt })))
    heard c from (ChunkReply term index off) applied held k short lo new =
        let more : Out = record { core = c; items = []; messages = message_to c from (chunk_from c off) ∷ [] } in
        either c (is_leader c.role && ((term == c.term) && (index == c.log.base))) (cond (nat_lt off c.snapshot_len) more (acked_by c from index)) (quiet c)
        (λ e. either c (nat_lt off c.snapshot_len) more (acked_by c from index) (λ f. record { log = k; items = λ z. tt; sent = one (message_to c from (chunk_from c off)) tt }) (λ f. acked c from index k)) (λ e. still c k)

    hearing : (c up : CoreParts) → up.log ≡ c.log → up.commit ≡ c.commit → (from : ℕ) (body : Body) (applied held : ℕ) → KnownLog c.log → c.commit ≤ last_index c.log → c.log.base ≤ c.commit → KnownBody body → (g : Bool)
        → Knows c (hears (cond g up c) from body applied held)
    hearing c up l m from body applied held k short lo new true =
        let q = heard up from body applied held (subst KnownLog (sym l) k) (let z = ap last_index l in omega (arith, z, m, short)) (let z = ap (λ (x : LogParts). x.base) l in omega (arith, z, m, lo)) new in
        record { log = q.log; items = λ e. subst (λ (x : LogParts). ItemsFrom x.base x.entries (hears up from body applied held).items) l (q.items e); sent = q.sent }
    hearing c up l m from body applied held k short lo new false = heard c from body applied held k short lo new

    ruled : (c : CoreParts) (event : CoreEvent) → KnownLog c.log → c.commit ≤ last_index c.log → c.log.base ≤ c.commit → KnownEvent c event → Knows c (rule c event)
    ruled c Timeout k short lo new = timing_out c k
    ruled c Beat k short lo new = record { log = k; items = λ e. tt; sent = to_peers c k }
    ruled c (Raise t) k short lo new = answer (nat_lt c.term t)
      where
        answer : (g : Bool) → Knows c (quiet (cond g (record c { term = t; vote = 0; leader = 0 }) c))
        answer true = record { log = k; items = λ e. tt; sent = All-nil (λ (y : Message). KnownBody y.body) }
        answer false = still c k
    ruled c (Command e) k short lo new = own c e k new
    ruled c (Fire e) k short lo new = own c e k new
    ruled c (Heard message applied held) k short lo new =
        hearing c (record c { term = body_term message.body; vote = 0; role = Follower; leader = 0; votes = replicate c.nodes false }) refl refl message.from message.body applied held k short lo new (nat_lt c.term (body_term message.body))

    -- the log after a step, and what it sends
    pub known_log : (c : CoreParts) (event : CoreEvent) → KnownLog c.log → c.commit ≤ last_index c.log → c.log.base ≤ c.commit → KnownEvent c event → KnownLog (on c event).core.log
    known_log c event k short lo new = (ruled c event k short lo new).log

    pub known_sent : (c : CoreParts) (event : CoreEvent) → KnownLog c.log → c.commit ≤ last_index c.log → c.log.base ≤ c.commit → KnownEvent c event → All (λ x. KnownBody x.body) (on c event).messages
    known_sent c event k short lo new = (ruled c event k short lo new).sent

    -- the log where the node stops in the step
    pub known_stop : (c : CoreParts) (event : CoreEvent) (n : ℕ) → KnownLog c.log → c.commit ≤ last_index c.log → c.log.base ≤ c.commit → KnownEvent c event → KnownLog (log_after c.log (kept n (on c event).items))
    known_stop c event n k short lo new =
        let q = ruled c event k short lo new in
        stops n (on c event).items (λ e. voted (rule c event).items (q.items (anew (rule c event).items e))) (subst KnownLog (sym (items_tell c event).log) q.log)
      where
        d : CoreParts
        d = (rule c event).core

        plain : (items : List Item) → starts_anew items ≡ false → log_after c.log items ≡ record { base = c.log.base; base_term = c.log.base_term; entries = stored c.log.base c.log.entries items }
        plain [] e = refl
        plain (Snap i t ∷ items) e = absurd (let z : true ≡ false = e in cc)
        plain (VoteItem t v ∷ items) e = refl
        plain (Entry i t x ∷ items) e = refl

        front : (n : ℕ) (items : List Item) → starts_anew items ≡ false → starts_anew (take n items) ≡ false
        front zero items e = refl
        front (suc n) [] e = refl
        front (suc n) (Snap i t ∷ items) e = e
        front (suc n) (VoteItem t v ∷ items) e = refl
        front (suc n) (Entry i t x ∷ items) e = refl

        stops : (n : ℕ) (items : List Item) → (starts_anew items ≡ false → ItemsFrom c.log.base c.log.entries items) → KnownLog (log_after c.log items) → KnownLog (log_after c.log (kept n items))
        stops zero items f g = k
        stops (suc n) items f g = answer (starts_anew items) refl
          where
            answer : (a : Bool) → starts_anew items ≡ a → KnownLog (log_after c.log (cond a items (take (suc n) items)))
            answer true e = g
            answer false e = subst KnownLog (sym (plain (take (suc n) items) (front (suc n) items e))) (first_items (suc n) c.log.base c.log.entries items k (f e))

        anew : (items : List Item) → starts_anew (with_vote c (rule c event).core items) ≡ false → starts_anew items ≡ false
        anew [] e = refl
        anew (Snap i t ∷ items) e = e
        anew (VoteItem t v ∷ items) e = refl
        anew (Entry i t x ∷ items) e = refl

        voted : (items : List Item) → ItemsFrom c.log.base c.log.entries items → ItemsFrom c.log.base c.log.entries (with_vote c (rule c event).core items)
        voted [] f = answer ((c.term == (rule c event).core.term) && (c.vote == (rule c event).core.vote))
          where
            answer : (g : Bool) → ItemsFrom c.log.base c.log.entries (cond g [] (VoteItem (rule c event).core.term (rule c event).core.vote ∷ []))
            answer true = tt
            answer false = tt
        voted (Snap i t ∷ items) f = f
        voted (VoteItem t v ∷ items) f = answer ((c.term == (rule c event).core.term) && (c.vote == (rule c event).core.vote))
          where
            answer : (g : Bool) → ItemsFrom c.log.base c.log.entries (cond g (VoteItem t v ∷ items) (VoteItem (rule c event).core.term (rule c event).core.vote ∷ VoteItem t v ∷ items))
            answer true = f
            answer false = f
        voted (Entry i t x ∷ items) f = answer ((c.term == (rule c event).core.term) && (c.vote == (rule c event).core.vote))
          where
            answer : (g : Bool) → ItemsFrom c.log.base c.log.entries (cond g (Entry i t x ∷ items) (VoteItem (rule c event).core.term (rule c event).core.vote ∷ Entry i t x ∷ items))
            answer true = f
            answer false = f
