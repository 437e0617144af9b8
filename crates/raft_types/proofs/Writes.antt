-- What a step writes and sends, rule by rule.
use Rattle.std.proofs.Common.{◌≡◌, ℕ, suc, ◌+◌, ◌-◌, ◌<◌, ◌≤◌, min, max, Bool, true, false, cond, nat_lt, nat_le, ◌&&◌, ◌||◌, ◌==◌, List, [], ◌∷◌, map, set, length, drop, All, refl, sym, subst, arith, length-drop}
use Rattle.std.specs.Prelude.{replicate}
use Rattle.std.proofs.lemmas.List.Elements.{All-nil, All-drop}
use Rattle.raft_types.specs.declared.limits.TheConstants.{MAX_TERM, MAX_INDEX, NOOP}
use Rattle.raft_types.specs.declared.entry.LogEntry.{LogEntry}
use Rattle.raft_types.specs.declared.event.CoreEvent.{CoreEvent}
use Rattle.raft_types.specs.declared.event.CoreEvent.TheVariants.{Timeout, Beat, Raise, Command, Fire, Heard}
use Rattle.raft_types.specs.declared.item.Item.TheVariants.{Vote as VoteItem}
use Rattle.raft_types.specs.declared.message.Body.{Body}
use Rattle.raft_types.specs.declared.message.Body.TheVariants.{Vote, VoteReply, Append, AppendReply, Chunk, ChunkReply}
use Rattle.raft_types.specs.declared.message.Message.{Message}
use Rattle.raft_types.specs.declared.state.Role.TheVariants.{Leader, Follower}
use Rattle.raft_types.specs.Log.{LogParts, last_index, log_term}
use Rattle.raft_types.specs.Items.{number, ItemsForm}
use Rattle.raft_types.specs.Body.{body_term}
use Rattle.raft_types.specs.Core.{CoreParts, Out, is_leader, is_candidate, is_majority, voted_for, peers, message_to, quiet, next_of, match_of}
use Rattle.raft_types.specs.Send.{sent_to, to_all, chunk_from}
use Rattle.raft_types.specs.Commit.{committed, with_entry, appends}
use Rattle.raft_types.specs.Election.{elected, leads, elects, stands, ask, times_out, with_vote_of, may_grant}
use Rattle.raft_types.specs.Append.{is_term, follows, passes, skip, accepts, fresh_items, hears_append, acked_by, refused_by}
use Rattle.raft_types.specs.Snapshot.{stays, installs}
use Rattle.raft_types.specs.Step.{hears, rule, with_vote}
use Rattle.raft_types.specs.Fits.{CoreFits, EventFits, LogTermsFit, TermsFit, IndexesFit, TotalFits, SentFits}
use Rattle.raft_types.specs.Laws.{StepFits}
use Rattle.raft_types.proofs.Appends.{skip_within, skip_past, passes_near}
use Rattle.raft_types.proofs.Fitting.{fits_raised, fits_with_entry, fits_committed, fits_elected, fits_stands, fits_with_vote_of, fits_known, fits_next, fits_follows, term_fits, total_fits}
use Rattle.raft_types.proofs.FitsAfter.{less, both_second, not_last, fits_on}
use Rattle.raft_types.proofs.Sends.{Small, Peer, to_peer, one_sent, told, all_told, all_asked, terms_with_entry, terms_stored}

-- what comes out of a rule of a node of these nodes, with this commit and log
record Good (id nodes commit : ℕ) (l : LogParts) (o : Out) : Type 0 where
  form : (k : CoreParts) → ItemsForm commit l (with_vote k o.core o.items)
  terms : LogTermsFit l → LogTermsFit o.core.log
  sent : LogTermsFit l → All (SentFits id nodes) o.messages

-- it is good for a node
abbrev GoodOf : CoreParts → Out → Type 0
GoodOf c o = Good c.id c.nodes c.commit c.log o

either : (id nodes commit : ℕ) (l : LogParts) (b : Bool) (x y : Out) → (b ≡ true → Good id nodes commit l x) → (b ≡ false → Good id nodes commit l y) → Good id nodes commit l (cond b x y)
either id nodes commit l true x y h k = h refl
either id nodes commit l false x y h k = k refl

-- entries that go on, perhaps behind a vote
goes : (commit : ℕ) (l : LogParts) (k d : CoreParts) (i : ℕ) (xs : List LogEntry) → commit < i → i ≤ suc (last_index l) → ItemsForm commit l (with_vote k d (number i xs))
goes commit l k d i [] a w = voted ((k.term == d.term) && (k.vote == d.vote))
  where
    voted : (b : Bool) → ItemsForm commit l (cond b [] (VoteItem d.term d.vote ∷ []))
    voted true = tt
    voted false = record { index = i; entries = []; are = refl; above = a; near = w }
goes commit l k d i (x ∷ xs) a w = voted ((k.term == d.term) && (k.vote == d.vote))
  where
    voted : (b : Bool) → ItemsForm commit l (cond b (number i (x ∷ xs)) (VoteItem d.term d.vote ∷ number i (x ∷ xs)))
    voted true = record { index = i; entries = x ∷ xs; are = refl; above = a; near = w }
    voted false = record { index = i; entries = x ∷ xs; are = refl; above = a; near = w }

-- entries that go on, if there are some
goes_some : (commit : ℕ) (l : LogParts) (k d : CoreParts) (i : ℕ) (xs : List LogEntry) → commit ≤ last_index l → (0 < length xs → commit < i) → i ≤ suc (last_index l) → ItemsForm commit l (with_vote k d (number i xs))
goes_some commit l k d i [] t a w = goes commit l k d (suc (last_index l)) [] (omega (arith, t)) (omega arith)
goes_some commit l k d i (x ∷ xs) t a w = goes commit l k d i (x ∷ xs) (a (omega arith)) w

-- nothing is written
none : (c d : CoreParts) (ms : List Message) → CoreFits c → d.log ≡ c.log → (LogTermsFit c.log → All (SentFits c.id c.nodes) ms) → GoodOf c (record { core = d; items = []; messages = ms })
none c d ms h e s =
    let t = h.to_last in
    record { form = λ k. goes c.commit c.log k d (suc (last_index c.log)) [] (omega (arith, t)) (omega arith); terms = λ l. subst LogTermsFit (sym e) l; sent = s }

still : (c : CoreParts) → CoreFits c → GoodOf c (quiet c)
still c h = none c c [] h refl (λ l. All-nil (SentFits c.id c.nodes))

-- one entry of its own, of the node with the log and the commit of another
own : (c : CoreParts) (entry : List ℕ) → CoreFits c → c.role ≡ Leader → last_index c.log < MAX_INDEX → GoodOf c (appends c entry)
own c entry h r w =
    let t = h.to_last in
    let d = with_entry c entry in
    let g = fits_committed d (fits_with_entry c entry h w) in
    record {
      form = λ k. goes c.commit c.log k (committed d) (suc (last_index c.log)) (record { term = c.term; entry = entry } ∷ []) (omega (arith, t)) (omega arith);
      terms = λ l. terms_with_entry c entry h.term l;
      sent = λ l. all_told (committed d) g r (terms_with_entry c entry h.term l);
    }

leading : (c : CoreParts) → CoreFits c → GoodOf c (leads c)
leading c h =
    let d = elected c in
    let g = fits_elected c h in
    let e = committed d in
    either c.id c.nodes c.commit c.log (nat_lt d.commit (last_index d.log) && nat_lt (last_index d.log) MAX_INDEX) (appends d (NOOP ∷ [])) (record { core = e; items = []; messages = to_all e })
    (λ t. own d (NOOP ∷ []) g refl (less (last_index d.log) MAX_INDEX (both_second (nat_lt d.commit (last_index d.log)) _ t)))
    (λ t. none c e (to_all e) h refl (λ l. all_told e (fits_committed d g) refl l))

electing : (c : CoreParts) (o : Out) → CoreFits c → GoodOf c o → GoodOf c (elects c o)
electing c o h k = either c.id c.nodes c.commit c.log (is_majority c (voted_for c)) (leads c) o (λ t. leading c h) (λ t. k)

timing_out : (c : CoreParts) → CoreFits c → GoodOf c (times_out c)
timing_out c h =
    let d = stands c in
    let o : Out = record { core = d; items = []; messages = map (ask d) (peers d) } in
    either c.id c.nodes c.commit c.log (is_leader c.role || (c.term == MAX_TERM)) (quiet c) (elects d o) (λ e. still c h)
    (λ e. (let g = fits_stands c h (not_last c h e) in electing d o g (none d d o.messages g refl (λ l. all_asked d g l))))

-- one answer, and nothing written
replied : (c d : CoreParts) (j : ℕ) (b : Body) → CoreFits c → d.log ≡ c.log → Peer c.id c.nodes j → (LogTermsFit c.log → SentFits c.id c.nodes (message_to c j b)) → GoodOf c (record { core = d; items = []; messages = message_to c j b ∷ [] })
replied c d j b h e p s = none c d (message_to c j b ∷ []) h e (λ l. one_sent c.id c.nodes (message_to c j b) (s l))

same_log : (b : Bool) (x y : CoreParts) → x.log ≡ y.log → (cond b x y).log ≡ y.log
same_log true x y e = e
same_log false x y e = refl

-- the new entries of an append that passed
taking : (c : CoreParts) (from prev : ℕ) (es : List LogEntry) (n : ℕ) → CoreFits c → Peer c.id c.nodes from → prev ≤ last_index c.log → prev + length es ≤ MAX_INDEX → All Small es → GoodOf c (record { core = accepts c (fresh_items c prev es) n; items = fresh_items c prev es; messages = message_to c from (AppendReply c.term true (prev + length es)) ∷ [] })
taking c from prev es n h p w m g =
    let down : ℕ = c.log.base - prev in
    let place : ℕ = prev + down - c.log.base in
    let rest : List LogEntry = drop down es in
    let q : ℕ = c.commit - c.log.base in
    let s : ℕ = skip q c.log.entries place rest in
    let v = length-drop s rest in
    let b = h.from_base in
    let t = h.to_last in
    let within = skip_within q c.log.entries place rest (omega (arith, b, t)) (omega (arith, w)) in
    let past : s < length rest → q ≤ place + s = skip_past q c.log.entries place rest in
    record {
      form = λ k. goes_some c.commit c.log k (accepts c (fresh_items c prev es) n) (c.log.base + suc (place + s)) (drop s rest) t (λ z. (let y = past (omega (arith, z, v)) in omega (arith, y, b))) (omega (arith, within));
      terms = λ l. record { base_term = l.base_term; entries = terms_stored c.log.base c.log.entries (c.log.base + suc (place + s)) (drop s rest) l.entries (All-drop Small s rest (All-drop Small down es g)) };
      sent = λ l. one_sent c.id c.nodes _ (to_peer c from (AppendReply c.term true (prev + length es)) p h.term m tt);
    }

hearing_append : (c : CoreParts) (from term prev_index prev_term : ℕ) (es : List LogEntry) (commit : ℕ) → CoreFits c → Peer c.id c.nodes from → prev_index + length es ≤ MAX_INDEX → All Small es → GoodOf c (hears_append c from term prev_index prev_term es commit)
hearing_append c from term prev_index prev_term es commit h p m s =
    let d = follows c from in
    let g = fits_follows c from h in
    let items = fresh_items d prev_index es in
    let reached = min commit (prev_index + length es) in
    let hint = min (last_index d.log) (prev_index - 1) in
    let a = h.last in
    let low : Out = record { core = c; items = []; messages = message_to c from (AppendReply c.term false 0) ∷ [] } in
    let taken : Out = record { core = accepts d items reached; items = items; messages = message_to d from (AppendReply d.term true (prev_index + length es)) ∷ [] } in
    let refused : Out = record { core = d; items = []; messages = message_to d from (AppendReply d.term false hint) ∷ [] } in
    either c.id c.nodes c.commit c.log (nat_lt term c.term) low (cond (passes d.log prev_index prev_term) taken refused)
    (λ e. replied c c from (AppendReply c.term false 0) h refl p (λ l. to_peer c from (AppendReply c.term false 0) p h.term (omega arith) tt))
    (λ e. either c.id c.nodes c.commit c.log (passes d.log prev_index prev_term) taken refused
    (λ t. taking d from prev_index es reached g p (passes_near d.log prev_index prev_term t) m s)
    (λ t. replied d d from (AppendReply d.term false hint) g refl p (λ l. to_peer d from (AppendReply d.term false hint) p h.term (omega (arith, a)) tt)))

leads_is : (c : CoreParts) (b : Bool) → (is_leader c.role && b) ≡ true → c.role ≡ Leader
leads_is c b h = grind arith

hearing_acked : (c : CoreParts) (j index : ℕ) → CoreFits c → c.role ≡ Leader → Peer c.id c.nodes j → index ≤ MAX_INDEX → GoodOf c (acked_by c j index)
hearing_acked c j index h r p i =
    let a = h.matches j in
    let m : ℕ = max (match_of c j) index in
    let k : CoreParts = record c { «match» = set c.«match» (j - 1) m; next = set c.next (j - 1) (suc m) } in
    let d = committed k in
    let g = fits_committed k (fits_known c (j - 1) m (suc m) h (omega (arith, a, i)) (omega arith) (omega (arith, a, i))) in
    none c d _ h refl
    (λ l. told_some (nat_lt c.commit d.commit) (nat_lt (match_of c j) m && nat_le (suc m) (last_index d.log)) (to_all d) (sent_to d j) (all_told d g r l) (told d j g r l p))
  where
    told_some : (b x : Bool) (ms : List Message) (m : Message) → All (SentFits c.id c.nodes) ms → SentFits c.id c.nodes m → All (SentFits c.id c.nodes) (cond b ms (cond x (m ∷ []) []))
    told_some true x ms m s t = s
    told_some false true ms m s t = one_sent c.id c.nodes m t
    told_some false false ms m s t = All-nil (SentFits c.id c.nodes)

hearing_refused : (c : CoreParts) (j index : ℕ) → CoreFits c → c.role ≡ Leader → Peer c.id c.nodes j → index ≤ MAX_INDEX → GoodOf c (refused_by c j index)
hearing_refused c j index h r p i =
    let a = h.matches j in
    let n : ℕ = max (suc (match_of c j)) (suc index) in
    let d : CoreParts = record c { next = set c.next (j - 1) n } in
    let g = fits_next c (j - 1) n h (omega arith) (omega (arith, a, i)) in
    either c.id c.nodes c.commit c.log (nat_lt (suc index) (next_of c j)) (record { core = d; items = []; messages = sent_to d j ∷ [] }) (quiet c)
    (λ e. none c d (sent_to d j ∷ []) h refl (λ l. one_sent c.id c.nodes (sent_to d j) (told d j g r l p))) (λ e. still c h)

-- what stays at an install
stays_small : (l : LogParts) (index term : ℕ) → LogTermsFit l → All Small (stays l index term)
stays_small l index term h = chosen (nat_lt l.base index && is_term (log_term l index) term)
  where
    chosen : (b : Bool) → All Small (cond b (drop (index - l.base) l.entries) [])
    chosen true = All-drop Small (index - l.base) l.entries h.entries
    chosen false = All-nil Small

installing : (c : CoreParts) (from index term total : ℕ) → CoreFits c → Peer c.id c.nodes from → index ≤ MAX_INDEX → term ≤ MAX_TERM → GoodOf c (installs c from index term total)
installing c from index term total h p i t =
    record {
      form = λ k. record { term = c.term; vote = c.vote; entries = stays c.log index term; are = refl };
      terms = λ l. record { base_term = t; entries = stays_small c.log index term l };
      sent = λ l. one_sent c.id c.nodes _ (to_peer c from (ChunkReply c.term index total) p h.term i tt);
    }

heard : (c : CoreParts) (from : ℕ) (body : Body) (applied held : ℕ) → CoreFits c → Peer c.id c.nodes from → TermsFit body → IndexesFit body → TotalFits body → GoodOf c (hears c from body applied held)
heard c from (Vote term last_index last_term) applied held h p s i t =
    let granted = may_grant c from term last_index last_term in
    replied c (cond granted (record c { vote = from }) c) from (VoteReply c.term granted) h (same_log granted (record c { vote = from }) c refl) p (λ l. to_peer c from (VoteReply c.term granted) p h.term tt tt)
heard c from (VoteReply term granted) applied held h p s i t =
    let d = with_vote_of c from in
    let g = fits_with_vote_of c from h in
    either c.id c.nodes c.commit c.log (is_candidate c.role && ((term == c.term) && granted)) (elects d (quiet d)) (quiet c) (λ e. electing d (quiet d) g (still d g)) (λ e. still c h)
heard c from (Append term prev_index prev_term entries commit) applied held h p s i t = hearing_append c from term prev_index prev_term entries commit h p i.0 s.2
heard c from (AppendReply term ok index) applied held h p s i t =
    either c.id c.nodes c.commit c.log (is_leader c.role && (term == c.term)) (cond ok (acked_by c from index) (refused_by c from index)) (quiet c)
    (λ e. (let r = leads_is c (term == c.term) e in either c.id c.nodes c.commit c.log ok (acked_by c from index) (refused_by c from index) (λ x. hearing_acked c from index h r p i) (λ x. hearing_refused c from index h r p i)))
    (λ e. still c h)
heard c from (Chunk term index base_term offset total bytes) applied held h p s i t =
    let d = follows c from in
    let g = fits_follows c from h in
    let low : Out = record { core = c; items = []; messages = message_to c from (ChunkReply c.term 0 0) ∷ [] } in
    let past : Out = record { core = d; items = []; messages = message_to d from (ChunkReply d.term index total) ∷ [] } in
    let part : Out = record { core = d; items = []; messages = message_to d from (ChunkReply d.term index held) ∷ [] } in
    let whole = installs d from index base_term total in
    either c.id c.nodes c.commit c.log (nat_lt term c.term) low (cond (nat_le index applied) past (cond (held == total) whole part))
    (λ e. replied c c from (ChunkReply c.term 0 0) h refl p (λ l. to_peer c from (ChunkReply c.term 0 0) p h.term (omega arith) tt))
    (λ e. either c.id c.nodes c.commit c.log (nat_le index applied) past (cond (held == total) whole part)
    (λ x. replied d d from (ChunkReply d.term index total) g refl p (λ l. to_peer d from (ChunkReply d.term index total) p h.term i tt))
    (λ x. either c.id c.nodes c.commit c.log (held == total) whole part
    (λ y. installing d from index base_term total g p i s.1)
    (λ y. replied d d from (ChunkReply d.term index held) g refl p (λ l. to_peer d from (ChunkReply d.term index held) p h.term i tt))))
heard c from (ChunkReply term index offset) applied held h p s i t =
    let more : Out = record { core = c; items = []; messages = message_to c from (chunk_from c offset) ∷ [] } in
    let f = h.from_base in
    let z = h.to_last in
    let a = h.last in
    either c.id c.nodes c.commit c.log (is_leader c.role && ((term == c.term) && (index == c.log.base))) (cond (nat_lt offset c.snapshot_len) more (acked_by c from index)) (quiet c)
    (λ e. either c.id c.nodes c.commit c.log (nat_lt offset c.snapshot_len) more (acked_by c from index)
    (λ x. (let y = less offset c.snapshot_len x in replied c c from (chunk_from c offset) h refl p (λ l. to_peer c from (chunk_from c offset) p (h.term, l.base_term) (omega (arith, f, z, a)) (omega (arith, y)))))
    (λ x. hearing_acked c from index h (leads_is c _ e) p i))
    (λ e. still c h)

-- what comes out of the rule of an event that fits
ruled : (c : CoreParts) (event : CoreEvent) → CoreFits c → EventFits c event → GoodOf c (rule c event)
ruled c Timeout h e = timing_out c h
ruled c Beat h e = none c c (to_all c) h refl (λ l. all_told c h e l)
ruled c (Raise term) h e =
    let d : CoreParts = record c { term = term; vote = 0; leader = 0 } in
    none c (cond (nat_lt c.term term) d c) [] h (same_log (nat_lt c.term term) d c refl) (λ l. All-nil (SentFits c.id c.nodes))
ruled c (Command entry) h e = own c entry h e.leads e.room
ruled c (Fire entry) h e = own c entry h e.leads e.room
ruled c (Heard message applied held) h e =
    lifted (nat_lt c.term (body_term message.body)) (fits_raised c (body_term message.body) h (term_fits message.body e.terms))
  where
    lifted : (b : Bool) → CoreFits (cond b (record c { term = body_term message.body; vote = 0; role = Follower; leader = 0; votes = replicate c.nodes false }) c) → GoodOf c (hears (cond b (record c { term = body_term message.body; vote = 0; role = Follower; leader = 0; votes = replicate c.nodes false }) c) message.from message.body applied held)
    lifted true g = heard (record c { term = body_term message.body; vote = 0; role = Follower; leader = 0; votes = replicate c.nodes false }) message.from message.body applied held g (record { node = e.from_node; known = e.from_known; other = e.from_other }) e.terms e.indexes (total_fits c message.body applied held e.held_right)
    lifted false g = heard c message.from message.body applied held g (record { node = e.from_node; known = e.from_known; other = e.from_other }) e.terms e.indexes (total_fits c message.body applied held e.held_right)

pub step_fits : (c : CoreParts) (event : CoreEvent) → CoreFits c → EventFits c event → StepFits c event
step_fits c event h e = let g = ruled c event h e in record { core = fits_on c event h e; items = g.form c; terms = g.terms; messages = g.sent }
