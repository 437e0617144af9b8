-- How a node comes to lead in a step: it led or stood in that term, or the term is the next one.
use Rattle.std.proofs.Common.{◌≡◌, ◌≢◌, ℕ, suc, ◌+◌, ◌-◌, min, max, Bool, true, false, cond, nat_lt, nat_le, ◌&&◌, ◌||◌, ◌==◌, [], ◌∷◌, map, set, length, replicate, refl, sym, ◌∙◌, ◌⊎◌, inl, inr}
use Rattle.std.specs.Prelude.{⊤}
use Rattle.std.proofs.lemmas.Bool.{and_parts}
use Rattle.raft_types.specs.declared.limits.TheConstants.{MAX_TERM, MAX_INDEX, NOOP}
use Rattle.raft_types.specs.declared.event.CoreEvent.{CoreEvent}
use Rattle.raft_types.specs.declared.event.CoreEvent.TheVariants.{Timeout, Beat, Raise, Command, Fire, Heard}
use Rattle.raft_types.specs.declared.message.Body.{Body}
use Rattle.raft_types.specs.declared.message.Body.TheVariants.{Vote, VoteReply, Append, AppendReply, Chunk, ChunkReply}
use Rattle.raft_types.specs.declared.state.Role.{Role}
use Rattle.raft_types.specs.declared.state.Role.TheVariants.{Follower, Candidate, Leader}
use Rattle.raft_types.specs.Log.{last_index}
use Rattle.raft_types.specs.Body.{body_term}
use Rattle.raft_types.specs.Core.{CoreParts, Out, is_leader, is_candidate, is_majority, voted_for, next_of, match_of, peers, message_to, quiet}
use Rattle.raft_types.specs.Send.{chunk_from, sent_to, to_all}
use Rattle.raft_types.specs.Commit.{committed, appends}
use Rattle.raft_types.specs.Election.{elected, leads, elects, stands, ask, times_out, may_grant, with_vote_of}
use Rattle.raft_types.specs.Append.{follows, passes, accepts, fresh_items, acked_by, refused_by}
use Rattle.raft_types.specs.Snapshot.{installed, installs}
use Rattle.raft_types.specs.Step.{hears, opens_in, on}

-- who leads led or stood in the same term before, or has come to the next one
abbrev pub LeadsHow : Role → ℕ → Role → ℕ → Type 0
LeadsHow role term role' term' = role' ≡ Leader → ((role ≢ Follower) × (term' ≡ term)) ⊎ (term' ≡ suc term)

-- the opening's term comes to a follower
abbrev pub Raised : CoreParts → CoreEvent → Type 0
Raised c Timeout = ⊤
Raised c Beat = ⊤
Raised c (Raise term) = c.role ≡ Follower
Raised c (Command entry) = ⊤
Raised c (Fire entry) = ⊤
Raised c (Heard message applied held) = ⊤

pub no_follower : (r : Role) → r ≡ Leader → r ≢ Follower
no_follower r e f = let q : Leader ≡ Follower = sym e ∙ f in cc

-- who leads after it was no follower before, and the term stays
record Stays (c d : CoreParts) : Type 0 where
  term : d.term ≡ c.term
  role : d.role ≡ Leader → c.role ≢ Follower

leaf : (c : CoreParts) → Stays c c
leaf c = record { term = refl; role = no_follower c.role }

either : (c : CoreParts) (g : Bool) (x y : Out) → (g ≡ true → Stays c x.core) → Stays c y.core → Stays c (cond g x y).core
either c true x y p q = p refl
either c false x y p q = q

leads_in : (c : CoreParts) → (leads c).core.term ≡ c.term
leads_in c = answer (nat_lt (elected c).commit (last_index (elected c).log) && nat_lt (last_index (elected c).log) MAX_INDEX)
  where
    answer : (g : Bool) → (cond g (appends (elected c) (NOOP ∷ [])) (record { core = committed (elected c); items = []; messages = to_all (committed (elected c)) })).core.term ≡ c.term
    answer true = refl
    answer false = refl

elects_in : (c : CoreParts) (o : Out) → o.core.term ≡ c.term → (elects c o).core.term ≡ c.term
elects_in c o e = answer (is_majority c (voted_for c))
  where
    answer : (g : Bool) → (cond g (leads c) o).core.term ≡ c.term
    answer true = leads_in c
    answer false = e

following : (c : CoreParts) (from : ℕ) (d : CoreParts) → d.term ≡ c.term → d.role ≡ (follows c from).role → Stays c d
following c from d t r = record { term = t; role = λ e. answer (is_candidate c.role) (sym r ∙ e) }
  where
    answer : (g : Bool) → cond g Follower c.role ≡ Leader → c.role ≢ Follower
    answer true e = absurd (let q : Follower ≡ Leader = e in cc)
    answer false e = no_follower c.role e

candidate_no : (r : Role) → is_candidate r ≡ true → r ≢ Follower
candidate_no Follower e f = let q : false ≡ true = e in cc
candidate_no Candidate e f = let q : Candidate ≡ Follower = f in cc
candidate_no Leader e f = let q : false ≡ true = e in cc

heard : (c : CoreParts) (from : ℕ) (body : Body) (applied held : ℕ) → Stays c (hears c from body applied held).core
heard c from (Vote term li lt) applied held = answer (may_grant c from term li lt)
  where
    answer : (g : Bool) → Stays c (cond g (record c { vote = from }) c)
    answer true = record { term = refl; role = no_follower c.role }
    answer false = leaf c
heard c from (VoteReply term granted) applied held =
    let d = with_vote_of c from in
    either c (is_candidate c.role && ((term == c.term) && granted)) (elects d (quiet d)) (quiet c)
    (λ e. record { term = elects_in d (quiet d) refl; role = λ l. candidate_no c.role (and_parts (is_candidate c.role) ((term == c.term) && granted) e).0 }) (leaf c)
heard c from (Append term pi pt es mc) applied held =
    let d = follows c from in
    let items = fresh_items d pi es in
    let low : Out = record { core = c; items = []; messages = message_to c from (AppendReply c.term false 0) ∷ [] } in
    let taken : Out = record { core = accepts d items (min mc (pi + length es)); items = items; messages = message_to d from (AppendReply d.term true (pi + length es)) ∷ [] } in
    let refused : Out = record { core = d; items = []; messages = message_to d from (AppendReply d.term false (min (last_index d.log) (pi - 1))) ∷ [] } in
    either c (nat_lt term c.term) low (cond (passes d.log pi pt) taken refused) (λ e. leaf c)
    (either c (passes d.log pi pt) taken refused (λ e. following c from (accepts d items (min mc (pi + length es))) refl refl) (following c from d refl refl))
heard c from (AppendReply term ok index) applied held =
    either c (is_leader c.role && (term == c.term)) (cond ok (acked_by c from index) (refused_by c from index)) (quiet c)
    (λ e. either c ok (acked_by c from index) (refused_by c from index) (λ f. record { term = refl; role = no_follower c.role }) refused) (leaf c)
  where
    refused : Stays c (refused_by c from index).core
    refused =
        let d : CoreParts = record c { next = set c.next (from - 1) (max (suc (match_of c from)) (suc index)) } in
        either c (nat_lt (suc index) (next_of c from)) (record { core = d; items = []; messages = sent_to d from ∷ [] }) (quiet c) (λ e. record { term = refl; role = no_follower c.role }) (leaf c)
heard c from (Chunk term index bt off total bytes) applied held =
    let d = follows c from in
    let low : Out = record { core = c; items = []; messages = message_to c from (ChunkReply c.term 0 0) ∷ [] } in
    let past : Out = record { core = d; items = []; messages = message_to d from (ChunkReply d.term index total) ∷ [] } in
    let part : Out = record { core = d; items = []; messages = message_to d from (ChunkReply d.term index held) ∷ [] } in
    let whole = installs d from index bt total in
    either c (nat_lt term c.term) low (cond (nat_le index applied) past (cond (held == total) whole part)) (λ e. leaf c)
    (either c (nat_le index applied) past (cond (held == total) whole part) (λ e. following c from d refl refl)
    (either c (held == total) whole part (λ e. following c from (installed d index bt total) refl refl) (following c from d refl refl)))
heard c from (ChunkReply term index off) applied held =
    let more : Out = record { core = c; items = []; messages = message_to c from (chunk_from c off) ∷ [] } in
    either c (is_leader c.role && ((term == c.term) && (index == c.log.base))) (cond (nat_lt off c.snapshot_len) more (acked_by c from index)) (quiet c)
    (λ e. either c (nat_lt off c.snapshot_len) more (acked_by c from index) (λ f. leaf c) (record { term = refl; role = no_follower c.role })) (leaf c)

timing_out : (c : CoreParts) → LeadsHow c.role c.term (times_out c).core.role (times_out c).core.term
timing_out c = answer (is_leader c.role || (c.term == MAX_TERM))
  where
    answer : (g : Bool) → LeadsHow c.role c.term (cond g (quiet c) (elects (stands c) (record { core = stands c; items = []; messages = map (ask (stands c)) (peers (stands c)) }))).core.role
        (cond g (quiet c) (elects (stands c) (record { core = stands c; items = []; messages = map (ask (stands c)) (peers (stands c)) }))).core.term
    answer true = λ e. inl (no_follower c.role e, refl)
    answer false = λ e. inr (elects_in (stands c) (record { core = stands c; items = []; messages = map (ask (stands c)) (peers (stands c)) }) refl)

opening : (c : CoreParts) (t : ℕ) → c.role ≡ Follower → LeadsHow c.role c.term (opens_in c t).core.role (opens_in c t).core.term
opening c t f = answer (nat_lt c.term t)
  where
    answer : (g : Bool) → LeadsHow c.role c.term (quiet (cond g (record c { term = t; vote = 0; leader = 0 }) c)).core.role (quiet (cond g (record c { term = t; vote = 0; leader = 0 }) c)).core.term
    answer true = λ e. absurd (no_follower c.role e f)
    answer false = λ e. absurd (no_follower c.role e f)

-- a message at a node that follows in the term of the message, or at the node as it was
hearing : (c up : CoreParts) → up.role ≡ Follower → (from : ℕ) (body : Body) (applied held : ℕ) (g : Bool)
    → LeadsHow c.role c.term (hears (cond g up c) from body applied held).core.role (hears (cond g up c) from body applied held).core.term
hearing c up f from body applied held true = let s = heard up from body applied held in λ e. absurd (s.role e f)
hearing c up f from body applied held false = let s = heard c from body applied held in λ e. inl (s.role e, s.term)

pub leads_how : (c : CoreParts) (event : CoreEvent) → Raised c event → LeadsHow c.role c.term (on c event).core.role (on c event).core.term
leads_how c Timeout r = let p = timing_out c in λ e. p e
leads_how c Beat r = λ e. inl (no_follower c.role e, refl)
leads_how c (Raise t) r = let p = opening c t r in λ e. p e
leads_how c (Command entry) r = λ e. inl (no_follower c.role e, refl)
leads_how c (Fire entry) r = λ e. inl (no_follower c.role e, refl)
leads_how c (Heard message applied held) r =
    hearing c (record c { term = body_term message.body; vote = 0; role = Follower; leader = 0; votes = replicate c.nodes false }) refl message.from message.body applied held (nat_lt c.term (body_term message.body))
