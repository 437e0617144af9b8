-- A greater term, and the term of an opening.
use Rattle.std.proofs.Common.{◌≡◌, ℕ, ◌-◌, ◌<◌, Bool, true, false, cond, nat_lt, List, [], ◌∷◌, take, replicate, refl, sym, ◌∙◌, arith}
use Rattle.std.proofs.lemmas.Bool.{ltb-true}
use Rattle.std.proofs.lemmas.List.Elements.{All-nil, All-cons}
use Rattle.raft_types.specs.declared.entry.LogEntry.{LogEntry}
use Rattle.raft_types.specs.declared.message.Message.{Message}
use Rattle.raft_types.specs.declared.state.Role.{Role}
use Rattle.raft_types.specs.declared.state.Role.TheVariants.{Follower, Candidate, Leader}
use Rattle.raft_types.specs.Core.{CoreParts, quiet}
use Rattle.raft_types.specs.Election.{raised}
use Rattle.raft_types.specs.Step.{opens_in}
use Rattle.raft_spine.specs.Start.{Start}
use Rattle.raft_spine.specs.Spine.{Spine}
use Rattle.raft_spine.specs.Moves.{Rises, Move, Raise, moved_all, actor}
use Rattle.raft_spine.proofs.Sound.{Sound}
use Rattle.raft_spine.proofs.At.{at_same}
use Rattle.raft_spine.proofs.Grow.{move_grows, decided_stays}
use Rattle.raft_claims.specs.Claims.{Claim}
use Rattle.raft_claims.specs.Tied.{Tied, Turned}
use Rattle.raft_claims.proofs.Turns.{turn_quiet}

-- the node in a greater term, without a vote
abbrev up_to : CoreParts → ℕ → Role → List Bool → CoreParts
up_to c t r vs = record c { term = t; vote = 0; role = r; leader = 0; votes = vs }

-- it comes there as a follower
rise_tied : (b : Start) (len : List LogEntry → ℕ) (s : Spine) → Sound b s → (c : CoreParts) (whole : List LogEntry) → Tied b len s c whole → (t : ℕ) → c.term < t
    → (r : Role) → r ≡ Follower → (vs : List Bool) → Tied b len (moved_all (Raise c.id t ∷ []) s) (up_to c t r vs) whole
rise_tied b len s h c whole ok t up r f vs =
    let e = ok.term in
    let g = move_grows b s h (Raise c.id t) (record { above = omega arith }) in
    let s' = moved_all (Raise c.id t ∷ []) s in
    record {
      is_node = ok.is_node;
      term = at_same s.term c.id t;
      vote = h.voted_past c.id t (omega arith);
      log = ok.log;
      stands_for = ok.stands_for;
      size = ok.size;
      based = ok.based;
      known = ok.known;
      short = ok.short;
      decided = decided_stays b s s' g c.term t (take (c.commit - b.base) whole) (omega arith) ok.decided;
      standing = λ z. absurd (let q : Follower ≡ Candidate = sym f ∙ z in cc);
      leading = λ z. absurd (let q : Follower ≡ Leader = sym f ∙ z in cc);
    }

rise : (b : Start) (len : List LogEntry → ℕ) (s : Spine) → Sound b s → (c : CoreParts) (whole : List LogEntry) → Tied b len s c whole → (t : ℕ) → c.term < t
    → (r : Role) → r ≡ Follower → (vs : List Bool) → Turned b len s c whole (quiet (up_to c t r vs)) whole
rise b len s h c whole ok t up r f vs =
    let e = ok.term in
    record {
      moves = Raise c.id t ∷ [];
      mine = All-cons (λ (m : Move). actor m ≡ c.id) (Raise c.id t) [] refl (All-nil (λ (m : Move). actor m ≡ c.id));
      can = ((let a : Rises s c.id t = record { above = omega arith } in a), tt);
      tied = rise_tied b len s h c whole ok t up r f vs;
      said = All-nil (λ (x : Message). (x.from ≡ c.id) × Claim b len (moved_all (Raise c.id t ∷ []) s) x.from x.to x.body);
      front = refl;
    }

-- before a message of any term is heard
pub turn_raised : (b : Start) (len : List LogEntry → ℕ) (s : Spine) → Sound b s → (c : CoreParts) (whole : List LogEntry) → Tied b len s c whole → (t : ℕ)
    → Turned b len s c whole (quiet (raised c t)) whole
turn_raised b len s h c whole ok t = answer (nat_lt c.term t) refl
  where
    answer : (g : Bool) → nat_lt c.term t ≡ g → Turned b len s c whole (quiet (cond g (up_to c t Follower (replicate c.nodes false)) c)) whole
    answer true e = rise b len s h c whole ok t (ltb-true c.term t e) Follower refl (replicate c.nodes false)
    answer false e = turn_quiet b len s c whole ok

-- the opening's term, at a follower
pub turn_opens : (b : Start) (len : List LogEntry → ℕ) (s : Spine) → Sound b s → (c : CoreParts) (whole : List LogEntry) → Tied b len s c whole → c.role ≡ Follower → (t : ℕ)
    → Turned b len s c whole (opens_in c t) whole
turn_opens b len s h c whole ok f t = answer (nat_lt c.term t) refl
  where
    answer : (g : Bool) → nat_lt c.term t ≡ g → Turned b len s c whole (quiet (cond g (record c { term = t; vote = 0; leader = 0 }) c)) whole
    answer true e = rise b len s h c whole ok t (ltb-true c.term t e) c.role f c.votes
    answer false e = turn_quiet b len s c whole ok
