-- A vote that is asked for.
use Rattle.std.proofs.Common.{◌≡◌, ℕ, zero, suc, ◌+◌, ◌-◌, Bool, true, false, cond, ◌||◌, ◌&&◌, ltb, leb, ◌==◌, All, List, [], ◌∷◌, length, take, refl, sym, ap, ◌∙◌, subst, arith, ◌⊎◌, inl, inr, ⊎_elim}
use Rattle.std.proofs.lemmas.Bool.{eqb-true, ltb-true, leb-true, and_parts, or_cases}
use Rattle.raft_types.specs.declared.entry.LogEntry.{LogEntry}
use Rattle.raft_types.specs.declared.message.Message.{Message}
use Rattle.raft_types.specs.declared.message.Body.TheVariants.{VoteReply}
use Rattle.raft_types.specs.Log.{last_index, log_last_term}
use Rattle.raft_types.specs.Core.{CoreParts, message_to}
use Rattle.raft_types.specs.Election.{may_grant, hears_vote}
use Rattle.raft_spine.specs.Start.{Start}
use Rattle.raft_spine.specs.Spine.{Spine}
use Rattle.raft_spine.specs.Moves.{last_term, IsUpToDate, Grants, Move, Grant, moved_all, actor}
use Rattle.raft_spine.proofs.Sound.{Sound}
use Rattle.raft_spine.proofs.At.{at2_same}
use Rattle.raft_spine.proofs.Grow.{move_grows, decided_stays}
use Rattle.raft_claims.specs.Claims.{AskClaim, Claim}
use Rattle.raft_claims.specs.Tied.{Tied, Turned}
use Rattle.raft_claims.proofs.Whole.{compact_is, compact_last, compact_last_term}

-- what holds of one is what holds of all of a list of one
one : {A : Type 0} (P : A → Type 0) (x : A) → P x → All P (x ∷ [])
one P x h zero d l = h
one P x h (suc k) d l = absurd (omega (arith, l))

none : {A : Type 0} (P : A → Type 0) → All P []
none P k d l = absurd (omega (arith, l))

-- a grant is a move, or no change at all
granted : (b : Start) (len : List LogEntry → ℕ) (s : Spine) (c : CoreParts) (whole : List LogEntry) → Tied b len s c whole → (from t li lt : ℕ)
    → AskClaim b s from t li lt → may_grant c from t li lt ≡ true → Grants b s c.id from ⊎ (c.vote ≡ from)
granted b len s c whole ok from t li lt claim g =
    let order = ok.based in let o2 = ok.known in let o3 = ok.short in
    let g0 = and_parts (t == c.term) (((c.vote == 0) || (c.vote == from)) && (ltb (log_last_term c.log) lt || ((log_last_term c.log == lt) && leb (last_index c.log) li))) g in
    let g1 = and_parts ((c.vote == 0) || (c.vote == from)) (ltb (log_last_term c.log) lt || ((log_last_term c.log == lt) && leb (last_index c.log) li)) g0.1 in
    let same : t ≡ c.term = eqb-true t c.term g0.0 in
    let is = ok.stands_for ∙ compact_is b whole c.log.base order (omega arith) in
    let ll : log_last_term c.log ≡ last_term b whole = ap log_last_term is ∙ compact_last_term b whole c.log.base order (omega arith) in
    let li' : last_index c.log ≡ b.base + length whole = ap last_index is ∙ compact_last b whole c.log.base order (omega arith) in
    let newer : IsUpToDate b claim.log whole = ⊎_elim
    (λ (x : ltb (log_last_term c.log) lt ≡ true). let y = ltb-true (log_last_term c.log) lt x in let z = claim.last in inl (omega arith))
    (λ (x : ((log_last_term c.log == lt) && leb (last_index c.log) li) ≡ true).
    let y = and_parts (log_last_term c.log == lt) (leb (last_index c.log) li) x in
    let y0 = eqb-true (log_last_term c.log) lt y.0 in let y1 = leb-true (last_index c.log) li y.1 in
    let z = claim.last in let z2 = claim.index in inr (sym ll ∙ (y0 ∙ z), omega arith))
    (or_cases (ltb (log_last_term c.log) lt) ((log_last_term c.log == lt) && leb (last_index c.log) li) g1.1) in
    ⊎_elim
    (λ (x : (c.vote == 0) ≡ true). inl (record {
      no_vote = ap (s.voted c.id) ok.term ∙ (ok.vote ∙ eqb-true c.vote 0 x);
      log = claim.log;
      stood = ap (s.stood from) (ok.term ∙ sym same) ∙ claim.stood;
      up_to_date = subst (λ (l : List LogEntry). IsUpToDate b claim.log l) (sym ok.log) newer;
    }))
    (λ (x : (c.vote == from) ≡ true). inr (eqb-true c.vote from x))
    (or_cases (c.vote == 0) (c.vote == from) g1.0)

-- after the move
voted_tied : (b : Start) (len : List LogEntry → ℕ) (s : Spine) → Sound b s → (c : CoreParts) (whole : List LogEntry) → Tied b len s c whole → (from : ℕ)
    → Grants b s c.id from → Tied b len (moved_all (Grant c.id from ∷ []) s) (record c { vote = from }) whole
voted_tied b len s h c whole ok from gr =
    let g = move_grows b s h (Grant c.id from) gr in
    let s' = moved_all (Grant c.id from ∷ []) s in
    record {
      is_node = ok.is_node;
      term = ok.term;
      vote = ap (s'.voted c.id) (sym ok.term) ∙ at2_same s.voted c.id (s.term c.id) from;
      log = ok.log;
      stands_for = ok.stands_for;
      size = ok.size;
      based = ok.based;
      known = ok.known;
      short = ok.short;
      decided = decided_stays b s s' g c.term c.term (take (c.commit - b.base) whole) (omega arith) ok.decided;
      standing = λ r. let x = ok.standing r in record {
        late = x.late;
        not_yet = x.not_yet;
        votes = λ j n e. let q = x.votes j n e in g.voted j c.term (λ z. ok.is_node (sym q ∙ z)) ∙ q;
      };
      leading = λ r. let x = ok.leading r in record { leads = x.leads; own = x.own; matches = x.matches; nexts = x.nexts };
    }

pub turn_vote : (b : Start) (len : List LogEntry → ℕ) (s : Spine) → Sound b s → (c : CoreParts) (whole : List LogEntry) → Tied b len s c whole
    → (from t li lt : ℕ) → AskClaim b s from t li lt → Turned b len s c whole (hears_vote c from t li lt) whole
turn_vote b len s h c whole ok from t li lt claim = answer (may_grant c from t li lt) refl
  where
    still : c.vote ≡ from → Tied b len s (record c { vote = from }) whole
    still e = let v : CoreParts = record c { vote = from } in
        record {
          is_node = ok.is_node;
          term = ok.term;
          vote = ok.vote ∙ e;
          log = ok.log;
          stands_for = ok.stands_for;
          size = ok.size;
          based = ok.based;
          known = ok.known;
          short = ok.short;
          decided = ok.decided;
          standing = λ r. let x = ok.standing r in record { late = x.late; not_yet = x.not_yet; votes = x.votes };
          leading = λ r. let x = ok.leading r in record { leads = x.leads; own = x.own; matches = x.matches; nexts = x.nexts };
        }

    answer : (g : Bool) → may_grant c from t li lt ≡ g → Turned b len s c whole (record { core = cond g (record c { vote = from }) c; items = []; messages = message_to c from (VoteReply c.term g) ∷ [] }) whole
    answer true e = ⊎_elim
        (λ (gr : Grants b s c.id from).
        let w = voted_tied b len s h c whole ok from gr in
        record {
          moves = Grant c.id from ∷ [];
          mine = one (λ (m : Move). actor m ≡ c.id) (Grant c.id from) refl;
          can = (gr, tt);
          tied = w;
          said = one (λ (x : Message). (x.from ≡ c.id) × Claim b len (moved_all (Grant c.id from ∷ []) s) x.from x.to x.body) (message_to c from (VoteReply c.term true)) (refl, λ z. w.vote);
          front = refl;
        })
        (λ (v : c.vote ≡ from). record {
          moves = [];
          mine = none (λ (m : Move). actor m ≡ c.id);
          can = tt;
          tied = still v;
          said = one (λ (x : Message). (x.from ≡ c.id) × Claim b len s x.from x.to x.body) (message_to c from (VoteReply c.term true)) (refl, λ z. ok.vote ∙ v);
          front = refl;
        })
        (granted b len s c whole ok from t li lt claim e)
    answer false e = record {
      moves = [];
      mine = none (λ (m : Move). actor m ≡ c.id);
      can = tt;
      tied = ok;
      said = one (λ (x : Message). (x.from ≡ c.id) × Claim b len s x.from x.to x.body) (message_to c from (VoteReply c.term false)) (refl, λ z. absurd (let q : false ≡ true = z in cc));
      front = refl;
    }
