-- Becoming leader.
use Rattle.std.proofs.Common.{◌≡◌, ℕ, ◌≤◌, Bool, true, false, cond, nat_lt, ◌&&◌, List, [], ◌∷◌, refl, arith, sym, subst}
use Rattle.raft_types.specs.declared.limits.TheConstants.{MAX_INDEX, NOOP}
use Rattle.raft_types.specs.declared.entry.LogEntry.{LogEntry}
use Rattle.raft_types.specs.declared.state.Role.TheVariants.{Candidate}
use Rattle.raft_types.specs.Log.{last_index}
use Rattle.raft_types.specs.Items.{stored}
use Rattle.raft_types.specs.Quorum.{ids}
use Rattle.raft_types.specs.Core.{CoreParts, is_majority, voted_for}
use Rattle.raft_types.specs.Commit.{own_item, committed, appends}
use Rattle.raft_types.specs.Send.{to_all}
use Rattle.raft_types.specs.Election.{elected, leads}
use Rattle.raft_spine.specs.Start.{Start}
use Rattle.raft_spine.specs.Spine.{Spine}
use Rattle.raft_spine.specs.Moves.{moved_all}
use Rattle.raft_spine.proofs.Sound.{Sound}
use Rattle.raft_spine.proofs.Run.{moves_sound}
use Rattle.raft_claims.specs.Tied.{Tied, Turned}
use Rattle.raft_claims.proofs.Turns.{turned_then}
use Rattle.raft_claims.proofs.TurnLead.{turn_elected}
use Rattle.raft_claims.proofs.Committing.{turn_committed}
use Rattle.raft_claims.proofs.TurnOwn.{own_after, turn_own}

pub turn_leads : (b : Start) → b.base_term ≤ b.term → (len : List LogEntry → ℕ) (s : Spine) → Sound b s → (c : CoreParts) (whole : List LogEntry) → Tied b len s c whole
    → b.members ≡ ids c.nodes → c.role ≡ Candidate → is_majority c (voted_for c) ≡ true → Turned b len s c whole (leads c) (stored b.base whole (leads c).items)
turn_leads b low len s h c whole ok nodes role most = answer (nat_lt c.commit (last_index c.log) && nat_lt (last_index c.log) MAX_INDEX)
  where
    first : Turned b len s c whole (record { core = elected c; items = []; messages = [] }) whole
    first = turn_elected b len s h c whole ok nodes role most

    sound : Sound b (moved_all first.moves s)
    sound = moves_sound b low s h first.moves first.can

    own : Turned b len (moved_all first.moves s) (elected c) whole (appends (elected c) (NOOP ∷ [])) (stored b.base whole (own_item (elected c) (NOOP ∷ []) ∷ []))
    own = subst (λ (l : List LogEntry). Turned b len (moved_all first.moves s) (elected c) whole (appends (elected c) (NOOP ∷ [])) l)
        (sym (own_after b len (moved_all first.moves s) sound (elected c) whole first.tied refl (NOOP ∷ [])))
        (turn_own b len (moved_all first.moves s) sound (elected c) whole first.tied refl (NOOP ∷ []) nodes)

    answer : (g : Bool) → Turned b len s c whole
        (cond g (appends (elected c) (NOOP ∷ [])) (record { core = committed (elected c); items = []; messages = to_all (committed (elected c)) }))
        (stored b.base whole (cond g (appends (elected c) (NOOP ∷ [])) (record { core = committed (elected c); items = []; messages = to_all (committed (elected c)) })).items)
    answer true = turned_then b len s c whole (elected c) whole first refl (omega arith) (appends (elected c) (NOOP ∷ [])) (stored b.base whole (own_item (elected c) (NOOP ∷ []) ∷ [])) own
    answer false = turned_then b len s c whole (elected c) whole first refl (omega arith) (record { core = committed (elected c); items = []; messages = to_all (committed (elected c)) }) whole
        (turn_committed b len (moved_all first.moves s) sound (elected c) whole first.tied refl nodes)
