-- The laws, by the lemmas.
use Rattle.std.proofs.Common.{◌≡◌, ◌≢◌, ℕ, ◌-◌, ◌≤◌, Bool, cond, List, [], take, refl, sym, ap, ◌∙◌, subst, arith, inl}
use Rattle.std.proofs.lemmas.Bool.{eq-eqb}
use Rattle.raft_types.specs.declared.entry.LogEntry.{LogEntry}
use Rattle.raft_types.specs.Log.{LogParts, compacted}
use Rattle.raft_types.specs.Core.{CoreParts, compacts}
use Rattle.raft_types.proofs.Compacts.{compacts as stands_for}
use Rattle.raft_spine.specs.Start.{Start}
use Rattle.raft_spine.specs.Spine.{Spine, begin}
use Rattle.raft_spine.specs.Moves.{Move, moved_all}
use Rattle.raft_spine.specs.Decided.{Decided}
use Rattle.raft_spine.proofs.Run.{reached_sound}
use Rattle.raft_spine.proofs.Others.{leaves_all}
use Rattle.raft_spine.proofs.Grow.{moves_grow}
use Rattle.raft_claims.specs.Tied.{whole_log, Tied}
use Rattle.raft_claims.specs.Laws.{MovesOf, OthersStay, BeginsTied, StoresTie}
use Rattle.raft_claims.proofs.Stores.{tied_stops, store_starts}
use Rattle.raft_claims.proofs.Turns.{tied_stays, store_stays}

pub others_stay : (b : Start) (len : List LogEntry → ℕ) (s : Spine) (k : ℕ) (ms : List Move) → MovesOf b s k ms → OthersStay b len s (moved_all ms s) k
others_stay b len s k ms m =
    let low = m.reached.start.low in
    let h = reached_sound b s m.reached in
    let g = moves_grow b low s h ms m.can in
    record {
      cores = λ c whole d ok. tied_stays b len s (moved_all ms s) g c whole (leaves_all b low s h k ms m.can m.mine c.id ok.is_node d) ok;
      stores = λ j t v l n whole d ok. store_stays b len s (moved_all ms s) g j t v l n whole (leaves_all b low s h k ms m.can m.mine j ok.is_node d) ok;
    }

-- a log compacted at its base is the log
at_base : (b : Start) (l : List LogEntry) → compacted (whole_log b l) b.base ≡ whole_log b l
at_base b l = grind arith

pub begins_tied : (b : Start) (len : List LogEntry → ℕ) (k : ℕ) → k ≢ 0 → BeginsTied b len k
begins_tied b len k nz =
    let z : b.base - b.base ≡ 0 = omega arith in
    let none : [] ≡ take (b.base - b.base) b.log = ap (λ (n : ℕ). take n b.log) (sym z) in
    record {
      is_node = nz;
      term = refl;
      vote = ap (λ (g : Bool). cond g b.vote 0) (eq-eqb b.term b.term refl);
      log = refl;
      stands_for = sym (at_base b b.log);
      size = ap len none;
      based = omega arith;
      short = omega arith;
      decided = subst (λ (p : List LogEntry). Decided b (begin b) b.term p) none (record { how = inl refl });
    }

-- a snapshot of what is committed
pub compacts_tied : (b : Start) (len : List LogEntry → ℕ) (s : Spine) (whole : List LogEntry) (c : CoreParts) (i : ℕ) → Tied b len s c whole → c.log.base ≤ i → i ≤ c.commit
    → Tied b len s (compacts c i (len (take (i - b.base) whole))) whole
compacts_tied b len s whole c i ok lo hi =
    let o = ok.based in let o2 = ok.known in let o3 = ok.short in
    let st = stands_for (whole_log b whole) c.log.base o (omega arith) in
    record {
      is_node = ok.is_node;
      term = ok.term;
      vote = ok.vote;
      log = ok.log;
      stands_for = ap (λ (l : LogParts). compacted l i) ok.stands_for ∙ st.again i lo (omega arith);
      size = refl;
      based = omega arith;
      known = hi;
      short = ok.short;
      decided = ok.decided;
      standing = λ r. let x = ok.standing r in record { late = x.late; not_yet = x.not_yet; votes = x.votes };
      leading = λ r. let x = ok.leading r in record { leads = x.leads; own = x.own; matches = x.matches; nexts = x.nexts };
    }

pub stores_tie : (b : Start) (len : List LogEntry → ℕ) (s : Spine) (whole : List LogEntry) → StoresTie b len s whole
stores_tie b len s whole = record {
  stops = λ c ok. tied_stops b len s c whole ok;
  starts = λ k nodes t v l n ok. store_starts b len s k nodes t v l n whole ok;
  compacts = λ c i ok lo hi. compacts_tied b len s whole c i ok lo hi;
}
