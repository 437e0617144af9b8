-- What holds of every world since some earlier spine: what was known then is known, and of what was taken.
use Rattle.std.proofs.Common.{◌≡◌, ◌≢◌, ℕ, zero, suc, ◌+◌, ◌-◌, ◌<◌, ◌≤◌, Bool, true, false, cond, All, List, [], ◌∷◌, length, get_or, take, refl, sym, ap, ◌∙◌, subst, arith, ◌⊎◌, inl, inr, ⊎_elim, length-take-le, length-append}
use Rattle.std.proofs.lemmas.List.Elements.{All-weaker}
use Rattle.raft_types.specs.declared.limits.TheConstants.{NOOP}
use Rattle.raft_types.specs.declared.entry.LogEntry.{LogEntry}
use Rattle.raft_types.specs.Log.{LogParts}
use Rattle.raft_types.specs.declared.item.Item.TheVariants.{Vote as VoteItem, Entry}
use Rattle.raft_types.specs.declared.state.Role.TheVariants.{Leader}
use Rattle.raft_spine.specs.Start.{Start}
use Rattle.raft_spine.specs.Spine.{Spine}
use Rattle.raft_spine.specs.Laws.{Grows}
use Rattle.raft_spine.proofs.Grow.{grows_both}
use Rattle.raft_claims.specs.Events.{whole_after}
use Rattle.cluster_world.specs.World.{Machine, Placed, World, nodes_of, last_of, node_at}
use Rattle.cluster_world.specs.Facts.{WasStored, IsAmong, TakesDiffer}
use Rattle.cluster_world.proofs.Keeping.{Kept, Onward, Within, Sourced, Forward}

-- what a leader took: the term has its leader, and who leads in it now has the entry's place in its log
pub record Took (b : Start) (s : Spine) (w : World) (x : Placed) : Type 0 where
  pub led : s.leader x.term ≢ 0
  pub within : (k : ℕ) → (node_at b w k).role ≡ Leader → (node_at b w k).term ≡ x.term → x.index ≤ last_of b (node_at b w k)

-- where an entry may come from: the opening, a noop, a fire, or a command that was taken
abbrev pub IsKnown : List LogParts → List Placed → List Placed → Placed → Type 0
IsKnown opened fires takes x = (WasStored opened x ⊎ (x.entry ≡ NOOP ∷ [])) ⊎ (IsAmong fires x ⊎ IsAmong takes x)

pub noop_known : (opened : List LogParts) (fires takes : List Placed) (i t : ℕ) → IsKnown opened fires takes (record { index = i; term = t; entry = NOOP ∷ [] })
noop_known opened fires takes i t = inl (inr refl)

-- the first of a list is one of it, and so are the others
pub among_first : (x : Placed) (xs : List Placed) → IsAmong (x ∷ xs) x
among_first x xs = record { place = 0; there = omega arith; is = λ d. refl }

among_more : (x : Placed) (xs : List Placed) (y : Placed) → IsAmong xs y → IsAmong (x ∷ xs) y
among_more x xs y a = let lt = a.there in record { place = suc a.place; there = omega (arith, lt); is = a.is }

pub fires_more : (opened : List LogParts) (x : Placed) (fires takes : List Placed) (y : Placed) → IsKnown opened fires takes y → IsKnown opened (x ∷ fires) takes y
fires_more opened x fires takes y k = ⊎_elim
    (λ (a : WasStored opened y ⊎ (y.entry ≡ NOOP ∷ [])). inl a)
    (λ (a : IsAmong fires y ⊎ IsAmong takes y). inr (⊎_elim (λ (f : IsAmong fires y). inl (among_more x fires y f)) (λ (t : IsAmong takes y). inr t) a))
    k

pub takes_more : (opened : List LogParts) (x : Placed) (fires takes : List Placed) (y : Placed) → IsKnown opened fires takes y → IsKnown opened fires (x ∷ takes) y
takes_more opened x fires takes y k = ⊎_elim
    (λ (a : WasStored opened y ⊎ (y.entry ≡ NOOP ∷ [])). inl a)
    (λ (a : IsAmong fires y ⊎ IsAmong takes y). inr (⊎_elim (λ (f : IsAmong fires y). inl f) (λ (t : IsAmong takes y). inr (among_more x takes y t)) a))
    k

-- known in a world that remembers the same
pub known_same : (b : Start) (w : World) (opened opened' : List LogParts) (fires fires' takes takes' : List Placed) → opened' ≡ opened → fires' ≡ fires → takes' ≡ takes
    → Sourced (IsKnown opened fires takes) b w → Sourced (IsKnown opened' fires' takes') b w
known_same b w opened opened' fires fires' takes takes' p q r x =
    subst (λ (o : List LogParts). Sourced (IsKnown o fires' takes') b w) (sym p)
    (subst (λ (f : List Placed). Sourced (IsKnown opened f takes') b w) (sym q) (subst (λ (t : List Placed). Sourced (IsKnown opened fires t) b w) (sym r) x))

pub record Holds (b : Start) (m : Machine) (s0 : Spine) (w : World) : Type 0 where
  pub kept : Kept b m w
  pub since : Grows s0 kept.spine
  pub count : length w.nodes ≡ nodes_of b
  pub took : All (Took b kept.spine w) w.takes
  pub differ : TakesDiffer w
  pub longer : w.all_started ≡ true → Within b w
  pub sourced : Sourced (IsKnown w.opened w.fires w.takes) b w

pub took_on : (b : Start) (m : Machine) (s : Spine) (w w' : World) (o : Onward b m s w w') (x : Placed) → Took b s w x → Took b o.kept.spine w' x
took_on b m s w w' o x t = record {
  led = λ z. t.led (sym (o.grows.leader x.term t.led) ∙ z);
  within = λ k lead e. ⊎_elim
      (λ (y : ((node_at b w k).role ≡ Leader) × (((node_at b w k).term ≡ (node_at b w' k).term) × (last_of b (node_at b w k) ≤ last_of b (node_at b w' k)))).
      let l = t.within k y.0 (y.1.0 ∙ e) in let u = y.1.1 in let r : x.index ≤ last_of b (node_at b w' k) = omega (arith, l, u) in r)
      (λ (z : s.leader (node_at b w' k).term ≡ 0). absurd (t.led (ap s.leader (sym e) ∙ z)))
      (o.further k lead);
}

pub differs_on : (b : Start) (m : Machine) (s0 : Spine) (w w' : World) (h : Holds b m s0 w) → Onward b m h.kept.spine w w' → TakesDiffer w'
differs_on b m s0 w w' h o i j d li lj =
    subst (λ (xs : List Placed). i < length xs → j < length xs → (get_or xs i d).index ≡ (get_or xs j d).index → (get_or xs i d).term ≡ (get_or xs j d).term → i ≡ j)
    (sym o.takes) (h.differ i j d) li lj

-- what holds goes on
pub holds_on : (b : Start) (m : Machine) (s0 : Spine) (w w' : World) (h : Holds b m s0 w) → Forward b m h.kept.spine (IsKnown w.opened w.fires w.takes) w w' → Holds b m s0 w'
holds_on b m s0 w w' h f = let o = f.onward in record {
  kept = o.kept;
  since = grows_both s0 h.kept.spine o.kept.spine h.since o.grows;
  count = o.count ∙ h.count;
  took = subst (λ (xs : List Placed). All (Took b o.kept.spine w') xs) (sym o.takes)
      (All-weaker (Took b h.kept.spine w) (Took b o.kept.spine w') (λ x t. took_on b m h.kept.spine w w' o x t) w.takes h.took);
  differ = differs_on b m s0 w w' h o;
  longer = λ e. f.within (sym f.started ∙ e) (h.longer (sym f.started ∙ e));
  sourced = known_same b w' w.opened w'.opened w.fires w'.fires w.takes w'.takes f.opened f.fires o.takes (f.sourced h.sourced);
}

-- one more take, of an index past all others of its term
pub one_differs : (w : World) (x : Placed) → TakesDiffer w → All (λ (y : Placed). y.term ≡ x.term → y.index < x.index) w.takes → TakesDiffer (record w { takes = x ∷ w.takes })
one_differs w x f past zero zero d li lj ei et = refl
one_differs w x f past zero (suc j) d li lj ei et = absurd (let z = past j d (omega (arith, lj)) (sym et) in omega (arith, z, ei))
one_differs w x f past (suc i) zero d li lj ei et = absurd (let z = past i d (omega (arith, li)) et in omega (arith, z, ei))
one_differs w x f past (suc i) (suc j) d li lj ei et = ap suc (f i j d (omega (arith, li)) (omega (arith, lj)) ei et)

-- a whole log after its next entry, which may come after a vote
pub one_longer : (b : Start) (sender whole : List LogEntry) (g : Bool) (i t v u : ℕ) (e : List ℕ) → i ≡ suc (b.base + length whole)
    → length (whole_after b sender whole (cond g (Entry i t e ∷ []) (VoteItem u v ∷ Entry i t e ∷ []))) ≡ suc (length whole)
one_longer b sender whole true i t v u e q =
    let z = length-take-le (i - (b.base + 1)) whole (omega (arith, q)) in let y = length-append (take (i - (b.base + 1)) whole) (record { term = t; entry = e } ∷ []) in omega (arith, q, z, y)
one_longer b sender whole false i t v u e q =
    let z = length-take-le (i - (b.base + 1)) whole (omega (arith, q)) in let y = length-append (take (i - (b.base + 1)) whole) (record { term = t; entry = e } ∷ []) in omega (arith, q, z, y)
