-- The items of a step, behind a store or in its place.
use Rattle.std.proofs.Common.{◌≡◌, ℕ, ◌≤◌, Bool, true, false, cond, ◌&&◌, List, [], ◌∷◌, refl, sym, ap, subst, ◌∙◌, arith, Option, Some, None}
use Rattle.std.specs.Prelude.{nat_le, option_and_then}
use Rattle.raft_types.specs.declared.item.Item.{Item}
use Rattle.raft_types.specs.declared.item.Item.TheVariants.{Snap, Vote, Entry}
use Rattle.raft_types.specs.declared.limits.TheConstants.{MAX_TERM, MAX_NODES}
use Rattle.raft_types.specs.declared.event.CoreEvent.{CoreEvent}
use Rattle.raft_types.specs.Core.{CoreParts}
use Rattle.raft_types.specs.Fits.{CoreFits, EventFits}
use Rattle.raft_types.specs.Step.{on}
use Rattle.raft_types.proofs.Kept.{items_tell}
use Rattle.raft_types.proofs.Writes.{step_fits}
use Rattle.raft_durable.specs.declared.kept.Kept.{Kept}
use Rattle.raft_durable.specs.declared.reading.Reading.{Reading}
use Rattle.raft_durable.specs.Stores.{start, is_waiting, may_vote, may_put, took, finished, read_store}
use Rattle.raft_durable.specs.Laws.{took_items}
use Rattle.raft_durable.specs.Steps.{KeptFits, SaysAfter, TermsRise, kept_after, kept_of, kept_on, snapshot_after}
use Rattle.raft_durable.proofs.Anew.{form_says}
use Rattle.raft_durable.proofs.Steps.{with_log}
use Rattle.raft_durable.proofs.Unspelling.{store_unspelled}
use Rattle.raft_durable.proofs.Voting.{vote_rises, vote_known}

-- ---- a store's vote is for a node

abbrev Low : Reading → Type 0
Low r = r.kept.vote ≤ MAX_NODES

vote_first : (p q x : Bool) → (p && (q && x)) ≡ true → q ≡ true
vote_first true true x h = refl
vote_first true false x h = h
vote_first false q x h = absurd (grind arith)

at_most : (a b : ℕ) → nat_le a b ≡ true → a ≤ b
at_most a b h = grind arith

some_low : (b : Bool) (a next : Reading) → (b ≡ true → Low a) → cond b (Some a) None ≡ Some next → Low next
some_low true a next h is = let same : a ≡ next = cc in subst Low same (h refl)
some_low false a next h is = absurd cc

none_low : (b : Bool) (a next : Reading) → Low a → cond b None (Some a) ≡ Some next → Low next
none_low true a next h is = absurd cc
none_low false a next h is = let same : a ≡ next = cc in subst Low same h

one_low : (s : List ℕ) (r next : Reading) (x : Item) → Low r → took s r x ≡ Some next → Low next
one_low s r next (Snap index term) low is = none_low r.started _ next (let zero_low : 0 ≤ MAX_NODES = omega arith in zero_low) is
one_low s r next (Vote term vote) low is = some_low (may_vote r term vote) _ next (λ e. at_most vote MAX_NODES (vote_first (nat_le term MAX_TERM) (nat_le vote MAX_NODES) _ e)) is
one_low s r next (Entry index term entry) low is = some_low (may_put r index term) _ next (λ e. low) is

next_low : (s : List ℕ) (r last : Reading) (x : Item) (items : List Item) → Low r → ((n : Reading) → Low n → took_items s n items ≡ Some last → Low last)
    → (o : Option Reading) → took s r x ≡ o → option_and_then (λ n. took_items s n items) o ≡ Some last → Low last
next_low s r last x items low each None e is = absurd cc
next_low s r last x items low each (Some n) e is = each n (one_low s r n x low e) is

items_low : (s : List ℕ) (r last : Reading) (items : List Item) → Low r → took_items s r items ≡ Some last → Low last
items_low s r last [] low is = let same : r ≡ last = cc in subst Low same low
items_low s r last (x ∷ items) low is = next_low s r last x items low (λ n. items_low s n last items) (took s r x) refl is

kept_low : (k : Kept) (r : Reading) (b : Bool) → Low r → cond b None (Some r.kept) ≡ Some k → k.vote ≤ MAX_NODES
kept_low k r true low is = absurd cc
kept_low k r false low is = let same : r.kept ≡ k = cc in subst (λ (x : Kept). x.vote ≤ MAX_NODES) same low

read_low : (k : Kept) (s : List ℕ) (items : List Item) (o : Option Reading) → took_items s start items ≡ o → option_and_then finished o ≡ Some k → k.vote ≤ MAX_NODES
read_low k s items None e is = absurd cc
read_low k s items (Some r) e is = kept_low k r (is_waiting r) (items_low s start r items (let zero_low : 0 ≤ MAX_NODES = omega arith in zero_low) e) is

store_vote : (bytes : List (List ℕ)) (k : Kept) → read_store bytes ≡ Some k → k.vote ≤ MAX_NODES
store_vote bytes k is = let u = store_unspelled bytes k is in read_low k u.snapshot u.items (took_items u.snapshot start u.items) refl u.says

-- ---- the law of a step

pub step_says : (bytes : List (List ℕ)) (now : Option (List ℕ)) (snapshot : List ℕ) (c : CoreParts) (event : CoreEvent) → read_store bytes ≡ Some (kept_of c now) → CoreFits c → EventFits c event
    → TermsRise (on c event).core → SaysAfter bytes snapshot (on c event).items (kept_on c event now snapshot)
step_says bytes now snapshot c event is fits e o =
    let step = step_fits c event fits e in
    let items = (on c event).items in
    let tell = items_tell c event in
    let after = snapshot_after now snapshot items in
    let k = kept_after (kept_of c now) snapshot items in
    let f : KeptFits (kept_on c event now snapshot) = record { term = step.core.term; vote = vote_known c event fits e (store_vote bytes (kept_of c now) is); last = step.core.last; terms = o } in
    let same : k ≡ kept_on c event now snapshot
    = ap (λ (t : ℕ). with_log t k.vote after k.log) tell.term
    ∙ (ap (λ (v : ℕ). with_log (on c event).core.term v after k.log) tell.vote
    ∙ ap (with_log (on c event).core.term (on c event).core.vote after) tell.log) in
    subst (SaysAfter bytes snapshot items) same
    (form_says bytes (kept_of c now) snapshot c.commit items is fits.from_base step.items (vote_rises c event now fits e) (subst KeptFits (sym same) f))
