-- What a node's store says after the items of a step.
use Rattle.std.specs.Prelude.{◌≡◌, ℕ, ◌≤◌, true, false, if◌then◌else◌, ⊤, List, [], ◌∷◌, ◌++◌, map, take, Option, Some, None}
use Rattle.raft_types.specs.declared.entry.LogEntry.{LogEntry}
use Rattle.raft_types.specs.declared.event.CoreEvent.{CoreEvent}
use Rattle.raft_types.specs.declared.item.Item.{Item}
use Rattle.raft_types.specs.declared.item.Item.TheVariants.{Snap, Vote, Entry}
use Rattle.raft_types.specs.declared.limits.TheConstants.{MAX_TERM, MAX_INDEX, MAX_NODES}
use Rattle.raft_types.specs.Core.{CoreParts}
use Rattle.raft_types.specs.Items.{log_after, term_after, vote_after}
use Rattle.raft_types.specs.Log.{LogParts, last_index}
use Rattle.raft_types.specs.Step.{on, starts_anew}
use Rattle.raft_durable.specs.declared.kept.Kept.{Kept}
use Rattle.raft_durable.specs.Bytes.{item_bytes}
use Rattle.raft_durable.specs.Stores.{rises, read_store}

-- the terms of these entries do not fall, the first is not below one term, and none is above another
abbrev pub Rising : ℕ → ℕ → List LogEntry → Type 0
Rising from to [] = from ≤ to
Rising from to (x ∷ xs) = (from ≤ x.term) × Rising x.term to xs

-- what a node keeps is within the limits of a store
pub record KeptFits (k : Kept) : Type 0 where
  pub term : k.term ≤ MAX_TERM
  pub vote : k.vote ≤ MAX_NODES
  pub last : last_index k.log ≤ MAX_INDEX
  pub terms : Rising k.log.base_term k.term k.log.entries

-- without a snapshot a log stands on nothing
abbrev pub Based : Option (List ℕ) → LogParts → Type 0
Based None l = (l.base ≡ 0) × (l.base_term ≡ 0)
Based (Some snapshot) l = ⊤

-- a vote that comes first rises
abbrev pub VoteRises : Kept → List Item → Type 0
VoteRises k [] = ⊤
VoteRises k (Snap index term ∷ items) = ⊤
VoteRises k (Vote term vote ∷ items) = rises k term vote ≡ true
VoteRises k (Entry index term entry ∷ items) = ⊤

-- the store after items are written: they are added, or stand in its place where they begin with a snapshot
abbrev pub store_after : List (List ℕ) → List ℕ → List Item → List (List ℕ)
store_after bytes snapshot items = if starts_anew items then map (item_bytes snapshot) items else bytes ++ map (item_bytes snapshot) items

-- the snapshot after them
abbrev pub snapshot_after : Option (List ℕ) → List ℕ → List Item → Option (List ℕ)
snapshot_after now snapshot items = if starts_anew items then Some snapshot else now

-- what is kept after them
abbrev pub kept_after : Kept → List ℕ → List Item → Kept
kept_after k snapshot items =
    record {
      term = term_after k.term items;
      vote = vote_after k.vote items;
      log = log_after k.log items;
      snapshot = snapshot_after k.snapshot snapshot items;
    }

-- a list is a node's store
pub record IsStore (bytes : List (List ℕ)) : Type 0 where
  pub kept : Kept
  pub says : read_store bytes ≡ Some kept

-- a store after items says what is kept after them; each front of items that are added leaves a store
pub record SaysAfter (bytes : List (List ℕ)) (snapshot : List ℕ) (items : List Item) (k : Kept) : Type 0 where
  pub says : read_store (store_after bytes snapshot items) ≡ Some k
  pub fronts : starts_anew items ≡ false → (n : ℕ) → IsStore (bytes ++ map (item_bytes snapshot) (take n items))

-- what a node with this snapshot keeps
abbrev pub kept_of : CoreParts → Option (List ℕ) → Kept
kept_of c snapshot = record { term = c.term; vote = c.vote; log = c.log; snapshot = snapshot }

-- what a node keeps after an event, where its snapshot was this one and an install brings that one
abbrev pub kept_on : CoreParts → CoreEvent → Option (List ℕ) → List ℕ → Kept
kept_on c event now snapshot = kept_of (on c event).core (snapshot_after now snapshot (on c event).items)

-- the terms of a node's log do not fall from the base's on, and none is above its own
abbrev pub TermsRise : CoreParts → Type 0
TermsRise c = Rising c.log.base_term c.term c.log.entries
