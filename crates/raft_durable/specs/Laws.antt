-- What the laws of a node's store say.
use Rattle.std.specs.Prelude.{◌≡◌, ℕ, ◌+◌, ◌-◌, ◌<◌, ◌≤◌, ◌^◌, true, List, [], ◌∷◌, map, Option, Some, option_and_then, ⊤}
use Rattle.raft_types.specs.declared.item.Item.{Item}
use Rattle.raft_types.specs.declared.item.Item.TheVariants.{Snap, Vote, Entry}
use Rattle.raft_types.specs.declared.limits.TheConstants.{MAX_TERM, MAX_INDEX, MAX_NODES}
use Rattle.raft_types.specs.Items.{log_after, term_after, vote_after}
use Rattle.raft_types.specs.Log.{last_index, log_term, or_zero}
use Rattle.raft_durable.specs.declared.kept.Kept.{Kept}
use Rattle.raft_durable.specs.declared.reading.Reading.{Reading}
use Rattle.raft_durable.specs.Bytes.{item_bytes}
use Rattle.raft_durable.specs.Stores.{start, rises, took, finished}

-- the numbers of an item have eight bytes
abbrev pub Fits : Item → Type 0
Fits (Snap index term) = (index < 2 ^ 64) × (term < 2 ^ 64)
Fits (Vote term vote) = term < 2 ^ 64
Fits (Entry index term entry) = (index < 2 ^ 64) × (term < 2 ^ 64)

-- those of each of these items have
abbrev pub AllFit : List Item → Type 0
AllFit [] = ⊤
AllFit (item ∷ items) = Fits item × AllFit items

-- what is said with these items more, each of which may follow
abbrev pub took_items : List ℕ → Reading → List Item → Option Reading
took_items snapshot r [] = Some r
took_items snapshot r (item ∷ items) = option_and_then (λ next. took_items snapshot next items) (took snapshot r item)

-- items that follow each other are spelled by these bytes, with one snapshot's bytes, and say this
pub record Spells (bytes : List (List ℕ)) (k : Kept) : Type 0 where
  pub snapshot : List ℕ
  pub items : List Item
  pub are : bytes ≡ map (item_bytes snapshot) items
  pub says : option_and_then finished (took_items snapshot start items) ≡ Some k

-- a term and vote may follow what a node keeps
pub record CanVote (k : Kept) (term vote : ℕ) : Type 0 where
  pub rise : rises k term vote ≡ true
  pub above_base : k.log.base_term ≤ term
  pub greatest : term ≤ MAX_TERM
  pub node : vote ≤ MAX_NODES

-- an entry may follow what a node keeps
pub record CanPut (k : Kept) (index term : ℕ) : Type 0 where
  pub above : k.log.base < index
  pub near : index ≤ last_index k.log + 1
  pub last : index ≤ MAX_INDEX
  pub from : or_zero (log_term k.log (index - 1)) ≤ term
  pub to : term ≤ k.term
  pub greatest : term ≤ MAX_TERM

-- what a node keeps after these items, none of which is a snapshot
abbrev pub after : Kept → List Item → Kept
after k items = record { term = term_after k.term items; vote = vote_after k.vote items; log = log_after k.log items; snapshot = k.snapshot }

-- these items may follow one after the other, and none is a snapshot
abbrev pub Follow : Kept → List Item → Type 0
Follow k [] = ⊤
Follow k (Snap index term ∷ items) = ⊥
Follow k (Vote term vote ∷ items) = CanVote k term vote × Follow (after k (Vote term vote ∷ [])) items
Follow k (Entry index term entry ∷ items) = CanPut k index term × Follow (after k (Entry index term entry ∷ [])) items
