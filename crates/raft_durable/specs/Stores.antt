-- A node's store: which lists of items are one, and what they say.
use Rattle.std.specs.Prelude.{ℕ, suc, ◌+◌, ◌-◌, Bool, true, false, not, nat_lt, nat_le, ◌==◌, ◌&&◌, ◌||◌, if◌then◌else◌, List, [], ◌∷◌, ◌++◌, map, get_or, Option, Some, None, is_some, option_and_then, unwrap_or}
use Rattle.raft_types.specs.declared.item.Item.{Item}
use Rattle.raft_types.specs.declared.item.Item.TheVariants.{Snap, Vote, Entry}
use Rattle.raft_types.specs.declared.limits.TheConstants.{MAX_TERM, MAX_INDEX, MAX_NODES}
use Rattle.raft_types.specs.Items.{log_after, number}
use Rattle.raft_types.specs.Log.{LogParts, nothing, last_index, log_term, or_zero}
use Rattle.raft_durable.specs.declared.kept.Kept.{Kept}
use Rattle.raft_durable.specs.declared.reading.Reading.{Reading}
use Rattle.raft_durable.specs.declared.limits.TheConstants.{SNAP_TAG, VOTE_TAG, ENTRY_TAG}
use Rattle.raft_durable.specs.Bytes.{item_bytes, numbers_at, term_vote_at}

-- what the empty list says: term 0, no vote, and a log without entries over base 0 of term 0
abbrev pub start : Reading
start =
    record {
      kept = record { term = 0; vote = 0; log = record { base = 0; base_term = 0; entries = [] }; snapshot = None };
      started = false;
      voted = false;
    }

-- the term rises, or a vote is given in it where there was none
abbrev pub rises : Kept → ℕ → ℕ → Bool
rises k term vote = nat_lt k.term term || ((term == k.term) && ((k.vote == 0) && not (vote == 0)))

-- a term and vote may follow: the first have a term that is not below the base's, and the others rise
abbrev pub may_vote : Reading → ℕ → ℕ → Bool
may_vote r term vote =
    nat_le term MAX_TERM && (nat_le vote MAX_NODES && (if r.voted then rises r.kept term vote else nat_le r.kept.log.base_term term))

-- a snapshot was read, and no term and vote behind it
abbrev pub is_waiting : Reading → Bool
is_waiting r = is_some r.kept.snapshot && not r.voted

-- an entry may follow at an index: above the base and at most one past the last
abbrev pub is_near : Reading → ℕ → Bool
is_near r index = nat_lt r.kept.log.base index && (nat_le index (last_index r.kept.log + 1) && nat_le index MAX_INDEX)

-- an entry may have a term: no lower than that of the entry or base before it, and no greater than the node's
abbrev pub is_of_age : Reading → ℕ → ℕ → Bool
is_of_age r index term = nat_le (or_zero (log_term r.kept.log (index - 1))) term && nat_le term r.kept.term

-- an entry may follow
abbrev pub may_put : Reading → ℕ → ℕ → Bool
may_put r index term = not (is_waiting r) && (is_near r index && is_of_age r index term)

-- what is said with one item more, where it may follow; a snapshot, whose bytes are given, comes first alone
abbrev pub took : List ℕ → Reading → Item → Option Reading
took snapshot r (Snap index term) =
    (if r.started then None else
    Some (record {
      kept = record { term = 0; vote = 0; log = record { base = index; base_term = term; entries = [] }; snapshot = Some snapshot };
      started = true;
      voted = false;
    }))
took snapshot r (Vote term vote) =
    (if may_vote r term vote then Some (record { kept = record r.kept { term = term; vote = vote }; started = true; voted = true }) else None)
took snapshot r (Entry index term entry) =
    (if may_put r index term then
    Some (record { kept = record r.kept { log = log_after r.kept.log (Entry index term entry ∷ []) }; started = true; voted = r.voted })
    else None)

-- the same, of the bytes behind the kind of an item
abbrev pub took_snap : Reading → List ℕ → Option Reading
took_snap r rest = option_and_then (λ n. took n.2 r (Snap n.0 n.1)) (numbers_at rest)

abbrev pub took_vote : Reading → List ℕ → Option Reading
took_vote r rest = option_and_then (λ n. took [] r (Vote n.0 n.1)) (term_vote_at rest)

abbrev pub took_entry : Reading → List ℕ → Option Reading
took_entry r rest = option_and_then (λ n. took [] r (Entry n.0 n.1 n.2)) (numbers_at rest)

-- the same, of an item as bytes
abbrev pub took_bytes : Reading → List ℕ → Option Reading
took_bytes r [] = None
took_bytes r (tag ∷ rest) =
    (if tag == SNAP_TAG then took_snap r rest else
    (if tag == VOTE_TAG then took_vote r rest else
    (if tag == ENTRY_TAG then took_entry r rest else None)))

-- the same, of items as bytes
abbrev pub took_all : Reading → List (List ℕ) → Option Reading
took_all r [] = Some r
took_all r (item ∷ items) = option_and_then (λ next. took_all next items) (took_bytes r item)

-- a list may end here: a term and vote stand behind a snapshot
abbrev pub finished : Reading → Option Kept
finished r = if is_waiting r then None else Some r.kept

-- what a list of items as bytes says, where it is a node's store
abbrev pub read_store : List (List ℕ) → Option Kept
read_store items = option_and_then finished (took_all start items)

-- the snapshot's item, where there is one
abbrev pub snap_items : Option (List ℕ) → LogParts → List Item
snap_items None l = []
snap_items (Some snapshot) l = Snap l.base l.base_term ∷ []

-- the items that a store is written anew with: the snapshot where there is one, term and vote, and the entries in order
abbrev pub kept_items : Kept → List Item
kept_items k = snap_items k.snapshot k.log ++ Vote k.term k.vote ∷ number (suc k.log.base) k.log.entries

-- the same as bytes
abbrev pub kept_bytes : Kept → List (List ℕ)
kept_bytes k = map (item_bytes (unwrap_or k.snapshot [])) (kept_items k)

-- the first of them
abbrev pub snap_bytes : Option (List ℕ) → LogParts → List (List ℕ)
snap_bytes snapshot l = map (item_bytes (unwrap_or snapshot [])) (snap_items snapshot l)

-- the entry at a place of a log, from 0 on, as an item
abbrev pub entry_of : LogParts → ℕ → Item
entry_of l place = Entry (l.base + place + 1) (get_or l.entries place nothing).term (get_or l.entries place nothing).entry
