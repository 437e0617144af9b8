-- What is read was spelled.
use Rattle.std.proofs.Common.{◌≡◌, ℕ, ◌==◌, Bool, true, false, cond, List, [], ◌∷◌, ◌++◌, map, refl, sym, ap, ◌∙◌, Option, Some, None}
use Rattle.std.specs.Prelude.{option_and_then, option_map}
use Rattle.byteorder.specs.Endian.{big_bytes}
use Rattle.raft_types.specs.declared.item.Item.{Item}
use Rattle.raft_types.specs.declared.item.Item.TheVariants.{Snap, Vote, Entry}
use Rattle.raft_types.specs.Items.{log_after}
use Rattle.raft_durable.specs.declared.kept.Kept.{Kept}
use Rattle.raft_durable.specs.declared.reading.Reading.{Reading}
use Rattle.raft_durable.specs.declared.limits.TheConstants.{SNAP_TAG, VOTE_TAG, ENTRY_TAG}
use Rattle.raft_durable.specs.Bytes.{item_bytes, number_at, numbers_at, vote_at, term_vote_at}
use Rattle.raft_durable.specs.Stores.{start, may_vote, may_put, took, took_snap, took_vote, took_entry, took_bytes, took_all, finished, read_store}
use Rattle.raft_durable.specs.Laws.{Spells, took_items}
use Rattle.raft_durable.proofs.EightBytes.{takes, equal}
use Rattle.raft_durable.proofs.Spelling.{second, both, with_vote, snap_of, vote_of, entry_of}

-- ---- numbers

abbrev first_in : Option (ℕ × ℕ × List ℕ) → ℕ
first_in None = 0
first_in (Some n) = n.0

abbrev second_in : Option (ℕ × ℕ × List ℕ) → ℕ
second_in None = 0
second_in (Some n) = n.1

abbrev rest_in : Option (ℕ × ℕ × List ℕ) → List ℕ
rest_in None = []
rest_in (Some n) = n.2

-- two numbers and what is behind them, as bytes
abbrev two_bytes : ℕ → ℕ → List ℕ → List ℕ
two_bytes i t rest = big_bytes 8 i ++ (big_bytes 8 t ++ rest)

second_taken : (bytes : List ℕ) (i : ℕ) (o : Option (ℕ × List ℕ)) (n : ℕ × ℕ × List ℕ) → number_at bytes ≡ o → second i o ≡ Some n → (i ≡ n.0) × (bytes ≡ big_bytes 8 n.1 ++ n.2)
second_taken bytes i None n e is = absurd cc
second_taken bytes i (Some b) n e is =
    let t : b.0 ≡ n.1 = ap second_in is in
    let rest : b.1 ≡ n.2 = ap rest_in is in
    (ap first_in is, takes bytes b.0 b.1 e ∙ (ap (λ (m : ℕ). big_bytes 8 m ++ b.1) t ∙ ap (λ (xs : List ℕ). big_bytes 8 n.1 ++ xs) rest))

both_taken : (bytes : List ℕ) (o : Option (ℕ × List ℕ)) (n : ℕ × ℕ × List ℕ) → number_at bytes ≡ o → both o ≡ Some n → bytes ≡ two_bytes n.0 n.1 n.2
both_taken bytes None n e is = absurd cc
both_taken bytes (Some a) n e is =
    let rest = second_taken a.1 a.0 (number_at a.1) n refl is in
    takes bytes a.0 a.1 e ∙ (ap (λ (m : ℕ). big_bytes 8 m ++ a.1) rest.0 ∙ ap (λ (xs : List ℕ). big_bytes 8 n.0 ++ xs) rest.1)

numbers_taken : (bytes : List ℕ) (n : ℕ × ℕ × List ℕ) → numbers_at bytes ≡ Some n → bytes ≡ two_bytes n.0 n.1 n.2
numbers_taken bytes n is = both_taken bytes (number_at bytes) n refl is

abbrev term_in : Option (ℕ × ℕ) → ℕ
term_in None = 0
term_in (Some n) = n.0

abbrev vote_in : Option (ℕ × ℕ) → ℕ
vote_in None = 0
vote_in (Some n) = n.1

-- a vote behind a term, which is given
abbrev voted : ℕ → Option ℕ → Option (ℕ × ℕ)
voted term o = option_map (λ vote. (term, vote)) o

vote_taken : (term : ℕ) (rest : List ℕ) (n : ℕ × ℕ) → voted term (vote_at rest) ≡ Some n → (term ≡ n.0) × (rest ≡ n.1 ∷ [])
vote_taken term [] n is = absurd cc
vote_taken term (vote ∷ []) n is = let v : vote ≡ n.1 = ap vote_in is in (ap term_in is, ap (λ (x : ℕ). x ∷ []) v)
vote_taken term (vote ∷ more ∷ rest) n is = absurd cc

with_vote_taken : (bytes : List ℕ) (o : Option (ℕ × List ℕ)) (n : ℕ × ℕ) → number_at bytes ≡ o → with_vote o ≡ Some n → bytes ≡ big_bytes 8 n.0 ++ n.1 ∷ []
with_vote_taken bytes None n e is = absurd cc
with_vote_taken bytes (Some a) n e is =
    let rest = vote_taken a.0 a.1 n is in
    takes bytes a.0 a.1 e ∙ (ap (λ (m : ℕ). big_bytes 8 m ++ a.1) rest.0 ∙ ap (λ (xs : List ℕ). big_bytes 8 n.0 ++ xs) rest.1)

-- ---- items

-- an item that was read, and the bytes of its snapshot
record Unspelled (r next : Reading) (bytes : List ℕ) : Type 0 where
  snapshot : List ℕ
  item : Item
  are : bytes ≡ item_bytes snapshot item
  goes : took snapshot r item ≡ Some next

snap_unspelled : (r next : Reading) (rest : List ℕ) (o : Option (ℕ × ℕ × List ℕ)) → numbers_at rest ≡ o → snap_of r o ≡ Some next → Unspelled r next (SNAP_TAG ∷ rest)
snap_unspelled r next rest None e is = absurd cc
snap_unspelled r next rest (Some n) e is = record { snapshot = n.2; item = Snap n.0 n.1; are = ap (λ (xs : List ℕ). SNAP_TAG ∷ xs) (numbers_taken rest n e); goes = is }

vote_unspelled : (r next : Reading) (rest : List ℕ) (o : Option (ℕ × ℕ)) → term_vote_at rest ≡ o → vote_of r o ≡ Some next → Unspelled r next (VOTE_TAG ∷ rest)
vote_unspelled r next rest None e is = absurd cc
vote_unspelled r next rest (Some n) e is = record { snapshot = []; item = Vote n.0 n.1; are = ap (λ (xs : List ℕ). VOTE_TAG ∷ xs) (with_vote_taken rest (number_at rest) n refl e); goes = is }

entry_unspelled : (r next : Reading) (rest : List ℕ) (o : Option (ℕ × ℕ × List ℕ)) → numbers_at rest ≡ o → entry_of r o ≡ Some next → Unspelled r next (ENTRY_TAG ∷ rest)
entry_unspelled r next rest None e is = absurd cc
entry_unspelled r next rest (Some n) e is = record { snapshot = []; item = Entry n.0 n.1 n.2; are = ap (λ (xs : List ℕ). ENTRY_TAG ∷ xs) (numbers_taken rest n e); goes = is }

retagged : (r next : Reading) (tag kind : ℕ) (rest : List ℕ) → tag ≡ kind → Unspelled r next (kind ∷ rest) → Unspelled r next (tag ∷ rest)
retagged r next tag kind rest e u = record { snapshot = u.snapshot; item = u.item; are = ap (λ (x : ℕ). x ∷ rest) e ∙ u.are; goes = u.goes }

by_tag : (r next : Reading) (tag : ℕ) (rest : List ℕ) (s v e : Bool) → (tag == SNAP_TAG) ≡ s → (tag == VOTE_TAG) ≡ v → (tag == ENTRY_TAG) ≡ e
    → cond s (took_snap r rest) (cond v (took_vote r rest) (cond e (took_entry r rest) None)) ≡ Some next → Unspelled r next (tag ∷ rest)
by_tag r next tag rest true v e is_s is_v is_e is = retagged r next tag SNAP_TAG rest (equal tag SNAP_TAG is_s) (snap_unspelled r next rest (numbers_at rest) refl is)
by_tag r next tag rest false true e is_s is_v is_e is = retagged r next tag VOTE_TAG rest (equal tag VOTE_TAG is_v) (vote_unspelled r next rest (term_vote_at rest) refl is)
by_tag r next tag rest false false true is_s is_v is_e is = retagged r next tag ENTRY_TAG rest (equal tag ENTRY_TAG is_e) (entry_unspelled r next rest (numbers_at rest) refl is)
by_tag r next tag rest false false false is_s is_v is_e is = absurd cc

unspelled : (r next : Reading) (bytes : List ℕ) → took_bytes r bytes ≡ Some next → Unspelled r next bytes
unspelled r next [] is = absurd cc
unspelled r next (tag ∷ rest) is = by_tag r next tag rest (tag == SNAP_TAG) (tag == VOTE_TAG) (tag == ENTRY_TAG) refl refl refl is

-- ---- lists

abbrev started_in : Option Reading → Bool
started_in None = true
started_in (Some r) = r.started

started_if : (b : Bool) (next r : Reading) → r.started ≡ true → cond b (Some r) None ≡ Some next → next.started ≡ true
started_if true next r s is = sym (ap started_in is) ∙ s
started_if false next r s is = absurd cc

started_unless : (b : Bool) (next r : Reading) → r.started ≡ true → cond b None (Some r) ≡ Some next → next.started ≡ true
started_unless true next r s is = absurd cc
started_unless false next r s is = sym (ap started_in is) ∙ s

-- after an item some item was read
starts : (s : List ℕ) (r next : Reading) (x : Item) → took s r x ≡ Some next → next.started ≡ true
starts s r next (Snap index term) is =
    let taken : Reading = record { kept = record { term = 0; vote = 0; log = record { base = index; base_term = term; entries = [] }; snapshot = Some s }; started = true; voted = false } in
    started_unless r.started next taken refl is
starts s r next (Vote term vote) is =
    let taken : Reading = record { kept = record r.kept { term = term; vote = vote }; started = true; voted = true } in
    started_if (may_vote r term vote) next taken refl is
starts s r next (Entry index term entry) is =
    let taken : Reading = record { kept = record r.kept { log = log_after r.kept.log (Entry index term entry ∷ []) }; started = true; voted = r.voted } in
    started_if (may_put r index term) next taken refl is

no_snap : (b : Bool) (r next : Reading) → b ≡ true → cond b None (Some r) ≡ Some next → ⊥
no_snap true r next e is = absurd cc
no_snap false r next e is = absurd cc

-- behind the first item there is no snapshot, so any bytes may stand for one
behind : (s t : List ℕ) (r next : Reading) (x : Item) → r.started ≡ true → took t r x ≡ Some next → (item_bytes t x ≡ item_bytes s x) × (took s r x ≡ Some next)
behind s t r next (Snap index term) b is = absurd (no_snap r.started _ next b is)
behind s t r next (Vote term vote) b is = (refl, is)
behind s t r next (Entry index term entry) b is = (refl, is)

-- items that were read
record Items (s : List ℕ) (r last : Reading) (bytes : List (List ℕ)) : Type 0 where
  items : List Item
  are : bytes ≡ map (item_bytes s) items
  goes : took_items s r items ≡ Some last

first_item : (s : List ℕ) (r next last : Reading) (item : List ℕ) (bytes : List (List ℕ)) (x : Item) → item ≡ item_bytes s x → took s r x ≡ Some next → Items s next last bytes → Items s r last (item ∷ bytes)
first_item s r next last item bytes x e goes rest =
    let are = rest.are in
    record {
      items = x ∷ rest.items;
      are = λ i. e i ∷ are i;
      goes = ap (λ (o : Option Reading). option_and_then (λ (n : Reading). took_items s n rest.items) o) goes ∙ rest.goes;
    }

each_behind : (s : List ℕ) (r last : Reading) (item : List ℕ) (bytes : List (List ℕ)) → ((next : Reading) → next.started ≡ true → took_all next bytes ≡ Some last → Items s next last bytes)
    → (o : Option Reading) → r.started ≡ true → took_bytes r item ≡ o → option_and_then (λ n. took_all n bytes) o ≡ Some last → Items s r last (item ∷ bytes)
each_behind s r last item bytes rest None b e is = absurd cc
each_behind s r last item bytes rest (Some next) b e is =
    let u = unspelled r next item e in
    let h = behind s u.snapshot r next u.item b u.goes in
    first_item s r next last item bytes u.item (u.are ∙ h.0) h.1 (rest next (starts s r next u.item h.1) is)

items_behind : (s : List ℕ) (r last : Reading) (bytes : List (List ℕ)) → r.started ≡ true → took_all r bytes ≡ Some last → Items s r last bytes
items_behind s r last [] b is = record { items = []; are = refl; goes = is }
items_behind s r last (item ∷ bytes) b is = each_behind s r last item bytes (λ next m e. items_behind s next last bytes m e) (took_bytes r item) b refl is

-- a list that was read, and the bytes of its snapshot
record Listed (last : Reading) (bytes : List (List ℕ)) : Type 0 where
  snapshot : List ℕ
  listed : Items snapshot start last bytes

list_from : (last : Reading) (item : List ℕ) (bytes : List (List ℕ)) (o : Option Reading) → took_bytes start item ≡ o → option_and_then (λ n. took_all n bytes) o ≡ Some last → Listed last (item ∷ bytes)
list_from last item bytes None e is = absurd cc
list_from last item bytes (Some next) e is =
    let u = unspelled start next item e in
    record {
      snapshot = u.snapshot;
      listed = first_item u.snapshot start next last item bytes u.item u.are u.goes (items_behind u.snapshot next last bytes (starts u.snapshot start next u.item u.goes) is);
    }

list_of : (last : Reading) (bytes : List (List ℕ)) → took_all start bytes ≡ Some last → Listed last bytes
list_of last [] is = record { snapshot = []; listed = record { items = []; are = refl; goes = is } }
list_of last (item ∷ bytes) is = list_from last item bytes (took_bytes start item) refl is

store_by : (bytes : List (List ℕ)) (k : Kept) (o : Option Reading) → took_all start bytes ≡ o → option_and_then finished o ≡ Some k → Spells bytes k
store_by bytes k None e is = absurd cc
store_by bytes k (Some last) e is =
    let l = list_of last bytes e in
    record {
      snapshot = l.snapshot;
      items = l.listed.items;
      are = l.listed.are;
      says = ap (λ (o : Option Reading). option_and_then finished o) l.listed.goes ∙ is;
    }

-- a store that is read was spelled
pub store_unspelled : (bytes : List (List ℕ)) (k : Kept) → read_store bytes ≡ Some k → Spells bytes k
store_unspelled bytes k is = store_by bytes k (took_all start bytes) refl is
