-- What is spelled is read.
use Rattle.std.proofs.Common.{◌≡◌, ℕ, ◌<◌, ◌^◌, List, [], ◌∷◌, ◌++◌, map, refl, ap, ◌∙◌, Option, Some, None}
use Rattle.std.specs.Prelude.{option_and_then, option_map}
use Rattle.byteorder.specs.Endian.{big_bytes}
use Rattle.raft_types.specs.declared.item.Item.{Item}
use Rattle.raft_types.specs.declared.item.Item.TheVariants.{Snap, Vote, Entry}
use Rattle.raft_durable.specs.declared.kept.Kept.{Kept}
use Rattle.raft_durable.specs.declared.reading.Reading.{Reading}
use Rattle.raft_durable.specs.Bytes.{item_bytes, number_at, numbers_at, vote_at, term_vote_at}
use Rattle.raft_durable.specs.Stores.{start, took, took_bytes, took_all, finished, read_store}
use Rattle.raft_durable.specs.Laws.{Fits, AllFit, Spells, took_items}
use Rattle.raft_durable.proofs.EightBytes.{again}

-- a second number behind the first
abbrev pub second : ℕ → Option (ℕ × List ℕ) → Option (ℕ × ℕ × List ℕ)
second n o = option_map (λ b. (n, b.0, b.1)) o

abbrev pub both : Option (ℕ × List ℕ) → Option (ℕ × ℕ × List ℕ)
both o = option_and_then (λ a. second a.0 (number_at a.1)) o

-- a vote behind the term
abbrev pub with_vote : Option (ℕ × List ℕ) → Option (ℕ × ℕ)
with_vote o = option_and_then (λ a. option_map (λ vote. (a.0, vote)) (vote_at a.1)) o

numbers_again : (i t : ℕ) (rest : List ℕ) → i < 2 ^ 64 → t < 2 ^ 64 → numbers_at (big_bytes 8 i ++ (big_bytes 8 t ++ rest)) ≡ Some (i, t, rest)
numbers_again i t rest fi ft = ap both (again i (big_bytes 8 t ++ rest) fi) ∙ ap (second i) (again t rest ft)

vote_again : (t v : ℕ) → t < 2 ^ 64 → term_vote_at (big_bytes 8 t ++ v ∷ []) ≡ Some (t, v)
vote_again t v ft = ap with_vote (again t (v ∷ []) ft)

abbrev pub snap_of : Reading → Option (ℕ × ℕ × List ℕ) → Option Reading
snap_of r o = option_and_then (λ n. took n.2 r (Snap n.0 n.1)) o

abbrev pub vote_of : Reading → Option (ℕ × ℕ) → Option Reading
vote_of r o = option_and_then (λ n. took [] r (Vote n.0 n.1)) o

abbrev pub entry_of : Reading → Option (ℕ × ℕ × List ℕ) → Option Reading
entry_of r o = option_and_then (λ n. took [] r (Entry n.0 n.1 n.2)) o

-- an item that is spelled is read
pub spelled : (s : List ℕ) (r : Reading) (x : Item) → Fits x → took_bytes r (item_bytes s x) ≡ took s r x
spelled s r (Snap index term) fits = ap (snap_of r) (numbers_again index term s fits.0 fits.1)
spelled s r (Vote term vote) fits = ap (vote_of r) (vote_again term vote fits)
spelled s r (Entry index term entry) fits = ap (entry_of r) (numbers_again index term entry fits.0 fits.1)

and_then_same : (o : Option Reading) (f g : Reading → Option Reading) → ((n : Reading) → f n ≡ g n) → option_and_then f o ≡ option_and_then g o
and_then_same None f g h = refl
and_then_same (Some n) f g h = h n

-- and so is a list of them
pub spelled_all : (s : List ℕ) (r : Reading) (xs : List Item) → AllFit xs → took_all r (map (item_bytes s) xs) ≡ took_items s r xs
spelled_all s r [] fit = refl
spelled_all s r (x ∷ xs) fit =
    ap (λ (o : Option Reading). option_and_then (λ (n : Reading). took_all n (map (item_bytes s) xs)) o) (spelled s r x fit.0)
    ∙ and_then_same (took s r x) (λ n. took_all n (map (item_bytes s) xs)) (λ n. took_items s n xs) (λ n. spelled_all s n xs fit.1)

-- a store that is spelled is read
pub store_spelled : (bytes : List (List ℕ)) (k : Kept) (s : Spells bytes k) → AllFit s.items → read_store bytes ≡ Some k
store_spelled bytes k s fit =
    ap read_store s.are ∙ (ap (λ (o : Option Reading). option_and_then finished o) (spelled_all s.snapshot start s.items fit) ∙ s.says)
