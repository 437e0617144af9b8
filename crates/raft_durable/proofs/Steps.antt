-- Items that are added to a store.
use Rattle.std.proofs.Common.{◌≡◌, ℕ, zero, suc, ◌+◌, ◌-◌, ◌<◌, ◌≤◌, Bool, true, false, cond, not, ◌&&◌, List, [], ◌∷◌, ◌++◌, map, take, refl, sym, ap, subst, ◌∙◌, arith, append_assoc, Option, Some, None}
use Rattle.std.proofs.lemmas.List.{append-nil}
use Rattle.std.specs.Prelude.{nat_lt, nat_le, is_some, option_and_then}
use Rattle.raft_types.specs.declared.item.Item.{Item}
use Rattle.raft_types.specs.declared.item.Item.TheVariants.{Snap, Vote, Entry}
use Rattle.raft_types.specs.declared.limits.TheConstants.{MAX_TERM, MAX_INDEX, MAX_NODES}
use Rattle.raft_types.specs.Items.{log_after}
use Rattle.raft_types.specs.Log.{LogParts, last_index, log_term, or_zero}
use Rattle.raft_durable.specs.declared.kept.Kept.{Kept}
use Rattle.raft_durable.specs.declared.reading.Reading.{Reading}
use Rattle.raft_durable.specs.Bytes.{item_bytes}
use Rattle.raft_durable.specs.Stores.{start, is_waiting, may_vote, may_put, took, took_bytes, took_all, finished, read_store}
use Rattle.raft_durable.specs.Laws.{Fits, CanVote, CanPut, Follow, after}
use Rattle.raft_durable.proofs.Spelling.{spelled}

pub le_true : (a b : ℕ) → a ≤ b → nat_le a b ≡ true
le_true a b h = grind arith

lt_true : (a b : ℕ) → a < b → nat_lt a b ≡ true
lt_true a b h = grind arith

pub and_true : (p q : Bool) → p ≡ true → q ≡ true → (p && q) ≡ true
and_true true q h w = w
and_true false q h w = absurd cc

and_false : (p : Bool) → (p && false) ≡ false
and_false true = refl
and_false false = refl

-- a reading that keeps this
abbrev pub reading : Kept → Bool → Bool → Reading
reading k started voted = record { kept = k; started = started; voted = voted }

-- items that were read and are a store
pub record Read (bytes : List (List ℕ)) (k : Kept) : Type 0 where
  pub started : Bool
  pub voted : Bool
  pub are : took_all start bytes ≡ Some (reading k started voted)
  pub ready : is_waiting (reading k started voted) ≡ false

ended : (bytes : List (List ℕ)) (k : Kept) (r : Reading) (b : Bool) → took_all start bytes ≡ Some r → is_waiting r ≡ b → cond b None (Some r.kept) ≡ Some k → Read bytes k
ended bytes k r true are waiting is = absurd cc
ended bytes k r false are waiting is =
    let same : r.kept ≡ k = cc in
    record {
      started = r.started;
      voted = r.voted;
      are = are ∙ ap (λ (x : Kept). Some (reading x r.started r.voted)) same;
      ready = subst (λ (x : Kept). is_waiting (reading x r.started r.voted) ≡ false) same waiting;
    }

read_by : (bytes : List (List ℕ)) (k : Kept) (o : Option Reading) → took_all start bytes ≡ o → option_and_then finished o ≡ Some k → Read bytes k
read_by bytes k None are is = absurd cc
read_by bytes k (Some r) are is = ended bytes k r (is_waiting r) are refl is

pub read_of : (bytes : List (List ℕ)) (k : Kept) → read_store bytes ≡ Some k → Read bytes k
read_of bytes k is = read_by bytes k (took_all start bytes) refl is

pub store_of : (bytes : List (List ℕ)) (k : Kept) → Read bytes k → read_store bytes ≡ Some k
store_of bytes k r =
    ap (λ (o : Option Reading). option_and_then finished o) r.are ∙ ap (λ (b : Bool). cond b None (Some k)) r.ready

and_then_append : (front rest : List (List ℕ)) → ((n : Reading) → took_all n (front ++ rest) ≡ option_and_then (λ m. took_all m rest) (took_all n front)) → (o : Option Reading)
    → option_and_then (λ n. took_all n (front ++ rest)) o ≡ option_and_then (λ n. took_all n rest) (option_and_then (λ n. took_all n front) o)
and_then_append front rest each None = refl
and_then_append front rest each (Some n) = each n

-- items are read one list after the other
took_append : (r : Reading) (front rest : List (List ℕ)) → took_all r (front ++ rest) ≡ option_and_then (λ n. took_all n rest) (took_all r front)
took_append r [] rest = refl
took_append r (a ∷ front) rest = and_then_append front rest (λ n. took_append n front rest) (took_bytes r a)

-- one item more
one_more : (bytes : List (List ℕ)) (k next : Kept) (s : List ℕ) (x : Item) (r : Read bytes k) (voted : Bool) → Fits x
    → took s (reading k r.started r.voted) x ≡ Some (reading next true voted) → is_waiting (reading next true voted) ≡ false → Read (bytes ++ item_bytes s x ∷ []) next
one_more bytes k next s x r voted fits goes ready =
    record {
      started = true;
      voted = voted;
      are = took_append start bytes (item_bytes s x ∷ [])
          ∙ (ap (λ (o : Option Reading). option_and_then (λ (n : Reading). took_all n (item_bytes s x ∷ [])) o) r.are
          ∙ ap (λ (o : Option Reading). option_and_then (λ (n : Reading). took_all n []) o) (spelled s (reading k r.started r.voted) x fits ∙ goes));
      ready = ready;
    }

can_vote : (k : Kept) (started voted : Bool) (term vote : ℕ) → CanVote k term vote → may_vote (reading k started voted) term vote ≡ true
can_vote k started true term vote c = and_true _ _ (le_true term MAX_TERM c.greatest) (and_true _ _ (le_true vote MAX_NODES c.node) c.rise)
can_vote k started false term vote c =
    and_true _ _ (le_true term MAX_TERM c.greatest) (and_true _ _ (le_true vote MAX_NODES c.node) (le_true k.log.base_term term c.above_base))

can_put : (k : Kept) (started voted : Bool) (index term : ℕ) → is_waiting (reading k started voted) ≡ false → CanPut k index term → may_put (reading k started voted) index term ≡ true
can_put k started voted index term ready c =
    and_true _ _ (ap not ready)
    (and_true _ _ (and_true _ _ (lt_true k.log.base index c.above) (and_true _ _ (le_true index (last_index k.log + 1) c.near) (le_true index MAX_INDEX c.last)))
    (and_true _ _ (le_true (or_zero (log_term k.log (index - 1))) term c.from) (le_true term k.term c.to)))

-- the log after one item and then the others
then_log : (l : LogParts) (k : Kept) (x : Item) (xs : List Item) → Follow k (x ∷ xs) → (j : Kept) → Follow j xs → log_after (log_after l (x ∷ [])) xs ≡ log_after l (x ∷ xs)
then_log l k (Snap index term) xs f j g = absurd f
then_log l k (Vote term vote) [] f j g = refl
then_log l k (Vote term vote) (Snap i t ∷ xs) f j g = absurd g
then_log l k (Vote term vote) (Vote t v ∷ xs) f j g = refl
then_log l k (Vote term vote) (Entry i t e ∷ xs) f j g = refl
then_log l k (Entry index term entry) [] f j g = refl
then_log l k (Entry index term entry) (Snap i t ∷ xs) f j g = absurd g
then_log l k (Entry index term entry) (Vote t v ∷ xs) f j g = refl
then_log l k (Entry index term entry) (Entry i t e ∷ xs) f j g = refl

abbrev pub with_log : ℕ → ℕ → Option (List ℕ) → LogParts → Kept
with_log term vote snapshot log = record { term = term; vote = vote; log = log; snapshot = snapshot }

-- a store with these items more says what is kept after them
pub added : (bytes : List (List ℕ)) (k : Kept) (xs : List Item) (s : List ℕ) → Read bytes k → Follow k xs → Read (bytes ++ map (item_bytes s) xs) (after k xs)
added bytes k [] s r f = subst (λ (b : List (List ℕ)). Read b k) (sym (append-nil bytes)) r
added bytes k (Snap index term ∷ xs) s r f = absurd f
added bytes k (Vote term vote ∷ xs) s r f =
    let next = after k (Vote term vote ∷ []) in
    let goes : took s (reading k r.started r.voted) (Vote term vote) ≡ Some (reading next true true)
    = ap (λ (b : Bool). cond b (Some (reading next true true)) None) (can_vote k r.started r.voted term vote f.0) in
    let one = one_more bytes k next s (Vote term vote) r true (omega (arith, f.0.greatest)) goes (and_false (is_some k.snapshot)) in
    let rest = added (bytes ++ item_bytes s (Vote term vote) ∷ []) next xs s one f.1 in
    let log = then_log k.log k (Vote term vote) xs f next f.1 in
    let kept : after next xs ≡ after k (Vote term vote ∷ xs) = ap (with_log (after next xs).term (after next xs).vote k.snapshot) log in
    subst (λ (x : Kept). Read (bytes ++ map (item_bytes s) (Vote term vote ∷ xs)) x) kept
    (subst (λ (b : List (List ℕ)). Read b (after next xs)) (append_assoc bytes (item_bytes s (Vote term vote) ∷ []) (map (item_bytes s) xs)) rest)
added bytes k (Entry index term entry ∷ xs) s r f =
    let next = after k (Entry index term entry ∷ []) in
    let goes : took s (reading k r.started r.voted) (Entry index term entry) ≡ Some (reading next true r.voted)
    = ap (λ (b : Bool). cond b (Some (reading next true r.voted)) None) (can_put k r.started r.voted index term r.ready f.0) in
    let one = one_more bytes k next s (Entry index term entry) r r.voted (omega (arith, f.0.last), omega (arith, f.0.greatest)) goes r.ready in
    let rest = added (bytes ++ item_bytes s (Entry index term entry) ∷ []) next xs s one f.1 in
    let log = then_log k.log k (Entry index term entry) xs f next f.1 in
    let kept : after next xs ≡ after k (Entry index term entry ∷ xs) = ap (with_log (after next xs).term (after next xs).vote k.snapshot) log in
    subst (λ (x : Kept). Read (bytes ++ map (item_bytes s) (Entry index term entry ∷ xs)) x) kept
    (subst (λ (b : List (List ℕ)). Read b (after next xs)) (append_assoc bytes (item_bytes s (Entry index term entry) ∷ []) (map (item_bytes s) xs)) rest)

pub says : (bytes : List (List ℕ)) (k : Kept) (xs : List Item) (s : List ℕ) → read_store bytes ≡ Some k → Follow k xs → read_store (bytes ++ map (item_bytes s) xs) ≡ Some (after k xs)
says bytes k xs s is f = store_of (bytes ++ map (item_bytes s) xs) (after k xs) (added bytes k xs s (read_of bytes k is) f)

-- a front of items that may follow
pub fronts : (k : Kept) (xs : List Item) (n : ℕ) → Follow k xs → Follow k (take n xs)
fronts k xs zero f = tt
fronts k [] (suc n) f = tt
fronts k (Snap index term ∷ xs) (suc n) f = absurd f
fronts k (Vote term vote ∷ xs) (suc n) f = (f.0, fronts (after k (Vote term vote ∷ [])) xs n f.1)
fronts k (Entry index term entry ∷ xs) (suc n) f = (f.0, fronts (after k (Entry index term entry ∷ [])) xs n f.1)
