-- A store that is written anew, and the items of every form.
use Rattle.std.proofs.Common.{◌≡◌, ℕ, suc, ◌+◌, ◌-◌, ◌≤◌, Bool, true, false, cond, List, [], ◌∷◌, ◌++◌, map, take, refl, sym, ap, subst, ◌∙◌, arith, Option, Some, None}
use Rattle.std.specs.Prelude.{option_and_then}
use Rattle.raft_types.specs.declared.entry.LogEntry.{LogEntry}
use Rattle.raft_types.specs.declared.item.Item.{Item}
use Rattle.raft_types.specs.declared.item.Item.TheVariants.{Snap, Vote, Entry}
use Rattle.raft_types.specs.declared.limits.TheConstants.{MAX_TERM, MAX_INDEX, MAX_NODES}
use Rattle.raft_types.specs.Items.{stored, number, log_after, term_after, vote_after, Restart, ItemsForm}
use Rattle.raft_types.specs.Log.{LogParts, log_term, or_zero}
use Rattle.raft_types.specs.Step.{starts_anew}
use Rattle.raft_types.proofs.Kept.{stored_past, number_term, number_vote}
use Rattle.raft_durable.specs.declared.kept.Kept.{Kept}
use Rattle.raft_durable.specs.declared.reading.Reading.{Reading}
use Rattle.raft_durable.specs.Bytes.{item_bytes}
use Rattle.raft_durable.specs.Stores.{start, may_vote, took_bytes, took_all, read_store, kept_bytes}
use Rattle.raft_durable.specs.Laws.{CanVote, Follow, after}
use Rattle.raft_durable.specs.Steps.{Rising, KeptFits, Based, VoteRises, kept_after, IsStore, SaysAfter}
use Rattle.raft_durable.proofs.Rising.{rising_to, follow, goes_follow}
use Rattle.raft_durable.proofs.Spelling.{spelled}
use Rattle.raft_durable.proofs.Steps.{Read, reading, with_log, le_true, and_true, added, says, fronts, store_of}

-- ---- a store written anew

-- a log without entries
abbrev empty : ℕ → ℕ → LogParts
empty i b = record { base = i; base_term = b; entries = [] }

first_vote : (term vote : ℕ) (snapshot : Option (List ℕ)) (i b : ℕ) (started : Bool) → term ≤ MAX_TERM → vote ≤ MAX_NODES → b ≤ term → may_vote (reading (with_log 0 0 snapshot (empty i b)) started false) term vote ≡ true
first_vote term vote snapshot i b started t v h = and_true _ _ (le_true term MAX_TERM t) (and_true _ _ (le_true vote MAX_NODES v) (le_true b term h))

-- the vote is read behind a snapshot, or first
voted : (s : List ℕ) (term vote : ℕ) (snapshot : Option (List ℕ)) (i b : ℕ) (started : Bool) → term ≤ MAX_TERM → vote ≤ MAX_NODES → b ≤ term
    → took_bytes (reading (with_log 0 0 snapshot (empty i b)) started false) (item_bytes s (Vote term vote)) ≡ Some (reading (with_log term vote snapshot (empty i b)) true true)
voted s term vote snapshot i b started t v h =
    spelled s (reading (with_log 0 0 snapshot (empty i b)) started false) (Vote term vote) (omega (arith, t))
    ∙ ap (λ (x : Bool). cond x (Some (reading (with_log term vote snapshot (empty i b)) true true)) None) (first_vote term vote snapshot i b started t v h)

abbrev then_read : List (List ℕ) → Option Reading → Option Reading
then_read bytes o = option_and_then (λ (n : Reading). took_all n bytes) o

begun_bare : (term vote : ℕ) → term ≤ MAX_TERM → vote ≤ MAX_NODES → Read (item_bytes [] (Vote term vote) ∷ []) (with_log term vote None (empty 0 0))
begun_bare term vote t v = record { started = true; voted = true; are = ap (then_read []) (voted [] term vote None 0 0 false t v (omega arith)); ready = refl }

begun_on : (s : List ℕ) (term vote i b : ℕ) → term ≤ MAX_TERM → vote ≤ MAX_NODES → b ≤ term → i ≤ MAX_INDEX → Read (item_bytes s (Snap i b) ∷ item_bytes s (Vote term vote) ∷ []) (with_log term vote (Some s) (empty i b))
begun_on s term vote i b t v h m =
    record {
      started = true;
      voted = true;
      are = ap (then_read (item_bytes s (Vote term vote) ∷ [])) (spelled s start (Snap i b) (omega (arith, m), omega (arith, t, h)))
          ∙ ap (then_read []) (voted s term vote (Some s) i b true t v h);
      ready = refl;
    }

log_numbered : (i b : ℕ) (xs : List LogEntry) → log_after (empty i b) (number (suc i) xs) ≡ record { base = i; base_term = b; entries = xs }
log_numbered i b [] = refl
log_numbered i b (x ∷ xs) =
    let n : suc i ≡ suc (i + 0) = omega arith in
    ap (λ (p : List LogEntry). let r : LogParts = record { base = i; base_term = b; entries = p } in r) (ap (λ (m : ℕ). stored i [] (number m (x ∷ xs))) n ∙ stored_past i [] (x ∷ xs))

-- the entries behind
filled : (bytes : List (List ℕ)) (s : List ℕ) (term vote : ℕ) (snapshot : Option (List ℕ)) (l : LogParts) → KeptFits (with_log term vote snapshot l) → Read bytes (with_log term vote snapshot (empty l.base l.base_term))
    → Read (bytes ++ map (item_bytes s) (number (suc l.base) l.entries)) (with_log term vote snapshot l)
filled bytes s term vote snapshot l f r =
    let k = with_log term vote snapshot (empty l.base l.base_term) in
    let xs = number (suc l.base) l.entries in
    let n = f.last in
    let known : log_term (empty l.base l.base_term) (suc l.base - 1) ≡ Some l.base_term = grind arith in
    let may : Follow k xs = follow k (suc l.base) l.entries (omega arith) (omega arith) (omega (arith, n)) f.term (subst (λ (z : ℕ). Rising z term l.entries) (sym (ap or_zero known)) f.terms) in
    let same : after k xs ≡ with_log term vote snapshot l
    = ap (λ (t : ℕ). with_log t (vote_after vote xs) snapshot (log_after (empty l.base l.base_term) xs)) (number_term term (suc l.base) l.entries)
    ∙ (ap (λ (v : ℕ). with_log term v snapshot (log_after (empty l.base l.base_term) xs)) (number_vote vote (suc l.base) l.entries)
    ∙ ap (with_log term vote snapshot) (log_numbered l.base l.base_term l.entries)) in
    subst (Read (bytes ++ map (item_bytes s) xs)) same (added bytes k xs s r may)

anew : (term vote : ℕ) (snapshot : Option (List ℕ)) (l : LogParts) → KeptFits (with_log term vote snapshot l) → Based snapshot l → Read (kept_bytes (with_log term vote snapshot l)) (with_log term vote snapshot l)
anew term vote None l f b =
    let low : empty 0 0 ≡ empty l.base l.base_term = ap (λ (i : ℕ). empty i 0) (sym b.0) ∙ ap (empty l.base) (sym b.1) in
    filled (item_bytes [] (Vote term vote) ∷ []) [] term vote None l f
    (subst (λ (e : LogParts). Read (item_bytes [] (Vote term vote) ∷ []) (with_log term vote None e)) low (begun_bare term vote f.term f.vote))
anew term vote (Some s) l f b =
    let n = f.last in
    filled (item_bytes s (Snap l.base l.base_term) ∷ item_bytes s (Vote term vote) ∷ []) s term vote (Some s) l f
    (begun_on s term vote l.base l.base_term f.term f.vote (rising_to l.base_term term l.entries f.terms) (omega (arith, n)))

-- a store that is written anew is read as what it was written of
pub written : (k : Kept) → KeptFits k → Based k.snapshot k.log → read_store (kept_bytes k) ≡ Some k
written k f b = store_of (kept_bytes k) k (anew k.term k.vote k.snapshot k.log f b)

-- ---- items of every form

install_by : (k : Kept) (s : List ℕ) (i b t v : ℕ) (xs : List LogEntry) → KeptFits (kept_after k s (Snap i b ∷ Vote t v ∷ number (suc i) xs))
    → read_store (map (item_bytes s) (Snap i b ∷ Vote t v ∷ number (suc i) xs)) ≡ Some (kept_after k s (Snap i b ∷ Vote t v ∷ number (suc i) xs))
install_by k s i b t v xs f =
    let items = number (suc i) xs in
    let l : LogParts = record { base = i; base_term = b; entries = xs } in
    let n : suc i ≡ suc (i + 0) = omega arith in
    let entries : stored i [] items ≡ xs = ap (λ (m : ℕ). stored i [] (number m xs)) n ∙ stored_past i [] xs in
    let same : kept_after k s (Snap i b ∷ Vote t v ∷ items) ≡ with_log t v (Some s) l
    = ap (λ (y : ℕ). with_log y (vote_after v items) (Some s) (record { base = i; base_term = b; entries = stored i [] items })) (number_term t (suc i) xs)
    ∙ (ap (λ (y : ℕ). with_log t y (Some s) (record { base = i; base_term = b; entries = stored i [] items })) (number_vote v (suc i) xs)
    ∙ ap (λ (y : List LogEntry). with_log t v (Some s) (record { base = i; base_term = b; entries = y })) entries) in
    written (with_log t v (Some s) l) (subst KeptFits same f) tt ∙ ap (λ (y : Kept). Some y) (sym same)

install : (k : Kept) (s : List ℕ) (i b : ℕ) (items : List Item) → Restart i items → KeptFits (kept_after k s (Snap i b ∷ items)) → read_store (map (item_bytes s) (Snap i b ∷ items)) ≡ Some (kept_after k s (Snap i b ∷ items))
install k s i b items r =
    subst (λ (xs : List Item). KeptFits (kept_after k s (Snap i b ∷ xs)) → read_store (map (item_bytes s) (Snap i b ∷ xs)) ≡ Some (kept_after k s (Snap i b ∷ xs))) (sym r.are)
    (install_by k s i b r.term r.vote r.entries)

follow_form : (k : Kept) (s : List ℕ) (commit : ℕ) (items : List Item) → k.log.base ≤ commit → ItemsForm commit k.log items → starts_anew items ≡ false → VoteRises k items → KeptFits (kept_after k s items) → Follow k items
follow_form k s commit [] b g n r f = tt
follow_form k s commit (Snap i t ∷ items) b g n r f = absurd (grind arith)
follow_form k s commit (Vote t v ∷ items) b g n r f =
    let term : term_after t items ≡ t = ap (term_after t) g.are ∙ number_term t g.index g.entries in
    let vote : vote_after v items ≡ v = ap (vote_after v) g.are ∙ number_vote v g.index g.entries in
    let most : t ≤ MAX_TERM = subst (λ (z : ℕ). z ≤ MAX_TERM) term f.term in
    let terms = subst (λ (z : ℕ). Rising k.log.base_term z (stored k.log.base k.log.entries items)) term f.terms in
    let can : CanVote k t v = record { rise = r; above_base = rising_to k.log.base_term t (stored k.log.base k.log.entries items) terms; greatest = most; node = subst (λ (z : ℕ). z ≤ MAX_NODES) vote f.vote } in
    (can, goes_follow (after k (Vote t v ∷ [])) commit items b most g f.last terms)
follow_form k s commit (Entry i t e ∷ items) b g n r f =
    let term : term_after k.term items ≡ k.term = ap (term_after k.term) g.are ∙ number_term k.term g.index g.entries in
    goes_follow k commit (Entry i t e ∷ items) b (subst (λ (z : ℕ). z ≤ MAX_TERM) term f.term) g f.last
    (subst (λ (z : ℕ). Rising k.log.base_term z (stored k.log.base k.log.entries (Entry i t e ∷ items))) term f.terms)

added_says : (bytes : List (List ℕ)) (k : Kept) (s : List ℕ) (items : List Item) → read_store bytes ≡ Some k → Follow k items → (n : ℕ) → IsStore (bytes ++ map (item_bytes s) (take n items))
added_says bytes k s items is f n = record { kept = after k (take n items); says = says bytes k (take n items) s is (fronts k items n f) }

-- items of every form leave a store that says what is kept after them
pub form_says : (bytes : List (List ℕ)) (k : Kept) (s : List ℕ) (commit : ℕ) (items : List Item) → read_store bytes ≡ Some k → k.log.base ≤ commit → ItemsForm commit k.log items → VoteRises k items → KeptFits (kept_after k s items) → SaysAfter bytes s items (kept_after k s items)
form_says bytes k s commit [] is b g r f =
    record { says = says bytes k [] s is tt; fronts = λ e n. added_says bytes k s [] is tt n }
form_says bytes k s commit (Snap i t ∷ items) is b g r f = record { says = install k s i t items g f; fronts = λ e n. absurd (grind arith) }
form_says bytes k s commit (Vote t v ∷ items) is b g r f =
    let may = follow_form k s commit (Vote t v ∷ items) b g refl r f in
    record { says = says bytes k (Vote t v ∷ items) s is may; fronts = λ e n. added_says bytes k s (Vote t v ∷ items) is may n }
form_says bytes k s commit (Entry i t e ∷ items) is b g r f =
    let may = follow_form k s commit (Entry i t e ∷ items) b g refl r f in
    record { says = says bytes k (Entry i t e ∷ items) s is may; fronts = λ h n. added_says bytes k s (Entry i t e ∷ items) is may n }
