-- What an append leaves, also where the node stops after some of its items, is the leader's log up to a place.
use Rattle.std.proofs.Common.{◌≡◌, ◌≢◌, ℕ, zero, suc, ◌+◌, ◌-◌, ◌<◌, ◌≤◌, Bool, true, false, cond, ◌||◌, ◌&&◌, ltb, ◌==◌, List, [], ◌∷◌, ◌++◌, length, take, drop, get_or, refl, sym, ap, ◌∙◌, subst, arith, ◌⊎◌, inl, inr, ⊎_elim, take_all, take-take, take-add, length-append, length-take, length-take-le, length-drop, append_assoc, drop-cons, add-zero, min}
use Rattle.std.proofs.lemmas.List.{take_min}
use Rattle.std.proofs.lemmas.Bool.{eqb-true, eqb-false, ltb-true, ltb-false}
use Rattle.raft_types.specs.declared.entry.LogEntry.{LogEntry}
use Rattle.raft_types.specs.declared.item.Item.{Item}
use Rattle.raft_types.specs.declared.item.Item.TheVariants.{Entry}
use Rattle.raft_types.specs.Log.{nothing, term_at}
use Rattle.raft_types.specs.Items.{stored, number}
use Rattle.raft_types.specs.Append.{skip, appended}
use Rattle.raft_spine.specs.Start.{Start}
use Rattle.raft_spine.specs.Spine.{Spine}
use Rattle.raft_claims.specs.Claims.{Piece}
use Rattle.raft_spine.proofs.Sound.{Rooted}
use Rattle.raft_spine.proofs.Fronts.{agree_down, agree_term, agree_long}
use Rattle.raft_spine.proofs.Laws.{rooted_match}

-- the first items are those of the first entries
pub number_take : (k i : ℕ) (xs : List LogEntry) → take k (number i xs) ≡ number i (take k xs)
number_take zero i xs = refl
number_take (suc k) i [] = refl
number_take (suc k) i (x ∷ xs) = ap (λ (r : List Item). Entry i x.term x.entry ∷ r) (number_take k (suc i) xs)

-- entries written one after another from a place on cut the log there and are added
pub stored_number : (start q : ℕ) (l : List LogEntry) (x : LogEntry) (xs : List LogEntry) → q ≤ length l → stored start l (number (start + suc q) (x ∷ xs)) ≡ take q l ++ x ∷ xs
stored_number start q l x [] h = ap (λ (n : ℕ). take n l ++ x ∷ []) (let e : start + suc q - (start + 1) ≡ q = omega arith in e)
stored_number start q l x (y ∷ ys) h =
    let m = take q l ++ x ∷ [] in
    let e : start + suc q - (start + 1) ≡ q = omega arith in
    let long : length m ≡ suc q = (let a = length-append (take q l) (x ∷ []) in let c = length-take-le q l h in omega arith) in
    let f : suc (start + suc q) ≡ start + suc (suc q) = omega arith in
    ap (λ (n : ℕ). stored start (take n l ++ x ∷ []) (number (suc (start + suc q)) (y ∷ ys))) e
    ∙ (ap (λ (n : ℕ). stored start m (number n (y ∷ ys))) f
    ∙ (stored_number start (suc q) m y ys (omega arith)
    ∙ (ap (λ (r : List LogEntry). r ++ y ∷ ys) (take_all (suc q) m (omega arith)) ∙ append_assoc (take q l) (x ∷ []) (y ∷ ys))))

piece_head : (m : List LogEntry) (p : ℕ) (e : LogEntry) (es : List LogEntry) → Piece m p (e ∷ es) → (get_or m p nothing ≡ e) × Piece m (suc p) es
piece_head m p e es pc =
    let w = pc.within in
    let d = drop-cons m p nothing (omega arith) in
    let q : get_or m p nothing ∷ take (length es) (drop (suc p) m) ≡ e ∷ es = ap (take (suc (length es))) (sym d) ∙ pc.is in
    let a : get_or m p nothing ≡ e = cc in
    let c : take (length es) (drop (suc p) m) ≡ es = cc in
    (a, record { within = omega arith; is = c })

piece_take : (m : List LogEntry) (p : ℕ) (es : List LogEntry) → Piece m p es → (k : ℕ) → k ≤ length es → take k (drop p m) ≡ take k es
piece_take m p es pc k le = sym (take-take k (length es) (drop p m) le) ∙ ap (take k) pc.is

piece_drop : (m : List LogEntry) (p i : ℕ) (es : List LogEntry) → Piece m p es → i ≤ length es → Piece m (p + i) (drop i es)
piece_drop m p zero es pc le = subst (λ (n : ℕ). Piece m n es) (sym (add-zero p)) pc
piece_drop m p (suc i) [] pc le = absurd (omega arith)
piece_drop m p (suc i) (e ∷ es) pc le = let q : suc p + i ≡ p + suc i = omega arith in subst (λ (n : ℕ). Piece m n (drop i es)) q (piece_drop m (suc p) i es (piece_head m p e es pc).1 (omega arith))

pub skip_le : (c : ℕ) (l : List LogEntry) (p : ℕ) (es : List LogEntry) → skip c l p es ≤ length es
skip_le c l p [] = omega arith
skip_le c l p (e ∷ es) = let r = skip_le c l (suc p) es in
    elim (ltb p c || (ltb p (length l) && (term_at l p == e.term))) as (λ x. cond x (suc (skip c l (suc p) es)) 0 ≤ length (e ∷ es)) [ true ↦ omega arith | false ↦ omega arith ]

-- the test of one entry
abbrev has : ℕ → List LogEntry → ℕ → LogEntry → Bool
has c l p e = ltb p c || (ltb p (length l) && (term_at l p == e.term))

has_means : (c : ℕ) (l : List LogEntry) (p : ℕ) (e : LogEntry) → has c l p e ≡ true → (p < c) ⊎ ((p < length l) × (term_at l p ≡ e.term))
has_means c l p e h = elim (ltb p c) as (λ x. ltb p c ≡ x → (x || (ltb p (length l) && (term_at l p == e.term))) ≡ true → (p < c) ⊎ ((p < length l) × (term_at l p ≡ e.term))) [
  | true ↦ λ f g. inl (ltb-true p c f)
  | false ↦ λ f g. inr (elim (ltb p (length l)) as (λ y. ltb p (length l) ≡ y → (y && (term_at l p == e.term)) ≡ true → (p < length l) × (term_at l p ≡ e.term))
      [ true ↦ λ f2 g2. (ltb-true p (length l) f2, eqb-true (term_at l p) e.term g2) | false ↦ λ f2 g2. absurd (cc) ] refl g)
] refl h

has_not : (c : ℕ) (l : List LogEntry) (p : ℕ) (e : LogEntry) → has c l p e ≡ false → (c ≤ p) × ((length l ≤ p) ⊎ (term_at l p ≢ e.term))
has_not c l p e h = elim (ltb p c) as (λ x. ltb p c ≡ x → (x || (ltb p (length l) && (term_at l p == e.term))) ≡ false → (c ≤ p) × ((length l ≤ p) ⊎ (term_at l p ≢ e.term))) [
  | true ↦ λ f g. absurd (cc)
  | false ↦ λ f g. (
    ltb-false p c f,
    elim (ltb p (length l)) as (λ y. ltb p (length l) ≡ y → (y && (term_at l p == e.term)) ≡ false → (length l ≤ p) ⊎ (term_at l p ≢ e.term))
        [ true ↦ λ f2 g2. inr (eqb-false (term_at l p) e.term g2) | false ↦ λ f2 g2. inl (ltb-false p (length l) f2) ] refl g,
  )
] refl h

-- what a follower and its leader's log share, when an append comes
pub record Meets (b : Start) (chief : ℕ → ℕ) (reign : ℕ → List LogEntry) (u v c : ℕ) (l m : List LogEntry) : Type 0 where
  pub mine : Rooted b chief reign u l
  pub his : Rooted b chief reign v m
  pub commit : take c l ≡ take c m
  pub short : c ≤ length m

module _ (b : Start) (s : Spine) (u v c : ℕ) (l m : List LogEntry) (k : Meets b s.leader s.leader_log u v c l m) where
  one_more : (p : ℕ) (e : LogEntry) → p < length m → get_or m p nothing ≡ e → has c l p e ≡ true → take (suc p) l ≡ take (suc p) m
  one_more p e pm g t = ⊎_elim
      (λ (x : p < c). agree_down (suc p) c l m x k.commit)
      (λ (y : (p < length l) × (term_at l p ≡ e.term)). rooted_match b s u v p l m k.mine k.his y.0 pm (y.1 ∙ ap (λ (z : LogEntry). z.term) (sym g)))
      (has_means c l p e t)

  -- what is skipped is the same on both sides
  pub skip_agrees : (p : ℕ) (es : List LogEntry) → Piece m p es → take p l ≡ take p m → take (p + skip c l p es) l ≡ take (p + skip c l p es) m
  skip_agrees p [] pc a = rw add-zero a
  skip_agrees p (e ∷ es) pc a =
      let ph = piece_head m p e es pc in
      let w = pc.within in
      elim (has c l p e) as (λ x. has c l p e ≡ x → take (p + cond x (suc (skip c l (suc p) es)) 0) l ≡ take (p + cond x (suc (skip c l (suc p) es)) 0) m) [
        | true ↦ λ f. (let q : suc p + skip c l (suc p) es ≡ p + suc (skip c l (suc p) es) = omega arith in
            subst (λ (n : ℕ). take n l ≡ take n m) q (skip_agrees (suc p) es ph.1 (one_more p e (omega arith) ph.0 f)))
        | false ↦ λ f. rw add-zero a
      ] refl

  -- the first entry that isn't skipped is another one there, or past the end
  pub skip_differs : (p : ℕ) (es : List LogEntry) → Piece m p es → skip c l p es < length es → take (suc (p + skip c l p es)) l ≡ take (suc (p + skip c l p es)) m → ⊥
  skip_differs p [] pc lt q = omega arith
  skip_differs p (e ∷ es) pc lt q =
      let ph = piece_head m p e es pc in
      let w = pc.within in
      (elim (has c l p e) as (λ x. has c l p e ≡ x → cond x (suc (skip c l (suc p) es)) 0 < length (e ∷ es) → take (suc (p + cond x (suc (skip c l (suc p) es)) 0)) l ≡ take (suc (p + cond x (suc (skip c l (suc p) es)) 0)) m → ⊥) [
        | true ↦ λ f lt' q'. (let r : suc (p + suc (skip c l (suc p) es)) ≡ suc (suc p + skip c l (suc p) es) = omega arith in
            skip_differs (suc p) es ph.1 (omega arith) (subst (λ (n : ℕ). take n l ≡ take n m) r q'))
        | false ↦ λ f lt' q'. (let q2 : take (suc p) l ≡ take (suc p) m = subst (λ (n : ℕ). take (suc n) l ≡ take (suc n) m) (add-zero p) q' in
            ⊎_elim (λ (y : length l ≤ p). let z = agree_long (suc p) l m (omega arith) q2 in (let r : ⊥ = omega arith in r))
            (λ (y : term_at l p ≢ e.term). y (agree_term (suc p) p l m (omega arith) q2 ∙ ap (λ (z : LogEntry). z.term) ph.0))
            (has_not c l p e f).1)
      ]) refl lt q

  -- the log after the first items of an append: as before, or the leader's up to a place where the old log differed
  kept_at : (start p j : ℕ) (es ys : List LogEntry) → Piece m p es → take p l ≡ take p m → ys ≡ take j (drop (skip c l p es) es)
      → (stored start l (number (start + suc (p + skip c l p es)) ys) ≡ l) ⊎ ((n : ℕ) × (n ≤ p + length es) × (stored start l (number (start + suc (p + skip c l p es)) ys) ≡ take n m) × (take n l ≡ take n m → ⊥))
  kept_at start p j es [] pc a e = inl refl
  kept_at start p j es (x ∷ xs) pc a e =
      let w = pc.within in
      let i = skip c l p es in
      let fresh = drop i es in
      let le : i ≤ length es = skip_le c l p es in
      let q = p + i in
      let pd = piece_drop m p i es pc le in
      let ag = skip_agrees p es pc a in
      let ql : q ≤ length l = agree_long q l m (omega arith) ag in
      let ln : length (x ∷ xs) ≡ min j (length fresh) = ap length e ∙ length-take j fresh in
      let ld = length-drop i es in
      let some : i < length es = omega (arith, ln, ld) in
      let tk : take (length (x ∷ xs)) (drop q m) ≡ x ∷ xs = piece_take m q fresh pd (length (x ∷ xs)) (omega (arith, ln)) ∙ (ap (λ (n : ℕ). take n fresh) ln ∙ (take_min j fresh ∙ sym e)) in
      let is : stored start l (number (start + suc q) (x ∷ xs)) ≡ take (q + length (x ∷ xs)) m =
      stored_number start q l x xs ql ∙ (ap (λ (r : List LogEntry). r ++ x ∷ xs) ag ∙ (ap (λ (r : List LogEntry). take q m ++ r) (sym tk) ∙ sym (take-add q (length (x ∷ xs)) m))) in
      inr (
        q + length (x ∷ xs),
        omega (arith, ln, ld),
        is,
        λ same. skip_differs p es pc some (agree_down (suc q) (q + length (x ∷ xs)) l m (omega arith) same),
      )

  pub append_keeps : (start p j : ℕ) (es : List LogEntry) → Piece m p es → take p l ≡ take p m
      → (stored start l (take j (appended start c l p es)) ≡ l) ⊎ ((n : ℕ) × (n ≤ p + length es) × (stored start l (take j (appended start c l p es)) ≡ take n m) × (take n l ≡ take n m → ⊥))
  append_keeps start p j es pc a =
      rw (number_take j (start + suc (p + skip c l p es)) (drop (skip c l p es) es)) (kept_at start p j es (take j (drop (skip c l p es) es)) pc a refl)

  -- after the whole append the log is the leader's up to its end
  full_at : (start p : ℕ) (es ys : List LogEntry) → Piece m p es → take p l ≡ take p m → ys ≡ drop (skip c l p es) es → take (p + length es) (stored start l (number (start + suc (p + skip c l p es)) ys)) ≡ take (p + length es) m
  full_at start p es [] pc a e =
      let i = skip_le c l p es in
      let ld = length-drop (skip c l p es) es in
      let le = ap length e in
      let q : p + skip c l p es ≡ p + length es = omega arith in
      subst (λ (n : ℕ). take n l ≡ take n m) q (skip_agrees p es pc a)
  full_at start p es (x ∷ xs) pc a e =
      let w = pc.within in
      let i = skip_le c l p es in
      let ld = length-drop (skip c l p es) es in
      let le = ap length e in
      let ag = skip_agrees p es pc a in
      let pd = piece_drop m p (skip c l p es) es pc i in
      let ql : p + skip c l p es ≤ length l = agree_long (p + skip c l p es) l m (omega arith) ag in
      let n : p + skip c l p es + length (x ∷ xs) ≡ p + length es = omega (arith, ld, le) in
      let tk : take (length (x ∷ xs)) (drop (p + skip c l p es) m) ≡ x ∷ xs = ap (λ (k : ℕ). take k (drop (p + skip c l p es) m)) le ∙ (pd.is ∙ sym e) in
      let is : stored start l (number (start + suc (p + skip c l p es)) (x ∷ xs)) ≡ take (p + length es) m =
      stored_number start (p + skip c l p es) l x xs ql ∙ (ap (λ (r : List LogEntry). r ++ x ∷ xs) ag
      ∙ (ap (λ (r : List LogEntry). take (p + skip c l p es) m ++ r) (sym tk) ∙ (sym (take-add (p + skip c l p es) (length (x ∷ xs)) m) ∙ ap (λ (k : ℕ). take k m) n))) in
      ap (take (p + length es)) is ∙ take-take (p + length es) (p + length es) m (omega arith)

  pub append_full : (start p : ℕ) (es : List LogEntry) → Piece m p es → take p l ≡ take p m → take (p + length es) (stored start l (appended start c l p es)) ≡ take (p + length es) m
  append_full start p es pc a = full_at start p es (drop (skip c l p es) es) pc a refl
