-- A step of a mask is a step of the parts.
use Rattle.std.proofs.Common.{◌≡◌, ◌≢◌, ℕ, zero, suc, ◌+◌, ◌*◌, ◌%◌, ◌^◌, ◌<◌, ◌≤◌, w64, IsTrue, ◌⊎◌, inl, inr, ⊎_elim, Bool, true, false, eqb, ◌&&◌, ◌||◌, List, [], ◌∷◌, ◌++◌, length, take, refl, sym, ap, subst, ◌∙◌, arith, Option, Some, None, slice_get, slice_index_or}
use Rattle.std.specs.FinMap.{get}
use Rattle.std.specs.Int.RustNames.{bit_or}
use Rattle.std.proofs.lemmas.Nat.Bits.{bit_at_set_same, bit_at_set_other, bit_at-pow_other, bit_at-zero}
use Rattle.std.proofs.lemmas.List.{take_all}
use Rattle.khepri_terms.specs.Terms.{NameText}
use Rattle.khepri_types.specs.declared.node.Node.{Node}
use Rattle.khepri_types.specs.declared.pattern.PatternPart.{PatternPart}
use Rattle.khepri_types.specs.declared.pattern.PatternPart.TheVariants as part
use Rattle.khepri_types.specs.Tree.{Tree, stands}
use Rattle.khepri_types.specs.Conditions.{Seen, holds, last_name, seen_node, seen_at}
use Rattle.khepri_types.specs.Patterns.{takes_name, is_many, takes, matches}
use Rattle.pattern_match.specs.declared.mask.Mask.{Mask}
use Rattle.pattern_match.specs.Masks.{has, IsMask}
use Rattle.pattern_match.specs.Steps.{is_called, takes_node, part_next, has_next}
use Rattle.pattern_match.proofs.Taking.{takes_end, takes_more}

last_added : (p : List NameText) (n : NameText) → last_name (p ++ n ∷ []) ≡ Some n
last_added [] n = refl
last_added (m ∷ []) n = refl
last_added (m ∷ k ∷ p) n = last_added (k ∷ p) n

seen_name : (T : Tree) (q : List NameText) (o : Option Node) (s : Seen) → seen_node T q o ≡ Some s → last_name q ≡ s.name
seen_name T q None s e = absurd cc
seen_name T q (Some x) s e = cc

pub takes_seen : (T : Tree) (p : List NameText) (n : NameText) (s : Seen) (P : PatternPart) → seen_at T (p ++ n ∷ []) ≡ Some s → takes_name T (p ++ n ∷ []) n P ≡ takes_node P s
unfolding seen_at
takes_seen T p n s (part.Name m) e =
    let name : Some n ≡ s.name = sym (last_added p n) ∙ seen_name T (p ++ n ∷ []) (get T (p ++ n ∷ [])) s e in
    ap (is_called m) name
takes_seen T p n s part.One e = refl
takes_seen T p n s part.Many e = refl
takes_seen T p n s (part.Meets c) e = ap (holds c) e

at_place : (parts : List PatternPart) (k : ℕ) → k < length parts → (P : PatternPart) × (slice_get parts k ≡ Some P) × (take (suc k) parts ≡ take k parts ++ P ∷ [])
at_place [] k l = absurd (omega arith)
at_place (P ∷ parts) zero l = (P, refl, refl)
at_place (Q ∷ parts) (suc k) l = let a = at_place parts k (omega arith) in (a.0, a.1, ap (λ (xs : List PatternPart). Q ∷ xs) a.2)

turned : (a b : Bool) → (a && b) ≡ (b && a)
turned true true = refl
turned true false = refl
turned false true = refl
turned false false = refl

pub next_is : (parts : List PatternPart) (T : Tree) (p : List NameText) (n : NameText) (s : Seen) (m r : Mask)
    → seen_at T (p ++ n ∷ []) ≡ Some s → IsMask parts T p m → ((i : ℕ) → i ≤ length parts → has r i ≡ has_next parts s m i) → IsMask parts T (p ++ n ∷ []) r
next_is parts T p n s m r e is step zero l = step zero l ∙ sym (takes_end T [] p n)
next_is parts T p n s m r e is step (suc k) l =
    let a = at_place parts k (omega arith) in
    let P : PatternPart = a.0 in
    let here : takes T [] (take k parts) p ≡ has m k = sym (is k (omega arith)) in
    let on : takes T [] (take k parts ++ P ∷ []) p ≡ has m (suc k) = ap (λ (xs : List PatternPart). takes T [] xs p) (sym a.2) ∙ sym (is (suc k) l) in
    let one : takes_name T (p ++ n ∷ []) n P ≡ takes_node P s = takes_seen T p n s P e in
    step (suc k) l
    ∙ (ap (part_next s m k) a.1
    ∙ (turned (has m k || (is_many P && has m (suc k))) (takes_node P s)
    ∙ ((λ i. sym one i && (sym here i || (is_many P && sym on i)))
    ∙ (sym (takes_more T [] (take k parts) P p n)
    ∙ ap (λ (xs : List PatternPart). takes T [] xs (p ++ n ∷ [])) (sym a.2)))))

pub first_is : (parts : List PatternPart) (T : Tree) (r : Mask) → has r 0 ≡ true → ((i : ℕ) → has r (suc i) ≡ false) → IsMask parts T [] r
unfolding takes
first_is parts T r none some zero l = none
first_is [] T r none some (suc k) l = absurd (omega arith)
first_is (P ∷ parts) T r none some (suc k) l = some k

pub accepted : (parts : List PatternPart) (T : Tree) (p : List NameText) (m : Mask) → IsTrue (stands T p) → IsMask parts T p m → has m (length parts) ≡ matches parts T p
unfolding matches
accepted parts T p m stand is =
    is (length parts) (omega arith) ∙ (ap (λ (xs : List PatternPart). takes T [] xs p) (take_all (length parts) parts (omega arith)) ∙ ap (λ (b : Bool). b && takes T [] parts p) (sym stand))

-- ---- the bits

pub bit_set : (bits k : ℕ) → k < 64 → has (record { bits = bit_or bits (1 * 2 ^ k % 2 ^ 64) }) k ≡ true
bit_set bits k l = ap (λ (n : ℕ). eqb n 1) (bit_at_set_same w64 bits k l)

pub bit_kept : (bits k : ℕ) → k < 64 → (i : ℕ) → i ≢ k → has (record { bits = bit_or bits (1 * 2 ^ k % 2 ^ 64) }) i ≡ has (record { bits = bits }) i
bit_kept bits k l i other = ap (λ (n : ℕ). eqb n 1) (bit_at_set_other w64 bits k l i other)

pub bit_first : (i : ℕ) → has (record { bits = 1 }) (suc i) ≡ false
bit_first i = ap (λ (n : ℕ). eqb n 1) (bit_at-pow_other 0 (suc i) (λ e. absurd (omega (arith, e))))

bit_none : (i : ℕ) → has (record { bits = 0 }) i ≡ false
bit_none i = ap (λ (n : ℕ). eqb n 1) (bit_at-zero i)

-- ---- the loop over the parts

-- the numbers up to a place stand in the next mask, and no other
pub record SoFar (parts : List PatternPart) (s : Seen) (m : Mask) (at : ℕ) (next : Mask) : Type 0 where
  pub done : (j : ℕ) → j ≤ at → has next j ≡ has_next parts s m j
  pub later : (j : ℕ) → at < j → has next j ≡ false

pub begun : (parts : List PatternPart) (s : Seen) (m : Mask) → SoFar parts s m 0 (record { bits = 0 })
begun parts s m = record { done = λ j l. begun_at j l; later = λ j l. bit_none j }
  where
    begun_at : (j : ℕ) → j ≤ 0 → has (record { bits = 0 }) j ≡ has_next parts s m j
    begun_at zero l = refl
    begun_at (suc j) l = absurd (omega arith)

up_to : (at j : ℕ) → j ≤ suc at → (j ≤ at) ⊎ (j ≡ suc at)
up_to at zero l = inl (omega arith)
up_to zero (suc j) l = inr (omega arith)
up_to (suc at) (suc j) l = ⊎_elim (λ (b : j ≤ at). inl (omega arith)) (λ (e : j ≡ suc at). inr (ap suc e)) (up_to at j (omega arith))

set_on : (parts : List PatternPart) (s : Seen) (m : Mask) (at : ℕ) (next r : Mask) → SoFar parts s m at next → part_next s m at (slice_get parts at) ≡ true
    → has r (suc at) ≡ true → ((i : ℕ) → i ≢ suc at → has r i ≡ has next i) → SoFar parts s m (suc at) r
set_on parts s m at next r so goes same other = record {
  done = λ j l. ⊎_elim
      (λ (b : j ≤ at). other j (λ e. absurd (omega (arith, e, b))) ∙ so.done j b)
      (λ (e : j ≡ suc at). ap (has r) e ∙ (same ∙ (sym goes ∙ ap (has_next parts s m) (sym e))))
      (up_to at j l);
  later = λ j l. other j (λ e. absurd (omega (arith, e, l))) ∙ so.later j (omega (arith, l));
}

left_on : (parts : List PatternPart) (s : Seen) (m : Mask) (at : ℕ) (next : Mask) → SoFar parts s m at next → part_next s m at (slice_get parts at) ≡ false → SoFar parts s m (suc at) next
left_on parts s m at next so stops = record {
  done = λ j l. ⊎_elim
      (λ (b : j ≤ at). so.done j b)
      (λ (e : j ≡ suc at). ap (has next) e ∙ (so.later (suc at) (omega arith) ∙ (sym stops ∙ ap (has_next parts s m) (sym e))))
      (up_to at j l);
  later = λ j l. so.later j (omega (arith, l));
}

part_at : (parts : List PatternPart) (at : ℕ) (P : PatternPart) → at < length parts → slice_get parts at ≡ Some (slice_index_or parts at P)
part_at [] at P l = absurd (omega arith)
part_at (Q ∷ parts) zero P l = refl
part_at (Q ∷ parts) (suc at) P l = part_at parts at P (omega arith)

-- one turn in which the part takes the name
pub turn_set : (parts : List PatternPart) (s : Seen) (m : Mask) (at : ℕ) (P : PatternPart) (next r : Mask) → SoFar parts s m at next → at < length parts → P ≡ slice_index_or parts at P → true ≡ part_next s m at (Some P)
    → has r (at + 1) ≡ true → ((i : ℕ) → i ≢ at + 1 → has r i ≡ has next i) → SoFar parts s m (at + 1) r
turn_set parts s m at P next r so l is goes same other =
    let e : suc at ≡ at + 1 = omega arith in
    let here : slice_get parts at ≡ Some P = part_at parts at P l ∙ ap (λ (Q : PatternPart). Some Q) (sym is) in
    subst (λ (k : ℕ). SoFar parts s m k r) e
    (set_on parts s m at next r so (ap (part_next s m at) here ∙ sym goes) (ap (has r) e ∙ same) (λ i d. other i (λ f. d (f ∙ sym e))))

-- one turn in which it does not
pub turn_left : (parts : List PatternPart) (s : Seen) (m : Mask) (at : ℕ) (P : PatternPart) (next : Mask) → SoFar parts s m at next → at < length parts → P ≡ slice_index_or parts at P → false ≡ part_next s m at (Some P) → SoFar parts s m (at + 1) next
turn_left parts s m at P next so l is stops =
    let e : suc at ≡ at + 1 = omega arith in
    let here : slice_get parts at ≡ Some P = part_at parts at P l ∙ ap (λ (Q : PatternPart). Some Q) (sym is) in
    subst (λ (k : ℕ). SoFar parts s m k next) e (left_on parts s m at next so (ap (part_next s m at) here ∙ sym stops))
