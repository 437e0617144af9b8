-- What a scan has found so far.
use Rattle.std.proofs.Common.{◌≡◌, ◌≤◌, ◌<◌, ◌+◌, ℕ, zero, suc, Bool, true, false, cond, List, [], ◌∷◌, ◌++◌, length, map, refl, sym, ap, ◌∙◌, arith, append_assoc, Option, Some, None}
use Rattle.std.specs.List.{filter}
use Rattle.std.specs.FinMap.{len, len-entries}
use Rattle.std.proofs.lemmas.List.{append-nil, length-append}
use Rattle.khepri_terms.specs.Terms.{NameText}
use Rattle.khepri_types.specs.declared.node.Node.{Node}
use Rattle.khepri_types.specs.declared.pattern.PatternPart.{PatternPart}
use Rattle.khepri_types.specs.Patterns.{matches, matching_nodes}
use Rattle.khepri_types.specs.Tree.{Tree}
use Rattle.pattern_match.specs.declared.mask.Mask.{Mask}
use Rattle.pattern_match.specs.Masks.{AreMasks}
use Rattle.tree_nodes.proofs.Walking.{walk-begins}
use Rattle.tree_commands.specs.declared.scan.Found.{Found}
use Rattle.tree_commands.specs.Listing.{Lists}
use Rattle.tree_commands.specs.Scans.{ahead, ComesNext, AreBehind}

abbrev pub Entry : Type 0
Entry = List NameText × Node

-- of these nodes those that the pattern matches
abbrev pub chosen : List PatternPart → Tree → List Entry → List Entry
chosen parts T es = filter (λ e. matches parts T e.0) es

-- so many nodes were passed, and these are the ones that the pattern matches
pub record Scanned (parts : List PatternPart) (T : Tree) (at : ℕ) (last : Option (List NameText)) (masks : List Mask) (found : List Entry) : Type 0 where
  pub left : at + length (ahead T last) ≡ len T
  pub few : length found ≤ at
  pub behind : AreBehind parts T last masks
  pub all : matching_nodes parts T ≡ found ++ chosen parts T (ahead T last)

pub scan-begins : (parts : List PatternPart) (T : Tree) (masks : List Mask) → AreMasks parts T [] [] masks → Scanned parts T 0 None masks []
scan-begins parts T masks are = record {
  left = omega (arith, ap length (walk-begins T), len-entries T);
  few = omega arith;
  behind = are;
  all = ap (chosen parts T) (sym (walk-begins T));
}

pub scan-more : (parts : List PatternPart) (T : Tree) (at : ℕ) (last : Option (List NameText)) (masks : List Mask) (found : List Entry) → Scanned parts T at last masks found → at < len T → 0 < length (ahead T last)
scan-more parts T at last masks found s lt = omega (arith, s.left)

-- one node more, which the pattern matches
pub scan-taken : (parts : List PatternPart) (T : Tree) (at : ℕ) (last : Option (List NameText)) (old new : List Mask) (found : List Entry) (p : List NameText) (next : ComesNext T last p)
    → Scanned parts T at last old found → AreMasks parts T [] p new → matches parts T p ≡ true → Scanned parts T (at + 1) (Some p) new (found ++ (p, next.0) ∷ [])
scan-taken parts T at last old new found p next s are m =
    let e : Entry = (p, next.0) in
    record {
      left = omega (arith, s.left, ap length next.2);
      few = omega (arith, s.few, length-append found (e ∷ []));
      behind = are;
      all = s.all
          ∙ (ap (λ (es : List Entry). found ++ chosen parts T es) next.2
          ∙ (ap (λ (b : Bool). found ++ cond b (e ∷ chosen parts T (ahead T (Some p))) (chosen parts T (ahead T (Some p)))) m
          ∙ sym (append_assoc found (e ∷ []) (chosen parts T (ahead T (Some p))))));
    }

-- one node more, which it doesn't match
pub scan-left : (parts : List PatternPart) (T : Tree) (at : ℕ) (last : Option (List NameText)) (old new : List Mask) (found : List Entry) (p : List NameText) (next : ComesNext T last p)
    → Scanned parts T at last old found → AreMasks parts T [] p new → matches parts T p ≡ false → Scanned parts T (at + 1) (Some p) new found
scan-left parts T at last old new found p next s are m =
    let e : Entry = (p, next.0) in
    record {
      left = omega (arith, s.left, ap length next.2);
      few = omega (arith, s.few);
      behind = are;
      all = s.all
          ∙ (ap (λ (es : List Entry). found ++ chosen parts T es) next.2
          ∙ ap (λ (b : Bool). found ++ cond b (e ∷ chosen parts T (ahead T (Some p))) (chosen parts T (ahead T (Some p)))) m);
    }

none_left : (es : List Entry) → length es ≡ 0 → es ≡ []
none_left [] l = refl
none_left (e ∷ es) l = absurd (omega arith)

-- at the end all were found
pub scan-ends : (parts : List PatternPart) (T : Tree) (at : ℕ) (last : Option (List NameText)) (masks : List Mask) (found : List Entry) → Scanned parts T at last masks found → len T ≤ at → matching_nodes parts T ≡ found
scan-ends parts T at last masks found s le =
    s.all ∙ (ap (λ (es : List Entry). found ++ chosen parts T es) (none_left (ahead T last) (omega (arith, s.left))) ∙ append-nil found)

-- one path more
pub paths-more : (found : List Entry) (e : Entry) (paths : List (List NameText)) (p : List NameText) → paths ≡ map (λ (x : Entry). x.0) found → p ≡ e.0 → paths ++ p ∷ [] ≡ map (λ (x : Entry). x.0) (found ++ e ∷ [])
paths-more [] e paths p is same = (λ i. is i ++ same i ∷ [])
paths-more (x ∷ found) e paths p is same = ap (λ (ps : List (List NameText)). ps ++ p ∷ []) is ∙ ap (λ (ps : List (List NameText)). x.0 ∷ ps) (paths-more found e (map (λ (y : Entry). y.0) found) p refl same)

-- nothing was found before the first step
pub lists-none : (T : Tree) (limit : ℕ) (f : Found) → f.count ≡ 0 → f.nodes.items ≡ [] → Lists T limit [] f
lists-none T zero f count nodes = record { count = count; listed = nodes }
lists-none T (suc k) f count nodes = record { count = count; listed = nodes }
