-- What stands before a print stays.
use Rattle.std.proofs.Common.{◌≡◌, ℕ, ◌≤◌, List, [], ◌∷◌, ◌++◌, length, take, refl, sym, ap, Ok, Err, ◌∙◌, arith}
use Rattle.std.specs.Prelude.{OnOk, is_ok, if◌then◌else◌}
use Rattle.std.specs.declared.result.Result.{Result}
use Rattle.std.proofs.lemmas.List.{append_assoc, take-take, length-take}
use Rattle.std.proofs.Math.Seq.{take-append_seam}

-- what stood before one print and stays over the next one
pub front_then : (o m n : List ℕ) → take (length o) m ≡ o → take (length m) n ≡ m → take (length o) n ≡ o
front_then o m n om mn =
    let le : length o ≤ length m = omega (arith, ap length om, length-take (length o) m) in
    sym (take-take (length o) (length m) n le) ∙ (ap (take (length o)) mn ∙ om)

pub front_of : (o m n x : List ℕ) → m ≡ o ++ x → take (length m) n ≡ m → take (length o) n ≡ o
front_of o m n x e mn = front_then o m n (ap (take (length o)) e ∙ take-append_seam o x) mn

pub front_kept : (o m n x : List ℕ) → m ≡ o ++ x → n ≡ m → take (length o) n ≡ o
front_kept o m n x e nm = ap (take (length o)) (nm ∙ e) ∙ take-append_seam o x

-- two prints, one behind the other
pub two_parts : (o m n x y : List ℕ) → m ≡ o ++ x → n ≡ m ++ y → n ≡ o ++ (x ++ y)
two_parts o m n x y e f = f ∙ (ap (λ (zs : List ℕ). zs ++ y) e ∙ append_assoc o x y)

-- three prints
pub three_parts : (o m n k x y z : List ℕ) → m ≡ o ++ x → n ≡ m ++ y → k ≡ n ++ z → k ≡ o ++ (x ++ (y ++ z))
three_parts o m n k x y z e f g = two_parts o m k x (y ++ z) e (two_parts m n k y z f g)

take_all_of : (o : List ℕ) → take (length o) o ≡ o
take_all_of [] = refl
take_all_of (b ∷ o) = ap (λ (zs : List ℕ). b ∷ zs) (take_all_of o)

-- bytes that were appended, or not
pub word-ok : {X E : Type 0} (r : Result X E) (o n x : List ℕ) → n ≡ (if is_ok r then o ++ x else o) → OnOk r (n ≡ o ++ x)
word-ok (Ok y) o n x e = e
word-ok (Err y) o n x e = tt

pub word-front : {X E : Type 0} (r : Result X E) (o n x : List ℕ) → n ≡ (if is_ok r then o ++ x else o) → take (length o) n ≡ o
word-front (Ok y) o n x e = front_kept o (o ++ x) n x refl e
word-front (Err y) o n x e = ap (take (length o)) e ∙ take_all_of o
