-- What is written, call by call.
use Rattle.std.proofs.Common.{◌≡◌, ℕ, ◌+◌, List, [], ◌++◌, length, take, drop, refl, sym, ap, subst, ◌∙◌, append_assoc, arith, Option, Some, None}
use Rattle.std.proofs.lemmas.List.{append-nil, length-append, take_all, take-append-le}
use Rattle.std.proofs.Math.Seq.{take-append-add, take-add}
use Rattle.line_io.specs.Streams.{Appends, AppendsFront, AppendsPart, Puts}
pub use Rattle.fault_count.proofs.Rising.{Rose-wider}

-- one call more puts more of the bytes
pub Appends-more : (old mid new : Option (List ℕ)) (bytes part : List ℕ) (at n : ℕ) → Appends old mid (take at bytes) → part ≡ drop at bytes → Puts mid new part n
    → Appends old new (take (at + n) bytes)
Appends-more None mid new bytes part at n a is p = subst (λ (m : Option (List ℕ)). Puts m new part n) a p
Appends-more (Some old) mid new bytes part at n a is p =
    let q : new ≡ Some ((old ++ take at bytes) ++ take n part) = subst (λ (m : Option (List ℕ)). Puts m new part n) a p in
    q ∙ (ap (λ (x : List ℕ). Some ((old ++ take at bytes) ++ take n x)) is ∙ (ap Some (append_assoc old (take at bytes) (take n (drop at bytes))) ∙ ap (λ (x : List ℕ). Some (old ++ x)) (sym (take-add at n bytes))))

-- nothing was written
pub Appends-none : (old : Option (List ℕ)) → Appends old old []
Appends-none None = refl
Appends-none (Some old) = ap Some (sym (append-nil old))

-- these bytes and then those
pub Appends-then : (old mid new : Option (List ℕ)) (a b : List ℕ) → Appends old mid a → Appends mid new b → Appends old new (a ++ b)
Appends-then None mid new a b p q = subst (λ (m : Option (List ℕ)). Appends m new b) p q
Appends-then (Some old) mid new a b p q = subst (λ (m : Option (List ℕ)). Appends m new b) p q ∙ ap Some (append_assoc old a b)

-- all of the bytes are a front of them
pub Front-all : (old new : Option (List ℕ)) (a : List ℕ) → Appends old new a → AppendsFront old new a
Front-all old new a p = (length a, omega arith, subst (λ (x : List ℕ). Appends old new x) (sym (take_all (length a) a (omega arith))) p)

-- a front of a longer list of bytes
pub Front-of : (old new : Option (List ℕ)) (a b : List ℕ) → AppendsFront old new a → AppendsFront old new (a ++ b)
Front-of old new a b h = (h.0, omega (arith, h.1, length-append a b), subst (λ (x : List ℕ). Appends old new x) (sym (take-append-le h.0 a b h.1)) h.2)

-- all of these bytes, and then a front of those
pub Front-then : (old mid new : Option (List ℕ)) (a b : List ℕ) → Appends old mid a → AppendsFront mid new b → AppendsFront old new (a ++ b)
Front-then old mid new a b p h =
    (length a + h.0, omega (arith, h.1, length-append a b), subst (λ (x : List ℕ). Appends old new x) (sym (take-append-add a b h.0)) (Appends-then old mid new a (take h.0 b) p h.2))

-- not all of the bytes are a front of them
pub Part-front : (old new : Option (List ℕ)) (a : List ℕ) → AppendsPart old new a → AppendsFront old new a
Part-front old new a h = (h.0, omega (arith, h.1), h.2)

-- not all of these bytes, and so not all of a longer list
pub Part-of : (old new : Option (List ℕ)) (a b : List ℕ) → AppendsPart old new a → AppendsPart old new (a ++ b)
Part-of old new a b h = (h.0, omega (arith, h.1, length-append a b), subst (λ (x : List ℕ). Appends old new x) (sym (take-append-le h.0 a b (omega (arith, h.1)))) h.2)

-- all of these bytes, and then not all of those
pub Part-then : (old mid new : Option (List ℕ)) (a b : List ℕ) → Appends old mid a → AppendsPart mid new b → AppendsPart old new (a ++ b)
Part-then old mid new a b p h =
    (length a + h.0, omega (arith, h.1, length-append a b), subst (λ (x : List ℕ). Appends old new x) (sym (take-append-add a b h.0)) (Appends-then old mid new a (take h.0 b) p h.2))
