-- What is read of paths is spelled so, and what is spelled so is read.
use Rattle.std.proofs.Common.{◌≡◌, ℕ, zero, suc, ◌+◌, ◌-◌, ◌<◌, ◌≤◌, false, eqb, ◌||◌, List, [], ◌∷◌, ◌++◌, length, get_or, take, drop, refl, sym, ap, subst, ◌∙◌, append_assoc, arith, Option, Some, None, take-append-drop}
use Rattle.std.proofs.lemmas.Bool.{eqb-true, cond-true, cond-false, eq-eqb}
use Rattle.std.proofs.lemmas.List.{append-nil, drop_at, length-append, length-take}
use Rattle.std.proofs.Math.Seq.{take-append-add}
use Rattle.std.specs.List.{flat_map, AllByRecursion}
use Rattle.khepri_terms.specs.declared.name.Kind.TheVariants.{Text}
use Rattle.khepri_terms.specs.Terms.{NameText}
use Rattle.khepri_terms.specs.Bytes.{is_plain, byte_at}
use Rattle.khepri_terms.specs.Names.{mark, name_text, IsNameBytes, IsName, Stops, comp_at, name_at, named, undotted}
use Rattle.khepri_terms.specs.Paths.{step_text, path_text, IsPath, goes_on, Ends, step_at, names_at, path_of, path_at}
use Rattle.khepri_terms.proofs.Cases.{guard_some, some_is, or_false}
use Rattle.khepri_terms.proofs.Reading.{ahead, Took, many-end, many_takes, many_again}
use Rattle.khepri_terms.proofs.NamesLaws.{comp_takes, comp_again, stops_none, first_no_dot, name_at-other, nothing_named, name_again}

step_takes : (text : List ℕ) (x : NameText × List ℕ) → step_at text ≡ Some x → (text ≡ step_text x.0 ++ x.1) × IsName x.0
unfolding step_at
step_takes [] x e = absurd cc
step_takes (b ∷ text) x e =
    let g = guard_some (eqb b 47) (comp_at text) x e in
    let t = comp_takes text x g.1 in
    ((λ i. eqb-true b 47 g.0 i ∷ t.0 i), t.1)

pub step_again : (n : NameText) (rest : List ℕ) → IsName n → Stops rest → step_at (step_text n ++ rest) ≡ Some (n, rest)
unfolding step_at
step_again n rest is s = comp_again n rest is s

slash_stops : (n : NameText) (rest : List ℕ) → IsName n → Stops (step_text n ++ rest)
unfolding is_plain
slash_stops n rest is = refl

pub names_take : (n : ℕ) (text : List ℕ) → Took step_text IsName n text (names_at n text)
names_take n text = many_takes step_at step_text IsName step_takes n text

pub names_again : (names : List NameText) (m n : ℕ) (rest : List ℕ) → AllByRecursion IsName names → m ≡ length names + n → Stops rest → names_at m (flat_map step_text names ++ rest) ≡ ahead names (names_at n rest)
names_again names m n rest all e s = many_again step_at step_text IsName Stops step_again slash_stops names m n rest all e s

pub names_within : (n : ℕ) (text : List ℕ) → length (names_at n text).1 ≤ length text
names_within n text =
    let t = names_take n text in
    omega (arith, ap length t.parts, length-append (flat_map step_text (names_at n text).0) (names_at n text).1)

pub path_text-more : (n : NameText) (ns : List NameText) → path_text (n ∷ ns) ≡ flat_map step_text (n ∷ ns)
unfolding path_text
path_text-more n ns = refl

pub path_text-root : path_text [] ≡ 47 ∷ []
unfolding path_text
path_text-root = refl

-- what was taken of the first bytes was taken of the text
pub taken_is : (text spelled rest : List ℕ) → take 1024 text ≡ spelled ++ rest → text ≡ spelled ++ drop (length (take 1024 text) - length rest) text
taken_is text spelled rest e =
    let k : length (take 1024 text) - length rest ≡ length spelled = omega (arith, ap length e, length-append spelled rest) in
    let whole : text ≡ spelled ++ (rest ++ drop 1024 text) = sym (take-append-drop 1024 text) ∙ (ap (λ (w : List ℕ). w ++ drop 1024 text) e ∙ append_assoc spelled rest (drop 1024 text)) in
    let behind : drop (length spelled) text ≡ rest ++ drop 1024 text = ap (drop (length spelled)) whole ∙ drop_at spelled (rest ++ drop 1024 text) (length spelled) refl in
    whole ∙ ap (λ (w : List ℕ). spelled ++ w) (sym (ap (λ (n : ℕ). drop n text) k ∙ behind))

path_of_takes : (text : List ℕ) (found : List NameText × List ℕ) → Took step_text IsName 512 (take 1024 (47 ∷ text)) found
    → (47 ∷ text ≡ path_text (path_of (47 ∷ text) found).0 ++ (path_of (47 ∷ text) found).1) × IsPath (path_of (47 ∷ text) found).0
path_of_takes text ([], rest) t = (ap (λ (s : List ℕ). s ++ text) (sym path_text-root), record { names = tt; short = rw path_text-root (omega arith) })
path_of_takes text (n ∷ ns, rest) t =
    let s : List ℕ = flat_map step_text (n ∷ ns) in
    let high : length s ≤ 1024 = omega (arith, ap length t.parts, length-append s rest, length-take 1024 (47 ∷ text)) in
    (rw (path_text-more n ns) (taken_is (47 ∷ text) s rest t.parts), record { names = t.all; short = rw (path_text-more n ns) high })

pub path_takes : (text : List ℕ) (x : List NameText × List ℕ) → path_at text ≡ Some x → (text ≡ path_text x.0 ++ x.1) × IsPath x.0
unfolding path_at
path_takes [] x e = absurd cc
path_takes (b ∷ text) x e =
    let g = guard_some (eqb b 47) (Some (path_of (b ∷ text) (names_at 512 (take 1024 (b ∷ text))))) x e in
    let is : b ≡ 47 = eqb-true b 47 g.0 in
    let made = some_is (path_of (b ∷ text) (names_at 512 (take 1024 (b ∷ text)))) x g.1 in
    let made47 : path_of (47 ∷ text) (names_at 512 (take 1024 (47 ∷ text))) ≡ x = ap (λ (c : ℕ). path_of (c ∷ text) (names_at 512 (take 1024 (c ∷ text)))) (sym is) ∙ made in
    let t = path_of_takes text (names_at 512 (take 1024 (47 ∷ text))) (names_take 512 (take 1024 (47 ∷ text))) in
    subst (λ (y : List NameText × List ℕ). (b ∷ text ≡ path_text y.0 ++ y.1) × IsPath y.0) made47 (ap (λ (c : ℕ). c ∷ text) is ∙ t.0, t.1)

-- how the code reads
pub path_is : (text window left : List ℕ) (names : List NameText) → 0 < length text → get_or text 0 0 ≡ 47 → window ≡ take 1024 text → names_at 512 window ≡ (names, left) → 0 < length names
    → path_at text ≡ Some (names, drop (length window - length left) text)
unfolding path_at
path_is [] window left names lt first w e some = absurd (omega arith)
path_is (b ∷ text) window left [] lt first w e some = absurd (omega arith)
path_is (b ∷ text) window left (n ∷ ns) lt first w e some =
    cond-true _ _ _ (eq-eqb b 47 first)
    ∙ (ap (λ (v : List ℕ). Some (path_of (b ∷ text) (names_at 512 v))) (sym w)
    ∙ (ap (λ (f : List NameText × List ℕ). Some (path_of (b ∷ text) f)) e
    ∙ ap (λ (v : List ℕ). Some (n ∷ ns, drop (length v - length left) (b ∷ text))) (sym w)))

-- ---- what is spelled is read

ends_take : (k : ℕ) (rest : List ℕ) → Ends rest → Ends (take k rest)
ends_take zero rest e = tt
ends_take (suc k) [] e = tt
ends_take (suc k) (b ∷ rest) e = e

-- a byte that does not go on with a path
ended : (b : ℕ) → goes_on b ≡ false → (is_plain b ≡ false) × (eqb b 37 ≡ false) × (eqb b 47 ≡ false) × (eqb b 58 ≡ false)
ended b e =
    let p = or_false (is_plain b || eqb b 37 || eqb b 47) (eqb b 58) e in
    let q = or_false (is_plain b || eqb b 37) (eqb b 47) p.0 in
    let r = or_false (is_plain b) (eqb b 37) q.0 in
    (r.0, r.1, q.1, p.1)

ends_stop : (rest : List ℕ) → Ends rest → Stops rest
ends_stop [] e = tt
ends_stop (b ∷ rest) e = let p = ended b e in rw (p.0, p.1) refl

ends_steps : (rest : List ℕ) → Ends rest → step_at rest ≡ None
unfolding step_at
ends_steps [] e = refl
ends_steps (b ∷ rest) e = let p = ended b e in cond-false _ _ _ p.2

comp_none : (rest : List ℕ) → Ends rest → comp_at rest ≡ None
unfolding comp_at
comp_none [] e = refl
comp_none (b ∷ rest) e =
    let p = ended b e in
    let none : byte_at (b ∷ rest) ≡ None = stops_none (b ∷ rest) (ends_stop (b ∷ rest) e) in
    let d = first_no_dot b rest p.1 in
    cond-false _ _ _ p.3 ∙ ap (λ (o : Option (List ℕ × List ℕ)). named Text o) (name_at-other (b ∷ rest) d ∙ ap undotted (many-end byte_at 255 (b ∷ rest) none))

root_again : (rest : List ℕ) → Ends rest → path_at (path_text [] ++ rest) ≡ Some ([], rest)
unfolding path_at path_text step_at
root_again rest e =
    let left : List ℕ = take 1023 rest in
    let none : step_at (47 ∷ left) ≡ None = comp_none left (ends_take 1023 rest e) in
    ap (λ (f : List NameText × List ℕ). Some (path_of (47 ∷ rest) f)) (many-end step_at 512 (47 ∷ left) none)

name_long : (bytes : List ℕ) → IsNameBytes bytes → 0 < length (name_text bytes)
name_long bytes is =
    elim (name_text bytes) as (λ t. name_text bytes ≡ t → 0 < length t) [
      | [] ↦ λ e. let n : name_at (name_text bytes) ≡ None = ap name_at e ∙ nothing_named in let a = name_again bytes [] is tt in let b : name_at (name_text bytes) ≡ Some (bytes, []) = ap name_at (sym (append-nil (name_text bytes))) ∙ a in absurd cc
      | b ∷ t ↦ λ e. omega arith
    ] refl

-- each name takes at least two bytes
pub two_bytes : (names : List NameText) → AllByRecursion IsName names → length names + length names ≤ length (flat_map step_text names)
two_bytes [] all = omega arith
two_bytes (n ∷ ns) all = omega (arith, length-append (step_text n) (flat_map step_text ns), two_bytes ns all.1, name_long n.bytes all.0, length-append (mark n.kind) (name_text n.bytes))

pub path_again : (path : List NameText) (rest : List ℕ) → IsPath path → Ends rest → path_at (path_text path ++ rest) ≡ Some (path, rest)
path_again [] rest is e = root_again rest e
path_again (n ∷ ns) rest is e =
    let s : List ℕ = flat_map step_text (n ∷ ns) in
    let text : List ℕ = s ++ rest in
    let left : List ℕ = take (1024 - length s) rest in
    let short : length s ≤ 1024 = rw (path_text-more n ns) at is.short in
    let few = two_bytes (n ∷ ns) is.names in
    let room : 512 ≡ length (n ∷ ns) + (512 - length (n ∷ ns)) = omega arith in
    let all : 1024 ≡ length s + (1024 - length s) = omega arith in
    let window : take 1024 text ≡ s ++ left = ap (λ (i : ℕ). take i text) all ∙ take-append-add s rest (1024 - length s) in
    let e-left = ends_take (1024 - length s) rest e in
    let names : names_at 512 (s ++ left) ≡ (n ∷ ns, left) =
    names_again (n ∷ ns) 512 (512 - length (n ∷ ns)) left is.names room (ends_stop left e-left)
    ∙ (ap (λ (f : List NameText × List ℕ). ahead (n ∷ ns) f) (many-end step_at (512 - length (n ∷ ns)) left (ends_steps left e-left))
    ∙ ap (λ (v : List NameText). (v, left)) (append-nil (n ∷ ns))) in
    let k : length (s ++ left) - length left ≡ length s = omega (arith, length-append s left) in
    ap path_at (ap (λ (v : List ℕ). v ++ rest) (path_text-more n ns))
    ∙ (path_is text (s ++ left) left (n ∷ ns) (omega arith) refl (sym window) names (omega arith)
    ∙ ap (λ (v : List ℕ). Some (n ∷ ns, v)) (ap (λ (i : ℕ). drop i text) k ∙ drop_at s rest (length s) refl))
