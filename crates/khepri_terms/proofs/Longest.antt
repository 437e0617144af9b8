-- What is read is the longest spelling.
use Rattle.std.proofs.Common.{◌≡◌, ℕ, ◌+◌, ◌-◌, ◌<◌, ◌≤◌, eqb, List, [], ◌∷◌, ◌++◌, length, take, refl, sym, ap, subst, ◌∙◌, append_assoc, arith, Some, None}
use Rattle.std.proofs.lemmas.List.{length-append}
use Rattle.std.proofs.Math.Seq.{take-append-add}
use Rattle.std.specs.List.{flat_map, AllByRecursion}
use Rattle.khepri_terms.specs.Terms.{NameText}
use Rattle.khepri_terms.specs.declared.rec.Field.{Field}
use Rattle.khepri_terms.specs.Many.{onto}
use Rattle.khepri_terms.specs.Bytes.{is_plain}
use Rattle.khepri_terms.specs.Names.{IsName, comp_text, Stops}
use Rattle.khepri_terms.specs.Paths.{step_text, path_text, IsPath, step_at, names_at, path_of, path_at, LongestPath, BeginsNoPath}
use Rattle.khepri_terms.specs.Records.{rec_at, OnlyRec, BeginsNoRec}
use Rattle.khepri_terms.proofs.Cases.{guard_some, some_is, some_not_none}
use Rattle.khepri_terms.proofs.Reading.{many-more}
use Rattle.khepri_terms.proofs.NamesLaws.{comp_more}
use Rattle.khepri_terms.proofs.PathsLaws.{step_again, names_take, names_within, path_text-more, path_text-root, path_takes, two_bytes}
use Rattle.khepri_terms.proofs.RecordsLaws.{rec_takes, rec_again}

step_more : (n : NameText) (rest : List ℕ) → IsName n → (x : NameText × List ℕ) × (step_at (step_text n ++ rest) ≡ Some x) × (length x.1 ≤ length rest)
unfolding step_at
step_more n rest is = comp_more n rest is

slash_stops : (n : NameText) (rest : List ℕ) → Stops (step_text n ++ rest)
unfolding is_plain
slash_stops n rest = refl

-- the reader comes at least as far as any spelled front
names_front : (names : List NameText) (m : ℕ) (rest : List ℕ) → AllByRecursion IsName names → length names ≤ m → length (names_at m (flat_map step_text names ++ rest)).1 ≤ length rest
names_front [] m rest all le = names_within m rest
names_front (n ∷ []) m rest all le =
    let s = step_more n rest all.0 in
    let text-is : flat_map step_text (n ∷ []) ++ rest ≡ step_text n ++ rest = append_assoc (step_text n) [] rest in
    let more : names_at m (step_text n ++ rest) ≡ onto s.0.0 (names_at (m - 1) s.0.1) = many-more step_at m (m - 1) s.0.0 (step_text n ++ rest) s.0.1 (omega arith) s.1 in
    let e : names_at m (flat_map step_text (n ∷ []) ++ rest) ≡ onto s.0.0 (names_at (m - 1) s.0.1) = ap (names_at m) text-is ∙ more in
    let le-rest = names_within (m - 1) s.0.1 in
    subst (λ (f : List NameText × List ℕ). length f.1 ≤ length rest) (sym e) (omega (arith, s.2))
names_front (n ∷ k ∷ ns) m rest all le =
    let later : List ℕ = flat_map step_text (k ∷ ns) ++ rest in
    let text-is : flat_map step_text (n ∷ k ∷ ns) ++ rest ≡ step_text n ++ later = append_assoc (step_text n) (flat_map step_text (k ∷ ns)) rest in
    let stops : Stops later = subst Stops (sym (append_assoc (step_text k) (flat_map step_text ns) rest)) (slash_stops k (flat_map step_text ns ++ rest)) in
    let more : names_at m (step_text n ++ later) ≡ onto n (names_at (m - 1) later) = many-more step_at m (m - 1) n (step_text n ++ later) later (omega arith) (step_again n later all.0 stops) in
    let e : names_at m (flat_map step_text (n ∷ k ∷ ns) ++ rest) ≡ onto n (names_at (m - 1) later) = ap (names_at m) text-is ∙ more in
    subst (λ (f : List NameText × List ℕ). length f.1 ≤ length rest) (sym e) (names_front (k ∷ ns) (m - 1) rest all.1 (omega arith))

path_long : (path : List NameText) → 0 < length (path_text path)
path_long [] = rw path_text-root (omega arith)
path_long (n ∷ ns) = rw (path_text-more n ns) (omega arith)

-- where more than nothing was taken, the path has all of it
of_taken : (text : List ℕ) (found : List NameText × List ℕ) (len : ℕ) → 0 < len → len ≤ length (flat_map step_text found.0) → len ≤ length (path_text (path_of text found).0)
of_taken text ([], rest) len some le = absurd (omega arith)
of_taken text (n ∷ ns, rest) len some le = rw (path_text-more n ns) le

front_is_shorter : (text : List ℕ) (other : List NameText) (after : List ℕ) → IsPath other → text ≡ path_text other ++ after → length (path_text other) ≤ length (path_text (path_of text (names_at 512 (take 1024 text))).0)
front_is_shorter text [] after is e = subst (λ (t : List ℕ). length t ≤ length (path_text (path_of text (names_at 512 (take 1024 text))).0)) (sym path_text-root) (path_long (path_of text (names_at 512 (take 1024 text))).0)
front_is_shorter text (n ∷ ns) after is e =
    let s : List ℕ = flat_map step_text (n ∷ ns) in
    let short : length s ≤ 1024 = rw (path_text-more n ns) at is.short in
    let left : List ℕ = take (1024 - length s) after in
    let all : 1024 ≡ length s + (1024 - length s) = omega arith in
    let text-is : text ≡ s ++ after = e ∙ ap (λ (t : List ℕ). t ++ after) (path_text-more n ns) in
    let window : take 1024 text ≡ s ++ left = ap (take 1024) text-is ∙ (ap (λ (i : ℕ). take i (s ++ after)) all ∙ take-append-add s after (1024 - length s)) in
    let few = two_bytes (n ∷ ns) is.names in
    let front : length (names_at 512 (s ++ left)).1 ≤ length left = names_front (n ∷ ns) 512 left is.names (omega arith) in
    let found : List NameText × List ℕ = names_at 512 (take 1024 text) in
    let front-is : length found.1 ≤ length left = subst (λ (w : List ℕ). length (names_at 512 w).1 ≤ length left) (sym window) front in
    let t = names_take 512 (take 1024 text) in
    let le : length s ≤ length (flat_map step_text found.0) = omega (arith, ap length t.parts, ap length window, length-append s left, length-append (flat_map step_text found.0) found.1) in
    rw (path_text-more n ns) (of_taken text found (length s) (omega arith) le)

path_is_found : (b : ℕ) (text : List ℕ) (x : List NameText × List ℕ) → path_at (b ∷ text) ≡ Some x → path_of (b ∷ text) (names_at 512 (take 1024 (b ∷ text))) ≡ x
unfolding path_at
path_is_found b text x e = some_is (path_of (b ∷ text) (names_at 512 (take 1024 (b ∷ text)))) x (guard_some (eqb b 47) (Some (path_of (b ∷ text) (names_at 512 (take 1024 (b ∷ text))))) x e).1

nothing_begins : path_at [] ≡ None
unfolding path_at
nothing_begins = refl

-- no longer front of the text is a path's spelling
path_longest : (text : List ℕ) (x : List NameText × List ℕ) → path_at text ≡ Some x → (other : List NameText) (after : List ℕ) → IsPath other → text ≡ path_text other ++ after → length (path_text other) ≤ length (path_text x.0)
path_longest [] x e other after is o = let n = nothing_begins in absurd cc
path_longest (b ∷ text) x e other after is o =
    subst (λ (y : List NameText × List ℕ). length (path_text other) ≤ length (path_text y.0)) (path_is_found b text x e) (front_is_shorter (b ∷ text) other after is o)

pub longest_is : (text : List ℕ) (path : List NameText) (rest : List ℕ) → path_at text ≡ Some (path, rest) → LongestPath text path rest
longest_is text path rest e =
    let t = path_takes text (path, rest) e in
    record { parts = t.0; is = t.1; longest = path_longest text (path, rest) e }

slash_begins : (text : List ℕ) → path_at (47 ∷ text) ≡ Some (path_of (47 ∷ text) (names_at 512 (take 1024 (47 ∷ text))))
unfolding path_at
slash_begins text = refl

first_slash : (path : List NameText) → (t : List ℕ) × (path_text path ≡ 47 ∷ t)
first_slash [] = ([], path_text-root)
first_slash (n ∷ ns) = (comp_text n ++ flat_map step_text ns, path_text-more n ns)

pub no_path_is : (text : List ℕ) → path_at text ≡ None → BeginsNoPath text
no_path_is text none = λ path rest is e.
    let f = first_slash path in
    let text-is : text ≡ 47 ∷ (f.0 ++ rest) = e ∙ ap (λ (t : List ℕ). t ++ rest) f.1 in
    let some = ap path_at text-is ∙ slash_begins (f.0 ++ rest) in
    let both : Some (path_of (47 ∷ (f.0 ++ rest)) (names_at 512 (take 1024 (47 ∷ (f.0 ++ rest))))) ≡ None = sym some ∙ none in
    absurd (some_not_none (path_of (47 ∷ (f.0 ++ rest)) (names_at 512 (take 1024 (47 ∷ (f.0 ++ rest))))) both)

pub only_is : (text : List ℕ) (fs : List Field) (rest : List ℕ) → rec_at text ≡ Some (fs, rest) → OnlyRec text fs rest
only_is text fs rest e =
    let t = rec_takes text (fs, rest) e in
    record {
      parts = t.0;
      is = t.1;
      only = λ others after is o.
          let again : Some (others, after) ≡ Some (fs, rest) = sym (ap rec_at o ∙ rec_again others after is) ∙ e in
          let same : (others, after) ≡ (fs, rest) = some_is (others, after) (fs, rest) again in
          (ap (λ (y : List Field × List ℕ). y.0) same, ap (λ (y : List Field × List ℕ). y.1) same);
    }

pub no_rec_is : (text : List ℕ) → rec_at text ≡ None → BeginsNoRec text
no_rec_is text none = λ fs rest is e.
    absurd (some_not_none (fs, rest) (sym (ap rec_at e ∙ rec_again fs rest is) ∙ none))
