-- What is read of watches is spelled so, and what is spelled so is read.
use Rattle.std.proofs.Common.{◌≡◌, ℕ, ◌-◌, ◌≤◌, List, [], ◌∷◌, ◌++◌, length, refl, sym, ap, subst, ◌∙◌, append_assoc, arith, Option, Some, None, codes}
use Rattle.std.specs.List.{flat_map, AllByRecursion}
use Rattle.std.specs.Cmp.Lexicographic.{same_text}
use Rattle.std.proofs.lemmas.List.{append-nil}
use Rattle.khepri_terms.specs.Terms.{NameText}
use Rattle.khepri_terms.specs.Bytes.{is_plain}
use Rattle.khepri_terms.specs.Many.{many, ◌>>=◌}
use Rattle.khepri_terms.specs.Paths.{path_text, path_at, IsPath}
use Rattle.khepri_terms.proofs.Cases.{bind_some, some_is}
use Rattle.khepri_terms.proofs.PathsLaws.{path_takes, path_again}
use Rattle.khepri_terms.proofs.Reading.{Took, ahead, many-end, many_takes, many_again}
use Rattle.khepri_types.specs.declared.condition.Condition.{Condition}
use Rattle.khepri_types.specs.declared.limits.TheConstants.{MAX_WATCHES}
use Rattle.khepri_types.specs.declared.watch.Watch.{Watch}
use Rattle.khepri_types.specs.declared.watch.Watching.{Watching}
use Rattle.khepri_types.specs.declared.watch.Watching.TheVariants.{Stay, Free, While}
use Rattle.khepri_types.specs.ConditionTexts.{condition_text, IsCondition}
use Rattle.khepri_types.specs.Reading.{asked_at, watch_at, whole_watches, spelled_watching}
use Rattle.khepri_types.specs.ReadingConditions.{after_byte, condition_at}
use Rattle.khepri_types.specs.Spelled.{IsWatch, IsWatching}
use Rattle.khepri_types.specs.Texts.{watch_text, watching_text}
use Rattle.khepri_types.specs.Words.{is_word, after_word}
use Rattle.khepri_types.proofs.PatternSpelling.{condition_takes, condition_again}
use Rattle.khepri_types.proofs.Word.{if_read, after_word-takes, after_byte-takes}

-- ---- a path and a condition

-- the text begins with the spelling of this path and this condition
abbrev pub SpellsAsked : List ℕ → List NameText × Condition × List ℕ → Type 0
SpellsAsked text x = (text ≡ path_text x.0 ++ 32 ∷ (condition_text x.1 ++ x.2)) × (IsPath x.0 × IsCondition x.1)

pub asked_takes : (text : List ℕ) (x : List NameText × Condition × List ℕ) → asked_at text ≡ Some x → SpellsAsked text x
unfolding asked_at
asked_takes text x e =
    let p = bind_some (path_at text) (λ path. after_byte 32 path.1 >>= λ t. condition_at t >>= λ cond. Some (path.0, cond.0, cond.1)) x e in
    let s = bind_some (after_byte 32 p.0.1) (λ t. condition_at t >>= λ cond. Some (p.0.0, cond.0, cond.1)) x p.2 in
    let c = bind_some (condition_at s.0) (λ cond. Some (p.0.0, cond.0, cond.1)) x s.2 in
    let path = path_takes text p.0 p.1 in
    let found = condition_takes s.0 c.0 c.1 in
    subst (SpellsAsked text) (some_is (p.0.0, c.0.0, c.0.1) x c.2)
    (path.0 ∙ ap (λ (t : List ℕ). path_text p.0.0 ++ t) (after_byte-takes 32 p.0.1 s.0 s.1 ∙ ap (λ (t : List ℕ). 32 ∷ t) found.0), (path.1, found.1))

pub asked_again : (p : List NameText) (v : Condition) (rest : List ℕ) → IsPath p → IsCondition v → asked_at (path_text p ++ 32 ∷ (condition_text v ++ rest)) ≡ Some (p, v, rest)
unfolding asked_at is_plain after_byte
asked_again p v rest is-path is-condition =
    ap (λ (o : Option (List NameText × List ℕ)). o >>= λ path. after_byte 32 path.1 >>= λ t. condition_at t >>= λ cond. Some (path.0, cond.0, cond.1)) (path_again p (32 ∷ (condition_text v ++ rest)) is-path refl)
    ∙ ap (λ (o : Option (Condition × List ℕ)). o >>= λ cond. Some (p, cond.0, cond.1)) (condition_again v rest is-condition)

-- ---- one watch

watch_parts : (target : List NameText) (c : Condition) (rest : List ℕ)
    → codes " while " ++ path_text target ++ 32 ∷ condition_text c ++ rest ≡ codes " while " ++ (path_text target ++ 32 ∷ (condition_text c ++ rest))
watch_parts target c rest =
    append_assoc (codes " while " ++ path_text target) (32 ∷ condition_text c) rest ∙ append_assoc (codes " while ") (path_text target) (32 ∷ (condition_text c ++ rest))

pub watch_takes : (text : List ℕ) (x : Watch × List ℕ) → watch_at text ≡ Some x → (text ≡ watch_text x.0 ++ x.1) × IsWatch x.0
unfolding watch_at watch_text
watch_takes text x e =
    let a = bind_some (after_word (codes " while ") text) (λ t. asked_at t >>= λ asked. Some (record { target = asked.0; cond = asked.1 }, asked.2)) x e in
    let b = bind_some (asked_at a.0) (λ asked. Some (record { target = asked.0; cond = asked.1 }, asked.2)) x a.2 in
    let t = asked_takes a.0 b.0 b.1 in
    let whole : text ≡ codes " while " ++ (path_text b.0.0 ++ 32 ∷ (condition_text b.0.1 ++ b.0.2)) = after_word-takes (codes " while ") text a.0 a.1 ∙ ap (λ (r : List ℕ). codes " while " ++ r) t.0 in
    subst (λ (y : Watch × List ℕ). (text ≡ watch_text y.0 ++ y.1) × IsWatch y.0) (some_is (record { target = b.0.0; cond = b.0.1 }, b.0.2) x b.2)
    (whole ∙ sym (watch_parts b.0.0 b.0.1 b.0.2), record { target = t.1.0; cond = t.1.1 })

-- behind the word: the path and the condition
behind_word : (text : List ℕ) → watch_at (codes " while " ++ text) ≡ (asked_at text >>= λ asked. Some (record { target = asked.0; cond = asked.1 }, asked.2))
unfolding watch_at after_word
behind_word text = refl

pub watch_again : (w : Watch) (rest : List ℕ) → IsWatch w → watch_at (watch_text w ++ rest) ≡ Some (w, rest)
unfolding watch_text
watch_again w rest is =
    ap watch_at (watch_parts w.target w.cond rest)
    ∙ (behind_word (path_text w.target ++ 32 ∷ (condition_text w.cond ++ rest))
    ∙ ap (λ (o : Option (List NameText × Condition × List ℕ)). o >>= λ asked. Some (record { target = asked.0; cond = asked.1 }, asked.2)) (asked_again w.target w.cond rest is.target is.cond))

-- ---- what is said of watches

-- the text says this of watches
abbrev SpellsWatching : List ℕ → Watching → Type 0
SpellsWatching text w = (text ≡ watching_text w) × IsWatching w

whole_is : (text : List ℕ) (found : List Watch × List ℕ) (w : Watching) → Took watch_text IsWatch MAX_WATCHES text found → whole_watches found ≡ Some w → SpellsWatching text w
unfolding watching_text
whole_is text ([], rest) w took e = absurd cc
whole_is text (u ∷ watches, []) w took e =
    subst (SpellsWatching text) (some_is (While (u ∷ watches)) w e) (took.parts ∙ append-nil (flat_map watch_text (u ∷ watches)), record { some = omega arith; few = took.few; each = took.all })
whole_is text (u ∷ watches, b ∷ rest) w took e = absurd cc

pub spelled_watching-takes : (text : List ℕ) (w : Watching) → spelled_watching text ≡ Some w → SpellsWatching text w
unfolding spelled_watching watching_text
spelled_watching-takes [] w e = subst (SpellsWatching []) (some_is Stay w e) (refl, tt)
spelled_watching-takes (b ∷ text) w e =
    if_read {P = SpellsWatching (b ∷ text) w} (is_word (codes " free") (b ∷ text)) (Some Free) (whole_watches (many watch_at MAX_WATCHES (b ∷ text))) w e
    (λ is h. subst (SpellsWatching (b ∷ text)) (some_is Free w h) (same_text (b ∷ text) (codes " free") (sym is), tt))
    (λ h. whole_is (b ∷ text) (many watch_at MAX_WATCHES (b ∷ text)) w (many_takes watch_at watch_text IsWatch watch_takes MAX_WATCHES (b ∷ text)) h)

-- a watch is no ` free`
not_free : (w : Watch) (rest : List ℕ) → spelled_watching (watch_text w ++ rest) ≡ whole_watches (many watch_at MAX_WATCHES (watch_text w ++ rest))
unfolding spelled_watching watch_text
not_free w rest = refl

abbrev Any : List ℕ → Type 0
Any rest = Unit {0}

no_watch : watch_at [] ≡ None
unfolding watch_at after_word
no_watch = refl

none_left : (n : ℕ) → many watch_at n [] ≡ ([], [])
none_left n = many-end watch_at n [] no_watch

all_again : (watches : List Watch) → length watches ≤ MAX_WATCHES → AllByRecursion IsWatch watches → many watch_at MAX_WATCHES (flat_map watch_text watches) ≡ (watches, [])
all_again watches few all =
    ap (many watch_at MAX_WATCHES) (sym (append-nil (flat_map watch_text watches)))
    ∙ (many_again watch_at watch_text IsWatch Any (λ w rest is fine. watch_again w rest is) (λ w rest is. tt) watches MAX_WATCHES (MAX_WATCHES - length watches) [] all (omega arith) tt
    ∙ (ap (ahead watches) (none_left (MAX_WATCHES - length watches)) ∙ ap (λ (ws : List Watch). (ws, [])) (append-nil watches)))

pub spelled_watching-again : (w : Watching) → IsWatching w → spelled_watching (watching_text w) ≡ Some w
unfolding spelled_watching watching_text
spelled_watching-again Stay is = refl
spelled_watching-again Free is = refl
spelled_watching-again (While []) is = absurd (omega (arith, is.some))
spelled_watching-again (While (u ∷ watches)) is = not_free u (flat_map watch_text watches) ∙ ap whole_watches (all_again (u ∷ watches) is.few is.each)
