-- What is read of projections, of commands on them and of reads is spelled so, and what is spelled so is read.
use Rattle.std.proofs.Common.{◌≡◌, ℕ, Bool, true, false, List, [], ◌∷◌, ◌++◌, drop, refl, sym, ap, subst, ◌∙◌, append_assoc, Option, Some, codes}
use Rattle.std.proofs.lemmas.List.{append-nil}
use Rattle.khepri_terms.specs.Bytes.{is_plain}
use Rattle.khepri_terms.specs.Many.{◌>>=◌}
use Rattle.khepri_terms.specs.Names.{comp_text, Stops}
use Rattle.khepri_terms.specs.Terms.{NameText}
use Rattle.khepri_terms.specs.declared.scalar.Scalar.{Scalar}
use Rattle.khepri_terms.proofs.Cases.{bind_some, some_is}
use Rattle.khepri_terms.proofs.NamesLaws.{comp_again}
use Rattle.khepri_types.specs.declared.pattern.PatternPart.{PatternPart}
use Rattle.khepri_types.specs.declared.projection.Origin.{Origin}
use Rattle.khepri_types.specs.declared.projection.Projection.{Projection}
use Rattle.khepri_types.specs.ConditionTexts.{IsKey}
use Rattle.khepri_types.specs.Exec.{Lookup}
use Rattle.khepri_types.specs.PatternTexts.{pattern_text, EndsPattern}
use Rattle.khepri_types.specs.ProjectionLines.{table_kind_text, projection_text, proj_text, unproj_text, lookup_text, IsProjection, IsLookup, whole, table_kind_at, table_name_at, sources_behind, pattern_behind, kind_behind, projection_at, spelled_proj, spelled_unproj, lookup_at, spelled_lookup}
use Rattle.khepri_types.specs.ProjectionTexts.{sources_text, scalars_text, keys_at, values_at, read_key_at}
use Rattle.khepri_types.specs.ReadingConditions.{after_byte, as_key, key_at, pattern_at}
use Rattle.khepri_types.specs.Words.{begins, after_word}
use Rattle.khepri_types.proofs.Asking.{key_takes}
use Rattle.khepri_types.proofs.NumberSpelling.{joined}
use Rattle.khepri_types.proofs.PatternSpelling.{pattern_takes, pattern_again}
use Rattle.khepri_types.proofs.Word.{if_read, word_takes, after_word-takes, after_byte-takes}
use Rattle.table_laws.proofs.ListLaws.{keys_takes, keys_again, values_takes, values_again, read_key_takes, read_key_again}
use Rattle.table_laws.proofs.Wholes.{whole_is}

-- ---- names and kinds

space_again : (rest : List ℕ) → after_byte 32 (32 ∷ rest) ≡ Some rest
unfolding after_byte
space_again rest = refl

key_stops : (k : NameText) (rest : List ℕ) → IsKey k → Stops rest → key_at (comp_text k ++ rest) ≡ Some (k, rest)
unfolding key_at
key_stops k rest is stop =
    ap (λ (o : Option (NameText × List ℕ)). o >>= λ n. as_key n n.0.kind) (comp_again k rest is.1 stop)
    ∙ ap (as_key (k, rest)) is.0

space_stops : (rest : List ℕ) → Stops (32 ∷ rest)
unfolding is_plain
space_stops rest = refl

table_name_takes : (text : List ℕ) (x : NameText × List ℕ) → table_name_at text ≡ Some x → (text ≡ comp_text x.0 ++ 32 ∷ x.1) × IsKey x.0
unfolding table_name_at
table_name_takes text x e =
    let k = bind_some (key_at text) (λ name. after_byte 32 name.1 >>= λ rest. Some (name.0, rest)) x e in
    let r = bind_some (after_byte 32 k.0.1) (λ rest. Some (k.0.0, rest)) x k.2 in
    let t = key_takes text k.0 k.1 in
    subst (λ (y : NameText × List ℕ). (text ≡ comp_text y.0 ++ 32 ∷ y.1) × IsKey y.0) (some_is (k.0.0, r.0) x r.2)
    (t.0 ∙ ap (λ (s : List ℕ). comp_text k.0.0 ++ s) (after_byte-takes 32 k.0.1 r.0 r.1), t.1)

table_name_again : (k : NameText) (rest : List ℕ) → IsKey k → table_name_at (comp_text k ++ 32 ∷ rest) ≡ Some (k, rest)
unfolding table_name_at
table_name_again k rest is =
    ap (λ (o : Option (NameText × List ℕ)). o >>= λ name. after_byte 32 name.1 >>= λ rest. Some (name.0, rest)) (key_stops k (32 ∷ rest) is (space_stops rest))
    ∙ ap (λ (o : Option (List ℕ)). o >>= λ rest. Some (k, rest)) (space_again rest)

kind_takes : (text : List ℕ) (x : Bool × List ℕ) → table_kind_at text ≡ Some x → text ≡ table_kind_text x.0 ++ x.1
unfolding table_kind_at table_kind_text
kind_takes text x e =
    if_read (begins (codes "bag") text) _ _ x e
    (λ h e. subst (λ (y : Bool × List ℕ). text ≡ table_kind_text y.0 ++ y.1) (some_is (true, drop 3 text) x e) (word_takes (codes "bag") text h))
    (λ e. if_read (begins (codes "set") text) _ _ x e
    (λ h e. subst (λ (y : Bool × List ℕ). text ≡ table_kind_text y.0 ++ y.1) (some_is (false, drop 3 text) x e) (word_takes (codes "set") text h))
    (λ e. absurd cc))

kind_again : (bag : Bool) (rest : List ℕ) → table_kind_at (table_kind_text bag ++ rest) ≡ Some (bag, rest)
unfolding table_kind_at table_kind_text
kind_again true rest = refl
kind_again false rest = refl

-- ---- projections

-- a projection's text in its parts
in_parts : (J : Projection) (rest : List ℕ)
    → projection_text J ++ rest ≡ comp_text J.name ++ 32 ∷ (table_kind_text J.bag ++ 32 ∷ (pattern_text J.pattern ++ 32 ∷ (sources_text J.keys ++ 32 ∷ (sources_text J.values ++ rest))))
unfolding projection_text
in_parts J rest =
    let values : List ℕ = sources_text J.values ++ rest in
    let head : List ℕ = comp_text J.name ++ 32 ∷ table_kind_text J.bag ++ 32 ∷ pattern_text J.pattern in
    append_assoc (head ++ 32 ∷ sources_text J.keys) (32 ∷ sources_text J.values) rest
    ∙ (append_assoc head (32 ∷ sources_text J.keys) (32 ∷ values)
    ∙ joined (comp_text J.name) (32 ∷ table_kind_text J.bag) (32 ∷ pattern_text J.pattern) (32 ∷ (sources_text J.keys ++ 32 ∷ values)))

-- the text begins with the spelling of this projection
abbrev pub SpellsProjection : List ℕ → Projection × List ℕ → Type 0
SpellsProjection text x = (text ≡ projection_text x.0 ++ x.1) × IsProjection x.0

-- a projection of these parts
abbrev of_parts : NameText → Bool → List PatternPart → List Origin → List Origin × List ℕ → Option (Projection × List ℕ)
of_parts name bag pattern keys values = Some (record { name = name; bag = bag; pattern = pattern; keys = keys; values = values.0 }, values.1)

pub projection_takes : (text : List ℕ) (x : Projection × List ℕ) → projection_at text ≡ Some x → SpellsProjection text x
unfolding projection_at kind_behind pattern_behind sources_behind
projection_takes text x e =
    let n = bind_some (table_name_at text) (λ name. kind_behind name.0 name.1) x e in
    let k = bind_some (table_kind_at n.0.1) (λ kind. after_byte 32 kind.1 >>= λ t. pattern_behind n.0.0 kind.0 t) x n.2 in
    let a = bind_some (after_byte 32 k.0.1) (λ t. pattern_behind n.0.0 k.0.0 t) x k.2 in
    let p = bind_some (pattern_at a.0) (λ pattern. after_byte 32 pattern.1 >>= λ t. sources_behind n.0.0 k.0.0 pattern.0 t) x a.2 in
    let b = bind_some (after_byte 32 p.0.1) (λ t. sources_behind n.0.0 k.0.0 p.0.0 t) x p.2 in
    let ks = bind_some (keys_at b.0) (λ keys. after_byte 32 keys.1 >>= λ t. values_at t >>= λ values. of_parts n.0.0 k.0.0 p.0.0 keys.0 values) x b.2 in
    let c = bind_some (after_byte 32 ks.0.1) (λ t. values_at t >>= λ values. of_parts n.0.0 k.0.0 p.0.0 ks.0.0 values) x ks.2 in
    let vs = bind_some (values_at c.0) (λ values. of_parts n.0.0 k.0.0 p.0.0 ks.0.0 values) x c.2 in
    let J : Projection = record { name = n.0.0; bag = k.0.0; pattern = p.0.0; keys = ks.0.0; values = vs.0.0 } in
    let name = table_name_takes text n.0 n.1 in
    let kind = kind_takes n.0.1 k.0 k.1 in
    let pattern = pattern_takes a.0 p.0 p.1 in
    let keys = keys_takes b.0 ks.0 ks.1 in
    let values = values_takes c.0 vs.0 vs.1 in
    let from-keys : b.0 ≡ sources_text ks.0.0 ++ 32 ∷ (sources_text vs.0.0 ++ vs.0.1) =
    keys.0 ∙ ap (λ (t : List ℕ). sources_text ks.0.0 ++ t) (after_byte-takes 32 ks.0.1 c.0 c.1 ∙ ap (λ (t : List ℕ). 32 ∷ t) values.0) in
    let from-pattern : a.0 ≡ pattern_text p.0.0 ++ 32 ∷ (sources_text ks.0.0 ++ 32 ∷ (sources_text vs.0.0 ++ vs.0.1)) =
    pattern.0 ∙ ap (λ (t : List ℕ). pattern_text p.0.0 ++ t) (after_byte-takes 32 p.0.1 b.0 b.1 ∙ ap (λ (t : List ℕ). 32 ∷ t) from-keys) in
    let from-kind : n.0.1 ≡ table_kind_text k.0.0 ++ 32 ∷ (pattern_text p.0.0 ++ 32 ∷ (sources_text ks.0.0 ++ 32 ∷ (sources_text vs.0.0 ++ vs.0.1))) =
    kind ∙ ap (λ (t : List ℕ). table_kind_text k.0.0 ++ t) (after_byte-takes 32 k.0.1 a.0 a.1 ∙ ap (λ (t : List ℕ). 32 ∷ t) from-pattern) in
    subst (SpellsProjection text) (some_is (J, vs.0.1) x vs.2) (
      name.0 ∙ (ap (λ (t : List ℕ). comp_text n.0.0 ++ 32 ∷ t) from-kind ∙ sym (in_parts J vs.0.1)),
      record { name = name.1; pattern = pattern.1; keys = keys.1; values = values.1 },
    )

space_ends : (rest : List ℕ) → EndsPattern (32 ∷ rest)
unfolding is_plain
space_ends rest = refl

sources_again : (J : Projection) (rest : List ℕ) → IsProjection J → sources_behind J.name J.bag J.pattern (sources_text J.keys ++ 32 ∷ (sources_text J.values ++ rest)) ≡ Some (J, rest)
unfolding sources_behind
sources_again J rest is =
    let later : List ℕ = sources_text J.values ++ rest in
    ap (λ (o : Option (List Origin × List ℕ)). o >>= λ keys. after_byte 32 keys.1 >>= λ t. values_at t >>= λ values. of_parts J.name J.bag J.pattern keys.0 values) (keys_again J.keys (32 ∷ later) is.keys)
    ∙ (ap (λ (o : Option (List ℕ)). o >>= λ t. values_at t >>= λ values. of_parts J.name J.bag J.pattern J.keys values) (space_again later)
    ∙ ap (λ (o : Option (List Origin × List ℕ)). o >>= λ values. of_parts J.name J.bag J.pattern J.keys values) (values_again J.values rest is.values))

from_pattern_again : (J : Projection) (rest : List ℕ) → IsProjection J → pattern_behind J.name J.bag (pattern_text J.pattern ++ 32 ∷ (sources_text J.keys ++ 32 ∷ (sources_text J.values ++ rest))) ≡ Some (J, rest)
unfolding pattern_behind
from_pattern_again J rest is =
    let later : List ℕ = sources_text J.keys ++ 32 ∷ (sources_text J.values ++ rest) in
    ap (λ (o : Option (List PatternPart × List ℕ)). o >>= λ pattern. after_byte 32 pattern.1 >>= λ t. sources_behind J.name J.bag pattern.0 t) (pattern_again J.pattern (32 ∷ later) is.pattern (space_ends later))
    ∙ (ap (λ (o : Option (List ℕ)). o >>= λ t. sources_behind J.name J.bag J.pattern t) (space_again later)
    ∙ sources_again J rest is)

from_kind_again : (J : Projection) (rest : List ℕ) → IsProjection J
    → kind_behind J.name (table_kind_text J.bag ++ 32 ∷ (pattern_text J.pattern ++ 32 ∷ (sources_text J.keys ++ 32 ∷ (sources_text J.values ++ rest)))) ≡ Some (J, rest)
unfolding kind_behind
from_kind_again J rest is =
    let later : List ℕ = pattern_text J.pattern ++ 32 ∷ (sources_text J.keys ++ 32 ∷ (sources_text J.values ++ rest)) in
    ap (λ (o : Option (Bool × List ℕ)). o >>= λ kind. after_byte 32 kind.1 >>= λ t. pattern_behind J.name kind.0 t) (kind_again J.bag (32 ∷ later))
    ∙ (ap (λ (o : Option (List ℕ)). o >>= λ t. pattern_behind J.name J.bag t) (space_again later)
    ∙ from_pattern_again J rest is)

pub projection_again : (J : Projection) (rest : List ℕ) → IsProjection J → projection_at (projection_text J ++ rest) ≡ Some (J, rest)
unfolding projection_at
projection_again J rest is =
    let later : List ℕ = table_kind_text J.bag ++ 32 ∷ (pattern_text J.pattern ++ 32 ∷ (sources_text J.keys ++ 32 ∷ (sources_text J.values ++ rest))) in
    ap (λ (t : List ℕ). table_name_at t >>= λ name. kind_behind name.0 name.1) (in_parts J rest)
    ∙ (ap (λ (o : Option (NameText × List ℕ)). o >>= λ name. kind_behind name.0 name.1) (table_name_again J.name later is.name)
    ∙ from_kind_again J rest is)

-- ---- commands

-- a word, and a text that is read whole behind it
word_whole : {X : Type 0} (word : List ℕ) (at : List ℕ → Option (X × List ℕ)) (text : List ℕ) (x : X) → (after_word word text >>= λ t. whole (at t)) ≡ Some x
    → (t : List ℕ) × (text ≡ word ++ t) × (at t ≡ Some (x, []))
word_whole word at text x e =
    let t = bind_some (after_word word text) (λ t. whole (at t)) x e in
    (t.0, after_word-takes word text t.0 t.1, whole_is (at t.0) x t.2)

pub proj_takes : (text : List ℕ) (J : Projection) → spelled_proj text ≡ Some J → (text ≡ proj_text J) × IsProjection J
unfolding spelled_proj proj_text
proj_takes text J e =
    let w = word_whole (codes "proj ") projection_at text J e in
    let t = projection_takes w.0 (J, []) w.2 in
    (w.1 ∙ ap (λ (t : List ℕ). codes "proj " ++ t) (t.0 ∙ append-nil (projection_text J)), t.1)

whole_projection : (J : Projection) → IsProjection J → whole (projection_at (projection_text J)) ≡ Some J
whole_projection J is = ap (λ (t : List ℕ). whole (projection_at t)) (sym (append-nil (projection_text J))) ∙ ap (λ (o : Option (Projection × List ℕ)). whole o) (projection_again J [] is)

pub proj_again : (J : Projection) → IsProjection J → spelled_proj (proj_text J) ≡ Some J
unfolding spelled_proj proj_text after_word
proj_again J is = whole_projection J is

pub unproj_takes : (text : List ℕ) (n : NameText) → spelled_unproj text ≡ Some n → (text ≡ unproj_text n) × IsKey n
unfolding spelled_unproj unproj_text
unproj_takes text n e =
    let w = word_whole (codes "unproj ") key_at text n e in
    let t = key_takes w.0 (n, []) w.2 in
    (w.1 ∙ ap (λ (t : List ℕ). codes "unproj " ++ t) (t.0 ∙ append-nil (comp_text n)), t.1)

whole_name : (n : NameText) → IsKey n → whole (key_at (comp_text n)) ≡ Some n
whole_name n is = ap (λ (t : List ℕ). whole (key_at t)) (sym (append-nil (comp_text n))) ∙ ap (λ (o : Option (NameText × List ℕ)). whole o) (key_stops n [] is tt)

pub unproj_again : (n : NameText) → IsKey n → spelled_unproj (unproj_text n) ≡ Some n
unfolding spelled_unproj unproj_text after_word
unproj_again n is = whole_name n is

-- ---- reads

-- the text begins with the spelling of this read
abbrev SpellsLookup : List ℕ → Lookup × List ℕ → Type 0
SpellsLookup text x = (text ≡ lookup_text x.0 ++ x.1) × IsLookup x.0

asked_parts : (q : Lookup) (rest : List ℕ) → lookup_text q ++ rest ≡ codes "~ " ++ (comp_text q.name ++ 32 ∷ (scalars_text q.key ++ rest))
unfolding lookup_text
asked_parts q rest = simp append_assoc refl

abbrev asking : NameText → List Scalar × List ℕ → Option (Lookup × List ℕ)
asking name key = Some (record { name = name; key = key.0 }, key.1)

lookup_takes : (text : List ℕ) (x : Lookup × List ℕ) → lookup_at text ≡ Some x → SpellsLookup text x
unfolding lookup_at
lookup_takes text x e =
    let a = bind_some (after_word (codes "~ ") text) (λ t. table_name_at t >>= λ name. read_key_at name.1 >>= λ key. asking name.0 key) x e in
    let n = bind_some (table_name_at a.0) (λ name. read_key_at name.1 >>= λ key. asking name.0 key) x a.2 in
    let k = bind_some (read_key_at n.0.1) (λ key. asking n.0.0 key) x n.2 in
    let q : Lookup = record { name = n.0.0; key = k.0.0 } in
    let name = table_name_takes a.0 n.0 n.1 in
    let key = read_key_takes n.0.1 k.0 k.1 in
    subst (SpellsLookup text) (some_is (q, k.0.1) x k.2) (
      after_word-takes (codes "~ ") text a.0 a.1 ∙ (ap (λ (t : List ℕ). codes "~ " ++ t) (name.0 ∙ ap (λ (t : List ℕ). comp_text n.0.0 ++ 32 ∷ t) key.0) ∙ sym (asked_parts q k.0.1)),
      record { name = name.1; key = key.1 },
    )

behind_sign : (text : List ℕ) → lookup_at (codes "~ " ++ text) ≡ (table_name_at text >>= λ name. read_key_at name.1 >>= λ key. asking name.0 key)
unfolding lookup_at after_word
behind_sign text = refl

lookup_again : (q : Lookup) (rest : List ℕ) → IsLookup q → lookup_at (lookup_text q ++ rest) ≡ Some (q, rest)
lookup_again q rest is =
    let later : List ℕ = scalars_text q.key ++ rest in
    ap lookup_at (asked_parts q rest)
    ∙ (behind_sign (comp_text q.name ++ 32 ∷ later)
    ∙ (ap (λ (o : Option (NameText × List ℕ)). o >>= λ name. read_key_at name.1 >>= λ key. asking name.0 key) (table_name_again q.name later is.name)
    ∙ ap (λ (o : Option (List Scalar × List ℕ)). o >>= λ key. asking q.name key) (read_key_again q.key rest is.key)))

pub spelled_lookup-takes : (text : List ℕ) (q : Lookup) → spelled_lookup text ≡ Some q → (text ≡ lookup_text q) × IsLookup q
unfolding spelled_lookup
spelled_lookup-takes text q e =
    let t = lookup_takes text (q, []) (whole_is (lookup_at text) q e) in
    (t.0 ∙ append-nil (lookup_text q), t.1)

pub spelled_lookup-again : (q : Lookup) → IsLookup q → spelled_lookup (lookup_text q) ≡ Some q
unfolding spelled_lookup
spelled_lookup-again q is = ap (λ (t : List ℕ). whole (lookup_at t)) (sym (append-nil (lookup_text q))) ∙ ap (λ (o : Option (Lookup × List ℕ)). whole o) (lookup_again q [] is)
