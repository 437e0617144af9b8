-- What is read of commands with conditions and patterns is spelled so, and what is spelled so is read.
use Rattle.std.proofs.Common.{◌≡◌, ℕ, ◌≤◌, Bool, cond, leb, List, [], ◌∷◌, ◌++◌, refl, sym, ap, subst, ◌∙◌, arith, Option, Some, None, codes, decimal}
use Rattle.std.proofs.lemmas.Bool.{leb-true, le-leb}
use Rattle.std.proofs.lemmas.List.{append-nil}
use Rattle.khepri_terms.specs.Terms.{NameText}
use Rattle.khepri_terms.specs.Bytes.{is_plain}
use Rattle.khepri_terms.specs.Many.{◌>>=◌}
use Rattle.khepri_terms.specs.Numbers.{number_at}
use Rattle.khepri_terms.specs.Paths.{path_text, IsPath}
use Rattle.khepri_terms.proofs.Cases.{bind_some, guard_some, some_is}
use Rattle.khepri_terms.proofs.NumbersLaws.{number_takes, number_again}
use Rattle.khepri_types.specs.declared.limits.TheConstants.{MAX_SHOWN_NODES}
use Rattle.khepri_types.specs.declared.command.Command.{Command}
use Rattle.khepri_types.specs.declared.command.Command.TheVariants.{Cas, Many}
use Rattle.khepri_types.specs.declared.condition.Condition.{Condition}
use Rattle.khepri_types.specs.declared.node.Payload.{Payload}
use Rattle.khepri_types.specs.declared.pattern.PatternPart.{PatternPart}
use Rattle.khepri_types.specs.declared.watch.Watching.{Watching}
use Rattle.khepri_types.specs.ConditionTexts.{condition_text, IsCondition}
use Rattle.khepri_types.specs.PatternTexts.{pattern_text, IsPattern}
use Rattle.khepri_types.specs.Reading.{asked_at, spelled_set, spelled_cas, whole_pattern, spelled_pattern, spelled_limit, limit_behind, spelled_many}
use Rattle.khepri_types.specs.ReadingConditions.{after_byte, pattern_at}
use Rattle.khepri_types.specs.ReadingNumbers.{whole_number}
use Rattle.khepri_types.specs.Spelled.{IsPayload, IsWatching, IsCommand}
use Rattle.khepri_types.specs.Texts.{payload_text, watching_text, command_text}
use Rattle.khepri_types.proofs.NumberSpelling.{joined, whole_number_is}
use Rattle.khepri_types.proofs.PatternSpelling.{pattern_takes, pattern_again}
use Rattle.khepri_types.proofs.PayloadSpelling.{set_takes, set_again}
use Rattle.khepri_types.proofs.WatchSpelling.{asked_takes, asked_again}
use Rattle.khepri_types.proofs.Word.{after_byte-takes}

-- the text is the spelling of this command
abbrev pub SpellsCommand : List ℕ → Command → Type 0
SpellsCommand text c = (text ≡ command_text c) × IsCommand c

-- ---- cas

pub cas_takes : (text : List ℕ) (c : Command) → spelled_cas text ≡ Some c → SpellsCommand (codes "cas " ++ text) c
unfolding spelled_cas command_text
cas_takes text c e =
    let a = bind_some (asked_at text) (λ asked. spelled_set asked.2 >>= λ s. Some (Cas asked.0 asked.1 s.0 s.1)) c e in
    let s = bind_some (spelled_set a.0.2) (λ s. Some (Cas a.0.0 a.0.1 s.0 s.1)) c a.2 in
    let asked = asked_takes text a.0 a.1 in
    let set = set_takes a.0.2 s.0 s.1 in
    let whole : text ≡ path_text a.0.0 ++ 32 ∷ (condition_text a.0.1 ++ 32 ∷ (payload_text s.0.0 ++ watching_text s.0.1)) =
    asked.0 ∙ ap (λ (r : List ℕ). path_text a.0.0 ++ 32 ∷ (condition_text a.0.1 ++ r)) set.0 in
    subst (SpellsCommand (codes "cas " ++ text)) (some_is (Cas a.0.0 a.0.1 s.0.0 s.0.1) c s.2)
    (ap (λ (r : List ℕ). codes "cas " ++ r) (whole ∙ sym (joined (path_text a.0.0) (32 ∷ condition_text a.0.1) (32 ∷ payload_text s.0.0) (watching_text s.0.1))), (asked.1.0, asked.1.1, set.1.0, set.1.1))

behind_asked : (p : List NameText) (v : Condition) (text : List ℕ) → IsPath p → IsCondition v → spelled_cas (path_text p ++ 32 ∷ (condition_text v ++ text)) ≡ (spelled_set text >>= λ s. Some (Cas p v s.0 s.1))
unfolding spelled_cas
behind_asked p v text is-path is-condition = ap (λ (o : Option (List NameText × Condition × List ℕ)). o >>= λ asked. spelled_set asked.2 >>= λ s. Some (Cas asked.0 asked.1 s.0 s.1)) (asked_again p v text is-path is-condition)

pub cas_again : (p : List NameText) (v : Condition) (x : Payload) (w : Watching) → IsPath p → IsCondition v → IsPayload x → IsWatching w
    → spelled_cas (path_text p ++ 32 ∷ condition_text v ++ 32 ∷ payload_text x ++ watching_text w) ≡ Some (Cas p v x w)
cas_again p v x w is-path is-condition is-payload is-watching =
    ap spelled_cas (joined (path_text p) (32 ∷ condition_text v) (32 ∷ payload_text x) (watching_text w))
    ∙ (behind_asked p v (32 ∷ (payload_text x ++ watching_text w)) is-path is-condition
    ∙ ap (λ (o : Option (Payload × Watching)). o >>= λ s. Some (Cas p v s.0 s.1)) (set_again x w is-payload is-watching))

-- ---- patterns

whole_pattern_is : (o : Option (List PatternPart × List ℕ)) (parts : List PatternPart) → whole_pattern o ≡ Some parts → o ≡ Some (parts, [])
whole_pattern_is None parts e = absurd cc
whole_pattern_is (Some (found, [])) parts e = ap (λ (r : List PatternPart). Some (r, [])) (some_is found parts e)
whole_pattern_is (Some (found, b ∷ rest)) parts e = absurd cc

pub spelled_pattern-takes : (text : List ℕ) (parts : List PatternPart) → spelled_pattern text ≡ Some parts → (text ≡ pattern_text parts) × IsPattern parts
unfolding spelled_pattern
spelled_pattern-takes text parts e =
    let t = pattern_takes text (parts, []) (whole_pattern_is (pattern_at text) parts e) in
    (t.0 ∙ append-nil (pattern_text parts), t.1)

pub spelled_pattern-again : (parts : List PatternPart) → IsPattern parts → spelled_pattern (pattern_text parts) ≡ Some parts
unfolding spelled_pattern
spelled_pattern-again parts is = ap whole_pattern (ap pattern_at (sym (append-nil (pattern_text parts))) ∙ pattern_again parts [] is tt)

-- ---- many

-- how many nodes may be asked for
abbrev IsLimit : ℕ → Type 0
IsLimit n = (1 ≤ n) × (n ≤ MAX_SHOWN_NODES)

limit_takes : (text : List ℕ) (n : ℕ) → spelled_limit text ≡ Some n → (text ≡ decimal n) × IsLimit n
unfolding spelled_limit
limit_takes text n e =
    let a = bind_some (whole_number (number_at MAX_SHOWN_NODES text)) (λ m. cond (leb 1 m) (Some m) None) n e in
    let g = guard_some (leb 1 a.0) (Some a.0) n a.2 in
    let t = number_takes MAX_SHOWN_NODES text (a.0, []) (omega arith) (omega arith) (whole_number_is (number_at MAX_SHOWN_NODES text) a.0 a.1) in
    subst (λ (m : ℕ). (text ≡ decimal m) × IsLimit m) (some_is a.0 n g.1) (t.0 ∙ append-nil (decimal a.0), (leb-true 1 a.0 g.0, t.1))

limit_again : (n : ℕ) → 1 ≤ n → n ≤ MAX_SHOWN_NODES → spelled_limit (decimal n) ≡ Some n
unfolding spelled_limit
limit_again n low high =
    let whole : whole_number (number_at MAX_SHOWN_NODES (decimal n)) ≡ Some n =
    ap whole_number (ap (number_at MAX_SHOWN_NODES) (sym (append-nil (decimal n))) ∙ number_again MAX_SHOWN_NODES n [] high (omega (arith, high)) tt) in
    ap (λ (o : Option ℕ). o >>= λ m. cond (leb 1 m) (Some m) None) whole ∙ ap (λ (t : Bool). cond t (Some n) None) (le-leb 1 n low)

behind_takes : (text : List ℕ) (n : ℕ) → limit_behind text ≡ Some n → (text ≡ 32 ∷ decimal n) × IsLimit n
unfolding limit_behind
behind_takes text n e =
    let b = bind_some (after_byte 32 text) spelled_limit n e in
    let t = limit_takes b.0 n b.2 in
    (after_byte-takes 32 text b.0 b.1 ∙ ap (λ (r : List ℕ). 32 ∷ r) t.0, t.1)

pub many_command-takes : (text : List ℕ) (c : Command) → spelled_many text ≡ Some c → SpellsCommand (codes "many " ++ text) c
unfolding spelled_many command_text
many_command-takes text c e =
    let a = bind_some (pattern_at text) (λ pattern. limit_behind pattern.1 >>= λ n. Some (Many pattern.0 n)) c e in
    let d = bind_some (limit_behind a.0.1) (λ n. Some (Many a.0.0 n)) c a.2 in
    let p = pattern_takes text a.0 a.1 in
    let n = behind_takes a.0.1 d.0 d.1 in
    subst (SpellsCommand (codes "many " ++ text)) (some_is (Many a.0.0 d.0) c d.2)
    (ap (λ (t : List ℕ). codes "many " ++ t) (p.0 ∙ ap (λ (t : List ℕ). pattern_text a.0.0 ++ t) n.0), (p.1, n.1.0, n.1.1))

behind_pattern : (parts : List PatternPart) (text : List ℕ) → IsPattern parts → spelled_many (pattern_text parts ++ 32 ∷ text) ≡ (spelled_limit text >>= λ n. Some (Many parts n))
unfolding spelled_many limit_behind after_byte is_plain
behind_pattern parts text is =
    ap (λ (o : Option (List PatternPart × List ℕ)). o >>= λ pattern. limit_behind pattern.1 >>= λ n. Some (Many pattern.0 n)) (pattern_again parts (32 ∷ text) is refl)

pub many_command-again : (parts : List PatternPart) (limit : ℕ) → IsPattern parts → 1 ≤ limit → limit ≤ MAX_SHOWN_NODES → spelled_many (pattern_text parts ++ 32 ∷ decimal limit) ≡ Some (Many parts limit)
many_command-again parts limit is low high = behind_pattern parts (decimal limit) is ∙ ap (λ (o : Option ℕ). o >>= λ n. Some (Many parts n)) (limit_again limit low high)
