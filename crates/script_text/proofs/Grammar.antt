-- A script is read exactly where a text begins with one.
use Rattle.std.proofs.Common.{◌≡◌, ◌+◌, ◌-◌, ◌≤◌, ◌++◌, ℕ, List, length, take, ap, ◌∙◌, arith, Some, None}
use Rattle.std.proofs.lemmas.List.{length-append, take-append-le, take_all}
use Rattle.khepri_types.specs.declared.script.Statement.{Statement}
use Rattle.khepri_types.specs.ReadingScripts.{script_at}
use Rattle.khepri_types.specs.ScriptTexts.{script_text, IsScript}
use Rattle.script_text.specs.Spelling.{IsNoScript}

-- the law that a script is read again from its text
abbrev pub IsReadAgain : Type 0
IsReadAgain = (s : List Statement) (rest : List ℕ) → IsScript s → script_at (script_text s ++ rest) ≡ Some (s, rest)

pub script_unread : IsReadAgain → (text : List ℕ) → script_at text ≡ None → IsNoScript text
script_unread again text none s rest is = let some : script_at text ≡ Some (s, rest) = ap script_at is.0 ∙ again s rest is.1 in absurd cc

-- what is after a text's front is no longer than the text, and the front is what is before it
pub rest_within : (text a rest : List ℕ) → text ≡ a ++ rest → length rest ≤ length text
rest_within text a rest e = omega (arith, ap length e, length-append a rest)

pub front_is : (text a rest : List ℕ) → text ≡ a ++ rest → take (length text - length rest) text ≡ a
front_is text a rest e =
    let len : length text ≡ length a + length rest = ap length e ∙ length-append a rest in
    ap (λ (t : List ℕ). take (length text - length rest) t) e ∙ (take-append-le (length text - length rest) a rest (omega (arith, len)) ∙ take_all (length text - length rest) a (omega (arith, len)))
