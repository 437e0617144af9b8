-- Readings of what stands behind the words of forms, as the readers take them.
use Rattle.std.specs.Prelude.{ℕ, List, Option}
use Rattle.khepri_terms.specs.Many.{◌>>=◌}
use Rattle.khepri_terms.specs.Terms.{NameText}
use Rattle.khepri_types.specs.declared.condition.Condition.{Condition}
use Rattle.khepri_types.specs.declared.limits.TheConstants.{MAX_BLOCK_NESTING, MAX_SCRIPT_PARTS}
use Rattle.khepri_types.specs.declared.pattern.PatternPart.{PatternPart}
use Rattle.khepri_types.specs.declared.script.Expr.{Expr}
use Rattle.khepri_types.specs.declared.script.Statement.{Statement}
use Rattle.khepri_types.specs.declared.script.Statement.TheVariants as s
use Rattle.khepri_types.specs.declared.script_words.DeedWord.{DeedWord}
use Rattle.khepri_types.specs.Items.{Item, behind, ended, followed, made, uncounted}
use Rattle.khepri_types.specs.ReadingConditions.{condition_at, key_at, pattern_at}
use Rattle.khepri_types.specs.ReadingScripts.{expr_word_at, arguments_at, nested_expr_at, block_at, deed, expr_at, register_named, statement_word_at, statement_arguments, statement_at}

-- a form of expressions, with at most n in one another in it
abbrev pub form_at : ℕ → Item Expr
form_at n left text = expr_word_at text >>= λ w. arguments_at (nested_expr_at n) w.0 left w.1

-- `e,e)`
abbrev pub pair_at : ℕ → Item (Expr × Expr)
pair_at n = followed (ended 44 (nested_expr_at n)) (ended 41 (nested_expr_at n))

-- `KEY,`, and what is read behind it to the `)`
abbrev pub key_and : {A : Type 0} → Item A → Item (NameText × A)
key_and value = followed (ended 44 (uncounted key_at)) (ended 41 value)

-- a statement, with at most n blocks in one another in it
abbrev pub statement_in : ℕ → Item Statement
statement_in n = statement_at (block_at n 125)

-- a statement whose own part is counted already
abbrev pub worded_at : ℕ → Item Statement
worded_at n left text = statement_word_at text >>= λ w. statement_arguments (block_at n 125) w.0 left w.1

-- `e)` behind the word of a statement of one expression
abbrev pub deed_at : DeedWord → Item Statement
deed_at w left text = made (deed w) (ended 41 expr_at left text)

-- `REG,e)`
abbrev pub let_at : Item Statement
let_at left text = made (λ x. s.Let x.0 x.1) (followed register_named (ended 41 expr_at) left text)

-- `e,e)`
abbrev pub put_at : Item Statement
put_at left text = made (λ x. s.Put x.0 x.1) (followed (ended 44 expr_at) (ended 41 expr_at) left text)

-- `e,COND)`
abbrev pub held_at : Item (Expr × Condition)
held_at = followed (ended 44 expr_at) (ended 41 (uncounted condition_at))

-- `e,e,COND)`
abbrev pub hold_at : Item Statement
hold_at left text = made (λ x. s.Hold x.0 x.1.0 x.1.1) (followed (ended 44 expr_at) (followed (ended 44 expr_at) (ended 41 (uncounted condition_at))) left text)

-- two blocks between braces, with at most n in one another in each
abbrev pub branches_at : ℕ → Item (List Statement × List Statement)
branches_at n = followed (behind 123 (block_at n 125)) (behind 123 (block_at n 125))

-- `PATTERN)`, and a block between braces
abbrev pub turns_at : ℕ → Item (List PatternPart × List Statement)
turns_at n = followed (ended 41 (uncounted pattern_at)) (behind 123 (block_at n 125))

-- `<`, a block and `>`, however long
abbrev pub between : List ℕ → Option (List Statement × ℕ × List ℕ)
between text = behind 60 (block_at MAX_BLOCK_NESTING 62) MAX_SCRIPT_PARTS text
