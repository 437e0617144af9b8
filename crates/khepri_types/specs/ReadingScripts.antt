-- Reading scripts from left to right.
use Rattle.std.specs.Prelude.{ℕ, zero, suc, ◌-◌, ◌&&◌, nat_le, ◌==◌, if◌then◌else◌, List, [], ◌∷◌, length, drop, Option, Some, None, codes}
use Rattle.khepri_terms.specs.Terms.{NameText}
use Rattle.khepri_terms.specs.Many.{◌>>=◌}
use Rattle.khepri_terms.specs.Bytes.{bytes_at}
use Rattle.khepri_terms.specs.Numbers.{int_at}
use Rattle.khepri_terms.specs.Paths.{path_at}
use Rattle.khepri_terms.specs.Records.{rec_at}
use Rattle.khepri_types.specs.declared.limits.TheConstants.{MAX_SCRIPT_TEXT, MAX_SCRIPT_PARTS, MAX_BLOCK_NESTING, MAX_EXPRESSION_NESTING}
use Rattle.khepri_types.specs.declared.register.Register.{Register}
use Rattle.khepri_types.specs.declared.register.Register.TheVariants as register
use Rattle.khepri_types.specs.declared.script.Expr.{Expr}
use Rattle.khepri_types.specs.declared.script.Expr.TheVariants as e
use Rattle.khepri_types.specs.declared.script.Statement.{Statement}
use Rattle.khepri_types.specs.declared.script.Statement.TheVariants as s
use Rattle.khepri_types.specs.declared.script_words.PairWord.{PairWord}
use Rattle.khepri_types.specs.declared.script_words.PairWord.TheVariants as pairs
use Rattle.khepri_types.specs.declared.script_words.OneWord.{OneWord}
use Rattle.khepri_types.specs.declared.script_words.OneWord.TheVariants as ones
use Rattle.khepri_types.specs.declared.script_words.ExprWord.{ExprWord}
use Rattle.khepri_types.specs.declared.script_words.ExprWord.TheVariants as words
use Rattle.khepri_types.specs.declared.script_words.DeedWord.{DeedWord}
use Rattle.khepri_types.specs.declared.script_words.DeedWord.TheVariants as deeds
use Rattle.khepri_types.specs.declared.script_words.StatementWord.{StatementWord}
use Rattle.khepri_types.specs.declared.script_words.StatementWord.TheVariants as statements
use Rattle.khepri_types.specs.Items.{Item, uncounted, ended, followed, made, or_read, items_at, behind}
use Rattle.khepri_types.specs.ReadingConditions.{after_byte, compare_at, key_at, condition_at, pattern_at}
use Rattle.khepri_types.specs.Words.{begins}

-- ---- words

-- what is made of what was read
abbrev pub read_as : {A B : Type 0} → (A → B) → Option (A × List ℕ) → Option (B × List ℕ)
read_as make None = None
read_as make (Some x) = Some (make x.0, x.1)

-- a comparison and its `(`
unfoldable pub compare_word_at : List ℕ → Option (PairWord × List ℕ)
compare_word_at text = do
  op ← compare_at text
  rest ← after_byte 40 op.1
  Some (pairs.Compare op.0, rest)

-- the word of a form of two expressions at the front, and what is behind its `(`
unfoldable pub pair_word_at : List ℕ → Option (PairWord × List ℕ)
pair_word_at text =
    if begins (codes "add(") text then Some (pairs.Add, drop 4 text)
    else (if begins (codes "sub(") text then Some (pairs.Sub, drop 4 text)
    else (if begins (codes "cat(") text then Some (pairs.Cat, drop 4 text)
    else (if begins (codes "child(") text then Some (pairs.Child, drop 6 text)
    else (if begins (codes "all(") text then Some (pairs.All, drop 4 text)
    else (if begins (codes "any(") text then Some (pairs.Any, drop 4 text)
    else compare_word_at text)))))

-- the word of a form of one expression
unfoldable pub one_word_at : List ℕ → Option (OneWord × List ℕ)
one_word_at text =
    if begins (codes "data(") text then Some (ones.Data, drop 5 text)
    else (if begins (codes "pv(") text then Some (ones.Pv, drop 3 text)
    else (if begins (codes "cv(") text then Some (ones.Cv, drop 3 text)
    else (if begins (codes "kids(") text then Some (ones.Kids, drop 5 text)
    else (if begins (codes "last(") text then Some (ones.Last, drop 5 text)
    else (if begins (codes "not(") text then Some (ones.Not, drop 4 text)
    else None)))))

-- the word of another form of expressions
unfoldable pub field_word_at : List ℕ → Option (ExprWord × List ℕ)
field_word_at text =
    if begins (codes "int(") text then Some (words.Int, drop 4 text)
    else (if begins (codes "text(") text then Some (words.Text, drop 5 text)
    else (if begins (codes "with(") text then Some (words.With, drop 5 text)
    else (if begins (codes "test(") text then Some (words.Test, drop 5 text)
    else None)))

-- the word of a form at the front, and what is behind its `(`
unfoldable pub expr_word_at : List ℕ → Option (ExprWord × List ℕ)
expr_word_at text = or_read (field_word_at text) (or_read (read_as words.One (one_word_at text)) (read_as words.Pair (pair_word_at text)))

-- ---- expressions

abbrev pub register_of : ℕ → ℕ → Option Register
register_of b n =
    if b == 105 then Some (register.Int n)
    else (if b == 116 then Some (register.Text n)
    else (if b == 112 then Some (register.Path n)
    else (if b == 100 then Some (register.Rec n)
    else None)))

-- the register at the front, and what is after it
unfoldable pub register_at : List ℕ → Option (Register × List ℕ)
register_at [] = None
register_at (b ∷ []) = None
register_at (b ∷ d ∷ text) = if nat_le 48 d && nat_le d 55 then (register_of b (d - 48) >>= λ reg. Some (reg, text)) else None

-- `'` and the bytes behind it, as far as they go, and what is after them
unfoldable pub quoted_at : List ℕ → Option (List ℕ × List ℕ)
quoted_at [] = None
quoted_at (b ∷ text) = if b == 39 then Some (bytes_at (length text) text) else None

-- an expression that has none in it, and what is after it
unfoldable pub leaf_at : List ℕ → Option (Expr × List ℕ)
leaf_at text =
    or_read (read_as e.Int (int_at text))
    (or_read (read_as e.Text (quoted_at text))
    (or_read (read_as e.Path (path_at text))
    (or_read (read_as e.Rec (rec_at text))
    (read_as e.Register (register_at text)))))

-- a form of two expressions
abbrev pub pair_expr : PairWord → Expr × Expr → Expr
pair_expr pairs.Add x = e.Add x.0 x.1
pair_expr pairs.Sub x = e.Sub x.0 x.1
pair_expr pairs.Cat x = e.Cat x.0 x.1
pair_expr pairs.Child x = e.Child x.0 x.1
pair_expr pairs.All x = e.All x.0 x.1
pair_expr pairs.Any x = e.Any x.0 x.1
pair_expr (pairs.Compare op) x = e.Compare op x.0 x.1

-- a form of one expression
abbrev pub one_expr : OneWord → Expr → Expr
one_expr ones.Data x = e.Data x
one_expr ones.Pv x = e.Pv x
one_expr ones.Cv x = e.Cv x
one_expr ones.Kids x = e.Kids x
one_expr ones.Last x = e.Last x
one_expr ones.Not x = e.Not x

-- `e,KEY,` and what is read behind it to the `)`
abbrev pub keyed_at : {A : Type 0} → Item Expr → Item A → Item (Expr × (NameText × A))
keyed_at inner value = followed (ended 44 inner) (followed (ended 44 (uncounted key_at)) (ended 41 value))

-- what stands behind the word of a form, by the reading of the expressions in it
unfoldable pub arguments_at : Item Expr → ExprWord → Item Expr
arguments_at inner (words.Pair w) left text = made (pair_expr w) (followed (ended 44 inner) (ended 41 inner) left text)
arguments_at inner (words.One w) left text = made (one_expr w) (ended 41 inner left text)
arguments_at inner words.Int left text = made (λ x. e.IntField x.0 x.1.0 x.1.1) (keyed_at inner (uncounted int_at) left text)
arguments_at inner words.Text left text = made (λ x. e.TextField x.0 x.1.0 x.1.1) (keyed_at inner (uncounted quoted_at) left text)
arguments_at inner words.With left text = made (λ x. e.With x.0 x.1.0 x.1.1) (keyed_at inner inner left text)
arguments_at inner words.Test left text = made (λ x. e.Test x.0 x.1) (followed (ended 44 inner) (ended 41 (uncounted condition_at)) left text)

-- one expression, by the reading of those in it
abbrev pub layer_expr_at : Item Expr → Item Expr
layer_expr_at inner left text = or_read (uncounted leaf_at left text) (expr_word_at text >>= λ w. arguments_at inner w.0 left w.1)

-- the expression at the front, of at most n in one another and as many parts as are left
unfoldable pub nested_expr_at : ℕ → Item Expr
nested_expr_at zero left text = None
nested_expr_at (suc n) zero text = None
nested_expr_at (suc n) (suc left) text = layer_expr_at (nested_expr_at n) left text

abbrev pub expr_at : Item Expr
expr_at = nested_expr_at MAX_EXPRESSION_NESTING

-- ---- statements

-- the word of a statement of one expression at the front, and what is behind its `(`
unfoldable pub deed_word_at : List ℕ → Option (DeedWord × List ℕ)
deed_word_at text =
    if begins (codes "clear(") text then Some (deeds.Clear, drop 6 text)
    else (if begins (codes "del(") text then Some (deeds.Del, drop 4 text)
    else (if begins (codes "free(") text then Some (deeds.Free, drop 5 text)
    else (if begins (codes "emit(") text then Some (deeds.Emit, drop 5 text)
    else (if begins (codes "abort(") text then Some (deeds.Abort, drop 6 text)
    else None))))

-- the word of another statement
unfoldable pub longer_word_at : List ℕ → Option (StatementWord × List ℕ)
longer_word_at text =
    if begins (codes "let(") text then Some (statements.Let, drop 4 text)
    else (if begins (codes "put(") text then Some (statements.Put, drop 4 text)
    else (if begins (codes "hold(") text then Some (statements.Hold, drop 5 text)
    else (if begins (codes "if(") text then Some (statements.If, drop 3 text)
    else (if begins (codes "each(") text then Some (statements.Each, drop 5 text)
    else None))))

-- the word of a statement at the front, and what is behind its `(`
unfoldable pub statement_word_at : List ℕ → Option (StatementWord × List ℕ)
statement_word_at text = or_read (longer_word_at text) (read_as statements.Deed (deed_word_at text))

-- a statement of one expression
abbrev pub deed : DeedWord → Expr → Statement
deed deeds.Clear x = s.Clear x
deed deeds.Del x = s.Del x
deed deeds.Free x = s.Free x
deed deeds.Emit x = s.Emit x
deed deeds.Abort x = s.Abort x

-- a register and `,`
abbrev pub register_named : Item Register
register_named = ended 44 (uncounted register_at)

-- what stands behind the word of a statement, by the reading of the blocks in it
unfoldable pub statement_arguments : Item (List Statement) → StatementWord → Item Statement
statement_arguments inner (statements.Deed w) left text = made (deed w) (ended 41 expr_at left text)
statement_arguments inner statements.Let left text = made (λ x. s.Let x.0 x.1) (followed register_named (ended 41 expr_at) left text)
statement_arguments inner statements.Put left text = made (λ x. s.Put x.0 x.1) (followed (ended 44 expr_at) (ended 41 expr_at) left text)
statement_arguments inner statements.Hold left text = made (λ x. s.Hold x.0 x.1.0 x.1.1) (followed (ended 44 expr_at) (followed (ended 44 expr_at) (ended 41 (uncounted condition_at))) left text)
statement_arguments inner statements.If left text = made (λ x. s.If x.0 x.1.0 x.1.1) (followed (ended 41 expr_at) (followed (behind 123 inner) (behind 123 inner)) left text)
statement_arguments inner statements.Each left text = made (λ x. s.Each x.0 x.1.0 x.1.1) (followed register_named (followed (ended 41 (uncounted pattern_at)) (behind 123 inner)) left text)

-- one statement, by the reading of the blocks in it
unfoldable pub statement_at : Item (List Statement) → Item Statement
statement_at inner zero text = None
statement_at inner (suc left) text = statement_word_at text >>= λ w. statement_arguments inner w.0 left w.1

-- the statements of a block to the byte that closes it, with at most n blocks in one another, this one counted
unfoldable pub block_at : ℕ → ℕ → Item (List Statement)
block_at zero close left text = None
block_at (suc n) close left text = items_at close (statement_at (block_at n 125)) left text

-- ---- scripts

-- a script that was read, unless it took over 8,192 bytes
abbrev pub script_of : List ℕ → Option (List Statement × ℕ × List ℕ) → Option (List Statement × List ℕ)
script_of text None = None
script_of text (Some x) = if nat_le (length text - length x.2) MAX_SCRIPT_TEXT then Some (x.0, x.2) else None

-- the script at the front, and what is after it
unfoldable pub script_at : List ℕ → Option (List Statement × List ℕ)
script_at text = script_of text (behind 60 (block_at MAX_BLOCK_NESTING 62) MAX_SCRIPT_PARTS text)
