-- How scripts are spelled, and which scripts have a spelling.
use Rattle.std.specs.Prelude.{ℕ, zero, suc, ◌+◌, ◌^◌, ◌<◌, ◌≤◌, List, [], ◌∷◌, ◌++◌, length, map, codes, sum}
use Rattle.std.specs.List.{AllByRecursion}
use Rattle.std.specs.Fmt.{decimal, signed_decimal}
use lib.Signed.{mag}
use Rattle.khepri_terms.specs.Bytes.{bytes_text, AreBytes}
use Rattle.khepri_terms.specs.Names.{comp_text}
use Rattle.khepri_terms.specs.Paths.{path_text, IsPath}
use Rattle.khepri_terms.specs.Records.{rec_text, IsRec}
use Rattle.khepri_types.specs.Compares.{compare_text}
use Rattle.khepri_types.specs.ConditionTexts.{asked_text, condition_text, IsCondition, IsKey}
use Rattle.khepri_types.specs.PatternTexts.{pattern_text, IsPattern}
use Rattle.khepri_types.specs.declared.register.Register.{Register}
use Rattle.khepri_types.specs.declared.register.Register.TheVariants as register
use Rattle.khepri_types.specs.declared.script.Expr.{Expr, out-Expr}
use Rattle.khepri_types.specs.declared.script.Expr.TheFolds.{fold-Expr}
use Rattle.khepri_types.specs.declared.script.Expr.TheOpen.{Expr-F}
use Rattle.khepri_types.specs.declared.script.Statement.{Statement, out-Statement}
use Rattle.khepri_types.specs.declared.script.Statement.TheFolds.{fold-Statement}
use Rattle.khepri_types.specs.declared.script.Statement.TheOpen.{Statement-F}
use Rattle.khepri_types.specs.declared.limits.TheConstants.{MAX_SCRIPT_TEXT, MAX_SCRIPT_PARTS, MAX_BLOCK_NESTING, MAX_EXPRESSION_NESTING, MAX_REGISTERS}

-- ---- spellings

-- `i0` to `d7`
unfoldable pub register_text : Register → List ℕ
register_text (register.Int n) = 105 ∷ decimal n
register_text (register.Text n) = 116 ∷ decimal n
register_text (register.Path n) = 112 ∷ decimal n
register_text (register.Rec n) = 100 ∷ decimal n

-- `'` and the bytes
abbrev pub quoted : List ℕ → List ℕ
quoted b = 39 ∷ bytes_text b

-- two and three texts joined by `,`
abbrev pub two_texts : List ℕ → List ℕ → List ℕ
two_texts a b = a ++ 44 ∷ b

abbrev pub three_texts : List ℕ → List ℕ → List ℕ → List ℕ
three_texts a b c = a ++ 44 ∷ (b ++ 44 ∷ c)

-- one layer of an expression, by the spelling of its parts
unfoldable pub layer_expr_text : Expr-F (List ℕ) → List ℕ
layer_expr_text (Expr-F.Int z) = signed_decimal z
layer_expr_text (Expr-F.Text b) = quoted b
layer_expr_text (Expr-F.Path p) = path_text p
layer_expr_text (Expr-F.Rec f) = rec_text f
layer_expr_text (Expr-F.Register reg) = register_text reg
layer_expr_text (Expr-F.Add a b) = asked_text (codes "add") (two_texts a b)
layer_expr_text (Expr-F.Sub a b) = asked_text (codes "sub") (two_texts a b)
layer_expr_text (Expr-F.Cat a b) = asked_text (codes "cat") (two_texts a b)
layer_expr_text (Expr-F.IntField a key z) = asked_text (codes "int") (three_texts a (comp_text key) (signed_decimal z))
layer_expr_text (Expr-F.TextField a key b) = asked_text (codes "text") (three_texts a (comp_text key) (quoted b))
layer_expr_text (Expr-F.Data a) = asked_text (codes "data") a
layer_expr_text (Expr-F.Pv a) = asked_text (codes "pv") a
layer_expr_text (Expr-F.Cv a) = asked_text (codes "cv") a
layer_expr_text (Expr-F.Kids a) = asked_text (codes "kids") a
layer_expr_text (Expr-F.Last a) = asked_text (codes "last") a
layer_expr_text (Expr-F.Child a b) = asked_text (codes "child") (two_texts a b)
layer_expr_text (Expr-F.With a key b) = asked_text (codes "with") (three_texts a (comp_text key) b)
layer_expr_text (Expr-F.Compare op a b) = asked_text (compare_text op) (two_texts a b)
layer_expr_text (Expr-F.Test a c) = asked_text (codes "test") (two_texts a (condition_text c))
layer_expr_text (Expr-F.Not a) = asked_text (codes "not") a
layer_expr_text (Expr-F.All a b) = asked_text (codes "all") (two_texts a b)
layer_expr_text (Expr-F.Any a b) = asked_text (codes "any") (two_texts a b)

-- the spelling of an expression
abbrev pub expr_text : Expr → List ℕ
expr_text e = fold-Expr (List ℕ) layer_expr_text e

-- statements joined by `;`
unfoldable pub block_joined : List (List ℕ) → List ℕ
block_joined [] = []
block_joined (t ∷ []) = t
block_joined (t ∷ u ∷ ts) = t ++ 59 ∷ block_joined (u ∷ ts)

-- a block between braces
abbrev pub braced : List (List ℕ) → List ℕ
braced ts = 123 ∷ (block_joined ts ++ 125 ∷ [])

-- one layer of a statement, by the spelling of the statements of its blocks
unfoldable pub layer_statement_text : Statement-F (List ℕ) → List ℕ
layer_statement_text (Statement-F.Let reg e) = asked_text (codes "let") (two_texts (register_text reg) (expr_text e))
layer_statement_text (Statement-F.Put a b) = asked_text (codes "put") (two_texts (expr_text a) (expr_text b))
layer_statement_text (Statement-F.Clear a) = asked_text (codes "clear") (expr_text a)
layer_statement_text (Statement-F.Del a) = asked_text (codes "del") (expr_text a)
layer_statement_text (Statement-F.Hold a b c) = asked_text (codes "hold") (three_texts (expr_text a) (expr_text b) (condition_text c))
layer_statement_text (Statement-F.Free a) = asked_text (codes "free") (expr_text a)
layer_statement_text (Statement-F.Emit a) = asked_text (codes "emit") (expr_text a)
layer_statement_text (Statement-F.Abort a) = asked_text (codes "abort") (expr_text a)
layer_statement_text (Statement-F.If e a b) = asked_text (codes "if") (expr_text e) ++ (braced a ++ braced b)
layer_statement_text (Statement-F.Each reg pattern body) = asked_text (codes "each") (two_texts (register_text reg) (pattern_text pattern)) ++ braced body

-- the spelling of a statement
abbrev pub statement_text : Statement → List ℕ
statement_text s = fold-Statement (List ℕ) layer_statement_text s

-- a script: its block between `<` and `>`
unfoldable pub script_text : List Statement → List ℕ
script_text s = 60 ∷ (block_joined (map statement_text s) ++ 62 ∷ [])

-- ---- sizes

-- expressions in one layer, by those of its parts: itself and theirs
unfoldable pub layer_expr_size : Expr-F ℕ → ℕ
layer_expr_size (Expr-F.Int z) = 1
layer_expr_size (Expr-F.Text b) = 1
layer_expr_size (Expr-F.Path p) = 1
layer_expr_size (Expr-F.Rec f) = 1
layer_expr_size (Expr-F.Register reg) = 1
layer_expr_size (Expr-F.Add a b) = a + b + 1
layer_expr_size (Expr-F.Sub a b) = a + b + 1
layer_expr_size (Expr-F.Cat a b) = a + b + 1
layer_expr_size (Expr-F.IntField a key z) = a + 1
layer_expr_size (Expr-F.TextField a key b) = a + 1
layer_expr_size (Expr-F.Data a) = a + 1
layer_expr_size (Expr-F.Pv a) = a + 1
layer_expr_size (Expr-F.Cv a) = a + 1
layer_expr_size (Expr-F.Kids a) = a + 1
layer_expr_size (Expr-F.Last a) = a + 1
layer_expr_size (Expr-F.Child a b) = a + b + 1
layer_expr_size (Expr-F.With a key b) = a + b + 1
layer_expr_size (Expr-F.Compare op a b) = a + b + 1
layer_expr_size (Expr-F.Test a c) = a + 1
layer_expr_size (Expr-F.Not a) = a + 1
layer_expr_size (Expr-F.All a b) = a + b + 1
layer_expr_size (Expr-F.Any a b) = a + b + 1

abbrev pub expr_size : Expr → ℕ
expr_size e = fold-Expr ℕ layer_expr_size e

-- statements and expressions in one layer of a statement: itself, its expressions and what its blocks have
unfoldable pub layer_statement_size : Statement-F ℕ → ℕ
layer_statement_size (Statement-F.Let reg e) = expr_size e + 1
layer_statement_size (Statement-F.Put a b) = expr_size a + expr_size b + 1
layer_statement_size (Statement-F.Clear a) = expr_size a + 1
layer_statement_size (Statement-F.Del a) = expr_size a + 1
layer_statement_size (Statement-F.Hold a b c) = expr_size a + expr_size b + 1
layer_statement_size (Statement-F.Free a) = expr_size a + 1
layer_statement_size (Statement-F.Emit a) = expr_size a + 1
layer_statement_size (Statement-F.Abort a) = expr_size a + 1
layer_statement_size (Statement-F.If e a b) = expr_size e + (sum a + sum b) + 1
layer_statement_size (Statement-F.Each reg pattern body) = sum body + 1

-- statements and expressions of a statement, itself counted
abbrev pub statement_size : Statement → ℕ
statement_size s = fold-Statement ℕ layer_statement_size s

-- statements and expressions of a script
abbrev pub script_size : List Statement → ℕ
script_size s = sum (map statement_size s)

-- ---- which scripts have a spelling

abbrev pub IsRegister : Register → Type 0
IsRegister (register.Int n) = n < MAX_REGISTERS
IsRegister (register.Text n) = n < MAX_REGISTERS
IsRegister (register.Path n) = n < MAX_REGISTERS
IsRegister (register.Rec n) = n < MAX_REGISTERS

-- one layer of an expression has a spelling: a text in a script has no limit but the script's
abbrev pub IsExprLayer : (Expr → Type 0) → Expr-F Expr → Type 0
IsExprLayer Is (Expr-F.Int z) = mag z < 2 ^ 63
IsExprLayer Is (Expr-F.Text b) = AreBytes b
IsExprLayer Is (Expr-F.Path p) = IsPath p
IsExprLayer Is (Expr-F.Rec f) = IsRec f
IsExprLayer Is (Expr-F.Register reg) = IsRegister reg
IsExprLayer Is (Expr-F.Add a b) = Is a × Is b
IsExprLayer Is (Expr-F.Sub a b) = Is a × Is b
IsExprLayer Is (Expr-F.Cat a b) = Is a × Is b
IsExprLayer Is (Expr-F.IntField a key z) = Is a × IsKey key × (mag z < 2 ^ 63)
IsExprLayer Is (Expr-F.TextField a key b) = Is a × IsKey key × AreBytes b
IsExprLayer Is (Expr-F.Data a) = Is a
IsExprLayer Is (Expr-F.Pv a) = Is a
IsExprLayer Is (Expr-F.Cv a) = Is a
IsExprLayer Is (Expr-F.Kids a) = Is a
IsExprLayer Is (Expr-F.Last a) = Is a
IsExprLayer Is (Expr-F.Child a b) = Is a × Is b
IsExprLayer Is (Expr-F.With a key b) = Is a × IsKey key × Is b
IsExprLayer Is (Expr-F.Compare op a b) = Is a × Is b
IsExprLayer Is (Expr-F.Test a c) = Is a × IsCondition c
IsExprLayer Is (Expr-F.Not a) = Is a
IsExprLayer Is (Expr-F.All a b) = Is a × Is b
IsExprLayer Is (Expr-F.Any a b) = Is a × Is b

-- at most n expressions stand in one another, one with none in it being one
abbrev pub IsExprNested : ℕ → Expr → Type 0
IsExprNested zero e = ⊥
IsExprNested (suc n) e = IsExprLayer (IsExprNested n) (out-Expr e)

abbrev pub IsExpr : Expr → Type 0
IsExpr = IsExprNested MAX_EXPRESSION_NESTING

-- one layer of a statement has a spelling, its blocks by this
abbrev pub IsStatementLayer : (List Statement → Type 0) → Statement-F Statement → Type 0
IsStatementLayer Is (Statement-F.Let reg e) = IsRegister reg × IsExpr e
IsStatementLayer Is (Statement-F.Put a b) = IsExpr a × IsExpr b
IsStatementLayer Is (Statement-F.Clear a) = IsExpr a
IsStatementLayer Is (Statement-F.Del a) = IsExpr a
IsStatementLayer Is (Statement-F.Hold a b c) = IsExpr a × IsExpr b × IsCondition c
IsStatementLayer Is (Statement-F.Free a) = IsExpr a
IsStatementLayer Is (Statement-F.Emit a) = IsExpr a
IsStatementLayer Is (Statement-F.Abort a) = IsExpr a
IsStatementLayer Is (Statement-F.If e a b) = IsExpr e × Is a × Is b
IsStatementLayer Is (Statement-F.Each reg pattern body) = IsRegister reg × IsPattern pattern × Is body

-- at most n blocks stand in one another, this one counted
abbrev pub IsBlock : ℕ → List Statement → Type 0
IsBlock zero b = ⊥
IsBlock (suc n) b = AllByRecursion (λ s. IsStatementLayer (IsBlock n) (out-Statement s)) b

-- a script that has a spelling
pub record IsScript (s : List Statement) : Type 0 where
  pub nested : IsBlock MAX_BLOCK_NESTING s
  pub few : script_size s ≤ MAX_SCRIPT_PARTS
  pub short : length (script_text s) ≤ MAX_SCRIPT_TEXT
