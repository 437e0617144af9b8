-- Statements and scripts that are read are spelled so, and those that are spelled are read again.
use Rattle.std.proofs.Common.{◌≡◌, ℕ, zero, suc, ◌+◌, ◌-◌, ◌≤◌, true, leb, List, [], ◌∷◌, ◌++◌, length, refl, sym, ap, subst, ◌∙◌, append_assoc, map, sum, arith, Option, Some, None, codes}
use Rattle.std.proofs.lemmas.Bool.{cond-true, leb-true, le-leb}
use Rattle.std.proofs.lemmas.List.{length-append}
use Rattle.khepri_terms.specs.Many.{◌>>=◌}
use Rattle.khepri_terms.specs.Paths.{Ends}
use Rattle.khepri_terms.proofs.Cases.{bind_some, guard_some, some_is}
use Rattle.khepri_types.specs.declared.limits.TheConstants.{MAX_SCRIPT_TEXT, MAX_SCRIPT_PARTS, MAX_BLOCK_NESTING, MAX_EXPRESSION_NESTING}
use Rattle.khepri_types.specs.declared.condition.Condition.{Condition}
use Rattle.khepri_types.specs.declared.pattern.PatternPart.{PatternPart}
use Rattle.khepri_types.specs.declared.register.Register.{Register}
use Rattle.khepri_types.specs.declared.script.Expr.{Expr}
use Rattle.khepri_types.specs.declared.script.Statement.{Statement, out-Statement, roll-Statement, map-Statement}
use Rattle.khepri_types.specs.declared.script.Statement.TheVariants as st
use Rattle.khepri_types.specs.declared.script.Statement.TheVariants.{rolls-Let, rolls-Put, rolls-Clear, rolls-Del, rolls-Hold, rolls-Free, rolls-Emit, rolls-Abort, rolls-If, rolls-Each}
use Rattle.khepri_types.specs.declared.script.Statement.TheViews.{out-roll-Statement, roll-out-Statement}
use Rattle.khepri_types.specs.declared.script.Statement.TheFolds.{fold-roll-Statement}
use Rattle.khepri_types.specs.declared.script.Statement.TheOpen.{Statement-F}
use Rattle.khepri_types.specs.declared.script_words.DeedWord.{DeedWord}
use Rattle.khepri_types.specs.declared.script_words.DeedWord.TheVariants as deeds
use Rattle.khepri_types.specs.declared.script_words.StatementWord.{StatementWord}
use Rattle.khepri_types.specs.declared.script_words.StatementWord.TheVariants as statements
use Rattle.khepri_types.specs.ConditionTexts.{asked_text, condition_text, IsCondition}
use Rattle.khepri_types.specs.Items.{Item, uncounted, ended, followed, made, items_at, behind}
use Rattle.khepri_types.specs.PatternTexts.{pattern_text, IsPattern, EndsPattern}
use Rattle.khepri_types.specs.ReadingConditions.{condition_at, pattern_at}
use Rattle.khepri_types.specs.ReadingScripts.{expr_at, register_at, deed, deed_word_at, longer_word_at, statement_word_at, register_named, statement_arguments, statement_at, block_at, script_of, script_at}
use Rattle.khepri_types.specs.ScriptTexts.{register_text, two_texts, expr_text, expr_size, block_joined, layer_statement_text, statement_text, script_text, layer_statement_size, statement_size, IsRegister, IsExpr, IsStatementLayer, IsBlock, IsScript}
use Rattle.khepri_types.specs.ScriptWords.{deed_word_text, statement_word_text}
use Rattle.khepri_types.proofs.ExprLaws.{two_parts, three_parts, expr_spells}
use Rattle.khepri_types.proofs.ItemLaws.{Anything, Was, Spells, nothing, IsClose, uncounted_spells, ended_spells, followed_spells, behind_spells, made_is, items_spells}
use Rattle.khepri_types.proofs.LeafLaws.{comma_ends, close_ends, close_ends_pattern, condition_spells, pattern_spells, register_spells}
use Rattle.khepri_types.proofs.ScriptWordLaws.{statement_word_takes, statement_word_again}

-- ---- the parts of statements

expr_reads : Spells expr_at expr_text expr_size IsExpr Ends
expr_reads = expr_spells MAX_EXPRESSION_NESTING

comma_expr : Spells (ended 44 expr_at) (λ x. expr_text x ++ 44 ∷ []) expr_size IsExpr Anything
comma_expr = ended_spells 44 expr_at expr_text expr_size IsExpr Ends refl comma_ends expr_reads

close_expr : Spells (ended 41 expr_at) (λ x. expr_text x ++ 41 ∷ []) expr_size IsExpr Anything
close_expr = ended_spells 41 expr_at expr_text expr_size IsExpr Ends refl close_ends expr_reads

comma_register : Spells register_named (λ x. register_text x ++ 44 ∷ []) nothing IsRegister Anything
comma_register = ended_spells 44 (uncounted register_at) register_text nothing IsRegister Ends refl comma_ends (uncounted_spells register_at register_text IsRegister Ends register_spells)

close_condition : Spells (ended 41 (uncounted condition_at)) (λ x. condition_text x ++ 41 ∷ []) nothing IsCondition Anything
close_condition = ended_spells 41 (uncounted condition_at) condition_text nothing IsCondition Anything refl (λ rest. tt) (uncounted_spells condition_at condition_text IsCondition Anything condition_spells)

close_pattern : Spells (ended 41 (uncounted pattern_at)) (λ x. pattern_text x ++ 41 ∷ []) nothing IsPattern Anything
close_pattern = ended_spells 41 (uncounted pattern_at) pattern_text nothing IsPattern EndsPattern refl close_ends_pattern (uncounted_spells pattern_at pattern_text IsPattern EndsPattern pattern_spells)

-- ---- forms

-- how a block is spelled with the byte that closes it, and what it counts
abbrev block_text : List Statement → List ℕ
block_text b = block_joined (map statement_text b) ++ 125 ∷ []

abbrev block_size : List Statement → ℕ
block_size b = sum (map statement_size b)

-- what a statement of one layer is
record Form (n : ℕ) (l : Statement-F Statement) (v : Statement) : Type 0 where
  text : statement_text v ≡ layer_statement_text (map-Statement Statement (List ℕ) statement_text l)
  size : statement_size v ≡ layer_statement_size (map-Statement Statement ℕ statement_size l)
  nested : IsStatementLayer (IsBlock n) l → IsStatementLayer (IsBlock n) (out-Statement v)

form : (n : ℕ) (l : Statement-F Statement) (v : Statement) → roll-Statement l ≡ v → Form n l v
form n l v is = subst (Form n l) is (record {
  text = fold-roll-Statement (List ℕ) layer_statement_text l;
  size = fold-roll-Statement ℕ layer_statement_size l;
  nested = λ h. subst (IsStatementLayer (IsBlock n)) (sym (out-roll-Statement l)) h;
})

-- what a statement of some parts is: its word, and the text of the parts
record Row {A : Type 0} (n : ℕ) (word : List ℕ) (make : A → Statement) (text : A → List ℕ) (size : A → ℕ) (Is : A → Type 0) : Type 0 where
  spelled : (x : A) → statement_text (make x) ≡ word ++ 40 ∷ text x
  counted : (x : A) → statement_size (make x) ≡ size x + 1
  nested : (x : A) → Is x → IsStatementLayer (IsBlock n) (out-Statement (make x))

-- a statement that has a spelling where at most n blocks stand in one another in it
abbrev IsNested : ℕ → Statement → Type 0
IsNested n v = IsStatementLayer (IsBlock n) (out-Statement v)

abbrev WasBehind : ℕ → ℕ → List ℕ → List ℕ → Statement × ℕ × List ℕ → Type 0
WasBehind n k word t x = (word ++ 40 ∷ t ≡ statement_text x.0 ++ x.2) × IsNested n x.0 × (statement_size x.0 + x.1 ≡ suc k)

row_takes : {A : Type 0} (n : ℕ) (word : List ℕ) (make : A → Statement) (args : Item A) (text : A → List ℕ) (size : A → ℕ) (Is : A → Type 0) → Spells args text size Is Anything → Row n word make text size Is
    → (k : ℕ) (t : List ℕ) (x : Statement × ℕ × List ℕ) → made make (args k t) ≡ Some x → WasBehind n k word t x
row_takes {A = A} n word make args text size Is s r k t x e =
    let y = made_is make (args k t) x e in
    let w = s.takes k t y.0 y.1 in
    let parts : word ++ 40 ∷ t ≡ statement_text (make y.0.0) ++ y.0.2 =
    ap (λ (u : List ℕ). word ++ 40 ∷ u) w.0 ∙ (sym (append_assoc word (40 ∷ text y.0.0) y.0.2) ∙ ap (λ (u : List ℕ). u ++ y.0.2) (sym (r.spelled y.0.0))) in
    subst (WasBehind n k word t) y.2 (parts, r.nested y.0.0 w.1, omega (arith, w.2, r.counted y.0.0))

-- ---- with the law of the blocks inside

module _ (n : ℕ) (inner : Item (List Statement)) (s : Spells inner block_text block_size (IsBlock n) Anything) where
  braced_block : Spells (behind 123 inner) (λ b. 123 ∷ block_text b) block_size (IsBlock n) Anything
  braced_block = behind_spells 123 inner block_text block_size (IsBlock n) Anything refl s

  -- statements of one expression
  abbrev deed_text : Expr → List ℕ
  deed_text x = expr_text x ++ 41 ∷ []

  deed_row : (w : DeedWord) → Row n (deed_word_text w) (deed w) deed_text expr_size IsExpr
  unfolding deed_word_text layer_statement_text layer_statement_size
  deed_row deeds.Clear = record { spelled = λ x. (form n (Statement-F.Clear x) (st.Clear x) (rolls-Clear x)).text; counted = λ x. (form n (Statement-F.Clear x) (st.Clear x) (rolls-Clear x)).size; nested = λ x is. (form n (Statement-F.Clear x) (st.Clear x) (rolls-Clear x)).nested is }
  deed_row deeds.Del = record { spelled = λ x. (form n (Statement-F.Del x) (st.Del x) (rolls-Del x)).text; counted = λ x. (form n (Statement-F.Del x) (st.Del x) (rolls-Del x)).size; nested = λ x is. (form n (Statement-F.Del x) (st.Del x) (rolls-Del x)).nested is }
  deed_row deeds.Free = record { spelled = λ x. (form n (Statement-F.Free x) (st.Free x) (rolls-Free x)).text; counted = λ x. (form n (Statement-F.Free x) (st.Free x) (rolls-Free x)).size; nested = λ x is. (form n (Statement-F.Free x) (st.Free x) (rolls-Free x)).nested is }
  deed_row deeds.Emit = record { spelled = λ x. (form n (Statement-F.Emit x) (st.Emit x) (rolls-Emit x)).text; counted = λ x. (form n (Statement-F.Emit x) (st.Emit x) (rolls-Emit x)).size; nested = λ x is. (form n (Statement-F.Emit x) (st.Emit x) (rolls-Emit x)).nested is }
  deed_row deeds.Abort = record { spelled = λ x. (form n (Statement-F.Abort x) (st.Abort x) (rolls-Abort x)).text; counted = λ x. (form n (Statement-F.Abort x) (st.Abort x) (rolls-Abort x)).size; nested = λ x is. (form n (Statement-F.Abort x) (st.Abort x) (rolls-Abort x)).nested is }

  abbrev let_text : Register × Expr → List ℕ
  let_text x = (register_text x.0 ++ 44 ∷ []) ++ (expr_text x.1 ++ 41 ∷ [])

  abbrev let_size : Register × Expr → ℕ
  let_size x = 0 + expr_size x.1

  abbrev IsLet : Register × Expr → Type 0
  IsLet x = IsRegister x.0 × IsExpr x.1

  let_args : Spells (followed register_named (ended 41 expr_at)) let_text let_size IsLet Anything
  let_args = followed_spells register_named (ended 41 expr_at) (λ x. register_text x ++ 44 ∷ []) (λ x. expr_text x ++ 41 ∷ []) nothing expr_size IsRegister IsExpr Anything comma_register close_expr

  let_row : Row n (codes "let") (λ (x : Register × Expr). st.Let x.0 x.1) let_text let_size IsLet
  unfolding layer_statement_text layer_statement_size
  let_row = record {
    spelled = λ x. (form n (Statement-F.Let x.0 x.1) (st.Let x.0 x.1) (rolls-Let x.0 x.1)).text ∙ two_parts (codes "let") (register_text x.0) (expr_text x.1);
    counted = λ x. let z = (form n (Statement-F.Let x.0 x.1) (st.Let x.0 x.1) (rolls-Let x.0 x.1)).size in omega (arith, z);
    nested = λ x is. (form n (Statement-F.Let x.0 x.1) (st.Let x.0 x.1) (rolls-Let x.0 x.1)).nested is;
  }

  abbrev put_text : Expr × Expr → List ℕ
  put_text x = (expr_text x.0 ++ 44 ∷ []) ++ (expr_text x.1 ++ 41 ∷ [])

  abbrev put_size : Expr × Expr → ℕ
  put_size x = expr_size x.0 + expr_size x.1

  abbrev IsPut : Expr × Expr → Type 0
  IsPut x = IsExpr x.0 × IsExpr x.1

  put_args : Spells (followed (ended 44 expr_at) (ended 41 expr_at)) put_text put_size IsPut Anything
  put_args = followed_spells (ended 44 expr_at) (ended 41 expr_at) (λ x. expr_text x ++ 44 ∷ []) (λ x. expr_text x ++ 41 ∷ []) expr_size expr_size IsExpr IsExpr Anything comma_expr close_expr

  put_row : Row n (codes "put") (λ (x : Expr × Expr). st.Put x.0 x.1) put_text put_size IsPut
  unfolding layer_statement_text layer_statement_size
  put_row = record {
    spelled = λ x. (form n (Statement-F.Put x.0 x.1) (st.Put x.0 x.1) (rolls-Put x.0 x.1)).text ∙ two_parts (codes "put") (expr_text x.0) (expr_text x.1);
    counted = λ x. (form n (Statement-F.Put x.0 x.1) (st.Put x.0 x.1) (rolls-Put x.0 x.1)).size;
    nested = λ x is. (form n (Statement-F.Put x.0 x.1) (st.Put x.0 x.1) (rolls-Put x.0 x.1)).nested is;
  }

  abbrev hold_text : Expr × (Expr × Condition) → List ℕ
  hold_text x = (expr_text x.0 ++ 44 ∷ []) ++ ((expr_text x.1.0 ++ 44 ∷ []) ++ (condition_text x.1.1 ++ 41 ∷ []))

  abbrev hold_size : Expr × (Expr × Condition) → ℕ
  hold_size x = expr_size x.0 + (expr_size x.1.0 + 0)

  abbrev IsHold : Expr × (Expr × Condition) → Type 0
  IsHold x = IsExpr x.0 × (IsExpr x.1.0 × IsCondition x.1.1)

  abbrev hold_item : Item (Expr × (Expr × Condition))
  hold_item = followed (ended 44 expr_at) (followed (ended 44 expr_at) (ended 41 (uncounted condition_at)))

  hold_args : Spells hold_item hold_text hold_size IsHold Anything
  hold_args =
      let last : Spells (followed (ended 44 expr_at) (ended 41 (uncounted condition_at))) (λ x. (expr_text x.0 ++ 44 ∷ []) ++ (condition_text x.1 ++ 41 ∷ [])) (λ x. expr_size x.0 + 0) (λ x. IsExpr x.0 × IsCondition x.1) Anything =
      followed_spells (ended 44 expr_at) (ended 41 (uncounted condition_at)) (λ x. expr_text x ++ 44 ∷ []) (λ c. condition_text c ++ 41 ∷ []) expr_size nothing IsExpr IsCondition Anything comma_expr close_condition in
      followed_spells (ended 44 expr_at) (followed (ended 44 expr_at) (ended 41 (uncounted condition_at))) (λ x. expr_text x ++ 44 ∷ []) (λ x. (expr_text x.0 ++ 44 ∷ []) ++ (condition_text x.1 ++ 41 ∷ [])) expr_size (λ x. expr_size x.0 + 0) IsExpr (λ x. IsExpr x.0 × IsCondition x.1) Anything comma_expr last

  hold_row : Row n (codes "hold") (λ (x : Expr × (Expr × Condition)). st.Hold x.0 x.1.0 x.1.1) hold_text hold_size IsHold
  unfolding layer_statement_text layer_statement_size
  hold_row = record {
    spelled = λ x. (form n (Statement-F.Hold x.0 x.1.0 x.1.1) (st.Hold x.0 x.1.0 x.1.1) (rolls-Hold x.0 x.1.0 x.1.1)).text ∙ three_parts (codes "hold") (expr_text x.0) (expr_text x.1.0) (condition_text x.1.1);
    counted = λ x. let z = (form n (Statement-F.Hold x.0 x.1.0 x.1.1) (st.Hold x.0 x.1.0 x.1.1) (rolls-Hold x.0 x.1.0 x.1.1)).size in omega (arith, z);
    nested = λ x is. (form n (Statement-F.Hold x.0 x.1.0 x.1.1) (st.Hold x.0 x.1.0 x.1.1) (rolls-Hold x.0 x.1.0 x.1.1)).nested (is.0, is.1.0, is.1.1);
  }

  abbrev Block : Type 0
  Block = List Statement

  abbrev if_text : Expr × (Block × Block) → List ℕ
  if_text x = (expr_text x.0 ++ 41 ∷ []) ++ ((123 ∷ block_text x.1.0) ++ (123 ∷ block_text x.1.1))

  abbrev if_size : Expr × (Block × Block) → ℕ
  if_size x = expr_size x.0 + (block_size x.1.0 + block_size x.1.1)

  abbrev IsIf : Expr × (Block × Block) → Type 0
  IsIf x = IsExpr x.0 × (IsBlock n x.1.0 × IsBlock n x.1.1)

  abbrev if_item : Item (Expr × (Block × Block))
  if_item = followed (ended 41 expr_at) (followed (behind 123 inner) (behind 123 inner))

  if_args : Spells if_item if_text if_size IsIf Anything
  if_args =
      let blocks : Spells (followed (behind 123 inner) (behind 123 inner)) (λ x. (123 ∷ block_text x.0) ++ (123 ∷ block_text x.1)) (λ x. block_size x.0 + block_size x.1) (λ x. IsBlock n x.0 × IsBlock n x.1) Anything =
      followed_spells (behind 123 inner) (behind 123 inner) (λ b. 123 ∷ block_text b) (λ b. 123 ∷ block_text b) block_size block_size (IsBlock n) (IsBlock n) Anything braced_block braced_block in
      followed_spells (ended 41 expr_at) (followed (behind 123 inner) (behind 123 inner)) (λ x. expr_text x ++ 41 ∷ []) (λ x. (123 ∷ block_text x.0) ++ (123 ∷ block_text x.1)) expr_size (λ x. block_size x.0 + block_size x.1) IsExpr (λ x. IsBlock n x.0 × IsBlock n x.1) Anything close_expr blocks

  if_row : Row n (codes "if") (λ (x : Expr × (Block × Block)). st.If x.0 x.1.0 x.1.1) if_text if_size IsIf
  unfolding layer_statement_text layer_statement_size
  if_row = record {
    spelled = λ x. (form n (Statement-F.If x.0 x.1.0 x.1.1) (st.If x.0 x.1.0 x.1.1) (rolls-If x.0 x.1.0 x.1.1)).text ∙ append_assoc (codes "if") (40 ∷ (expr_text x.0 ++ 41 ∷ [])) ((123 ∷ block_text x.1.0) ++ (123 ∷ block_text x.1.1));
    counted = λ x. (form n (Statement-F.If x.0 x.1.0 x.1.1) (st.If x.0 x.1.0 x.1.1) (rolls-If x.0 x.1.0 x.1.1)).size;
    nested = λ x is. (form n (Statement-F.If x.0 x.1.0 x.1.1) (st.If x.0 x.1.0 x.1.1) (rolls-If x.0 x.1.0 x.1.1)).nested (is.0, is.1.0, is.1.1);
  }

  abbrev each_text : Register × (List PatternPart × Block) → List ℕ
  each_text x = (register_text x.0 ++ 44 ∷ []) ++ ((pattern_text x.1.0 ++ 41 ∷ []) ++ (123 ∷ block_text x.1.1))

  abbrev each_size : Register × (List PatternPart × Block) → ℕ
  each_size x = 0 + (0 + block_size x.1.1)

  abbrev IsEach : Register × (List PatternPart × Block) → Type 0
  IsEach x = IsRegister x.0 × (IsPattern x.1.0 × IsBlock n x.1.1)

  abbrev each_item : Item (Register × (List PatternPart × Block))
  each_item = followed register_named (followed (ended 41 (uncounted pattern_at)) (behind 123 inner))

  each_args : Spells each_item each_text each_size IsEach Anything
  each_args =
      let last : Spells (followed (ended 41 (uncounted pattern_at)) (behind 123 inner)) (λ x. (pattern_text x.0 ++ 41 ∷ []) ++ (123 ∷ block_text x.1)) (λ x. 0 + block_size x.1) (λ x. IsPattern x.0 × IsBlock n x.1) Anything =
      followed_spells (ended 41 (uncounted pattern_at)) (behind 123 inner) (λ x. pattern_text x ++ 41 ∷ []) (λ b. 123 ∷ block_text b) nothing block_size IsPattern (IsBlock n) Anything close_pattern braced_block in
      followed_spells register_named (followed (ended 41 (uncounted pattern_at)) (behind 123 inner)) (λ x. register_text x ++ 44 ∷ []) (λ x. (pattern_text x.0 ++ 41 ∷ []) ++ (123 ∷ block_text x.1)) nothing (λ x. 0 + block_size x.1) IsRegister (λ x. IsPattern x.0 × IsBlock n x.1) Anything comma_register last

  -- `REG,PATTERN)` and a block, as they are spelled and as they are read
  each_parts : (a b c : List ℕ) → asked_text (codes "each") (two_texts a b) ++ c ≡ codes "each" ++ 40 ∷ ((a ++ 44 ∷ []) ++ ((b ++ 41 ∷ []) ++ c))
  each_parts a b c =
      ap (λ (t : List ℕ). t ++ c) (two_parts (codes "each") a b)
      ∙ (append_assoc (codes "each") (40 ∷ ((a ++ 44 ∷ []) ++ (b ++ 41 ∷ []))) c
      ∙ ap (λ (t : List ℕ). codes "each" ++ 40 ∷ t) (append_assoc (a ++ 44 ∷ []) (b ++ 41 ∷ []) c))

  each_row : Row n (codes "each") (λ (x : Register × (List PatternPart × Block)). st.Each x.0 x.1.0 x.1.1) each_text each_size IsEach
  unfolding layer_statement_text layer_statement_size
  each_row = record {
    spelled = λ x. (form n (Statement-F.Each x.0 x.1.0 x.1.1) (st.Each x.0 x.1.0 x.1.1) (rolls-Each x.0 x.1.0 x.1.1)).text ∙ each_parts (register_text x.0) (pattern_text x.1.0) (123 ∷ block_text x.1.1);
    counted = λ x. let z = (form n (Statement-F.Each x.0 x.1.0 x.1.1) (st.Each x.0 x.1.0 x.1.1) (rolls-Each x.0 x.1.0 x.1.1)).size in omega (arith, z);
    nested = λ x is. (form n (Statement-F.Each x.0 x.1.0 x.1.1) (st.Each x.0 x.1.0 x.1.1) (rolls-Each x.0 x.1.0 x.1.1)).nested (is.0, is.1.0, is.1.1);
  }

  arguments_takes : (w : StatementWord) (k : ℕ) (t : List ℕ) (x : Statement × ℕ × List ℕ) → statement_arguments inner w k t ≡ Some x → WasBehind n k (statement_word_text w) t x
  unfolding statement_arguments statement_word_text
  arguments_takes (statements.Deed w) k t x h = row_takes n (deed_word_text w) (deed w) (ended 41 expr_at) deed_text expr_size IsExpr close_expr (deed_row w) k t x h
  arguments_takes statements.Let k t x h = row_takes n (codes "let") (λ (x : Register × Expr). st.Let x.0 x.1) (followed register_named (ended 41 expr_at)) let_text let_size IsLet let_args let_row k t x h
  arguments_takes statements.Put k t x h = row_takes n (codes "put") (λ (x : Expr × Expr). st.Put x.0 x.1) (followed (ended 44 expr_at) (ended 41 expr_at)) put_text put_size IsPut put_args put_row k t x h
  arguments_takes statements.Hold k t x h = row_takes n (codes "hold") (λ (x : Expr × (Expr × Condition)). st.Hold x.0 x.1.0 x.1.1) hold_item hold_text hold_size IsHold hold_args hold_row k t x h
  arguments_takes statements.If k t x h = row_takes n (codes "if") (λ (x : Expr × (Block × Block)). st.If x.0 x.1.0 x.1.1) if_item if_text if_size IsIf if_args if_row k t x h
  arguments_takes statements.Each k t x h = row_takes n (codes "each") (λ (x : Register × (List PatternPart × Block)). st.Each x.0 x.1.0 x.1.1) each_item each_text each_size IsEach each_args each_row k t x h

  takes : (left : ℕ) (t : List ℕ) (x : Statement × ℕ × List ℕ) → statement_at inner left t ≡ Some x → Was statement_text statement_size (IsNested n) left t x
  unfolding statement_at
  takes zero t x h = absurd cc
  takes (suc k) t x h =
      let w = bind_some (statement_word_at t) (λ w. statement_arguments inner w.0 k w.1) x h in
      let a = arguments_takes w.0.0 k w.0.1 x w.2 in
      (statement_word_takes t w.0 w.1 ∙ a.0, a.1, a.2)

  -- a statement that is spelled is read, and then what is behind it
  abbrev Reads : Statement → ℕ → ℕ → List ℕ → Type 0
  Reads v k more rest = statement_size v + more ≡ suc k → statement_at inner (suc k) (statement_text v ++ rest) ≡ Some (v, more, rest)

  behind_word : (w : StatementWord) (k : ℕ) (t : List ℕ) → statement_at inner (suc k) (statement_word_text w ++ 40 ∷ t) ≡ statement_arguments inner w k t
  unfolding statement_at
  behind_word w k t = ap (λ (o : Option (StatementWord × List ℕ)). o >>= λ w. statement_arguments inner w.0 k w.1) (statement_word_again w t)

  form_again : {A : Type 0} (w : StatementWord) (make : A → Statement) (args : Item A) (text : A → List ℕ) (size : A → ℕ) (Is : A → Type 0) → Spells args text size Is Anything → Row n (statement_word_text w) make text size Is
      → ((k : ℕ) (t : List ℕ) → statement_arguments inner w k t ≡ made make (args k t)) → (x : A) (k more : ℕ) (rest : List ℕ) → Is x → Reads (make x) k more rest
  form_again {A = A} w make args text size Is spells row same x k more rest is sum =
      ap (λ (t : List ℕ). statement_at inner (suc k) (t ++ rest)) (row.spelled x)
      ∙ (ap (statement_at inner (suc k)) (append_assoc (statement_word_text w) (40 ∷ text x) rest)
      ∙ (behind_word w k (text x ++ rest)
      ∙ (same k (text x ++ rest) ∙ ap (made make) (spells.again x k more rest is tt (omega (arith, sum, row.counted x))))))

  deed_again : (w : DeedWord) (a : Expr) (k more : ℕ) (rest : List ℕ) → IsExpr a → Reads (deed w a) k more rest
  unfolding statement_arguments statement_word_text
  deed_again w a k more rest is = form_again (statements.Deed w) (deed w) (ended 41 expr_at) deed_text expr_size IsExpr close_expr (deed_row w) (λ k t. refl) a k more rest is

  let_again : (x : Register × Expr) (k more : ℕ) (rest : List ℕ) → IsLet x → Reads (st.Let x.0 x.1) k more rest
  unfolding statement_arguments statement_word_text
  let_again x k more rest is = form_again statements.Let (λ (x : Register × Expr). st.Let x.0 x.1) (followed register_named (ended 41 expr_at)) let_text let_size IsLet let_args let_row (λ k t. refl) x k more rest is

  put_again : (x : Expr × Expr) (k more : ℕ) (rest : List ℕ) → IsPut x → Reads (st.Put x.0 x.1) k more rest
  unfolding statement_arguments statement_word_text
  put_again x k more rest is = form_again statements.Put (λ (x : Expr × Expr). st.Put x.0 x.1) (followed (ended 44 expr_at) (ended 41 expr_at)) put_text put_size IsPut put_args put_row (λ k t. refl) x k more rest is

  hold_again : (x : Expr × (Expr × Condition)) (k more : ℕ) (rest : List ℕ) → IsHold x → Reads (st.Hold x.0 x.1.0 x.1.1) k more rest
  unfolding statement_arguments statement_word_text
  hold_again x k more rest is = form_again statements.Hold (λ (x : Expr × (Expr × Condition)). st.Hold x.0 x.1.0 x.1.1) hold_item hold_text hold_size IsHold hold_args hold_row (λ k t. refl) x k more rest is

  if_again : (x : Expr × (Block × Block)) (k more : ℕ) (rest : List ℕ) → IsIf x → Reads (st.If x.0 x.1.0 x.1.1) k more rest
  unfolding statement_arguments statement_word_text
  if_again x k more rest is = form_again statements.If (λ (x : Expr × (Block × Block)). st.If x.0 x.1.0 x.1.1) if_item if_text if_size IsIf if_args if_row (λ k t. refl) x k more rest is

  each_again : (x : Register × (List PatternPart × Block)) (k more : ℕ) (rest : List ℕ) → IsEach x → Reads (st.Each x.0 x.1.0 x.1.1) k more rest
  unfolding statement_arguments statement_word_text
  each_again x k more rest is = form_again statements.Each (λ (x : Register × (List PatternPart × Block)). st.Each x.0 x.1.0 x.1.1) each_item each_text each_size IsEach each_args each_row (λ k t. refl) x k more rest is

  rolled : (l : Statement-F Statement) (v : Statement) (k more : ℕ) (rest : List ℕ) → roll-Statement l ≡ v → Reads v k more rest → Reads (roll-Statement l) k more rest
  rolled l v k more rest is h = subst (λ (x : Statement). Reads x k more rest) (sym is) h

  layer_again : (l : Statement-F Statement) (k more : ℕ) (rest : List ℕ) → IsStatementLayer (IsBlock n) l → Reads (roll-Statement l) k more rest
  layer_again (Statement-F.Let reg a) k more rest is = rolled (Statement-F.Let reg a) (st.Let reg a) k more rest (rolls-Let reg a) (let_again (reg, a) k more rest is)
  layer_again (Statement-F.Put a b) k more rest is = rolled (Statement-F.Put a b) (st.Put a b) k more rest (rolls-Put a b) (put_again (a, b) k more rest is)
  layer_again (Statement-F.Clear a) k more rest is = rolled (Statement-F.Clear a) (st.Clear a) k more rest (rolls-Clear a) (deed_again deeds.Clear a k more rest is)
  layer_again (Statement-F.Del a) k more rest is = rolled (Statement-F.Del a) (st.Del a) k more rest (rolls-Del a) (deed_again deeds.Del a k more rest is)
  layer_again (Statement-F.Hold a b c) k more rest is = rolled (Statement-F.Hold a b c) (st.Hold a b c) k more rest (rolls-Hold a b c) (hold_again (a, (b, c)) k more rest (is.0, (is.1, is.2)))
  layer_again (Statement-F.Free a) k more rest is = rolled (Statement-F.Free a) (st.Free a) k more rest (rolls-Free a) (deed_again deeds.Free a k more rest is)
  layer_again (Statement-F.Emit a) k more rest is = rolled (Statement-F.Emit a) (st.Emit a) k more rest (rolls-Emit a) (deed_again deeds.Emit a k more rest is)
  layer_again (Statement-F.Abort a) k more rest is = rolled (Statement-F.Abort a) (st.Abort a) k more rest (rolls-Abort a) (deed_again deeds.Abort a k more rest is)
  layer_again (Statement-F.If a b c) k more rest is = rolled (Statement-F.If a b c) (st.If a b c) k more rest (rolls-If a b c) (if_again (a, (b, c)) k more rest (is.0, (is.1, is.2)))
  layer_again (Statement-F.Each reg p b) k more rest is = rolled (Statement-F.Each reg p b) (st.Each reg p b) k more rest (rolls-Each reg p b) (each_again (reg, (p, b)) k more rest (is.0, (is.1, is.2)))

-- ---- blocks

-- a statement counts itself
layer_counts : (l : Statement-F Statement) → 1 ≤ layer_statement_size (map-Statement Statement ℕ statement_size l)
unfolding layer_statement_size
layer_counts (Statement-F.Let reg a) = omega arith
layer_counts (Statement-F.Put a b) = omega arith
layer_counts (Statement-F.Clear a) = omega arith
layer_counts (Statement-F.Del a) = omega arith
layer_counts (Statement-F.Hold a b c) = omega arith
layer_counts (Statement-F.Free a) = omega arith
layer_counts (Statement-F.Emit a) = omega arith
layer_counts (Statement-F.Abort a) = omega arith
layer_counts (Statement-F.If a b c) = omega arith
layer_counts (Statement-F.Each reg p b) = omega arith

size_some : (x : Statement) → 1 ≤ statement_size x
size_some x = subst (λ (y : Statement). 1 ≤ statement_size y) (roll-out-Statement x) (subst (λ (m : ℕ). 1 ≤ m) (sym (fold-roll-Statement ℕ layer_statement_size (out-Statement x))) (layer_counts (out-Statement x)))

again : (n : ℕ) (inner : Item (List Statement)) → Spells inner block_text block_size (IsBlock n) Anything → (x : Statement) (left more : ℕ) (rest : List ℕ) → IsNested n x → Anything rest → statement_size x + more ≡ left → statement_at inner left (statement_text x ++ rest) ≡ Some (x, more, rest)
again n inner s x zero more rest is fine sum = absurd (omega (arith, size_some x, sum))
again n inner s x (suc k) more rest is fine sum =
    subst (λ (y : Statement). statement_size y + more ≡ suc k → statement_at inner (suc k) (statement_text y ++ rest) ≡ Some (y, more, rest)) (roll-out-Statement x)
    (layer_again n inner s (out-Statement x) k more rest is) sum

statement_spells : (n : ℕ) (inner : Item (List Statement)) → Spells inner block_text block_size (IsBlock n) Anything → Spells (statement_at inner) statement_text statement_size (IsNested n) Anything
statement_spells n inner s = record { takes = takes n inner s; again = again n inner s }

-- no statement begins with a byte that closes a block
brace_none : (inner : Item (List Statement)) (left : ℕ) (rest : List ℕ) → statement_at inner left (125 ∷ rest) ≡ None
unfolding statement_at statement_word_at longer_word_at deed_word_at
brace_none inner zero rest = refl
brace_none inner (suc left) rest = refl

angle_none : (inner : Item (List Statement)) (left : ℕ) (rest : List ℕ) → statement_at inner left (62 ∷ rest) ≡ None
unfolding statement_at statement_word_at longer_word_at deed_word_at
angle_none inner zero rest = refl
angle_none inner (suc left) rest = refl

empty_none : (inner : Item (List Statement)) (left : ℕ) → statement_at inner left [] ≡ None
unfolding statement_at statement_word_at longer_word_at deed_word_at
empty_none inner zero = refl
empty_none inner (suc left) = refl

brace_closes : IsClose 125
brace_closes = record { same = refl; other = refl }

angle_closes : IsClose 62
angle_closes = record { same = refl; other = refl }

abbrev closed_text : ℕ → List Statement → List ℕ
closed_text close b = block_joined (map statement_text b) ++ close ∷ []

no_block : (close left : ℕ) (t : List ℕ) (x : List Statement × ℕ × List ℕ) → block_at zero close left t ≡ Some x → Was (closed_text close) block_size (IsBlock zero) left t x
unfolding block_at
no_block close left t x h = absurd cc

-- the block reading, one block more
deeper : (n close : ℕ) → Spells (items_at close (statement_at (block_at n 125))) (closed_text close) block_size (IsBlock (suc n)) Anything → Spells (block_at (suc n) close) (closed_text close) block_size (IsBlock (suc n)) Anything
unfolding block_at
deeper n close s = s

braces_spell : (n : ℕ) → Spells (block_at n 125) block_text block_size (IsBlock n) Anything
braces_spell zero = record { takes = no_block 125; again = λ x left more rest is fine sum. absurd is }
braces_spell (suc n) =
    deeper n 125 (items_spells 125 (statement_at (block_at n 125)) statement_text statement_size (IsNested n) Anything brace_closes (statement_spells n (block_at n 125) (braces_spell n)) (λ rest. tt) (λ rest. tt) size_some (brace_none (block_at n 125)) (empty_none (block_at n 125)))

angles_spell : (n : ℕ) → Spells (block_at (suc n) 62) (closed_text 62) block_size (IsBlock (suc n)) Anything
angles_spell n =
    deeper n 62 (items_spells 62 (statement_at (block_at n 125)) statement_text statement_size (IsNested n) Anything angle_closes (statement_spells n (block_at n 125) (braces_spell n)) (λ rest. tt) (λ rest. tt) size_some (angle_none (block_at n 125)) (empty_none (block_at n 125)))

-- ---- scripts

opened_spells : Spells (behind 60 (block_at MAX_BLOCK_NESTING 62)) (λ b. 60 ∷ closed_text 62 b) block_size (IsBlock MAX_BLOCK_NESTING) Anything
opened_spells = behind_spells 60 (block_at MAX_BLOCK_NESTING 62) (closed_text 62) block_size (IsBlock MAX_BLOCK_NESTING) Anything refl (angles_spell 7)

script_text-is : (b : List Statement) → script_text b ≡ 60 ∷ closed_text 62 b
unfolding script_text
script_text-is b = refl

of_takes : (t : List ℕ) (o : Option (List Statement × ℕ × List ℕ)) (x : List Statement × List ℕ) → script_of t o ≡ Some x → (y : List Statement × ℕ × List ℕ) × (o ≡ Some y) × (leb (length t - length y.2) MAX_SCRIPT_TEXT ≡ true) × ((y.0, y.2) ≡ x)
of_takes t None x e = absurd cc
of_takes t (Some y) x e = let g = guard_some (leb (length t - length y.2) MAX_SCRIPT_TEXT) (Some (y.0, y.2)) x e in (y, refl, g.0, some_is (y.0, y.2) x g.1)

pub script_takes : (t : List ℕ) (x : List Statement × List ℕ) → script_at t ≡ Some x → (t ≡ script_text x.0 ++ x.1) × IsScript x.0
unfolding script_at
script_takes t x e =
    let o = of_takes t (behind 60 (block_at MAX_BLOCK_NESTING 62) MAX_SCRIPT_PARTS t) x e in
    let w = opened_spells.takes MAX_SCRIPT_PARTS t o.0 o.1 in
    let b : List Statement = o.0.0 in
    let rest : List ℕ = o.0.2 in
    let parts : t ≡ script_text b ++ rest = w.0 ∙ ap (λ (u : List ℕ). u ++ rest) (sym (script_text-is b)) in
    let less : length t - length rest ≤ MAX_SCRIPT_TEXT = leb-true (length t - length rest) MAX_SCRIPT_TEXT o.2 in
    let long : length t ≡ length (script_text b) + length rest = ap length parts ∙ length-append (script_text b) rest in
    subst (λ (y : List Statement × List ℕ). (t ≡ script_text y.0 ++ y.1) × IsScript y.0) o.3
    (parts, record { nested = w.1; few = omega (arith, w.2); short = omega (arith, less, long) })

pub script_again : (b : List Statement) (rest : List ℕ) → IsScript b → script_at (script_text b ++ rest) ≡ Some (b, rest)
unfolding script_at
script_again b rest is =
    let t : List ℕ = script_text b ++ rest in
    let few : block_size b ≤ MAX_SCRIPT_PARTS = is.few in
    let sum : block_size b + (MAX_SCRIPT_PARTS - block_size b) ≡ MAX_SCRIPT_PARTS = omega (arith, few) in
    let read : behind 60 (block_at MAX_BLOCK_NESTING 62) MAX_SCRIPT_PARTS t ≡ Some (b, MAX_SCRIPT_PARTS - block_size b, rest) =
    ap (λ (u : List ℕ). behind 60 (block_at MAX_BLOCK_NESTING 62) MAX_SCRIPT_PARTS (u ++ rest)) (script_text-is b) ∙ opened_spells.again b MAX_SCRIPT_PARTS (MAX_SCRIPT_PARTS - block_size b) rest is.nested tt sum in
    let fits : length t - length rest ≤ MAX_SCRIPT_TEXT = omega (arith, is.short, length-append (script_text b) rest) in
    ap (script_of t) read ∙ cond-true _ _ _ (le-leb (length t - length rest) MAX_SCRIPT_TEXT fits)
