-- What is printed of each statement is its spelling.
use Rattle.std.proofs.Common.{◌≡◌, ℕ, List, ◌++◌, sym, ap, ◌∙◌, map, codes}
use Rattle.khepri_types.specs.declared.condition.Condition.{Condition}
use Rattle.khepri_types.specs.declared.pattern.PatternPart.{PatternPart}
use Rattle.khepri_types.specs.declared.register.Register.{Register}
use Rattle.khepri_types.specs.declared.script.Expr.{Expr}
use Rattle.khepri_types.specs.declared.script.Statement.{Statement, roll-Statement}
use Rattle.khepri_types.specs.declared.script.Statement.TheVariants as s
use Rattle.khepri_types.specs.declared.script.Statement.TheVariants.{rolls-Let, rolls-Put, rolls-Clear, rolls-Del, rolls-Hold, rolls-Free, rolls-Emit, rolls-Abort, rolls-If, rolls-Each}
use Rattle.khepri_types.specs.declared.script.Statement.TheFolds.{fold-roll-Statement}
use Rattle.khepri_types.specs.declared.script.Statement.TheOpen.{Statement-F}
use Rattle.khepri_types.specs.ConditionTexts.{asked_text, condition_text}
use Rattle.khepri_types.specs.PatternTexts.{pattern_text}
use Rattle.khepri_types.specs.ScriptTexts.{register_text, expr_text, two_texts, three_texts, braced, layer_statement_text, statement_text}

said : (F : Statement-F Statement) (u v : Statement) (t old new : List ℕ) → roll-Statement F ≡ u → v ≡ u → statement_text (roll-Statement F) ≡ t → new ≡ old ++ t → new ≡ old ++ statement_text v
said F u v t old new r is text d = d ∙ ap (λ (x : List ℕ). old ++ x) (sym text ∙ ap statement_text (r ∙ sym is))

pub let_printed : (reg : Register) (a : Expr) (v : Statement) (old new : List ℕ) → v ≡ s.Let reg a → new ≡ old ++ asked_text (codes "let") (two_texts (register_text reg) (expr_text a)) → new ≡ old ++ statement_text v
unfolding layer_statement_text
let_printed reg a v old new is d = said (Statement-F.Let reg a) (s.Let reg a) v (asked_text (codes "let") (two_texts (register_text reg) (expr_text a))) old new (rolls-Let reg a) is (fold-roll-Statement (List ℕ) layer_statement_text (Statement-F.Let reg a)) d

pub put_printed : (a : Expr) (b : Expr) (v : Statement) (old new : List ℕ) → v ≡ s.Put a b → new ≡ old ++ asked_text (codes "put") (two_texts (expr_text a) (expr_text b)) → new ≡ old ++ statement_text v
unfolding layer_statement_text
put_printed a b v old new is d = said (Statement-F.Put a b) (s.Put a b) v (asked_text (codes "put") (two_texts (expr_text a) (expr_text b))) old new (rolls-Put a b) is (fold-roll-Statement (List ℕ) layer_statement_text (Statement-F.Put a b)) d

pub clear_printed : (a : Expr) (v : Statement) (old new : List ℕ) → v ≡ s.Clear a → new ≡ old ++ asked_text (codes "clear") (expr_text a) → new ≡ old ++ statement_text v
unfolding layer_statement_text
clear_printed a v old new is d = said (Statement-F.Clear a) (s.Clear a) v (asked_text (codes "clear") (expr_text a)) old new (rolls-Clear a) is (fold-roll-Statement (List ℕ) layer_statement_text (Statement-F.Clear a)) d

pub del_printed : (a : Expr) (v : Statement) (old new : List ℕ) → v ≡ s.Del a → new ≡ old ++ asked_text (codes "del") (expr_text a) → new ≡ old ++ statement_text v
unfolding layer_statement_text
del_printed a v old new is d = said (Statement-F.Del a) (s.Del a) v (asked_text (codes "del") (expr_text a)) old new (rolls-Del a) is (fold-roll-Statement (List ℕ) layer_statement_text (Statement-F.Del a)) d

pub hold_printed : (a : Expr) (b : Expr) (cond : Condition) (v : Statement) (old new : List ℕ) → v ≡ s.Hold a b cond → new ≡ old ++ asked_text (codes "hold") (three_texts (expr_text a) (expr_text b) (condition_text cond)) → new ≡ old ++ statement_text v
unfolding layer_statement_text
hold_printed a b cond v old new is d = said (Statement-F.Hold a b cond) (s.Hold a b cond) v (asked_text (codes "hold") (three_texts (expr_text a) (expr_text b) (condition_text cond))) old new (rolls-Hold a b cond) is (fold-roll-Statement (List ℕ) layer_statement_text (Statement-F.Hold a b cond)) d

pub free_printed : (a : Expr) (v : Statement) (old new : List ℕ) → v ≡ s.Free a → new ≡ old ++ asked_text (codes "free") (expr_text a) → new ≡ old ++ statement_text v
unfolding layer_statement_text
free_printed a v old new is d = said (Statement-F.Free a) (s.Free a) v (asked_text (codes "free") (expr_text a)) old new (rolls-Free a) is (fold-roll-Statement (List ℕ) layer_statement_text (Statement-F.Free a)) d

pub emit_printed : (a : Expr) (v : Statement) (old new : List ℕ) → v ≡ s.Emit a → new ≡ old ++ asked_text (codes "emit") (expr_text a) → new ≡ old ++ statement_text v
unfolding layer_statement_text
emit_printed a v old new is d = said (Statement-F.Emit a) (s.Emit a) v (asked_text (codes "emit") (expr_text a)) old new (rolls-Emit a) is (fold-roll-Statement (List ℕ) layer_statement_text (Statement-F.Emit a)) d

pub abort_printed : (a : Expr) (v : Statement) (old new : List ℕ) → v ≡ s.Abort a → new ≡ old ++ asked_text (codes "abort") (expr_text a) → new ≡ old ++ statement_text v
unfolding layer_statement_text
abort_printed a v old new is d = said (Statement-F.Abort a) (s.Abort a) v (asked_text (codes "abort") (expr_text a)) old new (rolls-Abort a) is (fold-roll-Statement (List ℕ) layer_statement_text (Statement-F.Abort a)) d

pub if_printed : (x : Expr) (a : List Statement) (b : List Statement) (v : Statement) (old new : List ℕ) → v ≡ s.If x a b → new ≡ old ++ (asked_text (codes "if") (expr_text x) ++ (braced (map statement_text a) ++ braced (map statement_text b))) → new ≡ old ++ statement_text v
unfolding layer_statement_text
if_printed x a b v old new is d = said (Statement-F.If x a b) (s.If x a b) v (asked_text (codes "if") (expr_text x) ++ (braced (map statement_text a) ++ braced (map statement_text b))) old new (rolls-If x a b) is (fold-roll-Statement (List ℕ) layer_statement_text (Statement-F.If x a b)) d

pub each_printed : (reg : Register) (pattern : List PatternPart) (body : List Statement) (v : Statement) (old new : List ℕ) → v ≡ s.Each reg pattern body → new ≡ old ++ (asked_text (codes "each") (two_texts (register_text reg) (pattern_text pattern)) ++ braced (map statement_text body)) → new ≡ old ++ statement_text v
unfolding layer_statement_text
each_printed reg pattern body v old new is d = said (Statement-F.Each reg pattern body) (s.Each reg pattern body) v (asked_text (codes "each") (two_texts (register_text reg) (pattern_text pattern)) ++ braced (map statement_text body)) old new (rolls-Each reg pattern body) is (fold-roll-Statement (List ℕ) layer_statement_text (Statement-F.Each reg pattern body)) d
