-- What is printed of each expression is its spelling.
use Rattle.std.proofs.Common.{◌≡◌, ℕ, List, ◌++◌, sym, ap, ◌∙◌, codes}
use Rattle.std.specs.Prelude.{ℤ}
use Rattle.std.specs.Fmt.{signed_decimal}
use Rattle.khepri_terms.specs.Terms.{NameText}
use Rattle.khepri_terms.specs.Names.{comp_text}
use Rattle.khepri_terms.specs.Paths.{path_text}
use Rattle.khepri_terms.specs.Records.{rec_text}
use Rattle.khepri_terms.specs.declared.rec.Field.{Field}
use Rattle.khepri_types.specs.declared.compare.Compare.{Compare}
use Rattle.khepri_types.specs.declared.condition.Condition.{Condition}
use Rattle.khepri_types.specs.declared.register.Register.{Register}
use Rattle.khepri_types.specs.declared.script.Expr.{Expr, roll-Expr}
use Rattle.khepri_types.specs.declared.script.Expr.TheVariants as e
use Rattle.khepri_types.specs.declared.script.Expr.TheVariants.{rolls-Int, rolls-Text, rolls-Path, rolls-Rec, rolls-Register, rolls-Add, rolls-Sub, rolls-Cat, rolls-IntField, rolls-TextField, rolls-Data, rolls-Pv, rolls-Cv, rolls-Kids, rolls-Last, rolls-Child, rolls-With, rolls-Compare, rolls-Test, rolls-Not, rolls-All, rolls-Any}
use Rattle.khepri_types.specs.declared.script.Expr.TheFolds.{fold-roll-Expr}
use Rattle.khepri_types.specs.declared.script.Expr.TheOpen.{Expr-F}
use Rattle.khepri_types.specs.Compares.{compare_text}
use Rattle.khepri_types.specs.ConditionTexts.{asked_text, condition_text}
use Rattle.khepri_types.specs.ScriptTexts.{register_text, quoted, two_texts, three_texts, layer_expr_text, expr_text}

said : (F : Expr-F Expr) (u v : Expr) (t old new : List ℕ) → roll-Expr F ≡ u → v ≡ u → expr_text (roll-Expr F) ≡ t → new ≡ old ++ t → new ≡ old ++ expr_text v
said F u v t old new r is text d = d ∙ ap (λ (x : List ℕ). old ++ x) (sym text ∙ ap expr_text (r ∙ sym is))

pub int_printed : (z : ℤ) (v : Expr) (old new : List ℕ) → v ≡ e.Int z → new ≡ old ++ signed_decimal z → new ≡ old ++ expr_text v
unfolding layer_expr_text
int_printed z v old new is d = said (Expr-F.Int z) (e.Int z) v (signed_decimal z) old new (rolls-Int z) is (fold-roll-Expr (List ℕ) layer_expr_text (Expr-F.Int z)) d

pub text_printed : (b : List ℕ) (v : Expr) (old new : List ℕ) → v ≡ e.Text b → new ≡ old ++ quoted b → new ≡ old ++ expr_text v
unfolding layer_expr_text
text_printed b v old new is d = said (Expr-F.Text b) (e.Text b) v (quoted b) old new (rolls-Text b) is (fold-roll-Expr (List ℕ) layer_expr_text (Expr-F.Text b)) d

pub path_printed : (p : List NameText) (v : Expr) (old new : List ℕ) → v ≡ e.Path p → new ≡ old ++ path_text p → new ≡ old ++ expr_text v
unfolding layer_expr_text
path_printed p v old new is d = said (Expr-F.Path p) (e.Path p) v (path_text p) old new (rolls-Path p) is (fold-roll-Expr (List ℕ) layer_expr_text (Expr-F.Path p)) d

pub rec_printed : (f : List Field) (v : Expr) (old new : List ℕ) → v ≡ e.Rec f → new ≡ old ++ rec_text f → new ≡ old ++ expr_text v
unfolding layer_expr_text
rec_printed f v old new is d = said (Expr-F.Rec f) (e.Rec f) v (rec_text f) old new (rolls-Rec f) is (fold-roll-Expr (List ℕ) layer_expr_text (Expr-F.Rec f)) d

pub register_printed : (reg : Register) (v : Expr) (old new : List ℕ) → v ≡ e.Register reg → new ≡ old ++ register_text reg → new ≡ old ++ expr_text v
unfolding layer_expr_text
register_printed reg v old new is d = said (Expr-F.Register reg) (e.Register reg) v (register_text reg) old new (rolls-Register reg) is (fold-roll-Expr (List ℕ) layer_expr_text (Expr-F.Register reg)) d

pub add_printed : (a : Expr) (b : Expr) (v : Expr) (old new : List ℕ) → v ≡ e.Add a b → new ≡ old ++ asked_text (codes "add") (two_texts (expr_text a) (expr_text b)) → new ≡ old ++ expr_text v
unfolding layer_expr_text
add_printed a b v old new is d = said (Expr-F.Add a b) (e.Add a b) v (asked_text (codes "add") (two_texts (expr_text a) (expr_text b))) old new (rolls-Add a b) is (fold-roll-Expr (List ℕ) layer_expr_text (Expr-F.Add a b)) d

pub sub_printed : (a : Expr) (b : Expr) (v : Expr) (old new : List ℕ) → v ≡ e.Sub a b → new ≡ old ++ asked_text (codes "sub") (two_texts (expr_text a) (expr_text b)) → new ≡ old ++ expr_text v
unfolding layer_expr_text
sub_printed a b v old new is d = said (Expr-F.Sub a b) (e.Sub a b) v (asked_text (codes "sub") (two_texts (expr_text a) (expr_text b))) old new (rolls-Sub a b) is (fold-roll-Expr (List ℕ) layer_expr_text (Expr-F.Sub a b)) d

pub cat_printed : (a : Expr) (b : Expr) (v : Expr) (old new : List ℕ) → v ≡ e.Cat a b → new ≡ old ++ asked_text (codes "cat") (two_texts (expr_text a) (expr_text b)) → new ≡ old ++ expr_text v
unfolding layer_expr_text
cat_printed a b v old new is d = said (Expr-F.Cat a b) (e.Cat a b) v (asked_text (codes "cat") (two_texts (expr_text a) (expr_text b))) old new (rolls-Cat a b) is (fold-roll-Expr (List ℕ) layer_expr_text (Expr-F.Cat a b)) d

pub int_field_printed : (a : Expr) (key : NameText) (z : ℤ) (v : Expr) (old new : List ℕ) → v ≡ e.IntField a key z → new ≡ old ++ asked_text (codes "int") (three_texts (expr_text a) (comp_text key) (signed_decimal z)) → new ≡ old ++ expr_text v
unfolding layer_expr_text
int_field_printed a key z v old new is d = said (Expr-F.IntField a key z) (e.IntField a key z) v (asked_text (codes "int") (three_texts (expr_text a) (comp_text key) (signed_decimal z))) old new (rolls-IntField a key z) is (fold-roll-Expr (List ℕ) layer_expr_text (Expr-F.IntField a key z)) d

pub text_field_printed : (a : Expr) (key : NameText) (b : List ℕ) (v : Expr) (old new : List ℕ) → v ≡ e.TextField a key b → new ≡ old ++ asked_text (codes "text") (three_texts (expr_text a) (comp_text key) (quoted b)) → new ≡ old ++ expr_text v
unfolding layer_expr_text
text_field_printed a key b v old new is d = said (Expr-F.TextField a key b) (e.TextField a key b) v (asked_text (codes "text") (three_texts (expr_text a) (comp_text key) (quoted b))) old new (rolls-TextField a key b) is (fold-roll-Expr (List ℕ) layer_expr_text (Expr-F.TextField a key b)) d

pub data_printed : (a : Expr) (v : Expr) (old new : List ℕ) → v ≡ e.Data a → new ≡ old ++ asked_text (codes "data") (expr_text a) → new ≡ old ++ expr_text v
unfolding layer_expr_text
data_printed a v old new is d = said (Expr-F.Data a) (e.Data a) v (asked_text (codes "data") (expr_text a)) old new (rolls-Data a) is (fold-roll-Expr (List ℕ) layer_expr_text (Expr-F.Data a)) d

pub pv_printed : (a : Expr) (v : Expr) (old new : List ℕ) → v ≡ e.Pv a → new ≡ old ++ asked_text (codes "pv") (expr_text a) → new ≡ old ++ expr_text v
unfolding layer_expr_text
pv_printed a v old new is d = said (Expr-F.Pv a) (e.Pv a) v (asked_text (codes "pv") (expr_text a)) old new (rolls-Pv a) is (fold-roll-Expr (List ℕ) layer_expr_text (Expr-F.Pv a)) d

pub cv_printed : (a : Expr) (v : Expr) (old new : List ℕ) → v ≡ e.Cv a → new ≡ old ++ asked_text (codes "cv") (expr_text a) → new ≡ old ++ expr_text v
unfolding layer_expr_text
cv_printed a v old new is d = said (Expr-F.Cv a) (e.Cv a) v (asked_text (codes "cv") (expr_text a)) old new (rolls-Cv a) is (fold-roll-Expr (List ℕ) layer_expr_text (Expr-F.Cv a)) d

pub kids_printed : (a : Expr) (v : Expr) (old new : List ℕ) → v ≡ e.Kids a → new ≡ old ++ asked_text (codes "kids") (expr_text a) → new ≡ old ++ expr_text v
unfolding layer_expr_text
kids_printed a v old new is d = said (Expr-F.Kids a) (e.Kids a) v (asked_text (codes "kids") (expr_text a)) old new (rolls-Kids a) is (fold-roll-Expr (List ℕ) layer_expr_text (Expr-F.Kids a)) d

pub last_printed : (a : Expr) (v : Expr) (old new : List ℕ) → v ≡ e.Last a → new ≡ old ++ asked_text (codes "last") (expr_text a) → new ≡ old ++ expr_text v
unfolding layer_expr_text
last_printed a v old new is d = said (Expr-F.Last a) (e.Last a) v (asked_text (codes "last") (expr_text a)) old new (rolls-Last a) is (fold-roll-Expr (List ℕ) layer_expr_text (Expr-F.Last a)) d

pub child_printed : (a : Expr) (b : Expr) (v : Expr) (old new : List ℕ) → v ≡ e.Child a b → new ≡ old ++ asked_text (codes "child") (two_texts (expr_text a) (expr_text b)) → new ≡ old ++ expr_text v
unfolding layer_expr_text
child_printed a b v old new is d = said (Expr-F.Child a b) (e.Child a b) v (asked_text (codes "child") (two_texts (expr_text a) (expr_text b))) old new (rolls-Child a b) is (fold-roll-Expr (List ℕ) layer_expr_text (Expr-F.Child a b)) d

pub with_printed : (a : Expr) (key : NameText) (b : Expr) (v : Expr) (old new : List ℕ) → v ≡ e.With a key b → new ≡ old ++ asked_text (codes "with") (three_texts (expr_text a) (comp_text key) (expr_text b)) → new ≡ old ++ expr_text v
unfolding layer_expr_text
with_printed a key b v old new is d = said (Expr-F.With a key b) (e.With a key b) v (asked_text (codes "with") (three_texts (expr_text a) (comp_text key) (expr_text b))) old new (rolls-With a key b) is (fold-roll-Expr (List ℕ) layer_expr_text (Expr-F.With a key b)) d

pub compare_printed : (op : Compare) (a : Expr) (b : Expr) (v : Expr) (old new : List ℕ) → v ≡ e.Compare op a b → new ≡ old ++ asked_text (compare_text op) (two_texts (expr_text a) (expr_text b)) → new ≡ old ++ expr_text v
unfolding layer_expr_text
compare_printed op a b v old new is d = said (Expr-F.Compare op a b) (e.Compare op a b) v (asked_text (compare_text op) (two_texts (expr_text a) (expr_text b))) old new (rolls-Compare op a b) is (fold-roll-Expr (List ℕ) layer_expr_text (Expr-F.Compare op a b)) d

pub test_printed : (a : Expr) (cond : Condition) (v : Expr) (old new : List ℕ) → v ≡ e.Test a cond → new ≡ old ++ asked_text (codes "test") (two_texts (expr_text a) (condition_text cond)) → new ≡ old ++ expr_text v
unfolding layer_expr_text
test_printed a cond v old new is d = said (Expr-F.Test a cond) (e.Test a cond) v (asked_text (codes "test") (two_texts (expr_text a) (condition_text cond))) old new (rolls-Test a cond) is (fold-roll-Expr (List ℕ) layer_expr_text (Expr-F.Test a cond)) d

pub not_printed : (a : Expr) (v : Expr) (old new : List ℕ) → v ≡ e.Not a → new ≡ old ++ asked_text (codes "not") (expr_text a) → new ≡ old ++ expr_text v
unfolding layer_expr_text
not_printed a v old new is d = said (Expr-F.Not a) (e.Not a) v (asked_text (codes "not") (expr_text a)) old new (rolls-Not a) is (fold-roll-Expr (List ℕ) layer_expr_text (Expr-F.Not a)) d

pub all_printed : (a : Expr) (b : Expr) (v : Expr) (old new : List ℕ) → v ≡ e.All a b → new ≡ old ++ asked_text (codes "all") (two_texts (expr_text a) (expr_text b)) → new ≡ old ++ expr_text v
unfolding layer_expr_text
all_printed a b v old new is d = said (Expr-F.All a b) (e.All a b) v (asked_text (codes "all") (two_texts (expr_text a) (expr_text b))) old new (rolls-All a b) is (fold-roll-Expr (List ℕ) layer_expr_text (Expr-F.All a b)) d

pub any_printed : (a : Expr) (b : Expr) (v : Expr) (old new : List ℕ) → v ≡ e.Any a b → new ≡ old ++ asked_text (codes "any") (two_texts (expr_text a) (expr_text b)) → new ≡ old ++ expr_text v
unfolding layer_expr_text
any_printed a b v old new is d = said (Expr-F.Any a b) (e.Any a b) v (asked_text (codes "any") (two_texts (expr_text a) (expr_text b))) old new (rolls-Any a b) is (fold-roll-Expr (List ℕ) layer_expr_text (Expr-F.Any a b)) d
