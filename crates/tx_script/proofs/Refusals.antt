-- Where a part of an expression of two parts is refused, so is the expression.
use Rattle.std.proofs.Common.{◌≡◌, ◌++◌, take, sym, ap, subst, ◌∙◌, Err}
use Rattle.std.specs.Prelude.{◌&&◌, ◌||◌, ◌+ℤ◌, ◌-ℤ◌}
use Rattle.khepri_terms.specs.Terms.{NameText}
use Rattle.khepri_terms.specs.Order.{scalar_cmp}
use Rattle.khepri_terms.specs.Records.{with_field}
use Rattle.khepri_types.specs.declared.compare.Compare.{Compare}
use Rattle.khepri_types.specs.declared.limits.TheConstants.{MAX_CAT_TEXT}
use Rattle.khepri_types.specs.declared.register.Registers.{Registers}
use Rattle.khepri_types.specs.declared.script.Expr.{Expr, roll-Expr}
use Rattle.khepri_types.specs.declared.script.Expr.TheVariants as e
use Rattle.khepri_types.specs.declared.script.Expr.TheVariants.{rolls-Add, rolls-Sub, rolls-Cat, rolls-Child, rolls-With, rolls-Compare, rolls-All, rolls-Any}
use Rattle.khepri_types.specs.declared.script.Expr.TheFolds.{fold-roll-Expr}
use Rattle.khepri_types.specs.declared.script.Expr.TheOpen.{Expr-F}
use Rattle.khepri_types.specs.declared.value.Operand.{Operand}
use Rattle.khepri_types.specs.declared.value.Operand.TheVariants.{Text, Bool as Truth}
use Rattle.khepri_types.specs.Compares.{compares}
use Rattle.khepri_types.specs.Expressions.{Evaluation, Is, two, cut, child, small, layer_value, value_of}
use Rattle.khepri_types.specs.Tree.{Tree}
use Rattle.khepri_types.specs.Values.{number, bytes, path, fields, truth, scalar}
use Rattle.tx_script.specs.declared.halt.Unvalued.{Unvalued}
use Rattle.tx_script.specs.Answers.{Gives, GivesTwo}
use Rattle.tx_script.proofs.Pairs.{two_refused}

form_refused : (F : Expr-F Expr) (u v a b x y : Expr) (R : Registers) (T : Tree) (why : Unvalued) (form : Operand → Operand → Evaluation) → roll-Expr F ≡ u → v ≡ u → value_of (roll-Expr F) R T ≡ two (value_of a R T) (value_of b R T) form
    → x ≡ a → y ≡ b → GivesTwo (Err why) (value_of x R T) (value_of y R T) → Gives (Err why) (value_of v R T)
form_refused F u v a b x y R T why form r is value xa yb h =
    let parts : GivesTwo (Err why) (value_of a R T) (value_of b R T) = subst (λ (z : Expr). GivesTwo (Err why) (value_of a R T) (value_of z R T)) yb (subst (λ (z : Expr). GivesTwo (Err why) (value_of z R T) (value_of y R T)) xa h) in
    let same : two (value_of a R T) (value_of b R T) form ≡ value_of v R T = sym value ∙ ap (λ (z : Expr). value_of z R T) (r ∙ sym is) in
    subst (λ (z : Evaluation). Gives (Err why) z) same (two_refused why (value_of a R T) (value_of b R T) form parts)

pub add_refused : (a b x y v : Expr) (R : Registers) (T : Tree) (why : Unvalued) → v ≡ e.Add a b → x ≡ a → y ≡ b → GivesTwo (Err why) (value_of x R T) (value_of y R T) → Gives (Err why) (value_of v R T)
add_refused a b x y v R T why is xa yb h = form_refused (Expr-F.Add a b) (e.Add a b) v a b x y R T why (λ (x y : Operand). Is (cut (number x +ℤ number y))) (rolls-Add a b) is (fold-roll-Expr Evaluation (layer_value R T) (Expr-F.Add a b)) xa yb h

pub sub_refused : (a b x y v : Expr) (R : Registers) (T : Tree) (why : Unvalued) → v ≡ e.Sub a b → x ≡ a → y ≡ b → GivesTwo (Err why) (value_of x R T) (value_of y R T) → Gives (Err why) (value_of v R T)
sub_refused a b x y v R T why is xa yb h = form_refused (Expr-F.Sub a b) (e.Sub a b) v a b x y R T why (λ (x y : Operand). Is (cut (number x -ℤ number y))) (rolls-Sub a b) is (fold-roll-Expr Evaluation (layer_value R T) (Expr-F.Sub a b)) xa yb h

pub cat_refused : (a b x y v : Expr) (R : Registers) (T : Tree) (why : Unvalued) → v ≡ e.Cat a b → x ≡ a → y ≡ b → GivesTwo (Err why) (value_of x R T) (value_of y R T) → Gives (Err why) (value_of v R T)
cat_refused a b x y v R T why is xa yb h = form_refused (Expr-F.Cat a b) (e.Cat a b) v a b x y R T why (λ (x y : Operand). Is (Text (take MAX_CAT_TEXT (bytes x ++ bytes y)))) (rolls-Cat a b) is (fold-roll-Expr Evaluation (layer_value R T) (Expr-F.Cat a b)) xa yb h

pub child_refused : (a b x y v : Expr) (R : Registers) (T : Tree) (why : Unvalued) → v ≡ e.Child a b → x ≡ a → y ≡ b → GivesTwo (Err why) (value_of x R T) (value_of y R T) → Gives (Err why) (value_of v R T)
child_refused a b x y v R T why is xa yb h = form_refused (Expr-F.Child a b) (e.Child a b) v a b x y R T why (λ (p t : Operand). child (path p) (bytes t)) (rolls-Child a b) is (fold-roll-Expr Evaluation (layer_value R T) (Expr-F.Child a b)) xa yb h

pub with_refused : (key : NameText) (a b x y v : Expr) (R : Registers) (T : Tree) (why : Unvalued) → v ≡ e.With a key b → x ≡ a → y ≡ b → GivesTwo (Err why) (value_of x R T) (value_of y R T) → Gives (Err why) (value_of v R T)
with_refused key a b x y v R T why is xa yb h = form_refused (Expr-F.With a key b) (e.With a key b) v a b x y R T why (λ (d x : Operand). small (with_field (record { key = key.bytes; value = scalar x }) (fields d))) (rolls-With a key b) is (fold-roll-Expr Evaluation (layer_value R T) (Expr-F.With a key b)) xa yb h

pub compare_refused : (op : Compare) (a b x y v : Expr) (R : Registers) (T : Tree) (why : Unvalued) → v ≡ e.Compare op a b → x ≡ a → y ≡ b → GivesTwo (Err why) (value_of x R T) (value_of y R T) → Gives (Err why) (value_of v R T)
compare_refused op a b x y v R T why is xa yb h = form_refused (Expr-F.Compare op a b) (e.Compare op a b) v a b x y R T why (λ (x y : Operand). Is (Truth (compares op (scalar_cmp (scalar x) (scalar y))))) (rolls-Compare op a b) is (fold-roll-Expr Evaluation (layer_value R T) (Expr-F.Compare op a b)) xa yb h

pub all_refused : (a b x y v : Expr) (R : Registers) (T : Tree) (why : Unvalued) → v ≡ e.All a b → x ≡ a → y ≡ b → GivesTwo (Err why) (value_of x R T) (value_of y R T) → Gives (Err why) (value_of v R T)
all_refused a b x y v R T why is xa yb h = form_refused (Expr-F.All a b) (e.All a b) v a b x y R T why (λ (x y : Operand). Is (Truth (truth x && truth y))) (rolls-All a b) is (fold-roll-Expr Evaluation (layer_value R T) (Expr-F.All a b)) xa yb h

pub any_refused : (a b x y v : Expr) (R : Registers) (T : Tree) (why : Unvalued) → v ≡ e.Any a b → x ≡ a → y ≡ b → GivesTwo (Err why) (value_of x R T) (value_of y R T) → Gives (Err why) (value_of v R T)
any_refused a b x y v R T why is xa yb h = form_refused (Expr-F.Any a b) (e.Any a b) v a b x y R T why (λ (x y : Operand). Is (Truth (truth x || truth y))) (rolls-Any a b) is (fold-roll-Expr Evaluation (layer_value R T) (Expr-F.Any a b)) xa yb h
