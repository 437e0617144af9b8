-- A value is of the kind that the typing gives it.
use Rattle.std.proofs.Common.{◌≡◌, refl, sym, subst, Option, Some, Bool, true, false, List, [], ◌∷◌, ◌++◌, take, not, ◌&&◌, ◌||◌, pos, ◌+ℤ◌, ◌-ℤ◌, ℕ}
use Rattle.std.specs.Prelude.{if◌then◌else◌}
use Rattle.khepri_terms.specs.Terms.{NameText}
use Rattle.khepri_terms.specs.declared.name.Kind.TheVariants as kinds
use Rattle.khepri_terms.specs.declared.rec.Field.{Field}
use Rattle.khepri_terms.specs.Order.{scalar_cmp}
use Rattle.khepri_terms.specs.Records.{field_of, with_field, is_small}
use Rattle.khepri_types.specs.Compares.{compares}
use Rattle.khepri_types.specs.Conditions.{seen_at, last_name}
use Rattle.khepri_types.specs.Tree.{Tree}
use Rattle.khepri_types.specs.declared.limits.TheConstants.{MAX_CAT_TEXT}
use Rattle.khepri_types.specs.declared.register.Register.{Register}
use Rattle.khepri_types.specs.declared.register.Register.TheVariants as register
use Rattle.khepri_types.specs.declared.register.Registers.{Registers}
use Rattle.khepri_types.specs.declared.script.Expr.{Expr, out-Expr, map-Expr}
use Rattle.khepri_types.specs.declared.script.Expr.TheFolds.{fold_out-Expr}
use Rattle.khepri_types.specs.declared.script.Expr.TheOpen.{Expr-F}
use Rattle.khepri_types.specs.declared.value.ValueType.{ValueType}
use Rattle.khepri_types.specs.declared.value.ValueType.TheVariants as types
use Rattle.khepri_types.specs.declared.value.Operand.{Operand}
use Rattle.khepri_types.specs.declared.value.Operand.TheVariants as operand
use Rattle.khepri_types.specs.declared.value.Refusal.TheVariants.{Deep, Full, Name}
use Rattle.khepri_types.specs.Expressions.{Evaluation, Is, Refuses, one, two, cut, int_or, text_or, fields_seen, number_seen, name_bytes, is_name, is_long, within, child, small, tested, layer_value, value_of}
use Rattle.khepri_types.specs.Registers.{read}
use Rattle.khepri_types.specs.Typing.{is_int, is_text, is_path, is_rec, is_bool, register_type, gives, layer_type, type_of}
use Rattle.khepri_types.specs.Values.{number, bytes, path, fields, truth, scalar}
use Rattle.khepri_types.specs.ValueTypes.{operand_type, Suits}

of_one : (s : ValueType) (fits : Bool) (a : Evaluation) (form : Operand → Evaluation) → ((x : Operand) → Suits (Some s) (form x)) → Suits (gives fits s) (one a form)
of_one s false a form h = tt
of_one s true (Is v) form h = h v
of_one s true (Refuses e) form h = tt

of_two : (s : ValueType) (fits : Bool) (a b : Evaluation) (form : Operand → Operand → Evaluation) → ((x y : Operand) → Suits (Some s) (form x y)) → Suits (gives fits s) (two a b form)
of_two s false a b form h = tt
of_two s true (Is v) (Is w) form h = h v w
of_two s true (Is v) (Refuses e) form h = tt
of_two s true (Refuses e) b form h = tt

of_if : (s : ValueType) (t : Bool) (a b : Evaluation) → Suits (Some s) a → Suits (Some s) b → Suits (Some s) (if t then a else b)
of_if s true a b h k = h
of_if s false a b h k = k

of_child : (p : List NameText) (b : List ℕ) → Suits (Some types.Path) (child p b)
of_child p b =
    let q : List NameText = p ++ record { kind = kinds.Text; bytes = b } ∷ [] in
    of_if types.Path (is_name b) (within q) (Refuses Name) (of_if types.Path (is_long q) (Refuses Deep) (Is (operand.Path q)) tt refl) tt

of_small : (f : List Field) → Suits (Some types.Rec) (small f)
of_small f = of_if types.Rec (is_small f) (Is (operand.Rec f)) (Refuses Full) refl tt

of_read : (reg : Register) (R : Registers) → operand_type (read reg R) ≡ register_type reg
of_read (register.Int n) R = refl
of_read (register.Text n) R = refl
of_read (register.Path n) R = refl
of_read (register.Rec n) R = refl

module _ (R : Registers) (T : Tree) where
  layer_suits : (l : Expr-F Expr) → Suits (layer_type (map-Expr Expr (Option ValueType) type_of l)) (layer_value R T (map-Expr Expr Evaluation (λ e. value_of e R T) l))
  layer_suits (Expr-F.Int z) = refl
  layer_suits (Expr-F.Text b) = refl
  layer_suits (Expr-F.Path p) = refl
  layer_suits (Expr-F.Rec f) = refl
  layer_suits (Expr-F.Register reg) = of_read reg R
  layer_suits (Expr-F.Add a b) = of_two types.Int (is_int (type_of a) && is_int (type_of b)) (value_of a R T) (value_of b R T) (λ x y. Is (cut (number x +ℤ number y))) (λ x y. refl)
  layer_suits (Expr-F.Sub a b) = of_two types.Int (is_int (type_of a) && is_int (type_of b)) (value_of a R T) (value_of b R T) (λ x y. Is (cut (number x -ℤ number y))) (λ x y. refl)
  layer_suits (Expr-F.Cat a b) = of_two types.Text (is_text (type_of a) && is_text (type_of b)) (value_of a R T) (value_of b R T) (λ x y. Is (operand.Text (take MAX_CAT_TEXT (bytes x ++ bytes y)))) (λ x y. refl)
  layer_suits (Expr-F.IntField a key z) = of_one types.Int (is_rec (type_of a)) (value_of a R T) (λ d. Is (operand.Int (int_or z (field_of key.bytes (fields d))))) (λ x. refl)
  layer_suits (Expr-F.TextField a key b) = of_one types.Text (is_rec (type_of a)) (value_of a R T) (λ d. Is (operand.Text (text_or b (field_of key.bytes (fields d))))) (λ x. refl)
  layer_suits (Expr-F.Data a) = of_one types.Rec (is_path (type_of a)) (value_of a R T) (λ p. Is (operand.Rec (fields_seen (seen_at T (path p))))) (λ x. refl)
  layer_suits (Expr-F.Pv a) = of_one types.Int (is_path (type_of a)) (value_of a R T) (λ p. Is (cut (pos (number_seen (λ s. s.pv) (seen_at T (path p)))))) (λ x. refl)
  layer_suits (Expr-F.Cv a) = of_one types.Int (is_path (type_of a)) (value_of a R T) (λ p. Is (cut (pos (number_seen (λ s. s.cv) (seen_at T (path p)))))) (λ x. refl)
  layer_suits (Expr-F.Kids a) = of_one types.Int (is_path (type_of a)) (value_of a R T) (λ p. Is (cut (pos (number_seen (λ s. s.kids) (seen_at T (path p)))))) (λ x. refl)
  layer_suits (Expr-F.Last a) = of_one types.Text (is_path (type_of a)) (value_of a R T) (λ p. Is (operand.Text (name_bytes (last_name (path p))))) (λ x. refl)
  layer_suits (Expr-F.Child a b) = of_two types.Path (is_path (type_of a) && is_text (type_of b)) (value_of a R T) (value_of b R T) (λ p t. child (path p) (bytes t)) (λ p t. of_child (path p) (bytes t))
  layer_suits (Expr-F.With a key b) = of_two types.Rec (is_rec (type_of a) && (is_int (type_of b) || is_text (type_of b))) (value_of a R T) (value_of b R T) (λ d x. small (with_field (record { key = key.bytes; value = scalar x }) (fields d))) (λ d x. of_small (with_field (record { key = key.bytes; value = scalar x }) (fields d)))
  layer_suits (Expr-F.Compare op a b) = of_two types.Bool ((is_int (type_of a) && is_int (type_of b)) || (is_text (type_of a) && is_text (type_of b))) (value_of a R T) (value_of b R T) (λ x y. Is (operand.Bool (compares op (scalar_cmp (scalar x) (scalar y))))) (λ x y. refl)
  layer_suits (Expr-F.Test a c) = of_one types.Bool (is_path (type_of a)) (value_of a R T) (λ p. Is (operand.Bool (tested c T (path p)))) (λ x. refl)
  layer_suits (Expr-F.Not a) = of_one types.Bool (is_bool (type_of a)) (value_of a R T) (λ x. Is (operand.Bool (not (truth x)))) (λ x. refl)
  layer_suits (Expr-F.All a b) = of_two types.Bool (is_bool (type_of a) && is_bool (type_of b)) (value_of a R T) (value_of b R T) (λ x y. Is (operand.Bool (truth x && truth y))) (λ x y. refl)
  layer_suits (Expr-F.Any a b) = of_two types.Bool (is_bool (type_of a) && is_bool (type_of b)) (value_of a R T) (value_of b R T) (λ x y. Is (operand.Bool (truth x || truth y))) (λ x y. refl)

-- what comes out is of the kind that the typing gives
pub suits : (e : Expr) (R : Registers) (T : Tree) → Suits (type_of e) (value_of e R T)
suits e R T =
    subst (λ (t : Option ValueType). Suits t (value_of e R T)) (sym (fold_out-Expr (Option ValueType) layer_type e))
    (subst (λ (g : Evaluation). Suits (layer_type (map-Expr Expr (Option ValueType) type_of (out-Expr e))) g) (sym (fold_out-Expr Evaluation (layer_value R T) e)) (layer_suits R T (out-Expr e)))
