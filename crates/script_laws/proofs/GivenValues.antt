-- Forms of well-typed scripts are given values of the types that they take.
use Rattle.std.proofs.Common.{◌≡◌, ◌⊎◌, inl, inr, refl, sym, ◌∙◌, subst, Option, Some, None, Bool, true, false, map, ◌&&◌, ◌||◌}
use Rattle.khepri_types.specs.declared.register.Register.{Register}
use Rattle.khepri_types.specs.declared.register.Register.TheVariants as register
use Rattle.khepri_types.specs.declared.register.Registers.{Registers}
use Rattle.khepri_types.specs.declared.script.Expr.{Expr, out-Expr, map-Expr}
use Rattle.khepri_types.specs.declared.script.Expr.TheFolds.{fold_out-Expr}
use Rattle.khepri_types.specs.declared.script.Expr.TheOpen.{Expr-F}
use Rattle.khepri_types.specs.declared.script.Statement.{Statement, out-Statement, map-Statement}
use Rattle.khepri_types.specs.declared.script.Statement.TheFolds.{fold_out-Statement}
use Rattle.khepri_types.specs.declared.script.Statement.TheOpen.{Statement-F}
use Rattle.khepri_types.specs.declared.value.ValueType.{ValueType}
use Rattle.khepri_types.specs.declared.value.ValueType.TheVariants as types
use Rattle.khepri_types.specs.Conditions.{all_true}
use Rattle.khepri_types.specs.Expressions.{value_of}
use Rattle.khepri_types.specs.Tree.{Tree}
use Rattle.khepri_types.specs.Typing.{is_int, is_text, is_path, is_rec, is_bool, register_type, gives, takes, layer_type, type_of, layer_typed, typed}
use Rattle.khepri_types.specs.ValueTypes.{Suits, Gives, IsGiven, IsGivenTo}
use Rattle.script_laws.proofs.ValueTyping.{suits}

given-fits : (fits : Bool) (s t : ValueType) → gives fits s ≡ Some t → fits ≡ true
given-fits true s t e = refl
given-fits false s t e = absurd cc

both-left : (a b : Bool) → (a && b) ≡ true → a ≡ true
both-left true b e = refl
both-left false b e = absurd cc

both-right : (a b : Bool) → (a && b) ≡ true → b ≡ true
both-right true b e = e
both-right false b e = absurd cc

either : (a b : Bool) → (a || b) ≡ true → (a ≡ true) ⊎ (b ≡ true)
either true b e = inl refl
either false b e = inr e

int-is : (t : Option ValueType) → is_int t ≡ true → t ≡ Some types.Int
unfolding is_int
int-is None e = absurd cc
int-is (Some types.Int) e = refl
int-is (Some types.Text) e = absurd cc
int-is (Some types.Path) e = absurd cc
int-is (Some types.Rec) e = absurd cc
int-is (Some types.Bool) e = absurd cc

text-is : (t : Option ValueType) → is_text t ≡ true → t ≡ Some types.Text
unfolding is_text
text-is None e = absurd cc
text-is (Some types.Int) e = absurd cc
text-is (Some types.Text) e = refl
text-is (Some types.Path) e = absurd cc
text-is (Some types.Rec) e = absurd cc
text-is (Some types.Bool) e = absurd cc

path-is : (t : Option ValueType) → is_path t ≡ true → t ≡ Some types.Path
unfolding is_path
path-is None e = absurd cc
path-is (Some types.Int) e = absurd cc
path-is (Some types.Text) e = absurd cc
path-is (Some types.Path) e = refl
path-is (Some types.Rec) e = absurd cc
path-is (Some types.Bool) e = absurd cc

rec-is : (t : Option ValueType) → is_rec t ≡ true → t ≡ Some types.Rec
unfolding is_rec
rec-is None e = absurd cc
rec-is (Some types.Int) e = absurd cc
rec-is (Some types.Text) e = absurd cc
rec-is (Some types.Path) e = absurd cc
rec-is (Some types.Rec) e = refl
rec-is (Some types.Bool) e = absurd cc

bool-is : (t : Option ValueType) → is_bool t ≡ true → t ≡ Some types.Bool
unfolding is_bool
bool-is None e = absurd cc
bool-is (Some types.Int) e = absurd cc
bool-is (Some types.Text) e = absurd cc
bool-is (Some types.Path) e = absurd cc
bool-is (Some types.Rec) e = absurd cc
bool-is (Some types.Bool) e = refl

path-register : (reg : Register) → is_path (Some (register_type reg)) ≡ true → register_type reg ≡ types.Path
unfolding is_path
path-register (register.Int n) e = absurd cc
path-register (register.Text n) e = absurd cc
path-register (register.Path n) e = refl
path-register (register.Rec n) e = absurd cc

takes-is : (reg : Register) (t : Option ValueType) → takes reg t ≡ true → t ≡ Some (register_type reg)
takes-is (register.Int n) t e = int-is t e
takes-is (register.Text n) t e = text-is t e
takes-is (register.Path n) t e = path-is t e
takes-is (register.Rec n) t e = rec-is t e

module _ (R : Registers) (T : Tree) where
  of_type : (s : ValueType) (e : Expr) → type_of e ≡ Some s → Gives R T s e
  of_type s e h = (h, subst (λ (t : Option ValueType). Suits t (value_of e R T)) h (suits e R T))

  int : (e : Expr) → is_int (type_of e) ≡ true → Gives R T types.Int e
  int e h = of_type types.Int e (int-is (type_of e) h)

  text : (e : Expr) → is_text (type_of e) ≡ true → Gives R T types.Text e
  text e h = of_type types.Text e (text-is (type_of e) h)

  path : (e : Expr) → is_path (type_of e) ≡ true → Gives R T types.Path e
  path e h = of_type types.Path e (path-is (type_of e) h)

  fields : (e : Expr) → is_rec (type_of e) ≡ true → Gives R T types.Rec e
  fields e h = of_type types.Rec e (rec-is (type_of e) h)

  truth : (e : Expr) → is_bool (type_of e) ≡ true → Gives R T types.Bool e
  truth e h = of_type types.Bool e (bool-is (type_of e) h)

  two : {A B : Type 0} (a b : Bool) → (a ≡ true → A) → (b ≡ true → B) → (a && b) ≡ true → A × B
  two a b f g h = (f (both-left a b h), g (both-right a b h))

  one-of : {A B : Type 0} (a b : Bool) → (a ≡ true → A) → (b ≡ true → B) → (a || b) ≡ true → A ⊎ B
  one-of true b f g h = inl (f refl)
  one-of false b f g h = inr (g h)

  layer-given : (l : Expr-F Expr) (s : ValueType) → layer_type (map-Expr Expr (Option ValueType) type_of l) ≡ Some s → IsGiven R T l
  layer-given (Expr-F.Int z) s h = tt
  layer-given (Expr-F.Text b) s h = tt
  layer-given (Expr-F.Path p) s h = tt
  layer-given (Expr-F.Rec f) s h = tt
  layer-given (Expr-F.Register reg) s h = tt
  layer-given (Expr-F.Add a b) s h = two (is_int (type_of a)) (is_int (type_of b)) (int a) (int b) (given-fits (is_int (type_of a) && is_int (type_of b)) types.Int s h)
  layer-given (Expr-F.Sub a b) s h = two (is_int (type_of a)) (is_int (type_of b)) (int a) (int b) (given-fits (is_int (type_of a) && is_int (type_of b)) types.Int s h)
  layer-given (Expr-F.Cat a b) s h = two (is_text (type_of a)) (is_text (type_of b)) (text a) (text b) (given-fits (is_text (type_of a) && is_text (type_of b)) types.Text s h)
  layer-given (Expr-F.IntField a key z) s h = fields a (given-fits (is_rec (type_of a)) types.Int s h)
  layer-given (Expr-F.TextField a key b) s h = fields a (given-fits (is_rec (type_of a)) types.Text s h)
  layer-given (Expr-F.Data a) s h = path a (given-fits (is_path (type_of a)) types.Rec s h)
  layer-given (Expr-F.Pv a) s h = path a (given-fits (is_path (type_of a)) types.Int s h)
  layer-given (Expr-F.Cv a) s h = path a (given-fits (is_path (type_of a)) types.Int s h)
  layer-given (Expr-F.Kids a) s h = path a (given-fits (is_path (type_of a)) types.Int s h)
  layer-given (Expr-F.Last a) s h = path a (given-fits (is_path (type_of a)) types.Text s h)
  layer-given (Expr-F.Child a b) s h = two (is_path (type_of a)) (is_text (type_of b)) (path a) (text b) (given-fits (is_path (type_of a) && is_text (type_of b)) types.Path s h)
  layer-given (Expr-F.With a key b) s h = two (is_rec (type_of a)) (is_int (type_of b) || is_text (type_of b)) (fields a) (one-of (is_int (type_of b)) (is_text (type_of b)) (int b) (text b)) (given-fits (is_rec (type_of a) && (is_int (type_of b) || is_text (type_of b))) types.Rec s h)
  layer-given (Expr-F.Compare op a b) s h = one-of (is_int (type_of a) && is_int (type_of b)) (is_text (type_of a) && is_text (type_of b)) (two (is_int (type_of a)) (is_int (type_of b)) (int a) (int b)) (two (is_text (type_of a)) (is_text (type_of b)) (text a) (text b)) (given-fits ((is_int (type_of a) && is_int (type_of b)) || (is_text (type_of a) && is_text (type_of b))) types.Bool s h)
  layer-given (Expr-F.Test a c) s h = path a (given-fits (is_path (type_of a)) types.Bool s h)
  layer-given (Expr-F.Not a) s h = truth a (given-fits (is_bool (type_of a)) types.Bool s h)
  layer-given (Expr-F.All a b) s h = two (is_bool (type_of a)) (is_bool (type_of b)) (truth a) (truth b) (given-fits (is_bool (type_of a) && is_bool (type_of b)) types.Bool s h)
  layer-given (Expr-F.Any a b) s h = two (is_bool (type_of a)) (is_bool (type_of b)) (truth a) (truth b) (given-fits (is_bool (type_of a) && is_bool (type_of b)) types.Bool s h)

  pub expression_given : (e : Expr) (s : ValueType) → type_of e ≡ Some s → IsGiven R T (out-Expr e)
  expression_given e s h = layer-given (out-Expr e) s (sym (fold_out-Expr (Option ValueType) layer_type e) ∙ h)

  emitted-given : (e : Expr) → (is_int (type_of e) || is_text (type_of e) || is_path (type_of e) || is_rec (type_of e)) ≡ true → IsGivenTo R T (Statement-F.Emit e)
  emitted-given e h =
      let t : Option ValueType = type_of e in
      one-of (is_int t || is_text t || is_path t) (is_rec t) (one-of (is_int t || is_text t) (is_path t) (one-of (is_int t) (is_text t) (int e) (text e)) (path e)) (fields e) h

  layer-given-to : (l : Statement-F Statement) → layer_typed (map-Statement Statement Bool typed l) ≡ true → IsGivenTo R T l
  layer-given-to (Statement-F.Let reg e) h = of_type (register_type reg) e (takes-is reg (type_of e) h)
  layer-given-to (Statement-F.Put a b) h = two (is_path (type_of a)) (is_rec (type_of b)) (path a) (fields b) h
  layer-given-to (Statement-F.Clear a) h = path a h
  layer-given-to (Statement-F.Del a) h = path a h
  layer-given-to (Statement-F.Hold a b c) h = two (is_path (type_of a)) (is_path (type_of b)) (path a) (path b) h
  layer-given-to (Statement-F.Free a) h = path a h
  layer-given-to (Statement-F.Emit a) h = emitted-given a h
  layer-given-to (Statement-F.Abort a) h = text a h
  layer-given-to (Statement-F.If e a b) h = two (is_bool (type_of e)) (all_true (map typed a) && all_true (map typed b)) (truth e) (two (all_true (map typed a)) (all_true (map typed b)) (λ k. k) (λ k. k)) h
  layer-given-to (Statement-F.Each reg pattern body) h = two (is_path (Some (register_type reg))) (all_true (map typed body)) (path-register reg) (λ k. k) h

  pub statement_given : (s : Statement) → typed s ≡ true → IsGivenTo R T (out-Statement s)
  statement_given s h = layer-given-to (out-Statement s) (sym (fold_out-Statement Bool layer_typed s) ∙ h)
