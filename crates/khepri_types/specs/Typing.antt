-- Which scripts are well typed.
use Rattle.std.specs.Prelude.{Bool, true, false, ◌&&◌, ◌||◌, if◌then◌else◌, List, map, Option, Some, None}
use Rattle.khepri_types.specs.Conditions.{all_true}
use Rattle.khepri_types.specs.declared.register.Register.{Register}
use Rattle.khepri_types.specs.declared.register.Register.TheVariants as register
use Rattle.khepri_types.specs.declared.script.Expr.{Expr}
use Rattle.khepri_types.specs.declared.script.Expr.TheFolds.{fold-Expr}
use Rattle.khepri_types.specs.declared.script.Expr.TheOpen.{Expr-F}
use Rattle.khepri_types.specs.declared.script.Statement.{Statement}
use Rattle.khepri_types.specs.declared.script.Statement.TheFolds.{fold-Statement}
use Rattle.khepri_types.specs.declared.script.Statement.TheOpen.{Statement-F}
use Rattle.khepri_types.specs.declared.value.ValueType.{ValueType}
use Rattle.khepri_types.specs.declared.value.ValueType.TheVariants as types

-- the expression is well typed and gives an Int, and so on
unfoldable pub is_int : Option ValueType → Bool
is_int (Some types.Int) = true
is_int _ = false

unfoldable pub is_text : Option ValueType → Bool
is_text (Some types.Text) = true
is_text _ = false

unfoldable pub is_path : Option ValueType → Bool
is_path (Some types.Path) = true
is_path _ = false

unfoldable pub is_rec : Option ValueType → Bool
is_rec (Some types.Rec) = true
is_rec _ = false

unfoldable pub is_bool : Option ValueType → Bool
is_bool (Some types.Bool) = true
is_bool _ = false

-- the type of what a register holds
abbrev pub register_type : Register → ValueType
register_type (register.Int n) = types.Int
register_type (register.Text n) = types.Text
register_type (register.Path n) = types.Path
register_type (register.Rec n) = types.Rec

-- a form gives this where its parts are of the types that it takes
abbrev pub gives : Bool → ValueType → Option ValueType
gives fits s = if fits then Some s else None

-- one layer of an expression, by what its parts give
abbrev pub layer_type : Expr-F (Option ValueType) → Option ValueType
layer_type (Expr-F.Int z) = Some types.Int
layer_type (Expr-F.Text b) = Some types.Text
layer_type (Expr-F.Path p) = Some types.Path
layer_type (Expr-F.Rec f) = Some types.Rec
layer_type (Expr-F.Register reg) = Some (register_type reg)
layer_type (Expr-F.Add a b) = gives (is_int a && is_int b) types.Int
layer_type (Expr-F.Sub a b) = gives (is_int a && is_int b) types.Int
layer_type (Expr-F.Cat a b) = gives (is_text a && is_text b) types.Text
layer_type (Expr-F.IntField a key z) = gives (is_rec a) types.Int
layer_type (Expr-F.TextField a key b) = gives (is_rec a) types.Text
layer_type (Expr-F.Data a) = gives (is_path a) types.Rec
layer_type (Expr-F.Pv a) = gives (is_path a) types.Int
layer_type (Expr-F.Cv a) = gives (is_path a) types.Int
layer_type (Expr-F.Kids a) = gives (is_path a) types.Int
layer_type (Expr-F.Last a) = gives (is_path a) types.Text
layer_type (Expr-F.Child a b) = gives (is_path a && is_text b) types.Path
layer_type (Expr-F.With a key b) = gives (is_rec a && (is_int b || is_text b)) types.Rec
layer_type (Expr-F.Compare op a b) = gives ((is_int a && is_int b) || (is_text a && is_text b)) types.Bool
layer_type (Expr-F.Test a c) = gives (is_path a) types.Bool
layer_type (Expr-F.Not a) = gives (is_bool a) types.Bool
layer_type (Expr-F.All a b) = gives (is_bool a && is_bool b) types.Bool
layer_type (Expr-F.Any a b) = gives (is_bool a && is_bool b) types.Bool

-- the type of what an expression gives, none where it is ill typed
abbrev pub type_of : Expr → Option ValueType
type_of e = fold-Expr (Option ValueType) layer_type e

-- a register takes what the expression gives
abbrev pub takes : Register → Option ValueType → Bool
takes (register.Int n) t = is_int t
takes (register.Text n) t = is_text t
takes (register.Path n) t = is_path t
takes (register.Rec n) t = is_rec t

-- one layer of a statement, by whether the statements of its blocks are well typed
abbrev pub layer_typed : Statement-F Bool → Bool
layer_typed (Statement-F.Let reg e) = takes reg (type_of e)
layer_typed (Statement-F.Put a b) = is_path (type_of a) && is_rec (type_of b)
layer_typed (Statement-F.Clear a) = is_path (type_of a)
layer_typed (Statement-F.Del a) = is_path (type_of a)
layer_typed (Statement-F.Hold a b c) = is_path (type_of a) && is_path (type_of b)
layer_typed (Statement-F.Free a) = is_path (type_of a)
layer_typed (Statement-F.Emit a) = is_int (type_of a) || is_text (type_of a) || is_path (type_of a) || is_rec (type_of a)
layer_typed (Statement-F.Abort a) = is_text (type_of a)
layer_typed (Statement-F.If e a b) = is_bool (type_of e) && (all_true a && all_true b)
layer_typed (Statement-F.Each reg pattern body) = is_path (Some (register_type reg)) && all_true body

-- whether a statement is well typed, with all in its blocks, whether they run or not
abbrev pub typed : Statement → Bool
typed s = fold-Statement Bool layer_typed s

-- whether a script is well typed
abbrev pub well_typed : List Statement → Bool
well_typed s = all_true (map typed s)
