-- A value is of the type that the typing gives, and a form of a well-typed script is given values of the types that it takes.
use Rattle.std.specs.Prelude.{◌≡◌, ◌⊎◌, ⊤, true, List, map, Option, Some, None}
use Rattle.khepri_types.specs.declared.register.Registers.{Registers}
use Rattle.khepri_types.specs.declared.script.Expr.{Expr}
use Rattle.khepri_types.specs.declared.script.Expr.TheOpen.{Expr-F}
use Rattle.khepri_types.specs.declared.script.Statement.{Statement}
use Rattle.khepri_types.specs.declared.script.Statement.TheOpen.{Statement-F}
use Rattle.khepri_types.specs.declared.value.ValueType.{ValueType}
use Rattle.khepri_types.specs.declared.value.ValueType.TheVariants as types
use Rattle.khepri_types.specs.declared.value.Operand.{Operand}
use Rattle.khepri_types.specs.declared.value.Operand.TheVariants as operand
use Rattle.khepri_types.specs.Conditions.{all_true}
use Rattle.khepri_types.specs.Expressions.{Evaluation, Is, Refuses, value_of}
use Rattle.khepri_types.specs.Tree.{Tree}
use Rattle.khepri_types.specs.Typing.{register_type, type_of, typed}

-- the type of a value
abbrev pub operand_type : Operand → ValueType
operand_type (operand.Int z) = types.Int
operand_type (operand.Text b) = types.Text
operand_type (operand.Path p) = types.Path
operand_type (operand.Rec f) = types.Rec
operand_type (operand.Bool b) = types.Bool

-- where the typing gives a type, the value, if there is one, is of that type
abbrev pub Suits : Option ValueType → Evaluation → Type 0
Suits None evaluation = ⊤
Suits (Some s) (Is v) = operand_type v ≡ s
Suits (Some s) (Refuses why) = ⊤

-- ---- what forms are given

-- all statements of a block are well typed
abbrev pub AreTyped : List Statement → Type 0
AreTyped block = all_true (map typed block) ≡ true

module _ (R : Registers) (T : Tree) where
  -- an expression is well typed, of this type, and so is its value
  abbrev pub Gives : ValueType → Expr → Type 0
  Gives s e = (type_of e ≡ Some s) × Suits (Some s) (value_of e R T)

  -- a form of expressions is given values of the types that it takes
  abbrev pub IsGiven : Expr-F Expr → Type 0
  IsGiven (Expr-F.Int z) = ⊤
  IsGiven (Expr-F.Text b) = ⊤
  IsGiven (Expr-F.Path p) = ⊤
  IsGiven (Expr-F.Rec f) = ⊤
  IsGiven (Expr-F.Register reg) = ⊤
  IsGiven (Expr-F.Add a b) = Gives types.Int a × Gives types.Int b
  IsGiven (Expr-F.Sub a b) = Gives types.Int a × Gives types.Int b
  IsGiven (Expr-F.Cat a b) = Gives types.Text a × Gives types.Text b
  IsGiven (Expr-F.IntField a key z) = Gives types.Rec a
  IsGiven (Expr-F.TextField a key b) = Gives types.Rec a
  IsGiven (Expr-F.Data a) = Gives types.Path a
  IsGiven (Expr-F.Pv a) = Gives types.Path a
  IsGiven (Expr-F.Cv a) = Gives types.Path a
  IsGiven (Expr-F.Kids a) = Gives types.Path a
  IsGiven (Expr-F.Last a) = Gives types.Path a
  IsGiven (Expr-F.Child a b) = Gives types.Path a × Gives types.Text b
  IsGiven (Expr-F.With a key b) = Gives types.Rec a × (Gives types.Int b ⊎ Gives types.Text b)
  IsGiven (Expr-F.Compare op a b) = (Gives types.Int a × Gives types.Int b) ⊎ (Gives types.Text a × Gives types.Text b)
  IsGiven (Expr-F.Test a c) = Gives types.Path a
  IsGiven (Expr-F.Not a) = Gives types.Bool a
  IsGiven (Expr-F.All a b) = Gives types.Bool a × Gives types.Bool b
  IsGiven (Expr-F.Any a b) = Gives types.Bool a × Gives types.Bool b

  -- a statement is given values of the types that it takes, and the statements of its blocks are well typed
  abbrev pub IsGivenTo : Statement-F Statement → Type 0
  IsGivenTo (Statement-F.Let reg e) = Gives (register_type reg) e
  IsGivenTo (Statement-F.Put a b) = Gives types.Path a × Gives types.Rec b
  IsGivenTo (Statement-F.Clear a) = Gives types.Path a
  IsGivenTo (Statement-F.Del a) = Gives types.Path a
  IsGivenTo (Statement-F.Hold a b c) = Gives types.Path a × Gives types.Path b
  IsGivenTo (Statement-F.Free a) = Gives types.Path a
  IsGivenTo (Statement-F.Emit a) = ((Gives types.Int a ⊎ Gives types.Text a) ⊎ Gives types.Path a) ⊎ Gives types.Rec a
  IsGivenTo (Statement-F.Abort a) = Gives types.Text a
  IsGivenTo (Statement-F.If e a b) = Gives types.Bool e × (AreTyped a × AreTyped b)
  IsGivenTo (Statement-F.Each reg pattern body) = (register_type reg ≡ types.Path) × AreTyped body
