-- What a script that may be written computes, writes and emits may be written too.
use Rattle.std.proofs.Common.{◌≡◌, ◌⊎◌, inl, inr, ℕ, zero, suc, ◌+◌, ◌<◌, ◌≤◌, ◌^◌, Bool, true, false, cond, ◌&&◌, ◌||◌, not, ltb, nat_le, leb, List, [], ◌∷◌, ◌++◌, length, take, map, refl, sym, ap, subst, ◌∙◌, arith, ℤ, pos, negsuc, ◌+ℤ◌, ◌-ℤ◌, Option, Some, None}
use Rattle.std.specs.Prelude.{slice_get, nat_eq, is_some}
use Rattle.std.specs.List.{AllByRecursion}
use Rattle.std.specs.FinMap.{get}
use Rattle.std.specs.Int.{saturate_signed, w64}
use Rattle.std.specs.Cmp.Lexicographic.{pointwise}
use Rattle.std.proofs.lemmas.Bool.{leb-true, ltb-false}
use Rattle.std.proofs.lemmas.List.{take_all}
use lib.Signed.{mag}
use Rattle.khepri_terms.specs.Terms.{NameText}
use Rattle.khepri_terms.specs.declared.limits.TheConstants.{MAX_NAME, MAX_PATH_TEXT}
use Rattle.khepri_terms.specs.declared.name.Kind.TheVariants as kinds
use Rattle.khepri_terms.specs.declared.rec.Field.{Field}
use Rattle.khepri_terms.specs.declared.scalar.Scalar.{Scalar}
use Rattle.khepri_terms.specs.declared.scalar.Scalar.TheVariants as scalars
use Rattle.khepri_terms.specs.Bytes.{AreBytes}
use Rattle.khepri_terms.specs.Names.{IsNameBytes, IsName}
use Rattle.khepri_terms.specs.Order.{scalar_cmp}
use Rattle.khepri_terms.specs.Paths.{path_text, IsPath}
use Rattle.khepri_terms.specs.Records.{IsValue as IsScalarValue, IsScalar, IsField, IsRec, field_of, with_field, is_small, fields_text, rec_text}
use Rattle.khepri_terms.proofs.Cases.{and_true, or_false, some_is}
use Rattle.khepri_terms.proofs.Changes.{with_is}
use Rattle.khepri_types.specs.declared.limits.TheConstants.{MAX_CAT_TEXT}
use Rattle.khepri_types.specs.declared.condition.Condition.{Condition}
use Rattle.khepri_types.specs.declared.node.Node.{Node}
use Rattle.khepri_types.specs.declared.node.Payload.{Payload}
use Rattle.khepri_types.specs.declared.node.Payload.TheVariants as payload
use Rattle.khepri_types.specs.declared.pattern.PatternPart.{PatternPart}
use Rattle.khepri_types.specs.declared.register.Register.{Register}
use Rattle.khepri_types.specs.declared.register.Register.TheVariants as register
use Rattle.khepri_types.specs.declared.register.Registers.{Registers}
use Rattle.khepri_types.specs.declared.script.Expr.{Expr, out-Expr, map-Expr}
use Rattle.khepri_types.specs.declared.script.Expr.TheFolds.{fold_out-Expr}
use Rattle.khepri_types.specs.declared.script.Expr.TheOpen.{Expr-F}
use Rattle.khepri_types.specs.declared.value.Operand.{Operand}
use Rattle.khepri_types.specs.declared.value.Operand.TheVariants as operand
use Rattle.khepri_types.specs.declared.value.Refusal.TheVariants.{Deep, Full, Name}
use Rattle.khepri_types.specs.Compares.{compares}
use Rattle.khepri_types.specs.Conditions.{Seen, seen_node, seen_at, last_name}
use Rattle.khepri_types.specs.Expressions.{Evaluation, Is, Refuses, one, two, cut, int_or, text_or, payload_fields, fields_seen, number_seen, name_bytes, is_name, is_long, within, child, small, tested, layer_value, value_of}
use Rattle.khepri_types.specs.Patterns.{matching, matching_nodes}
use Rattle.khepri_types.specs.Registers.{item_or, set_at, read, assign, opening}
use Rattle.khepri_types.specs.ScriptTexts.{IsExprLayer, IsExprNested}
use Rattle.khepri_types.specs.Spelled.{IsPayload, IsValue}
use Rattle.khepri_types.specs.Tree.{Tree, stands}
use Rattle.khepri_types.specs.Values.{number, bytes, path, fields, truth, scalar, emitted}
use Rattle.khepri_types.specs.Watching.{is_deep}
use Rattle.khepri_types.proofs.Matching.{All-take, All-map, each_matched}
use Rattle.khepri_types.proofs.Outputs.{All-append}
use Rattle.khepri_types.proofs.Payloads.{AllSpelled}
use Rattle.khepri_types.proofs.PathsWritten.{AllWritten, root_written}
use Rattle.khepri_types.proofs.Running.{Comes}

-- a value that may be written: a truth value stands nowhere
abbrev pub IsOperand : Operand → Type 0
IsOperand (operand.Int z) = mag z < 2 ^ 63
IsOperand (operand.Text b) = AreBytes b
IsOperand (operand.Path p) = IsPath p
IsOperand (operand.Rec f) = IsRec f
IsOperand (operand.Bool b) = Unit {0}

-- ---- what a value is to a form

empty_rec : IsRec []
unfolding rec_text fields_text
empty_rec = record { fields = tt; rises = refl; few = omega arith; short = omega arith }

pub bytes_are : (v : Operand) → IsOperand v → AreBytes (bytes v)
unfolding bytes
bytes_are (operand.Int z) is = tt
bytes_are (operand.Text b) is = is
bytes_are (operand.Path p) is = tt
bytes_are (operand.Rec f) is = tt
bytes_are (operand.Bool b) is = tt

pub path_is : (v : Operand) → IsOperand v → IsPath (path v)
unfolding path
path_is (operand.Int z) is = root_written
path_is (operand.Text b) is = root_written
path_is (operand.Path p) is = is
path_is (operand.Rec f) is = root_written
path_is (operand.Bool b) is = root_written

pub fields_are : (v : Operand) → IsOperand v → IsRec (fields v)
unfolding fields
fields_are (operand.Int z) is = empty_rec
fields_are (operand.Text b) is = empty_rec
fields_are (operand.Path p) is = empty_rec
fields_are (operand.Rec f) is = is
fields_are (operand.Bool b) is = empty_rec

number_is : (v : Operand) → IsOperand v → mag (number v) < 2 ^ 63
unfolding number
number_is (operand.Int z) is = is
number_is (operand.Text b) is = omega arith
number_is (operand.Path p) is = omega arith
number_is (operand.Rec f) is = omega arith
number_is (operand.Bool b) is = omega arith

scalar_is : (v : Operand) → IsOperand v → IsScalarValue (scalar v)
unfolding scalar
scalar_is (operand.Int z) is = is
scalar_is (operand.Text b) is = is
scalar_is (operand.Path p) is = omega arith
scalar_is (operand.Rec f) is = omega arith
scalar_is (operand.Bool b) is = omega arith

pub emitted_is : (v : Operand) → IsOperand v → IsValue (emitted v)
unfolding emitted
emitted_is (operand.Int z) is = is
emitted_is (operand.Text b) is = is
emitted_is (operand.Path p) is = is
emitted_is (operand.Rec f) is = is
emitted_is (operand.Bool b) is = omega arith

-- ---- registers

-- what registers hold may be written
pub record AreWritten (R : Registers) : Type 0 where
  pub ints : AllByRecursion (λ z. mag z < 2 ^ 63) R.ints
  pub texts : AllByRecursion AreBytes R.texts
  pub paths : AllByRecursion IsPath R.paths
  pub recs : AllByRecursion IsRec R.recs

item_is : {X : Type 0} (P : X → Type 0) (opening : X) (n : ℕ) (xs : List X) → P opening → AllByRecursion P xs → P (item_or opening (slice_get xs n))
item_is P opening n [] first all = first
item_is P opening zero (x ∷ xs) first all = all.0
item_is P opening (suc n) (x ∷ xs) first all = item_is P opening n xs first all.1

set_is : {X : Type 0} (P : X → Type 0) (n : ℕ) (x : X) (xs : List X) → P x → AllByRecursion P xs → AllByRecursion P (set_at n x xs)
set_is P zero x [] new all = tt
set_is P (suc n) x [] new all = tt
set_is P zero x (y ∷ ys) new all = (new, all.1)
set_is P (suc n) x (y ∷ ys) new all = (all.0, set_is P n x ys new all.1)

read_is : (reg : Register) (R : Registers) → AreWritten R → IsOperand (read reg R)
read_is (register.Int n) R are = item_is (λ (z : ℤ). mag z < 2 ^ 63) (pos 0) n R.ints (omega arith) are.ints
read_is (register.Text n) R are = item_is AreBytes [] n R.texts tt are.texts
read_is (register.Path n) R are = item_is IsPath [] n R.paths root_written are.paths
read_is (register.Rec n) R are = item_is IsRec [] n R.recs empty_rec are.recs

pub assign_is : (reg : Register) (v : Operand) (R : Registers) → IsOperand v → AreWritten R → AreWritten (assign reg v R)
assign_is (register.Int n) v R is are = record { ints = set_is (λ (z : ℤ). mag z < 2 ^ 63) n (number v) R.ints (number_is v is) are.ints; texts = are.texts; paths = are.paths; recs = are.recs }
assign_is (register.Text n) v R is are = record { ints = are.ints; texts = set_is AreBytes n (bytes v) R.texts (bytes_are v is) are.texts; paths = are.paths; recs = are.recs }
assign_is (register.Path n) v R is are = record { ints = are.ints; texts = are.texts; paths = set_is IsPath n (path v) R.paths (path_is v is) are.paths; recs = are.recs }
assign_is (register.Rec n) v R is are = record { ints = are.ints; texts = are.texts; paths = are.paths; recs = set_is IsRec n (fields v) R.recs (fields_are v is) are.recs }

zero_small : mag (pos 0) < 2 ^ 63
zero_small = omega arith

pub opening_is : (args : List Field) (at : List NameText) → IsRec args → IsPath at → AreWritten (opening args at)
opening_is args at is-args is-at = record {
  ints = (zero_small, (zero_small, (zero_small, (zero_small, (zero_small, (zero_small, (zero_small, (zero_small, tt))))))));
  texts = (tt, (tt, (tt, (tt, (tt, (tt, (tt, (tt, tt))))))));
  paths = (is-at, (root_written, (root_written, (root_written, (root_written, (root_written, (root_written, (root_written, tt))))))));
  recs = (is-args, (empty_rec, (empty_rec, (empty_rec, (empty_rec, (empty_rec, (empty_rec, (empty_rec, tt))))))));
}

-- ---- what the forms give

pub cut_is : (z : ℤ) → mag (saturate_signed w64 z) < 2 ^ 63
cut_is (pos n) = omega arith
cut_is (negsuc n) = omega arith

field_is : (key : List ℕ) (f : List Field) (x : Scalar) → AllByRecursion IsField f → field_of key f ≡ Some x → IsScalar x
field_is key [] x all e = absurd cc
field_is key (one ∷ f) x all e = elim (pointwise nat_eq key one.key) as (λ b. cond b (Some one.value) (field_of key f) ≡ Some x → IsScalar x) [
  | true ↦ λ here. subst IsScalar (some_is one.value x here) all.0.value
  | false ↦ λ later. field_is key f x all.1 later
] e

int_or_is : (z : ℤ) (o : Option Scalar) → mag z < 2 ^ 63 → ((x : Scalar) → o ≡ Some x → IsScalar x) → mag (int_or z o) < 2 ^ 63
int_or_is z None is h = is
int_or_is z (Some (scalars.Int y)) is h = h (scalars.Int y) refl
int_or_is z (Some (scalars.Text b)) is h = is

text_or_are : (b : List ℕ) (o : Option Scalar) → AreBytes b → ((x : Scalar) → o ≡ Some x → IsScalar x) → AreBytes (text_or b o)
text_or_are b None is h = is
text_or_are b (Some (scalars.Int y)) is h = is
text_or_are b (Some (scalars.Text c)) is h = (h (scalars.Text c) refl).1

payload_fields-are : (x : Payload) → IsPayload x → IsRec (payload_fields x)
payload_fields-are payload.Empty is = empty_rec
payload_fields-are (payload.Fields f) is = is
payload_fields-are (payload.Proc s) is = empty_rec

seen_fields : (T : Tree) (p : List NameText) (o : Option Node) → get T p ≡ o → AllSpelled T → IsRec (fields_seen (seen_node T p o))
seen_fields T p None e all = empty_rec
seen_fields T p (Some n) e all = payload_fields-are n.payload (all p n e).payload

data_is : (T : Tree) (p : List NameText) → AllSpelled T → IsRec (fields_seen (seen_at T p))
unfolding seen_at
data_is T p all = seen_fields T p (get T p) refl all

last_are : (p : List NameText) → AllByRecursion IsName p → AreBytes (name_bytes (last_name p))
last_are [] all = tt
last_are (n ∷ []) all = all.0.bytes
last_are (n ∷ m ∷ p) all = last_are (m ∷ p) all.1

-- what an evaluation that is refused or comes to a value that may be written is
abbrev Fine : Evaluation → Type 0
Fine v = Comes IsOperand v

choose : (b : Bool) (x y : Evaluation) → (b ≡ true → Fine x) → (b ≡ false → Fine y) → Fine (cond b x y)
choose true x y f g = f refl
choose false x y f g = g refl

within_is : (p : List NameText) → AllByRecursion IsName p → Fine (within p)
within_is p all = choose (is_long p) (Refuses Deep) (Is (operand.Path p)) (λ _. tt)
    (λ e.
    let short = (or_false (is_deep p) (ltb MAX_PATH_TEXT (length (path_text p))) e).1 in
    record { names = all; short = ltb-false MAX_PATH_TEXT (length (path_text p)) short })

child_is : (p : List NameText) (b : List ℕ) → IsPath p → AreBytes b → Fine (child p b)
child_is p b is are =
    let n : NameText = record { kind = kinds.Text; bytes = b } in
    choose (is_name b) (within (p ++ n ∷ [])) (Refuses Name)
    (λ e.
    let t = and_true (leb 1 (length b)) (leb (length b) MAX_NAME) e in
    within_is (p ++ n ∷ []) (All-append IsName p (n ∷ []) is.names (record { low = omega (arith, leb-true 1 (length b) t.0); high = leb-true (length b) MAX_NAME t.1; bytes = are }, tt)))
    (λ _. tt)

small_is : (key : NameText) (x : Scalar) (f : List Field) → IsName key → IsScalarValue x → IsRec f → Fine (small (with_field (record { key = key.bytes; value = x }) f))
small_is key x f is-key is-x is-f =
    let new : Field = record { key = key.bytes; value = x } in
    choose (is_small (with_field new f)) (Is (operand.Rec (with_field new f))) (Refuses Full) (λ e. with_is new f is-f is-key is-x e) (λ _. tt)

one_is : (a : Evaluation) (form : Operand → Evaluation) → Fine a → ((x : Operand) → IsOperand x → Fine (form x)) → Fine (one a form)
one_is (Is v) form h f = f v h
one_is (Refuses why) form h f = tt

two_is : (a b : Evaluation) (form : Operand → Operand → Evaluation) → Fine a → Fine b → ((x y : Operand) → IsOperand x → IsOperand y → Fine (form x y)) → Fine (two a b form)
two_is (Is v) (Is w) form h k f = f v w h k
two_is (Is v) (Refuses why) form h k f = tt
two_is (Refuses why) b form h k f = tt

-- ---- expressions

module _ (R : Registers) (T : Tree) (are : AreWritten R) (all : AllSpelled T) where
  -- what it comes to may be written
  abbrev IsWell : Expr → Type 0
  IsWell e = Fine (value_of e R T)

  layer_is : (Q : Expr → Type 0) → ((e : Expr) → Q e → IsWell e) → (l : Expr-F Expr) → IsExprLayer Q l → Fine (layer_value R T (map-Expr Expr Evaluation (λ e. value_of e R T) l))
  layer_is Q well (Expr-F.Int z) is = is
  layer_is Q well (Expr-F.Text b) is = is
  layer_is Q well (Expr-F.Path p) is = is
  layer_is Q well (Expr-F.Rec f) is = is
  layer_is Q well (Expr-F.Register reg) is = read_is reg R are
  layer_is Q well (Expr-F.Add a b) is = two_is (value_of a R T) (value_of b R T) (λ x y. Is (cut (number x +ℤ number y))) (well a is.0) (well b is.1) (λ x y h k. cut_is (number x +ℤ number y))
  layer_is Q well (Expr-F.Sub a b) is = two_is (value_of a R T) (value_of b R T) (λ x y. Is (cut (number x -ℤ number y))) (well a is.0) (well b is.1) (λ x y h k. cut_is (number x -ℤ number y))
  layer_is Q well (Expr-F.Cat a b) is =
      two_is (value_of a R T) (value_of b R T) (λ x y. Is (operand.Text (take MAX_CAT_TEXT (bytes x ++ bytes y)))) (well a is.0) (well b is.1)
      (λ x y h k. All-take (λ (c : ℕ). c < 256) MAX_CAT_TEXT (bytes x ++ bytes y) (All-append (λ (c : ℕ). c < 256) (bytes x) (bytes y) (bytes_are x h) (bytes_are y k)))
  layer_is Q well (Expr-F.IntField a key z) is =
      one_is (value_of a R T) (λ d. Is (operand.Int (int_or z (field_of key.bytes (fields d))))) (well a is.0)
      (λ d h. int_or_is z (field_of key.bytes (fields d)) is.2 (λ x e. field_is key.bytes (fields d) x (fields_are d h).fields e))
  layer_is Q well (Expr-F.TextField a key b) is =
      one_is (value_of a R T) (λ d. Is (operand.Text (text_or b (field_of key.bytes (fields d))))) (well a is.0)
      (λ d h. text_or_are b (field_of key.bytes (fields d)) is.2 (λ x e. field_is key.bytes (fields d) x (fields_are d h).fields e))
  layer_is Q well (Expr-F.Data a) is = one_is (value_of a R T) (λ p. Is (operand.Rec (fields_seen (seen_at T (path p))))) (well a is) (λ p h. data_is T (path p) all)
  layer_is Q well (Expr-F.Pv a) is = one_is (value_of a R T) (λ p. Is (cut (pos (number_seen (λ s. s.pv) (seen_at T (path p)))))) (well a is) (λ p h. cut_is (pos (number_seen (λ s. s.pv) (seen_at T (path p)))))
  layer_is Q well (Expr-F.Cv a) is = one_is (value_of a R T) (λ p. Is (cut (pos (number_seen (λ s. s.cv) (seen_at T (path p)))))) (well a is) (λ p h. cut_is (pos (number_seen (λ s. s.cv) (seen_at T (path p)))))
  layer_is Q well (Expr-F.Kids a) is = one_is (value_of a R T) (λ p. Is (cut (pos (number_seen (λ s. s.kids) (seen_at T (path p)))))) (well a is) (λ p h. cut_is (pos (number_seen (λ s. s.kids) (seen_at T (path p)))))
  layer_is Q well (Expr-F.Last a) is = one_is (value_of a R T) (λ p. Is (operand.Text (name_bytes (last_name (path p))))) (well a is) (λ p h. last_are (path p) (path_is p h).names)
  layer_is Q well (Expr-F.Child a b) is = two_is (value_of a R T) (value_of b R T) (λ p t. child (path p) (bytes t)) (well a is.0) (well b is.1) (λ p t h k. child_is (path p) (bytes t) (path_is p h) (bytes_are t k))
  layer_is Q well (Expr-F.With a key b) is =
      two_is (value_of a R T) (value_of b R T) (λ d x. small (with_field (record { key = key.bytes; value = scalar x }) (fields d))) (well a is.0) (well b is.2)
      (λ d x h k. small_is key (scalar x) (fields d) is.1.1 (scalar_is x k) (fields_are d h))
  layer_is Q well (Expr-F.Compare op a b) is = two_is (value_of a R T) (value_of b R T) (λ x y. Is (operand.Bool (compares op (scalar_cmp (scalar x) (scalar y))))) (well a is.0) (well b is.1) (λ x y h k. tt)
  layer_is Q well (Expr-F.Test a c) is = one_is (value_of a R T) (λ p. Is (operand.Bool (tested c T (path p)))) (well a is.0) (λ p h. tt)
  layer_is Q well (Expr-F.Not a) is = one_is (value_of a R T) (λ x. Is (operand.Bool (not (truth x)))) (well a is) (λ x h. tt)
  layer_is Q well (Expr-F.All a b) is = two_is (value_of a R T) (value_of b R T) (λ x y. Is (operand.Bool (truth x && truth y))) (well a is.0) (well b is.1) (λ x y h k. tt)
  layer_is Q well (Expr-F.Any a b) is = two_is (value_of a R T) (value_of b R T) (λ x y. Is (operand.Bool (truth x || truth y))) (well a is.0) (well b is.1) (λ x y h k. tt)

  pub value_is : (n : ℕ) (e : Expr) → IsExprNested n e → Comes IsOperand (value_of e R T)
  value_is zero e is = absurd is
  value_is (suc n) e is = subst Fine (sym (fold_out-Expr Evaluation (layer_value R T) e)) (layer_is (IsExprNested n) (value_is n) (out-Expr e) is)

-- the paths that a pattern matches may be written
pub matched_are : (T : Tree) (parts : List PatternPart) → AllWritten T → AllByRecursion (λ p. IsOperand (operand.Path p)) (matching parts T)
matched_are T parts all =
    let nodes = matching_nodes parts T in
    let each : AllByRecursion (λ e. IsPath e.0) (take (length nodes) nodes) = each_matched (λ (e : List NameText × Node). IsPath e.0) T parts (length nodes) (λ e at. all e.0 (ap is_some at)) in
    All-map (λ (e : List NameText × Node). IsPath e.0) IsPath (λ e. e.0) (λ e h. h) nodes (subst (AllByRecursion (λ (e : List NameText × Node). IsPath e.0)) (take_all (length nodes) nodes (omega arith)) each)
