-- Expressions that are read are spelled so, and those that are spelled are read again.
use Rattle.std.proofs.Common.{◌≡◌, ⊎_elim, ℕ, zero, suc, ◌+◌, ◌≤◌, List, [], ◌∷◌, ◌++◌, drop, refl, sym, ap, subst, ◌∙◌, append_assoc, arith, Option, Some, None, codes, ℤ}
use Rattle.std.specs.Fmt.{signed_decimal}
use Rattle.khepri_terms.specs.Terms.{NameText}
use Rattle.khepri_terms.specs.declared.rec.Field.{Field}
use Rattle.khepri_terms.specs.Many.{◌>>=◌}
use Rattle.khepri_terms.specs.Bytes.{bytes_text, AreBytes}
use Rattle.khepri_terms.specs.Names.{comp_text}
use Rattle.khepri_terms.specs.Numbers.{int_at, number_at}
use Rattle.khepri_terms.specs.Paths.{path_text, path_at, IsPath, Ends}
use Rattle.khepri_terms.specs.Records.{rec_text, rec_at, opened_at, IsRec}
use Rattle.khepri_terms.proofs.Cases.{bind_some}
use Rattle.khepri_types.specs.declared.compare.Compare.TheVariants.{Eq, Ne, Lt, Le, Gt, Ge}
use Rattle.khepri_types.specs.declared.condition.Condition.{Condition}
use Rattle.khepri_types.specs.declared.register.Register.{Register}
use Rattle.khepri_types.specs.declared.register.Register.TheVariants as register
use Rattle.khepri_types.specs.declared.script.Expr.{Expr, out-Expr, roll-Expr, map-Expr}
use Rattle.khepri_types.specs.declared.script.Expr.TheVariants as e
use Rattle.khepri_types.specs.declared.script.Expr.TheVariants.{rolls-Int, rolls-Text, rolls-Path, rolls-Rec, rolls-Register, rolls-Add, rolls-Sub, rolls-Cat, rolls-IntField, rolls-TextField, rolls-Data, rolls-Pv, rolls-Cv, rolls-Kids, rolls-Last, rolls-Child, rolls-With, rolls-Compare, rolls-Test, rolls-Not, rolls-All, rolls-Any}
use Rattle.khepri_types.specs.declared.script.Expr.TheViews.{out-roll-Expr, roll-out-Expr}
use Rattle.khepri_types.specs.declared.script.Expr.TheFolds.{fold-roll-Expr}
use Rattle.khepri_types.specs.declared.script.Expr.TheOpen.{Expr-F}
use Rattle.khepri_types.specs.declared.script_words.PairWord.{PairWord}
use Rattle.khepri_types.specs.declared.script_words.PairWord.TheVariants as pairs
use Rattle.khepri_types.specs.declared.script_words.OneWord.{OneWord}
use Rattle.khepri_types.specs.declared.script_words.OneWord.TheVariants as ones
use Rattle.khepri_types.specs.declared.script_words.ExprWord.{ExprWord}
use Rattle.khepri_types.specs.declared.script_words.ExprWord.TheVariants as words
use Rattle.khepri_types.specs.Compares.{compare_text}
use Rattle.khepri_types.specs.ConditionTexts.{asked_text, condition_text, IsCondition, IsKey}
use Rattle.khepri_types.specs.Items.{Item, kept, uncounted, ended, followed, made, or_read}
use Rattle.khepri_types.specs.ReadingConditions.{key_at, condition_at}
use Rattle.khepri_types.specs.ReadingScripts.{read_as, expr_word_at, register_at, quoted_at, leaf_at, pair_expr, one_expr, keyed_at, arguments_at, layer_expr_at, nested_expr_at}
use Rattle.khepri_types.specs.ScriptTexts.{register_text, quoted, two_texts, three_texts, layer_expr_text, expr_text, layer_expr_size, expr_size, IsRegister, IsExprLayer, IsExprNested}
use Rattle.khepri_types.specs.ScriptWords.{pair_word_text, one_word_text, expr_word_text}
use Rattle.khepri_types.proofs.ItemLaws.{Anything, Was, Spells, nothing, uncounted_spells, ended_spells, followed_spells, made_is, or_read_is}
use Rattle.khepri_types.proofs.LeafLaws.{IsInt, comma_ends, close_ends, int_spells, path_spells, rec_spells, condition_spells, key_spells, quoted_spells, register_spells}
use Rattle.khepri_types.proofs.ScriptWordLaws.{read_as_is, expr_word_takes, expr_word_again}

-- ---- forms

-- what an expression of one layer is
record Form (n : ℕ) (l : Expr-F Expr) (v : Expr) : Type 0 where
  text : expr_text v ≡ layer_expr_text (map-Expr Expr (List ℕ) expr_text l)
  size : expr_size v ≡ layer_expr_size (map-Expr Expr ℕ expr_size l)
  nested : IsExprLayer (IsExprNested n) l → IsExprNested (suc n) v

form : (n : ℕ) (l : Expr-F Expr) (v : Expr) → roll-Expr l ≡ v → Form n l v
form n l v is = subst (Form n l) is (record {
  text = fold-roll-Expr (List ℕ) layer_expr_text l;
  size = fold-roll-Expr ℕ layer_expr_size l;
  nested = λ h. subst (IsExprLayer (IsExprNested n)) (sym (out-roll-Expr l)) h;
})

-- what a form of some parts is: its word, the text of the parts and their `)`
record Row {A : Type 0} (n : ℕ) (word : List ℕ) (make : A → Expr) (text : A → List ℕ) (size : A → ℕ) (Is : A → Type 0) : Type 0 where
  spelled : (x : A) → expr_text (make x) ≡ word ++ 40 ∷ text x
  counted : (x : A) → expr_size (make x) ≡ size x + 1
  nested : (x : A) → Is x → IsExprNested (suc n) (make x)

-- what was read as an expression behind a word
abbrev WasBehind : ℕ → ℕ → List ℕ → List ℕ → Expr × ℕ × List ℕ → Type 0
WasBehind n k word t x = (word ++ 40 ∷ t ≡ expr_text x.0 ++ x.2) × IsExprNested (suc n) x.0 × (expr_size x.0 + x.1 ≡ suc k)

row_takes : {A : Type 0} (n : ℕ) (word : List ℕ) (make : A → Expr) (args : Item A) (text : A → List ℕ) (size : A → ℕ) (Is : A → Type 0) → Spells args text size Is Anything → Row n word make text size Is
    → (k : ℕ) (t : List ℕ) (x : Expr × ℕ × List ℕ) → made make (args k t) ≡ Some x → WasBehind n k word t x
row_takes {A = A} n word make args text size Is s r k t x e =
    let y = made_is make (args k t) x e in
    let w = s.takes k t y.0 y.1 in
    let parts : word ++ 40 ∷ t ≡ expr_text (make y.0.0) ++ y.0.2 =
    ap (λ (u : List ℕ). word ++ 40 ∷ u) w.0 ∙ (sym (append_assoc word (40 ∷ text y.0.0) y.0.2) ∙ ap (λ (u : List ℕ). u ++ y.0.2) (sym (r.spelled y.0.0))) in
    subst (WasBehind n k word t) y.2 (parts, r.nested y.0.0 w.1, omega (arith, w.2, r.counted y.0.0))

row_again : {A : Type 0} (n : ℕ) (word : List ℕ) (make : A → Expr) (args : Item A) (text : A → List ℕ) (size : A → ℕ) (Is : A → Type 0) → Spells args text size Is Anything → Row n word make text size Is
    → (x : A) (k more : ℕ) (rest : List ℕ) → Is x → expr_size (make x) + more ≡ suc k → made make (args k (text x ++ rest)) ≡ Some (make x, more, rest)
row_again {A = A} n word make args text size Is s r x k more rest is sum = ap (made make) (s.again x k more rest is tt (omega (arith, sum, r.counted x)))

-- parts joined by `,`, as they are spelled and as they are read
pub two_parts : (word a b : List ℕ) → asked_text word (two_texts a b) ≡ word ++ 40 ∷ ((a ++ 44 ∷ []) ++ (b ++ 41 ∷ []))
two_parts word a b = ap (λ (t : List ℕ). word ++ 40 ∷ t) (append_assoc a (44 ∷ b) (41 ∷ []) ∙ sym (append_assoc a (44 ∷ []) (b ++ 41 ∷ [])))

pub three_parts : (word a b c : List ℕ) → asked_text word (three_texts a b c) ≡ word ++ 40 ∷ ((a ++ 44 ∷ []) ++ ((b ++ 44 ∷ []) ++ (c ++ 41 ∷ [])))
three_parts word a b c =
    ap (λ (t : List ℕ). word ++ 40 ∷ t)
    (append_assoc a (44 ∷ (b ++ 44 ∷ c)) (41 ∷ [])
    ∙ (ap (λ (t : List ℕ). a ++ 44 ∷ t) (append_assoc b (44 ∷ c) (41 ∷ []) ∙ sym (append_assoc b (44 ∷ []) (c ++ 41 ∷ [])))
    ∙ sym (append_assoc a (44 ∷ []) ((b ++ 44 ∷ []) ++ (c ++ 41 ∷ [])))))

-- ---- with the law of the expressions inside

module _ (n : ℕ) (inner : Item Expr) (s : Spells inner expr_text expr_size (IsExprNested n) Ends) where
  abbrev Inner : Expr → Type 0
  Inner x = IsExprNested n x

  -- `e,` and `e)`
  comma_spells : Spells (ended 44 inner) (λ x. expr_text x ++ 44 ∷ []) expr_size Inner Anything
  comma_spells = ended_spells 44 inner expr_text expr_size Inner Ends refl comma_ends s

  close_spells : Spells (ended 41 inner) (λ x. expr_text x ++ 41 ∷ []) expr_size Inner Anything
  close_spells = ended_spells 41 inner expr_text expr_size Inner Ends refl close_ends s

  -- forms of two expressions
  abbrev pair_text : Expr × Expr → List ℕ
  pair_text x = (expr_text x.0 ++ 44 ∷ []) ++ (expr_text x.1 ++ 41 ∷ [])

  abbrev pair_size : Expr × Expr → ℕ
  pair_size x = expr_size x.0 + expr_size x.1

  abbrev IsPair : Expr × Expr → Type 0
  IsPair x = Inner x.0 × Inner x.1

  pair_spells : Spells (followed (ended 44 inner) (ended 41 inner)) pair_text pair_size IsPair Anything
  pair_spells = followed_spells (ended 44 inner) (ended 41 inner) (λ x. expr_text x ++ 44 ∷ []) (λ x. expr_text x ++ 41 ∷ []) expr_size expr_size Inner Inner Anything comma_spells close_spells

  pair_row : (w : PairWord) → Row n (pair_word_text w) (pair_expr w) pair_text pair_size IsPair
  unfolding pair_word_text layer_expr_text layer_expr_size
  pair_row pairs.Add = record {
    spelled = λ x. (form n (Expr-F.Add x.0 x.1) (e.Add x.0 x.1) (rolls-Add x.0 x.1)).text ∙ two_parts (codes "add") (expr_text x.0) (expr_text x.1);
    counted = λ x. (form n (Expr-F.Add x.0 x.1) (e.Add x.0 x.1) (rolls-Add x.0 x.1)).size;
    nested = λ x is. (form n (Expr-F.Add x.0 x.1) (e.Add x.0 x.1) (rolls-Add x.0 x.1)).nested is;
  }
  pair_row pairs.Sub = record {
    spelled = λ x. (form n (Expr-F.Sub x.0 x.1) (e.Sub x.0 x.1) (rolls-Sub x.0 x.1)).text ∙ two_parts (codes "sub") (expr_text x.0) (expr_text x.1);
    counted = λ x. (form n (Expr-F.Sub x.0 x.1) (e.Sub x.0 x.1) (rolls-Sub x.0 x.1)).size;
    nested = λ x is. (form n (Expr-F.Sub x.0 x.1) (e.Sub x.0 x.1) (rolls-Sub x.0 x.1)).nested is;
  }
  pair_row pairs.Cat = record {
    spelled = λ x. (form n (Expr-F.Cat x.0 x.1) (e.Cat x.0 x.1) (rolls-Cat x.0 x.1)).text ∙ two_parts (codes "cat") (expr_text x.0) (expr_text x.1);
    counted = λ x. (form n (Expr-F.Cat x.0 x.1) (e.Cat x.0 x.1) (rolls-Cat x.0 x.1)).size;
    nested = λ x is. (form n (Expr-F.Cat x.0 x.1) (e.Cat x.0 x.1) (rolls-Cat x.0 x.1)).nested is;
  }
  pair_row pairs.Child = record {
    spelled = λ x. (form n (Expr-F.Child x.0 x.1) (e.Child x.0 x.1) (rolls-Child x.0 x.1)).text ∙ two_parts (codes "child") (expr_text x.0) (expr_text x.1);
    counted = λ x. (form n (Expr-F.Child x.0 x.1) (e.Child x.0 x.1) (rolls-Child x.0 x.1)).size;
    nested = λ x is. (form n (Expr-F.Child x.0 x.1) (e.Child x.0 x.1) (rolls-Child x.0 x.1)).nested is;
  }
  pair_row pairs.All = record {
    spelled = λ x. (form n (Expr-F.All x.0 x.1) (e.All x.0 x.1) (rolls-All x.0 x.1)).text ∙ two_parts (codes "all") (expr_text x.0) (expr_text x.1);
    counted = λ x. (form n (Expr-F.All x.0 x.1) (e.All x.0 x.1) (rolls-All x.0 x.1)).size;
    nested = λ x is. (form n (Expr-F.All x.0 x.1) (e.All x.0 x.1) (rolls-All x.0 x.1)).nested is;
  }
  pair_row pairs.Any = record {
    spelled = λ x. (form n (Expr-F.Any x.0 x.1) (e.Any x.0 x.1) (rolls-Any x.0 x.1)).text ∙ two_parts (codes "any") (expr_text x.0) (expr_text x.1);
    counted = λ x. (form n (Expr-F.Any x.0 x.1) (e.Any x.0 x.1) (rolls-Any x.0 x.1)).size;
    nested = λ x is. (form n (Expr-F.Any x.0 x.1) (e.Any x.0 x.1) (rolls-Any x.0 x.1)).nested is;
  }
  pair_row (pairs.Compare op) = record {
    spelled = λ x. (form n (Expr-F.Compare op x.0 x.1) (e.Compare op x.0 x.1) (rolls-Compare op x.0 x.1)).text ∙ two_parts (compare_text op) (expr_text x.0) (expr_text x.1);
    counted = λ x. (form n (Expr-F.Compare op x.0 x.1) (e.Compare op x.0 x.1) (rolls-Compare op x.0 x.1)).size;
    nested = λ x is. (form n (Expr-F.Compare op x.0 x.1) (e.Compare op x.0 x.1) (rolls-Compare op x.0 x.1)).nested is;
  }

  -- forms of one expression
  abbrev one_text : Expr → List ℕ
  one_text x = expr_text x ++ 41 ∷ []

  one_row : (w : OneWord) → Row n (one_word_text w) (one_expr w) one_text expr_size Inner
  unfolding one_word_text layer_expr_text layer_expr_size
  one_row ones.Data = record { spelled = λ x. (form n (Expr-F.Data x) (e.Data x) (rolls-Data x)).text; counted = λ x. (form n (Expr-F.Data x) (e.Data x) (rolls-Data x)).size; nested = λ x is. (form n (Expr-F.Data x) (e.Data x) (rolls-Data x)).nested is }
  one_row ones.Pv = record { spelled = λ x. (form n (Expr-F.Pv x) (e.Pv x) (rolls-Pv x)).text; counted = λ x. (form n (Expr-F.Pv x) (e.Pv x) (rolls-Pv x)).size; nested = λ x is. (form n (Expr-F.Pv x) (e.Pv x) (rolls-Pv x)).nested is }
  one_row ones.Cv = record { spelled = λ x. (form n (Expr-F.Cv x) (e.Cv x) (rolls-Cv x)).text; counted = λ x. (form n (Expr-F.Cv x) (e.Cv x) (rolls-Cv x)).size; nested = λ x is. (form n (Expr-F.Cv x) (e.Cv x) (rolls-Cv x)).nested is }
  one_row ones.Kids = record { spelled = λ x. (form n (Expr-F.Kids x) (e.Kids x) (rolls-Kids x)).text; counted = λ x. (form n (Expr-F.Kids x) (e.Kids x) (rolls-Kids x)).size; nested = λ x is. (form n (Expr-F.Kids x) (e.Kids x) (rolls-Kids x)).nested is }
  one_row ones.Last = record { spelled = λ x. (form n (Expr-F.Last x) (e.Last x) (rolls-Last x)).text; counted = λ x. (form n (Expr-F.Last x) (e.Last x) (rolls-Last x)).size; nested = λ x is. (form n (Expr-F.Last x) (e.Last x) (rolls-Last x)).nested is }
  one_row ones.Not = record { spelled = λ x. (form n (Expr-F.Not x) (e.Not x) (rolls-Not x)).text; counted = λ x. (form n (Expr-F.Not x) (e.Not x) (rolls-Not x)).size; nested = λ x is. (form n (Expr-F.Not x) (e.Not x) (rolls-Not x)).nested is }

  -- `e,KEY,` and a value
  keyed_spells : {A : Type 0} (value : Item A) (text : A → List ℕ) (size : A → ℕ) (Is : A → Type 0) → Spells value text size Is Ends
      → Spells (keyed_at inner value) (λ x. (expr_text x.0 ++ 44 ∷ []) ++ ((comp_text x.1.0 ++ 44 ∷ []) ++ (text x.1.1 ++ 41 ∷ []))) (λ x. expr_size x.0 + (0 + size x.1.1)) (λ x. Inner x.0 × (IsKey x.1.0 × Is x.1.1)) Anything
  keyed_spells {A = A} value text size Is v =
      let key : Spells (ended 44 (uncounted key_at)) (λ k. comp_text k ++ 44 ∷ []) nothing IsKey Anything =
      ended_spells 44 (uncounted key_at) comp_text nothing IsKey Ends refl comma_ends (uncounted_spells key_at comp_text IsKey Ends key_spells) in
      let last : Spells (ended 41 value) (λ x. text x ++ 41 ∷ []) size Is Anything = ended_spells 41 value text size Is Ends refl close_ends v in
      let behind : Spells (followed (ended 44 (uncounted key_at)) (ended 41 value)) (λ x. (comp_text x.0 ++ 44 ∷ []) ++ (text x.1 ++ 41 ∷ [])) (λ x. 0 + size x.1) (λ x. IsKey x.0 × Is x.1) Anything =
      followed_spells (ended 44 (uncounted key_at)) (ended 41 value) (λ k. comp_text k ++ 44 ∷ []) (λ x. text x ++ 41 ∷ []) nothing size IsKey Is Anything key last in
      followed_spells (ended 44 inner) (followed (ended 44 (uncounted key_at)) (ended 41 value)) (λ x. expr_text x ++ 44 ∷ []) (λ x. (comp_text x.0 ++ 44 ∷ []) ++ (text x.1 ++ 41 ∷ [])) expr_size (λ x. 0 + size x.1) Inner (λ x. IsKey x.0 × Is x.1) Anything comma_spells behind

  abbrev keyed_text : {A : Type 0} → (A → List ℕ) → Expr × (NameText × A) → List ℕ
  keyed_text text x = (expr_text x.0 ++ 44 ∷ []) ++ ((comp_text x.1.0 ++ 44 ∷ []) ++ (text x.1.1 ++ 41 ∷ []))

  abbrev keyed_size : {A : Type 0} → (A → ℕ) → Expr × (NameText × A) → ℕ
  keyed_size size x = expr_size x.0 + (0 + size x.1.1)

  abbrev IsKeyed : {A : Type 0} → (A → Type 0) → Expr × (NameText × A) → Type 0
  IsKeyed Is x = Inner x.0 × (IsKey x.1.0 × Is x.1.1)

  int_row : Row n (codes "int") (λ (x : Expr × (NameText × ℤ)). e.IntField x.0 x.1.0 x.1.1) (keyed_text signed_decimal) (keyed_size nothing) (IsKeyed IsInt)
  unfolding layer_expr_text layer_expr_size
  int_row = record {
    spelled = λ x. (form n (Expr-F.IntField x.0 x.1.0 x.1.1) (e.IntField x.0 x.1.0 x.1.1) (rolls-IntField x.0 x.1.0 x.1.1)).text ∙ three_parts (codes "int") (expr_text x.0) (comp_text x.1.0) (signed_decimal x.1.1);
    counted = λ x. let z = (form n (Expr-F.IntField x.0 x.1.0 x.1.1) (e.IntField x.0 x.1.0 x.1.1) (rolls-IntField x.0 x.1.0 x.1.1)).size in omega (arith, z);
    nested = λ x is. (form n (Expr-F.IntField x.0 x.1.0 x.1.1) (e.IntField x.0 x.1.0 x.1.1) (rolls-IntField x.0 x.1.0 x.1.1)).nested (is.0, is.1.0, is.1.1);
  }

  text_row : Row n (codes "text") (λ (x : Expr × (NameText × List ℕ)). e.TextField x.0 x.1.0 x.1.1) (keyed_text quoted) (keyed_size nothing) (IsKeyed AreBytes)
  unfolding layer_expr_text layer_expr_size
  text_row = record {
    spelled = λ x. (form n (Expr-F.TextField x.0 x.1.0 x.1.1) (e.TextField x.0 x.1.0 x.1.1) (rolls-TextField x.0 x.1.0 x.1.1)).text ∙ three_parts (codes "text") (expr_text x.0) (comp_text x.1.0) (quoted x.1.1);
    counted = λ x. let z = (form n (Expr-F.TextField x.0 x.1.0 x.1.1) (e.TextField x.0 x.1.0 x.1.1) (rolls-TextField x.0 x.1.0 x.1.1)).size in omega (arith, z);
    nested = λ x is. (form n (Expr-F.TextField x.0 x.1.0 x.1.1) (e.TextField x.0 x.1.0 x.1.1) (rolls-TextField x.0 x.1.0 x.1.1)).nested (is.0, is.1.0, is.1.1);
  }

  with_row : Row n (codes "with") (λ (x : Expr × (NameText × Expr)). e.With x.0 x.1.0 x.1.1) (keyed_text expr_text) (keyed_size expr_size) (IsKeyed Inner)
  unfolding layer_expr_text layer_expr_size
  with_row = record {
    spelled = λ x. (form n (Expr-F.With x.0 x.1.0 x.1.1) (e.With x.0 x.1.0 x.1.1) (rolls-With x.0 x.1.0 x.1.1)).text ∙ three_parts (codes "with") (expr_text x.0) (comp_text x.1.0) (expr_text x.1.1);
    counted = λ x. let z = (form n (Expr-F.With x.0 x.1.0 x.1.1) (e.With x.0 x.1.0 x.1.1) (rolls-With x.0 x.1.0 x.1.1)).size in omega (arith, z);
    nested = λ x is. (form n (Expr-F.With x.0 x.1.0 x.1.1) (e.With x.0 x.1.0 x.1.1) (rolls-With x.0 x.1.0 x.1.1)).nested (is.0, is.1.0, is.1.1);
  }

  abbrev test_text : Expr × Condition → List ℕ
  test_text x = (expr_text x.0 ++ 44 ∷ []) ++ (condition_text x.1 ++ 41 ∷ [])

  abbrev test_size : Expr × Condition → ℕ
  test_size x = expr_size x.0 + 0

  abbrev IsTest : Expr × Condition → Type 0
  IsTest x = Inner x.0 × IsCondition x.1

  test_spells : Spells (followed (ended 44 inner) (ended 41 (uncounted condition_at))) test_text test_size IsTest Anything
  test_spells =
      let cond : Spells (ended 41 (uncounted condition_at)) (λ c. condition_text c ++ 41 ∷ []) nothing IsCondition Anything =
      ended_spells 41 (uncounted condition_at) condition_text nothing IsCondition Anything refl (λ rest. tt) (uncounted_spells condition_at condition_text IsCondition Anything condition_spells) in
      followed_spells (ended 44 inner) (ended 41 (uncounted condition_at)) (λ x. expr_text x ++ 44 ∷ []) (λ c. condition_text c ++ 41 ∷ []) expr_size nothing Inner IsCondition Anything comma_spells cond

  test_row : Row n (codes "test") (λ (x : Expr × Condition). e.Test x.0 x.1) test_text test_size IsTest
  unfolding layer_expr_text layer_expr_size
  test_row = record {
    spelled = λ x. (form n (Expr-F.Test x.0 x.1) (e.Test x.0 x.1) (rolls-Test x.0 x.1)).text ∙ two_parts (codes "test") (expr_text x.0) (condition_text x.1);
    counted = λ x. let z = (form n (Expr-F.Test x.0 x.1) (e.Test x.0 x.1) (rolls-Test x.0 x.1)).size in omega (arith, z);
    nested = λ x is. (form n (Expr-F.Test x.0 x.1) (e.Test x.0 x.1) (rolls-Test x.0 x.1)).nested is;
  }

  abbrev int_args : Item (Expr × (NameText × ℤ))
  int_args = keyed_at inner (uncounted int_at)

  int_args_spell : Spells int_args (keyed_text signed_decimal) (keyed_size nothing) (IsKeyed IsInt) Anything
  int_args_spell = keyed_spells (uncounted int_at) signed_decimal nothing IsInt (uncounted_spells int_at signed_decimal IsInt Ends int_spells)

  abbrev text_args : Item (Expr × (NameText × List ℕ))
  text_args = keyed_at inner (uncounted quoted_at)

  text_args_spell : Spells text_args (keyed_text quoted) (keyed_size nothing) (IsKeyed AreBytes) Anything
  text_args_spell = keyed_spells (uncounted quoted_at) quoted nothing AreBytes (uncounted_spells quoted_at quoted AreBytes Ends quoted_spells)

  with_args_spell : Spells (keyed_at inner inner) (keyed_text expr_text) (keyed_size expr_size) (IsKeyed Inner) Anything
  with_args_spell = keyed_spells inner expr_text expr_size Inner s

  arguments_takes : (w : ExprWord) (k : ℕ) (t : List ℕ) (x : Expr × ℕ × List ℕ) → arguments_at inner w k t ≡ Some x → WasBehind n k (expr_word_text w) t x
  unfolding arguments_at expr_word_text
  arguments_takes (words.Pair w) k t x h = row_takes n (pair_word_text w) (pair_expr w) (followed (ended 44 inner) (ended 41 inner)) pair_text pair_size IsPair pair_spells (pair_row w) k t x h
  arguments_takes (words.One w) k t x h = row_takes n (one_word_text w) (one_expr w) (ended 41 inner) one_text expr_size Inner close_spells (one_row w) k t x h
  arguments_takes words.Int k t x h = row_takes n (codes "int") (λ (x : Expr × (NameText × ℤ)). e.IntField x.0 x.1.0 x.1.1) int_args (keyed_text signed_decimal) (keyed_size nothing) (IsKeyed IsInt) int_args_spell int_row k t x h
  arguments_takes words.Text k t x h = row_takes n (codes "text") (λ (x : Expr × (NameText × List ℕ)). e.TextField x.0 x.1.0 x.1.1) text_args (keyed_text quoted) (keyed_size nothing) (IsKeyed AreBytes) text_args_spell text_row k t x h
  arguments_takes words.With k t x h = row_takes n (codes "with") (λ (x : Expr × (NameText × Expr)). e.With x.0 x.1.0 x.1.1) (keyed_at inner inner) (keyed_text expr_text) (keyed_size expr_size) (IsKeyed Inner) with_args_spell with_row k t x h
  arguments_takes words.Test k t x h = row_takes n (codes "test") (λ (x : Expr × Condition). e.Test x.0 x.1) (followed (ended 44 inner) (ended 41 (uncounted condition_at))) test_text test_size IsTest test_spells test_row k t x h

  -- ---- leaves

  leaf_was : {A : Type 0} (k : ℕ) (t : List ℕ) (x : Expr × List ℕ) (make : A → Expr) (layer : A → Expr-F Expr) (spell : A → List ℕ) (Is : A → Type 0) (o : Option (A × List ℕ))
      → ((a : A) → roll-Expr (layer a) ≡ make a) → ((a : A) → layer_expr_text (map-Expr Expr (List ℕ) expr_text (layer a)) ≡ spell a) → ((a : A) → layer_expr_size (map-Expr Expr ℕ expr_size (layer a)) ≡ 1)
      → ((a : A) → Is a → IsExprLayer (IsExprNested n) (layer a)) → ((y : A × List ℕ) → o ≡ Some y → (t ≡ spell y.0 ++ y.1) × Is y.0) → read_as make o ≡ Some x
      → Was expr_text expr_size (IsExprNested (suc n)) (suc k) t (x.0, k, x.1)
  leaf_was {A = A} k t x make layer spell Is o rolls texts sizes is takes h =
      let y = read_as_is make o x h in
      let a : A = y.0.0 in
      let w = takes y.0 y.1 in
      let f = form n (layer a) (make a) (rolls a) in
      subst (λ (z : Expr × List ℕ). Was expr_text expr_size (IsExprNested (suc n)) (suc k) t (z.0, k, z.1)) y.2
      (w.0 ∙ ap (λ (u : List ℕ). u ++ y.0.1) (sym (f.text ∙ texts a)), f.nested (is a w.1), omega (arith, f.size, sizes a))

  leaf_takes : (k : ℕ) (t : List ℕ) (x : Expr × List ℕ) → leaf_at t ≡ Some x → Was expr_text expr_size (IsExprNested (suc n)) (suc k) t (x.0, k, x.1)
  unfolding leaf_at layer_expr_text layer_expr_size
  leaf_takes k t x h =
      let paths = or_read (read_as e.Rec (rec_at t)) (read_as e.Register (register_at t)) in
      let texts = or_read (read_as e.Path (path_at t)) paths in
      let ints = or_read (read_as e.Text (quoted_at t)) texts in
      ⊎_elim (λ (h : read_as e.Int (int_at t) ≡ Some x). leaf_was k t x e.Int Expr-F.Int signed_decimal IsInt (int_at t) rolls-Int (λ a. refl) (λ a. refl) (λ a is. is) (λ y g. int_spells.takes t y g) h)
      (λ (h : ints ≡ Some x).
      ⊎_elim (λ (h : read_as e.Text (quoted_at t) ≡ Some x). leaf_was k t x e.Text Expr-F.Text quoted AreBytes (quoted_at t) rolls-Text (λ a. refl) (λ a. refl) (λ a is. is) (λ y g. quoted_spells.takes t y g) h)
      (λ (h : texts ≡ Some x).
      ⊎_elim (λ (h : read_as e.Path (path_at t) ≡ Some x). leaf_was k t x e.Path Expr-F.Path path_text IsPath (path_at t) rolls-Path (λ a. refl) (λ a. refl) (λ a is. is) (λ y g. path_spells.takes t y g) h)
      (λ (h : paths ≡ Some x).
      ⊎_elim (λ (h : read_as e.Rec (rec_at t) ≡ Some x). leaf_was k t x e.Rec Expr-F.Rec rec_text IsRec (rec_at t) rolls-Rec (λ a. refl) (λ a. refl) (λ a is. is) (λ y g. rec_spells.takes t y g) h)
      (λ (h : read_as e.Register (register_at t) ≡ Some x). leaf_was k t x e.Register Expr-F.Register register_text IsRegister (register_at t) rolls-Register (λ a. refl) (λ a. refl) (λ a is. is) (λ y g. register_spells.takes t y g) h)
      (or_read_is (read_as e.Rec (rec_at t)) (read_as e.Register (register_at t)) x h))
      (or_read_is (read_as e.Path (path_at t)) paths x h))
      (or_read_is (read_as e.Text (quoted_at t)) texts x h))
      (or_read_is (read_as e.Int (int_at t)) ints x h)

  kept_leaf : (k : ℕ) (o : Option (Expr × List ℕ)) (x : Expr × ℕ × List ℕ) → kept k o ≡ Some x → (y : Expr × List ℕ) × (o ≡ Some y) × ((y.0, k, y.1) ≡ x)
  kept_leaf k None x h = absurd cc
  kept_leaf k (Some y) x h = (y, refl, cc)

  layer_takes : (k : ℕ) (t : List ℕ) (x : Expr × ℕ × List ℕ) → layer_expr_at inner k t ≡ Some x → Was expr_text expr_size (IsExprNested (suc n)) (suc k) t x
  layer_takes k t x h =
      ⊎_elim
      (λ (h : kept k (leaf_at t) ≡ Some x). let y = kept_leaf k (leaf_at t) x h in subst (Was expr_text expr_size (IsExprNested (suc n)) (suc k) t) y.2 (leaf_takes k t y.0 y.1))
      (λ (h : (expr_word_at t >>= λ w. arguments_at inner w.0 k w.1) ≡ Some x).
      let w = bind_some (expr_word_at t) (λ w. arguments_at inner w.0 k w.1) x h in
      let a = arguments_takes w.0.0 k w.0.1 x w.2 in
      (expr_word_takes t w.0 w.1 ∙ a.0, a.1, a.2))
      (or_read_is (kept k (leaf_at t)) (expr_word_at t >>= λ w. arguments_at inner w.0 k w.1) x h)

  -- ---- again

  -- a leaf does not begin as a form
  no_leaf : (w : ExprWord) (t : List ℕ) → leaf_at (expr_word_text w ++ 40 ∷ t) ≡ None
  unfolding leaf_at expr_word_text pair_word_text one_word_text compare_text int_at number_at quoted_at path_at rec_at opened_at register_at
  no_leaf (words.Pair pairs.Add) t = refl
  no_leaf (words.Pair pairs.Sub) t = refl
  no_leaf (words.Pair pairs.Cat) t = refl
  no_leaf (words.Pair pairs.Child) t = refl
  no_leaf (words.Pair pairs.All) t = refl
  no_leaf (words.Pair pairs.Any) t = refl
  no_leaf (words.Pair (pairs.Compare Eq)) t = refl
  no_leaf (words.Pair (pairs.Compare Ne)) t = refl
  no_leaf (words.Pair (pairs.Compare Lt)) t = refl
  no_leaf (words.Pair (pairs.Compare Le)) t = refl
  no_leaf (words.Pair (pairs.Compare Gt)) t = refl
  no_leaf (words.Pair (pairs.Compare Ge)) t = refl
  no_leaf (words.One ones.Data) t = refl
  no_leaf (words.One ones.Pv) t = refl
  no_leaf (words.One ones.Cv) t = refl
  no_leaf (words.One ones.Kids) t = refl
  no_leaf (words.One ones.Last) t = refl
  no_leaf (words.One ones.Not) t = refl
  no_leaf words.Int t = refl
  no_leaf words.Text t = refl
  no_leaf words.With t = refl
  no_leaf words.Test t = refl

  behind_word : (w : ExprWord) (k : ℕ) (t : List ℕ) → layer_expr_at inner k (expr_word_text w ++ 40 ∷ t) ≡ arguments_at inner w k t
  behind_word w k t =
      ap (λ (o : Option (Expr × List ℕ)). or_read (kept k o) (expr_word_at (expr_word_text w ++ 40 ∷ t) >>= λ w. arguments_at inner w.0 k w.1)) (no_leaf w t)
      ∙ ap (λ (o : Option (ExprWord × List ℕ)). o >>= λ w. arguments_at inner w.0 k w.1) (expr_word_again w t)

  -- an expression that is spelled and behind which these bytes stand is read
  abbrev Reads : Expr → ℕ → ℕ → List ℕ → Type 0
  Reads v k more rest = expr_size v + more ≡ suc k → layer_expr_at inner k (expr_text v ++ rest) ≡ Some (v, more, rest)

  form_again : {A : Type 0} (w : ExprWord) (make : A → Expr) (args : Item A) (text : A → List ℕ) (size : A → ℕ) (Is : A → Type 0) → Spells args text size Is Anything → Row n (expr_word_text w) make text size Is
      → ((k : ℕ) (t : List ℕ) → arguments_at inner w k t ≡ made make (args k t)) → (x : A) (k more : ℕ) (rest : List ℕ) → Is x → Reads (make x) k more rest
  form_again {A = A} w make args text size Is spells row same x k more rest is sum =
      ap (λ (t : List ℕ). layer_expr_at inner k (t ++ rest)) (row.spelled x)
      ∙ (ap (layer_expr_at inner k) (append_assoc (expr_word_text w) (40 ∷ text x) rest)
      ∙ (behind_word w k (text x ++ rest)
      ∙ (same k (text x ++ rest) ∙ row_again n (expr_word_text w) make args text size Is spells row x k more rest is sum)))

  pair_row_of : (w : PairWord) → Row n (expr_word_text (words.Pair w)) (pair_expr w) pair_text pair_size IsPair
  unfolding expr_word_text
  pair_row_of w = pair_row w

  one_row_of : (w : OneWord) → Row n (expr_word_text (words.One w)) (one_expr w) one_text expr_size Inner
  unfolding expr_word_text
  one_row_of w = one_row w

  pair_again : (w : PairWord) (a b : Expr) (k more : ℕ) (rest : List ℕ) → IsPair (a, b) → Reads (pair_expr w (a, b)) k more rest
  unfolding arguments_at
  pair_again w a b k more rest is = form_again (words.Pair w) (pair_expr w) (followed (ended 44 inner) (ended 41 inner)) pair_text pair_size IsPair pair_spells (pair_row_of w) (λ k t. refl) (a, b) k more rest is

  one_again : (w : OneWord) (a : Expr) (k more : ℕ) (rest : List ℕ) → Inner a → Reads (one_expr w a) k more rest
  unfolding arguments_at
  one_again w a k more rest is = form_again (words.One w) (one_expr w) (ended 41 inner) one_text expr_size Inner close_spells (one_row_of w) (λ k t. refl) a k more rest is

  int_again_of : (x : Expr × (NameText × ℤ)) (k more : ℕ) (rest : List ℕ) → IsKeyed IsInt x → Reads (e.IntField x.0 x.1.0 x.1.1) k more rest
  unfolding arguments_at expr_word_text
  int_again_of x k more rest is = form_again words.Int (λ (x : Expr × (NameText × ℤ)). e.IntField x.0 x.1.0 x.1.1) int_args (keyed_text signed_decimal) (keyed_size nothing) (IsKeyed IsInt) int_args_spell int_row (λ k t. refl) x k more rest is

  text_again_of : (x : Expr × (NameText × List ℕ)) (k more : ℕ) (rest : List ℕ) → IsKeyed AreBytes x → Reads (e.TextField x.0 x.1.0 x.1.1) k more rest
  unfolding arguments_at expr_word_text
  text_again_of x k more rest is = form_again words.Text (λ (x : Expr × (NameText × List ℕ)). e.TextField x.0 x.1.0 x.1.1) text_args (keyed_text quoted) (keyed_size nothing) (IsKeyed AreBytes) text_args_spell text_row (λ k t. refl) x k more rest is

  with_again_of : (x : Expr × (NameText × Expr)) (k more : ℕ) (rest : List ℕ) → IsKeyed Inner x → Reads (e.With x.0 x.1.0 x.1.1) k more rest
  unfolding arguments_at expr_word_text
  with_again_of x k more rest is = form_again words.With (λ (x : Expr × (NameText × Expr)). e.With x.0 x.1.0 x.1.1) (keyed_at inner inner) (keyed_text expr_text) (keyed_size expr_size) (IsKeyed Inner) with_args_spell with_row (λ k t. refl) x k more rest is

  test_again_of : (x : Expr × Condition) (k more : ℕ) (rest : List ℕ) → IsTest x → Reads (e.Test x.0 x.1) k more rest
  unfolding arguments_at expr_word_text
  test_again_of x k more rest is = form_again words.Test (λ (x : Expr × Condition). e.Test x.0 x.1) (followed (ended 44 inner) (ended 41 (uncounted condition_at))) test_text test_size IsTest test_spells test_row (λ k t. refl) x k more rest is

  -- a leaf that is read
  leaf_reads : (l : Expr-F Expr) (v : Expr) (t : List ℕ) (k more : ℕ) (rest : List ℕ) → roll-Expr l ≡ v → layer_expr_text (map-Expr Expr (List ℕ) expr_text l) ≡ t → layer_expr_size (map-Expr Expr ℕ expr_size l) ≡ 1 → leaf_at (t ++ rest) ≡ Some (v, rest) → Reads v k more rest
  leaf_reads l v t k more rest rolls text one is sum =
      let f = form n l v rolls in
      let m : k ≡ more = omega (arith, f.size, one, sum) in
      ap (λ (u : List ℕ). layer_expr_at inner k (u ++ rest)) (f.text ∙ text)
      ∙ (ap (λ (o : Option (Expr × List ℕ)). or_read (kept k o) (expr_word_at (t ++ rest) >>= λ w. arguments_at inner w.0 k w.1)) is
      ∙ ap (λ (j : ℕ). Some (v, j, rest)) m)

  int_leaf : (z : ℤ) (rest : List ℕ) → IsInt z → Ends rest → leaf_at (signed_decimal z ++ rest) ≡ Some (e.Int z, rest)
  unfolding leaf_at
  int_leaf z rest is fine =
      let t : List ℕ = signed_decimal z ++ rest in
      ap (λ (o : Option (ℤ × List ℕ)). or_read (read_as e.Int o) (or_read (read_as e.Text (quoted_at t)) (or_read (read_as e.Path (path_at t)) (or_read (read_as e.Rec (rec_at t)) (read_as e.Register (register_at t)))))) (int_spells.again z rest is fine)

  -- no number begins so
  no_int : (b : ℕ) (t : List ℕ) → int_at (b ∷ t) ≡ None → leaf_at (b ∷ t) ≡ or_read (read_as e.Text (quoted_at (b ∷ t))) (or_read (read_as e.Path (path_at (b ∷ t))) (or_read (read_as e.Rec (rec_at (b ∷ t))) (read_as e.Register (register_at (b ∷ t)))))
  unfolding leaf_at
  no_int b t none =
      ap (λ (o : Option (ℤ × List ℕ)). or_read (read_as e.Int o) (or_read (read_as e.Text (quoted_at (b ∷ t))) (or_read (read_as e.Path (path_at (b ∷ t))) (or_read (read_as e.Rec (rec_at (b ∷ t))) (read_as e.Register (register_at (b ∷ t))))))) none

  text_leaf : (b rest : List ℕ) → AreBytes b → Ends rest → leaf_at (quoted b ++ rest) ≡ Some (e.Text b, rest)
  unfolding int_at number_at
  text_leaf b rest is fine =
      let t : List ℕ = quoted b ++ rest in
      no_int 39 (bytes_text b ++ rest) refl
      ∙ ap (λ (o : Option (List ℕ × List ℕ)). or_read (read_as e.Text o) (or_read (read_as e.Path (path_at t)) (or_read (read_as e.Rec (rec_at t)) (read_as e.Register (register_at t))))) (quoted_spells.again b rest is fine)

  slash_leaf : (t : List ℕ) (p : List NameText) (rest : List ℕ) → path_at (47 ∷ t) ≡ Some (p, rest) → leaf_at (47 ∷ t) ≡ Some (e.Path p, rest)
  unfolding int_at number_at quoted_at
  slash_leaf t p rest is =
      no_int 47 t refl
      ∙ ap (λ (o : Option (List NameText × List ℕ)). or_read (read_as e.Path o) (or_read (read_as e.Rec (rec_at (47 ∷ t))) (read_as e.Register (register_at (47 ∷ t))))) is

  path_leaf : (p : List NameText) (rest : List ℕ) → IsPath p → Ends rest → leaf_at (path_text p ++ rest) ≡ Some (e.Path p, rest)
  unfolding path_text
  path_leaf [] rest is fine = slash_leaf rest [] rest (path_spells.again [] rest is fine)
  path_leaf (m ∷ p) rest is fine = slash_leaf (drop 1 (path_text (m ∷ p) ++ rest)) (m ∷ p) rest (path_spells.again (m ∷ p) rest is fine)

  brace_leaf : (t : List ℕ) (f : List Field) (rest : List ℕ) → rec_at (123 ∷ t) ≡ Some (f, rest) → leaf_at (123 ∷ t) ≡ Some (e.Rec f, rest)
  unfolding int_at number_at quoted_at path_at
  brace_leaf t f rest is =
      no_int 123 t refl
      ∙ ap (λ (o : Option (List Field × List ℕ)). or_read (read_as e.Rec o) (read_as e.Register (register_at (123 ∷ t)))) is

  rec_leaf : (f : List Field) (rest : List ℕ) → IsRec f → Ends rest → leaf_at (rec_text f ++ rest) ≡ Some (e.Rec f, rest)
  unfolding rec_text
  rec_leaf f rest is fine = brace_leaf (drop 1 (rec_text f ++ rest)) f rest (rec_spells.again f rest is fine)

  -- a leaf that begins with a letter
  letter_leaf : (reg : Register) (rest : List ℕ) → IsRegister reg → Ends rest → leaf_at (register_text reg ++ rest) ≡ read_as e.Register (register_at (register_text reg ++ rest))
  unfolding leaf_at register_text int_at number_at quoted_at path_at rec_at opened_at
  letter_leaf (register.Int m) rest is fine = refl
  letter_leaf (register.Text m) rest is fine = refl
  letter_leaf (register.Path m) rest is fine = refl
  letter_leaf (register.Rec m) rest is fine = refl

  register_leaf : (reg : Register) (rest : List ℕ) → IsRegister reg → Ends rest → leaf_at (register_text reg ++ rest) ≡ Some (e.Register reg, rest)
  register_leaf reg rest is fine = letter_leaf reg rest is fine ∙ ap (λ (o : Option (Register × List ℕ)). read_as e.Register o) (register_spells.again reg rest is fine)

  -- the law of an expression as it is rolled
  rolled : (l : Expr-F Expr) (v : Expr) (k more : ℕ) (rest : List ℕ) → roll-Expr l ≡ v → Reads v k more rest → Reads (roll-Expr l) k more rest
  rolled l v k more rest is h = subst (λ (x : Expr). Reads x k more rest) (sym is) h

  layer_again : (l : Expr-F Expr) (k more : ℕ) (rest : List ℕ) → IsExprLayer (IsExprNested n) l → Ends rest → Reads (roll-Expr l) k more rest
  unfolding layer_expr_text layer_expr_size
  layer_again (Expr-F.Int z) k more rest is fine = rolled (Expr-F.Int z) (e.Int z) k more rest (rolls-Int z) (leaf_reads (Expr-F.Int z) (e.Int z) (signed_decimal z) k more rest (rolls-Int z) refl refl (int_leaf z rest is fine))
  layer_again (Expr-F.Text b) k more rest is fine = rolled (Expr-F.Text b) (e.Text b) k more rest (rolls-Text b) (leaf_reads (Expr-F.Text b) (e.Text b) (quoted b) k more rest (rolls-Text b) refl refl (text_leaf b rest is fine))
  layer_again (Expr-F.Path p) k more rest is fine = rolled (Expr-F.Path p) (e.Path p) k more rest (rolls-Path p) (leaf_reads (Expr-F.Path p) (e.Path p) (path_text p) k more rest (rolls-Path p) refl refl (path_leaf p rest is fine))
  layer_again (Expr-F.Rec f) k more rest is fine = rolled (Expr-F.Rec f) (e.Rec f) k more rest (rolls-Rec f) (leaf_reads (Expr-F.Rec f) (e.Rec f) (rec_text f) k more rest (rolls-Rec f) refl refl (rec_leaf f rest is fine))
  layer_again (Expr-F.Register reg) k more rest is fine = rolled (Expr-F.Register reg) (e.Register reg) k more rest (rolls-Register reg) (leaf_reads (Expr-F.Register reg) (e.Register reg) (register_text reg) k more rest (rolls-Register reg) refl refl (register_leaf reg rest is fine))
  layer_again (Expr-F.Add a b) k more rest is fine = rolled (Expr-F.Add a b) (e.Add a b) k more rest (rolls-Add a b) (pair_again pairs.Add a b k more rest is)
  layer_again (Expr-F.Sub a b) k more rest is fine = rolled (Expr-F.Sub a b) (e.Sub a b) k more rest (rolls-Sub a b) (pair_again pairs.Sub a b k more rest is)
  layer_again (Expr-F.Cat a b) k more rest is fine = rolled (Expr-F.Cat a b) (e.Cat a b) k more rest (rolls-Cat a b) (pair_again pairs.Cat a b k more rest is)
  layer_again (Expr-F.IntField a key z) k more rest is fine = rolled (Expr-F.IntField a key z) (e.IntField a key z) k more rest (rolls-IntField a key z) (int_again_of (a, (key, z)) k more rest (is.0, (is.1, is.2)))
  layer_again (Expr-F.TextField a key b) k more rest is fine = rolled (Expr-F.TextField a key b) (e.TextField a key b) k more rest (rolls-TextField a key b) (text_again_of (a, (key, b)) k more rest (is.0, (is.1, is.2)))
  layer_again (Expr-F.Data a) k more rest is fine = rolled (Expr-F.Data a) (e.Data a) k more rest (rolls-Data a) (one_again ones.Data a k more rest is)
  layer_again (Expr-F.Pv a) k more rest is fine = rolled (Expr-F.Pv a) (e.Pv a) k more rest (rolls-Pv a) (one_again ones.Pv a k more rest is)
  layer_again (Expr-F.Cv a) k more rest is fine = rolled (Expr-F.Cv a) (e.Cv a) k more rest (rolls-Cv a) (one_again ones.Cv a k more rest is)
  layer_again (Expr-F.Kids a) k more rest is fine = rolled (Expr-F.Kids a) (e.Kids a) k more rest (rolls-Kids a) (one_again ones.Kids a k more rest is)
  layer_again (Expr-F.Last a) k more rest is fine = rolled (Expr-F.Last a) (e.Last a) k more rest (rolls-Last a) (one_again ones.Last a k more rest is)
  layer_again (Expr-F.Child a b) k more rest is fine = rolled (Expr-F.Child a b) (e.Child a b) k more rest (rolls-Child a b) (pair_again pairs.Child a b k more rest is)
  layer_again (Expr-F.With a key b) k more rest is fine = rolled (Expr-F.With a key b) (e.With a key b) k more rest (rolls-With a key b) (with_again_of (a, (key, b)) k more rest (is.0, (is.1, is.2)))
  layer_again (Expr-F.Compare op a b) k more rest is fine = rolled (Expr-F.Compare op a b) (e.Compare op a b) k more rest (rolls-Compare op a b) (pair_again (pairs.Compare op) a b k more rest is)
  layer_again (Expr-F.Test a c) k more rest is fine = rolled (Expr-F.Test a c) (e.Test a c) k more rest (rolls-Test a c) (test_again_of (a, c) k more rest is)
  layer_again (Expr-F.Not a) k more rest is fine = rolled (Expr-F.Not a) (e.Not a) k more rest (rolls-Not a) (one_again ones.Not a k more rest is)
  layer_again (Expr-F.All a b) k more rest is fine = rolled (Expr-F.All a b) (e.All a b) k more rest (rolls-All a b) (pair_again pairs.All a b k more rest is)
  layer_again (Expr-F.Any a b) k more rest is fine = rolled (Expr-F.Any a b) (e.Any a b) k more rest (rolls-Any a b) (pair_again pairs.Any a b k more rest is)

-- ---- any expression

-- an expression counts itself
layer_counts : (l : Expr-F Expr) → 1 ≤ layer_expr_size (map-Expr Expr ℕ expr_size l)
unfolding layer_expr_size
layer_counts (Expr-F.Int z) = omega arith
layer_counts (Expr-F.Text b) = omega arith
layer_counts (Expr-F.Path p) = omega arith
layer_counts (Expr-F.Rec f) = omega arith
layer_counts (Expr-F.Register reg) = omega arith
layer_counts (Expr-F.Add a b) = omega arith
layer_counts (Expr-F.Sub a b) = omega arith
layer_counts (Expr-F.Cat a b) = omega arith
layer_counts (Expr-F.IntField a key z) = omega arith
layer_counts (Expr-F.TextField a key b) = omega arith
layer_counts (Expr-F.Data a) = omega arith
layer_counts (Expr-F.Pv a) = omega arith
layer_counts (Expr-F.Cv a) = omega arith
layer_counts (Expr-F.Kids a) = omega arith
layer_counts (Expr-F.Last a) = omega arith
layer_counts (Expr-F.Child a b) = omega arith
layer_counts (Expr-F.With a key b) = omega arith
layer_counts (Expr-F.Compare op a b) = omega arith
layer_counts (Expr-F.Test a c) = omega arith
layer_counts (Expr-F.Not a) = omega arith
layer_counts (Expr-F.All a b) = omega arith
layer_counts (Expr-F.Any a b) = omega arith

pub size_some : (x : Expr) → 1 ≤ expr_size x
size_some x = subst (λ (y : Expr). 1 ≤ expr_size y) (roll-out-Expr x) (subst (λ (m : ℕ). 1 ≤ m) (sym (fold-roll-Expr ℕ layer_expr_size (out-Expr x))) (layer_counts (out-Expr x)))

nested_takes : (n : ℕ) → Spells (nested_expr_at n) expr_text expr_size (IsExprNested n) Ends → (left : ℕ) (t : List ℕ) (x : Expr × ℕ × List ℕ) → nested_expr_at (suc n) left t ≡ Some x → Was expr_text expr_size (IsExprNested (suc n)) left t x
unfolding nested_expr_at
nested_takes n s zero t x h = absurd cc
nested_takes n s (suc k) t x h = layer_takes n (nested_expr_at n) s k t x h

nested_again : (n : ℕ) → Spells (nested_expr_at n) expr_text expr_size (IsExprNested n) Ends → (x : Expr) (left more : ℕ) (rest : List ℕ) → IsExprNested (suc n) x → Ends rest → expr_size x + more ≡ left → nested_expr_at (suc n) left (expr_text x ++ rest) ≡ Some (x, more, rest)
unfolding nested_expr_at
nested_again n s x zero more rest is fine sum = absurd (omega (arith, size_some x, sum))
nested_again n s x (suc k) more rest is fine sum =
    subst (λ (y : Expr). expr_size y + more ≡ suc k → layer_expr_at (nested_expr_at n) k (expr_text y ++ rest) ≡ Some (y, more, rest)) (roll-out-Expr x)
    (layer_again n (nested_expr_at n) s (out-Expr x) k more rest is fine) sum

none_takes : (left : ℕ) (t : List ℕ) (x : Expr × ℕ × List ℕ) → nested_expr_at zero left t ≡ Some x → Was expr_text expr_size (IsExprNested zero) left t x
unfolding nested_expr_at
none_takes left t x h = absurd cc

-- what is read as an expression is spelled so, and is read again
pub expr_spells : (n : ℕ) → Spells (nested_expr_at n) expr_text expr_size (IsExprNested n) Ends
expr_spells zero = record { takes = none_takes; again = λ x left more rest is fine sum. absurd is }
expr_spells (suc n) = record { takes = nested_takes n (expr_spells n); again = nested_again n (expr_spells n) }
