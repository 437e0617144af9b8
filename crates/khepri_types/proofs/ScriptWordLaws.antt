-- Words of scripts that are read are spelled so, and those that are spelled are read again.
use Rattle.std.proofs.Common.{◌≡◌, ⊎_elim, ℕ, true, List, ◌∷◌, ◌++◌, length, drop, refl, ap, subst, ◌∙◌, Option, Some, None, codes}
use Rattle.khepri_terms.specs.Many.{◌>>=◌}
use Rattle.khepri_terms.proofs.Cases.{bind_some, some_is}
use Rattle.khepri_types.specs.declared.compare.Compare.{Compare}
use Rattle.khepri_types.specs.declared.compare.Compare.TheVariants.{Eq, Ne, Lt, Le, Gt, Ge}
use Rattle.khepri_types.specs.declared.script_words.PairWord.{PairWord}
use Rattle.khepri_types.specs.declared.script_words.PairWord.TheVariants as pairs
use Rattle.khepri_types.specs.declared.script_words.OneWord.{OneWord}
use Rattle.khepri_types.specs.declared.script_words.OneWord.TheVariants as ones
use Rattle.khepri_types.specs.declared.script_words.ExprWord.{ExprWord}
use Rattle.khepri_types.specs.declared.script_words.ExprWord.TheVariants as words
use Rattle.khepri_types.specs.declared.script_words.DeedWord.{DeedWord}
use Rattle.khepri_types.specs.declared.script_words.DeedWord.TheVariants as deeds
use Rattle.khepri_types.specs.declared.script_words.StatementWord.{StatementWord}
use Rattle.khepri_types.specs.declared.script_words.StatementWord.TheVariants as statements
use Rattle.khepri_types.specs.Compares.{compare_text}
use Rattle.khepri_types.specs.Items.{or_read}
use Rattle.khepri_types.specs.ReadingConditions.{after_byte, compare_at}
use Rattle.khepri_types.specs.ReadingScripts.{read_as, compare_word_at, pair_word_at, one_word_at, field_word_at, expr_word_at, deed_word_at, longer_word_at, statement_word_at}
use Rattle.khepri_types.specs.ScriptWords.{pair_word_text, one_word_text, expr_word_text, deed_word_text, statement_word_text}
use Rattle.khepri_types.specs.Words.{begins}
use Rattle.khepri_types.proofs.Asking.{compare_takes}
use Rattle.khepri_types.proofs.ItemLaws.{or_read_is}
use Rattle.khepri_types.proofs.Word.{if_read, word_takes, after_byte-takes}

pub read_as_is : {A B : Type 0} (make : A → B) (o : Option (A × List ℕ)) (x : B × List ℕ) → read_as make o ≡ Some x → (y : A × List ℕ) × (o ≡ Some y) × ((make y.0, y.1) ≡ x)
read_as_is make None x e = absurd cc
read_as_is make (Some y) x e = (y, refl, some_is (make y.0, y.1) x e)

-- a word and its `(` that were read
opened : {A : Type 0} (spell : A → List ℕ) (word : List ℕ) (w : A) (text : List ℕ) (x : A × List ℕ) → ((rest : List ℕ) → word ++ rest ≡ spell w ++ 40 ∷ rest) → begins word text ≡ true → Some (w, drop (length word) text) ≡ Some x
    → text ≡ spell x.0 ++ 40 ∷ x.1
opened {A = A} spell word w text x is h e =
    subst (λ (y : A × List ℕ). text ≡ spell y.0 ++ 40 ∷ y.1) (some_is (w, drop (length word) text) x e) (word_takes word text h ∙ is (drop (length word) text))

compare_word_takes : (text : List ℕ) (x : PairWord × List ℕ) → compare_word_at text ≡ Some x → text ≡ pair_word_text x.0 ++ 40 ∷ x.1
unfolding compare_word_at pair_word_text
compare_word_takes text x e =
    let a = bind_some (compare_at text) (λ op. after_byte 40 op.1 >>= λ rest. Some (pairs.Compare op.0, rest)) x e in
    let b = bind_some (after_byte 40 a.0.1) (λ rest. Some (pairs.Compare a.0.0, rest)) x a.2 in
    subst (λ (y : PairWord × List ℕ). text ≡ pair_word_text y.0 ++ 40 ∷ y.1) (some_is (pairs.Compare a.0.0, b.0) x b.2)
    (compare_takes text a.0 a.1 ∙ ap (λ (t : List ℕ). compare_text a.0.0 ++ t) (after_byte-takes 40 a.0.1 b.0 b.1))

pub pair_word_takes : (text : List ℕ) (x : PairWord × List ℕ) → pair_word_at text ≡ Some x → text ≡ pair_word_text x.0 ++ 40 ∷ x.1
unfolding pair_word_at pair_word_text
pair_word_takes text x e =
    if_read (begins (codes "add(") text) _ _ x e (opened pair_word_text (codes "add(") pairs.Add text x (λ rest. refl)) (λ e.
    if_read (begins (codes "sub(") text) _ _ x e (opened pair_word_text (codes "sub(") pairs.Sub text x (λ rest. refl)) (λ e.
    if_read (begins (codes "cat(") text) _ _ x e (opened pair_word_text (codes "cat(") pairs.Cat text x (λ rest. refl)) (λ e.
    if_read (begins (codes "child(") text) _ _ x e (opened pair_word_text (codes "child(") pairs.Child text x (λ rest. refl)) (λ e.
    if_read (begins (codes "all(") text) _ _ x e (opened pair_word_text (codes "all(") pairs.All text x (λ rest. refl)) (λ e.
    if_read (begins (codes "any(") text) _ _ x e (opened pair_word_text (codes "any(") pairs.Any text x (λ rest. refl)) (λ e.
    compare_word_takes text x e))))))

compare_word : (op : Compare) (rest : List ℕ) → pair_word_at (compare_text op ++ 40 ∷ rest) ≡ Some (pairs.Compare op, rest)
unfolding pair_word_at compare_word_at compare_text compare_at after_byte
compare_word Eq rest = refl
compare_word Ne rest = refl
compare_word Lt rest = refl
compare_word Le rest = refl
compare_word Gt rest = refl
compare_word Ge rest = refl

pub pair_word_again : (w : PairWord) (rest : List ℕ) → pair_word_at (pair_word_text w ++ 40 ∷ rest) ≡ Some (w, rest)
unfolding pair_word_at pair_word_text
pair_word_again pairs.Add rest = refl
pair_word_again pairs.Sub rest = refl
pair_word_again pairs.Cat rest = refl
pair_word_again pairs.Child rest = refl
pair_word_again pairs.All rest = refl
pair_word_again pairs.Any rest = refl
pair_word_again (pairs.Compare op) rest = compare_word op rest

pub one_word_takes : (text : List ℕ) (x : OneWord × List ℕ) → one_word_at text ≡ Some x → text ≡ one_word_text x.0 ++ 40 ∷ x.1
unfolding one_word_at one_word_text
one_word_takes text x e =
    if_read (begins (codes "data(") text) _ _ x e (opened one_word_text (codes "data(") ones.Data text x (λ rest. refl)) (λ e.
    if_read (begins (codes "pv(") text) _ _ x e (opened one_word_text (codes "pv(") ones.Pv text x (λ rest. refl)) (λ e.
    if_read (begins (codes "cv(") text) _ _ x e (opened one_word_text (codes "cv(") ones.Cv text x (λ rest. refl)) (λ e.
    if_read (begins (codes "kids(") text) _ _ x e (opened one_word_text (codes "kids(") ones.Kids text x (λ rest. refl)) (λ e.
    if_read (begins (codes "last(") text) _ _ x e (opened one_word_text (codes "last(") ones.Last text x (λ rest. refl)) (λ e.
    if_read (begins (codes "not(") text) _ _ x e (opened one_word_text (codes "not(") ones.Not text x (λ rest. refl)) (λ e. absurd cc))))))

pub one_word_again : (w : OneWord) (rest : List ℕ) → one_word_at (one_word_text w ++ 40 ∷ rest) ≡ Some (w, rest)
unfolding one_word_at one_word_text
one_word_again ones.Data rest = refl
one_word_again ones.Pv rest = refl
one_word_again ones.Cv rest = refl
one_word_again ones.Kids rest = refl
one_word_again ones.Last rest = refl
one_word_again ones.Not rest = refl

field_word_takes : (text : List ℕ) (x : ExprWord × List ℕ) → field_word_at text ≡ Some x → text ≡ expr_word_text x.0 ++ 40 ∷ x.1
unfolding field_word_at expr_word_text
field_word_takes text x e =
    if_read (begins (codes "int(") text) _ _ x e (opened expr_word_text (codes "int(") words.Int text x (λ rest. refl)) (λ e.
    if_read (begins (codes "text(") text) _ _ x e (opened expr_word_text (codes "text(") words.Text text x (λ rest. refl)) (λ e.
    if_read (begins (codes "with(") text) _ _ x e (opened expr_word_text (codes "with(") words.With text x (λ rest. refl)) (λ e.
    if_read (begins (codes "test(") text) _ _ x e (opened expr_word_text (codes "test(") words.Test text x (λ rest. refl)) (λ e. absurd cc))))

-- no other form begins with the word of a form of two or one
field_none_pair : (w : PairWord) (rest : List ℕ) → field_word_at (pair_word_text w ++ 40 ∷ rest) ≡ None
unfolding field_word_at pair_word_text compare_text
field_none_pair pairs.Add rest = refl
field_none_pair pairs.Sub rest = refl
field_none_pair pairs.Cat rest = refl
field_none_pair pairs.Child rest = refl
field_none_pair pairs.All rest = refl
field_none_pair pairs.Any rest = refl
field_none_pair (pairs.Compare Eq) rest = refl
field_none_pair (pairs.Compare Ne) rest = refl
field_none_pair (pairs.Compare Lt) rest = refl
field_none_pair (pairs.Compare Le) rest = refl
field_none_pair (pairs.Compare Gt) rest = refl
field_none_pair (pairs.Compare Ge) rest = refl

field_none_one : (w : OneWord) (rest : List ℕ) → field_word_at (one_word_text w ++ 40 ∷ rest) ≡ None
unfolding field_word_at one_word_text
field_none_one ones.Data rest = refl
field_none_one ones.Pv rest = refl
field_none_one ones.Cv rest = refl
field_none_one ones.Kids rest = refl
field_none_one ones.Last rest = refl
field_none_one ones.Not rest = refl

one_none_pair : (w : PairWord) (rest : List ℕ) → one_word_at (pair_word_text w ++ 40 ∷ rest) ≡ None
unfolding one_word_at pair_word_text compare_text
one_none_pair pairs.Add rest = refl
one_none_pair pairs.Sub rest = refl
one_none_pair pairs.Cat rest = refl
one_none_pair pairs.Child rest = refl
one_none_pair pairs.All rest = refl
one_none_pair pairs.Any rest = refl
one_none_pair (pairs.Compare Eq) rest = refl
one_none_pair (pairs.Compare Ne) rest = refl
one_none_pair (pairs.Compare Lt) rest = refl
one_none_pair (pairs.Compare Le) rest = refl
one_none_pair (pairs.Compare Gt) rest = refl
one_none_pair (pairs.Compare Ge) rest = refl

pub expr_word_takes : (text : List ℕ) (x : ExprWord × List ℕ) → expr_word_at text ≡ Some x → text ≡ expr_word_text x.0 ++ 40 ∷ x.1
unfolding expr_word_at expr_word_text
expr_word_takes text x e =
    ⊎_elim (field_word_takes text x)
    (λ (e : or_read (read_as words.One (one_word_at text)) (read_as words.Pair (pair_word_at text)) ≡ Some x).
    ⊎_elim
    (λ (e : read_as words.One (one_word_at text) ≡ Some x). let y = read_as_is words.One (one_word_at text) x e in subst (λ (z : ExprWord × List ℕ). text ≡ expr_word_text z.0 ++ 40 ∷ z.1) y.2 (one_word_takes text y.0 y.1))
    (λ (e : read_as words.Pair (pair_word_at text) ≡ Some x). let y = read_as_is words.Pair (pair_word_at text) x e in subst (λ (z : ExprWord × List ℕ). text ≡ expr_word_text z.0 ++ 40 ∷ z.1) y.2 (pair_word_takes text y.0 y.1))
    (or_read_is (read_as words.One (one_word_at text)) (read_as words.Pair (pair_word_at text)) x e))
    (or_read_is (field_word_at text) (or_read (read_as words.One (one_word_at text)) (read_as words.Pair (pair_word_at text))) x e)

int_word : (rest : List ℕ) → expr_word_at (codes "int" ++ 40 ∷ rest) ≡ Some (words.Int, rest)
unfolding expr_word_at field_word_at
int_word rest = refl

text_word : (rest : List ℕ) → expr_word_at (codes "text" ++ 40 ∷ rest) ≡ Some (words.Text, rest)
unfolding expr_word_at field_word_at
text_word rest = refl

with_word : (rest : List ℕ) → expr_word_at (codes "with" ++ 40 ∷ rest) ≡ Some (words.With, rest)
unfolding expr_word_at field_word_at
with_word rest = refl

test_word : (rest : List ℕ) → expr_word_at (codes "test" ++ 40 ∷ rest) ≡ Some (words.Test, rest)
unfolding expr_word_at field_word_at
test_word rest = refl

pub expr_word_again : (w : ExprWord) (rest : List ℕ) → expr_word_at (expr_word_text w ++ 40 ∷ rest) ≡ Some (w, rest)
unfolding expr_word_at expr_word_text
expr_word_again (words.Pair w) rest =
    let t : List ℕ = pair_word_text w ++ 40 ∷ rest in
    ap (λ (o : Option (ExprWord × List ℕ)). or_read o (or_read (read_as words.One (one_word_at t)) (read_as words.Pair (pair_word_at t)))) (field_none_pair w rest)
    ∙ (ap (λ (o : Option (OneWord × List ℕ)). or_read (read_as words.One o) (read_as words.Pair (pair_word_at t))) (one_none_pair w rest)
    ∙ ap (read_as words.Pair) (pair_word_again w rest))
expr_word_again (words.One w) rest =
    let t : List ℕ = one_word_text w ++ 40 ∷ rest in
    ap (λ (o : Option (ExprWord × List ℕ)). or_read o (or_read (read_as words.One (one_word_at t)) (read_as words.Pair (pair_word_at t)))) (field_none_one w rest)
    ∙ ap (λ (o : Option (OneWord × List ℕ)). or_read (read_as words.One o) (read_as words.Pair (pair_word_at t))) (one_word_again w rest)
expr_word_again words.Int rest = int_word rest
expr_word_again words.Text rest = text_word rest
expr_word_again words.With rest = with_word rest
expr_word_again words.Test rest = test_word rest

deed_word_takes : (text : List ℕ) (x : DeedWord × List ℕ) → deed_word_at text ≡ Some x → text ≡ deed_word_text x.0 ++ 40 ∷ x.1
unfolding deed_word_at deed_word_text
deed_word_takes text x e =
    if_read (begins (codes "clear(") text) _ _ x e (opened deed_word_text (codes "clear(") deeds.Clear text x (λ rest. refl)) (λ e.
    if_read (begins (codes "del(") text) _ _ x e (opened deed_word_text (codes "del(") deeds.Del text x (λ rest. refl)) (λ e.
    if_read (begins (codes "free(") text) _ _ x e (opened deed_word_text (codes "free(") deeds.Free text x (λ rest. refl)) (λ e.
    if_read (begins (codes "emit(") text) _ _ x e (opened deed_word_text (codes "emit(") deeds.Emit text x (λ rest. refl)) (λ e.
    if_read (begins (codes "abort(") text) _ _ x e (opened deed_word_text (codes "abort(") deeds.Abort text x (λ rest. refl)) (λ e. absurd cc)))))

longer_word_takes : (text : List ℕ) (x : StatementWord × List ℕ) → longer_word_at text ≡ Some x → text ≡ statement_word_text x.0 ++ 40 ∷ x.1
unfolding longer_word_at statement_word_text
longer_word_takes text x e =
    if_read (begins (codes "let(") text) _ _ x e (opened statement_word_text (codes "let(") statements.Let text x (λ rest. refl)) (λ e.
    if_read (begins (codes "put(") text) _ _ x e (opened statement_word_text (codes "put(") statements.Put text x (λ rest. refl)) (λ e.
    if_read (begins (codes "hold(") text) _ _ x e (opened statement_word_text (codes "hold(") statements.Hold text x (λ rest. refl)) (λ e.
    if_read (begins (codes "if(") text) _ _ x e (opened statement_word_text (codes "if(") statements.If text x (λ rest. refl)) (λ e.
    if_read (begins (codes "each(") text) _ _ x e (opened statement_word_text (codes "each(") statements.Each text x (λ rest. refl)) (λ e. absurd cc)))))

pub statement_word_takes : (text : List ℕ) (x : StatementWord × List ℕ) → statement_word_at text ≡ Some x → text ≡ statement_word_text x.0 ++ 40 ∷ x.1
unfolding statement_word_at statement_word_text
statement_word_takes text x e =
    ⊎_elim (longer_word_takes text x)
    (λ (e : read_as statements.Deed (deed_word_at text) ≡ Some x). let y = read_as_is statements.Deed (deed_word_at text) x e in subst (λ (z : StatementWord × List ℕ). text ≡ statement_word_text z.0 ++ 40 ∷ z.1) y.2 (deed_word_takes text y.0 y.1))
    (or_read_is (longer_word_at text) (read_as statements.Deed (deed_word_at text)) x e)

pub statement_word_again : (w : StatementWord) (rest : List ℕ) → statement_word_at (statement_word_text w ++ 40 ∷ rest) ≡ Some (w, rest)
unfolding statement_word_at longer_word_at deed_word_at statement_word_text deed_word_text
statement_word_again (statements.Deed deeds.Clear) rest = refl
statement_word_again (statements.Deed deeds.Del) rest = refl
statement_word_again (statements.Deed deeds.Free) rest = refl
statement_word_again (statements.Deed deeds.Emit) rest = refl
statement_word_again (statements.Deed deeds.Abort) rest = refl
statement_word_again statements.Let rest = refl
statement_word_again statements.Put rest = refl
statement_word_again statements.Hold rest = refl
statement_word_again statements.If rest = refl
statement_word_again statements.Each rest = refl
