-- What is read of the values that a script emitted is spelled so, and what is spelled so is read.
use Rattle.std.proofs.Common.{◌≡◌, ⊎_elim, ℕ, ◌-◌, ◌≤◌, List, [], ◌∷◌, ◌++◌, length, drop, refl, sym, ap, subst, ◌∙◌, append_assoc, arith, ℤ, Option, Some, None, codes, decimal}
use Rattle.std.specs.Fmt.{signed_decimal}
use Rattle.std.specs.List.{flat_map, AllByRecursion}
use Rattle.std.proofs.lemmas.List.{append-nil, length-append}
use Rattle.khepri_terms.specs.Terms.{NameText}
use Rattle.khepri_terms.specs.declared.rec.Field.{Field}
use Rattle.khepri_terms.specs.Bytes.{is_plain, bytes_text, AreBytes}
use Rattle.khepri_terms.specs.Many.{many, ◌>>=◌}
use Rattle.khepri_terms.specs.Numbers.{number_at, int_at}
use Rattle.khepri_terms.specs.Paths.{path_text, path_at, IsPath, Ends}
use Rattle.khepri_terms.specs.Records.{rec_text, rec_at, IsRec}
use Rattle.khepri_terms.proofs.Cases.{bind_some, some_is}
use Rattle.khepri_terms.proofs.NumbersLaws.{Halts, number_takes, number_again}
use Rattle.khepri_terms.proofs.Reading.{Took, ahead, many-end, many_takes, many_again}
use Rattle.khepri_types.specs.declared.limits.TheConstants.{MAX_NUMBER}
use Rattle.khepri_types.specs.declared.reply.Reply.{Reply}
use Rattle.khepri_types.specs.declared.reply.Reply.TheVariants as reply
use Rattle.khepri_types.specs.declared.value.Value.{Value}
use Rattle.khepri_types.specs.declared.value.Value.TheVariants as value
use Rattle.khepri_types.specs.Items.{or_read}
use Rattle.khepri_types.specs.ReadingConditions.{after_byte}
use Rattle.khepri_types.specs.ReadingOut.{value_at, spaced_value_at, whole_values, done_at, whole_bytes, abort_no}
use Rattle.khepri_types.specs.ReadingScripts.{read_as, quoted_at}
use Rattle.khepri_types.specs.ScriptTexts.{quoted}
use Rattle.khepri_types.specs.Spelled.{IsNumber, IsValue, IsReply}
use Rattle.khepri_types.specs.Texts.{value_text, spaced_value_text, reply_text}
use Rattle.khepri_types.proofs.ItemLaws.{or_read_is}
use Rattle.khepri_types.proofs.LeafLaws.{IsInt, int_spells, path_spells, rec_spells, quoted_spells}
use Rattle.khepri_types.proofs.ListSpelling.{SpellsReply}
use Rattle.khepri_types.proofs.Word.{after_byte-takes}

-- ---- one value

-- the text begins with this value's spelling
abbrev SpellsValue : List ℕ → Value × List ℕ → Type 0
SpellsValue text x = (text ≡ value_text x.0 ++ x.1) × IsValue x.0

of_part : {A : Type 0} (text : List ℕ) (x : Value × List ℕ) (make : A → Value) (spell : A → List ℕ) (Is : A → Type 0) (o : Option (A × List ℕ)) → ((a : A) → value_text (make a) ≡ spell a) → ((a : A) → Is a → IsValue (make a))
    → ((y : A × List ℕ) → o ≡ Some y → (text ≡ spell y.0 ++ y.1) × Is y.0) → read_as make o ≡ Some x → SpellsValue text x
of_part text x make spell Is None texts is takes h = absurd cc
of_part text x make spell Is (Some y) texts is takes h =
    let t = takes y refl in
    subst (SpellsValue text) (some_is (make y.0, y.1) x h) (t.0 ∙ ap (λ (u : List ℕ). u ++ y.1) (sym (texts y.0)), is y.0 t.1)

value_takes : (text : List ℕ) (x : Value × List ℕ) → value_at text ≡ Some x → SpellsValue text x
unfolding value_at value_text
value_takes text x e =
    let path : Option (Value × List ℕ) = read_as value.Path (path_at text) in
    let rec : Option (Value × List ℕ) = read_as value.Rec (rec_at text) in
    let bytes : Option (Value × List ℕ) = read_as value.Text (quoted_at text) in
    ⊎_elim (λ (h : read_as value.Int (int_at text) ≡ Some x). of_part text x value.Int signed_decimal IsInt (int_at text) (λ a. refl) (λ a is. is) (λ y g. int_spells.takes text y g) h)
    (λ (h : or_read bytes (or_read path rec) ≡ Some x).
    ⊎_elim (λ (h : bytes ≡ Some x). of_part text x value.Text quoted AreBytes (quoted_at text) (λ a. refl) (λ a is. is) (λ y g. quoted_spells.takes text y g) h)
    (λ (h : or_read path rec ≡ Some x).
    ⊎_elim (λ (h : path ≡ Some x). of_part text x value.Path path_text IsPath (path_at text) (λ a. refl) (λ a is. is) (λ y g. path_spells.takes text y g) h)
    (λ (h : rec ≡ Some x). of_part text x value.Rec rec_text IsRec (rec_at text) (λ a. refl) (λ a is. is) (λ y g. rec_spells.takes text y g) h)
    (or_read_is path rec x h))
    (or_read_is bytes (or_read path rec) x h))
    (or_read_is (read_as value.Int (int_at text)) (or_read bytes (or_read path rec)) x e)

int_again : (z : ℤ) (rest : List ℕ) → IsInt z → Ends rest → value_at (signed_decimal z ++ rest) ≡ Some (value.Int z, rest)
unfolding value_at
int_again z rest is fine =
    let t : List ℕ = signed_decimal z ++ rest in
    ap (λ (o : Option (ℤ × List ℕ)). or_read (read_as value.Int o) (or_read (read_as value.Text (quoted_at t)) (or_read (read_as value.Path (path_at t)) (read_as value.Rec (rec_at t))))) (int_spells.again z rest is fine)

-- no number begins so
no_int : (b : ℕ) (t : List ℕ) → int_at (b ∷ t) ≡ None → value_at (b ∷ t) ≡ or_read (read_as value.Text (quoted_at (b ∷ t))) (or_read (read_as value.Path (path_at (b ∷ t))) (read_as value.Rec (rec_at (b ∷ t))))
unfolding value_at
no_int b t none =
    ap (λ (o : Option (ℤ × List ℕ)). or_read (read_as value.Int o) (or_read (read_as value.Text (quoted_at (b ∷ t))) (or_read (read_as value.Path (path_at (b ∷ t))) (read_as value.Rec (rec_at (b ∷ t)))))) none

text_again : (b rest : List ℕ) → AreBytes b → Ends rest → value_at (quoted b ++ rest) ≡ Some (value.Text b, rest)
unfolding int_at number_at
text_again b rest is fine =
    let t : List ℕ = quoted b ++ rest in
    no_int 39 (bytes_text b ++ rest) refl
    ∙ ap (λ (o : Option (List ℕ × List ℕ)). or_read (read_as value.Text o) (or_read (read_as value.Path (path_at t)) (read_as value.Rec (rec_at t)))) (quoted_spells.again b rest is fine)

slash_again : (t : List ℕ) (p : List NameText) (rest : List ℕ) → path_at (47 ∷ t) ≡ Some (p, rest) → value_at (47 ∷ t) ≡ Some (value.Path p, rest)
unfolding int_at number_at quoted_at
slash_again t p rest is =
    no_int 47 t refl
    ∙ ap (λ (o : Option (List NameText × List ℕ)). or_read (read_as value.Path o) (read_as value.Rec (rec_at (47 ∷ t)))) is

path_again : (p : List NameText) (rest : List ℕ) → IsPath p → Ends rest → value_at (path_text p ++ rest) ≡ Some (value.Path p, rest)
unfolding path_text
path_again [] rest is fine = slash_again rest [] rest (path_spells.again [] rest is fine)
path_again (m ∷ p) rest is fine = slash_again (drop 1 (path_text (m ∷ p) ++ rest)) (m ∷ p) rest (path_spells.again (m ∷ p) rest is fine)

brace_again : (t : List ℕ) (f : List Field) (rest : List ℕ) → rec_at (123 ∷ t) ≡ Some (f, rest) → value_at (123 ∷ t) ≡ Some (value.Rec f, rest)
unfolding int_at number_at quoted_at path_at
brace_again t f rest is =
    no_int 123 t refl
    ∙ ap (λ (o : Option (List Field × List ℕ)). read_as value.Rec o) is

rec_again : (f : List Field) (rest : List ℕ) → IsRec f → Ends rest → value_at (rec_text f ++ rest) ≡ Some (value.Rec f, rest)
unfolding rec_text
rec_again f rest is fine = brace_again (drop 1 (rec_text f ++ rest)) f rest (rec_spells.again f rest is fine)

value_again : (v : Value) (rest : List ℕ) → IsValue v → Ends rest → value_at (value_text v ++ rest) ≡ Some (v, rest)
unfolding value_text
value_again (value.Int z) rest is fine = int_again z rest is fine
value_again (value.Text b) rest is fine = text_again b rest is fine
value_again (value.Path p) rest is fine = path_again p rest is fine
value_again (value.Rec f) rest is fine = rec_again f rest is fine

-- ---- a value behind a space

spaced_takes : (text : List ℕ) (x : Value × List ℕ) → spaced_value_at text ≡ Some x → (text ≡ spaced_value_text x.0 ++ x.1) × IsValue x.0
unfolding spaced_value_at
spaced_takes text x e =
    let a = bind_some (after_byte 32 text) value_at x e in
    let v = value_takes a.0 x a.2 in
    (after_byte-takes 32 text a.0 a.1 ∙ ap (λ (t : List ℕ). 32 ∷ t) v.0, v.1)

spaced_again : (v : Value) (rest : List ℕ) → IsValue v → Ends rest → spaced_value_at (spaced_value_text v ++ rest) ≡ Some (v, rest)
unfolding spaced_value_at after_byte
spaced_again v rest is fine = value_again v rest is fine

no_value : spaced_value_at [] ≡ None
unfolding spaced_value_at after_byte
no_value = refl

space_ends : (rest : List ℕ) → Ends (32 ∷ rest)
unfolding is_plain
space_ends rest = refl

-- ---- all values

whole_is : (k : ℕ) (text : List ℕ) (n : ℕ) (found : List Value × List ℕ) (x : Reply) → IsNumber k → Took spaced_value_text IsValue n text found → whole_values k found ≡ Some x → SpellsReply (codes "done " ++ (decimal k ++ text)) x
unfolding reply_text
whole_is k text n (values, []) x is took e =
    subst (SpellsReply (codes "done " ++ (decimal k ++ text))) (some_is (reply.Done k values) x e)
    (ap (λ (t : List ℕ). codes "done " ++ (decimal k ++ t)) (took.parts ∙ append-nil (flat_map spaced_value_text values)), (is, took.all))
whole_is k text n (values, b ∷ rest) x is took e = absurd cc

pub done_takes : (text : List ℕ) (x : Reply) → done_at text ≡ Some x → SpellsReply (codes "done " ++ text) x
unfolding done_at
done_takes text x e =
    let a = bind_some (number_at MAX_NUMBER text) (λ k. whole_values k.0 (many spaced_value_at (length k.1) k.1)) x e in
    let t = number_takes MAX_NUMBER text a.0 (omega arith) (omega arith) a.1 in
    subst (λ (u : List ℕ). SpellsReply (codes "done " ++ u) x) (sym t.0)
    (whole_is a.0.0 a.0.1 (length a.0.1) (many spaced_value_at (length a.0.1) a.0.1) x t.1 (many_takes spaced_value_at spaced_value_text IsValue spaced_takes (length a.0.1) a.0.1) a.2)

begun : (rest : List ℕ) → Halts (32 ∷ rest)
begun rest = refl

halts : (values : List Value) → Halts (flat_map spaced_value_text values)
halts [] = tt
halts (v ∷ values) = begun (value_text v ++ flat_map spaced_value_text values)

long_enough : (values : List Value) → length values ≤ length (flat_map spaced_value_text values)
long_enough [] = omega arith
long_enough (v ∷ values) = omega (arith, long_enough values, length-append (spaced_value_text v) (flat_map spaced_value_text values))

all_again : (values : List Value) (m : ℕ) → length values ≤ m → AllByRecursion IsValue values → many spaced_value_at m (flat_map spaced_value_text values) ≡ (values, [])
all_again values m few all =
    ap (many spaced_value_at m) (sym (append-nil (flat_map spaced_value_text values)))
    ∙ (many_again spaced_value_at spaced_value_text IsValue Ends (λ v rest is fine. spaced_again v rest is fine) (λ v rest is. space_ends (value_text v ++ rest)) values m (m - length values) [] all (omega arith) tt
    ∙ (ap (ahead values) (many-end spaced_value_at (m - length values) [] no_value) ∙ ap (λ (vs : List Value). (vs, [])) (append-nil values)))

pub done_again : (k : ℕ) (values : List Value) → IsNumber k → AllByRecursion IsValue values → done_at (decimal k ++ flat_map spaced_value_text values) ≡ Some (reply.Done k values)
unfolding done_at
done_again k values is all =
    let text : List ℕ = flat_map spaced_value_text values in
    ap (λ (o : Option (ℕ × List ℕ)). o >>= λ n. whole_values n.0 (many spaced_value_at (length n.1) n.1)) (number_again MAX_NUMBER k text is (omega (arith, is)) (halts values))
    ∙ ap (whole_values k) (all_again values (length text) (long_enough values) all)

-- ---- the text of `abort`

whole_bytes_is : (o : Option (List ℕ × List ℕ)) (x : Reply) → whole_bytes o ≡ Some x → (b : List ℕ) × (o ≡ Some (b, [])) × (reply.NoAbort b ≡ x)
whole_bytes_is None x e = absurd cc
whole_bytes_is (Some (b, [])) x e = (b, refl, some_is (reply.NoAbort b) x e)
whole_bytes_is (Some (b, c ∷ rest)) x e = absurd cc

pub abort_takes : (text : List ℕ) (x : Reply) → abort_no text ≡ Some x → SpellsReply (codes "no abort " ++ text) x
unfolding abort_no reply_text
abort_takes text x e =
    let a = whole_bytes_is (quoted_at text) x e in
    let t = quoted_spells.takes text (a.0, []) a.1 in
    subst (SpellsReply (codes "no abort " ++ text)) a.2 (ap (λ (r : List ℕ). codes "no abort " ++ r) (t.0 ∙ append-nil (quoted a.0)), t.1)

pub abort_again : (b : List ℕ) → AreBytes b → abort_no (quoted b) ≡ Some (reply.NoAbort b)
unfolding abort_no
abort_again b is = ap whole_bytes (ap quoted_at (sym (append-nil (quoted b))) ∙ quoted_spells.again b [] is tt)
