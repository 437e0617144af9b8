-- What is read of conditions is spelled so.
use Rattle.std.proofs.Common.{◌≡◌, ℕ, zero, suc, ◌+◌, ◌<◌, Bool, true, false, cond, eqb, ⊎_elim, List, [], ◌∷◌, ◌++◌, length, drop, refl, sym, ap, subst, ◌∙◌, append_assoc, map, sum, arith, Option, Some, None, codes}
use Rattle.std.proofs.lemmas.Bool.{eqb-true}
use Rattle.std.proofs.lemmas.List.Sums.{sum_by-cons}
use Rattle.std.specs.List.{AllByRecursion}
use Rattle.khepri_terms.specs.Terms.{NameText}
use Rattle.khepri_terms.specs.declared.scalar.Scalar.{Scalar}
use Rattle.khepri_terms.specs.Many.{◌>>=◌}
use Rattle.khepri_terms.specs.Names.{comp_text}
use Rattle.khepri_terms.specs.Records.{scalar_text, rec_text}
use Rattle.std.specs.Fmt.{decimal}
use Rattle.khepri_terms.proofs.Cases.{bind_some, if_some, guard_some, some_is}
use Rattle.khepri_types.specs.declared.compare.Compare.{Compare}
use Rattle.khepri_types.specs.declared.condition.Condition.{Condition, roll-Condition}
use Rattle.khepri_types.specs.declared.condition.Condition.TheVariants as c
use Rattle.khepri_types.specs.declared.condition.Condition.TheVariants.{rolls-Absent, rolls-Exists, rolls-Payload, rolls-Data, rolls-Sproc, rolls-Name, rolls-Is, rolls-Field, rolls-Pv, rolls-Cv, rolls-Kids, rolls-Not, rolls-All, rolls-Any}
use Rattle.khepri_types.specs.declared.condition.Condition.TheViews.{out-roll-Condition}
use Rattle.khepri_types.specs.declared.condition.Condition.TheFolds.{fold-roll-Condition}
use Rattle.khepri_types.specs.declared.condition.Condition.TheOpen.{Condition-F}
use Rattle.khepri_types.specs.Compares.{compare_text}
use Rattle.khepri_types.specs.Globs.{glob_text}
use Rattle.khepri_types.specs.Spelled.{IsNumber}
use Rattle.khepri_types.specs.ConditionTexts.{joined, asked_text, number_text, layer_text, condition_text, layer_size, size, IsLayer, IsNested}
use Rattle.khepri_types.specs.Reading.{begins}
use Rattle.khepri_types.specs.ReadingConditions.{after_byte, name_asked, is_asked, field_asked, number_asked, comparing, list_end_at, before, uniting, asking_at, atom_at, not_asked, some_asked, list_asked, layer_at, nested_at}
use Rattle.khepri_types.proofs.Word.{if_read, word_takes}
use Rattle.khepri_types.proofs.Asking.{after_takes, behind, name_asked_takes, is_asked_takes, field_asked_takes, number_asked_takes}

-- the condition that was read is spelled at the front, at most n stand in one another, and as many fewer are left
pub record Was (n left : ℕ) (text : List ℕ) (x : Condition × ℕ × List ℕ) : Type 0 where
  pub parts : text ≡ condition_text x.0 ++ x.2
  pub nested : IsNested n x.0
  pub took : size x.0 + x.1 ≡ left

-- a condition that was read as one layer
rolled : (n left : ℕ) (text rest : List ℕ) (l : Condition-F Condition) (v : Condition) (more : ℕ) → roll-Condition l ≡ v → text ≡ condition_text (roll-Condition l) ++ rest → IsLayer (IsNested n) l → size (roll-Condition l) + more ≡ left
    → Was (suc n) left text (v, more, rest)
rolled n left text rest l v more e p is s =
    subst (λ (y : Condition). Was (suc n) left text (y, more, rest)) e (record { parts = p; nested = subst (IsLayer (IsNested n)) (sym (out-roll-Condition l)) is; took = s })

-- an atom that was read
atom : (n k : ℕ) (text rest t : List ℕ) (l : Condition-F Condition) (v : Condition) → roll-Condition l ≡ v → condition_text (roll-Condition l) ≡ t → size (roll-Condition l) ≡ 1 → IsLayer (IsNested n) l → text ≡ t ++ rest
    → Was (suc n) (suc k) text (v, k, rest)
atom n k text rest t l v e spelled one is p = rolled n (suc k) text rest l v k e (p ∙ ap (λ (s : List ℕ). s ++ rest) (sym spelled)) is (omega (arith, one))

word_was : (n k : ℕ) (text : List ℕ) (x : Condition × ℕ × List ℕ) (word : List ℕ) (l : Condition-F Condition) (v : Condition) → roll-Condition l ≡ v → condition_text (roll-Condition l) ≡ word → size (roll-Condition l) ≡ 1 → IsLayer (IsNested n) l
    → begins word text ≡ true → Some (v, k, drop (length word) text) ≡ Some x → Was (suc n) (suc k) text x
word_was n k text x word l v e spelled one is h r =
    subst (Was (suc n) (suc k) text) (some_is (v, k, drop (length word) text) x r) (atom n k text (drop (length word) text) word l v e spelled one is (word_takes word text h))

-- a word, `(`, what is asked and `)`
asked_parts : (word opened text body t rest : List ℕ) → opened ≡ word ++ 40 ∷ [] → text ≡ opened ++ body → body ≡ t ++ 41 ∷ rest → text ≡ asked_text word t ++ rest
asked_parts word opened text body t rest o p b =
    p ∙ ((λ i. o i ++ b i)
    ∙ (append_assoc word (40 ∷ []) (t ++ 41 ∷ rest)
    ∙ (ap (λ (s : List ℕ). word ++ 40 ∷ s) (sym (append_assoc t (41 ∷ []) rest))
    ∙ sym (append_assoc word (40 ∷ (t ++ 41 ∷ [])) rest))))

name_was : (n k : ℕ) (text : List ℕ) (x : Condition × ℕ × List ℕ) → begins (codes "name(") text ≡ true → name_asked k (drop 5 text) ≡ Some x → Was (suc n) (suc k) text x
unfolding layer_text layer_size
name_was n k text x h e =
    let a = name_asked_takes k (drop 5 text) x e in
    let l : Condition-F Condition = Condition-F.Name a.0 in
    let parts = asked_parts (codes "name") (codes "name(") text (drop 5 text) (glob_text a.0) a.1 refl (word_takes (codes "name(") text h) a.2 in
    subst (Was (suc n) (suc k) text) a.4
    (atom n k text a.1 (asked_text (codes "name") (glob_text a.0)) l (c.Name a.0) (rolls-Name a.0) (fold-roll-Condition (List ℕ) layer_text l) (fold-roll-Condition ℕ layer_size l) a.3 parts)

is_was : (n k : ℕ) (text : List ℕ) (x : Condition × ℕ × List ℕ) → begins (codes "is(") text ≡ true → is_asked k (drop 3 text) ≡ Some x → Was (suc n) (suc k) text x
unfolding layer_text layer_size
is_was n k text x h e =
    let a = is_asked_takes k (drop 3 text) x e in
    let l : Condition-F Condition = Condition-F.Is a.0 in
    let parts = asked_parts (codes "is") (codes "is(") text (drop 3 text) (rec_text a.0) a.1 refl (word_takes (codes "is(") text h) a.2 in
    subst (Was (suc n) (suc k) text) a.4
    (atom n k text a.1 (asked_text (codes "is") (rec_text a.0)) l (c.Is a.0) (rolls-Is a.0) (fold-roll-Condition (List ℕ) layer_text l) (fold-roll-Condition ℕ layer_size l) a.3 parts)

-- the words of `field` before its `)`
abbrev pub words : NameText → Compare → Scalar → List ℕ
words key op x = comp_text key ++ 44 ∷ (compare_text op ++ 44 ∷ scalar_text x)

pub behind_is : (key : NameText) (op : Compare) (x : Scalar) (rest : List ℕ) → behind key op x rest ≡ words key op x ++ 41 ∷ rest
unfolding behind
behind_is key op x rest =
    ap (λ (s : List ℕ). comp_text key ++ 44 ∷ s) (sym (append_assoc (compare_text op) (44 ∷ scalar_text x) (41 ∷ rest))) ∙ sym (append_assoc (comp_text key) (44 ∷ (compare_text op ++ 44 ∷ scalar_text x)) (41 ∷ rest))

field_was : (n k : ℕ) (text : List ℕ) (x : Condition × ℕ × List ℕ) → begins (codes "field(") text ≡ true → field_asked k (drop 6 text) ≡ Some x → Was (suc n) (suc k) text x
unfolding layer_text layer_size
field_was n k text x h e =
    let a = field_asked_takes k (drop 6 text) x e in
    let l : Condition-F Condition = Condition-F.Field a.0 a.1 a.2 in
    let parts = asked_parts (codes "field") (codes "field(") text (drop 6 text) (words a.0 a.1 a.2) a.3 refl (word_takes (codes "field(") text h) (a.4 ∙ behind_is a.0 a.1 a.2 a.3) in
    subst (Was (suc n) (suc k) text) a.7
    (atom n k text a.3 (asked_text (codes "field") (words a.0 a.1 a.2)) l (c.Field a.0 a.1 a.2) (rolls-Field a.0 a.1 a.2) (fold-roll-Condition (List ℕ) layer_text l) (fold-roll-Condition ℕ layer_size l) (a.5, a.6) parts)

comparing_is : (make : Compare → ℕ → Condition) (k : ℕ) (o : Option (Compare × ℕ × List ℕ)) (x : Condition × ℕ × List ℕ) → comparing make k o ≡ Some x → (y : Compare × ℕ × List ℕ) × (o ≡ Some y) × ((make y.0 y.1, k, y.2) ≡ x)
comparing_is make k None x e = absurd cc
comparing_is make k (Some y) x e = (y, refl, some_is (make y.0 y.1, k, y.2) x e)

number_was : (n k : ℕ) (text : List ℕ) (x : Condition × ℕ × List ℕ) (word opened : List ℕ) (make : Compare → ℕ → Condition) (layer : Compare → ℕ → Condition-F Condition)
    → ((op : Compare) (m : ℕ) → roll-Condition (layer op m) ≡ make op m) → ((op : Compare) (m : ℕ) → condition_text (roll-Condition (layer op m)) ≡ asked_text word (number_text op m)) → ((op : Compare) (m : ℕ) → size (roll-Condition (layer op m)) ≡ 1)
    → ((op : Compare) (m : ℕ) → IsNumber m → IsLayer (IsNested n) (layer op m)) → opened ≡ word ++ 40 ∷ [] → begins opened text ≡ true → comparing make k (number_asked (drop (length opened) text)) ≡ Some x → Was (suc n) (suc k) text x
number_was n k text x word opened make layer rolls spelled one is o h e =
    let a = comparing_is make k (number_asked (drop (length opened) text)) x e in
    let op : Compare = a.0.0 in
    let m : ℕ = a.0.1 in
    let t = number_asked_takes (drop (length opened) text) a.0 a.1 in
    let body : drop (length opened) text ≡ number_text op m ++ 41 ∷ a.0.2 = t.0 ∙ sym (append_assoc (compare_text op) (44 ∷ decimal m) (41 ∷ a.0.2)) in
    subst (Was (suc n) (suc k) text) a.2
    (atom n k text a.0.2 (asked_text word (number_text op m)) (layer op m) (make op m) (rolls op m) (spelled op m) (one op m) (is op m t.1) (asked_parts word opened text (drop (length opened) text) (number_text op m) a.0.2 o (word_takes opened text h) body))

-- ---- conditions of conditions

abbrev pub Takes : ℕ → Type 0
Takes n = (left : ℕ) (text : List ℕ) (x : Condition × ℕ × List ℕ) → nested_at n left text ≡ Some x → Was n left text x

not_was : (n k : ℕ) (text : List ℕ) (x : Condition × ℕ × List ℕ) → Takes n → begins (codes "not(") text ≡ true → not_asked (nested_at n) k (drop 4 text) ≡ Some x → Was (suc n) (suc k) text x
unfolding layer_text layer_size not_asked
not_was n k text x takes h e =
    let a = bind_some (nested_at n k (drop 4 text)) (λ found. after_byte 41 found.2 >>= λ rest. Some (c.Not found.0, found.1, rest)) x e in
    let b = bind_some (after_byte 41 a.0.2) (λ rest. Some (c.Not a.0.0, a.0.1, rest)) x a.2 in
    let w = takes k (drop 4 text) a.0 a.1 in
    let l : Condition-F Condition = Condition-F.Not a.0.0 in
    let body : drop 4 text ≡ condition_text a.0.0 ++ 41 ∷ b.0 = w.parts ∙ ap (λ (s : List ℕ). condition_text a.0.0 ++ s) (after_takes 41 a.0.2 b.0 b.1) in
    let parts = asked_parts (codes "not") (codes "not(") text (drop 4 text) (condition_text a.0.0) b.0 refl (word_takes (codes "not(") text h) body in
    let made : size (roll-Condition l) ≡ size a.0.0 + 1 = fold-roll-Condition ℕ layer_size l in
    subst (Was (suc n) (suc k) text) (some_is (c.Not a.0.0, a.0.1, b.0) x b.2)
    (rolled n (suc k) text b.0 l (c.Not a.0.0) a.0.1 (rolls-Not a.0.0) (parts ∙ ap (λ (s : List ℕ). s ++ b.0) (sym (fold-roll-Condition (List ℕ) layer_text l))) w.nested (omega (arith, made, w.took)))

-- the conditions that were read are spelled at the front with their `)`
pub record Were (n left : ℕ) (text : List ℕ) (x : List Condition × ℕ × List ℕ) : Type 0 where
  pub parts : text ≡ joined (map condition_text x.0) ++ 41 ∷ x.2
  pub all : AllByRecursion (IsNested n) x.0
  pub took : sum (map size x.0) + x.1 ≡ left

abbrev pub sign : Bool → ℕ
sign last = cond last 41 44

end_takes : (text : List ℕ) (x : Bool × List ℕ) → list_end_at text ≡ Some x → text ≡ sign x.0 ∷ x.1
unfolding list_end_at
end_takes [] x e = absurd cc
end_takes (b ∷ text) x e =
    ⊎_elim
    (λ (p : (eqb b 41 ≡ true) × (Some (true, text) ≡ Some x)). subst (λ (y : Bool × List ℕ). b ∷ text ≡ sign y.0 ∷ y.1) (some_is (true, text) x p.1) (ap (λ (n : ℕ). n ∷ text) (eqb-true b 41 p.0)))
    (λ (p : (eqb b 41 ≡ false) × (cond (eqb b 44) (Some (false, text)) None ≡ Some x)).
    let q = guard_some (eqb b 44) (Some (false, text)) x p.1 in
    subst (λ (y : Bool × List ℕ). b ∷ text ≡ sign y.0 ∷ y.1) (some_is (false, text) x q.1) (ap (λ (n : ℕ). n ∷ text) (eqb-true b 44 q.0)))
    (if_some (eqb b 41) (Some (true, text)) (cond (eqb b 44) (Some (false, text)) None) x e)

before_is : (v : Condition) (o : Option (List Condition × ℕ × List ℕ)) (x : List Condition × ℕ × List ℕ) → before v o ≡ Some x → (y : List Condition × ℕ × List ℕ) × (o ≡ Some y) × ((v ∷ y.0, y.1, y.2) ≡ x)
before_is v None x e = absurd cc
before_is v (Some y) x e = (y, refl, some_is (v ∷ y.0, y.1, y.2) x e)

pub joined_one : (t : List ℕ) → joined (t ∷ []) ≡ t
unfolding joined
joined_one t = refl

pub joined_more : (v : Condition) (vs : List Condition) → 0 < length vs → joined (map condition_text (v ∷ vs)) ≡ condition_text v ++ 44 ∷ joined (map condition_text vs)
unfolding joined
joined_more v [] lt = absurd (omega arith)
joined_more v (w ∷ vs) lt = refl

one_were : (n left more : ℕ) (text after rest : List ℕ) (v : Condition) → Was n left text (v, more, after) → after ≡ 41 ∷ rest → Were n left text (v ∷ [], more, rest)
one_were n left more text after rest v w a =
    record { parts = w.parts ∙ (ap (λ (s : List ℕ). condition_text v ++ s) a ∙ ap (λ (s : List ℕ). s ++ 41 ∷ rest) (sym (joined_one (condition_text v)))); all = (w.nested, tt); took = omega (arith, w.took) }

more_were : (n left more : ℕ) (text after later : List ℕ) (v : Condition) (y : List Condition × ℕ × List ℕ) → Was n left text (v, more, after) → after ≡ 44 ∷ later → Were n more later y → 0 < length y.0 → Were n left text (v ∷ y.0, y.1, y.2)
more_were n left more text after later v y w a r lt =
    let all : sum (map size (v ∷ y.0)) ≡ size v + sum (map size y.0) = sum_by-cons (λ (k : ℕ). k) (size v) (map size y.0) in
    record {
      parts = w.parts ∙ (ap (λ (s : List ℕ). condition_text v ++ s) (a ∙ ap (λ (s : List ℕ). 44 ∷ s) r.parts)
          ∙ (sym (append_assoc (condition_text v) (44 ∷ joined (map condition_text y.0)) (41 ∷ y.2)) ∙ ap (λ (s : List ℕ). s ++ 41 ∷ y.2) (sym (joined_more v y.0 lt))));
      all = (w.nested, r.all);
      took = omega (arith, all, w.took, r.took);
    }

some_were : (n m left : ℕ) (text : List ℕ) (x : List Condition × ℕ × List ℕ) → Takes n → some_asked (nested_at n) m left text ≡ Some x → Were n left text x × (0 < length x.0)
unfolding some_asked
some_were n zero left text x takes e = absurd cc
some_were n (suc m) left text x takes e =
    let a = bind_some (nested_at n left text) (λ found. list_end_at found.2 >>= λ end. cond end.0 (Some (found.0 ∷ [], found.1, end.1)) (before found.0 (some_asked (nested_at n) m found.1 end.1))) x e in
    let v : Condition = a.0.0 in
    let b = bind_some (list_end_at a.0.2) (λ end. cond end.0 (Some (v ∷ [], a.0.1, end.1)) (before v (some_asked (nested_at n) m a.0.1 end.1))) x a.2 in
    let w = takes left text a.0 a.1 in
    let s = end_takes a.0.2 b.0 b.1 in
    ⊎_elim
    (λ (p : (b.0.0 ≡ true) × (Some (v ∷ [], a.0.1, b.0.1) ≡ Some x)).
    subst (λ (y : List Condition × ℕ × List ℕ). Were n left text y × (0 < length y.0)) (some_is (v ∷ [], a.0.1, b.0.1) x p.1) (one_were n left a.0.1 text a.0.2 b.0.1 v w (s ∙ ap (λ (l : Bool). sign l ∷ b.0.1) p.0), omega arith))
    (λ (p : (b.0.0 ≡ false) × (before v (some_asked (nested_at n) m a.0.1 b.0.1) ≡ Some x)).
    let j = before_is v (some_asked (nested_at n) m a.0.1 b.0.1) x p.1 in
    let r = some_were n m a.0.1 b.0.1 j.0 takes j.1 in
    subst (λ (y : List Condition × ℕ × List ℕ). Were n left text y × (0 < length y.0)) j.2 (more_were n left a.0.1 text a.0.2 b.0.1 v j.0 w (s ∙ ap (λ (l : Bool). sign l ∷ b.0.1) p.0) r.0 r.1, omega arith))
    (if_some b.0.0 (Some (v ∷ [], a.0.1, b.0.1)) (before v (some_asked (nested_at n) m a.0.1 b.0.1)) x b.2)

list_were : (n left : ℕ) (text : List ℕ) (x : List Condition × ℕ × List ℕ) → Takes n → list_asked (nested_at n) left text ≡ Some x → Were n left text x
unfolding list_asked joined
list_were n left [] x takes e = absurd cc
list_were n left (b ∷ text) x takes e =
    ⊎_elim
    (λ (p : (eqb b 41 ≡ true) × (Some ([], left, text) ≡ Some x)).
    subst (Were n left (b ∷ text)) (some_is ([], left, text) x p.1) (record { parts = ap (λ (k : ℕ). k ∷ text) (eqb-true b 41 p.0); all = tt; took = omega arith }))
    (λ (p : (eqb b 41 ≡ false) × (some_asked (nested_at n) left left (b ∷ text) ≡ Some x)). (some_were n left left (b ∷ text) x takes p.1).0)
    (if_some (eqb b 41) (Some ([], left, text)) (some_asked (nested_at n) left left (b ∷ text)) x e)

uniting_is : (make : List Condition → Condition) (o : Option (List Condition × ℕ × List ℕ)) (x : Condition × ℕ × List ℕ) → uniting make o ≡ Some x → (y : List Condition × ℕ × List ℕ) × (o ≡ Some y) × ((make y.0, y.1, y.2) ≡ x)
uniting_is make None x e = absurd cc
uniting_is make (Some y) x e = (y, refl, some_is (make y.0, y.1, y.2) x e)

united_was : (n k : ℕ) (text : List ℕ) (x : Condition × ℕ × List ℕ) (word opened : List ℕ) (make : List Condition → Condition) (layer : List Condition → Condition-F Condition)
    → ((vs : List Condition) → roll-Condition (layer vs) ≡ make vs) → ((vs : List Condition) → condition_text (roll-Condition (layer vs)) ≡ asked_text word (joined (map condition_text vs))) → ((vs : List Condition) → size (roll-Condition (layer vs)) ≡ sum (map size vs) + 1)
    → ((vs : List Condition) → AllByRecursion (IsNested n) vs → IsLayer (IsNested n) (layer vs)) → opened ≡ word ++ 40 ∷ [] → Takes n → begins opened text ≡ true → uniting make (list_asked (nested_at n) k (drop (length opened) text)) ≡ Some x → Was (suc n) (suc k) text x
united_was n k text x word opened make layer rolls spelled sized is o takes h e =
    let a = uniting_is make (list_asked (nested_at n) k (drop (length opened) text)) x e in
    let vs : List Condition = a.0.0 in
    let w = list_were n k (drop (length opened) text) a.0 takes a.1 in
    let parts = asked_parts word opened text (drop (length opened) text) (joined (map condition_text vs)) a.0.2 o (word_takes opened text h) w.parts in
    subst (Was (suc n) (suc k) text) a.2
    (rolled n (suc k) text a.0.2 (layer vs) (make vs) a.0.1 (rolls vs) (parts ∙ ap (λ (s : List ℕ). s ++ a.0.2) (sym (spelled vs))) (is vs w.all) (omega (arith, sized vs, w.took)))

-- ---- any condition

layer_was : (n k : ℕ) (text : List ℕ) (x : Condition × ℕ × List ℕ) → Takes n → layer_at (nested_at n) k text ≡ Some x → Was (suc n) (suc k) text x
unfolding layer_at atom_at asking_at layer_text layer_size
layer_was n k text x takes e =
    if_read (begins (codes "not(") text) _ _ x e (not_was n k text x takes) (λ e.
    if_read (begins (codes "all(") text) _ _ x e
    (united_was n k text x (codes "all") (codes "all(") c.All Condition-F.All rolls-All (λ vs. fold-roll-Condition (List ℕ) layer_text (Condition-F.All vs)) (λ vs. fold-roll-Condition ℕ layer_size (Condition-F.All vs)) (λ vs all. all) refl takes) (λ e.
    if_read (begins (codes "any(") text) _ _ x e
    (united_was n k text x (codes "any") (codes "any(") c.Any Condition-F.Any rolls-Any (λ vs. fold-roll-Condition (List ℕ) layer_text (Condition-F.Any vs)) (λ vs. fold-roll-Condition ℕ layer_size (Condition-F.Any vs)) (λ vs all. all) refl takes) (λ e.
    if_read (begins (codes "absent") text) _ _ x e (word_was n k text x (codes "absent") Condition-F.Absent c.Absent rolls-Absent (fold-roll-Condition (List ℕ) layer_text Condition-F.Absent) (fold-roll-Condition ℕ layer_size Condition-F.Absent) tt) (λ e.
    if_read (begins (codes "exists") text) _ _ x e (word_was n k text x (codes "exists") Condition-F.Exists c.Exists rolls-Exists (fold-roll-Condition (List ℕ) layer_text Condition-F.Exists) (fold-roll-Condition ℕ layer_size Condition-F.Exists) tt) (λ e.
    if_read (begins (codes "payload") text) _ _ x e (word_was n k text x (codes "payload") Condition-F.Payload c.Payload rolls-Payload (fold-roll-Condition (List ℕ) layer_text Condition-F.Payload) (fold-roll-Condition ℕ layer_size Condition-F.Payload) tt) (λ e.
    if_read (begins (codes "data") text) _ _ x e (word_was n k text x (codes "data") Condition-F.Data c.Data rolls-Data (fold-roll-Condition (List ℕ) layer_text Condition-F.Data) (fold-roll-Condition ℕ layer_size Condition-F.Data) tt) (λ e.
    if_read (begins (codes "sproc") text) _ _ x e (word_was n k text x (codes "sproc") Condition-F.Sproc c.Sproc rolls-Sproc (fold-roll-Condition (List ℕ) layer_text Condition-F.Sproc) (fold-roll-Condition ℕ layer_size Condition-F.Sproc) tt) (λ e.
    if_read (begins (codes "name(") text) _ _ x e (name_was n k text x) (λ e.
    if_read (begins (codes "is(") text) _ _ x e (is_was n k text x) (λ e.
    if_read (begins (codes "field(") text) _ _ x e (field_was n k text x) (λ e.
    if_read (begins (codes "pv(") text) _ _ x e
    (number_was n k text x (codes "pv") (codes "pv(") c.Pv Condition-F.Pv rolls-Pv (λ op m. fold-roll-Condition (List ℕ) layer_text (Condition-F.Pv op m)) (λ op m. fold-roll-Condition ℕ layer_size (Condition-F.Pv op m)) (λ op m is. is) refl) (λ e.
    if_read (begins (codes "cv(") text) _ _ x e
    (number_was n k text x (codes "cv") (codes "cv(") c.Cv Condition-F.Cv rolls-Cv (λ op m. fold-roll-Condition (List ℕ) layer_text (Condition-F.Cv op m)) (λ op m. fold-roll-Condition ℕ layer_size (Condition-F.Cv op m)) (λ op m is. is) refl) (λ e.
    if_read (begins (codes "kids(") text) _ _ x e
    (number_was n k text x (codes "kids") (codes "kids(") c.Kids Condition-F.Kids rolls-Kids (λ op m. fold-roll-Condition (List ℕ) layer_text (Condition-F.Kids op m)) (λ op m. fold-roll-Condition ℕ layer_size (Condition-F.Kids op m)) (λ op m is. is) refl) (λ e.
    absurd cc))))))))))))))

pub nested_was : (n left : ℕ) (text : List ℕ) (x : Condition × ℕ × List ℕ) → nested_at n left text ≡ Some x → Was n left text x
unfolding nested_at
nested_was zero left text x e = absurd cc
nested_was (suc n) zero text x e = absurd cc
nested_was (suc n) (suc k) text x e = layer_was n k text x (λ l t y r. nested_was n l t y r) e
