-- What is read of the words of an atom is spelled so, and what is spelled so is read.
use Rattle.std.proofs.Common.{◌≡◌, ℕ, true, eqb, List, [], ◌∷◌, ◌++◌, length, drop, refl, ap, subst, ◌∙◌, arith, Option, Some, codes, decimal}
use Rattle.std.proofs.lemmas.Bool.{eqb-true}
use Rattle.khepri_terms.specs.declared.name.Kind.{Kind}
use Rattle.khepri_terms.specs.declared.name.Kind.TheVariants.{Atom, Text}
use Rattle.khepri_terms.specs.declared.scalar.Scalar.{Scalar}
use Rattle.khepri_terms.specs.declared.rec.Field.{Field}
use Rattle.khepri_terms.specs.Terms.{NameText}
use Rattle.khepri_terms.specs.Many.{◌>>=◌}
use Rattle.khepri_terms.specs.Bytes.{is_plain}
use Rattle.khepri_terms.specs.Names.{comp_text, comp_at}
use Rattle.khepri_terms.specs.Numbers.{number_at}
use Rattle.khepri_terms.specs.Records.{scalar_text, scalar_at, IsScalar, rec_text, rec_at, IsRec}
use Rattle.khepri_terms.proofs.Cases.{bind_some, guard_some, some_is}
use Rattle.khepri_terms.proofs.NamesLaws.{comp_takes, comp_again}
use Rattle.khepri_terms.proofs.NumbersLaws.{number_takes, number_again}
use Rattle.khepri_terms.proofs.RecordsLaws.{scalar_takes, scalar_again, rec_takes, rec_again}
use Rattle.khepri_types.specs.declared.limits.TheConstants.{MAX_NUMBER}
use Rattle.khepri_types.specs.declared.compare.Compare.{Compare}
use Rattle.khepri_types.specs.declared.compare.Compare.TheVariants.{Eq, Ne, Lt, Le, Gt, Ge}
use Rattle.khepri_types.specs.declared.condition.Condition.{Condition}
use Rattle.khepri_types.specs.declared.condition.Condition.TheVariants as c
use Rattle.khepri_types.specs.declared.glob.Glob.{Glob}
use Rattle.khepri_types.specs.Compares.{compare_text}
use Rattle.khepri_types.specs.Globs.{glob_text, IsGlob, glob_at}
use Rattle.khepri_types.specs.Spelled.{IsNumber}
use Rattle.khepri_types.specs.ConditionTexts.{IsKey}
use Rattle.khepri_types.specs.Reading.{begins}
use Rattle.khepri_types.specs.ReadingConditions.{after_byte, compare_at, as_key, key_at, name_asked, is_asked, field_value, field_op, field_asked, number_asked}
use Rattle.khepri_types.proofs.Word.{if_read, word_takes}
use Rattle.khepri_types.proofs.GlobSpelling.{glob_takes, glob_again}

-- ---- single bytes and comparisons

pub after_takes : (b : ℕ) (text rest : List ℕ) → after_byte b text ≡ Some rest → text ≡ b ∷ rest
unfolding after_byte
after_takes b [] rest e = absurd cc
after_takes b (a ∷ text) rest e = let g = guard_some (eqb a b) (Some text) rest e in (λ i. eqb-true a b g.0 i ∷ some_is text rest g.1 i)

pub close_again : (rest : List ℕ) → after_byte 41 (41 ∷ rest) ≡ Some rest
unfolding after_byte
close_again rest = refl

pub comma_again : (rest : List ℕ) → after_byte 44 (44 ∷ rest) ≡ Some rest
unfolding after_byte
comma_again rest = refl

compared : (text : List ℕ) (x : Compare × List ℕ) (op : Compare) → begins (compare_text op) text ≡ true → Some (op, drop (length (compare_text op)) text) ≡ Some x → text ≡ compare_text x.0 ++ x.1
compared text x op is e = subst (λ (y : Compare × List ℕ). text ≡ compare_text y.0 ++ y.1) (some_is (op, drop (length (compare_text op)) text) x e) (word_takes (compare_text op) text is)

pub compare_takes : (text : List ℕ) (x : Compare × List ℕ) → compare_at text ≡ Some x → text ≡ compare_text x.0 ++ x.1
unfolding compare_at compare_text
compare_takes text x e =
    if_read (begins (codes "eq") text) _ _ x e (compared text x Eq) (λ e1.
    if_read (begins (codes "ne") text) _ _ x e1 (compared text x Ne) (λ e2.
    if_read (begins (codes "lt") text) _ _ x e2 (compared text x Lt) (λ e3.
    if_read (begins (codes "le") text) _ _ x e3 (compared text x Le) (λ e4.
    if_read (begins (codes "gt") text) _ _ x e4 (compared text x Gt) (λ e5.
    if_read (begins (codes "ge") text) _ _ x e5 (compared text x Ge) (λ e6. absurd cc))))))

pub compare_again : (op : Compare) (rest : List ℕ) → compare_at (compare_text op ++ rest) ≡ Some (op, rest)
unfolding compare_at compare_text
compare_again Eq rest = refl
compare_again Ne rest = refl
compare_again Lt rest = refl
compare_again Le rest = refl
compare_again Gt rest = refl
compare_again Ge rest = refl

-- ---- keys

as_key_is : (y x : NameText × List ℕ) (kind : Kind) → as_key y kind ≡ Some x → (kind ≡ Text) × (y ≡ x)
as_key_is y x Atom e = absurd cc
as_key_is y x Text e = (refl, some_is y x e)

pub key_takes : (text : List ℕ) (x : NameText × List ℕ) → key_at text ≡ Some x → (text ≡ comp_text x.0 ++ x.1) × IsKey x.0
unfolding key_at
key_takes text x e =
    let a = bind_some (comp_at text) (λ name. as_key name name.0.kind) x e in
    let k = as_key_is a.0 x a.0.0.kind a.2 in
    let t = comp_takes text a.0 a.1 in
    subst (λ (y : NameText × List ℕ). (text ≡ comp_text y.0 ++ y.1) × IsKey y.0) k.1 (t.0, (k.0, t.1))

pub key_again : (n : NameText) (rest : List ℕ) → IsKey n → key_at (comp_text n ++ 44 ∷ rest) ≡ Some (n, 44 ∷ rest)
unfolding key_at is_plain
key_again n rest is =
    ap (λ (o : Option (NameText × List ℕ)). o >>= λ name. as_key name name.0.kind) (comp_again n (44 ∷ rest) is.1 refl)
    ∙ ap (as_key (n, 44 ∷ rest)) is.0

-- ---- atoms

pub name_asked_takes : (left : ℕ) (text : List ℕ) (x : Condition × ℕ × List ℕ) → name_asked left text ≡ Some x → (g : Glob) × (rest : List ℕ) × (text ≡ glob_text g ++ 41 ∷ rest) × IsGlob g × ((c.Name g, left, rest) ≡ x)
unfolding name_asked
name_asked_takes left text x e =
    let a = bind_some (glob_at text) (λ glob. after_byte 41 glob.1 >>= λ rest. Some (c.Name glob.0, left, rest)) x e in
    let b = bind_some (after_byte 41 a.0.1) (λ rest. Some (c.Name a.0.0, left, rest)) x a.2 in
    let t = glob_takes text a.0 a.1 in
    (a.0.0, b.0, t.0 ∙ ap (λ (s : List ℕ). glob_text a.0.0 ++ s) (after_takes 41 a.0.1 b.0 b.1), t.1, some_is (c.Name a.0.0, left, b.0) x b.2)

pub name_asked_again : (left : ℕ) (g : Glob) (rest : List ℕ) → IsGlob g → name_asked left (glob_text g ++ 41 ∷ rest) ≡ Some (c.Name g, left, rest)
unfolding name_asked
name_asked_again left g rest is =
    ap (λ (o : Option (Glob × List ℕ)). o >>= λ glob. after_byte 41 glob.1 >>= λ rest. Some (c.Name glob.0, left, rest)) (glob_again g rest is)
    ∙ ap (λ (o : Option (List ℕ)). o >>= λ rest. Some (c.Name g, left, rest)) (close_again rest)

pub is_asked_takes : (left : ℕ) (text : List ℕ) (x : Condition × ℕ × List ℕ) → is_asked left text ≡ Some x → (r : List Field) × (rest : List ℕ) × (text ≡ rec_text r ++ 41 ∷ rest) × IsRec r × ((c.Is r, left, rest) ≡ x)
unfolding is_asked
is_asked_takes left text x e =
    let a = bind_some (rec_at text) (λ fields. after_byte 41 fields.1 >>= λ rest. Some (c.Is fields.0, left, rest)) x e in
    let b = bind_some (after_byte 41 a.0.1) (λ rest. Some (c.Is a.0.0, left, rest)) x a.2 in
    let t = rec_takes text a.0 a.1 in
    (a.0.0, b.0, t.0 ∙ ap (λ (s : List ℕ). rec_text a.0.0 ++ s) (after_takes 41 a.0.1 b.0 b.1), t.1, some_is (c.Is a.0.0, left, b.0) x b.2)

pub is_asked_again : (left : ℕ) (r : List Field) (rest : List ℕ) → IsRec r → is_asked left (rec_text r ++ 41 ∷ rest) ≡ Some (c.Is r, left, rest)
unfolding is_asked
is_asked_again left r rest is =
    ap (λ (o : Option (List Field × List ℕ)). o >>= λ fields. after_byte 41 fields.1 >>= λ rest. Some (c.Is fields.0, left, rest)) (rec_again r (41 ∷ rest) is)
    ∙ ap (λ (o : Option (List ℕ)). o >>= λ rest. Some (c.Is r, left, rest)) (close_again rest)

-- what stands behind the words of `field`
unfoldable pub behind : NameText → Compare → Scalar → List ℕ → List ℕ
behind key op x rest = comp_text key ++ 44 ∷ (compare_text op ++ 44 ∷ (scalar_text x ++ 41 ∷ rest))

pub field_asked_takes : (left : ℕ) (text : List ℕ) (x : Condition × ℕ × List ℕ) → field_asked left text ≡ Some x
    → (key : NameText) × (op : Compare) × (value : Scalar) × (rest : List ℕ) × (text ≡ behind key op value rest) × IsKey key × IsScalar value × ((c.Field key op value, left, rest) ≡ x)
unfolding field_asked field_op field_value behind
field_asked_takes left text x e =
    let a = bind_some (key_at text) (λ key. after_byte 44 key.1 >>= λ words. compare_at words >>= λ op. after_byte 44 op.1 >>= λ digits. scalar_at digits >>= λ value. after_byte 41 value.1 >>= λ rest. Some (c.Field key.0 op.0 value.0, left, rest)) x e in
    let b = bind_some (after_byte 44 a.0.1) (λ words. compare_at words >>= λ op. after_byte 44 op.1 >>= λ digits. scalar_at digits >>= λ value. after_byte 41 value.1 >>= λ rest. Some (c.Field a.0.0 op.0 value.0, left, rest)) x a.2 in
    let o = bind_some (compare_at b.0) (λ op. after_byte 44 op.1 >>= λ digits. scalar_at digits >>= λ value. after_byte 41 value.1 >>= λ rest. Some (c.Field a.0.0 op.0 value.0, left, rest)) x b.2 in
    let d = bind_some (after_byte 44 o.0.1) (λ digits. scalar_at digits >>= λ value. after_byte 41 value.1 >>= λ rest. Some (c.Field a.0.0 o.0.0 value.0, left, rest)) x o.2 in
    let v = bind_some (scalar_at d.0) (λ value. after_byte 41 value.1 >>= λ rest. Some (c.Field a.0.0 o.0.0 value.0, left, rest)) x d.2 in
    let r = bind_some (after_byte 41 v.0.1) (λ rest. Some (c.Field a.0.0 o.0.0 v.0.0, left, rest)) x v.2 in
    let k = key_takes text a.0 a.1 in
    let s = scalar_takes d.0 v.0 v.1 in
    let value : d.0 ≡ scalar_text v.0.0 ++ 41 ∷ r.0 = s.0 ∙ ap (λ (t : List ℕ). scalar_text v.0.0 ++ t) (after_takes 41 v.0.1 r.0 r.1) in
    let words : b.0 ≡ compare_text o.0.0 ++ 44 ∷ (scalar_text v.0.0 ++ 41 ∷ r.0) = compare_takes b.0 o.0 o.1 ∙ ap (λ (t : List ℕ). compare_text o.0.0 ++ t) (after_takes 44 o.0.1 d.0 d.1 ∙ ap (λ (t : List ℕ). 44 ∷ t) value) in
    (a.0.0, o.0.0, v.0.0, r.0, k.0 ∙ ap (λ (t : List ℕ). comp_text a.0.0 ++ t) (after_takes 44 a.0.1 b.0 b.1 ∙ ap (λ (t : List ℕ). 44 ∷ t) words), k.1, s.1, some_is (c.Field a.0.0 o.0.0 v.0.0, left, r.0) x r.2)

pub field_asked_again : (left : ℕ) (key : NameText) (op : Compare) (value : Scalar) (rest : List ℕ) → IsKey key → IsScalar value → field_asked left (behind key op value rest) ≡ Some (c.Field key op value, left, rest)
unfolding field_asked field_op field_value behind is_plain
field_asked_again left key op value rest is-key is-value =
    ap (λ (o : Option (NameText × List ℕ)). o >>= λ key. after_byte 44 key.1 >>= λ words. compare_at words >>= λ op. after_byte 44 op.1 >>= λ digits. scalar_at digits >>= λ value. after_byte 41 value.1 >>= λ rest. Some (c.Field key.0 op.0 value.0, left, rest)) (key_again key (compare_text op ++ 44 ∷ (scalar_text value ++ 41 ∷ rest)) is-key)
    ∙ (ap (λ (o : Option (List ℕ)). o >>= λ words. compare_at words >>= λ op. after_byte 44 op.1 >>= λ digits. scalar_at digits >>= λ value. after_byte 41 value.1 >>= λ rest. Some (c.Field key op.0 value.0, left, rest)) (comma_again (compare_text op ++ 44 ∷ (scalar_text value ++ 41 ∷ rest)))
    ∙ (ap (λ (o : Option (Compare × List ℕ)). o >>= λ op. after_byte 44 op.1 >>= λ digits. scalar_at digits >>= λ value. after_byte 41 value.1 >>= λ rest. Some (c.Field key op.0 value.0, left, rest)) (compare_again op (44 ∷ (scalar_text value ++ 41 ∷ rest)))
    ∙ (ap (λ (o : Option (List ℕ)). o >>= λ digits. scalar_at digits >>= λ value. after_byte 41 value.1 >>= λ rest. Some (c.Field key op value.0, left, rest)) (comma_again (scalar_text value ++ 41 ∷ rest))
    ∙ (ap (λ (o : Option (Scalar × List ℕ)). o >>= λ value. after_byte 41 value.1 >>= λ rest. Some (c.Field key op value.0, left, rest)) (scalar_again value (41 ∷ rest) is-value refl)
    ∙ ap (λ (o : Option (List ℕ)). o >>= λ rest. Some (c.Field key op value, left, rest)) (close_again rest)))))

pub number_asked_takes : (text : List ℕ) (x : Compare × ℕ × List ℕ) → number_asked text ≡ Some x → (text ≡ compare_text x.0 ++ 44 ∷ (decimal x.1 ++ 41 ∷ x.2)) × IsNumber x.1
unfolding number_asked
number_asked_takes text x e =
    let o = bind_some (compare_at text) (λ op. after_byte 44 op.1 >>= λ digits. number_at MAX_NUMBER digits >>= λ number. after_byte 41 number.1 >>= λ rest. Some (op.0, number.0, rest)) x e in
    let d = bind_some (after_byte 44 o.0.1) (λ digits. number_at MAX_NUMBER digits >>= λ number. after_byte 41 number.1 >>= λ rest. Some (o.0.0, number.0, rest)) x o.2 in
    let n = bind_some (number_at MAX_NUMBER d.0) (λ number. after_byte 41 number.1 >>= λ rest. Some (o.0.0, number.0, rest)) x d.2 in
    let r = bind_some (after_byte 41 n.0.1) (λ rest. Some (o.0.0, n.0.0, rest)) x n.2 in
    let made : Compare × ℕ × List ℕ = (o.0.0, n.0.0, r.0) in
    let t = number_takes MAX_NUMBER d.0 n.0 (omega arith) (omega arith) n.1 in
    let digits : d.0 ≡ decimal n.0.0 ++ 41 ∷ r.0 = t.0 ∙ ap (λ (s : List ℕ). decimal n.0.0 ++ s) (after_takes 41 n.0.1 r.0 r.1) in
    subst (λ (y : Compare × ℕ × List ℕ). (text ≡ compare_text y.0 ++ 44 ∷ (decimal y.1 ++ 41 ∷ y.2)) × IsNumber y.1) (some_is made x r.2)
    (compare_takes text o.0 o.1 ∙ ap (λ (s : List ℕ). compare_text o.0.0 ++ s) (after_takes 44 o.0.1 d.0 d.1 ∙ ap (λ (s : List ℕ). 44 ∷ s) digits), t.1)

pub number_asked_again : (op : Compare) (n : ℕ) (rest : List ℕ) → IsNumber n → number_asked (compare_text op ++ 44 ∷ (decimal n ++ 41 ∷ rest)) ≡ Some (op, n, rest)
unfolding number_asked
number_asked_again op n rest is =
    ap (λ (o : Option (Compare × List ℕ)). o >>= λ op. after_byte 44 op.1 >>= λ digits. number_at MAX_NUMBER digits >>= λ number. after_byte 41 number.1 >>= λ rest. Some (op.0, number.0, rest)) (compare_again op (44 ∷ (decimal n ++ 41 ∷ rest)))
    ∙ (ap (λ (o : Option (List ℕ)). o >>= λ digits. number_at MAX_NUMBER digits >>= λ number. after_byte 41 number.1 >>= λ rest. Some (op, number.0, rest)) (comma_again (decimal n ++ 41 ∷ rest))
    ∙ (ap (λ (o : Option (ℕ × List ℕ)). o >>= λ number. after_byte 41 number.1 >>= λ rest. Some (op, number.0, rest)) (number_again MAX_NUMBER n (41 ∷ rest) is (omega (arith, is)) refl)
    ∙ ap (λ (o : Option (List ℕ)). o >>= λ rest. Some (op, n, rest)) (close_again rest)))
