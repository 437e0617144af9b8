-- What is read of names is spelled so, and what is spelled so is read.
use Rattle.std.proofs.Common.{◌≡◌, ℕ, suc, ◌-◌, ◌<◌, ◌≤◌, Bool, true, false, eqb, ◌&&◌, ⊎_elim, List, [], ◌∷◌, ◌++◌, length, drop, refl, sym, ap, subst, ◌∙◌, append_assoc, arith, Option, Some, None}
use Rattle.std.proofs.lemmas.Bool.{eqb-true, cond-true, cond-false, cond_both}
use Rattle.std.proofs.lemmas.List.{append-nil, length-append}
use Rattle.khepri_terms.specs.declared.name.Kind.{Kind}
use Rattle.khepri_terms.specs.declared.name.Kind.TheVariants.{Atom, Text}
use Rattle.khepri_terms.specs.Terms.{NameText}
use Rattle.khepri_terms.specs.Many.{many}
use Rattle.khepri_terms.specs.Bytes.{is_plain, byte_text, bytes_text, byte_at, bytes_at, escape_at, hex_value}
use Rattle.khepri_terms.specs.Names.{is_dots, name_text, IsNameBytes, IsName, mark, comp_text, spells, Stops, dots_at, undotted, name_at, named, comp_at}
use Rattle.khepri_terms.proofs.Cases.{if_some, unless_some, and_true, or_false, some_is}
use Rattle.khepri_terms.proofs.Reading.{ahead, Took, many-end}
use Rattle.khepri_terms.proofs.BytesLaws.{byte_again, bytes_takes, bytes_again}

undotted_takes : (x y : List ℕ × List ℕ) → undotted x ≡ Some y → (x ≡ y) × (is_dots y.0 ≡ false) × (0 < length y.0)
undotted_takes ([], rest) y e = absurd cc
undotted_takes (b ∷ bytes, rest) y e =
    let g = unless_some (is_dots (b ∷ bytes)) (Some (b ∷ bytes, rest)) y e in
    let made : (b ∷ bytes, rest) ≡ y = cc in
    subst (λ (z : List ℕ × List ℕ). ((b ∷ bytes, rest) ≡ z) × (is_dots z.0 ≡ false) × (0 < length z.0)) made (refl, g.0, omega arith)

name_text-other : (bytes : List ℕ) → is_dots bytes ≡ false → name_text bytes ≡ bytes_text bytes
unfolding name_text
name_text-other bytes d = cond-false _ _ _ d

name_text-dots : (bytes : List ℕ) → is_dots bytes ≡ true → name_text bytes ≡ 37 ∷ 50 ∷ 69 ∷ drop 1 bytes
unfolding name_text
name_text-dots bytes d = cond-true _ _ _ d

pub undotted_name : (text : List ℕ) (x : List ℕ × List ℕ) → undotted (bytes_at 255 text) ≡ Some x → (text ≡ name_text x.0 ++ x.1) × IsNameBytes x.0
undotted_name text x e =
    let u = undotted_takes (bytes_at 255 text) x e in
    let t = subst (λ (f : List ℕ × List ℕ). Took byte_text (λ b. b < 256) 255 text f) u.0 (bytes_takes 255 text) in
    (t.parts ∙ ap (λ (s : List ℕ). s ++ x.1) (sym (name_text-other x.0 u.1)), record { low = u.2; high = t.few; bytes = t.all })

pub dots_name : (text : List ℕ) → (37 ∷ 50 ∷ 69 ∷ text ≡ name_text (dots_at text).0 ++ (dots_at text).1) × IsNameBytes (dots_at text).0
unfolding name_text
dots_name [] = (refl, record { low = omega arith; high = omega arith; bytes = (omega arith, tt) })
dots_name (b ∷ text) =
    let P : List ℕ × List ℕ → Type 0 = λ y. (37 ∷ 50 ∷ 69 ∷ b ∷ text ≡ name_text y.0 ++ y.1) × IsNameBytes y.0 in
    elim (eqb b 46) as (λ v. eqb b 46 ≡ v → P (dots_at (b ∷ text))) [
      | true ↦ λ e. subst P (sym (cond-true (eqb b 46) (46 ∷ 46 ∷ [], text) (46 ∷ [], b ∷ text) e)) (ap (λ (n : ℕ). 37 ∷ 50 ∷ 69 ∷ n ∷ text) (eqb-true _ _ e), record { low = omega arith; high = omega arith; bytes = (omega arith, (omega arith, tt)) })
      | false ↦ λ e. subst P (sym (cond-false (eqb b 46) (46 ∷ 46 ∷ [], text) (46 ∷ [], b ∷ text) e)) (refl, record { low = omega arith; high = omega arith; bytes = (omega arith, tt) })
    ] refl

pub name_takes : (text : List ℕ) (x : List ℕ × List ℕ) → name_at text ≡ Some x → (text ≡ name_text x.0 ++ x.1) × IsNameBytes x.0
unfolding name_at
name_takes [] x e = undotted_name [] x e
name_takes (a ∷ []) x e = undotted_name (a ∷ []) x e
name_takes (a ∷ b ∷ []) x e = undotted_name (a ∷ b ∷ []) x e
name_takes (a ∷ b ∷ c ∷ text) x e =
    ⊎_elim
    (λ (p : ((eqb a 37 && eqb b 50 && eqb c 69) ≡ true) × (Some (dots_at text) ≡ Some x)).
    let ab = and_true (eqb a 37 && eqb b 50) (eqb c 69) p.0 in
    let a-b = and_true (eqb a 37) (eqb b 50) ab.0 in
    let made : dots_at text ≡ x = cc in
    let whole : a ∷ b ∷ c ∷ text ≡ 37 ∷ 50 ∷ 69 ∷ text = (λ i. eqb-true a 37 a-b.0 i ∷ eqb-true b 50 a-b.1 i ∷ eqb-true c 69 ab.1 i ∷ text) in
    let d = dots_name text in
    subst (λ (y : List ℕ × List ℕ). (a ∷ b ∷ c ∷ text ≡ name_text y.0 ++ y.1) × IsNameBytes y.0) made (whole ∙ d.0, d.1))
    (λ (p : ((eqb a 37 && eqb b 50 && eqb c 69) ≡ false) × (undotted (bytes_at 255 (a ∷ b ∷ c ∷ text)) ≡ Some x)). undotted_name (a ∷ b ∷ c ∷ text) x p.1)
    (if_some (eqb a 37 && eqb b 50 && eqb c 69) (Some (dots_at text)) (undotted (bytes_at 255 (a ∷ b ∷ c ∷ text))) x e)

-- the text begins with `%2E`
abbrev pub begins_dot : List ℕ → Bool
begins_dot [] = false
begins_dot (a ∷ []) = false
begins_dot (a ∷ b ∷ []) = false
begins_dot (a ∷ b ∷ c ∷ text) = eqb a 37 && eqb b 50 && eqb c 69

pub first_no_dot : (b : ℕ) (text : List ℕ) → eqb b 37 ≡ false → begins_dot (b ∷ text) ≡ false
first_no_dot b [] e = refl
first_no_dot b (c ∷ []) e = refl
first_no_dot b (c ∷ d ∷ text) e = rw e refl

pub name_at-other : (text : List ℕ) → begins_dot text ≡ false → name_at text ≡ undotted (bytes_at 255 text)
unfolding name_at
name_at-other [] d = refl
name_at-other (a ∷ []) d = refl
name_at-other (a ∷ b ∷ []) d = refl
name_at-other (a ∷ b ∷ c ∷ text) d = cond-false _ _ _ d

-- an escaped dot is no byte
dot_is_none : (text : List ℕ) → byte_at (37 ∷ 50 ∷ 69 ∷ text) ≡ None
unfolding byte_at escape_at hex_value is_plain
dot_is_none text = refl

pub begins_no_dot : (text : List ℕ) (x : ℕ × List ℕ) → byte_at text ≡ Some x → begins_dot text ≡ false
begins_no_dot [] x e = refl
begins_no_dot (a ∷ []) x e = refl
begins_no_dot (a ∷ b ∷ []) x e = refl
begins_no_dot (a ∷ b ∷ c ∷ text) x e =
    elim (eqb a 37 && eqb b 50 && eqb c 69) as (λ v. (eqb a 37 && eqb b 50 && eqb c 69) ≡ v → v ≡ false) [
      | true ↦ λ p.
          let ab = and_true (eqb a 37 && eqb b 50) (eqb c 69) p in
          let a-b = and_true (eqb a 37) (eqb b 50) ab.0 in
          let whole : a ∷ b ∷ c ∷ text ≡ 37 ∷ 50 ∷ 69 ∷ text = (λ i. eqb-true a 37 a-b.0 i ∷ eqb-true b 50 a-b.1 i ∷ eqb-true c 69 ab.1 i ∷ text) in
          let none : byte_at (a ∷ b ∷ c ∷ text) ≡ None = ap byte_at whole ∙ dot_is_none text in
          absurd cc
      | false ↦ λ p. refl
    ] refl

-- no byte is spelled where bytes have stopped
pub stops_none : (rest : List ℕ) → Stops rest → byte_at rest ≡ None
unfolding byte_at
stops_none [] s = refl
stops_none (b ∷ rest) s =
    let p = or_false (is_plain b) (eqb b 37) s in
    rw (p.0, p.1) refl

bytes_first : (bytes rest : List ℕ) → IsNameBytes bytes → (x : ℕ × List ℕ) × (byte_at (bytes_text bytes ++ rest) ≡ Some x)
bytes_first [] rest is = absurd (omega (arith, is.low))
bytes_first (b ∷ bytes) rest is =
    ((b, bytes_text bytes ++ rest), ap byte_at (append_assoc (byte_text b) (bytes_text bytes) rest) ∙ byte_again b (bytes_text bytes ++ rest) is.bytes.0)

undotted_again : (bytes rest : List ℕ) → 0 < length bytes → is_dots bytes ≡ false → undotted (bytes, rest) ≡ Some (bytes, rest)
undotted_again [] rest low d = absurd (omega arith)
undotted_again (b ∷ bytes) rest low d = cond-false _ _ _ d

-- bytes of a name that stand as they are, and more bytes behind them
pub undotted_more : (bytes rest : List ℕ) → IsNameBytes bytes → is_dots bytes ≡ false → name_at (name_text bytes ++ rest) ≡ undotted (ahead bytes (bytes_at (255 - length bytes) rest))
undotted_more bytes rest is d =
    let text : List ℕ = bytes_text bytes ++ rest in
    let first = bytes_first bytes rest is in
    let high : length bytes ≤ 255 = is.high in
    ap (λ (s : List ℕ). name_at (s ++ rest)) (name_text-other bytes d)
    ∙ (name_at-other text (begins_no_dot text first.0 first.1) ∙ ap undotted (bytes_again bytes 255 (255 - length bytes) rest is.bytes (omega arith)))

not_dot : (b : ℕ) → spells b ≡ false → eqb b 46 ≡ false
unfolding is_plain
not_dot b s = elim (eqb b 46) as (λ v. eqb b 46 ≡ v → v ≡ false) [
  | true ↦ λ e. let whole : spells b ≡ true = ap spells (eqb-true b 46 e) in absurd cc
  | false ↦ λ e. refl
] refl

dots_end : (rest : List ℕ) → Stops rest → dots_at rest ≡ (46 ∷ [], rest)
dots_end [] s = refl
dots_end (b ∷ rest) s = cond-false _ _ _ (not_dot b s)

dotted_again : (bytes rest : List ℕ) → is_dots bytes ≡ true → Stops rest → dots_at (drop 1 bytes ++ rest) ≡ (bytes, rest)
dotted_again [] rest d s = absurd cc
dotted_again (a ∷ []) rest d s = dots_end rest s ∙ ap (λ (n : ℕ). (n ∷ [], rest)) (sym (eqb-true a 46 d))
dotted_again (a ∷ b ∷ []) rest d s =
    let ab = and_true (eqb a 46) (eqb b 46) d in
    let same : (a ∷ b ∷ [], rest) ≡ (46 ∷ 46 ∷ [], rest) = (λ i. (eqb-true a 46 ab.0 i ∷ eqb-true b 46 ab.1 i ∷ [], rest)) in
    cond-true _ _ _ ab.1 ∙ sym same
dotted_again (a ∷ b ∷ c ∷ bytes) rest d s = absurd cc

dots_are : (text : List ℕ) → name_at (37 ∷ 50 ∷ 69 ∷ text) ≡ Some (dots_at text)
unfolding name_at
dots_are text = refl

pub name_again : (bytes rest : List ℕ) → IsNameBytes bytes → Stops rest → name_at (name_text bytes ++ rest) ≡ Some (bytes, rest)
name_again bytes rest is s =
    elim (is_dots bytes) as (λ v. is_dots bytes ≡ v → name_at (name_text bytes ++ rest) ≡ Some (bytes, rest)) [
      | true ↦ λ d. ap (λ (t : List ℕ). name_at (t ++ rest)) (name_text-dots bytes d) ∙ (dots_are (drop 1 bytes ++ rest) ∙ ap (λ (f : List ℕ × List ℕ). Some f) (dotted_again bytes rest d s))
      | false ↦ λ d.
          undotted_more bytes rest is d
          ∙ (ap (λ (f : List ℕ × List ℕ). undotted (ahead bytes f)) (many-end byte_at (255 - length bytes) rest (stops_none rest s))
          ∙ (ap (λ (t : List ℕ). undotted (t, rest)) (append-nil bytes) ∙ undotted_again bytes rest is.low d))
    ] refl

-- ---- names of either kind

named_takes : (kind : Kind) (o : Option (List ℕ × List ℕ)) (x : NameText × List ℕ) → named kind o ≡ Some x → (y : List ℕ × List ℕ) × (o ≡ Some y) × ((record { kind = kind; bytes = y.0 }, y.1) ≡ x)
named_takes kind None x e = absurd cc
named_takes kind (Some y) x e = (y, refl, some_is (record { kind = kind; bytes = y.0 }, y.1) x e)

pub comp_takes : (text : List ℕ) (x : NameText × List ℕ) → comp_at text ≡ Some x → (text ≡ comp_text x.0 ++ x.1) × IsName x.0
unfolding comp_at
comp_takes [] x e = absurd cc
comp_takes (b ∷ text) x e =
    ⊎_elim
    (λ (p : (eqb b 58 ≡ true) × (named Atom (name_at text) ≡ Some x)).
    let n = named_takes Atom (name_at text) x p.1 in
    let t = name_takes text n.0 n.1 in
    subst (λ (y : NameText × List ℕ). (b ∷ text ≡ comp_text y.0 ++ y.1) × IsName y.0) n.2 ((λ i. eqb-true b 58 p.0 i ∷ t.0 i), t.1))
    (λ (p : (eqb b 58 ≡ false) × (named Text (name_at (b ∷ text)) ≡ Some x)).
    let n = named_takes Text (name_at (b ∷ text)) x p.1 in
    let t = name_takes (b ∷ text) n.0 n.1 in
    subst (λ (y : NameText × List ℕ). (b ∷ text ≡ comp_text y.0 ++ y.1) × IsName y.0) n.2 t)
    (if_some (eqb b 58) (named Atom (name_at text)) (named Text (name_at (b ∷ text))) x e)

colon_is_none : (text : List ℕ) → byte_at (58 ∷ text) ≡ None
unfolding byte_at is_plain
colon_is_none text = refl

no_colon : (b : ℕ) (text : List ℕ) (x : List ℕ × List ℕ) → name_at (b ∷ text) ≡ Some x → eqb b 58 ≡ false
no_colon b text x e =
    elim (eqb b 58) as (λ v. eqb b 58 ≡ v → v ≡ false) [
      | true ↦ λ p.
          let none : byte_at (b ∷ text) ≡ None = ap (λ (n : ℕ). byte_at (n ∷ text)) (eqb-true b 58 p) ∙ colon_is_none text in
          let d : begins_dot (b ∷ text) ≡ false = first_no_dot b text (ap (λ (n : ℕ). eqb n 37) (eqb-true b 58 p)) in
          let is : name_at (b ∷ text) ≡ None = name_at-other (b ∷ text) d ∙ ap undotted (many-end byte_at 255 (b ∷ text) none) in
          absurd cc
      | false ↦ λ p. refl
    ] refl

pub nothing_named : name_at [] ≡ None
unfolding name_at many
nothing_named = ap undotted (many-end byte_at 255 [] (stops_none [] tt))

text_is_comp : (text : List ℕ) (x : List ℕ × List ℕ) → name_at text ≡ Some x → comp_at text ≡ named Text (name_at text)
unfolding comp_at
text_is_comp [] x e = let n = nothing_named in absurd cc
text_is_comp (b ∷ text) x e = cond-false _ _ _ (no_colon b text x e)

colon_is_comp : (text : List ℕ) → comp_at (58 ∷ text) ≡ named Atom (name_at text)
unfolding comp_at
colon_is_comp text = refl

-- a name that is read behind its mark
pub comp_is : (kind : Kind) (text : List ℕ) (x : List ℕ × List ℕ) → name_at text ≡ Some x → comp_at (mark kind ++ text) ≡ Some (record { kind = kind; bytes = x.0 }, x.1)
comp_is Atom text x e = colon_is_comp text ∙ ap (named Atom) e
comp_is Text text x e = text_is_comp text x e ∙ ap (named Text) e

pub comp_again : (n : NameText) (rest : List ℕ) → IsName n → Stops rest → comp_at (comp_text n ++ rest) ≡ Some (n, rest)
comp_again n rest is s =
    ap comp_at (append_assoc (mark n.kind) (name_text n.bytes) rest) ∙ comp_is n.kind (name_text n.bytes ++ rest) (n.bytes, rest) (name_again n.bytes rest is s)

-- ---- more may be read than was spelled

dots_within : (rest : List ℕ) → length (dots_at rest).1 ≤ length rest
dots_within [] = omega arith
dots_within (b ∷ rest) = cond_both (eqb b 46) (46 ∷ 46 ∷ [], rest) (46 ∷ [], b ∷ rest) (λ (y : List ℕ × List ℕ). length y.1 ≤ suc (length rest)) (λ _. omega arith) (λ _. omega arith)

dotted_within : (bytes rest : List ℕ) → is_dots bytes ≡ true → length (dots_at (drop 1 bytes ++ rest)).1 ≤ length rest
dotted_within [] rest d = absurd cc
dotted_within (a ∷ []) rest d = dots_within rest
dotted_within (a ∷ b ∷ []) rest d =
    let ab = and_true (eqb a 46) (eqb b 46) d in
    let is : dots_at (b ∷ rest) ≡ (46 ∷ 46 ∷ [], rest) = cond-true _ _ _ ab.1 in
    rw is (omega arith)
dotted_within (a ∷ b ∷ c ∷ bytes) rest d = absurd cc

dots_more : (bytes more : List ℕ) → 0 < length bytes → is_dots bytes ≡ false → is_dots (bytes ++ more) ≡ false
dots_more [] more low d = absurd (omega arith)
dots_more (a ∷ []) [] low d = d
dots_more (a ∷ []) (b ∷ []) low d = ap (λ (t : Bool). t && eqb b 46) d
dots_more (a ∷ []) (b ∷ c ∷ more) low d = refl
dots_more (a ∷ b ∷ []) [] low d = d
dots_more (a ∷ b ∷ []) (c ∷ more) low d = refl
dots_more (a ∷ b ∷ c ∷ bytes) more low d = refl

-- a name is read, and no more is left than stood behind it
pub name_more : (bytes rest : List ℕ) → IsNameBytes bytes → (x : List ℕ × List ℕ) × (name_at (name_text bytes ++ rest) ≡ Some x) × (length x.1 ≤ length rest)
name_more bytes rest is =
    elim (is_dots bytes) as (λ v. is_dots bytes ≡ v → (x : List ℕ × List ℕ) × (name_at (name_text bytes ++ rest) ≡ Some x) × (length x.1 ≤ length rest)) [
      | true ↦ λ d. (dots_at (drop 1 bytes ++ rest), ap (λ (t : List ℕ). name_at (t ++ rest)) (name_text-dots bytes d) ∙ dots_are (drop 1 bytes ++ rest), dotted_within bytes rest d)
      | false ↦ λ d.
          let f = bytes_at (255 - length bytes) rest in
          let t = bytes_takes (255 - length bytes) rest in
          let low : 0 < length (bytes ++ f.0) = omega (arith, is.low, length-append bytes f.0) in
          ((bytes ++ f.0, f.1), undotted_more bytes rest is d ∙ undotted_again (bytes ++ f.0) f.1 low (dots_more bytes f.0 is.low d), omega (arith, ap length t.parts, length-append (bytes_text f.0) f.1))
    ] refl

pub comp_more : (n : NameText) (rest : List ℕ) → IsName n → (x : NameText × List ℕ) × (comp_at (comp_text n ++ rest) ≡ Some x) × (length x.1 ≤ length rest)
comp_more n rest is =
    let m = name_more n.bytes rest is in
    ((record { kind = n.kind; bytes = m.0.0 }, m.0.1), ap comp_at (append_assoc (mark n.kind) (name_text n.bytes) rest) ∙ comp_is n.kind (name_text n.bytes ++ rest) m.0 m.1, m.2)
