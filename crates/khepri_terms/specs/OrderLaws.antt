-- The laws of equality, order and hash, which the impls of the comparing traits cite.
use Rattle.std.proofs.Common.{◌≡◌, ℕ, Bool, true, ◌&&◌, List, [], Decides, nat_eq, ℤ, pos, refl, sym, ap, subst, ◌∙◌, arith, rules, is_eq}
use Rattle.std.specs.Cmp.Rules.{comparing}
use Rattle.std.specs.Cmp.{IsTotalOrder, IsEquivalence}
use Rattle.std.specs.Cmp.Lexicographic.{slice_cmp, pointwise, pointwise_decides, bytes_decides, lists_ties, texts_ties}
use Rattle.std.specs.Ordering.{nat_cmp, int_cmp, int_eq, on, then_cmp, ordering_then}
use Rattle.std.specs.declared.cmp.Ordering.{Ordering}
use Rattle.std.specs.declared.cmp.Ordering.TheVariants.{Less, Equal, Greater}
use Rattle.std.specs.Hash as fed
use Rattle.std.proofs.lemmas.Bool.Decides.{same_from_decides, Decides-int_eq, Decides-and}
use Rattle.std.proofs.lemmas.Cmp.{nat_cmp_total, int_cmp_total, nat_list_cmp_total, on_total, then_total, lists_total}
use Rattle.khepri_terms.specs.declared.name.Kind.{Kind}
use Rattle.khepri_terms.specs.declared.name.Kind.TheVariants as kinds
use Rattle.khepri_terms.specs.Terms.{NameText}
use Rattle.khepri_terms.specs.declared.scalar.Scalar.{Scalar}
use Rattle.khepri_terms.specs.declared.scalar.Scalar.TheVariants as scalars
use Rattle.khepri_terms.specs.declared.rec.Field.{Field}
use Rattle.khepri_terms.specs.Order.{rank, name_key, name_cmp, name_eq, name_fed, path_cmp, path_eq, scalar_cmp, scalar_eq, scalar_fed, field_cmp, field_eq, field_fed, rec_cmp, rec_eq}

-- a test of equality is an equivalence
pub equivalence : {X : Type 0} (E : X → X → Bool) → ((x y : X) → Decides (E x y) (x ≡ y)) → IsEquivalence E
equivalence {X = X} E d = record {
  refl = λ x. (d x x).1 refl;
  symm = λ x y. same_from_decides (E x y) (E y x) (d x y) ((λ e. sym ((d y x).0 e)), (λ e. (d y x).1 (sym e)));
  congr = λ x y z e. ap (λ (w : X). E w z) ((d x y).0 e);
}

-- ---- names and paths

kind_from_rank : (a b : Kind) → rank a ≡ rank b → a ≡ b
kind_from_rank kinds.Atom kinds.Atom e = refl
kind_from_rank kinds.Atom kinds.Text e = absurd (omega arith)
kind_from_rank kinds.Text kinds.Atom e = absurd (omega arith)
kind_from_rank kinds.Text kinds.Text e = refl

pub name_decides : (a b : NameText) → Decides (name_eq a b) (a ≡ b)
name_decides a b =
    let d = bytes_decides (name_key a) (name_key b) in (
      λ e.
          let key : name_key a ≡ name_key b = d.0 e in
          let ranks : rank a.kind ≡ rank b.kind = cc in
          let bytes : a.bytes ≡ b.bytes = cc in
          (λ i. record { kind = kind_from_rank a.kind b.kind ranks i; bytes = bytes i }),
      λ e. d.1 (ap name_key e),
    )

pub name_ties : (a b : NameText) → name_eq a b ≡ is_eq (name_cmp a b)
name_ties a b = texts_ties (name_key a) (name_key b)

pub path_decides : (p q : List NameText) → Decides (path_eq p q) (p ≡ q)
path_decides p q = pointwise_decides {E = name_eq} name_decides p q

pub path_ties : (p q : List NameText) → path_eq p q ≡ is_eq (path_cmp p q)
path_ties p q = lists_ties name_cmp name_ties p q

pub path_feeds : (p q : List NameText) → path_eq p q ≡ true → fed.slice name_fed p ≡ fed.slice name_fed q
path_feeds p q e = ap (fed.slice name_fed) ((path_decides p q).0 e)

-- ---- scalars

-- the order of scalars as one of three parts
scalar_rank : Scalar → ℕ
scalar_rank (scalars.Int z) = 0
scalar_rank (scalars.Text bytes) = 1

scalar_int : Scalar → ℤ
scalar_int (scalars.Int z) = z
scalar_int (scalars.Text bytes) = pos 0

scalar_bytes : Scalar → List ℕ
scalar_bytes (scalars.Int z) = []
scalar_bytes (scalars.Text bytes) = bytes

by_parts : Scalar → Scalar → Ordering
by_parts = then_cmp (on scalar_rank nat_cmp) (then_cmp (on scalar_int int_cmp) (on scalar_bytes (slice_cmp nat_cmp)))

then_equal : (o : Ordering) → ordering_then o Equal ≡ o
then_equal Less = refl
then_equal Equal = refl
then_equal Greater = refl

by_parts_is : (a b : Scalar) → by_parts a b ≡ scalar_cmp a b
unfolding by_parts scalar_rank scalar_int scalar_bytes
by_parts_is (scalars.Int a) (scalars.Int b) = then_equal (int_cmp a b)
by_parts_is (scalars.Int a) (scalars.Text b) = refl
by_parts_is (scalars.Text a) (scalars.Int b) = refl
by_parts_is (scalars.Text a) (scalars.Text b) = refl

by_parts_total : IsTotalOrder by_parts
unfolding by_parts
by_parts_total = then_total (on_total scalar_rank nat_cmp_total) (then_total (on_total scalar_int int_cmp_total) (on_total scalar_bytes nat_list_cmp_total))

pub scalar_total : IsTotalOrder scalar_cmp
scalar_total = let same : by_parts ≡ scalar_cmp = (λ i a b. by_parts_is a b i) in subst IsTotalOrder same by_parts_total

pub scalar_decides : (a b : Scalar) → Decides (scalar_eq a b) (a ≡ b)
scalar_decides (scalars.Int a) (scalars.Int b) = let d = Decides-int_eq a b in (λ e. ap (λ (z : ℤ). scalars.Int z) (d.0 e), λ e. d.1 cc)
scalar_decides (scalars.Int a) (scalars.Text b) = (λ e. absurd cc, λ e. absurd cc)
scalar_decides (scalars.Text a) (scalars.Int b) = (λ e. absurd cc, λ e. absurd cc)
scalar_decides (scalars.Text a) (scalars.Text b) = let d = bytes_decides a b in (λ e. ap (λ (z : List ℕ). scalars.Text z) (d.0 e), λ e. d.1 cc)

pub scalar_equivalence : IsEquivalence scalar_eq
scalar_equivalence = equivalence scalar_eq scalar_decides

int_ties : (a b : ℤ) → int_eq a b ≡ is_eq (int_cmp a b)
int_ties = search (comparing, rules)

pub scalar_ties : (a b : Scalar) → scalar_eq a b ≡ is_eq (scalar_cmp a b)
scalar_ties (scalars.Int a) (scalars.Int b) = int_ties a b
scalar_ties (scalars.Int a) (scalars.Text b) = refl
scalar_ties (scalars.Text a) (scalars.Int b) = refl
scalar_ties (scalars.Text a) (scalars.Text b) = texts_ties a b

pub scalar_feeds : (a b : Scalar) → scalar_eq a b ≡ true → scalar_fed a ≡ scalar_fed b
scalar_feeds a b e = ap scalar_fed ((scalar_decides a b).0 e)

-- ---- fields and records

pub field_decides : (f g : Field) → Decides (field_eq f g) (f ≡ g)
field_decides f g =
    let d = Decides-and (pointwise nat_eq f.key g.key) (scalar_eq f.value g.value) (bytes_decides f.key g.key) (scalar_decides f.value g.value) in
    (λ e. let p = d.0 e in (λ i. record { key = p.0 i; value = p.1 i }), λ e. d.1 (ap (λ (h : Field). h.key) e, ap (λ (h : Field). h.value) e))

pub field_equivalence : IsEquivalence field_eq
field_equivalence = equivalence field_eq field_decides

and_ties : (a b : Bool) (o p : Ordering) → a ≡ is_eq o → b ≡ is_eq p → (a && b) ≡ is_eq (ordering_then o p)
and_ties a b Less p e f = ap (λ (t : Bool). t && b) e
and_ties a b Equal p e f = ap (λ (t : Bool). t && b) e ∙ f
and_ties a b Greater p e f = ap (λ (t : Bool). t && b) e

pub field_ties : (f g : Field) → field_eq f g ≡ is_eq (field_cmp f g)
field_ties f g = and_ties (pointwise nat_eq f.key g.key) (scalar_eq f.value g.value) (slice_cmp nat_cmp f.key g.key) (scalar_cmp f.value g.value) (texts_ties f.key g.key) (scalar_ties f.value g.value)

pub field_total : IsTotalOrder field_cmp
field_total = then_total (on_total (λ f. f.key) nat_list_cmp_total) (on_total (λ f. f.value) scalar_total)

pub field_feeds : (f g : Field) → field_eq f g ≡ true → field_fed f ≡ field_fed g
field_feeds f g e = ap field_fed ((field_decides f g).0 e)

pub rec_decides : (r s : List Field) → Decides (rec_eq r s) (r ≡ s)
rec_decides r s = pointwise_decides {E = field_eq} field_decides r s

pub rec_equivalence : IsEquivalence rec_eq
rec_equivalence = equivalence rec_eq rec_decides

pub rec_ties : (r s : List Field) → rec_eq r s ≡ is_eq (rec_cmp r s)
rec_ties r s = lists_ties field_cmp field_ties r s

pub rec_total : IsTotalOrder rec_cmp
rec_total = lists_total field_total

pub rec_feeds : (r s : List Field) → rec_eq r s ≡ true → fed.slice field_fed r ≡ fed.slice field_fed s
rec_feeds r s e = ap (fed.slice field_fed) ((rec_decides r s).0 e)
