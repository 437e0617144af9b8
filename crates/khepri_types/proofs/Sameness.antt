-- The test of equality of scripts is right, and so is that of their texts.
use Rattle.std.proofs.Common.{◌≡◌, ◌↔◌, ℕ, Bool, true, false, ◌&&◌, nat_eq, List, [], ◌++◌, refl, sym, ap, ◌∙◌, Some}
use Rattle.std.specs.Prelude.{IsTrue}
use Rattle.std.specs.Cmp.Lexicographic.{pointwise, same_text, bytes_decides}
use Rattle.std.proofs.lemmas.Bool.{eqb-true, eq-eqb}
use Rattle.std.proofs.lemmas.Bool.Decides.{same_from_decides}
use Rattle.std.proofs.lemmas.List.{append-nil}
use base.Stored.{Gv, gnil, gnum, gcons}
use Rattle.khepri_terms.proofs.Cases.{and_true, some_is}
use Rattle.khepri_types.specs.declared.script.Statement.{Statement}
use Rattle.khepri_types.specs.ReadingScripts.{script_at}
use Rattle.khepri_types.specs.SameScripts.{script_codes, same_code, same_script}
use Rattle.khepri_types.specs.ScriptTexts.{script_text, IsScript}
use Rattle.khepri_types.proofs.ScriptSpelling.{script_again}

code_is : (x y : Gv) → same_code x y ≡ true → x ≡ y
code_is gnil gnil e = refl
code_is gnil (gnum m) e = absurd cc
code_is gnil (gcons c d) e = absurd cc
code_is (gnum n) gnil e = absurd cc
code_is (gnum n) (gnum m) e = ap gnum (eqb-true n m e)
code_is (gnum n) (gcons c d) e = absurd cc
code_is (gcons a b) gnil e = absurd cc
code_is (gcons a b) (gnum m) e = absurd cc
code_is (gcons a b) (gcons c d) e =
    let both = and_true (same_code a c) (same_code b d) e in
    λ i. gcons (code_is a c both.0 i) (code_is b d both.1 i)

code_itself : (x : Gv) → same_code x x ≡ true
code_itself gnil = refl
code_itself (gnum n) = eq-eqb n n refl
code_itself (gcons a b) = λ i. code_itself a i && code_itself b i

pub script_decides : (s t : List Statement) → IsTrue (same_script s t) ↔ (s ≡ t)
unfolding same_script
script_decides s t = (
  λ e. script_codes.inj s t (code_is (script_codes.code s) (script_codes.code t) e),
  λ e. ap (λ (u : List Statement). same_code (script_codes.code s) (script_codes.code u)) (sym e) ∙ code_itself (script_codes.code s),
)

-- scripts of one text are one
text_once : (s t : List Statement) → IsScript s → IsScript t → script_text s ≡ script_text t → s ≡ t
text_once s t is-s is-t e =
    let read : Some (s, []) ≡ Some (t, []) = sym (script_again s [] is-s) ∙ (ap (λ (u : List ℕ). script_at (u ++ [])) e ∙ script_again t [] is-t) in
    ap (λ (x : List Statement × List ℕ). x.0) (some_is (s, []) (t, []) read)

pub texts_decide : (s t : List Statement) → IsScript s → IsScript t → pointwise nat_eq (script_text s) (script_text t) ≡ same_script s t
texts_decide s t is-s is-t =
    let d = script_decides s t in
    let b = bytes_decides (script_text s) (script_text t) in
    same_from_decides (pointwise nat_eq (script_text s) (script_text t)) (same_script s t) b (
      λ e. ap script_text (d.0 e),
      λ e. d.1 (text_once s t is-s is-t e),
    )
