-- What parts take of one name more.
use Rattle.std.proofs.Common.{◌≡◌, Bool, true, false, ◌&&◌, ◌||◌, List, [], ◌∷◌, ◌++◌, refl, ap, ◌∙◌, append_assoc}
use Rattle.khepri_terms.specs.Terms.{NameText}
use Rattle.khepri_types.specs.declared.pattern.PatternPart.{PatternPart}
use Rattle.khepri_types.specs.Tree.{Tree}
use Rattle.khepri_types.specs.Patterns.{takes_name, is_many, takes}

pub takes_end : (T : Tree) (q names : List NameText) (n : NameText) → takes T q [] (names ++ n ∷ []) ≡ false
unfolding takes
takes_end T q [] n = refl
takes_end T q (m ∷ names) n = refl

takes_none : (T : Tree) (q : List NameText) (parts : List PatternPart) (P : PatternPart) → takes T q (parts ++ P ∷ []) [] ≡ false
unfolding takes
takes_none T q [] P = refl
takes_none T q (Q ∷ parts) P = refl

nothing : (a b c d x : Bool) → x ≡ false → (a && (x || (b && false))) ≡ (c && (false || (d && false)))
nothing a b c d true e = absurd cc
nothing true true true true false e = refl
nothing true true true false false e = refl
nothing true true false d false e = refl
nothing true false true true false e = refl
nothing true false true false false e = refl
nothing true false false d false e = refl
nothing false b true true false e = refl
nothing false b true false false e = refl
nothing false b false d false e = refl

alone : (a t d u x : Bool) → x ≡ false → (a && (x || (d && (t && u)))) ≡ (t && (false || (d && (a && u))))
alone a t d u true e = absurd cc
alone true true true u false e = refl
alone true true false u false e = refl
alone true false true u false e = refl
alone true false false u false e = refl
alone false true true u false e = refl
alone false true false u false e = refl
alone false false d u false e = refl

mixed : (a t d e x y u v : Bool) → (a && ((t && (x || (d && u))) || (e && (t && (y || (d && v)))))) ≡ (t && ((a && (x || (e && y))) || (d && (a && (u || (e && v))))))
mixed false true true e x y u v = refl
mixed false true false e x y u v = refl
mixed false false d e x y u v = refl
mixed true false d true x y u v = refl
mixed true false d false x y u v = refl
mixed true true d e true y u v = refl
mixed true true true true false true true v = refl
mixed true true true true false false true v = refl
mixed true true true false false y true v = refl
mixed true true true true false y false v = refl
mixed true true true false false y false v = refl
mixed true true false true false y u v = refl
mixed true true false false false y u v = refl

-- one part more and one name more: the part takes the name behind what the others took, or `**` goes on
pub takes_more : (T : Tree) (q : List NameText) (parts : List PatternPart) (P : PatternPart) (names : List NameText) (n : NameText)
    → takes T q (parts ++ P ∷ []) (names ++ n ∷ []) ≡ (takes_name T (q ++ (names ++ n ∷ [])) n P && (takes T q parts names || (is_many P && takes T q (parts ++ P ∷ []) names)))
unfolding takes
takes_more T q [] P [] n = refl
takes_more T q (Q ∷ parts) P [] n = nothing (takes_name T (q ++ n ∷ []) n Q) (is_many Q) (takes_name T (q ++ n ∷ []) n P) (is_many P) (takes T (q ++ n ∷ []) (parts ++ P ∷ []) []) (takes_none T (q ++ n ∷ []) parts P)
takes_more T q [] P (m ∷ names) n =
    let r : List NameText = q ++ m ∷ [] in
    let one : Bool = takes_name T r m P in
    let later = takes_more T r [] P names n in
    let place : takes_name T (r ++ (names ++ n ∷ [])) n P ≡ takes_name T (q ++ (m ∷ (names ++ n ∷ []))) n P = ap (λ (w : List NameText). takes_name T w n P) (append_assoc q (m ∷ []) (names ++ n ∷ [])) in
    let u : Bool = takes T r [] names || (is_many P && takes T r (P ∷ []) names) in
    ap (λ (t : Bool). one && (takes T r [] (names ++ n ∷ []) || (is_many P && t))) (later ∙ ap (λ (t : Bool). t && u) place)
    ∙ alone one (takes_name T (q ++ (m ∷ (names ++ n ∷ []))) n P) (is_many P) u (takes T r [] (names ++ n ∷ [])) (takes_end T r names n)
takes_more T q (Q ∷ parts) P (m ∷ names) n =
    let r : List NameText = q ++ m ∷ [] in
    let one : Bool = takes_name T r m Q in
    let t : Bool = takes_name T (q ++ (m ∷ (names ++ n ∷ []))) n P in
    let place : takes_name T (r ++ (names ++ n ∷ [])) n P ≡ t = ap (λ (w : List NameText). takes_name T w n P) (append_assoc q (m ∷ []) (names ++ n ∷ [])) in
    let x : Bool = takes T r parts names in
    let y : Bool = takes T r (Q ∷ parts) names in
    let u : Bool = takes T r (parts ++ P ∷ []) names in
    let v : Bool = takes T r (Q ∷ (parts ++ P ∷ [])) names in
    let others : takes T r (parts ++ P ∷ []) (names ++ n ∷ []) ≡ (t && (x || (is_many P && u))) = takes_more T r parts P names n ∙ ap (λ (b : Bool). b && (x || (is_many P && u))) place in
    let again : takes T r (Q ∷ (parts ++ P ∷ [])) (names ++ n ∷ []) ≡ (t && (y || (is_many P && v))) = takes_more T r (Q ∷ parts) P names n ∙ ap (λ (b : Bool). b && (y || (is_many P && v))) place in
    (λ i. one && (others i || (is_many Q && again i))) ∙ mixed one t (is_many P) (is_many Q) x y u v
