-- What is read of listed nodes is spelled so, and what is spelled so is read.
use Rattle.std.proofs.Common.{◌≡◌, ℕ, ◌-◌, ◌≤◌, List, [], ◌∷◌, ◌++◌, length, refl, sym, ap, subst, ◌∙◌, append_assoc, arith, Option, Some, None, codes, decimal}
use Rattle.std.specs.List.{flat_map, AllByRecursion}
use Rattle.std.proofs.lemmas.List.{append-nil, length-append}
use Rattle.khepri_terms.specs.Terms.{NameText}
use Rattle.khepri_terms.specs.Bytes.{is_plain}
use Rattle.khepri_terms.specs.Many.{many, ◌>>=◌}
use Rattle.khepri_terms.specs.Numbers.{number_at}
use Rattle.khepri_terms.specs.Paths.{path_text, path_at, IsPath}
use Rattle.khepri_terms.proofs.Cases.{bind_some, some_is}
use Rattle.khepri_terms.proofs.NumbersLaws.{Halts, number_takes, number_again}
use Rattle.khepri_terms.proofs.PathsLaws.{path_takes, path_again}
use Rattle.khepri_terms.proofs.Reading.{Took, ahead, many-end, many_takes, many_again}
use Rattle.khepri_types.specs.declared.limits.TheConstants.{MAX_NUMBER}
use Rattle.khepri_types.specs.declared.node.Payload.{Payload}
use Rattle.khepri_types.specs.declared.reply.Reply.{Reply}
use Rattle.khepri_types.specs.declared.reply.Reply.TheVariants as reply
use Rattle.khepri_types.specs.declared.shown.ShownNode.{ShownNode}
use Rattle.khepri_types.specs.Reading.{payload_at}
use Rattle.khepri_types.specs.ReadingConditions.{after_byte}
use Rattle.khepri_types.specs.ReadingNumbers.{three_before}
use Rattle.khepri_types.specs.ReadingOut.{shown_content, shown_at, whole_nodes, nodes_at}
use Rattle.khepri_types.specs.Spelled.{IsNumber, IsShownNode, IsReply}
use Rattle.khepri_types.specs.Texts.{payload_text, shown_text, reply_text}
use Rattle.khepri_types.proofs.NumberSpelling.{joined, three_takes, three_again}
use Rattle.khepri_types.proofs.PayloadSpelling.{payload_takes, payload_again}
use Rattle.khepri_types.proofs.Word.{after_byte-takes}

-- the text is the spelling of this reply
abbrev pub SpellsReply : List ℕ → Reply → Type 0
SpellsReply text x = (text ≡ reply_text x) × IsReply x

-- ---- one node

shown_parts : (s : ShownNode) (rest : List ℕ)
    → shown_text s ++ rest ≡ 32 ∷ (path_text s.path ++ 32 ∷ (decimal s.pv ++ 32 ∷ (decimal s.cv ++ 32 ∷ (decimal s.kids ++ 32 ∷ (payload_text s.payload ++ rest)))))
unfolding shown_text
shown_parts s rest =
    append_assoc (32 ∷ path_text s.path ++ 32 ∷ decimal s.pv ++ 32 ∷ decimal s.cv ++ 32 ∷ decimal s.kids) (32 ∷ payload_text s.payload) rest
    ∙ (append_assoc (32 ∷ path_text s.path ++ 32 ∷ decimal s.pv ++ 32 ∷ decimal s.cv) (32 ∷ decimal s.kids) (32 ∷ (payload_text s.payload ++ rest))
    ∙ joined (32 ∷ path_text s.path) (32 ∷ decimal s.pv) (32 ∷ decimal s.cv) (32 ∷ (decimal s.kids ++ 32 ∷ (payload_text s.payload ++ rest))))

-- the readings, from each place on
abbrev from_payload : List NameText → ℕ → ℕ → ℕ → List ℕ → Option (ShownNode × List ℕ)
from_payload p pv cv kids text = payload_at text >>= λ y. Some (record { path = p; pv = pv; cv = cv; kids = kids; payload = y.0 }, y.1)

abbrev from_path : List ℕ → Option (ShownNode × List ℕ)
from_path text = path_at text >>= λ p. after_byte 32 p.1 >>= λ t. shown_content p.0 t

abbrev SpellsShown : List ℕ → ShownNode × List ℕ → Type 0
SpellsShown text x = (text ≡ shown_text x.0 ++ x.1) × IsShownNode x.0

shown_takes : (text : List ℕ) (x : ShownNode × List ℕ) → shown_at text ≡ Some x → SpellsShown text x
unfolding shown_at shown_content
shown_takes text x e =
    let a = bind_some (after_byte 32 text) from_path x e in
    let b = bind_some (path_at a.0) (λ p. after_byte 32 p.1 >>= λ t. shown_content p.0 t) x a.2 in
    let c = bind_some (after_byte 32 b.0.1) (shown_content b.0.0) x b.2 in
    let n = bind_some (three_before c.0) (λ n. from_payload b.0.0 n.0 n.1 n.2 n.3) x c.2 in
    let y = bind_some (payload_at n.0.3) (λ y. Some (record { path = b.0.0; pv = n.0.0; cv = n.0.1; kids = n.0.2; payload = y.0 }, y.1)) x n.2 in
    let node : ShownNode = record { path = b.0.0; pv = n.0.0; cv = n.0.1; kids = n.0.2; payload = y.0.0 } in
    let path = path_takes a.0 b.0 b.1 in
    let numbers = three_takes c.0 n.0 n.1 in
    let payload = payload_takes n.0.3 y.0 y.1 in
    let content : c.0 ≡ decimal n.0.0 ++ 32 ∷ (decimal n.0.1 ++ 32 ∷ (decimal n.0.2 ++ 32 ∷ (payload_text y.0.0 ++ y.0.1))) =
    numbers.0 ∙ ap (λ (t : List ℕ). decimal n.0.0 ++ 32 ∷ (decimal n.0.1 ++ 32 ∷ (decimal n.0.2 ++ 32 ∷ t))) payload.0 in
    let whole : a.0 ≡ path_text b.0.0 ++ 32 ∷ (decimal n.0.0 ++ 32 ∷ (decimal n.0.1 ++ 32 ∷ (decimal n.0.2 ++ 32 ∷ (payload_text y.0.0 ++ y.0.1)))) =
    path.0 ∙ ap (λ (t : List ℕ). path_text b.0.0 ++ t) (after_byte-takes 32 b.0.1 c.0 c.1 ∙ ap (λ (t : List ℕ). 32 ∷ t) content) in
    subst (SpellsShown text) (some_is (node, y.0.1) x y.2)
    (after_byte-takes 32 text a.0 a.1 ∙ (ap (λ (t : List ℕ). 32 ∷ t) whole ∙ sym (shown_parts node y.0.1)), record { path = path.1; pv = numbers.1.0; cv = numbers.1.1; kids = numbers.1.2; payload = payload.1 })

behind_space : (text : List ℕ) → shown_at (32 ∷ text) ≡ from_path text
unfolding shown_at after_byte
behind_space text = refl

behind_path : (p : List NameText) (text : List ℕ) → IsPath p → from_path (path_text p ++ 32 ∷ text) ≡ shown_content p text
unfolding is_plain after_byte
behind_path p text is = ap (λ (o : Option (List NameText × List ℕ)). o >>= λ q. after_byte 32 q.1 >>= λ t. shown_content q.0 t) (path_again p (32 ∷ text) is refl)

content_again : (s : ShownNode) (rest : List ℕ) → IsShownNode s → shown_content s.path (decimal s.pv ++ 32 ∷ (decimal s.cv ++ 32 ∷ (decimal s.kids ++ 32 ∷ (payload_text s.payload ++ rest)))) ≡ Some (s, rest)
unfolding shown_content
content_again s rest is =
    ap (λ (o : Option (ℕ × ℕ × ℕ × List ℕ)). o >>= λ n. from_payload s.path n.0 n.1 n.2 n.3) (three_again s.pv s.cv s.kids (payload_text s.payload ++ rest) is.pv is.cv is.kids)
    ∙ ap (λ (o : Option (Payload × List ℕ)). o >>= λ y. Some (record { path = s.path; pv = s.pv; cv = s.cv; kids = s.kids; payload = y.0 }, y.1)) (payload_again s.payload rest is.payload)

shown_again : (s : ShownNode) (rest : List ℕ) → IsShownNode s → shown_at (shown_text s ++ rest) ≡ Some (s, rest)
shown_again s rest is =
    let content : List ℕ = decimal s.pv ++ 32 ∷ (decimal s.cv ++ 32 ∷ (decimal s.kids ++ 32 ∷ (payload_text s.payload ++ rest))) in
    ap shown_at (shown_parts s rest) ∙ (behind_space (path_text s.path ++ 32 ∷ content) ∙ (behind_path s.path content is.path ∙ content_again s rest is))

-- ---- all nodes

whole_is : (m : ℕ) (text : List ℕ) (n : ℕ) (found : List ShownNode × List ℕ) (x : Reply) → IsNumber m → Took shown_text IsShownNode n text found → whole_nodes m found ≡ Some x → SpellsReply (codes "nodes " ++ (decimal m ++ text)) x
unfolding reply_text
whole_is m text n (nodes, []) x is took e =
    subst (SpellsReply (codes "nodes " ++ (decimal m ++ text))) (some_is (reply.Nodes m nodes) x e)
    (ap (λ (t : List ℕ). codes "nodes " ++ (decimal m ++ t)) (took.parts ∙ append-nil (flat_map shown_text nodes)), (is, took.all))
whole_is m text n (nodes, b ∷ rest) x is took e = absurd cc

pub nodes_takes : (text : List ℕ) (x : Reply) → nodes_at text ≡ Some x → SpellsReply (codes "nodes " ++ text) x
unfolding nodes_at
nodes_takes text x e =
    let a = bind_some (number_at MAX_NUMBER text) (λ m. whole_nodes m.0 (many shown_at (length m.1) m.1)) x e in
    let t = number_takes MAX_NUMBER text a.0 (omega arith) (omega arith) a.1 in
    subst (λ (u : List ℕ). SpellsReply (codes "nodes " ++ u) x) (sym t.0)
    (whole_is a.0.0 a.0.1 (length a.0.1) (many shown_at (length a.0.1) a.0.1) x t.1 (many_takes shown_at shown_text IsShownNode shown_takes (length a.0.1) a.0.1) a.2)

abbrev Any : List ℕ → Type 0
Any rest = Unit {0}

no_node : shown_at [] ≡ None
unfolding shown_at after_byte
no_node = refl

begun : (s : ShownNode) (rest : List ℕ) → Halts (shown_text s ++ rest)
unfolding shown_text
begun s rest = refl

halts : (nodes : List ShownNode) → Halts (flat_map shown_text nodes)
halts [] = tt
halts (s ∷ nodes) = begun s (flat_map shown_text nodes)

some_text : (s : ShownNode) → 1 ≤ length (shown_text s)
unfolding shown_text
some_text s = omega arith

long_enough : (nodes : List ShownNode) → length nodes ≤ length (flat_map shown_text nodes)
long_enough [] = omega arith
long_enough (s ∷ nodes) = omega (arith, long_enough nodes, some_text s, length-append (shown_text s) (flat_map shown_text nodes))

all_again : (nodes : List ShownNode) (m : ℕ) → length nodes ≤ m → AllByRecursion IsShownNode nodes → many shown_at m (flat_map shown_text nodes) ≡ (nodes, [])
all_again nodes m few all =
    ap (many shown_at m) (sym (append-nil (flat_map shown_text nodes)))
    ∙ (many_again shown_at shown_text IsShownNode Any (λ s rest is fine. shown_again s rest is) (λ s rest is. tt) nodes m (m - length nodes) [] all (omega arith) tt
    ∙ (ap (ahead nodes) (many-end shown_at (m - length nodes) [] no_node) ∙ ap (λ (ns : List ShownNode). (ns, [])) (append-nil nodes)))

pub nodes_again : (m : ℕ) (nodes : List ShownNode) → IsNumber m → AllByRecursion IsShownNode nodes → nodes_at (decimal m ++ flat_map shown_text nodes) ≡ Some (reply.Nodes m nodes)
unfolding nodes_at
nodes_again m nodes is all =
    let text : List ℕ = flat_map shown_text nodes in
    ap (λ (o : Option (ℕ × List ℕ)). o >>= λ k. whole_nodes k.0 (many shown_at (length k.1) k.1)) (number_again MAX_NUMBER m text is (omega (arith, is)) (halts nodes))
    ∙ ap (whole_nodes m) (all_again nodes (length text) (long_enough nodes) all)
