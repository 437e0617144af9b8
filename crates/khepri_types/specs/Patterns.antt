-- Which paths a pattern matches.
use Rattle.std.specs.Prelude.{Bool, true, false, ◌&&◌, ◌||◌, List, [], ◌∷◌, ◌++◌, map}
use Rattle.std.specs.List.{filter}
use Rattle.std.specs.FinMap.{entries}
use Rattle.khepri_terms.specs.Terms.{NameText}
use Rattle.khepri_terms.specs.Order.{name_eq}
use Rattle.khepri_types.specs.declared.node.Node.{Node}
use Rattle.khepri_types.specs.declared.pattern.PatternPart.{PatternPart}
use Rattle.khepri_types.specs.declared.pattern.PatternPart.TheVariants as part
use Rattle.khepri_types.specs.Tree.{Tree, stands}
use Rattle.khepri_types.specs.Conditions.{holds_at}
pub use Rattle.khepri_types.specs.PatternTexts.{stage_text, IsPart, IsPattern, EndsPattern}
unfoldable pub use Rattle.khepri_types.specs.PatternTexts.{part_text, pattern_text}

-- the part takes the last name n of the path q: a name itself, `*` and `**` any, `[c]` one whose node meets c
abbrev pub takes_name : Tree → List NameText → NameText → PatternPart → Bool
takes_name T q n (part.Name m) = name_eq m n
takes_name T q n part.One = true
takes_name T q n part.Many = true
takes_name T q n (part.Meets c) = holds_at c T q

abbrev pub is_many : PatternPart → Bool
is_many (part.Name m) = false
is_many part.One = false
is_many part.Many = true
is_many (part.Meets c) = false

-- the parts take all the names behind q, from the left: the first part one of them, and `**` more
unfoldable pub takes : Tree → List NameText → List PatternPart → List NameText → Bool
takes T q [] [] = true
takes T q [] (n ∷ names) = false
takes T q (P ∷ parts) [] = false
takes T q (P ∷ parts) (n ∷ names) =
    takes_name T (q ++ n ∷ []) n P && (takes T (q ++ n ∷ []) parts names || (is_many P && takes T (q ++ n ∷ []) (P ∷ parts) names))

-- whether a pattern matches a path: the path stands, and the parts take its names
unfoldable pub matches : List PatternPart → Tree → List NameText → Bool
matches parts T p = stands T p && takes T [] parts p

-- the nodes whose paths a pattern matches, in order of path
abbrev pub matching_nodes : List PatternPart → Tree → List (List NameText × Node)
matching_nodes parts T = filter (λ e. matches parts T e.0) (entries T)

-- all paths that a pattern matches, in order
abbrev pub matching : List PatternPart → Tree → List (List NameText)
matching parts T = map (λ e. e.0) (matching_nodes parts T)
