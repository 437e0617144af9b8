-- The paths at which nodes stand have spellings, as long as those that commands write have.
use Rattle.std.proofs.Common.{ℕ, zero, suc, ◌≤◌, List, [], ◌∷◌, length, take, sym, ap, ◌∙◌, arith}
use Rattle.std.specs.Prelude.{is_some}
use Rattle.std.specs.List.{flat_map}
use Rattle.std.proofs.lemmas.List.{length-append}
use Rattle.khepri_terms.specs.Terms.{NameText}
use Rattle.khepri_terms.specs.Names.{IsName}
use Rattle.khepri_terms.specs.Paths.{IsPath, step_text, path_text}
use Rattle.khepri_terms.proofs.PathsLaws.{path_text-more, path_text-root}
use Rattle.khepri_types.specs.Tree.{Tree, opening_tree}
use Rattle.khepri_types.proofs.Everywhere.{Everywhere, IsClosed}
use Rattle.khepri_types.proofs.Matching.{All-take}
use Rattle.khepri_types.proofs.Standing.{get-opening}

-- each path that stands has a spelling
abbrev pub AllWritten : Tree → Type 0
AllWritten T = Everywhere IsPath T

fewer_steps : (i : ℕ) (ns : List NameText) → length (flat_map step_text (take i ns)) ≤ length (flat_map step_text ns)
fewer_steps zero [] = omega arith
fewer_steps zero (n ∷ ns) = omega arith
fewer_steps (suc i) [] = omega arith
fewer_steps (suc i) (n ∷ ns) = omega (arith, fewer_steps i ns, length-append (step_text n) (flat_map step_text (take i ns)), length-append (step_text n) (flat_map step_text ns))

front_short : (i : ℕ) (p : List NameText) → length (path_text p) ≤ 1024 → length (path_text (take i p)) ≤ 1024
front_short zero p short = omega (arith, ap length path_text-root)
front_short (suc i) [] short = short
front_short (suc i) (n ∷ ns) short =
    omega (arith, short, ap length (path_text-more n ns), ap length (path_text-more n (take i ns)), fewer_steps (suc i) (n ∷ ns))

pub path_closed : IsClosed IsPath
path_closed = record { fronts = λ p i le is. record { names = All-take IsName i p is.names; short = front_short i p is.short } }

pub root_written : IsPath []
root_written = record { names = tt; short = omega (arith, ap length path_text-root) }

pub written-opening : AllWritten opening_tree
written-opening [] h = root_written
written-opening (n ∷ q) h = absurd (cc (sym h ∙ ap is_some (get-opening (n ∷ q))))
