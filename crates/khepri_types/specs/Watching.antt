-- What a command that writes a node says of its watches, and what they refuse.
use Rattle.std.specs.Prelude.{Bool, true, false, ltb, if◌then◌else◌, List, [], ◌∷◌, length, Option, Some, None}
use Rattle.std.specs.List.{list_any}
use Rattle.std.specs.FinMap.{get, insert}
use Rattle.khepri_terms.specs.Terms.{NameText}
use Rattle.khepri_types.specs.declared.limits.TheConstants.{MAX_PATH_NAMES}
use Rattle.khepri_types.specs.declared.node.Node.{Node}
use Rattle.khepri_types.specs.declared.node.Payload.{Payload}
use Rattle.khepri_types.specs.declared.watch.Watch.{Watch}
use Rattle.khepri_types.specs.declared.watch.Watching.{Watching}
use Rattle.khepri_types.specs.declared.watch.Watching.TheVariants.{Stay, Free, While}
use Rattle.khepri_types.specs.Settling.{is_met}
use Rattle.khepri_types.specs.Tree.{Tree, set}

-- ---- the change

-- the watches of a node after this is said of them
abbrev pub watches_after : Watching → List Watch → List Watch
watches_after Stay old = old
watches_after Free old = []
watches_after (While watches) old = watches

-- a standing node gets these watches; its versions stay
abbrev pub given_watches : Tree → List NameText → List Watch → Option Node → Tree
given_watches T p watches None = T
given_watches T p watches (Some n) = insert T p (record n { watches = watches })

-- the node at the path keeps its watches, or has none, or has these
abbrev pub watch : Tree → List NameText → Watching → Tree
watch T p Stay = T
watch T p Free = given_watches T p [] (get T p)
watch T p (While watches) = given_watches T p watches (get T p)

-- the payload is set at the path, and then the watches of its node
abbrev pub set_watched : Tree → List NameText → Payload → Watching → Tree
set_watched T p x w = watch (set T p x) p w

-- ---- what is refused before the change

-- the path has more names than the path of a node may have
abbrev pub is_deep : List NameText → Bool
is_deep p = ltb MAX_PATH_NAMES (length p)

-- something is said of watches
abbrev pub is_given : Watching → Bool
is_given Stay = false
is_given Free = true
is_given (While watches) = true

-- the root has no watches
abbrev pub gives_root_watches : List NameText → Watching → Bool
gives_root_watches [] w = is_given w
gives_root_watches (n ∷ p) w = false

-- the target of a watch has too many names
abbrev pub has_deep_target : Watching → Bool
has_deep_target Stay = false
has_deep_target Free = false
has_deep_target (While watches) = list_any (λ w. is_deep w.target) watches

-- ---- what comes after the change

-- the first of these watches that isn't met
abbrev pub first_unmet : Tree → List Watch → Option Watch
first_unmet T [] = None
first_unmet T (w ∷ watches) = if is_met T w then first_unmet T watches else Some w

-- the first watch of this node that isn't met
abbrev pub unmet_of : Tree → Option Node → Option Watch
unmet_of T None = None
unmet_of T (Some n) = first_unmet T n.watches
