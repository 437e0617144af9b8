-- One step of a mask.
use Rattle.std.specs.Prelude.{ℕ, zero, suc, Bool, true, false, ◌&&◌, ◌||◌, List, Option, Some, None, slice_get}
use Rattle.khepri_terms.specs.Terms.{NameText}
use Rattle.khepri_terms.specs.Order.{name_eq}
use Rattle.khepri_types.specs.declared.pattern.PatternPart.{PatternPart}
use Rattle.khepri_types.specs.declared.pattern.PatternPart.TheVariants as part
use Rattle.khepri_types.specs.Conditions.{Seen, holds}
use Rattle.khepri_types.specs.Patterns.{is_many}
use Rattle.pattern_match.specs.declared.mask.Mask.{Mask}
use Rattle.pattern_match.specs.Masks.{has}

abbrev pub is_called : NameText → Option NameText → Bool
is_called m None = false
is_called m (Some n) = name_eq m n

-- the part takes the name of the node
abbrev pub takes_node : PatternPart → Seen → Bool
takes_node (part.Name m) s = is_called m s.name
takes_node part.One s = true
takes_node part.Many s = true
takes_node (part.Meets c) s = holds c (Some s)

-- with the part at place i: it takes the name behind i parts, or `**` goes on
abbrev pub part_next : Seen → Mask → ℕ → Option PatternPart → Bool
part_next s m i None = false
part_next s m i (Some P) = (has m i || (is_many P && has m (suc i))) && takes_node P s

-- whether the mask after the node has this number of parts
abbrev pub has_next : List PatternPart → Seen → Mask → ℕ → Bool
has_next parts s m zero = false
has_next parts s m (suc i) = part_next s m i (slice_get parts i)
