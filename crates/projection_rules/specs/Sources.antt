-- Lists of sources, as far as they were taken.
use Rattle.std.specs.Prelude.{List, ◌++◌, Option, Some, None}
use Rattle.std.specs.Global.{Vec}
use Rattle.khepri_terms.specs.declared.scalar.Scalar.{Scalar}

-- the scalars of a list, if there is one
abbrev pub list_of : Option (Vec Scalar) → Option (List Scalar)
list_of None = None
list_of (Some v) = Some v.items

-- a list before another, if there is another
abbrev pub before : List Scalar → Option (List Scalar) → Option (List Scalar)
before xs None = None
before xs (Some ys) = Some (xs ++ ys)
