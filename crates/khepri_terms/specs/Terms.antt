-- What a name is.
use Rattle.std.specs.Prelude.{ℕ, List}
use Rattle.khepri_terms.specs.declared.name.Kind.{Kind}

-- a name: a kind and its bytes
pub record NameText : Type 0 where
  pub kind : Kind
  pub bytes : List ℕ
