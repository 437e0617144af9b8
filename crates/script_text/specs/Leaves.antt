-- The expressions that have none in them, and the values, one kind after another.
use Rattle.std.specs.Prelude.{ℕ, List, Option}
use Rattle.khepri_terms.specs.Paths.{path_at}
use Rattle.khepri_terms.specs.Records.{rec_at}
use Rattle.khepri_types.specs.declared.script.Expr.{Expr}
use Rattle.khepri_types.specs.declared.script.Expr.TheVariants as e
use Rattle.khepri_types.specs.declared.value.Value.{Value}
use Rattle.khepri_types.specs.declared.value.Value.TheVariants as v
use Rattle.khepri_types.specs.Items.{or_read}
use Rattle.khepri_types.specs.ReadingScripts.{read_as, quoted_at, register_at}

-- fields or a register
abbrev pub rec_or_register : List ℕ → Option (Expr × List ℕ)
rec_or_register text = or_read (read_as e.Rec (rec_at text)) (read_as e.Register (register_at text))

-- a path or these
abbrev pub path_or_more : List ℕ → Option (Expr × List ℕ)
path_or_more text = or_read (read_as e.Path (path_at text)) (rec_or_register text)

-- a text or these
abbrev pub text_or_more : List ℕ → Option (Expr × List ℕ)
text_or_more text = or_read (read_as e.Text (quoted_at text)) (path_or_more text)

-- a path or fields as a value
abbrev pub value_or_rec : List ℕ → Option (Value × List ℕ)
value_or_rec text = or_read (read_as v.Path (path_at text)) (read_as v.Rec (rec_at text))

-- a text or these
abbrev pub value_or_path : List ℕ → Option (Value × List ℕ)
value_or_path text = or_read (read_as v.Text (quoted_at text)) (value_or_rec text)
