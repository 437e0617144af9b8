-- The words of the forms of scripts, as the readings of scripts name them.
use Rattle.std.specs.Prelude.{ℕ, List, codes}
use Rattle.khepri_types.specs.declared.script_words.PairWord.{PairWord}
use Rattle.khepri_types.specs.declared.script_words.PairWord.TheVariants as pairs
use Rattle.khepri_types.specs.declared.script_words.OneWord.{OneWord}
use Rattle.khepri_types.specs.declared.script_words.OneWord.TheVariants as ones
use Rattle.khepri_types.specs.declared.script_words.ExprWord.{ExprWord}
use Rattle.khepri_types.specs.declared.script_words.ExprWord.TheVariants as words
use Rattle.khepri_types.specs.declared.script_words.DeedWord.{DeedWord}
use Rattle.khepri_types.specs.declared.script_words.DeedWord.TheVariants as deeds
use Rattle.khepri_types.specs.declared.script_words.StatementWord.{StatementWord}
use Rattle.khepri_types.specs.declared.script_words.StatementWord.TheVariants as statements
use Rattle.khepri_types.specs.Compares.{compare_text}

unfoldable pub pair_word_text : PairWord → List ℕ
pair_word_text pairs.Add = codes "add"
pair_word_text pairs.Sub = codes "sub"
pair_word_text pairs.Cat = codes "cat"
pair_word_text pairs.Child = codes "child"
pair_word_text pairs.All = codes "all"
pair_word_text pairs.Any = codes "any"
pair_word_text (pairs.Compare op) = compare_text op

unfoldable pub one_word_text : OneWord → List ℕ
one_word_text ones.Data = codes "data"
one_word_text ones.Pv = codes "pv"
one_word_text ones.Cv = codes "cv"
one_word_text ones.Kids = codes "kids"
one_word_text ones.Last = codes "last"
one_word_text ones.Not = codes "not"

unfoldable pub expr_word_text : ExprWord → List ℕ
expr_word_text (words.Pair w) = pair_word_text w
expr_word_text (words.One w) = one_word_text w
expr_word_text words.Int = codes "int"
expr_word_text words.Text = codes "text"
expr_word_text words.With = codes "with"
expr_word_text words.Test = codes "test"

unfoldable pub deed_word_text : DeedWord → List ℕ
deed_word_text deeds.Clear = codes "clear"
deed_word_text deeds.Del = codes "del"
deed_word_text deeds.Free = codes "free"
deed_word_text deeds.Emit = codes "emit"
deed_word_text deeds.Abort = codes "abort"

unfoldable pub statement_word_text : StatementWord → List ℕ
statement_word_text (statements.Deed w) = deed_word_text w
statement_word_text statements.Let = codes "let"
statement_word_text statements.Put = codes "put"
statement_word_text statements.Hold = codes "hold"
statement_word_text statements.If = codes "if"
statement_word_text statements.Each = codes "each"
