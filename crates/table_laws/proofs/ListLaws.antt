-- What is read of keys, values and rows' scalars is spelled so, and what is spelled so is read.
use Rattle.std.proofs.Common.{◌≡◌, ℕ, Bool, true, false, List, [], ◌∷◌, ◌++◌, refl, Some, None}
use Rattle.khepri_terms.specs.Bytes.{is_plain}
use Rattle.khepri_terms.specs.Names.{Stops}
use Rattle.khepri_terms.specs.Numbers.{number_at, int_at}
use Rattle.khepri_terms.specs.Records.{scalar_text, scalar_at, IsScalar}
use Rattle.khepri_terms.specs.declared.scalar.Scalar.{Scalar}
use Rattle.khepri_terms.proofs.RecordsLaws.{scalar_takes, scalar_again}
use Rattle.khepri_types.specs.declared.limits.TheConstants.{MAX_ROW_KEYS, MAX_ROW_VALUES}
use Rattle.khepri_types.specs.declared.projection.Origin.{Origin}
use Rattle.khepri_types.specs.ProjectionTexts.{source_text, IsSource, source_at, AreKeys, AreValues, sources_text, keys_at, values_at, scalars_text, IsReadKey, IsRowValue, read_key_at, row_value_at}
use Rattle.table_laws.proofs.BracketSpelling.{sign, list_takes, some_list_takes, list_again, some_list_again}
use Rattle.table_laws.proofs.SourceSpelling.{source_takes, source_again}

-- ---- sources

no_source : source_at [] ≡ None
unfolding source_at
no_source = refl

bracket_no_source : (t : List ℕ) → source_at (93 ∷ t) ≡ None
unfolding source_at
bracket_no_source t = refl

behind_source : (o : Origin) (last : Bool) (rest : List ℕ) → IsSource o → source_at (source_text o ++ sign last ∷ rest) ≡ Some (o, sign last ∷ rest)
behind_source o last rest is = source_again o (sign last ∷ rest) is

pub keys_takes : (text : List ℕ) (x : List Origin × List ℕ) → keys_at text ≡ Some x → (text ≡ sources_text x.0 ++ x.1) × AreKeys x.0
keys_takes text x e =
    let t = some_list_takes source_text source_at IsSource source_takes MAX_ROW_KEYS text x e in
    (t.0, record { all = t.1; some = t.3; few = t.2 })

pub keys_again : (os : List Origin) (rest : List ℕ) → AreKeys os → keys_at (sources_text os ++ rest) ≡ Some (os, rest)
keys_again os rest is = some_list_again source_text source_at IsSource behind_source os MAX_ROW_KEYS rest is.some is.few is.all

pub values_takes : (text : List ℕ) (x : List Origin × List ℕ) → values_at text ≡ Some x → (text ≡ sources_text x.0 ++ x.1) × AreValues x.0
values_takes text x e =
    let t = list_takes source_text source_at IsSource source_takes MAX_ROW_VALUES text x e in
    (t.0, record { all = t.1; few = t.2 })

pub values_again : (os : List Origin) (rest : List ℕ) → AreValues os → values_at (sources_text os ++ rest) ≡ Some (os, rest)
values_again os rest is = list_again source_text source_at IsSource behind_source no_source bracket_no_source os MAX_ROW_VALUES rest is.few is.all

-- ---- scalars

no_scalar : scalar_at [] ≡ None
unfolding scalar_at
no_scalar = refl

bracket_no_scalar : (t : List ℕ) → scalar_at (93 ∷ t) ≡ None
unfolding scalar_at int_at number_at
bracket_no_scalar t = refl

sign_stops : (last : Bool) (rest : List ℕ) → Stops (sign last ∷ rest)
unfolding sign is_plain
sign_stops true rest = refl
sign_stops false rest = refl

behind_scalar : (x : Scalar) (last : Bool) (rest : List ℕ) → IsScalar x → scalar_at (scalar_text x ++ sign last ∷ rest) ≡ Some (x, sign last ∷ rest)
behind_scalar x last rest is = scalar_again x (sign last ∷ rest) is (sign_stops last rest)

pub read_key_takes : (text : List ℕ) (x : List Scalar × List ℕ) → read_key_at text ≡ Some x → (text ≡ scalars_text x.0 ++ x.1) × IsReadKey x.0
read_key_takes text x e =
    let t = some_list_takes scalar_text scalar_at IsScalar scalar_takes MAX_ROW_KEYS text x e in
    (t.0, record { all = t.1; some = t.3; few = t.2 })

pub read_key_again : (xs : List Scalar) (rest : List ℕ) → IsReadKey xs → read_key_at (scalars_text xs ++ rest) ≡ Some (xs, rest)
read_key_again xs rest is = some_list_again scalar_text scalar_at IsScalar behind_scalar xs MAX_ROW_KEYS rest is.some is.few is.all

pub row_value_takes : (text : List ℕ) (x : List Scalar × List ℕ) → row_value_at text ≡ Some x → (text ≡ scalars_text x.0 ++ x.1) × IsRowValue x.0
row_value_takes text x e =
    let t = list_takes scalar_text scalar_at IsScalar scalar_takes MAX_ROW_VALUES text x e in
    (t.0, record { all = t.1; few = t.2 })

pub row_value_again : (xs : List Scalar) (rest : List ℕ) → IsRowValue xs → row_value_at (scalars_text xs ++ rest) ≡ Some (xs, rest)
row_value_again xs rest is = list_again scalar_text scalar_at IsScalar behind_scalar no_scalar bracket_no_scalar xs MAX_ROW_VALUES rest is.few is.all
