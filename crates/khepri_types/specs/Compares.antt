-- How numbers and fields are compared.
use Rattle.std.specs.Prelude.{Bool, true, false, ℕ, List, codes}
use Rattle.std.specs.declared.cmp.Ordering.{Ordering}
use Rattle.std.specs.declared.cmp.Ordering.TheVariants.{Less, Equal, Greater}
use Rattle.khepri_types.specs.declared.compare.Compare.{Compare}
use Rattle.khepri_types.specs.declared.compare.Compare.TheVariants.{Eq, Ne, Lt, Le, Gt, Ge}

-- whether a value that stands so to another compares so
abbrev pub compares : Compare → Ordering → Bool
compares Eq Less = false
compares Eq Equal = true
compares Eq Greater = false
compares Ne Less = true
compares Ne Equal = false
compares Ne Greater = true
compares Lt Less = true
compares Lt Equal = false
compares Lt Greater = false
compares Le Less = true
compares Le Equal = true
compares Le Greater = false
compares Gt Less = false
compares Gt Equal = false
compares Gt Greater = true
compares Ge Less = false
compares Ge Equal = true
compares Ge Greater = true

-- the word of a comparison
unfoldable pub compare_text : Compare → List ℕ
compare_text Eq = codes "eq"
compare_text Ne = codes "ne"
compare_text Lt = codes "lt"
compare_text Le = codes "le"
compare_text Gt = codes "gt"
compare_text Ge = codes "ge"
