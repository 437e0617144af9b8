-- When two scripts are the same.
use Rattle.std.specs.Prelude.{ℕ, Bool, true, false, ◌==◌, ◌&&◌, List}
use Rattle.std.specs.Coded.{Coded, coded_list}
use base.Stored.{Gv, gnil, gnum, gcons}
use Rattle.khepri_types.specs.contracts.script.Statement as statement
use Rattle.khepri_types.specs.declared.script.Statement.{Statement}

-- a code of scripts, one to one: a tree of numbers
abbrev pub script_codes : Coded (List Statement)
script_codes = coded_list statement.the_row.coded

-- whether two codes are equal
abbrev pub same_code : Gv → Gv → Bool
same_code gnil gnil = true
same_code gnil (gnum m) = false
same_code gnil (gcons c d) = false
same_code (gnum n) gnil = false
same_code (gnum n) (gnum m) = n == m
same_code (gnum n) (gcons c d) = false
same_code (gcons a b) gnil = false
same_code (gcons a b) (gnum m) = false
same_code (gcons a b) (gcons c d) = same_code a c && same_code b d

-- whether two scripts are the same: their codes are, which differ where any of their parts differ
unfoldable pub same_script : List Statement → List Statement → Bool
same_script s t = same_code (script_codes.code s) (script_codes.code t)
