use Rattle.std.proofs.Common.{sym, subst}
use Rattle.khepri_types.specs.PatternTexts.{IsPattern}
use Rattle.worked_rows.proofs.RootPattern.{root_pattern}
use Rattle.worked_rows.proofs.tables.root_pattern.Goals as goal

pub new-requires : goal.new-requires
new-requires c = subst IsPattern (sym c.new-parts.ensures) root_pattern
