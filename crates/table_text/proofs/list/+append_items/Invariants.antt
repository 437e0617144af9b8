use Rattle.std.proofs.Common.{length}
use Rattle.table_text.proofs.list.+append_items.Given as goal

abbrev pub decreases-append_items : goal.decreases-append_items
decreases-append_items g l = length l.items.now
