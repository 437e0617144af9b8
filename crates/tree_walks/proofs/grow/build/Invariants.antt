use Rattle.std.specs.Prelude.{◌≡◌, ◌+◌, ◌-◌, ◌≤◌, take}
use Rattle.khepri_types.specs.Sizes.{kids}
use Rattle.khepri_types.specs.Tree.{set_from}
use Rattle.tree_walks.specs.Notes.{NotesWay}
use Rattle.tree_walks.proofs.Ways.{Way}
use Rattle.tree_walks.proofs.grow.build.Given as goal

abbrev pub invariant-way : goal.invariant-way
invariant-way l = record {
  base : l.draft.base ≡ l.fn.draft.base;
  way : Way l.draft.tree l.path l.fn.payload l.len (l.last - l.len) (set_from (l.last - l.above) (l.above + 1) l.fn.draft.tree l.path l.fn.payload);
  same : l.payload ≡ l.fn.payload;
  from : l.above ≤ l.len;
  siblings : l.siblings ≡ kids l.draft.tree (take l.len l.path);
  noted : NotesWay l.path l.above l.len l.fn.draft.touched l.draft.touched;
}
