use Rattle.std.proofs.Common.{◌≡◌, ◌++◌, take, map}
use Rattle.khepri_types.specs.ConditionTexts.{joined, condition_text}
use Rattle.condition_text.proofs.condition.+printing.Given as goal

abbrev pub invariant-append_list_asked-loop-i : goal.invariant-append_list_asked-loop-i
invariant-append_list_asked-loop-i l = l.out.items ≡ (l.fn.out.items ++ l.word) ++ joined (map condition_text (take l.i l.parts))
