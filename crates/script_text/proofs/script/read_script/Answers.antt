use Rattle.std.proofs.Common.{List, sym, subst, ◌∙◌}
use Rattle.khepri_types.specs.declared.script.Statement.{Statement}
use Rattle.khepri_types.specs.ScriptTexts.{script_text}
use Rattle.script_text.specs.Spelling.{SpellsScript}
use Rattle.script_text.proofs.Grammar.{script_unread, rest_within, front_is}
use Rattle.script_text.proofs.script.read_script.Goals as goal

pub text_before-requires : goal.text_before-requires
text_before-requires c =
    record { within = rest_within c.args.text.now (script_text c.in-Ok.block) c.in-Ok.rest.now (c.script_spelling.ensures.takes c.args.text.now c.in-Ok.block c.in-Ok.rest.now c.in-Ok.ensures.value).0 }

pub new-requires-clause-spelled : goal.new-requires-clause-spelled
new-requires-clause-spelled c = (c.script_spelling.ensures.takes c.args.text.now c.in-Ok.block c.in-Ok.rest.now c.in-Ok.ensures.value).1

pub new-requires-clause-text : goal.new-requires-clause-text
new-requires-clause-text c =
    c.in_ok-spelled-in-Ok.ensures
    ∙ front_is c.args.text.now (script_text c.in-Ok.block) c.in-Ok.rest.now (c.script_spelling.ensures.takes c.args.text.now c.in-Ok.block c.in-Ok.rest.now c.in-Ok.ensures.value).0

pub returns-in_ok-spelled-in-Ok-clause-spelled : goal.returns-in_ok-spelled-in-Ok-clause-spelled
returns-in_ok-spelled-in-Ok-clause-spelled c =
    subst (λ (s : List Statement). SpellsScript c.args.text.now s c.in-Ok.rest.now) (sym c.new.ensures) (c.script_spelling.ensures.takes c.args.text.now c.in-Ok.block c.in-Ok.rest.now c.in-Ok.ensures.value)

pub returns-in-Err-clause-none : goal.returns-in-Err-clause-none
returns-in-Err-clause-none c = λ e. script_unread c.script_spelling.ensures.again c.args.text.now (c.in-Err.ensures.bad e)
