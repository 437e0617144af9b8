use Rattle.std.proofs.Common.{◌++◌, sym, ap, ◌∙◌}
use Rattle.std.proofs.lemmas.Result.{on_ok_weaker}
use Rattle.khepri_types.specs.declared.reply.Reply.{Reply}
use Rattle.khepri_types.specs.Texts.{reply_text}
use Rattle.line_text.proofs.reply.append_reply.Goals as goal

pub returns-in-Changed-clause-front : goal.returns-in-Changed-clause-front
returns-in-Changed-clause-front c = c.append_numbers.ensures.front

pub returns-in-Node-clause-ok : goal.returns-in-Node-clause-ok
unfolding reply_text
returns-in-Node-clause-ok c = on_ok_weaker c.append_content.result (λ e. e ∙ ap (λ (x : Reply). c.args.out.now.items ++ reply_text x) (sym c.in-Node.is)) c.append_content.ensures.ok

pub returns-in-Node-clause-front : goal.returns-in-Node-clause-front
returns-in-Node-clause-front c = c.append_content.ensures.front

pub returns-in-Nodes-clause-ok : goal.returns-in-Nodes-clause-ok
unfolding reply_text
returns-in-Nodes-clause-ok c = on_ok_weaker c.append_nodes.result (λ e. e ∙ ap (λ (x : Reply). c.args.out.now.items ++ reply_text x) (sym c.in-Nodes.is)) c.append_nodes.ensures.ok

pub returns-in-Nodes-clause-front : goal.returns-in-Nodes-clause-front
returns-in-Nodes-clause-front c = c.append_nodes.ensures.front

pub returns-in-Count-clause-ok : goal.returns-in-Count-clause-ok
unfolding reply_text
returns-in-Count-clause-ok c = on_ok_weaker c.append_number.result (λ e. e ∙ ap (λ (x : Reply). c.args.out.now.items ++ reply_text x) (sym c.in-Count.is)) c.append_number.ensures.ok

pub returns-in-Count-clause-front : goal.returns-in-Count-clause-front
returns-in-Count-clause-front c = c.append_number.ensures.front

pub returns-in-NoRoot-clause-ok : goal.returns-in-NoRoot-clause-ok
unfolding reply_text
returns-in-NoRoot-clause-ok c = on_ok_weaker c.append_word.result (λ e. e ∙ ap (λ (x : Reply). c.args.out.now.items ++ reply_text x) (sym c.in-NoRoot.is)) c.append_word.ensures.ok

pub returns-in-NoRoot-clause-front : goal.returns-in-NoRoot-clause-front
returns-in-NoRoot-clause-front c = c.append_word.ensures.front

pub returns-in-NoDeep-clause-ok : goal.returns-in-NoDeep-clause-ok
unfolding reply_text
returns-in-NoDeep-clause-ok c = on_ok_weaker c.append_word-in-NoDeep.result (λ e. e ∙ ap (λ (x : Reply). c.args.out.now.items ++ reply_text x) (sym c.in-NoDeep.is)) c.append_word-in-NoDeep.ensures.ok

pub returns-in-NoDeep-clause-front : goal.returns-in-NoDeep-clause-front
returns-in-NoDeep-clause-front c = c.append_word-in-NoDeep.ensures.front

pub returns-in-NoExists-clause-ok : goal.returns-in-NoExists-clause-ok
unfolding reply_text
returns-in-NoExists-clause-ok c = on_ok_weaker c.append_word-in-NoExists.result (λ e. e ∙ ap (λ (x : Reply). c.args.out.now.items ++ reply_text x) (sym c.in-NoExists.is)) c.append_word-in-NoExists.ensures.ok

pub returns-in-NoExists-clause-front : goal.returns-in-NoExists-clause-front
returns-in-NoExists-clause-front c = c.append_word-in-NoExists.ensures.front

pub returns-in-NoAbsent-clause-ok : goal.returns-in-NoAbsent-clause-ok
unfolding reply_text
returns-in-NoAbsent-clause-ok c = on_ok_weaker c.append_word-in-NoAbsent.result (λ e. e ∙ ap (λ (x : Reply). c.args.out.now.items ++ reply_text x) (sym c.in-NoAbsent.is)) c.append_word-in-NoAbsent.ensures.ok

pub returns-in-NoAbsent-clause-front : goal.returns-in-NoAbsent-clause-front
returns-in-NoAbsent-clause-front c = c.append_word-in-NoAbsent.ensures.front

pub returns-in-NoMismatch-clause-ok : goal.returns-in-NoMismatch-clause-ok
unfolding reply_text
returns-in-NoMismatch-clause-ok c = on_ok_weaker c.append_word-in-NoMismatch.result (λ e. e ∙ ap (λ (x : Reply). c.args.out.now.items ++ reply_text x) (sym c.in-NoMismatch.is)) c.append_word-in-NoMismatch.ensures.ok

pub returns-in-NoMismatch-clause-front : goal.returns-in-NoMismatch-clause-front
returns-in-NoMismatch-clause-front c = c.append_word-in-NoMismatch.ensures.front

pub returns-in-NoWhile-clause-ok : goal.returns-in-NoWhile-clause-ok
unfolding reply_text
returns-in-NoWhile-clause-ok c = on_ok_weaker c.append_path.result (λ e. e ∙ ap (λ (x : Reply). c.args.out.now.items ++ reply_text x) (sym c.in-NoWhile.is)) c.append_path.ensures.ok

pub returns-in-NoWhile-clause-front : goal.returns-in-NoWhile-clause-front
returns-in-NoWhile-clause-front c = c.append_path.ensures.front

pub returns-in-NoFull-clause-ok : goal.returns-in-NoFull-clause-ok
unfolding reply_text
returns-in-NoFull-clause-ok c = on_ok_weaker c.append_word-in-NoFull.result (λ e. e ∙ ap (λ (x : Reply). c.args.out.now.items ++ reply_text x) (sym c.in-NoFull.is)) c.append_word-in-NoFull.ensures.ok

pub returns-in-NoFull-clause-front : goal.returns-in-NoFull-clause-front
returns-in-NoFull-clause-front c = c.append_word-in-NoFull.ensures.front

pub returns-in-Done-clause-ok : goal.returns-in-Done-clause-ok
unfolding reply_text
returns-in-Done-clause-ok c = on_ok_weaker c.append_done.result (λ e. e ∙ ap (λ (x : Reply). c.args.out.now.items ++ reply_text x) (sym c.in-Done.is)) c.append_done.ensures.ok

pub returns-in-Done-clause-front : goal.returns-in-Done-clause-front
returns-in-Done-clause-front c = c.append_done.ensures.front

pub returns-in-NoScript-clause-ok : goal.returns-in-NoScript-clause-ok
unfolding reply_text
returns-in-NoScript-clause-ok c = on_ok_weaker c.append_word-in-NoScript.result (λ e. e ∙ ap (λ (x : Reply). c.args.out.now.items ++ reply_text x) (sym c.in-NoScript.is)) c.append_word-in-NoScript.ensures.ok

pub returns-in-NoScript-clause-front : goal.returns-in-NoScript-clause-front
returns-in-NoScript-clause-front c = c.append_word-in-NoScript.ensures.front

pub returns-in-NoName-clause-ok : goal.returns-in-NoName-clause-ok
unfolding reply_text
returns-in-NoName-clause-ok c = on_ok_weaker c.append_word-in-NoName.result (λ e. e ∙ ap (λ (x : Reply). c.args.out.now.items ++ reply_text x) (sym c.in-NoName.is)) c.append_word-in-NoName.ensures.ok

pub returns-in-NoName-clause-front : goal.returns-in-NoName-clause-front
returns-in-NoName-clause-front c = c.append_word-in-NoName.ensures.front

pub returns-in-NoSpent-clause-ok : goal.returns-in-NoSpent-clause-ok
unfolding reply_text
returns-in-NoSpent-clause-ok c = on_ok_weaker c.append_word-in-NoSpent.result (λ e. e ∙ ap (λ (x : Reply). c.args.out.now.items ++ reply_text x) (sym c.in-NoSpent.is)) c.append_word-in-NoSpent.ensures.ok

pub returns-in-NoSpent-clause-front : goal.returns-in-NoSpent-clause-front
returns-in-NoSpent-clause-front c = c.append_word-in-NoSpent.ensures.front

pub returns-in-NoAbort-clause-ok : goal.returns-in-NoAbort-clause-ok
unfolding reply_text
returns-in-NoAbort-clause-ok c = on_ok_weaker c.append_abort.result (λ e. e ∙ ap (λ (x : Reply). c.args.out.now.items ++ reply_text x) (sym c.in-NoAbort.is)) c.append_abort.ensures.ok

pub returns-in-NoAbort-clause-front : goal.returns-in-NoAbort-clause-front
returns-in-NoAbort-clause-front c = c.append_abort.ensures.front
