use Rattle.std.proofs.Common.{◌++◌, sym, ap, ◌∙◌}
use Rattle.std.proofs.lemmas.Result.{on_ok_weaker}
use Rattle.khepri_types.specs.declared.out.OutLine.{OutLine}
use Rattle.khepri_types.specs.Texts.{out_text}
use Rattle.line_text.proofs.output.append_out.Goals as goal

pub returns-in-Entry-clause-ok : goal.returns-in-Entry-clause-ok
unfolding out_text
returns-in-Entry-clause-ok c = on_ok_weaker c.append_entry_line.result (λ e. e ∙ ap (λ (x : OutLine). c.args.out.now.items ++ out_text x) (sym c.in-Entry.is)) c.append_entry_line.ensures.ok

pub returns-in-Entry-clause-front : goal.returns-in-Entry-clause-front
returns-in-Entry-clause-front c = c.append_entry_line.ensures.front

pub returns-in-Reply-clause-ok : goal.returns-in-Reply-clause-ok
unfolding out_text
returns-in-Reply-clause-ok c = on_ok_weaker c.append_reply_line.result (λ e. e ∙ ap (λ (x : OutLine). c.args.out.now.items ++ out_text x) (sym c.in-Reply.is)) c.append_reply_line.ensures.ok

pub returns-in-Reply-clause-front : goal.returns-in-Reply-clause-front
returns-in-Reply-clause-front c = c.append_reply_line.ensures.front

pub returns-in-Lost-clause-ok : goal.returns-in-Lost-clause-ok
unfolding out_text
returns-in-Lost-clause-ok c = on_ok_weaker c.append_numbered.result (λ e. e ∙ ap (λ (x : OutLine). c.args.out.now.items ++ out_text x) (sym c.in-Lost.is)) c.append_numbered.ensures.ok

pub returns-in-Lost-clause-front : goal.returns-in-Lost-clause-front
returns-in-Lost-clause-front c = c.append_numbered.ensures.front

pub returns-in-Pending-clause-front : goal.returns-in-Pending-clause-front
returns-in-Pending-clause-front c = c.append_numbers.ensures.front

pub returns-in-Read-clause-ok : goal.returns-in-Read-clause-ok
unfolding out_text
returns-in-Read-clause-ok c = on_ok_weaker c.append_read.result (λ e. e ∙ ap (λ (x : OutLine). c.args.out.now.items ++ out_text x) (sym c.in-Read.is)) c.append_read.ensures.ok

pub returns-in-Read-clause-front : goal.returns-in-Read-clause-front
returns-in-Read-clause-front c = c.append_read.ensures.front

pub returns-in-Refused-clause-front : goal.returns-in-Refused-clause-front
returns-in-Refused-clause-front c = c.append_numbered-in-Refused.ensures.front

pub returns-in-Leads-clause-front : goal.returns-in-Leads-clause-front
returns-in-Leads-clause-front c = c.append_numbers-in-Leads.ensures.front

pub returns-in-Follows-clause-front : goal.returns-in-Follows-clause-front
returns-in-Follows-clause-front c = c.append_numbers-in-Follows.ensures.front

pub returns-in-Stopped-clause-front : goal.returns-in-Stopped-clause-front
returns-in-Stopped-clause-front c = c.append_numbered-in-Stopped.ensures.front

pub returns-in-Started-clause-front : goal.returns-in-Started-clause-front
returns-in-Started-clause-front c = c.append_numbered-in-Started.ensures.front
