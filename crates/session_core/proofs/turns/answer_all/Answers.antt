use Rattle.std.proofs.Common.{◌≡◌, ◌+◌, true, false, Result, Ok, Err, sym, subst, ◌∙◌, arith}
use Rattle.std.specs.Result.{OnOk, OnErr, is_err}
use Rattle.line_io.specs.Reading.{Reading}
use Rattle.session_core.proofs.Telling.{told_text-none}
use Rattle.session_core.proofs.Amid.{Amid, amid-none, due, due_room, answered, on_end, on_stop, stop_source, stop_sink, on_part, part_source, part_sink}
use Rattle.session_core.proofs.turns.answer_all.Goals as goal

ok_part : {X E P : Type 0} (r : Result X E) → is_err r ≡ false → OnOk r P → P
ok_part (Ok x) e h = h
ok_part (Err x) e h = absurd cc

err_part : {X E P : Type 0} (r : Result X E) → is_err r ≡ true → OnErr r P → P
err_part (Ok x) e h = absurd cc
err_part (Err x) e h = h

pub lines-init : goal.lines-init
lines-init g c =
    record {
      amid = amid-none _ _ c.args.lines.now c.args.machine.now c.args.out.now.items c.requires.lines c.requires.machine (c.requires.out ∙ sym told_text-none);
      source = omega arith;
      sink = omega arith;
    }

pub returns-in-Err : goal.returns-in-Err
returns-in-Err g c =
    let out = c.next_line.new.out.items in
    record {
      session = on_stop _ _ _ _ _ _ _ _ _ _ _ out _ _ _ _ c.in-Err.status c.lines.invariant.amid c.in-Err.ensures.turn;
      source_fault = λ e. stop_source _ _ _ _ _ _ _ out _ _ _ _ _ c.in-Err.status c.lines.invariant.source c.in-Err.ensures.turn e;
      sink_fault = λ e. stop_sink _ _ _ _ _ _ _ out _ _ _ _ _ c.in-Err.status c.lines.invariant.sink c.in-Err.ensures.turn e;
    }

pub returns-in-End-clause-session : goal.returns-in-End-clause-session
returns-in-End-clause-session g c = on_end _ _ _ _ _ _ _ _ _ _ _ _ _ _ _ c.lines.invariant.amid c.in-Ok.ensures.turn c.in-End.is

pub answer-requires : goal.answer-requires
answer-requires g c = (due_room _ _ _ _ _ _ _ _ _ (due _ _ _ _ _ _ _ _ _ _ _ _ _ _ _ c.lines.invariant.amid c.in-Ok.ensures.turn c.in_default.not-End)).0

pub overflow_add-number : goal.overflow_add-number
overflow_add-number g c =
    let a = due _ _ _ _ _ _ _ _ _ _ _ _ _ _ _ c.lines.invariant.amid c.in-Ok.ensures.turn c.in_default.not-End in
    omega (arith, (due_room _ _ _ _ _ _ _ _ _ a).1)

pub returns-then-is_err : goal.returns-then-is_err
returns-then-is_err g c =
    let a = due _ _ _ _ _ _ _ _ _ _ _ _ _ _ _ c.lines.invariant.amid c.in-Ok.ensures.turn c.in_default.not-End in
    let bytes = c.as_slice.ensures.value ∙ err_part c.answer.result (sym c.is_err.ensures.value ∙ c.if-is_err.true) c.answer.ensures.err in
    record {
      session = on_part _ _ _ _ _ _ _ _ _ _ _ _ _ c.part.result a bytes c.part.ensures;
      source_fault = λ e. part_source _ _ _ _ _ c.part.result c.part.ensures e;
      sink_fault = λ e. part_sink _ _ _ _ _ _ c.part.result (omega (arith, c.lines.invariant.sink, c.next_line.ensures.sink)) c.part.ensures e;
    }

pub lines-preserved : goal.lines-preserved
lines-preserved g c =
    let a = due _ _ _ _ _ _ _ _ _ _ _ _ _ _ _ c.lines.invariant.amid c.in-Ok.ensures.turn c.in_default.not-End in
    let ok = sym c.is_err.ensures.value ∙ c.if-is_err.false in
    record {
      amid = subst (λ (r : Reading). Amid (g.S.Source.left c.args.source.now) (g.K.Sink.held c.args.sink.now) (g.S.Source.left c.next_line.new.source) (g.K.Sink.held c.next_line.new.sink) r (c.lines.number + 1) c.answer.new.machine c.answer.new.out.items)
          (sym c.reuse.ensures)
          (answered _ _ _ _ _ _ _ _ _ _ _ a (ok_part c.answer.result ok c.answer.ensures.text) (ok_part c.answer.result ok c.answer.ensures.state));
      source = omega (arith, c.lines.invariant.source, c.next_line.ensures.source);
      sink = omega (arith, c.lines.invariant.sink, c.next_line.ensures.sink);
    }
