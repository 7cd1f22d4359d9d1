use mathlib.Core.Path.{◌≡◌, refl, ap, sym, ◌∙◌}
use mathlib.Core.List.{◌++◌}
use mathlib.Core.Logic.{◌≢◌}
use Prim.Native.Nat.{◌/◌}
use native.Mathlib.Omega.{arith}
use borrow.Author.Rules.{rules}
use borrow.Author.Tests.{eq-eqb}
use lib.ListN.{length, take}
use Rattle.tape.specs.declared.Operation.{Operation}
use Rattle.std.specs.Prelude.{Some}
use Rattle.tape.proofs.Decodes.{read_counter}
use Rattle.board.specs.declared.Board.{Board}
use Rattle.board.specs.Records.{after, fitting}
use Rattle.records.proofs.Runs.{least, round}
use Rattle.records.proofs.Arms.{malformed, held_up, reset, wrote_icu, wrote_timer, refused_timer, wrote_dma, refused_dma, wrote_slave, refused_slave, read_icu, read_timer, unread_timer, read_dma, unread_dma, read_slave, intp, gates, requests, slave_intp, passed_on_law, acknowledge, unanswered, advance, plain_unit, cycle_by_call}
use Rattle.records.proofs.run.Goals as goal

pub loop-i-init : goal.loop-i-init
unfolding after
loop-i-init c = (search rules, refl, refl, refl, refl, refl, c.join-joined.ensures, c.levels-levels.ensures)

pub loop-i-preserved-in_default : goal.loop-i-preserved-in_default
loop-i-preserved-in_default c =
    let l = c.loop-i in
    let a = c.args in
    let p = c.tell in
    let q = c.record_at-r in
    let n : Board = record { icu = l.icu; intp = l.intp; slave = l.slave; slaveintp = l.slaveintp; timer = l.timer; dma = l.dma; kept = a.board.kept } in
    round a.board a.memory.now (take a.size a.kept ++ a.tape.now)
    (omega (arith, c.loop-i-test.true)) l.invariant.1 (p.auto.to ∙ l.invariant.2)
    l.i n _ l.memory q.result l.memory l.answers p.new.to a.answers.now _ _ _
    l.invariant.3 l.invariant.4 l.invariant.5 q.ensures (malformed n q.result l.memory l.joined l.invariant.6 l.levels l.invariant.7 (sym c.decode.ensures ∙ c.in_default.is)) p.ensures

pub loop-i-preserved-then-is_blocked : goal.loop-i-preserved-then-is_blocked
loop-i-preserved-then-is_blocked c =
    let l = c.loop-i in
    let a = c.args in
    let p = c.tell-then-is_blocked in
    let q = c.record_at-r in
    let n : Board = record { icu = l.icu; intp = l.intp; slave = l.slave; slaveintp = l.slaveintp; timer = l.timer; dma = l.dma; kept = a.board.kept } in
    round a.board a.memory.now (take a.size a.kept ++ a.tape.now)
    (omega (arith, c.loop-i-test.true)) l.invariant.1 (p.auto.to ∙ l.invariant.2)
    l.i n _ l.memory q.result l.memory l.answers p.new.to a.answers.now _ _ _
    l.invariant.3 l.invariant.4 l.invariant.5 q.ensures (held_up n q.result l.memory l.joined l.invariant.6 l.levels l.invariant.7 _ (sym c.decode.ensures ∙ c.in-Some.is) (sym c.is_blocked.ensures ∙ c.if-is_blocked.true)) p.ensures

pub loop-i-preserved-in-Reset : goal.loop-i-preserved-in-Reset
loop-i-preserved-in-Reset c =
    let l = c.loop-i in
    let a = c.args in
    let p = c.tell-in-Reset in
    let q = c.record_at-r in
    let n : Board = record { icu = l.icu; intp = l.intp; slave = l.slave; slaveintp = l.slaveintp; timer = l.timer; dma = l.dma; kept = a.board.kept } in
    round a.board a.memory.now (take a.size a.kept ++ a.tape.now)
    (omega (arith, c.loop-i-test.true)) l.invariant.1 (p.auto.to ∙ l.invariant.2)
    l.i n _ l.memory q.result l.memory l.answers p.new.to a.answers.now _ _ _
    l.invariant.3 l.invariant.4 l.invariant.5 q.ensures (reset n q.result l.memory l.joined l.invariant.6 l.levels l.invariant.7 _ (sym c.decode.ensures ∙ c.in-Some.is) (sym c.is_blocked.ensures ∙ c.if-is_blocked.false) c.in-Reset.is _ _ _ _ c.reset-icu.ensures c.reset-slave.ensures c.reset-timer.ensures c.reset-dma.ensures) p.ensures

pub loop-i-preserved-in-Intp : goal.loop-i-preserved-in-Intp
loop-i-preserved-in-Intp c =
    let l = c.loop-i in
    let a = c.args in
    let p = c.tell-in-Intp in
    let q = c.record_at-r in
    let n : Board = record { icu = l.icu; intp = l.intp; slave = l.slave; slaveintp = l.slaveintp; timer = l.timer; dma = l.dma; kept = a.board.kept } in
    round a.board a.memory.now (take a.size a.kept ++ a.tape.now)
    (omega (arith, c.loop-i-test.true)) l.invariant.1 (p.auto.to ∙ l.invariant.2)
    l.i n _ l.memory q.result l.memory l.answers p.new.to a.answers.now _ _ _
    l.invariant.3 l.invariant.4 l.invariant.5 q.ensures (intp n q.result l.memory l.joined l.invariant.6 l.levels l.invariant.7 _ (sym c.decode.ensures ∙ c.in-Some.is) (sym c.is_blocked.ensures ∙ c.if-is_blocked.false) _ c.in-Intp.is _ c.join-now-in-Intp.ensures _ c.rewire-wired-in-Intp.ensures) p.ensures

pub loop-i-preserved-in-Gates : goal.loop-i-preserved-in-Gates
loop-i-preserved-in-Gates c =
    let l = c.loop-i in
    let a = c.args in
    let p = c.tell-in-Gates in
    let q = c.record_at-r in
    let n : Board = record { icu = l.icu; intp = l.intp; slave = l.slave; slaveintp = l.slaveintp; timer = l.timer; dma = l.dma; kept = a.board.kept } in
    round a.board a.memory.now (take a.size a.kept ++ a.tape.now)
    (omega (arith, c.loop-i-test.true)) l.invariant.1 (p.auto.to ∙ l.invariant.2)
    l.i n _ l.memory q.result l.memory l.answers p.new.to a.answers.now _ _ _
    l.invariant.3 l.invariant.4 l.invariant.5 q.ensures (gates n q.result l.memory l.joined l.invariant.6 l.levels l.invariant.7 _ (sym c.decode.ensures ∙ c.in-Some.is) (sym c.is_blocked.ensures ∙ c.if-is_blocked.false) _ c.in-Gates.is _ c.set_gates-after.ensures _ c.rewire-wired-in-Gates.ensures) p.ensures

pub loop-i-preserved-in-Requests : goal.loop-i-preserved-in-Requests
loop-i-preserved-in-Requests c =
    let l = c.loop-i in
    let a = c.args in
    let p = c.tell-in-Requests in
    let q = c.record_at-r in
    let n : Board = record { icu = l.icu; intp = l.intp; slave = l.slave; slaveintp = l.slaveintp; timer = l.timer; dma = l.dma; kept = a.board.kept } in
    round a.board a.memory.now (take a.size a.kept ++ a.tape.now)
    (omega (arith, c.loop-i-test.true)) l.invariant.1 (p.auto.to ∙ l.invariant.2)
    l.i n _ l.memory q.result l.memory l.answers p.new.to a.answers.now _ _ _
    l.invariant.3 l.invariant.4 l.invariant.5 q.ensures (requests n q.result l.memory l.joined l.invariant.6 l.levels l.invariant.7 _ (sym c.decode.ensures ∙ c.in-Some.is) (sym c.is_blocked.ensures ∙ c.if-is_blocked.false) _ c.in-Requests.is _ c.set_requests-dma.ensures) p.ensures

pub loop-i-preserved-in-SlaveIntp : goal.loop-i-preserved-in-SlaveIntp
loop-i-preserved-in-SlaveIntp c =
    let l = c.loop-i in
    let a = c.args in
    let p = c.tell-in-SlaveIntp in
    let q = c.record_at-r in
    let n : Board = record { icu = l.icu; intp = l.intp; slave = l.slave; slaveintp = l.slaveintp; timer = l.timer; dma = l.dma; kept = a.board.kept } in
    round a.board a.memory.now (take a.size a.kept ++ a.tape.now)
    (omega (arith, c.loop-i-test.true)) l.invariant.1 (p.auto.to ∙ l.invariant.2)
    l.i n _ l.memory q.result l.memory l.answers p.new.to a.answers.now _ _ _
    l.invariant.3 l.invariant.4 l.invariant.5 q.ensures (slave_intp n q.result l.memory l.joined l.invariant.6 l.levels l.invariant.7 _ (sym c.decode.ensures ∙ c.in-Some.is) (sym c.is_blocked.ensures ∙ c.if-is_blocked.false) _ c.in-SlaveIntp.is _ c.lines-after.ensures _ c.join-now-in-SlaveIntp.ensures _ c.rewire-wired-in-SlaveIntp.ensures) p.ensures

pub loop-i-preserved-then-is_passed_on : goal.loop-i-preserved-then-is_passed_on
loop-i-preserved-then-is_passed_on c =
    let l = c.loop-i in
    let a = c.args in
    let p = c.tell-then-is_passed_on in
    let q = c.record_at-r in
    let n : Board = record { icu = l.icu; intp = l.intp; slave = l.slave; slaveintp = l.slaveintp; timer = l.timer; dma = l.dma; kept = a.board.kept } in
    round a.board a.memory.now (take a.size a.kept ++ a.tape.now)
    (omega (arith, c.loop-i-test.true)) l.invariant.1 (p.auto.to ∙ l.invariant.2)
    l.i n _ l.memory q.result l.memory l.answers p.new.to a.answers.now _ _ _
    l.invariant.3 l.invariant.4 l.invariant.5 q.ensures (passed_on_law n q.result l.memory l.joined l.invariant.6 l.levels l.invariant.7 _ (sym c.decode.ensures ∙ c.in-Some.is) (sym c.is_blocked.ensures ∙ c.if-is_blocked.false) c.in-Acknowledge.is _ c.lines_at-lines-in-Acknowledge.ensures (sym c.is_passed_on.ensures ∙ c.if-is_passed_on.true) _ c.acknowledge-t.ensures _ c.join-now-then-is_passed_on.ensures _ c.serve.ensures _ c.rewire-wired-then-is_passed_on.ensures) p.ensures

pub loop-i-preserved-then-is_answered : goal.loop-i-preserved-then-is_answered
loop-i-preserved-then-is_answered c =
    let l = c.loop-i in
    let a = c.args in
    let p = c.tell-then-is_answered in
    let q = c.record_at-r in
    let n : Board = record { icu = l.icu; intp = l.intp; slave = l.slave; slaveintp = l.slaveintp; timer = l.timer; dma = l.dma; kept = a.board.kept } in
    round a.board a.memory.now (take a.size a.kept ++ a.tape.now)
    (omega (arith, c.loop-i-test.true)) l.invariant.1 (p.auto.to ∙ l.invariant.2)
    l.i n _ l.memory q.result l.memory l.answers p.new.to a.answers.now _ _ _
    l.invariant.3 l.invariant.4 l.invariant.5 q.ensures (acknowledge n q.result l.memory l.joined l.invariant.6 l.levels l.invariant.7 _ (sym c.decode.ensures ∙ c.in-Some.is) (sym c.is_blocked.ensures ∙ c.if-is_blocked.false) c.in-Acknowledge.is _ c.lines_at-lines-in-Acknowledge.ensures (sym c.is_passed_on.ensures ∙ c.if-is_passed_on.false) (sym c.is_answered.ensures ∙ c.if-is_answered.true) _ _ c.acknowledge-t-then-is_answered.ensures c.levels_at-levels-then-is_answered.ensures) p.ensures

pub loop-i-preserved-in-Acknowledge : goal.loop-i-preserved-in-Acknowledge
loop-i-preserved-in-Acknowledge c =
    let l = c.loop-i in
    let a = c.args in
    let p = c.tell-in-Acknowledge in
    let q = c.record_at-r in
    let n : Board = record { icu = l.icu; intp = l.intp; slave = l.slave; slaveintp = l.slaveintp; timer = l.timer; dma = l.dma; kept = a.board.kept } in
    round a.board a.memory.now (take a.size a.kept ++ a.tape.now)
    (omega (arith, c.loop-i-test.true)) l.invariant.1 (p.auto.to ∙ l.invariant.2)
    l.i n _ l.memory q.result l.memory l.answers p.new.to a.answers.now _ _ _
    l.invariant.3 l.invariant.4 l.invariant.5 q.ensures (unanswered n q.result l.memory l.joined l.invariant.6 l.levels l.invariant.7 _ (sym c.decode.ensures ∙ c.in-Some.is) (sym c.is_blocked.ensures ∙ c.if-is_blocked.false) c.in-Acknowledge.is _ c.lines_at-lines-in-Acknowledge.ensures (sym c.is_passed_on.ensures ∙ c.if-is_passed_on.false) (sym c.is_answered.ensures ∙ c.if-is_answered.false)) p.ensures

pub loop-i-preserved-in-Advance : goal.loop-i-preserved-in-Advance
loop-i-preserved-in-Advance c =
    let l = c.loop-i in
    let a = c.args in
    let p = c.tell-in-Advance in
    let q = c.record_at-r in
    let n : Board = record { icu = l.icu; intp = l.intp; slave = l.slave; slaveintp = l.slaveintp; timer = l.timer; dma = l.dma; kept = a.board.kept } in
    round a.board a.memory.now (take a.size a.kept ++ a.tape.now)
    (omega (arith, c.loop-i-test.true)) l.invariant.1 (p.auto.to ∙ l.invariant.2)
    l.i n _ l.memory q.result l.memory l.answers p.new.to a.answers.now _ _ _
    l.invariant.3 l.invariant.4 l.invariant.5 q.ensures (advance n q.result l.memory l.joined l.invariant.6 l.levels l.invariant.7 _ (sym c.decode.ensures ∙ c.in-Some.is) (sym c.is_blocked.ensures ∙ c.if-is_blocked.false) _ c.in-Advance.is _ _ _ c.run_pulses-a.ensures c.levels_at-levels-in-Advance.ensures c.rises_payload.ensures) p.ensures

pub loop-i-preserved-then-is_plain : goal.loop-i-preserved-then-is_plain
loop-i-preserved-then-is_plain c =
    let l = c.loop-i in
    let a = c.args in
    let p = c.tell-then-is_plain in
    let q = c.record_at-r in
    let n : Board = record { icu = l.icu; intp = l.intp; slave = l.slave; slaveintp = l.slaveintp; timer = l.timer; dma = l.dma; kept = a.board.kept } in
    round a.board a.memory.now (take a.size a.kept ++ a.tape.now)
    (omega (arith, c.loop-i-test.true)) (c.transfer-carried.auto.memory ∙ l.invariant.1) (p.auto.to ∙ l.invariant.2)
    l.i n _ l.memory q.result c.transfer-carried.new.memory l.answers p.new.to a.answers.now _ _ _
    l.invariant.3 l.invariant.4 l.invariant.5 q.ensures (plain_unit n q.result l.memory l.joined l.invariant.6 l.levels l.invariant.7 _ (sym c.decode.ensures ∙ c.in-Some.is) (sym c.is_blocked.ensures ∙ c.if-is_blocked.false) _ _ _ c.in-Cycle.is (sym c.is_plain.ensures ∙ c.if-is_plain.true) _ _ _ _ c.advance.ensures c.transfer-carried.ensures.memory c.transfer-carried.ensures.result c.moved_payload-p.ensures) p.ensures

pub loop-i-preserved : goal.loop-i-preserved
loop-i-preserved c =
    let l = c.loop-i in
    let a = c.args in
    let p = c.tell-in-Cycle in
    let q = c.record_at-r in
    let n : Board = record { icu = l.icu; intp = l.intp; slave = l.slave; slaveintp = l.slaveintp; timer = l.timer; dma = l.dma; kept = a.board.kept } in
    round a.board a.memory.now (take a.size a.kept ++ a.tape.now)
    (omega (arith, c.loop-i-test.true)) (c.cycle-cycled.auto.memory ∙ l.invariant.1) (p.auto.to ∙ l.invariant.2)
    l.i n _ l.memory q.result c.cycle-cycled.new.memory l.answers p.new.to a.answers.now _ _ _
    l.invariant.3 l.invariant.4 l.invariant.5 q.ensures (cycle_by_call n q.result l.memory l.joined l.invariant.6 l.levels l.invariant.7 _ (sym c.decode.ensures ∙ c.in-Some.is) (sym c.is_blocked.ensures ∙ c.if-is_blocked.false) _ _ _ c.in-Cycle.is _ c.cycle-cycled.result.report _ _ _ c.cycle-cycled.ensures.dma c.cycle-cycled.ensures.report c.cycle-cycled.ensures.memory c.byte_moved.ensures c.payload.ensures) p.ensures

pub loop-i-preserved-in-0 : goal.loop-i-preserved-in-0
loop-i-preserved-in-0 c =
    let l = c.loop-i in
    let a = c.args in
    let p = c.tell-in-0 in
    let q = c.record_at-r in
    let n : Board = record { icu = l.icu; intp = l.intp; slave = l.slave; slaveintp = l.slaveintp; timer = l.timer; dma = l.dma; kept = a.board.kept } in
    round a.board a.memory.now (take a.size a.kept ++ a.tape.now)
    (omega (arith, c.loop-i-test.true)) l.invariant.1 (p.auto.to ∙ l.invariant.2)
    l.i n _ l.memory q.result l.memory l.answers p.new.to a.answers.now _ _ _
    l.invariant.3 l.invariant.4 l.invariant.5 q.ensures (wrote_icu n q.result l.memory l.joined l.invariant.6 l.levels l.invariant.7 _ (sym c.decode.ensures ∙ c.in-Some.is) (sym c.is_blocked.ensures ∙ c.if-is_blocked.false) _ _ c.in-Write.is c.in-0.is _ _ c.write_icu-t.ensures c.levels_at-levels.ensures) p.ensures

pub loop-i-preserved-in-Ok : goal.loop-i-preserved-in-Ok
loop-i-preserved-in-Ok c =
    let l = c.loop-i in
    let a = c.args in
    let p = c.tell-in-Ok in
    let q = c.record_at-r in
    let n : Board = record { icu = l.icu; intp = l.intp; slave = l.slave; slaveintp = l.slaveintp; timer = l.timer; dma = l.dma; kept = a.board.kept } in
    round a.board a.memory.now (take a.size a.kept ++ a.tape.now)
    (omega (arith, c.loop-i-test.true)) l.invariant.1 (p.auto.to ∙ l.invariant.2)
    l.i n _ l.memory q.result l.memory l.answers p.new.to a.answers.now _ _ _
    l.invariant.3 l.invariant.4 l.invariant.5 q.ensures (wrote_timer n q.result l.memory l.joined l.invariant.6 l.levels l.invariant.7 _ (sym c.decode.ensures ∙ c.in-Some.is) (sym c.is_blocked.ensures ∙ c.if-is_blocked.false) _ _ c.in-Write.is c.in-1.is _ c.write.ensures _ c.in-Ok.is _ c.rewire-wired.ensures) p.ensures

pub loop-i-preserved-in-Err : goal.loop-i-preserved-in-Err
loop-i-preserved-in-Err c =
    let l = c.loop-i in
    let a = c.args in
    let p = c.tell-in-Err in
    let q = c.record_at-r in
    let n : Board = record { icu = l.icu; intp = l.intp; slave = l.slave; slaveintp = l.slaveintp; timer = l.timer; dma = l.dma; kept = a.board.kept } in
    round a.board a.memory.now (take a.size a.kept ++ a.tape.now)
    (omega (arith, c.loop-i-test.true)) l.invariant.1 (p.auto.to ∙ l.invariant.2)
    l.i n _ l.memory q.result l.memory l.answers p.new.to a.answers.now _ _ _
    l.invariant.3 l.invariant.4 l.invariant.5 q.ensures (refused_timer n q.result l.memory l.joined l.invariant.6 l.levels l.invariant.7 _ (sym c.decode.ensures ∙ c.in-Some.is) (sym c.is_blocked.ensures ∙ c.if-is_blocked.false) _ _ c.in-Write.is c.in-1.is _ c.write.ensures _ c.in-Err.is _ c.status.ensures) p.ensures

pub loop-i-preserved-in-Ok-write : goal.loop-i-preserved-in-Ok-write
loop-i-preserved-in-Ok-write c =
    let l = c.loop-i in
    let a = c.args in
    let p = c.tell-in-Ok-write in
    let q = c.record_at-r in
    let n : Board = record { icu = l.icu; intp = l.intp; slave = l.slave; slaveintp = l.slaveintp; timer = l.timer; dma = l.dma; kept = a.board.kept } in
    round a.board a.memory.now (take a.size a.kept ++ a.tape.now)
    (omega (arith, c.loop-i-test.true)) l.invariant.1 (p.auto.to ∙ l.invariant.2)
    l.i n _ l.memory q.result l.memory l.answers p.new.to a.answers.now _ _ _
    l.invariant.3 l.invariant.4 l.invariant.5 q.ensures (wrote_dma n q.result l.memory l.joined l.invariant.6 l.levels l.invariant.7 _ (sym c.decode.ensures ∙ c.in-Some.is) (sym c.is_blocked.ensures ∙ c.if-is_blocked.false) _ _ c.in-Write.is c.in-2.is _ c.write-in-2.ensures _ c.in-Ok-write.is) p.ensures

pub loop-i-preserved-in-Err-write : goal.loop-i-preserved-in-Err-write
loop-i-preserved-in-Err-write c =
    let l = c.loop-i in
    let a = c.args in
    let p = c.tell-in-Err-write in
    let q = c.record_at-r in
    let n : Board = record { icu = l.icu; intp = l.intp; slave = l.slave; slaveintp = l.slaveintp; timer = l.timer; dma = l.dma; kept = a.board.kept } in
    round a.board a.memory.now (take a.size a.kept ++ a.tape.now)
    (omega (arith, c.loop-i-test.true)) l.invariant.1 (p.auto.to ∙ l.invariant.2)
    l.i n _ l.memory q.result l.memory l.answers p.new.to a.answers.now _ _ _
    l.invariant.3 l.invariant.4 l.invariant.5 q.ensures (refused_dma n q.result l.memory l.joined l.invariant.6 l.levels l.invariant.7 _ (sym c.decode.ensures ∙ c.in-Some.is) (sym c.is_blocked.ensures ∙ c.if-is_blocked.false) _ _ c.in-Write.is c.in-2.is _ c.write-in-2.ensures _ c.in-Err-write.is _ c.status-in-Err-write.ensures) p.ensures

pub loop-i-preserved-then-t-eq0 : goal.loop-i-preserved-then-t-eq0
loop-i-preserved-then-t-eq0 c =
    let l = c.loop-i in
    let a = c.args in
    let p = c.tell-then-t-eq0 in
    let q = c.record_at-r in
    let n0 : c.in-Write.port / 16 ≢ 0 = omega arith in
    let n1 : c.in-Write.port / 16 ≢ 1 = omega arith in
    let n2 : c.in-Write.port / 16 ≢ 2 = omega arith in
    let n : Board = record { icu = l.icu; intp = l.intp; slave = l.slave; slaveintp = l.slaveintp; timer = l.timer; dma = l.dma; kept = a.board.kept } in
    round a.board a.memory.now (take a.size a.kept ++ a.tape.now)
    (omega (arith, c.loop-i-test.true)) l.invariant.1 (p.auto.to ∙ l.invariant.2)
    l.i n _ l.memory q.result l.memory l.answers p.new.to a.answers.now _ _ _
    l.invariant.3 l.invariant.4 l.invariant.5 q.ensures (wrote_slave n q.result l.memory l.joined l.invariant.6 l.levels l.invariant.7 _ (sym c.decode.ensures ∙ c.in-Some.is) (sym c.is_blocked.ensures ∙ c.if-is_blocked.false) _ _ c.in-Write.is n0 n1 n2 _ c.write_icu-t-in_default-2.ensures c.if-t-eq0.true _ c.join-now.ensures _ c.rewire-wired-then-t-eq0.ensures) p.ensures

pub loop-i-preserved-in_default-2 : goal.loop-i-preserved-in_default-2
loop-i-preserved-in_default-2 c =
    let l = c.loop-i in
    let a = c.args in
    let p = c.tell-in_default-2 in
    let q = c.record_at-r in
    let n0 : c.in-Write.port / 16 ≢ 0 = omega arith in
    let n1 : c.in-Write.port / 16 ≢ 1 = omega arith in
    let n2 : c.in-Write.port / 16 ≢ 2 = omega arith in
    let n : Board = record { icu = l.icu; intp = l.intp; slave = l.slave; slaveintp = l.slaveintp; timer = l.timer; dma = l.dma; kept = a.board.kept } in
    round a.board a.memory.now (take a.size a.kept ++ a.tape.now)
    (omega (arith, c.loop-i-test.true)) l.invariant.1 (p.auto.to ∙ l.invariant.2)
    l.i n _ l.memory q.result l.memory l.answers p.new.to a.answers.now _ _ _
    l.invariant.3 l.invariant.4 l.invariant.5 q.ensures (refused_slave n q.result l.memory l.joined l.invariant.6 l.levels l.invariant.7 _ (sym c.decode.ensures ∙ c.in-Some.is) (sym c.is_blocked.ensures ∙ c.if-is_blocked.false) _ _ c.in-Write.is n0 n1 n2 _ c.write_icu-t-in_default-2.ensures c.if-t-eq0.false) p.ensures

pub loop-i-preserved-in-0-2 : goal.loop-i-preserved-in-0-2
loop-i-preserved-in-0-2 c =
    let l = c.loop-i in
    let a = c.args in
    let p = c.tell-in-0-2 in
    let q = c.record_at-r in
    let n : Board = record { icu = l.icu; intp = l.intp; slave = l.slave; slaveintp = l.slaveintp; timer = l.timer; dma = l.dma; kept = a.board.kept } in
    round a.board a.memory.now (take a.size a.kept ++ a.tape.now)
    (omega (arith, c.loop-i-test.true)) l.invariant.1 (p.auto.to ∙ l.invariant.2)
    l.i n _ l.memory q.result l.memory l.answers p.new.to a.answers.now _ _ _
    l.invariant.3 l.invariant.4 l.invariant.5 q.ensures (read_icu n q.result l.memory l.joined l.invariant.6 l.levels l.invariant.7 _ (sym c.decode.ensures ∙ c.in-Some.is) (sym c.is_blocked.ensures ∙ c.if-is_blocked.false) _ c.in-Read.is c.in-0-2.is _ c.lines_at-lines.ensures _ c.read_icu-t.ensures) p.ensures

pub loop-i-preserved-in-Ok-look : goal.loop-i-preserved-in-Ok-look
loop-i-preserved-in-Ok-look c =
    let l = c.loop-i in
    let a = c.args in
    let p = c.tell-in-Ok-look in
    let q = c.record_at-r in
    let n : Board = record { icu = l.icu; intp = l.intp; slave = l.slave; slaveintp = l.slaveintp; timer = l.timer; dma = l.dma; kept = a.board.kept } in
    round a.board a.memory.now (take a.size a.kept ++ a.tape.now)
    (omega (arith, c.loop-i-test.true)) l.invariant.1 (p.auto.to ∙ l.invariant.2)
    l.i n _ l.memory q.result l.memory l.answers p.new.to a.answers.now _ _ _
    l.invariant.3 l.invariant.4 l.invariant.5 q.ensures (read_timer n q.result l.memory l.joined l.invariant.6 l.levels l.invariant.7 _ (sym c.decode.ensures ∙ c.in-Some.is) (sym c.is_blocked.ensures ∙ c.if-is_blocked.false) _ c.in-Read.is c.in-1-2.is (read_counter q.result _ (search rules) (sym c.decode.ensures ∙ c.in-Some.is ∙ ap (λ (x : Operation). Some x) c.in-Read.is) (eq-eqb _ _ c.in-1-2.is)) _ refl _ c.look.ensures _ c.in-Ok-look.is) p.ensures

pub loop-i-preserved-in-Err-look : goal.loop-i-preserved-in-Err-look
loop-i-preserved-in-Err-look c =
    let l = c.loop-i in
    let a = c.args in
    let p = c.tell-in-Err-look in
    let q = c.record_at-r in
    let n : Board = record { icu = l.icu; intp = l.intp; slave = l.slave; slaveintp = l.slaveintp; timer = l.timer; dma = l.dma; kept = a.board.kept } in
    round a.board a.memory.now (take a.size a.kept ++ a.tape.now)
    (omega (arith, c.loop-i-test.true)) l.invariant.1 (p.auto.to ∙ l.invariant.2)
    l.i n _ l.memory q.result l.memory l.answers p.new.to a.answers.now _ _ _
    l.invariant.3 l.invariant.4 l.invariant.5 q.ensures (unread_timer n q.result l.memory l.joined l.invariant.6 l.levels l.invariant.7 _ (sym c.decode.ensures ∙ c.in-Some.is) (sym c.is_blocked.ensures ∙ c.if-is_blocked.false) _ c.in-Read.is c.in-1-2.is (read_counter q.result _ (search rules) (sym c.decode.ensures ∙ c.in-Some.is ∙ ap (λ (x : Operation). Some x) c.in-Read.is) (eq-eqb _ _ c.in-1-2.is)) _ refl _ c.look.ensures _ c.in-Err-look.is _ c.status-in-Err-look.ensures) p.ensures

pub loop-i-preserved-in-Ok-look-2 : goal.loop-i-preserved-in-Ok-look-2
loop-i-preserved-in-Ok-look-2 c =
    let l = c.loop-i in
    let a = c.args in
    let p = c.tell-in-Ok-look-2 in
    let q = c.record_at-r in
    let n : Board = record { icu = l.icu; intp = l.intp; slave = l.slave; slaveintp = l.slaveintp; timer = l.timer; dma = l.dma; kept = a.board.kept } in
    round a.board a.memory.now (take a.size a.kept ++ a.tape.now)
    (omega (arith, c.loop-i-test.true)) l.invariant.1 (p.auto.to ∙ l.invariant.2)
    l.i n _ l.memory q.result l.memory l.answers p.new.to a.answers.now _ _ _
    l.invariant.3 l.invariant.4 l.invariant.5 q.ensures (read_dma n q.result l.memory l.joined l.invariant.6 l.levels l.invariant.7 _ (sym c.decode.ensures ∙ c.in-Some.is) (sym c.is_blocked.ensures ∙ c.if-is_blocked.false) _ c.in-Read.is c.in-2-2.is _ c.look-in-2-2.ensures _ c.in-Ok-look-2.is) p.ensures

pub loop-i-preserved-in-Err-look-2 : goal.loop-i-preserved-in-Err-look-2
loop-i-preserved-in-Err-look-2 c =
    let l = c.loop-i in
    let a = c.args in
    let p = c.tell-in-Err-look-2 in
    let q = c.record_at-r in
    let n : Board = record { icu = l.icu; intp = l.intp; slave = l.slave; slaveintp = l.slaveintp; timer = l.timer; dma = l.dma; kept = a.board.kept } in
    round a.board a.memory.now (take a.size a.kept ++ a.tape.now)
    (omega (arith, c.loop-i-test.true)) l.invariant.1 (p.auto.to ∙ l.invariant.2)
    l.i n _ l.memory q.result l.memory l.answers p.new.to a.answers.now _ _ _
    l.invariant.3 l.invariant.4 l.invariant.5 q.ensures (unread_dma n q.result l.memory l.joined l.invariant.6 l.levels l.invariant.7 _ (sym c.decode.ensures ∙ c.in-Some.is) (sym c.is_blocked.ensures ∙ c.if-is_blocked.false) _ c.in-Read.is c.in-2-2.is _ c.look-in-2-2.ensures _ c.in-Err-look-2.is _ c.status-in-Err-look-2.ensures) p.ensures

pub loop-i-preserved-in_default-3 : goal.loop-i-preserved-in_default-3
loop-i-preserved-in_default-3 c =
    let l = c.loop-i in
    let a = c.args in
    let p = c.tell-in_default-3 in
    let q = c.record_at-r in
    let n0 : c.in-Read.port / 16 ≢ 0 = omega arith in
    let n1 : c.in-Read.port / 16 ≢ 1 = omega arith in
    let n2 : c.in-Read.port / 16 ≢ 2 = omega arith in
    let n : Board = record { icu = l.icu; intp = l.intp; slave = l.slave; slaveintp = l.slaveintp; timer = l.timer; dma = l.dma; kept = a.board.kept } in
    round a.board a.memory.now (take a.size a.kept ++ a.tape.now)
    (omega (arith, c.loop-i-test.true)) l.invariant.1 (p.auto.to ∙ l.invariant.2)
    l.i n _ l.memory q.result l.memory l.answers p.new.to a.answers.now _ _ _
    l.invariant.3 l.invariant.4 l.invariant.5 q.ensures (read_slave n q.result l.memory l.joined l.invariant.6 l.levels l.invariant.7 _ (sym c.decode.ensures ∙ c.in-Some.is) (sym c.is_blocked.ensures ∙ c.if-is_blocked.false) _ c.in-Read.is n0 n1 n2 _ c.read_icu-t-in_default-3.ensures) p.ensures

pub shape_of-memory : goal.shape_of-memory
shape_of-memory c = c.loop-i.invariant.1

pub shape_of-answers : goal.shape_of-answers
shape_of-answers c = c.loop-i.invariant.2

pub returns : goal.returns
returns c =
    let l = c.loop-i in
    let a = c.args in
    let k : c.min-k.result ≡ fitting (take a.size a.kept ++ a.tape.now) (length a.answers.now) = c.min-k.ensures ∙ rw c.count_bytes.ensures (least _ _) in
    let e : l.i ≡ fitting (take a.size a.kept ++ a.tape.now) (length a.answers.now) = omega (arith, l.invariant.0, c.loop-i-test.false, k)
    in record { result = rw (← e) l.invariant.3; memory = rw (← e) l.invariant.4; answers = rw (← e) l.invariant.5 }
