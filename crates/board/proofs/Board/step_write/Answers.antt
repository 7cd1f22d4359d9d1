use Prim.Native.Nat.{◌/◌}
use mathlib.Core.Logic.{◌≢◌}
use native.Mathlib.Omega.{arith}
use borrow.Author.Tests.{ne_eqb}
use Rattle.board.specs.Step.{answered_of}
use Rattle.board.specs.Operations.{write_of}
use Rattle.board.proofs.Board.step_write.Goals as goal

pub returns-in-0 : goal.returns-in-0
unfolding write_of answered_of
returns-in-0 c = rw (c.write_master.ensures, c.in-0.is)

pub returns-in-1 : goal.returns-in-1
unfolding write_of answered_of
returns-in-1 c = rw (c.write_timer.ensures, c.in-1.is)

pub returns-in-2 : goal.returns-in-2
unfolding write_of answered_of
returns-in-2 c = rw (c.write_dma.ensures, c.in-2.is)

pub returns-in_default : goal.returns-in_default
unfolding write_of answered_of
returns-in_default c =
    let n0 : c.args.port / 16 ≢ 0 = omega arith in
    let n1 : c.args.port / 16 ≢ 1 = omega arith in
    let n2 : c.args.port / 16 ≢ 2 = omega arith in
    rw (c.write_slave.ensures, ne_eqb _ _ n0, ne_eqb _ _ n1, ne_eqb _ _ n2)
